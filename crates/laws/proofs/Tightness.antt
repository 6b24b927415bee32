-- Where the marks meet the rules, no covered cell steers a run or reaches an uncovered cell.
use Rattle.std.proofs.Common.{◌≡◌, ℕ, zero, suc, ◌+◌, Bool, true, false, ◌||◌, ◌⊎◌, List, [], ◌∷◌, ◌++◌, length, refl, inl, inr, arith}
use Rattle.std.specs.List.{AllByRecursion as All}
use Rattle.std.proofs.ByRecursion.{All-append}
use Rattle.std.proofs.lemmas.Bool.{both_ways, true≢false, or_parts}
use Rattle.sheet.specs.Code.{Code, stop, work, literal, choose, repeat, size_of}
use Rattle.marking.specs.Rules.{AtLeast, AtLeastAll, Follows}
use Rattle.onepath.specs.Cover.{loop_covered, level_in, loops_in}
use Rattle.onepath.specs.Own.{if_head, if_middle, loop_head, loop_test, loop_back, loop_end}
use Rattle.onepath.specs.Listed.{steps_of}
use Rattle.onepath.specs.Holds.{step_at}
use Rattle.onepath.specs.declared.steps.Step.{Step}
use Rattle.onepath.specs.declared.steps.Step.TheVariants.{Work, Literal, Ask, Turn, Setout, Narrow, Again, Close, Branch, Jump, Enter, Test}

-- A step that writes to an uncovered cell is at level 0 and reads only uncovered cells, and a step that tests a cell
-- to choose the next place tests an uncovered one.
abbrev pub Tight : (ℕ → Bool) → Step → Type 0
Tight covered (Work k t o a b) = (covered t ≡ true) ⊎ ((covered a ≡ false) × (covered b ≡ false) × (k ≡ 0))
Tight covered (Literal k t n) = (covered t ≡ true) ⊎ (k ≡ 0)
Tight covered (Ask k x) = Unit {0}
Tight covered (Turn k) = Unit {0}
Tight covered (Setout k) = Unit {0}
Tight covered (Narrow k x) = Unit {0}
Tight covered (Again k n i) = Unit {0}
Tight covered (Close k x l) = Unit {0}
Tight covered (Branch x i) = covered x ≡ false
Tight covered (Jump i) = Unit {0}
Tight covered (Enter d) = Unit {0}
Tight covered (Test d x n i l) = covered x ≡ false

-- a mark that is at least another is yes, or the other is no
at_least : (x y : Bool) → AtLeast ◌||◌ x y → (x ≡ true) ⊎ (y ≡ false)
at_least true y h = inl refl
at_least false y h = inr h

module _ (covered : ℕ → Bool) where
  -- whatever the conditions around a block at level k reach is covered, unless the level is 0
  abbrev Reached : ℕ → List ℕ → Type 0
  Reached k around = (y : Bool) → AtLeastAll ◌||◌ covered y around → (y ≡ true) ⊎ (k ≡ 0)

  module _ (x : ℕ) (around : List ℕ) where
    -- inside a covered condition, at any level
    reached_covered : (k : ℕ) → covered x ≡ true → Reached k (x ∷ around)
    reached_covered k c y (h, _) = elim (at_least y (covered x) h) [ inl t ↦ inl t | inr f ↦ absurd (both_ways (covered x) f c) ]

    reached_if : (b : Bool) (k : ℕ) → covered x ≡ b → Reached k around → Reached (level_in b k) (x ∷ around)
    reached_if true k c s y h = reached_covered (k + 1) c y h
    reached_if false k c s y (_, h) = s y h

    reached_loop : (b : Bool) (k : ℕ) → loop_covered covered k x ≡ b → Reached k around → Reached (level_in b k) (x ∷ around)
    reached_loop true zero c s y h = reached_covered 1 c y h
    reached_loop true (suc k) c s y (_, h) = elim (s y h) [ inl t ↦ inl t | inr z ↦ absurd (omega arith) ]
    reached_loop false k c s y (_, h) = s y h

  -- an open loop's cell is not covered
  open_loop : (k x : ℕ) → loop_covered covered k x ≡ false → covered x ≡ false
  open_loop zero x c = c
  open_loop (suc k) x c = absurd (true≢false c)

  tight_work : (k t o a b : ℕ) (around : List ℕ) → Reached k around → AtLeast ◌||◌ (covered t) (covered a || covered b) → AtLeastAll ◌||◌ covered (covered t) around → Tight covered (Work k t o a b)
  tight_work k t o a b around s h g =
      elim (s (covered t) g) [
        | inl c ↦ inl c
        | inr z ↦ elim (at_least (covered t) (covered a || covered b) h) [ inl c ↦ inl c | inr f ↦ let p = or_parts (covered a) (covered b) f in inr (p.0, p.1, z) ]
      ]

  -- the steps that a construct has of its own
  tight_if : (b : Bool) (k x i : ℕ) → covered x ≡ b → Tight covered (if_head b k x i)
  tight_if true k x i c = tt
  tight_if false k x i c = c

  tight_middle : (b : Bool) (k i : ℕ) → Tight covered (if_middle b k i)
  tight_middle true k i = tt
  tight_middle false k i = tt

  tight_loop : (b : Bool) (k d : ℕ) → Tight covered (loop_head b k d)
  tight_loop true k d = tt
  tight_loop false k d = tt

  tight_test : (b : Bool) (k m d x n i l : ℕ) → loop_covered covered k x ≡ b → Tight covered (loop_test b m d x n i l)
  tight_test true k m d x n i l c = tt
  tight_test false k m d x n i l c = open_loop k x c

  tight_back : (b : Bool) (k n i : ℕ) → Tight covered (loop_back b k n i)
  tight_back true k n i = tt
  tight_back false k n i = tt

  tight_end : (b : Bool) (k x l : ℕ) → All (Tight covered) (loop_end b k x l)
  tight_end true k x l = (tt, tt)
  tight_end false k x l = tt

  tight_steps : (code : Code) (k d l i : ℕ) (around : List ℕ) → Reached k around → Follows ◌||◌ covered around code → All (Tight covered) (steps_of covered k d l i code)
  tight_steps stop k d l i around s f = tt
  tight_steps (work t o a b r) k d l i around s (h, g, f) = (tight_work k t o a b around s h g, tight_steps r k d (l + 1) (i + 1) around s f)
  tight_steps (literal t n r) k d l i around s (g, f) = (s (covered t) g, tight_steps r k d (l + 1) (i + 1) around s f)
  tight_steps (choose x p q r) k d l i around s (f, g, h) =
      let b = covered x in
      let own = level_in b k in
      let inside = reached_if x around b k refl s in
      let else = l + 1 + size_of p in
      let end = else + 1 + size_of q in
      let ps = steps_of covered own d (l + 1) (i + 1) p in
      let m = i + 1 + length ps in
      let qs = steps_of covered own d (else + 1) (m + 1) q in
      let j = m + 1 + length qs in
      let rs = steps_of covered k d (end + 1) j r in (
        tight_if b own x (m + 1) refl,
        All-append (Tight covered) ps (if_middle b own j ∷ (qs ++ rs)) (tight_steps p own d (l + 1) (i + 1) (x ∷ around) inside f) (
          tight_middle b own j,
          All-append (Tight covered) qs rs (tight_steps q own d (else + 1) (m + 1) (x ∷ around) inside g) (tight_steps r k d (end + 1) j around s h),
        ),
      )
  tight_steps (repeat x n p r) k d l i around s (f, h) =
      let b = loop_covered covered k x in
      let own = level_in b k in
      let end = l + 1 + size_of p in
      let ps = steps_of covered own (loops_in b d) (l + 1) (i + 2) p in
      let m = i + 2 + length ps in
      let es = loop_end b own x l in
      let j = m + 1 + length es in
      let rs = steps_of covered k d (end + 1) j r in (
        tight_loop b own d,
        (
          tight_test b k own d x n (m + 1) l refl,
          All-append (Tight covered) ps (loop_back b own n (i + 1) ∷ (es ++ rs)) (tight_steps p own (loops_in b d) (l + 1) (i + 2) (x ∷ around) (reached_loop x around b k refl s) f)
              (tight_back b own n (i + 1), All-append (Tight covered) es rs (tight_end b own x l) (tight_steps r k d (end + 1) j around s h)),
        ),
      )

  all_at : (ts : List Step) (i : ℕ) → All (Tight covered) ts → Tight covered (step_at ts i)
  all_at [] i a = tt
  all_at (t ∷ ts) zero (a, _) = a
  all_at (t ∷ ts) (suc i) (_, a) = all_at ts i a

  -- each step of a sheet is tight
  pub tight_at : (code : Code) → Follows ◌||◌ covered [] code → (i : ℕ) → Tight covered (step_at (steps_of covered 0 0 0 0 code) i)
  tight_at code f i = all_at (steps_of covered 0 0 0 0 code) i (tight_steps code 0 0 0 0 [] (λ y h. inr refl) f)
