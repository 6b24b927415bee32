-- Two runs whose uncovered cells are alike go in lockstep.
use Rattle.std.proofs.Common.{◌≡◌, ℕ, zero, suc, Bool, true, false, cond, ◌||◌, eqb, leb, List, map, length, get_or, set, is_some, Option, sym, refl, ap, ◌∙◌, inl, inr}
use Rattle.std.proofs.Math.ListN.{get_or-map}
use Rattle.std.proofs.lemmas.List.{length-set, get_or-set_same, get_or-set_other, set-get_or, map-set, set_past}
use Rattle.std.proofs.lemmas.Bool.{both_ways, cases_eq, cases_lt}
use Rattle.onepath.specs.Holds.{step_at}
use Rattle.onepath.specs.Listed.{steps_of}
use Rattle.onepath.specs.declared.steps.Step.{Step}
use Rattle.onepath.specs.declared.steps.Step.TheVariants.{Work, Literal, Ask, Turn, Setout, Narrow, Again, Close, Branch, Jump, Enter, Test}
use Rattle.run.specs.Values.{Values, is_true}
use Rattle.run.specs.Machine.{State, at, act, next, steps, fresh, no_level, counter_at, loop_at, put_level, flagged, guarded, counted, counted_on}
use Rattle.laws.specs.Laws.{Alike, Lockstep}
use Rattle.run.specs.declared.registers.Registers.{Registers}
use Rattle.laws.proofs.Tightness.{Tight, tight_at}

-- a write of the same to both lists
set_both : (w u : List ℕ) (t y x e : ℕ) → length w ≡ length u → get_or w x e ≡ get_or u x e → get_or (set w t y) x e ≡ get_or (set u t y) x e
set_both w u t y x e l h =
    elim (cases_eq x t) [
      | inl p ↦ elim (cases_lt t (length w)) [
        | inl q ↦ rw (p, get_or-set_same w t y e q, get_or-set_same u t y e (rw l at q))
        | inr q ↦ rw (set_past w t y q, set_past u t y (rw l at q)) h
      ]
      | inr n ↦ get_or-set_other w t x y e n ∙ h ∙ sym (get_or-set_other u t x y e n)
    ]

-- how many passes each level has counted
abbrev passes_of : Registers → List ℕ
passes_of r = map (λ x. x.passes) r.levels

counter_in : (r : Registers) (k : ℕ) → counter_at r k ≡ get_or (passes_of r) k 0
counter_in r k = sym (get_or-map (λ x. x.passes) r.levels k no_level)

-- a flag or a guard that is set leaves them alone
same_passes : (r : Registers) (k : ℕ) (b c : Bool) → passes_of (put_level r k (record { flag = b; guard = c; passes = counter_at r k })) ≡ passes_of r
same_passes r k b c =
    map-set (λ x. x.passes) r.levels k _ ∙ ap (set (passes_of r) k) (counter_in r k) ∙ set-get_or (passes_of r) k 0

-- what two runs have in common: their flags, guards and latches may differ
pub record Together (covered : ℕ → Bool) (s t : State) : Type 0 where
  pub place : s.track.place ≡ t.track.place
  pub broken : s.track.broken ≡ t.track.broken
  pub passes : passes_of s.track.registers ≡ passes_of t.track.registers
  pub loops : s.track.registers.loops ≡ t.track.registers.loops
  pub cells : Alike covered s.cells t.cells

-- passes that each run counts
counted-alike : (r q : Registers) (k n : ℕ) → passes_of r ≡ passes_of q → passes_of (counted r k n) ≡ passes_of (counted q k n)
counted-alike r q k n e = map-set (λ x. x.passes) r.levels k _ ∙ ap (λ xs. set xs k n) e ∙ sym (map-set (λ x. x.passes) q.levels k _)

module _ (covered : ℕ → Bool) where
  -- a write to a covered cell keeps the others alike
  alike_left : (w u : List ℕ) (t y : ℕ) → covered t ≡ true → Alike covered w u → Alike covered (set w t y) u
  alike_left w u t y c (l, a) =
      (length-set w t y ∙ l, λ x f e. get_or-set_other w t x y e (λ p. both_ways (covered t) (rw p at f) c) ∙ a x f e)

  alike_flip : (w u : List ℕ) → Alike covered w u → Alike covered u w
  alike_flip w u (l, a) = (sym l, λ x f e. sym (a x f e))

  alike_right : (w u : List ℕ) (t y : ℕ) → covered t ≡ true → Alike covered w u → Alike covered w (set u t y)
  alike_right w u t y c a = alike_flip (set u t y) w (alike_left u w t y c (alike_flip w u a))

  alike_covered : (w u : List ℕ) (t y z : ℕ) (b c : Bool) → covered t ≡ true → Alike covered w u → Alike covered (cond b (set w t y) w) (cond c (set u t z) u)
  alike_covered w u t y z true true h a = alike_left w (set u t z) t y h (alike_right w u t z h a)
  alike_covered w u t y z true false h a = alike_left w u t y h a
  alike_covered w u t y z false true h a = alike_right w u t z h a
  alike_covered w u t y z false false h a = a

  -- and so does the same write to both
  pub alike_same : (w u : List ℕ) (t y z : ℕ) → y ≡ z → Alike covered w u → Alike covered (set w t y) (set u t z)
  alike_same w u t y z q (l, a) = rw q (length-set w t z ∙ l ∙ sym (length-set u t z), λ x f e. set_both w u t z x e l (a x f e))

  together_by : (b : Bool) {s t x y : State} → Together covered s t → Together covered x y → Together covered (cond b s x) (cond b t y)
  together_by true p q = p
  together_by false p q = q

  together_at : {i : ℕ} {r q : Registers} {h g : Option ℕ} {w u : List ℕ} → passes_of r ≡ passes_of q → r.loops ≡ q.loops → Alike covered w u → Together covered (at i r h w) (at i q g u)
  together_at cs ls a = record { place = refl; broken = refl; passes = cs; loops = ls; cells = a }

  module _ (v : Values) where
    module _ (i : ℕ) (r q : Registers) (h g : Option ℕ) (w u : List ℕ) (cs : passes_of r ≡ passes_of q) (ls : r.loops ≡ q.loops) (al : Alike covered w u) where
      same-cell : (x : ℕ) → covered x ≡ false → get_or w x (v.literally 0) ≡ get_or u x (v.literally 0)
      same-cell x c = al.1 x c (v.literally 0)

      same_test : (x : ℕ) → covered x ≡ false → is_true v w x ≡ is_true v u x
      same_test x c = ap v.holds (same-cell x c)

      -- a flag and a guard that each run sets
      asked : (k : ℕ) (b c y z : Bool) → passes_of (guarded (flagged r k b) k c) ≡ passes_of (guarded (flagged q k y) k z)
      asked k b c y z =
          same_passes (flagged r k b) k _ c ∙ same_passes r k b _ ∙ cs ∙ sym (same_passes (flagged q k y) k _ z ∙ same_passes q k y _)

      -- the same tight step
      together-act : (o : Step) → Tight covered o → Together covered (act v o i r h w) (act v o i q g u)
      together-act (Work k t o a b) (inl c) = together_at cs ls (alike_covered w u t _ _ _ _ c al)
      together-act (Work k t o a b) (inr (ca, cb, z)) = rw z (together_at cs ls (alike_same w u t _ _ (rw (same-cell a ca, same-cell b cb)) al))
      together-act (Literal k t n) (inl c) = together_at cs ls (alike_covered w u t _ _ _ _ c al)
      together-act (Literal k t n) (inr z) = rw z (together_at cs ls (alike_same w u t _ _ refl al))
      together-act (Ask k x) _ = together_at (asked k _ _ _ _) ls al
      together-act (Turn k) _ = together_at (same_passes r k _ _ ∙ cs ∙ sym (same_passes q k _ _)) ls al
      together-act (Setout k) _ = together_at (counted-alike (flagged r k true) (flagged q k true) k 0 (same_passes r k _ _ ∙ cs ∙ sym (same_passes q k _ _))) ls al
      together-act (Narrow k x) _ = together_at (asked k _ _ _ _) ls al
      together-act (Again k n j) _ =
          let e : counter_at r k ≡ counter_at q k = counter_in r k ∙ ap (λ xs. get_or xs k 0) cs ∙ sym (counter_in q k) in
          rw e (together_at (counted-alike r q k (counted_on (counter_at q k)) cs) ls al)
      together-act (Close k x l) _ = together_at cs ls al
      together-act (Branch x j) c = rw (same_test x c) (together_at cs ls al)
      together-act (Jump j) _ = together_at cs ls al
      together-act (Enter d) _ = together_at cs (rw ls) al
      together-act (Test d x n j l) c =
          rw (same_test x c, ls)
          (together_by (is_true v u x)
          (together_by (eqb (loop_at q d) n) (record { place = refl; broken = refl; passes = cs; loops = refl; cells = al }) (together_at cs refl al))
          (together_at cs refl al))

    module _ (ts : List Step) (tight : (i : ℕ) → Tight covered (step_at ts i)) where
      together-next : (s t : State) → Together covered s t → Together covered (next v ts s) (next v ts t)
      together-next s t e =
          let i = t.track.place in
          rw (e.place, e.broken)
          (together_by (is_some t.track.broken || leb (length ts) i)
          (record { place = refl; broken = refl; passes = e.passes; loops = e.loops; cells = e.cells })
          (together-act i s.track.registers t.track.registers s.track.latch t.track.latch s.cells t.cells e.passes e.loops e.cells (step_at ts i) (tight i)))

      together-steps : (n : ℕ) (s t : State) → Together covered s t → Together covered (steps v ts n s) (steps v ts n t)
      together-steps zero s t e = e
      together-steps (suc n) s t e = together-steps n (next v ts s) (next v ts t) (together-next s t e)

pub lockstep : Lockstep
lockstep v covered code f w u a n =
    let start : Together covered (fresh w) (fresh u) = record { place = refl; broken = refl; passes = refl; loops = refl; cells = a } in
    let e = together-steps covered v (steps_of covered 0 0 0 0 code) (tight_at covered code f) n (fresh w) (fresh u) start in
    (e.place, e.broken, e.cells)
