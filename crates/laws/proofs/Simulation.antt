-- On the table of a code's steps the machine follows the code's walk.
use Rattle.std.proofs.Common.{◌≡◌, ℕ, zero, suc, ◌+◌, ◌-◌, ◌*◌, ◌<◌, ◌≤◌, Bool, true, false, cond, not, ◌&&◌, ltb, List, [], ◌∷◌, length, Option, ◌∙◌, subst, le_refl, suc-mul, arith}
use Rattle.std.proofs.lemmas.Bool.{lt-ltb, le-ltb, eq-eqb, ne_eqb}
use Rattle.sheet.specs.Code.{Code, stop, work, literal, choose, repeat, size_of, Keeps}
use Rattle.onepath.specs.Cover.{loop_covered, level_in, loops_in}
use Rattle.onepath.specs.Own.{if_head, if_middle, loop_head, loop_test, loop_back}
use Rattle.onepath.specs.Holds.{step_at, Holds, LoopEnd}
use Rattle.onepath.specs.declared.steps.Step.{Step}
use Rattle.onepath.specs.declared.steps.Step.TheVariants.{Work, Literal, Narrow, Again, Close, Jump, Test}
use Rattle.onepath.proofs.Kept.{ends_le, holds_le}
use Rattle.run.specs.Values.{Values, is_true, worked, stated}
use Rattle.run.specs.Machine.{at, flag_at, guard_at, counter_at, loop_at, put_level, flagged, guarded, counted, looped}
use Rattle.run.specs.declared.registers.Level.{Level}
use Rattle.laws.specs.Trails.{Simple, did_work, did_literal}
use Rattle.laws.specs.Laws.{most_steps}
use Rattle.run.specs.declared.registers.Registers.{Registers}
use Rattle.laws.proofs.Kept.{Sized, Kept, kept_all, kept_both, kept_less, flag_kept, guard_kept, counter_kept, kept_put, kept_looped, flag_same, guard_same, counter_same, loop_same, guard_around, one_more}
use Rattle.laws.proofs.Walking.{Memory, does, Walk, on, onward, Form, in_turn, resting, doing, choosing, narrowing, circling, looping, walk}
use Rattle.laws.proofs.Following.{Follows, arrives, breaks, here, grown, step, rebase, chain, jumping, by_test}

-- from i to j the machine follows the walk, at level k with d open loops around, wherever it may take so many steps
abbrev Sim : Values → List Step → ℕ → ℕ → ℕ → ℕ → ℕ → Form → Type 0
Sim v ts most k d i j X =
    (N : ℕ) → most ≤ N → (r : Registers) (h : Option ℕ) (w : Memory) (g : Bool) → Sized r → guard_at r k ≡ g → Follows v ts N k d r w.trail (at i r h w.cells) j (X g w h)

module _ (v : Values) (ts : List Step) where
  sim_rest : (k d i j : ℕ) → i ≡ j → Sim v ts 0 k d i j resting
  unfolding resting
  sim_rest k d i j q N f r h w g z e = rw q (arrives r kept_all here)

  module _ (k d i j : ℕ) where
    sim_turn : (a b m : ℕ) (X Y : Form) → Sim v ts a k d i m X → Sim v ts b k d m j Y → Sim v ts (a + b) k d i j (in_turn X Y)
    unfolding in_turn
    sim_turn a b m X Y x y N f r h w g z e =
        chain {y = a} (omega arith) (x a (le_refl a) r h w g z e) (λ w₁ h₁ r₁ u. rebase (le_refl k) (le_refl d) u (y (N - a) (omega arith) r₁ h₁ w₁ g (u.sized z) (guard_kept u k (le_refl k) ∙ e)))

  -- past the step of a simple line
  sim_doing : (n k d i : ℕ) (f : List ℕ → List ℕ) (a : Simple) (r : Registers) (h : Option ℕ) (w : Memory) (g : Bool) →
      Follows v ts n k d r (grown w.trail (cond g (a ∷ []) [])) (at i r h (cond g (f w.cells) w.cells)) i (on (cond g (does f a w) w) h)
  sim_doing n k d i f a r h w true = arrives r kept_all here
  sim_doing n k d i f a r h w false = arrives r kept_all here

  module _ (k d i : ℕ) (p : i < length ts) where
    sim_work : (t o a b : ℕ) → step_at ts i ≡ Work k t o a b → Sim v ts 1 k d i (i + 1) (doing (does (worked v t o a b) (did_work t o a b)))
    unfolding doing
    sim_work t o a b q N f r h w g z e = step f p q (rw e (sim_doing (N - 1) k d (i + 1) (worked v t o a b) (did_work t o a b) r h w g))

    sim_literal : (t n : ℕ) → step_at ts i ≡ Literal k t n → Sim v ts 1 k d i (i + 1) (doing (does (stated v t n) (did_literal t n)))
    unfolding doing
    sim_literal t n q N f r h w g z e = step f p q (rw e (sim_doing (N - 1) k d (i + 1) (stated v t n) (did_literal t n) r h w g))

  -- a block one level deeper, where its flag and its guard have been set, and then what follows it
  module _ (a k d i m : ℕ) (X : Form) (low : k ≤ 5) (sx : Sim v ts a (k + 1) d i m X) where
    sim_inside : {e : ℕ} {F : Memory → Option ℕ → Walk} (N : ℕ) → a ≤ N → (r : Registers) (h : Option ℕ) (w : Memory) (g b : Bool) → Sized r →
        ((w₁ : Memory) (h₁ : Option ℕ) (s : Registers) → Kept k d r s → flag_at s (k + 1) ≡ b → counter_at s (k + 1) ≡ counter_at r (k + 1) → Follows v ts (N - a) k d r w₁.trail (at m s h₁ w₁.cells) e (F w₁ h₁)) →
        Follows v ts N k d r w.trail (at i (guarded (flagged r (k + 1) b) (k + 1) (g && b)) h w.cells) e (onward (X (g && b) w h) F)
    sim_inside N f r h w g b z then =
        let r₀ = flagged r (k + 1) b in
        let r₁ = guarded r₀ (k + 1) (g && b) in
        let k₀ : Kept k d r r₀ = kept_put r _ in
        let k₁ : Kept k d r r₁ = kept_both k₀ (kept_put r₀ _) in
        let z₀ = k₀.sized z in
        chain {y = a} f (sx a (le_refl a) r₁ h w (g && b) (k₁.sized z) (guard_same k r₀ low z₀ _))
        (λ w₂ h₂ r₂ u.
        then w₂ h₂ r₂ (kept_both k₁ (kept_less (omega arith) (le_refl d) u))
        (flag_kept u (k + 1) (le_refl (k + 1)) ∙ flag_same k r₀ low z₀ _ ∙ flag_same k r low z _)
        (counter_kept u (k + 1) (le_refl (k + 1)) ∙ counter_same k r₀ low z₀ _ ∙ counter_same k r low z _))

  module _ (a c k d i m e x : ℕ) (X Y : Form) (p : i < length ts) (q : m < length ts) (low : k ≤ 5) where
    sim_choosing : (b : Bool) → step_at ts i ≡ if_head b (level_in b k) x (m + 1) → step_at ts m ≡ if_middle b (level_in b k) e →
        Sim v ts a (level_in b k) d (i + 1) m X → Sim v ts c (level_in b k) d (m + 1) e Y → Sim v ts (2 + a + c) k d i e (choosing b v x X Y)
    unfolding choosing
    sim_choosing true hd md sx sy N f r h w g z o =
        let b = is_true v w.cells x in
        step (omega arith) p hd
        (rw (guard_around r k g o)
        (sim_inside a k d (i + 1) m X low sx (N - 1) (omega arith) r h w g b z
        (λ w₂ h₂ r₂ k₂ f₂ n₂.
        let x₃ : Level = record { flag = b; guard = g && not b; passes = counter_at r₂ (k + 1) } in
        let r₃ = put_level r₂ (k + 1) x₃ in
        let k₃ : Kept k d r r₃ = kept_both k₂ (kept_put r₂ x₃) in
        step (omega arith) q md
        (rw (guard_around r₂ k g (guard_kept k₂ k (le_refl k) ∙ o), f₂)
        (rebase (omega arith) (le_refl d) k₃
        (sy (N - 1 - a - 1) (omega arith) r₃ h₂ w₂ (g && not b) (k₃.sized z) (guard_same k r₂ low (k₂.sized z) x₃)))))))
    sim_choosing false hd md sx sy N f r h w g z o = step (omega arith) p hd (go (is_true v w.cells x))
      where
        go : (b : Bool) → Follows v ts (N - 1) k d r w.trail (at (cond b (i + 1) (m + 1)) r h w.cells) e (cond b (X g w h) (Y g w h))
        go true = jumping {y = a} (omega arith) q md (sx a (le_refl a) r h w g z o)
        go false = sy (N - 1) (omega arith) r h w g z o

  -- a covered loop: its narrow at i, its again at m, its close after that
  module _ (a k d i m x bound l : ℕ) (X : Form) (p : i < length ts) (q : m + 1 < length ts) (low : k ≤ 5) (most : bound ≤ 255)
      (hn : step_at ts i ≡ Narrow (k + 1) x) (ha : step_at ts m ≡ Again (k + 1) bound i) (hc : step_at ts (m + 1) ≡ Close (k + 1) x l) (sx : Sim v ts a (k + 1) d (i + 1) m X) where
    -- one pass, and then what follows its again
    sim_pass : {F : Memory → Option ℕ → Walk} (N : ℕ) → 2 + a ≤ N → (n : ℕ) (r : Registers) (h : Option ℕ) (w : Memory) (g f : Bool) → n < bound → Sized r →
        guard_at r k ≡ g → flag_at r (k + 1) ≡ f → counter_at r (k + 1) ≡ n →
        ((w₁ : Memory) (h₁ : Option ℕ) (s : Registers) → Kept k d r s → guard_at s k ≡ g → flag_at s (k + 1) ≡ (f && is_true v w.cells x) → counter_at s (k + 1) ≡ n + 1 →
        Follows v ts (N - 1 - a - 1) k d r w₁.trail (at (cond (ltb (n + 1) bound) i (m + 1)) s h₁ w₁.cells) (m + 1 + 1) (F w₁ h₁)) →
        Follows v ts N k d r w.trail (at i r h w.cells) (m + 1 + 1) (onward (X (g && (f && is_true v w.cells x)) w h) F)
    sim_pass N y n r h w g f below z eg ef en then =
        step (omega arith) p hn
        (rw (guard_around r k g eg, ef)
        (sim_inside a k d (i + 1) m X low sx (N - 1) (omega arith) r h w g (f && is_true v w.cells x) z
        (λ w₂ h₂ r₂ k₂ f₂ n₂.
        let r₃ = counted r₂ (k + 1) (n + 1) in
        let k₃ : Kept k d r r₃ = kept_both k₂ (kept_put r₂ _) in
        let z₂ = k₂.sized z in
        step (omega arith) (omega arith) ha
        (rw (one_more (counter_at r₂ (k + 1)) n (n₂ ∙ en) (omega arith))
        (then w₂ h₂ r₃ k₃ (guard_kept k₃ k (le_refl k) ∙ eg) (flag_same k r₂ low z₂ _ ∙ f₂) (counter_same k r₂ low z₂ _))))))

    sim_narrowing : (N n c : ℕ) → suc n * (2 + a) + 1 ≤ N → c + suc n ≡ bound → (r : Registers) (h : Option ℕ) (w : Memory) (g f : Bool) → Sized r →
        guard_at r k ≡ g → flag_at r (k + 1) ≡ f → counter_at r (k + 1) ≡ c → Follows v ts N k d r w.trail (at i r h w.cells) (m + 1 + 1) (narrowing v x l X (suc n) f g w h)
    unfolding narrowing
    sim_narrowing N zero c y s r h w g f z eg ef en =
        sim_pass N (omega arith) c r h w g f (omega arith) z eg ef en
        (λ w₁ h₁ r₁ u g₁ f₁ n₁.
        rw (le-ltb (c + 1) bound (omega arith)) (step (omega arith) q hc (rw (guard_around r₁ k g g₁, f₁) (arrives r₁ u here))))
    sim_narrowing N (suc n) c y s r h w g f z eg ef en =
        let y₁ = suc-mul (suc n) (2 + a) in
        sim_pass N (omega arith) c r h w g f (omega arith) z eg ef en
        (λ w₁ h₁ r₁ u g₁ f₁ n₁.
        rw (lt-ltb (c + 1) bound (omega arith))
        (rebase (le_refl k) (le_refl d) u (sim_narrowing (N - 1 - a - 1) n (c + 1) (omega arith) (omega arith) r₁ h₁ w₁ g (f && is_true v w.cells x) (u.sized z) g₁ f₁ n₁)))

  -- an open loop: its test at i, its jump back at m
  module _ (a k d i m x bound l : ℕ) (X : Form) (p : i < length ts) (q : m < length ts) (low : d ≤ 5) (most : bound ≤ 255)
      (ht : step_at ts i ≡ Test d x bound (m + 1) l) (hj : step_at ts m ≡ Jump i) (sx : Sim v ts a k (d + 1) (i + 1) m X) where
    sim_circling : (N n c : ℕ) → n * (2 + a) + 1 ≤ N → c + n ≡ bound → (r : Registers) (h : Option ℕ) (w : Memory) (g : Bool) → Sized r → guard_at r k ≡ g → loop_at r d ≡ c →
        Follows v ts N k d r w.trail (at i r h w.cells) (m + 1) (circling v x l X n g w h)
    unfolding circling
    sim_circling N zero c y s r h w g z eg en =
        step (omega arith) p ht (rw (eq-eqb (loop_at r d) bound (omega arith)) (by_test (is_true v w.cells x) (breaks i r here) (arrives r kept_all here)))
    sim_circling N (suc n) c y s r h w g z eg en =
        let r₁ = looped r d (c + 1) in
        let k₁ : Kept k d r r₁ = kept_looped r (c + 1) in
        let y₁ = suc-mul n (2 + a) in
        step (omega arith) p ht
        (rw (ne_eqb (loop_at r d) bound (omega arith), one_more (loop_at r d) c en (omega arith))
        (by_test (is_true v w.cells x)
        (chain {y = a} (omega arith) (sx a (le_refl a) r₁ h w g (k₁.sized z) eg)
        (λ w₂ h₂ r₂ u.
        let k₂ : Kept k d r r₂ = kept_both k₁ (kept_less (le_refl k) (omega arith) u) in
        step (omega arith) q hj
        (rebase (le_refl k) (le_refl d) k₂
        (sim_circling (N - 1 - a - 1) n (c + 1) (omega arith) (omega arith) r₂ h₂ w₂ g (k₂.sized z) (guard_kept k₂ k (le_refl k) ∙ eg) (u.loop d (omega arith) ∙ loop_same d r low z (c + 1))))))
        (arrives r kept_all here)))

  module _ (a k d i m e x l : ℕ) (X : Form) (p : i + 2 ≤ m) (q : e ≤ length ts) (low : k + d ≤ 5) where
    sim_looping : (b : Bool) (n : ℕ) → 1 ≤ n → n ≤ 255 → step_at ts i ≡ loop_head b (level_in b k) d → step_at ts (i + 1) ≡ loop_test b (level_in b k) d x n (m + 1) l →
        step_at ts m ≡ loop_back b (level_in b k) n (i + 1) → LoopEnd b ts (level_in b k) x l (m + 1) e → Sim v ts a (level_in b k) (loops_in b d) (i + 2) m X →
        Sim v ts (2 + n * (2 + a)) k d i e (looping b v x l X n)
    sim_looping true zero least most hd ht hb he sx N f r h w g z o = absurd (omega arith)
    sim_looping true (suc n) least most hd ht hb he sx N f r h w g z o =
        let j : e ≡ m + 1 + 1 = he.1 in
        let y : i + 2 ≡ i + 1 + 1 = omega arith in
        let r₀ = flagged r (k + 1) true in
        let r₁ = counted r₀ (k + 1) 0 in
        let k₀ : Kept k d r r₀ = kept_put r _ in
        let k₁ : Kept k d r r₁ = kept_both k₀ (kept_put r₀ _) in
        let z₀ = k₀.sized z in
        step (omega arith) (omega arith) hd
        (rebase (le_refl k) (le_refl d) k₁
        (rw j
        (sim_narrowing a k d (i + 1) m x (suc n) l X (omega arith) (omega arith) (omega arith) most ht hb he.0 (subst (λ t. Sim v ts a (k + 1) d t m X) y sx)
        (N - 1) n 0 (omega arith) (omega arith) r₁ h w g true (k₁.sized z) (guard_kept k₁ k (le_refl k) ∙ o) (flag_same k r₀ (omega arith) z₀ _ ∙ flag_same k r (omega arith) z _) (counter_same k r₀ (omega arith) z₀ _))))
    sim_looping false n least most hd ht hb he sx N f r h w g z o =
        let y : i + 2 ≡ i + 1 + 1 = omega arith in
        let r₁ = looped r d 0 in
        let k₁ : Kept k d r r₁ = kept_looped r 0 in
        step (omega arith) (omega (arith, he)) hd
        (rebase (le_refl k) (le_refl d) k₁
        (rw he
        (sim_circling a k d (i + 1) m x n l X (omega (arith, he)) (omega (arith, he)) (omega arith) most ht hb (subst (λ t. Sim v ts a k (d + 1) t m X) y sx)
        (N - 1) n 0 (omega arith) (omega arith) r₁ h w g (k₁.sized z) o (loop_same d r (omega arith) z 0))))

level_most : (b : Bool) (k : ℕ) → level_in b k ≤ k + 1
level_most true k = omega arith
level_most false k = omega arith

-- a loop's block is one level deeper or inside one open loop more
loops_most : (b : Bool) (k d : ℕ) → level_in b k + loops_in b d ≤ k + d + 1
loops_most true k d = omega arith
loops_most false k d = omega arith

module _ (v : Values) (covered : ℕ → Bool) (ts : List Step) (cells : ℕ) where
  pub sim : (deep k d l i j : ℕ) (c : Code) → Keeps cells deep c → k + d + deep ≤ 6 → Holds covered ts k d l i j c → j ≤ length ts → Sim v ts (most_steps c) k d i j (walk v covered k l c)
  unfolding walk
  sim deep k d l i j stop s f h p = sim_rest v ts k d i j h
  sim deep k d l i j (work t o a b r) s f h p =
      let q = holds_le covered ts k d (l + 1) (i + 1) j r h.1 in
      sim_turn v ts k d i j 1 (most_steps r) (i + 1) _ _ (sim_work v ts k d i (omega arith) t o a b h.0) (sim deep k d (l + 1) (i + 1) j r s.4 f h.1 p)
  sim deep k d l i j (literal t n r) s f h p =
      let q = holds_le covered ts k d (l + 1) (i + 1) j r h.1 in
      sim_turn v ts k d i j 1 (most_steps r) (i + 1) _ _ (sim_literal v ts k d i (omega arith) t n h.0) (sim deep k d (l + 1) (i + 1) j r s.2 f h.1 p)
  sim deep k d l i j (choose x y z r) s f h p =
      let b = covered x in
      let own = level_in b k in
      let m = h.0 in
      let e = h.1 in
      let else = l + 1 + size_of y in
      let end = else + 1 + size_of z in
      let q₁ = holds_le covered ts own d (l + 1) (i + 1) m y h.3 in
      let q₂ = holds_le covered ts own d (else + 1) (m + 1) e z h.5 in
      let q₃ = holds_le covered ts k d (end + 1) e j r h.6 in
      let u : level_in b k + d + (deep - 1) ≤ 6 = omega (arith, level_most b k, s.1) in
      sim_turn v ts k d i j (2 + most_steps y + most_steps z) (most_steps r) e _ _
      (sim_choosing v ts (most_steps y) (most_steps z) k d i m e x _ _ (omega arith) (omega arith) (omega (arith, s.1)) b h.2 h.4
      (sim (deep - 1) (level_in (covered x) k) d (l + 1) (i + 1) m y s.2 u h.3 (omega arith))
      (sim (deep - 1) (level_in (covered x) k) d (else + 1) (m + 1) e z s.3 u h.5 (omega arith)))
      (sim deep k d (end + 1) e j r s.4 f h.6 p)
  sim deep k d l i j (repeat x n y r) s f h p =
      let b = loop_covered covered k x in
      let own = level_in b k in
      let m = h.0 in
      let e = h.1 in
      let end = l + 1 + size_of y in
      let q₁ = holds_le covered ts own (loops_in b d) (l + 1) (i + 2) m y h.4 in
      let q₂ = ends_le b ts own x l (m + 1) e h.6 in
      let q₃ = holds_le covered ts k d (end + 1) e j r h.7 in
      let u : level_in b k + loops_in b d + (deep - 1) ≤ 6 = omega (arith, loops_most b k d, s.3) in
      sim_turn v ts k d i j (2 + n * (2 + most_steps y)) (most_steps r) e _ _
      (sim_looping v ts (most_steps y) k d i m e x l _ q₁ (omega arith) (omega (arith, s.3)) b n s.1 s.2 h.2 h.3 h.5 h.6
      (sim (deep - 1) (level_in (loop_covered covered k x) k) (loops_in (loop_covered covered k x) d) (l + 1) (i + 2) m y s.4 u h.4 (omega arith)))
      (sim deep k d (end + 1) e j r s.5 f h.7 p)
