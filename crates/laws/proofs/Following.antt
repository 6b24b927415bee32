-- The step machine follows a walk.
use Rattle.std.proofs.Common.{◌≡◌, ℕ, zero, suc, ◌+◌, ◌-◌, ◌<◌, ◌≤◌, Bool, true, false, cond, List, [], ◌∷◌, ◌++◌, length, Option, sym, refl, ap, ◌∙◌, le_refl, suc-add, zero-add, arith}
use Rattle.std.proofs.lemmas.List.{append-nil, append_assoc}
use Rattle.std.proofs.lemmas.Bool.{lt-leb}
use Rattle.onepath.specs.Holds.{step_at}
use Rattle.onepath.specs.declared.steps.Step.{Step}
use Rattle.onepath.specs.declared.steps.Step.TheVariants.{Jump}
use Rattle.run.specs.Values.{Values}
use Rattle.run.specs.Machine.{State, at, broken_at, act, next, steps}
use Rattle.laws.specs.Trails.{Simple, done, done_next, enabled}
use Rattle.run.specs.declared.registers.Registers.{Registers}
use Rattle.laws.proofs.Kept.{Kept, kept_both, kept_less}
use Rattle.laws.proofs.Walking.{Memory, Walk, on, off, onward}

pub steps_both : (v : Values) (ts : List Step) (a b : ℕ) (s : State) → steps v ts (a + b) s ≡ steps v ts b (steps v ts a s)
steps_both v ts zero b s = rw zero-add
steps_both v ts (suc a) b s = rw (suc-add a b) (steps_both v ts a b (next v ts s))

pub enabled_both : (v : Values) (ts : List Step) (a b : ℕ) (s : State) → enabled v ts (a + b) s ≡ enabled v ts a s ++ enabled v ts b (steps v ts a s)
enabled_both v ts zero b s = rw zero-add
enabled_both v ts (suc a) b s =
    let s₁ = next v ts s in
    rw (suc-add a b)
    (ap (λ (q : List Simple). done_next ts s ++ q) (enabled_both v ts a b s₁) ∙ sym (append_assoc (done_next ts s) (enabled v ts a s₁) (enabled v ts b (steps v ts a s₁))))

-- one list after the other, by the second
abbrev pub grown : List Simple → List Simple → List Simple
grown a [] = a
grown a (x ∷ b) = grown (a ++ (x ∷ [])) b

grown_append : (a b : List Simple) → grown a b ≡ a ++ b
grown_append a [] = sym (append-nil a)
grown_append a (x ∷ b) = grown_append (a ++ (x ∷ [])) b ∙ append_assoc a (x ∷ []) b

-- From one state, where a was gone over, the machine comes to another, where b was, in no more steps than this.
pub record Reach (v : Values) (ts : List Step) (most : ℕ) (a : List Simple) (s : State) (b : List Simple) (t : State) : Type 0 where
  pub number : ℕ
  pub within : number ≤ most
  pub there : steps v ts number s ≡ t
  pub told : a ++ enabled v ts number s ≡ b

module _ {v : Values} {ts : List Step} where
  pub here : {n : ℕ} {a : List Simple} {s : State} → Reach v ts n a s a s
  here {a = a} = record { number = 0; within = omega arith; there = refl; told = append-nil a }

  reach_both : {m l n : ℕ} {a b c : List Simple} {s t u : State} → m + l ≤ n → Reach v ts m a s b t → Reach v ts l b t c u → Reach v ts n a s c u
  reach_both {a = a} {s = s} {t = t} f x y =
      let i = x.number in
      let j = y.number in
      record {
        number = i + j;
        within = omega arith;
        there = steps_both v ts i j s ∙ ap (steps v ts j) x.there ∙ y.there;
        told = rw (enabled_both v ts i j s, x.there, sym (append_assoc a (enabled v ts i s) (enabled v ts j t)), x.told) y.told;
      }

  -- by the step at a place
  reach_by : {n : ℕ} {a : List Simple} {o : Step} {i : ℕ} {r : Registers} {h : Option ℕ} {w : List ℕ} → 1 ≤ n → i < length ts → step_at ts i ≡ o →
      Reach v ts n a (at i r h w) (grown a (done o r)) (act v o i r h w)
  reach_by {a = a} {o = o} {i = i} {r = r} f p q = record {
    number = 1;
    within = f;
    there = rw (lt-leb (length ts) i p, q);
    told = rw (lt-leb (length ts) i p, q, append-nil (done o r)) (sym (grown_append a (done o r)));
  }

-- The machine goes from a state where a was gone over, as the walk says, to the place e, or breaks, in no more steps
-- than this, and leaves alone what r has at level k.
pub data Follows (v : Values) (ts : List Step) (most k d : ℕ) (r : Registers) (a : List Simple) (s : State) (e : ℕ) : Walk → Type 0 where
  arrives : {w : Memory} {h : Option ℕ} (t : Registers) → Kept k d r t → Reach v ts most a s w.trail (at e t h w.cells) → Follows v ts most k d r a s e (on w h)
  breaks : {l : ℕ} {h : Option ℕ} {w : Memory} (i : ℕ) (t : Registers) → Reach v ts most a s w.trail (broken_at l i t h w.cells) → Follows v ts most k d r a s e (off l h w)

module _ {v : Values} {ts : List Step} {k d : ℕ} {r : Registers} {e : ℕ} {a : List Simple} where
  ahead : {m l n : ℕ} {b : List Simple} {s t : State} {x : Walk} → m + l ≤ n → Reach v ts m a s b t → Follows v ts l k d r b t e x → Follows v ts n k d r a s e x
  ahead f c (arrives t u b) = arrives t u (reach_both f c b)
  ahead f c (breaks i t b) = breaks i t (reach_both f c b)

  pub step : {n : ℕ} {o : Step} {i : ℕ} {t : Registers} {h : Option ℕ} {w : List ℕ} {x : Walk} → 1 ≤ n → i < length ts → step_at ts i ≡ o →
      Follows v ts (n - 1) k d r (grown a (done o t)) (act v o i t h w) e x → Follows v ts n k d r a (at i t h w) e x
  step f p q b = ahead {m = 1} (omega arith) (reach_by (le_refl 1) p q) b

  pub rebase : {n m f : ℕ} {t : Registers} {s : State} {x : Walk} → k ≤ m → d ≤ f → Kept k d r t → Follows v ts n m f t a s e x → Follows v ts n k d r a s e x
  rebase p q c (arrives t u b) = arrives t (kept_both c (kept_less p q u)) b
  rebase p q c (breaks i t b) = breaks i t b

  pub chain : {y n m f i : ℕ} {t : Registers} {s : State} {x : Walk} {F : Memory → Option ℕ → Walk} → y ≤ n → Follows v ts y m f t a s i x →
      ((w : Memory) (h : Option ℕ) (u : Registers) → Kept m f t u → Follows v ts (n - y) k d r w.trail (at i u h w.cells) e (F w h)) → Follows v ts n k d r a s e (onward x F)
  chain g (arrives {w} {h} t u b) c = ahead (omega arith) b (c w h t u)
  chain g (breaks i t b) c = breaks i t (reach_both (omega arith) b (here {n = 0}))

  -- one jump more at the end
  pub jumping : {y n i : ℕ} {s : State} {x : Walk} → y + 1 ≤ n → i < length ts → step_at ts i ≡ Jump e → Follows v ts y k d r a s i x → Follows v ts n k d r a s e x
  jumping f p q (arrives t u b) = arrives t u (reach_both f b (reach_by (le_refl 1) p q))
  jumping f p q (breaks i t b) = breaks i t (reach_both f b here)

  pub by_test : {n : ℕ} (b : Bool) {s t : State} {x y : Walk} → Follows v ts n k d r a s e x → Follows v ts n k d r a t e y → Follows v ts n k d r a (cond b s t) e (cond b x y)
  by_test true f g = f
  by_test false f g = g
