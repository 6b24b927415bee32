-- An advance goes on along the one path.
use Rattle.std.proofs.Common.{◌≡◌, ℕ, zero, suc, ◌+◌, Bool, true, false, cond, List, length, sym, refl, ap, ◌∙◌, arith}
use Rattle.onepath.specs.declared.steps.Step.{Step}
use Rattle.run.specs.Machine.{State, is_over, next, steps}
use Rattle.run.specs.Values.{Values}
use Rattle.protocol.specs.Advancing.{Walk, advanced, over_by, halted, later}
use Rattle.protocol.specs.Calls.{told_of}
use Rattle.protocol.specs.Watching.{Watching}
use Rattle.protocol.specs.declared.answers.Ending.{Ending}
use Rattle.protocol.specs.declared.answers.Ending.TheVariants.{Paused, Stopped}

pub next_steps : (v : Values) (ts : List Step) (n : ℕ) (s : State) → next v ts (steps v ts n s) ≡ steps v ts (suc n) s
next_steps v ts zero s = refl
next_steps v ts (suc n) s = next_steps v ts n (next v ts s)

-- Whatever a walk does, it does one of four things.
module _ {M : Type 0} (v : Values) (ts : List Step) (w : Watching M) where
  -- the run after the walk is so many steps on
  pub record On (s : State) (r : Walk M) : Type 0 where
    pub number : ℕ
    pub there : r.run ≡ steps v ts number s

  on_by : (b : Bool) (s : State) (x y : Walk M) → On s x → On s y → On s (cond b x y)
  on_by true s x y p q = p
  on_by false s x y p q = q

  pub advanced_on : (k : ℕ) (s : State) (m : M) → On s (advanced v ts w k s m)
  advanced_on zero s m =
      let still : (x : Walk M) → x.run ≡ s → On s x = λ x e. record { number = 0; there = e } in
      on_by (is_over (length ts) s) s (halted (over_by s.track.broken) s m) (halted Paused s m) (still _ refl) (still _ refl)
  advanced_on (suc k) s m =
      let i = s.track.place in
      let r = advanced_on k (next v ts s) (w.becomes m i) in
      let still : (x : Walk M) → x.run ≡ s → On s x = λ x e. record { number = 0; there = e } in
      let more = later 1 (advanced v ts w k (next v ts s) (w.becomes m i)) in
      let stopped = halted Stopped s m in
      on_by (is_over (length ts) s) s (halted (over_by s.track.broken) s m) (cond (w.accepts m i) more stopped) (still _ refl)
      (on_by (w.accepts m i) s more stopped (record { number = suc r.number; there = r.there }) (still _ refl))

  -- an advance, by what stops it
  pub advanced_over : (k : ℕ) (s : State) (m : M) → is_over (length ts) s ≡ true → advanced v ts w k s m ≡ halted (over_by s.track.broken) s m
  advanced_over zero s m h = rw h refl
  advanced_over (suc k) s m h = rw h refl

  pub advanced_stopped : (k j : ℕ) (s : State) (m : M) → k ≡ suc j → is_over (length ts) s ≡ false → w.accepts m s.track.place ≡ false → advanced v ts w k s m ≡ halted Stopped s m
  advanced_stopped k j s m e h a = rw (e, h, a) refl

  pub advanced_more : (k j : ℕ) (s : State) (m : M) → k ≡ suc j → is_over (length ts) s ≡ false → w.accepts m s.track.place ≡ true →
      advanced v ts w k s m ≡ later 1 (advanced v ts w j (next v ts s) (w.becomes m s.track.place))
  advanced_more k j s m e h a = rw (e, h, a) refl

  -- a walk that halts after n steps
  pub record Halts (n : ℕ) (e : Ending) (s : State) (m : M) (r : Walk M) : Type 0 where
    pub told : record { steps = n; ending = e } ≡ told_of r
    pub run : s ≡ r.run
    pub watcher : m ≡ r.watcher

  pub halts_after : (n : ℕ) (e : Ending) (s : State) (m : M) (r x : Walk M) → later n r ≡ x → r ≡ halted e s m → Halts n e s m x
  halts_after n e s m r x p q =
      let z : later n (halted e s m) ≡ x = ap (later n) (sym q) ∙ p in
      let none : n ≡ n + 0 = omega arith in
      record { told = ap (λ k. record { steps = k; ending = e }) none ∙ ap told_of z; run = ap (λ y. y.run) z; watcher = ap (λ y. y.watcher) z }

  pub later_one : (n : ℕ) (r : Walk M) → later n (later 1 r) ≡ later (n + 1) r
  later_one n r = let e : n + (1 + r.taken) ≡ n + 1 + r.taken = omega arith in ap (λ k. record { taken = k; ending = r.ending; run = r.run; watcher = r.watcher }) e
