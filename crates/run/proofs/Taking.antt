-- A run that is over stays as it is, and one that is not takes a step.
use Rattle.std.proofs.Common.{◌≡◌, ℕ, zero, suc, ◌+◌, true, false, cond, List, length, refl, ap, ◌∙◌}
use Rattle.onepath.specs.Holds.{step_at}
use Rattle.onepath.specs.declared.steps.Step.{Step}
use Rattle.run.specs.Values.{Values}
use Rattle.run.specs.Machine.{State, act, is_over, next, steps, taken}

-- the step at the run's place
abbrev here : Values → List Step → State → State
here v ts s = act v (step_at ts s.track.place) s.track.place s.track.registers s.track.latch s.cells

module _ (v : Values) (ts : List Step) (s : State) where
  -- a run that is over stays as it is
  pub over_stays : (n : ℕ) → is_over (length ts) s ≡ true → steps v ts n s ≡ s
  over_stays zero h = refl
  over_stays (suc n) h = ap (steps v ts n) (ap (λ b. cond b s (here v ts s)) h) ∙ over_stays n h

  pub one_more_taken : (n m : ℕ) → n ≡ suc m → is_over (length ts) s ≡ false → taken v ts n s ≡ 1 + taken v ts m (next v ts s)
  one_more_taken n m e h = ap (λ k. taken v ts k s) e ∙ ap (λ b. cond b 0 (1 + taken v ts m (next v ts s))) h

  pub one_more_step : (n m : ℕ) → n ≡ suc m → steps v ts n s ≡ steps v ts m (next v ts s)
  one_more_step n m e = ap (λ k. steps v ts k s) e
