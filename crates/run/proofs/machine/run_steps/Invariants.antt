use Rattle.std.proofs.Common.{◌≡◌, ◌+◌, ◌-◌}
use Rattle.run.specs.Machine.{steps, taken, state_of}
use Rattle.run.specs.Values.{kind_of}
use Rattle.run.proofs.machine.run_steps.Given as goal

-- what is left of the budget brings the run where the whole budget does
abbrev pub invariant-loop-done : goal.invariant-loop-done
invariant-loop-done g l =
    let v = kind_of g.V.Value in
    let here = state_of g.V.Value l.track l.cells in
    let start = state_of g.V.Value l.initial.track l.initial.cells in
    (steps v l.steps (l.budget - l.done) here ≡ steps v l.steps l.budget start) ×
    (l.done + taken v l.steps (l.budget - l.done) here ≡ taken v l.steps l.budget start)
