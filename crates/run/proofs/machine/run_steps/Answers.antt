use Rattle.std.proofs.Common.{◌≡◌, suc, ◌+◌, ◌-◌, sym, ap, ◌∙◌, arith}
use Rattle.run.specs.Machine.{steps, taken, state_of}
use Rattle.run.specs.Values.{kind_of}
use Rattle.run.proofs.Taking.{over_stays, one_more_taken, one_more_step}
use Rattle.run.proofs.machine.run_steps.Goals as goal

pub returns-then-is_over-clause-state : goal.returns-then-is_over-clause-state
returns-then-is_over-clause-state g c =
    let s = state_of g.V.Value c.loop-done.track c.loop-done.cells in
    sym (over_stays (kind_of g.V.Value) c.args.steps.now s (c.args.budget - c.loop-done.done) (sym c.if-is_over.ensures)) ∙ c.loop-done.invariant.0

pub loop-done-preserved : goal.loop-done-preserved
loop-done-preserved g c =
    let v = kind_of g.V.Value in
    let ts = c.args.steps.now in
    let s = state_of g.V.Value c.loop-done.track c.loop-done.cells in
    let n = c.args.budget - c.loop-done.done in
    let m = c.args.budget - (c.loop-done.done + 1) in
    let e : n ≡ suc m = omega arith in
    let one = one_more_taken v ts s n m e (sym c.if-is_over.ensures) in
    let here = c.step.ensures in (
      ap (steps v ts m) here ∙ sym (one_more_step v ts s n m e) ∙ c.loop-done.invariant.0,
      let t = ap (taken v ts m) here in let i = c.loop-done.invariant.1 in omega arith,
    )
