use Rattle.std.proofs.Common.{◌≡◌, ◌+◌, ◌*◌, ◌^◌, ◌<◌, ◌≤◌, length, refl, ◌∙◌, subst, arith, rules}
use Rattle.std.proofs.lemmas.Nat.{mul-le}
use Rattle.marking.specs.Spread.{marking, total}
use Rattle.marking.proofs.Order.{Laws}
use Rattle.marking.proofs.Tables.{total_most}
use Rattle.marking.proofs.Starts.{owns_more}
use Rattle.marking.proofs.Ends.{pass_under, least_end}
use Rattle.marking.proofs.spread.settle.Given as given
use Rattle.marking.proofs.spread.settle.Goals as goal

laws : (g : given.Over) → Laws g.M.Mark.joined g.M.Mark.unmarked g.M.Mark.rank g.M.Mark.height
laws g =
    let met = g.met.M.Mark in
    record { assoc = met.assoc; comm = met.comm; idem = met.idem; neutral = met.neutral; rises = met.rises; tops = met.tops }

pub returns : goal.returns
returns g c =
    let ts = c.loop-passes.marks in
    let most = total_most (laws g) ts in
    let long : length ts ≡ length c.args.marks.now = c.loop-passes.auto.marks ∙ c.start.auto.marks in
    record {
      least =
          least_end (laws g) g.M.Mark.owned c.args.marked.now c.args.whole ts c.pass.new.marks _ _ refl
          c.pass.ensures c.loop-passes.invariant.1 c.loop-passes-test.false c.loop-passes.invariant.0;
      passes = subst (λ n. c.loop-passes.passes ≤ g.M.Mark.height * n + 1) long (omega (arith, most, c.loop-passes.invariant.2));
    }

pub overflow_add-passes : goal.overflow_add-passes
overflow_add-passes g c =
    let n = length c.loop-passes.marks in
    let most = total_most (laws g) c.loop-passes.marks in
    let room = mul-le g.M.Mark.height n (2 ^ 32) 64 (omega (arith, g.met.M.Mark.low)) (omega (arith, c.loop-passes.auto.marks, c.start.auto.marks, c.requires.few)) in
    let small : c.loop-passes.passes + 1 < 2 ^ 64 = omega (arith, c.loop-passes.invariant.2) in
    search rules

pub loop-passes-smaller : goal.loop-passes-smaller
loop-passes-smaller g c =
    let d = c.pass.ensures.moved in
    let most = total_most (laws g) c.pass.new.marks in
    let long : length c.pass.new.marks ≡ length c.start.new.marks = d.long ∙ c.loop-passes.auto.marks in
    let most' = subst (λ n. total g.M.Mark.rank c.pass.new.marks ≤ g.M.Mark.height * n) long most in
    omega (arith, most', d.more c.loop-passes-test.true)

pub loop-passes-preserved : goal.loop-passes-preserved
loop-passes-preserved g c =
    let d = c.pass.ensures in
    let none = g.M.Mark.unmarked in
    let ts = c.loop-passes.marks in
    let us = c.pass.new.marks in (
      owns_more g.M.Mark.joined g.M.Mark.owned (laws g) (marking none ts) (marking none us) d.moved.grown c.args.marked.now c.loop-passes.invariant.0,
      pass_under (laws g) g.M.Mark.owned c.args.marked.now c.args.whole ts us _ _ refl d c.loop-passes.invariant.1,
      omega (arith, d.moved.more c.loop-passes-test.true, c.loop-passes.invariant.2),
    )
