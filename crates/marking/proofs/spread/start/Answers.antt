use Rattle.std.proofs.Common.{get_or, sym, subst, arith, below_more}
use Rattle.marking.specs.Rules.{AtLeast}
use Rattle.marking.specs.Spread.{marking}
use Rattle.marking.proofs.Order.{Laws, above_trans}
use Rattle.marking.proofs.Tables.{raised_has}
use Rattle.marking.proofs.Steps.{Raised, raise_moved, raise_below}
use Rattle.marking.proofs.Starts.{rising_below, owns_at, owns_all}
use Rattle.marking.proofs.spread.start.Given as given
use Rattle.marking.proofs.spread.start.Goals as goal

laws : (g : given.Over) → Laws g.M.Mark.joined g.M.Mark.unmarked g.M.Mark.rank g.M.Mark.height
laws g =
    let met = g.met.M.Mark in
    record { assoc = met.assoc; comm = met.comm; idem = met.idem; neutral = met.neutral; rises = met.rises; tops = met.tops }

pub raise-requires : goal.raise-requires
raise-requires g c =
    let low = rising_below _ 0 c.args.marked.now c.requires c.loop-cell.cell-index (omega arith) in
    omega (arith, low)

pub loop-cell-preserved : goal.loop-cell-preserved
loop-cell-preserved g c =
    let join = g.M.Mark.joined in
    let none = g.M.Mark.unmarked in
    let own = g.M.Mark.owned in
    let cs = c.args.marked.now in
    let i = c.loop-cell.cell-index in
    let ts = c.loop-cell.marks in
    let us = c.raise.new.marks in
    let low = rising_below _ 0 cs c.requires i (omega arith) in
    let d : Raised join none ts us (get_or cs i 0) c.own.result c.raise.result =
    record { inside = omega (arith, low); after = c.raise.ensures.after; rises = c.raise.ensures.rose; stays = c.raise.ensures.stayed } in
    let grown = (raise_moved (laws g) ts us _ _ _ d).grown in
    let has = subst (λ y. AtLeast join (marking none y (get_or cs i 0)) c.own.result) (sym d.after) (raised_has (laws g) ts (get_or cs i 0) c.own.result d.inside) in (
      below_more _ _ (λ k h. above_trans (laws g) _ _ _ (grown (get_or cs k 0)) (c.loop-cell.invariant.0 k h)) (subst (AtLeast join _) c.own.ensures has),
      λ m o. raise_below (laws g) ts us _ _ _ d m (subst (AtLeast join _) (sym c.own.ensures) (owns_at join own m cs o i (omega arith))) (c.loop-cell.invariant.1 m o),
    )

pub returns : goal.returns
returns g c =
    record {
      owns = owns_all g.M.Mark.joined g.M.Mark.owned _ c.args.marked.now (λ k h. c.loop-cell.invariant.0 k (omega arith));
      below = c.loop-cell.invariant.1;
    }
