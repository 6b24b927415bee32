use Rattle.std.proofs.Common.{Bool, false, ◌||◌, ◌∙◌, subst, arith}
use Rattle.sheet.specs.Blocks.{Heads}
use Rattle.sheet.specs.declared.block.Construct.TheVariants.{Work, Literal, If, Loop}
use Rattle.marking.specs.Spread.{Passed}
use Rattle.marking.proofs.Order.{Laws}
use Rattle.marking.proofs.Views.{reads_work, reads_literal, reads_if, reads_loop}
use Rattle.marking.proofs.Steps.{Raised, or_more, or_none, pass_none, pass_work, pass_literal, pass_if, pass_loop}
use Rattle.marking.proofs.spread.+spread_block.Given as given
use Rattle.marking.proofs.spread.+spread_block.Goals as goal

laws : (g : given.Over) → Laws g.M.Mark.joined g.M.Mark.unmarked g.M.Mark.rank g.M.Mark.height
laws g =
    let met = g.met.M.Mark in
    record { assoc = met.assoc; comm = met.comm; idem = met.idem; neutral = met.neutral; rises = met.rises; tops = met.tops }

pub loop-construct-preserved-in-Work : goal.loop-construct-preserved-in-Work
loop-construct-preserved-in-Work g t c =
    let b = c.loop-construct.construct-iterator in
    let d = c.next.new.self in
    let h : Heads b (Work c.in-Work.target c.in-Work.op c.in-Work.a c.in-Work.b) d = subst (λ x. Heads b x d) c.in-Work.is c.in-Some.ensures.steps in
    let v = reads_work b d _ c.loop-construct.invariant.2 _ _ _ _ h in
    let join = g.M.Mark.joined in
    let none = g.M.Mark.unmarked in
    let ts = c.loop-construct.marks in
    let us = c.raise-rose.new.marks in
    let w = c.args.around in
    let q = c.raise-rose.result in
    let e : Raised join none ts us c.in-Work.target c.given_mark-mark.result q =
    record { inside = omega (arith, v.target, c.loop-construct.auto.marks); after = c.raise-rose.ensures.after; rises = c.raise-rose.ensures.rose; stays = c.raise-rose.ensures.stayed } in
    let e' = subst (λ y. Raised join none ts us c.in-Work.target y q) c.given_mark-mark.ensures e in (
      h.to ∙ c.loop-construct.invariant.0,
      omega (arith, h.lies, c.loop-construct.invariant.1),
      v.rest,
      λ vs r n. or_more (λ q. Passed join none g.M.Mark.rank c.args.block w c.args.marks.now vs q) c.loop-construct.rose q r
          (c.loop-construct.invariant.3 vs _ (pass_work (laws g) w b d ts us vs _ _ _ _ _ _ h e' n)),
    )

pub loop-construct-preserved-in-Literal : goal.loop-construct-preserved-in-Literal
loop-construct-preserved-in-Literal g t c =
    let b = c.loop-construct.construct-iterator in
    let d = c.next.new.self in
    let h : Heads b (Literal c.in-Literal.target c.in-Literal.number) d = subst (λ x. Heads b x d) c.in-Literal.is c.in-Some.ensures.steps in
    let v = reads_literal b d _ c.loop-construct.invariant.2 _ _ h in
    let join = g.M.Mark.joined in
    let none = g.M.Mark.unmarked in
    let ts = c.loop-construct.marks in
    let us = c.raise-rose-in-Literal.new.marks in
    let w = c.args.around in
    let q = c.raise-rose-in-Literal.result in
    let e : Raised join none ts us c.in-Literal.target w q =
    record { inside = omega (arith, v.target, c.loop-construct.auto.marks); after = c.raise-rose-in-Literal.ensures.after; rises = c.raise-rose-in-Literal.ensures.rose; stays = c.raise-rose-in-Literal.ensures.stayed } in (
      h.to ∙ c.loop-construct.invariant.0,
      omega (arith, h.lies, c.loop-construct.invariant.1),
      v.rest,
      λ vs r n. or_more (λ q. Passed join none g.M.Mark.rank c.args.block w c.args.marks.now vs q) c.loop-construct.rose q r
          (c.loop-construct.invariant.3 vs _ (pass_literal (laws g) w b d ts us vs _ _ _ _ h e n)),
    )

pub loop-construct-preserved-in-If : goal.loop-construct-preserved-in-If
loop-construct-preserved-in-If g t c =
    let b = c.loop-construct.construct-iterator in
    let d = c.next.new.self in
    let p = c.in-If.first in
    let p' = c.in-If.second in
    let h : Heads b (If c.in-If.cell p p') d = subst (λ x. Heads b x d) c.in-If.is c.in-Some.ensures.steps in
    let v = reads_if b d _ c.loop-construct.invariant.2 _ _ _ h in
    let join = g.M.Mark.joined in
    let none = g.M.Mark.unmarked in
    let ts = c.loop-construct.marks in
    let us = c.spread_block-rose.new.marks in
    let us' = c.spread_block-rose-in-If.new.marks in
    let w = c.args.around in
    let r₁ = c.spread_block-rose.result in
    let r₂ = c.spread_block-rose-in-If.result in
    let inside = c.around_blocks-inside.ensures in
    let e₁ = subst (λ y. Passed join none g.M.Mark.rank p y ts us r₁) inside c.spread_block-rose.ensures in
    let e₂ = subst (λ y. Passed join none g.M.Mark.rank p' y us us' r₂) inside c.spread_block-rose-in-If.ensures in (
      h.to ∙ c.loop-construct.invariant.0,
      omega (arith, h.lies.1, h.lies.3, h.lies.4, p.ordered, p'.ordered, c.loop-construct.invariant.1),
      v.rest,
      λ vs r n.
          let P = λ (q : Bool). Passed join none g.M.Mark.rank c.args.block w c.args.marks.now vs q in
          or_more P (c.loop-construct.rose || r₁) r₂ r (or_more P c.loop-construct.rose r₁ (r₂ || r)
          (c.loop-construct.invariant.3 vs _ (pass_if (laws g) w b d ts us us' vs _ _ _ r₁ r₂ r h e₁ e₂ n))),
    )

pub loop-construct-preserved : goal.loop-construct-preserved
loop-construct-preserved g t c =
    let b = c.loop-construct.construct-iterator in
    let d = c.next.new.self in
    let p = c.in-Loop.body in
    let h : Heads b (Loop c.in-Loop.line c.in-Loop.cell c.in-Loop.bound p) d = subst (λ x. Heads b x d) c.in-Loop.is c.in-Some.ensures.steps in
    let v = reads_loop b d _ c.loop-construct.invariant.2 _ _ _ _ h in
    let join = g.M.Mark.joined in
    let none = g.M.Mark.unmarked in
    let ts = c.loop-construct.marks in
    let us = c.spread_block-rose-in-Loop.new.marks in
    let w = c.args.around in
    let r₁ = c.spread_block-rose-in-Loop.result in
    let e = subst (λ y. Passed join none g.M.Mark.rank p y ts us r₁) c.around_blocks-inside-in-Loop.ensures c.spread_block-rose-in-Loop.ensures in (
      h.to ∙ c.loop-construct.invariant.0,
      omega (arith, h.lies.2, h.lies.3, p.ordered, c.loop-construct.invariant.1),
      v.rest,
      λ vs r n. or_more (λ q. Passed join none g.M.Mark.rank c.args.block w c.args.marks.now vs q) c.loop-construct.rose r₁ r
          (c.loop-construct.invariant.3 vs _ (pass_loop (laws g) w b d ts us vs _ _ _ _ r₁ r h e n)),
    )

pub returns : goal.returns
returns g t c =
    let b = c.loop-construct.construct-iterator in
    let P = λ (q : Bool). Passed g.M.Mark.joined g.M.Mark.unmarked g.M.Mark.rank c.args.block c.args.around c.args.marks.now c.loop-construct.marks q in
    or_none P c.loop-construct.rose (c.loop-construct.invariant.3 c.loop-construct.marks false (pass_none (laws g) _ b c.loop-construct.marks c.in-None.ensures.steps.1))
