use Rattle.std.proofs.Common.{◌≡◌, suc, ◌+◌, ◌-◌, map, sym, ◌∙◌, subst, arith}
use Rattle.sheet.specs.Blocks.{Heads}
use Rattle.sheet.specs.declared.block.Construct.TheVariants.{If, Loop}
use Rattle.run.specs.Branching.{went, broke, branching}
use Rattle.run.specs.Values.{kind_of}
use Rattle.run.proofs.Going.{broke_on, after_first, after_second, after_loop, pass_ends, pass_goes, pass_breaks}
use Rattle.run.proofs.branching.+run_block_run_loop.Goals as goal

pub run_block-loop-construct-preserved-in-Continue-1 :
    goal.run_block-loop-construct-preserved-in-Continue-1
run_block-loop-construct-preserved-in-Continue-1 g t c =
    let w = map g.V.Value.meaning c.loop-construct.cells in
    let b = c.loop-construct.construct-iterator in
    let d = c.next.new.self in
    let h : Heads b (If c.in-If.cell c.in-If.first c.in-If.second) d = subst (λ x. Heads b x d) c.in-If.is c.in-Some.ensures.steps in (
      h.to ∙ c.loop-construct.invariant.0,
      omega (arith, h.lies.1, h.lies.3, h.lies.4, c.in-If.first.ordered, c.in-If.second.ordered, c.loop-construct.invariant.1),
      λ k s.
          let r = c.loop-construct.invariant.2 k s in
          let a = after_first (kind_of g.V.Value) b d w r.0 r.1 _ _ _ h (went (map g.V.Value.meaning c.run_block.new.cells)) (sym c.is_true.ensures ∙ c.if-is_true.true) c.in_ok-run_block-in-If.ensures in
          (a.rest, a.left, sym a.is ∙ r.2),
    )

pub run_block-loop-construct-preserved-in-Continue-branch-2 :
    goal.run_block-loop-construct-preserved-in-Continue-branch-2
run_block-loop-construct-preserved-in-Continue-branch-2 g t c =
    let w = map g.V.Value.meaning c.loop-construct.cells in
    let b = c.loop-construct.construct-iterator in
    let d = c.next.new.self in
    let h : Heads b (If c.in-If.cell c.in-If.first c.in-If.second) d = subst (λ x. Heads b x d) c.in-If.is c.in-Some.ensures.steps in (
      h.to ∙ c.loop-construct.invariant.0,
      omega (arith, h.lies.1, h.lies.3, h.lies.4, c.in-If.first.ordered, c.in-If.second.ordered, c.loop-construct.invariant.1),
      λ k s.
          let r = c.loop-construct.invariant.2 k s in
          let a = after_second (kind_of g.V.Value) b d w r.0 r.1 _ _ _ h (went (map g.V.Value.meaning c.run_block-else-is_true.new.cells)) (sym c.is_true.ensures ∙ c.if-is_true.false) c.in_ok-run_block-in-If-2.ensures in
          (a.rest, a.left, sym a.is ∙ r.2),
    )

pub run_block-returns-in_err-run_block-in-If-2 : goal.run_block-returns-in_err-run_block-in-If-2
run_block-returns-in_err-run_block-in-If-2 g t c =
    let w = map g.V.Value.meaning c.loop-construct.cells in
    let b = c.loop-construct.construct-iterator in
    let d = c.next.new.self in
    let h : Heads b (If c.in-If.cell c.in-If.first c.in-If.second) d = subst (λ x. Heads b x d) c.in-If.is c.in-Some.ensures.steps in
    let u = map g.V.Value.meaning c.run_block-else-is_true.new.cells in
    let e = c.in_err-run_block-in-If-2.field-0.0 in
    λ k s.
    let r = c.loop-construct.invariant.2 k s in
    let a = after_second (kind_of g.V.Value) b d w r.0 r.1 _ _ _ h (broke e u) (sym c.is_true.ensures ∙ c.if-is_true.false) c.in_err-run_block-in-If-2.ensures in
    broke_on _ e u c.from_residual-in_err-run_block-in-If-2.ensures.1 ∙ sym a.is ∙ r.2

pub run_block-loop-construct-preserved : goal.run_block-loop-construct-preserved
run_block-loop-construct-preserved g t c =
    let w = map g.V.Value.meaning c.loop-construct.cells in
    let b = c.loop-construct.construct-iterator in
    let d = c.next.new.self in
    let h : Heads b (Loop c.in-Loop.line c.in-Loop.cell c.in-Loop.bound c.in-Loop.body) d = subst (λ x. Heads b x d) c.in-Loop.is c.in-Some.ensures.steps in (
      h.to ∙ c.loop-construct.invariant.0,
      omega (arith, h.lies.2, h.lies.3, c.in-Loop.body.ordered, c.loop-construct.invariant.1),
      λ k s.
          let r = c.loop-construct.invariant.2 k s in
          let a = after_loop (kind_of g.V.Value) b d w r.0 r.1 _ _ _ _ h (went (map g.V.Value.meaning c.run_loop.new.cells)) c.in_ok-run_loop-in-Loop.ensures in
          (a.rest, a.left, sym a.is ∙ r.2),
    )

pub run_loop-returns-then-not-is_true : goal.run_loop-returns-then-not-is_true
run_loop-returns-then-not-is_true g t c =
    let v = kind_of g.V.Value in
    let f = g.V.Value.meaning in
    let n = c.args.bound - c.loop.counter in
    let m = c.args.bound - (c.loop.counter + 1) in
    let e : n ≡ suc m = omega arith in
    let w = map f c.loop.cells in
    λ p s. sym (pass_ends v c.args.cell c.args.line (branching v p c.args.body.from) n m e w (sym c.if-not-is_true.ensures)) ∙ c.loop.invariant p s

pub run_loop-returns-in_err-run_block : goal.run_loop-returns-in_err-run_block
run_loop-returns-in_err-run_block g t c =
    let v = kind_of g.V.Value in
    let f = g.V.Value.meaning in
    let n = c.args.bound - c.loop.counter in
    let m = c.args.bound - (c.loop.counter + 1) in
    let e : n ≡ suc m = omega arith in
    let w = map f c.loop.cells in
    λ p s.
    broke_on _ _ (map f c.run_block.new.cells) c.from_residual.ensures.1 ∙ sym (pass_breaks v c.args.cell c.args.line (branching v p c.args.body.from) n m e w c.in_err-run_block.field-0.0 (map f c.run_block.new.cells) (sym c.if-not-is_true.ensures) (c.in_err-run_block.ensures p s)) ∙ c.loop.invariant p s

pub run_loop-loop-preserved : goal.run_loop-loop-preserved
run_loop-loop-preserved g t c =
    let v = kind_of g.V.Value in
    let f = g.V.Value.meaning in
    let n = c.args.bound - c.loop.counter in
    let m = c.args.bound - (c.loop.counter + 1) in
    let e : n ≡ suc m = omega arith in
    let w = map f c.loop.cells in
    λ p s.
    sym (pass_goes v c.args.cell c.args.line (branching v p c.args.body.from) n m e w (map f c.run_block.new.cells) (sym c.if-not-is_true.ensures) (c.in_ok-run_block.ensures p s)) ∙ c.loop.invariant p s
