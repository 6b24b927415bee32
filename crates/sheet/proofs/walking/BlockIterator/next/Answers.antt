use Rattle.std.proofs.Common.{◌≡◌, ◌+◌, ◌<◌, length, refl, subst, inl, inr, arith, rules}
use Rattle.std.proofs.Math.Logic.{∥∥₁_elim}
use Rattle.sheet.specs.Spans.{Spans}
use Rattle.sheet.proofs.Heads.{spans_none, at_work, at_literal, at_if, at_loop, not_else, not_end}
use Rattle.sheet.proofs.Merely.{else_inside, no_other, in_work, in_literal, in_if, in_loop}
use Rattle.sheet.proofs.walking.BlockIterator.next.Goals as goal

pub returns-then-from-to-clause-steps : goal.returns-then-from-to-clause-steps
returns-then-from-to-clause-steps c = let b = c.args.self.now in (refl, λ k h. spans_none b.lines.now b.from b.to k c.if-from-to.true h)

pub invariant_of-self : goal.invariant_of-self
invariant_of-self c =
    let b = c.args.self.now in
    let v = in_work b.lines.now b.from b.to c.if-from-to.false b.reads _ _ _ _ c.in-Work.is in
    record { ordered = v.le; inside = b.inside; reads = v.rest }

pub invariant_of-self-in-Literal : goal.invariant_of-self-in-Literal
invariant_of-self-in-Literal c =
    let b = c.args.self.now in
    let v = in_literal b.lines.now b.from b.to c.if-from-to.false b.reads _ _ c.in-Literal.is in
    record { ordered = v.le; inside = b.inside; reads = v.rest }

pub offset_bounds-lines-partner : goal.offset_bounds-lines-partner
offset_bounds-lines-partner c =
    let b = c.args.self.now in
    let e = else_inside b.lines.now b.from b.to c.if-from-to.false b.reads _ _ c.in-If.is in
    let l : c.in-If.partner < length b.lines.now = omega (arith, e, b.inside) in
    search rules

pub bounds-in-If : goal.bounds-in-If
bounds-in-If c =
    let b = c.args.self.now in
    omega (arith, else_inside b.lines.now b.from b.to c.if-from-to.false b.reads _ _ c.in-If.is, b.inside)

pub unreachable-requires : goal.unreachable-requires
unreachable-requires c = let b = c.args.self.now in no_other b.lines.now b.from b.to c.if-from-to.false b.reads _ _ c.in-If.is c.in_default.not-Else

pub overflow_add-self-in-If : goal.overflow_add-self-in-If
overflow_add-self-in-If c =
    let b = c.args.self.now in
    let v = in_if b.lines.now b.from b.to c.if-from-to.false b.reads _ _ _ c.in-If.is c.in-Else-lines.is in
    let l : c.in-Else-lines.end < length b.lines.now = omega (arith, v.le_rest, b.inside) in
    search rules

pub invariant_of-self-in-If : goal.invariant_of-self-in-If
invariant_of-self-in-If c =
    let b = c.args.self.now in
    let v = in_if b.lines.now b.from b.to c.if-from-to.false b.reads _ _ _ c.in-If.is c.in-Else-lines.is in
    record { ordered = v.le_rest; inside = b.inside; reads = v.rest }

pub invariant_of-first : goal.invariant_of-first
invariant_of-first c =
    let b = c.args.self.now in
    let v = in_if b.lines.now b.from b.to c.if-from-to.false b.reads _ _ _ c.in-If.is c.in-Else-lines.is in
    record { ordered = v.le_first; inside = omega (arith, v.le_second, v.le_rest, b.inside); reads = v.first }

pub invariant_of-second : goal.invariant_of-second
invariant_of-second c =
    let b = c.args.self.now in
    let v = in_if b.lines.now b.from b.to c.if-from-to.false b.reads _ _ _ c.in-If.is c.in-Else-lines.is in
    record { ordered = v.le_second; inside = omega (arith, v.le_rest, b.inside); reads = v.second }

pub overflow_add-self-in-Loop : goal.overflow_add-self-in-Loop
overflow_add-self-in-Loop c =
    let b = c.args.self.now in
    let v = in_loop b.lines.now b.from b.to c.if-from-to.false b.reads _ _ _ c.in-Loop.is in
    let l : c.in-Loop.partner < length b.lines.now = omega (arith, v.le_rest, b.inside) in
    search rules

pub invariant_of-self-in-Loop : goal.invariant_of-self-in-Loop
invariant_of-self-in-Loop c =
    let b = c.args.self.now in
    let v = in_loop b.lines.now b.from b.to c.if-from-to.false b.reads _ _ _ c.in-Loop.is in
    record { ordered = v.le_rest; inside = b.inside; reads = v.rest }

pub invariant_of-body : goal.invariant_of-body
invariant_of-body c =
    let b = c.args.self.now in
    let v = in_loop b.lines.now b.from b.to c.if-from-to.false b.reads _ _ _ c.in-Loop.is in
    record { ordered = v.le_first; inside = omega (arith, v.le_rest, b.inside); reads = v.first }

pub unreachable-requires-in-Else : goal.unreachable-requires-in-Else
unreachable-requires-in-Else c =
    let b = c.args.self.now in
    ∥∥₁_elim b.reads (λ x y. absurd x)
    (λ k. elim c.in-Else.is [
      | inl h ↦ not_else b.lines.now b.from b.to c.if-from-to.false h.0 h.1 k.0 k.1
      | inr h ↦ not_end b.lines.now b.from b.to c.if-from-to.false h.0 h.1 k.0 k.1
    ])

pub returns-in-Work-clause-steps : goal.returns-in-Work-clause-steps
returns-in-Work-clause-steps c =
    let b = c.args.self.now in
    record {
      lines = refl;
      to = refl;
      lies = refl;
      begins = λ k h. let v = at_work b.lines.now b.from b.to c.if-from-to.false _ _ _ _ c.in-Work.is k h in (v.rest, v.is, v.spans);
    }

pub returns-in-Literal-clause-steps : goal.returns-in-Literal-clause-steps
returns-in-Literal-clause-steps c =
    let b = c.args.self.now in
    record {
      lines = refl;
      to = refl;
      lies = refl;
      begins = λ k h. let v = at_literal b.lines.now b.from b.to c.if-from-to.false _ _ c.in-Literal.is k h in (v.rest, v.is, v.spans);
    }

pub returns-in-Else-lines-clause-steps : goal.returns-in-Else-lines-clause-steps
returns-in-Else-lines-clause-steps c =
    let b = c.args.self.now in
    record {
      lines = refl;
      to = refl;
      lies = (refl, refl, refl, refl, refl);
      begins = λ k h.
          let v = at_if b.lines.now b.from b.to c.if-from-to.false _ _ c.in-If.is k h in
          let m = v.mid in
          let e : v.z ≡ c.in-Else-lines.end = cc in (
            v.rest,
            (v.first, v.second, v.spans_first, subst (λ y. Spans b.lines.now (c.in-If.partner + 1) y v.second) e v.spans_second, v.is),
            subst (λ y. Spans b.lines.now (y + 1) b.to v.rest) e v.spans_rest,
          );
    }

pub returns-in-Loop-clause-steps : goal.returns-in-Loop-clause-steps
returns-in-Loop-clause-steps c =
    let b = c.args.self.now in
    record {
      lines = refl;
      to = refl;
      lies = (refl, refl, refl, refl);
      begins = λ k h. let v = at_loop b.lines.now b.from b.to c.if-from-to.false _ _ _ c.in-Loop.is k h in (v.rest, (v.first, v.spans_first, v.is), v.spans_rest);
    }
