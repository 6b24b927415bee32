use Rattle.std.proofs.Common.{◌≡◌, suc, ◌+◌, ◌-◌, cond, sym, ap, ◌∙◌, arith}
use Rattle.run.specs.Machine.{state_of, next}
use Rattle.run.specs.Values.{kind_of}
use Rattle.protocol.specs.Advancing.{advanced, over_by, later}
use Rattle.protocol.specs.Watching.{watch_of}
use Rattle.protocol.specs.declared.answers.Ending.TheVariants.{Stopped}
use Rattle.protocol.proofs.Advances.{advanced_over, advanced_stopped, advanced_more, halts_after, later_one}
use Rattle.round.proofs.walking.walk.Goals as goal

pub returns-then-is_over : goal.returns-then-is_over
returns-then-is_over g c =
    let v = kind_of g.V.Value in
    let w = watch_of g.W.Watcher in
    let ts = c.args.steps.now in
    let s = state_of g.V.Value c.loop-done.track c.loop-done.working in
    let m = g.W.Watcher.meaning c.loop-done.watcher in
    let h = sym c.if-is_over.ensures in
    let x = halts_after v ts w c.loop-done.done (over_by s.track.broken) s m _ _ c.loop-done.invariant.0 (advanced_over v ts w (c.args.count - c.loop-done.done) s m h) in
    record { told = ap (λ e. record { steps = c.loop-done.done; ending = e }) c.over.ensures ∙ x.told; run = x.run; watching = x.watcher; loan = c.loop-done.invariant.1 }

pub returns-then-not-offer : goal.returns-then-not-offer
returns-then-not-offer g c =
    let v = kind_of g.V.Value in
    let h = g.W.Watcher in
    let w = watch_of h in
    let ts = c.args.steps.now in
    let s = state_of g.V.Value c.loop-done.track c.loop-done.working in
    let m = h.meaning c.loop-done.watcher in
    let k = c.args.count - c.loop-done.done in
    let e : k ≡ suc (k - 1) = omega arith in
    let declined = sym c.offer.ensures.answer ∙ c.if-not-offer.true in
    let kept = c.offer.ensures.after ∙ ap (λ b. cond b (h.becomes m s.track.place) m) c.if-not-offer.true in
    let x = halts_after v ts w c.loop-done.done Stopped s m _ _ c.loop-done.invariant.0 (advanced_stopped v ts w k (k - 1) s m e (sym c.if-is_over.ensures) declined) in
    record { told = x.told; run = x.run; watching = kept ∙ x.watcher; loan = c.offer.ensures.same ∙ c.loop-done.invariant.1 }

pub loop-done-preserved : goal.loop-done-preserved
loop-done-preserved g c =
    let v = kind_of g.V.Value in
    let h = g.W.Watcher in
    let w = watch_of h in
    let ts = c.args.steps.now in
    let s = state_of g.V.Value c.loop-done.track c.loop-done.working in
    let m = h.meaning c.loop-done.watcher in
    let n = c.loop-done.done in
    let k = c.args.count - n in
    let j = c.args.count - (n + 1) in
    let e : k ≡ suc j = omega arith in
    let accepted = sym c.offer.ensures.answer ∙ c.if-not-offer.false in
    let m' = h.becomes m s.track.place in
    let means = c.offer.ensures.after ∙ ap (λ b. cond b m' m) c.if-not-offer.false in
    let more = advanced_more v ts w k j s m e (sym c.if-is_over.ensures) accepted in (
      ap (λ z. later (n + 1) (advanced v ts w j z (h.meaning c.offer.new.self))) c.step.ensures
          ∙ ap (λ z. later (n + 1) (advanced v ts w j (next v ts s) z)) means
          ∙ sym (later_one v ts w n (advanced v ts w j (next v ts s) m'))
          ∙ ap (later n) (sym more)
          ∙ c.loop-done.invariant.0,
      c.offer.ensures.same ∙ c.loop-done.invariant.1,
    )
