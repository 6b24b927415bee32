use Rattle.std.proofs.Common.{rules, ◌≡◌, length, None, sym, ◌∙◌, subst}
use Rattle.sheet.proofs.Verdicts.{laid_cells}
use Rattle.onepath.specs.Converting.{covers}
use Rattle.session.specs.Lists.{desk_at, HearsAll}
use Rattle.session.specs.Opening.{holds, lent_by}
use Rattle.session.specs.Playing.{side_at}
use Rattle.session.specs.Refusals.{open_fault}
use Rattle.session.proofs.Openings.{passed, as_new}
use Rattle.session.proofs.PlayedOut.{ready, played, cards_alike}
use Rattle.session.proofs.playing.play_pair.Goals as goal

pub returns-clause-plays : goal.returns-clause-plays
returns-clause-plays g c =
    let V = g.V.Value in
    let W = g.W.Watcher in
    let bs = c.args.bytes.now in
    let k = c.args.tries in
    let cs = c.args.calls.now in
    let before = holds c.args.tables.now in
    let after = holds c.open_with.new.tables in
    let first = c.args.first.now in
    let second = c.args.second.now in
    let n = length first.setter.now in
    let m = length first.working.now in
    let lent = lent_by before (length second.setter.now) (length second.working.now) in
    let passed-second : None ≡ open_fault bs lent k = search (rules, c.in_ok-check_opening-2.ensures.first, c.of-other_lent.ensures) in
    let o = c.in_ok-round.ensures.opens in
    let r = c.in_ok-round.round.at in
    let x = c.play_calls.new in
    let y = c.play_calls-2.new in
    let p = o.program in
    let new = c.again-other.ensures ∙ as_new r k o.new.phase o.new.tries o.new.track (passed bs lent k (sym passed-second)).few in
    let one =
    played V W bs before after k n m r o (desk_at x.round.at x.board) first.setter.now first.working.now first.watcher.now cs c.args.first_answers.now x.answers c.play_calls.ensures.hears
    in
    let two =
    played V W bs before after k n m r o (desk_at y.round.at y.board) second.setter.now second.working.now second.watcher.now cs c.args.second_answers.now y.answers
    (subst (λ z. HearsAll V W after.steps (desk_at z second) (desk_at y.round.at y.board) cs c.args.second_answers.now y.answers) new c.play_calls-2.ensures.hears)
    in
    let long = o.working ∙ sym ((passed bs lent k (sym passed-second)).working ∙ laid_cells bs p o.laid) in (
      p,
      ready o,
      cards_alike V W bs p (covers p after.marks) o.laid o.covered.least k cs (side_at first c.args.first_answers.now) (side_at x.board x.answers) (side_at second c.args.second_answers.now) (side_at y.board y.answers) one two long,
    )
