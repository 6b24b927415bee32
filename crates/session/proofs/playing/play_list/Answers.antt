use Rattle.std.proofs.Common.{length}
use Rattle.session.specs.Lists.{desk_at}
use Rattle.session.specs.Opening.{holds}
use Rattle.session.proofs.PlayedOut.{ready, played}
use Rattle.session.proofs.playing.play_list.Goals as goal

pub returns-clause-plays : goal.returns-clause-plays
returns-clause-plays g c =
    let before = c.args.board.now in
    let after = c.play_calls.new.board in
    let n = length before.setter.now in
    let m = length before.working.now in
    let o = c.in_ok-round.ensures.opens in (
      o.program,
      ready o,
      played g.V.Value g.W.Watcher c.args.bytes.now (holds c.args.tables.now) (holds c.open_with.new.tables) c.args.tries n m c.in_ok-round.round.at o
          (desk_at c.play_calls.new.round.at after) before.setter.now before.working.now before.watcher.now c.args.calls.now c.args.answers.now c.play_calls.new.answers c.play_calls.ensures.hears,
    )
