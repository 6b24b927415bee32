use Rattle.std.proofs.Common.{◌≡◌, ◌++◌, length, take, drop}
use Rattle.protocol.specs.Plain.{tells, ends}
use Rattle.protocol.specs.Promise.{answers_of}
use Rattle.protocol.specs.Watching.{watch_of}
use Rattle.round.specs.Rounds.{terms_of, stand_of}
use Rattle.session.specs.Lists.{SameBoard}
use Rattle.session.proofs.lists.answer_all.Given as goal

-- the answers so far, and those that the calls left will get, are the answers to all the calls
abbrev pub invariant-loop-i : goal.invariant-loop-i
invariant-loop-i g l =
    let V = g.V.Value in
    let W = g.W.Watcher in
    let t = terms_of V l.initial.round.at l.steps in
    let here = stand_of V W l.round.at l.board.setter.now l.board.working.now l.board.watcher.now in
    let start = stand_of V W l.initial.round.at l.initial.board.setter.now l.initial.board.working.now l.initial.board.watcher.now in
    (take l.i l.answers ++ answers_of (tells t (watch_of W) here (drop l.i l.calls)) ≡ answers_of (tells t (watch_of W) start l.calls)) ×
    (drop (length l.calls) l.answers ≡ drop (length l.calls) l.initial.answers) ×
    (length l.answers ≡ length l.initial.answers) ×
    (ends t (watch_of W) here (drop l.i l.calls) ≡ ends t (watch_of W) start l.calls) ×
    (terms_of V l.round.at l.steps ≡ t) ×
    (W.loan l.board.watcher.now ≡ W.loan l.initial.board.watcher.now) ×
    SameBoard l.initial.board l.board
