use Rattle.std.proofs.Common.{◌≡◌, ◌-◌}
use Rattle.protocol.specs.Advancing.{later}
use Rattle.round.specs.Rounds.{walk_of}
use Rattle.round.proofs.walking.walk.Given as goal

-- what is left of the walk makes it whole
abbrev pub invariant-loop-done : goal.invariant-loop-done
invariant-loop-done g l =
    let V = g.V.Value in
    let W = g.W.Watcher in
    (later l.done (walk_of V W l.steps (l.count - l.done) l.track l.working l.watcher) ≡ walk_of V W l.steps l.count l.initial.track l.initial.working l.initial.watcher) ×
    (W.loan l.watcher ≡ W.loan l.initial.watcher)
