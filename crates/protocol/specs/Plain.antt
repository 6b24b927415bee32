-- The plain round: a round that keeps a verdict, which a start sets to what the branching run comes to, and a score
-- says. It is fed the opening, the watcher's first meaning and the calls.
use Rattle.std.specs.Prelude.{ℕ, List, [], ◌∷◌, Some, None, Option}
use Rattle.sheet.specs.Code.{Code}
use Rattle.run.specs.Branching.{branching}
use Rattle.run.specs.Judging.{verdict_of}
use Rattle.run.specs.Machine.{fresh}
use Rattle.protocol.specs.Calls.{refusal, path_score, score_of, moved, after, answer}
use Rattle.protocol.specs.Stands.{Stand}
use Rattle.protocol.specs.Terms.{Terms}
use Rattle.protocol.specs.Watching.{Watching}
use Rattle.protocol.specs.declared.answers.Answer.{Answer}
use Rattle.protocol.specs.declared.answers.Score.{Score}
use Rattle.protocol.specs.declared.answers.Score.TheVariants.{Wrong}
use Rattle.protocol.specs.declared.calls.Call.{Call}
use Rattle.protocol.specs.declared.calls.Call.TheVariants.{Put, Start, Advance, Look, Withdraw, Score as AskScore}
use Rattle.protocol.specs.declared.calls.Phase.TheVariants.{Laying}

-- what is told after a call: the answer, and what the watcher then means
pub record Told (M : Type 0) : Type 0 where
  pub answer : Answer
  pub watcher : M

-- a new round
abbrev pub opened : {M : Type 0} → ℕ → List ℕ → List ℕ → M → Stand M
opened tries setter working m = record { phase = Laying; tries = tries; setter = setter; run = fresh working; watcher = m }

-- the round itself, whose score is what its run of the one path comes to
abbrev pub tells : {M : Type 0} → Terms → Watching M → Stand M → List Call → List (Told M)
tells t w s [] = []
tells t w s (c ∷ cs) =
    let s' = after t w s c in
    record { answer = answer t w s (path_score t s.run) c; watcher = s'.watcher } ∷ tells t w s' cs

-- how it stands after the calls
abbrev pub ends : {M : Type 0} → Terms → Watching M → Stand M → List Call → Stand M
ends t w s [] = s
ends t w s (c ∷ cs) = ends t w (after t w s c) cs

pub record Plain (M : Type 0) : Type 0 where
  pub stand : Stand M
  pub verdict : Option Score

-- the verdict that a score says; before any start there is none, and no score is accepted
abbrev pub kept : Option Score → Score
kept None = Wrong
kept (Some r) = r

-- what the branching run comes to from these cells
abbrev pub branching_score : Terms → Code → List ℕ → Score
branching_score t code w = score_of (verdict_of t.values t.verdict (branching t.values code 0 w))

-- an accepted start sets the verdict
abbrev pub verdict_after : {M : Type 0} → Terms → Code → Plain M → Call → Option Score
verdict_after t code p Start = moved (refusal t p.stand Start) (Some (branching_score t code p.stand.setter)) p.verdict
verdict_after t code p (Put x n) = p.verdict
verdict_after t code p (Advance k) = p.verdict
verdict_after t code p (Look x) = p.verdict
verdict_after t code p Withdraw = p.verdict
verdict_after t code p AskScore = p.verdict

abbrev pub plain_after : {M : Type 0} → Terms → Code → Watching M → Plain M → Call → Plain M
plain_after t code w p c = record { stand = after t w p.stand c; verdict = verdict_after t code p c }

abbrev pub plain_tells : {M : Type 0} → Terms → Code → Watching M → Plain M → List Call → List (Told M)
plain_tells t code w p [] = []
plain_tells t code w p (c ∷ cs) =
    let p' = plain_after t code w p c in
    record { answer = answer t w p.stand (kept p.verdict) c; watcher = p'.stand.watcher } ∷ plain_tells t code w p' cs

-- what the plain round tells, from its opening on
abbrev pub plain_round : {M : Type 0} → Terms → Code → Watching M → ℕ → List ℕ → List ℕ → M → List Call → List (Told M)
plain_round t code w tries setter working m cs = plain_tells t code w (record { stand = opened tries setter working m; verdict = None }) cs
