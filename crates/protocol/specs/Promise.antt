-- What is promised of whatever a round tells.
use Rattle.std.specs.Prelude.{◌≡◌, ℕ, Bool, true, false, cond, ◌||◌, List, [], ◌∷◌, map, length, take, Some, None, Option}
use Rattle.sheet.specs.Layout.{Program}
use Rattle.sheet.specs.Reading.{Laid}
use Rattle.marking.specs.Rules.{Least}
use Rattle.run.specs.Branching.{Out, went, broke, branching}
use Rattle.laws.specs.Laws.{Alike}
use Rattle.run.specs.Values.{Values, is_true, stated}
use Rattle.protocol.specs.Plain.{Told, plain_round}
use Rattle.protocol.specs.Terms.{terms_for, is_in}
use Rattle.protocol.specs.Watching.{Watching}
use Rattle.protocol.specs.declared.answers.Answer.{Answer}
use Rattle.protocol.specs.declared.answers.Answer.TheVariants.{Done, Left, Walked, Shown, Scored, Refused}
use Rattle.protocol.specs.declared.answers.Score.{Score}
use Rattle.protocol.specs.declared.answers.Score.TheVariants.{Right, Void}
use Rattle.protocol.specs.declared.calls.Call.{Call}
use Rattle.protocol.specs.declared.calls.Call.TheVariants.{Put, Start, Advance, Look, Withdraw, Score as AskScore}

-- What an answer says to everybody: all of it, but for what an accepted score says.
abbrev pub shared : Answer → Option Answer
shared Done = Some Done
shared (Left n) = Some (Left n)
shared (Walked r) = Some (Walked r)
shared (Shown n) = Some (Shown n)
shared (Scored r) = None
shared (Refused f) = Some (Refused f)

-- what may be laid side by side: what the answer says to everybody, and what the watcher then means
pub record Card (M : Type 0) : Type 0 where
  pub answer : Option Answer
  pub watcher : M

abbrev pub card_of : {M : Type 0} → Told M → Card M
card_of h = record { answer = shared h.answer; watcher = h.watcher }

-- each of two follows from the other
abbrev pub Exactly : Type 0 → Type 0 → Type 0
Exactly A B = (A → B) × (B → A)

-- A bound breaks in the branching run; else the run ends with these cells.
abbrev pub Breaks : Out → Type 0
Breaks o = (l : ℕ) × (u : List ℕ) × (o ≡ broke l u)

-- The score that a branching run deserves: void exactly when a bound breaks, otherwise right exactly when the verdict
-- cell ends true.
pub record Deserves (v : Values) (verdict : ℕ) (o : Out) (r : Score) : Type 0 where
  pub void : Exactly (r ≡ Void) (Breaks o)
  pub right : (u : List ℕ) → o ≡ went u → Exactly (r ≡ Right) (is_true v u verdict ≡ true)

abbrev pub is_refused : Answer → Bool
is_refused Done = false
is_refused (Left n) = false
is_refused (Walked r) = false
is_refused (Shown n) = false
is_refused (Scored r) = false
is_refused (Refused f) = true

-- the setter's cells after a call: an accepted put writes its literal
abbrev pub laid : Values → Call → Answer → List ℕ → List ℕ
laid v (Put x n) a w = cond (is_refused a) w (stated v x n w)
laid v Start a w = w
laid v (Advance k) a w = w
laid v (Look x) a w = w
laid v Withdraw a w = w
laid v AskScore a w = w

-- the setter's cells at the latest accepted start, if there was one
abbrev pub begun : Call → Answer → List ℕ → Option (List ℕ) → Option (List ℕ)
begun Start a w o = cond (is_refused a) o (Some w)
begun (Put x n) a w o = o
begun (Advance k) a w o = o
begun (Look x) a w o = o
begun Withdraw a w o = o
begun AskScore a w o = o

abbrev pub Deserved : Values → Program → Option (List ℕ) → Answer → Type 0
Deserved v p o Done = Unit {0}
Deserved v p o (Left n) = Unit {0}
Deserved v p o (Walked r) = Unit {0}
Deserved v p o (Shown n) = Unit {0}
Deserved v p o (Scored r) = (w : List ℕ) × (o ≡ Some w) × Deserves v p.verdict (branching v p.code 0 w) r
Deserved v p o (Refused f) = Unit {0}

-- Every accepted score is what the branching run deserves from the setter's cells at the latest accepted start; the
-- setter's cells are now w, and o at that start.
abbrev pub Scores : Values → Program → List ℕ → Option (List ℕ) → List Call → List Answer → Type 0
Scores v p w o [] xs = Unit {0}
Scores v p w o (c ∷ cs) [] = Unit {0}
Scores v p w o (c ∷ cs) (a ∷ xs) = Deserved v p o a × Scores v p (laid v c a w) (begun c a w o) cs xs

abbrev pub answers_of : {M : Type 0} → List (Told M) → List Answer
answers_of = map (λ h. h.answer)

-- The promise, of what a round of the program that the bytes lay out tells after each of the calls.
pub record Promise {M : Type 0} (bs : List ℕ) (v : Values) (p : Program) (covered : ℕ → Bool) (w : Watching M) (tries : ℕ) (setter working : List ℕ) (m : M) (cs : List Call) (told : List (Told M)) : Type 0 where
  -- it is what the plain round tells
  pub plain : told ≡ plain_round (terms_for v p covered) p.code w tries setter working m cs
  -- after each call, and not only the last: what is told of the first calls is what they alone would have been told
  pub each : (k : ℕ) → take k told ≡ plain_round (terms_for v p covered) p.code w tries setter working m (take k cs)
  -- it is alike for every other opening of the same bytes that agrees in the cells that are not marked
  pub alike : (q : Program) (covered' : ℕ → Bool) → Laid bs q → Least ◌||◌ (λ _. true) covered' q.marks q.code →
      (setter' working' : List ℕ) → Alike (is_in q.marks) setter setter' → length working ≡ length working' →
      map card_of told ≡ map card_of (plain_round (terms_for v q covered') q.code w tries setter' working' m cs)
  -- every accepted score is deserved
  pub scores : Scores v p setter None cs (answers_of told)
