-- What is promised of opening a round and playing a list, on one round and on two.
use Rattle.std.specs.Prelude.{◌≡◌, ℕ, Bool, List, [], ◌∷◌, ◌++◌, map, length, drop, Ok, Err, Option, Result}
use Rattle.std.specs.Option.{option_map}
use Rattle.sheet.specs.Checks.{or_else}
use Rattle.sheet.specs.Layout.{Program}
use Rattle.sheet.specs.Reading.{Laid, Filled}
use Rattle.onepath.specs.Converting.{covers, Covered, Stepped}
use Rattle.value.specs.declared.kinds.Value.{Ghosts}
use Rattle.watch.specs.declared.watchers.Watcher.{Ghosts as WatcherGhosts}
use Rattle.laws.specs.Laws.{Alike}
use Rattle.run.specs.Values.{kind_of}
use Rattle.protocol.specs.Plain.{Told, opened, ends}
use Rattle.protocol.specs.Promise.{Promise, answers_of, card_of}
use Rattle.protocol.specs.Stands.{Stand}
use Rattle.protocol.specs.Terms.{is_in, terms_for}
use Rattle.protocol.specs.Watching.{watch_of}
use Rattle.protocol.specs.declared.answers.Answer.{Answer}
use Rattle.protocol.specs.declared.calls.Call.{Call}
use Rattle.session.specs.Lists.{list_fault}
use Rattle.session.specs.Opening.{Tables}
use Rattle.session.specs.Refusals.{open_fault}
use Rattle.session.specs.declared.faults.PlayFault.{PlayFault}
use Rattle.session.specs.declared.faults.PlayFault.TheVariants.{Open}
use Rattle.session.specs.declared.opening.Lent.{Lent}
use Rattle.session.specs.declared.lists.Board.{Board}

-- the first fault of an opening and then of its list of n calls with m answer places
abbrev pub play_fault : List ℕ → Lent → ℕ → ℕ → ℕ → Option PlayFault
play_fault bs l k n m = or_else (option_map Open (open_fault bs l k)) (list_fault n m)

-- the first fault of two rounds, each with its own cells and answers
abbrev pub pair_fault : List ℕ → Lent → Lent → ℕ → ℕ → ℕ → ℕ → Option PlayFault
pair_fault bs a b k n i j = or_else (option_map Open (open_fault bs a k)) (or_else (option_map Open (open_fault bs b k)) (or_else (list_fault n i) (list_fault n j)))

-- what one player lends beside the tables
pub record Side (V W : Type 0) : Type 0 where
  pub setter : List V
  pub working : List V
  pub watcher : W
  pub answers : List Answer

abbrev pub side_of : {V W : Type 0} → List V → List V → W → List Answer → Side V W
side_of setter working watcher answers = record { setter = setter; working = working; watcher = watcher; answers = answers }

-- what a board holds, with the answers
abbrev pub side_at : {V W : Type 0} → Board V W → List Answer → Side V W
side_at b answers = side_of b.setter.now b.working.now b.watcher.now answers

-- what the watcher means after the last call
abbrev pub last_of : {M : Type 0} → M → List (Told M) → M
last_of m [] = m
last_of m (h ∷ hs) = last_of h.watcher hs

-- the tables hold what the program needs, and the covered cells are the least set that the rules allow
pub record Ready (bs : List ℕ) (before after : Tables) (p : Program) : Type 0 where
  pub laid : Laid bs p
  pub filled : Filled p before.lines after.lines
  pub covered : Covered p before.marks after.marks
  pub number : ℕ
  pub stepped : Stepped p after.marks before.steps after.steps number

-- how a round of the program, opened with k tries, stands after the calls
abbrev pub stands_at : {V W : Type 0} → Ghosts V → (h : WatcherGhosts W) → Program → (ℕ → Bool) → ℕ → Side V W → List Call → Stand h.Meaning
stands_at g h p covered k a cs =
    ends (terms_for (kind_of g) p covered) (watch_of h) (opened k (map g.meaning a.setter) (map g.meaning a.working) (h.meaning a.watcher)) cs

-- One player's side after the calls. What was told keeps the promise; the answers are those told, the spare places are
-- as they were, and the cells and the watcher are as the round stands.
pub record Played {V W : Type 0} (g : Ghosts V) (h : WatcherGhosts W) (bs : List ℕ) (p : Program) (covered : ℕ → Bool) (k : ℕ) (before after : Side V W) (cs : List Call) : Type 0 where
  pub told : List (Told h.Meaning)
  pub promise : Promise bs (kind_of g) p covered (watch_of h) k (map g.meaning before.setter) (map g.meaning before.working) (h.meaning before.watcher) cs told
  pub answers : after.answers ≡ answers_of told ++ drop (length cs) before.answers
  pub watcher : h.meaning after.watcher ≡ last_of (h.meaning before.watcher) told
  pub setter : map g.meaning after.setter ≡ (stands_at g h p covered k before cs).setter
  pub working : map g.meaning after.working ≡ (stands_at g h p covered k before cs).run.cells

-- A list that is refused moves nothing.
abbrev pub Plays : {V W : Type 0} → Ghosts V → WatcherGhosts W → List ℕ → Tables → Tables → ℕ → Side V W → Side V W → List Call → Result (Unit {0}) PlayFault → Type 0
Plays g h bs before after k a a' cs (Ok _) = (p : Program) × Ready bs before after p × Played g h bs p (covers p after.marks) k a a' cs
Plays g h bs before after k a a' cs (Err f) = (after ≡ before) × (a' ≡ a)

-- Two rounds that differ in marked cells only: after each call the cards are alike, and so are the watchers.
pub record CardsAlike {V W : Type 0} (g : Ghosts V) (h : WatcherGhosts W) (bs : List ℕ) (p : Program) (covered : ℕ → Bool) (k : ℕ) (a a' b b' : Side V W) (cs : List Call) : Type 0 where
  pub first : Played g h bs p covered k a a' cs
  pub second : Played g h bs p covered k b b' cs
  pub alike : Alike (is_in p.marks) (map g.meaning a.setter) (map g.meaning b.setter) → h.meaning a.watcher ≡ h.meaning b.watcher →
      (map card_of first.told ≡ map card_of second.told) × (h.meaning a'.watcher ≡ h.meaning b'.watcher)

abbrev pub PlaysBoth : {V W : Type 0} → Ghosts V → WatcherGhosts W → List ℕ → Tables → Tables → ℕ → Side V W → Side V W → Side V W → Side V W → List Call → Result (Unit {0}) PlayFault → Type 0
PlaysBoth g h bs before after k a a' b b' cs (Ok _) = (p : Program) × Ready bs before after p × CardsAlike g h bs p (covers p after.marks) k a a' b b' cs
PlaysBoth g h bs before after k a a' b b' cs (Err f) = (after ≡ before) × (a' ≡ a) × (b' ≡ b)
