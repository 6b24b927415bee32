-- A round's record, with what is lent to it, as a round that stands on its terms.
use Rattle.std.specs.Prelude.{◌≡◌, ℕ, ◌-◌, min, Bool, false, List, [], map, length, take, None, Option, slice_index_or}
use Rattle.onepath.specs.declared.paths.OnePath.{OnePath}
use Rattle.onepath.specs.declared.steps.Step.{Step}
use Rattle.value.specs.declared.kinds.Value.{Ghosts}
use Rattle.watch.specs.declared.watchers.Watcher.{Ghosts as WatcherGhosts}
use Rattle.run.specs.Machine.{at_first, state_of}
use Rattle.run.specs.Values.{kind_of}
use Rattle.run.specs.declared.track.Track.{Track}
use Rattle.protocol.specs.Advancing.{Walk, advanced}
use Rattle.protocol.specs.Calls.{put_fault, start_fault, advance_fault, look_fault, score_fault, in_laying, in_play}
use Rattle.protocol.specs.Stands.{Stand}
use Rattle.protocol.specs.Terms.{Terms}
use Rattle.protocol.specs.Watching.{watch_of}
use Rattle.protocol.specs.declared.calls.Phase.{Phase}
use Rattle.protocol.specs.declared.calls.Phase.TheVariants.{Laying, InPlay}
use Rattle.protocol.specs.declared.refusals.Refusal.{Refusal}
use Rattle.round.specs.Tables.{Marks, Pads}
use Rattle.round.specs.declared.records.Record.{Record}

-- the terms on which it stands, with this step table lent
abbrev pub terms_of : {V : Type 0} → Ghosts V → Record → List Step → Terms
terms_of g r table =
    record {
      values = kind_of g;
      cells = r.cells;
      marked = λ x. slice_index_or r.secrets.marked x false;
      covered = λ x. slice_index_or r.secrets.covered x false;
      verdict = r.verdict;
      steps = take r.steps table;
    }

-- how it stands, with these cells and this watcher lent
abbrev pub stand_of : {V W : Type 0} → Ghosts V → (h : WatcherGhosts W) → Record → List V → List V → W → Stand h.Meaning
stand_of g h r setter working watcher =
    record { phase = r.phase; tries = r.tries; setter = map g.meaning setter; run = state_of g r.track working; watcher = h.meaning watcher }

-- the record with another phase, and with another track
abbrev pub phased : Phase → Record → Record
phased h r = record { phase = h; tries = r.tries; cells = r.cells; steps = r.steps; verdict = r.verdict; secrets = r.secrets; track = r.track }

abbrev pub tracked : Track → Record → Record
tracked k r = record { phase = r.phase; tries = r.tries; cells = r.cells; steps = r.steps; verdict = r.verdict; secrets = r.secrets; track = k }

-- the record of a new round of the same sheet; no round has more than 100 tries
abbrev pub renewed : Record → ℕ → Record
renewed r k = record { phase = Laying; tries = min k 100; cells = r.cells; steps = r.steps; verdict = r.verdict; secrets = r.secrets; track = at_first }

-- the record after a start: one try fewer, and a run before its first step
abbrev pub started : Record → Record
started r = record { phase = InPlay; tries = r.tries - 1; cells = r.cells; steps = r.steps; verdict = r.verdict; secrets = r.secrets; track = at_first }

-- Why the record refuses each call, with so many setter's (n) and working cells (m) lent.
abbrev pub put_says : {V : Type 0} → Ghosts V → Record → ℕ → ℕ → Option Refusal
put_says g r n x = in_laying r.phase (put_fault (terms_of g r []) n x)

abbrev pub start_says : {V : Type 0} → Ghosts V → Record → ℕ → ℕ → Option Refusal
start_says g r n m = in_laying r.phase (start_fault (terms_of g r []) r.tries n m)

abbrev pub advance_says : {V : Type 0} → Ghosts V → Record → ℕ → Option Refusal
advance_says g r m = in_play r.phase (advance_fault (terms_of g r []) m)

abbrev pub look_says : {V : Type 0} → Ghosts V → Record → ℕ → ℕ → Option Refusal
look_says g r m x = in_play r.phase (look_fault (terms_of g r []) m x)

abbrev pub withdraw_says : Record → Option Refusal
withdraw_says r = in_play r.phase None

abbrev pub score_says : {V : Type 0} → Ghosts V → Record → List Step → List V → Option Refusal
score_says g r table working = in_play r.phase (score_fault (terms_of g r table) (length working) (state_of g r.track working))

-- the walk of an advance by k over these steps
abbrev pub walk_of : {V W : Type 0} → Ghosts V → (h : WatcherGhosts W) → List Step → ℕ → Track → List V → W → Walk h.Meaning
walk_of g h ts k track working watcher = advanced (kind_of g) ts (watch_of h) k (state_of g track working) (h.meaning watcher)

-- The record of a new round, made of a sheet that was converted and the marks of its cells. It never has more than 100
-- tries, and no cell from 64 on is covered.
pub record Begun (o : OnePath) (marks : List Bool) (k : ℕ) (r : Record) : Type 0 where
  pub phase : r.phase ≡ Laying
  pub tries : r.tries ≡ min k 100
  pub cells : r.cells ≡ o.sheet.cells
  pub steps : r.steps ≡ o.steps
  pub verdict : r.verdict ≡ o.sheet.verdict
  pub marked : Marks o.sheet.marks.now r.secrets.marked
  pub covered : Pads (take 64 marks) r.secrets.covered
  pub track : r.track ≡ at_first
  pub long : length r.secrets.marked ≡ 64
