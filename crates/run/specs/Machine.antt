-- The step machine: what each step of the one path does.
use Rattle.std.specs.Prelude.{ℕ, zero, suc, ◌+◌, ◌-◌, min, Bool, true, false, cond, not, ◌&&◌, ◌||◌, List, map, length, replicate, is_some, Some, None, Option, ◌==◌, nat_le, nat_lt, slice_index, slice_index_or, slice_set}
use Rattle.onepath.specs.Holds.{step_at}
use Rattle.onepath.specs.declared.steps.Step.{Step}
use Rattle.onepath.specs.declared.steps.Step.TheVariants.{Work, Literal, Ask, Turn, Setout, Narrow, Again, Close, Branch, Jump, Enter, Test}
use Rattle.value.specs.declared.kinds.Value.{Ghosts}
use Rattle.run.specs.Values.{Values, is_true, worked, stated}
use Rattle.run.specs.declared.registers.Level.{Level}
use Rattle.run.specs.declared.registers.Registers.{Registers}
use Rattle.run.specs.declared.track.Track.{Track}

-- nothing is set at the level
abbrev pub no_level : Level
no_level = record { flag = false; guard = false; passes = 0 }

-- what is kept for a level; past the last nothing is set
abbrev pub level_at : Registers → ℕ → Level
level_at r k = slice_index_or r.levels k no_level

abbrev pub flag_at : Registers → ℕ → Bool
flag_at r k = (level_at r k).flag

-- the guard of level 0 is always yes
abbrev pub guard_at : Registers → ℕ → Bool
guard_at r k = k == 0 || (level_at r k).guard

abbrev pub counter_at : Registers → ℕ → ℕ
counter_at r k = (level_at r k).passes

abbrev pub loop_at : Registers → ℕ → ℕ
loop_at r d = slice_index r.loops d

-- past the last level, the registers as they are
abbrev pub put_level : Registers → ℕ → Level → Registers
put_level r k x = record { levels = slice_set r.levels k x; loops = r.loops }

abbrev pub flagged : Registers → ℕ → Bool → Registers
flagged r k b = let x = level_at r k in put_level r k (record { flag = b; guard = x.guard; passes = x.passes })

abbrev pub guarded : Registers → ℕ → Bool → Registers
guarded r k b = let x = level_at r k in put_level r k (record { flag = x.flag; guard = b; passes = x.passes })

abbrev pub counted : Registers → ℕ → ℕ → Registers
counted r k n = let x = level_at r k in put_level r k (record { flag = x.flag; guard = x.guard; passes = n })

abbrev pub looped : Registers → ℕ → ℕ → Registers
looped r d n = record { levels = r.levels; loops = slice_set r.loops d n }

-- one more; a counter is a byte, as a bound is, and stays at 255
abbrev pub counted_on : ℕ → ℕ
counted_on n = min (n + 1) 255

-- a loop's line is latched where none is yet
abbrev pub closing : Bool → ℕ → Option ℕ → Option ℕ
closing true l None = Some l
closing true l (Some h) = Some h
closing false l h = h

-- a run: where it is, and its cells
pub record State : Type 0 where
  pub track : Track
  pub cells : List ℕ

-- the run at the place i, with these registers, latch and cells
abbrev pub at : ℕ → Registers → Option ℕ → List ℕ → State
at i r h w = record { track = record { place = i; registers = r; latch = h; broken = None }; cells = w }

-- the run broke at the line
abbrev pub broken_at : ℕ → ℕ → Registers → Option ℕ → List ℕ → State
broken_at l i r h w = record { track = record { place = i; registers = r; latch = h; broken = Some l }; cells = w }

-- the step at the place i
abbrev pub act : Values → Step → ℕ → Registers → Option ℕ → List ℕ → State
act v (Work k t o a b) i r h w = at (i + 1) r h (cond (guard_at r k) (worked v t o a b w) w)
act v (Literal k t n) i r h w = at (i + 1) r h (cond (guard_at r k) (stated v t n w) w)
act v (Ask k x) i r h w = let q = is_true v w x in at (i + 1) (guarded (flagged r k q) k (guard_at r (k - 1) && q)) h w
act v (Turn k) i r h w = at (i + 1) (guarded r k (guard_at r (k - 1) && not (flag_at r k))) h w
act v (Setout k) i r h w = at (i + 1) (counted (flagged r k true) k 0) h w
act v (Narrow k x) i r h w = let q = flag_at r k && is_true v w x in at (i + 1) (guarded (flagged r k q) k (guard_at r (k - 1) && q)) h w
act v (Again k n j) i r h w = let c = counted_on (counter_at r k) in at (cond (nat_lt c n) j (i + 1)) (counted r k c) h w
act v (Close k x l) i r h w = at (i + 1) r (closing (guard_at r (k - 1) && (flag_at r k && is_true v w x)) l h) w
act v (Branch x j) i r h w = at (cond (is_true v w x) (i + 1) j) r h w
act v (Jump j) i r h w = at j r h w
act v (Enter d) i r h w = at (i + 1) (looped r d 0) h w
act v (Test d x n j l) i r h w =
    cond (is_true v w x) (cond (loop_at r d == n) (broken_at l i r h w) (at (i + 1) (looped r d (counted_on (loop_at r d))) h w)) (at j r h w)

-- a run of n steps is over when it broke or no step is left
abbrev pub is_over : ℕ → State → Bool
is_over n s = is_some s.track.broken || nat_le n s.track.place

-- the next step, unless the run is over
abbrev pub next : Values → List Step → State → State
next v ts s =
    let t = s.track in
    cond (is_over (length ts) s) s (act v (step_at ts t.place) t.place t.registers t.latch s.cells)

abbrev pub steps : Values → List Step → ℕ → State → State
steps v ts zero s = s
steps v ts (suc n) s = steps v ts n (next v ts s)

-- how many of n steps are taken before the run is over
abbrev pub taken : Values → List Step → ℕ → State → ℕ
taken v ts zero s = 0
taken v ts (suc n) s = cond (is_over (length ts) s) 0 (1 + taken v ts n (next v ts s))

-- nothing is set
abbrev pub cleared : Registers
cleared = record { levels = replicate 7 no_level; loops = replicate 6 0 }

-- where a run is before its first step, and the run with its cells
abbrev pub at_first : Track
at_first = record { place = 0; registers = cleared; latch = None; broken = None }

abbrev pub fresh : List ℕ → State
fresh w = record { track = at_first; cells = w }

-- the run that a track and the cells of a kind of values are
abbrev pub state_of : {V : Type 0} → Ghosts V → Track → List V → State
state_of g t cs = record { track = t; cells = map g.meaning cs }
