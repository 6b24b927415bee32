-- What a check answers of the first fault.
use Rattle.std.specs.Prelude.{ℕ, ◌<◌, List, Some, None, Ok, Err, Option, Result, slice_index}

-- the fault that a check found
abbrev pub found : {X F : Type 0} → Result X F → Option F
found (Ok x) = None
found (Err f) = Some f

-- each of the list is a byte
abbrev pub Bytes : List ℕ → Type 0
Bytes bs = (i : ℕ) → slice_index bs i < 256
