-- The bytes of a line, among those of a sheet.
use Rattle.std.specs.Prelude.{◌≡◌, ℕ, ◌+◌, ◌<◌, List}
use Rattle.sheet.specs.Checks.{byte_at}

-- the line's eight bytes stand at the byte `at`
abbrev pub IsLineAt : List ℕ → ℕ → List ℕ → Type 0
IsLineAt bs at line = (j : ℕ) → j < 8 → byte_at line j ≡ byte_at bs (at + j)
