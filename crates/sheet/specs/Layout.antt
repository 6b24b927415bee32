-- The layout: which bytes a sheet is. Nothing here speaks of how bytes are checked.
use Rattle.std.specs.Prelude.{ℕ, ◌+◌, ◌*◌, ◌/◌, ◌%◌, ◌<◌, ◌≤◌, List, [], ◌∷◌, ◌++◌, length}
use Rattle.sheet.specs.Code.{Code, stop, work, literal, choose, repeat, size_of, Keeps}

-- A sheet by what it says: how many cells it has, which of them are marked (they hold the hidden answer), which
-- cell is the verdict, and its code.
pub record Program : Type 0 where
  pub cells : ℕ
  pub marks : List ℕ
  pub verdict : ℕ
  pub code : Code

-- The cells rise strictly, from `low` on, and lie below `cells`.
abbrev pub Rising : ℕ → ℕ → List ℕ → Type 0
Rising cells low [] = Unit {0}
Rising cells low (m ∷ ms) = (low ≤ m) × (m < cells) × Rising cells (m + 1) ms

-- the limits that a sheet keeps
pub record Lawful (p : Program) : Type 0 where
  pub some : 1 ≤ p.cells
  pub few : p.cells ≤ 64
  pub rising : Rising p.cells 0 p.marks
  pub short : size_of p.code ≤ 512
  pub judged : p.verdict < p.cells
  pub keeps : Keeps p.cells 6 p.code

-- a number's bytes, the lowest first
abbrev pub two : ℕ → List ℕ
two n = n % 256 ∷ n / 256 ∷ []

-- the eight bytes of a work line, of a literal line, and of any other, whose bytes after the third are 0
abbrev pub work_bytes : ℕ → ℕ → ℕ → ℕ → List ℕ
work_bytes t o a b = 1 ∷ t ∷ o ∷ a ∷ b ∷ 0 ∷ 0 ∷ 0 ∷ []

abbrev pub literal_bytes : ℕ → ℕ → List ℕ
literal_bytes t n = 2 ∷ t ∷ 0 ∷ 0 ∷ n % 256 ∷ n / 256 % 256 ∷ n / 65536 % 256 ∷ n / 16777216 ∷ []

abbrev pub other_bytes : ℕ → ℕ → ℕ → List ℕ
other_bytes kind c n = kind ∷ c ∷ n ∷ 0 ∷ 0 ∷ 0 ∷ 0 ∷ 0 ∷ []

-- the lines: 3 is an if, 4 its else, 6 a loop, 5 the end of either
abbrev pub code_bytes : Code → List ℕ
code_bytes stop = []
code_bytes (work t o a b r) = work_bytes t o a b ++ code_bytes r
code_bytes (literal t n r) = literal_bytes t n ++ code_bytes r
code_bytes (choose c p q r) =
    other_bytes 3 c 0 ++ (code_bytes p ++ (other_bytes 4 0 0 ++ (code_bytes q ++ (other_bytes 5 0 0 ++ code_bytes r))))
code_bytes (repeat c n p r) = other_bytes 6 c n ++ (code_bytes p ++ (other_bytes 5 0 0 ++ code_bytes r))

-- the header's seven numbers: cells, marks, lines, the verdict cell, where the marks lie, where the lines lie, the length
abbrev pub header : Program → List ℕ
header p =
    let h = length p.marks in
    let l = size_of p.code in
    two p.cells ++ (two h ++ (two l ++ (two p.verdict ++ (two 14 ++ (two (14 + h) ++ two (14 + h + 8 * l))))))

abbrev pub sheet_bytes : Program → List ℕ
sheet_bytes p = header p ++ (p.marks ++ code_bytes p.code)
