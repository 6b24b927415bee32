-- The line table read by places: the form in which the functions that go through it speak of it.
use Rattle.std.specs.Prelude.{◌≡◌, ℕ, ◌+◌, List, slice_index_or}
use Rattle.sheet.specs.Code.{Code, stop, work, literal, choose, repeat}
use Rattle.sheet.specs.declared.lines.Line.{Line}
use Rattle.sheet.specs.declared.lines.Line.TheVariants.{Work, Literal, If, Else, End, Loop}

abbrev pub line_at : List Line → ℕ → Line
line_at xs i = slice_index_or xs i (Work 0 0 0 0)

-- the lines from i up to j are the code's
abbrev pub Spans : List Line → ℕ → ℕ → Code → Type 0
Spans xs i j stop = i ≡ j
Spans xs i j (work t o a b r) = (line_at xs i ≡ Work t o a b) × Spans xs (i + 1) j r
Spans xs i j (literal t n r) = (line_at xs i ≡ Literal t n) × Spans xs (i + 1) j r
Spans xs i j (choose c p q r) =
    (e : ℕ) × (z : ℕ) × (line_at xs i ≡ If c e) × Spans xs (i + 1) e p × (line_at xs e ≡ Else z) × Spans xs (e + 1) z q × (line_at xs z ≡ End i) × Spans xs (z + 1) j r
Spans xs i j (repeat c n p r) =
    (z : ℕ) × (line_at xs i ≡ Loop c n z) × Spans xs (i + 1) z p × (line_at xs z ≡ End i) × Spans xs (z + 1) j r

-- the lines from i up to j are some code's
abbrev pub IsCode : List Line → ℕ → ℕ → Type 0
IsCode xs i j = (c : Code) × Spans xs i j c
