-- What filling the line table leaves, block by block.
use Rattle.std.specs.Prelude.{◌≡◌, ℕ, ◌+◌, ◌<◌, ◌≤◌, ◌⊎◌, List, [], ◌∷◌, ◌++◌, length, slice_index, slice_index_or}
use Rattle.sheet.specs.Code.{Code, stop, work, literal, choose, repeat, size_of}
use Rattle.sheet.specs.Kinds.{byte_of}
use Rattle.sheet.specs.Layout.{work_bytes, literal_bytes, other_bytes}
use Rattle.sheet.specs.Spans.{line_at, Spans}
use Rattle.sheet.specs.declared.kinds.LineKind.TheVariants.{If, Else, End, Loop}
use Rattle.sheet.specs.declared.lines.Line.{Line}

-- the code's lines, eight bytes each
abbrev pub code_lines : Code → List (List ℕ)
code_lines stop = []
code_lines (work t o a b r) = work_bytes t o a b ∷ code_lines r
code_lines (literal t n r) = literal_bytes t n ∷ code_lines r
code_lines (choose c p q r) =
    other_bytes (byte_of If) c 0 ∷ (code_lines p ++ (other_bytes (byte_of Else) 0 0 ∷ (code_lines q ++ (other_bytes (byte_of End) 0 0 ∷ code_lines r))))
code_lines (repeat c n p r) = other_bytes (byte_of Loop) c n ∷ (code_lines p ++ (other_bytes (byte_of End) 0 0 ∷ code_lines r))

-- the byte j of the line i
abbrev pub line_byte : List (List ℕ) → ℕ → ℕ → ℕ
line_byte lines i j = slice_index (slice_index_or lines i []) j

-- the list us stands in xs from the place i on
abbrev pub Stands : {A : Type 0} → A → List A → ℕ → List A → Type 0
Stands d xs i [] = Unit {0}
Stands d xs i (u ∷ us) = (slice_index_or xs i d ≡ u) × Stands d xs (i + 1) us

-- The block of the code begins at line i: its lines stand there, and after it comes an else, an end, or nothing.
pub record Begins (lines : List (List ℕ)) (i : ℕ) (c : Code) : Type 0 where
  pub here : Stands [] lines i (code_lines c)
  pub within : i + size_of c ≤ length lines
  pub closes : (i + size_of c ≡ length lines) ⊎ ((line_byte lines (i + size_of c) 0 ≡ byte_of Else) ⊎ (line_byte lines (i + size_of c) 0 ≡ byte_of End))

-- The lines of the block that begins at line i are filled in, up to line r, and no others.
pub record FilledFrom (lines : List (List ℕ)) (i : ℕ) (before after : List Line) (r : ℕ) : Type 0 where
  pub long : length after ≡ length before
  pub outside : (k : ℕ) → (k < i) ⊎ (r ≤ k) → line_at after k ≡ line_at before k
  pub spans : (c : Code) → Begins lines i c → (r ≡ i + size_of c) × Spans after i r c

-- of the code that begins at line i, the rest begins at line n, and the lines between are those that `after` has
pub record Onward (lines : List (List ℕ)) (i : ℕ) (after : List Line) (n : ℕ) (c : Code) : Type 0 where
  pub rest : Code
  pub begins : Begins lines n rest
  pub size : i + size_of c ≡ n + size_of rest
  pub spans : (xs : List Line) (j : ℕ) → ((k : ℕ) → i ≤ k → k < n → line_at xs k ≡ line_at after k) → Spans xs n j rest → Spans xs i j c

-- The first line or construct of the block that begins at line i is filled in, up to line n, and no other.
pub record Stepped (lines : List (List ℕ)) (i : ℕ) (before after : List Line) (n : ℕ) : Type 0 where
  pub long : length after ≡ length before
  pub further : i < n
  pub outside : (k : ℕ) → (k < i) ⊎ (n ≤ k) → line_at after k ≡ line_at before k
  pub onward : (c : Code) → Begins lines i c → Onward lines i after n c
