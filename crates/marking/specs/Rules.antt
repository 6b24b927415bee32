-- What a marking of a sheet's cells has to meet, for any kind of marks and any way to join them.
use Rattle.std.specs.Prelude.{◌≡◌, ℕ, List, [], ◌∷◌}
use Rattle.sheet.specs.Code.{Code, stop, work, literal, choose, repeat}

-- a mark is at least another where joining the other to it adds nothing
abbrev pub AtLeast : {M : Type 0} → (M → M → M) → M → M → Type 0
AtLeast join x y = join x y ≡ x

-- the mark is at least that of each of the cells
abbrev pub AtLeastAll : {M : Type 0} → (M → M → M) → (ℕ → M) → M → List ℕ → Type 0
AtLeastAll join m x [] = Unit {0}
AtLeastAll join m x (c ∷ cs) = AtLeast join x (m c) × AtLeastAll join m x cs

-- What a line writes has at least the marks of what it reads, and of each condition around the line: the
-- condition cells of the constructs that it stands in.
abbrev pub Follows : {M : Type 0} → (M → M → M) → (ℕ → M) → List ℕ → Code → Type 0
Follows join m around stop = Unit {0}
Follows join m around (work t o a b r) = AtLeast join (m t) (join (m a) (m b)) × AtLeastAll join m (m t) around × Follows join m around r
Follows join m around (literal t n r) = AtLeastAll join m (m t) around × Follows join m around r
Follows join m around (choose c p q r) = Follows join m (c ∷ around) p × Follows join m (c ∷ around) q × Follows join m around r
Follows join m around (repeat c n p r) = Follows join m (c ∷ around) p × Follows join m around r

-- each marked cell has at least its own mark
abbrev pub Owns : {M : Type 0} → (M → M → M) → (ℕ → M) → (ℕ → M) → List ℕ → Type 0
Owns join own m [] = Unit {0}
Owns join own m (c ∷ cs) = AtLeast join (m c) (own c) × Owns join own m cs

pub record Rules {M : Type 0} (join : M → M → M) (own m : ℕ → M) (marks : List ℕ) (code : Code) : Type 0 where
  pub owns : Owns join own m marks
  pub follows : Follows join m [] code

-- The least marking that meets the rules: any other that does is at least it, cell by cell.
pub record Least {M : Type 0} (join : M → M → M) (own m : ℕ → M) (marks : List ℕ) (code : Code) : Type 0 where
  pub meets : Rules join own m marks code
  pub least : (n : ℕ → M) → Rules join own n marks code → (x : ℕ) → AtLeast join (n x) (m x)
