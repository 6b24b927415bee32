-- What a table of marks, a mark a cell, holds after marks were spread in it.
use Rattle.std.specs.Prelude.{◌≡◌, ℕ, ◌+◌, ◌<◌, Bool, true, false, List, [], ◌∷◌, length, slice_index_or}
use Rattle.sheet.specs.Blocks.{HasCode}
use Rattle.sheet.specs.Code.{Code, stop, work, literal, choose, repeat, Keeps}
use Rattle.sheet.specs.declared.block.Block.{Block}
use Rattle.marking.specs.Rules.{AtLeast, Owns}

-- the block is code over so many cells
abbrev pub Reads : Block → ℕ → Type 0
Reads b cells = (c : Code) × (deep : ℕ) × HasCode b c × Keeps cells deep c

-- the marking that the table holds; a cell past its end has no mark
abbrev pub marking : {M : Type 0} → M → List M → ℕ → M
marking none ts x = slice_index_or ts x none

-- no mark of the table is above the marking's
abbrev pub Below : {M : Type 0} → (M → M → M) → M → List M → (ℕ → M) → Type 0
Below join none ts m = (x : ℕ) → AtLeast join (m x) (marking none ts x)

-- the ranks of the marks, added up
abbrev pub total : {M : Type 0} → (M → ℕ) → List M → ℕ
total rank [] = 0
total rank (t ∷ ts) = rank t + total rank ts

-- The rules for code that stands under conditions whose marks, joined, are w.
abbrev pub FollowsUnder : {M : Type 0} → (M → M → M) → (ℕ → M) → M → Code → Type 0
FollowsUnder join m w stop = Unit {0}
FollowsUnder join m w (work t o a b r) = AtLeast join (m t) (join (m a) (m b)) × AtLeast join (m t) w × FollowsUnder join m w r
FollowsUnder join m w (literal t n r) = AtLeast join (m t) w × FollowsUnder join m w r
FollowsUnder join m w (choose c p q r) = FollowsUnder join m (join w (m c)) p × FollowsUnder join m (join w (m c)) q × FollowsUnder join m w r
FollowsUnder join m w (repeat c n p r) = FollowsUnder join m (join w (m c)) p × FollowsUnder join m w r

-- The table went from ts to us: no mark fell, and `rose` says whether any rose.
pub record Moved {M : Type 0} (join : M → M → M) (none : M) (rank : M → ℕ) (ts us : List M) (rose : Bool) : Type 0 where
  pub long : length us ≡ length ts
  pub grown : (x : ℕ) → AtLeast join (marking none us x) (marking none ts x)
  pub still : rose ≡ false → us ≡ ts
  pub more : rose ≡ true → total rank ts < total rank us

-- The block, under conditions whose joined mark is w, was gone through once. Where no mark rose the table meets its
-- rules, and no mark rose above a marking that meets them.
pub record Passed {M : Type 0} (join : M → M → M) (none : M) (rank : M → ℕ) (b : Block) (w : M) (ts us : List M) (rose : Bool) : Type 0 where
  pub moved : Moved join none rank ts us rose
  pub meets : rose ≡ false → (c : Code) → HasCode b c → FollowsUnder join (marking none ts) w c
  pub below : (c : Code) → HasCode b c → (m : ℕ → M) → FollowsUnder join m w c → Below join none ts m → Below join none us m

-- The table has the own mark of each marked cell, and nothing above what these ask for.
pub record Started {M : Type 0} (join : M → M → M) (none : M) (own : ℕ → M) (marks : List ℕ) (ts : List M) : Type 0 where
  pub owns : Owns join own (marking none ts) marks
  pub below : (m : ℕ → M) → Owns join own m marks → Below join none ts m
