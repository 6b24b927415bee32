-- A kind of values, by what it does to meanings.
use Rattle.std.specs.Prelude.{ℕ, Bool, List, slice_index_or, slice_set}
use Rattle.value.specs.declared.kinds.Value.{Ghosts}

pub record Values : Type 0 where
  -- the meaning of a literal
  pub literally : ℕ → ℕ
  -- an operation, on the meanings of cells a and b
  pub combined : ℕ → ℕ → ℕ → ℕ
  -- which meanings are true
  pub holds : ℕ → Bool

-- what a cell means; past the last cell, what the literal 0 means
abbrev pub cell_at : Values → List ℕ → ℕ → ℕ
cell_at v w x = slice_index_or w x (v.literally 0)

-- is the cell true
abbrev pub is_true : Values → List ℕ → ℕ → Bool
is_true v w x = v.holds (cell_at v w x)

-- the cells after a work line and after a literal line
abbrev pub worked : Values → ℕ → ℕ → ℕ → ℕ → List ℕ → List ℕ
worked v t o a b w = slice_set w t (v.combined o (cell_at v w a) (cell_at v w b))

abbrev pub stated : Values → ℕ → ℕ → List ℕ → List ℕ
stated v t n w = slice_set w t (v.literally n)

-- the kind that a type of values is
abbrev pub kind_of : {V : Type 0} → Ghosts V → Values
kind_of g = record { literally = g.literally; combined = g.combined; holds = g.holds }
