-- What the tables of secrets say.
use Rattle.std.specs.Prelude.{◌≡◌, ℕ, ◌<◌, Bool, false, List, slice_index_or}
use Rattle.protocol.specs.Terms.{is_in}

-- yes at each cell of the list, and at no other; a sheet has at most 64 cells
abbrev pub Marks : List ℕ → List Bool → Type 0
Marks list table = (x : ℕ) → x < 64 → slice_index_or table x false ≡ is_in list x

-- what the marks say, and no past them
abbrev pub Pads : List Bool → List Bool → Type 0
Pads marks table = (x : ℕ) → slice_index_or table x false ≡ slice_index_or marks x false
