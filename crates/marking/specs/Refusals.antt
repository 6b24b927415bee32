-- The number, the place and the layer of each refusal of the marking.
use Rattle.std.specs.Prelude.{ℕ, List, None, Option, nat_le}
use Rattle.std.specs.Option.{option_map}
use Rattle.sheet.specs.Checks.{word_at, unless, or_else, read_fault}
use Rattle.sheet.specs.Refusals.{number_of as read_number, place_of as read_place, layer_of as read_layer}
use Rattle.sheet.specs.declared.faults.Layer.{Layer}
use Rattle.sheet.specs.declared.faults.Layer.TheVariants.{Marking}
use Rattle.marking.specs.declared.faults.MarkFault.{MarkFault}
use Rattle.marking.specs.declared.faults.MarkFault.TheVariants.{Read, Table}

abbrev pub number_of : MarkFault → ℕ
number_of (Read f) = read_number f
number_of Table = 7

abbrev pub place_of : MarkFault → ℕ
place_of (Read f) = read_place f
place_of Table = 2

abbrev pub layer_of : MarkFault → Layer
layer_of (Read f) = read_layer f
layer_of Table = Marking

-- the first fault of a sheet that is to fill a table of n lines and one of m marks
abbrev pub mark_fault : List ℕ → ℕ → ℕ → Option MarkFault
mark_fault bs n m = or_else (option_map Read (read_fault bs n)) (unless (nat_le (word_at bs 0) m) Table None)
