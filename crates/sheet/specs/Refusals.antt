-- The number, the place and the layer of each refusal of the reader.
use Rattle.std.specs.Prelude.{ℕ}
use Rattle.sheet.specs.declared.faults.Layer.{Layer}
use Rattle.sheet.specs.declared.faults.Layer.TheVariants.{Reading}
use Rattle.sheet.specs.declared.faults.ReadFault.{ReadFault}
use Rattle.sheet.specs.declared.faults.ReadFault.TheVariants.{Short, Limit, Offset, Mark, Byte, Nesting, Table}

abbrev pub number_of : ReadFault → ℕ
number_of Short = 1
number_of (Limit p) = 2
number_of (Offset p) = 3
number_of (Mark p) = 4
number_of (Byte p) = 5
number_of (Nesting p) = 6
number_of Table = 7

abbrev pub place_of : ReadFault → ℕ
place_of Short = 0
place_of (Limit p) = p
place_of (Offset p) = p
place_of (Mark p) = p
place_of (Byte p) = p
place_of (Nesting p) = p
place_of Table = 1

abbrev pub layer_of : ReadFault → Layer
layer_of f = Reading
