-- The number, the place and the layer of each refusal of the conversion.
use Rattle.std.specs.Prelude.{ℕ, ◌*◌, List, None, Option, nat_le}
use Rattle.std.specs.Option.{option_map}
use Rattle.sheet.specs.Checks.{word_at, unless, or_else}
use Rattle.sheet.specs.declared.faults.Layer.{Layer}
use Rattle.sheet.specs.declared.faults.Layer.TheVariants.{Conversion}
use Rattle.marking.specs.Refusals.{mark_fault, number_of as mark_number, place_of as mark_place, layer_of as mark_layer}
use Rattle.onepath.specs.declared.faults.ConvertFault.{ConvertFault}
use Rattle.onepath.specs.declared.faults.ConvertFault.TheVariants.{Mark, Table}

abbrev pub number_of : ConvertFault → ℕ
number_of (Mark f) = mark_number f
number_of Table = 7

abbrev pub place_of : ConvertFault → ℕ
place_of (Mark f) = mark_place f
place_of Table = 3

abbrev pub layer_of : ConvertFault → Layer
layer_of (Mark f) = mark_layer f
layer_of Table = Conversion

-- the first fault of a sheet that is to fill tables of n lines, m marks and k steps
abbrev pub convert_fault : List ℕ → ℕ → ℕ → ℕ → Option ConvertFault
convert_fault bs n m k = or_else (option_map Mark (mark_fault bs n m)) (unless (nat_le (2 * word_at bs 4) k) Table None)
