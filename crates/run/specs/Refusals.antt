-- The number, the place and the layer of each refusal of the branching run.
use Rattle.std.specs.Prelude.{ℕ, List, None, Option, ◌==◌}
use Rattle.std.specs.Option.{option_map}
use Rattle.sheet.specs.Checks.{word_at, unless, or_else, read_fault}
use Rattle.sheet.specs.Refusals.{number_of as read_number, place_of as read_place, layer_of as read_layer}
use Rattle.sheet.specs.declared.faults.Layer.{Layer}
use Rattle.sheet.specs.declared.faults.Layer.TheVariants.{Running}
use Rattle.run.specs.declared.faults.RunFault.{RunFault}
use Rattle.run.specs.declared.faults.RunFault.TheVariants.{Read, Cells}

abbrev pub number_of : RunFault → ℕ
number_of (Read f) = read_number f
number_of Cells = 8

abbrev pub place_of : RunFault → ℕ
place_of (Read f) = read_place f
place_of Cells = 1

abbrev pub layer_of : RunFault → Layer
layer_of (Read f) = read_layer f
layer_of Cells = Running

-- the first fault of a sheet that is to be run over a table of n lines and m cells
abbrev pub run_fault : List ℕ → ℕ → ℕ → Option RunFault
run_fault bs n m = or_else (option_map Read (read_fault bs n)) (unless (m == word_at bs 0) Cells None)
