-- The number, the place and the layer of each refusal of an opening.
use Rattle.std.specs.Prelude.{ℕ, ◌&&◌, List, None, Option, ◌==◌, nat_le}
use Rattle.std.specs.Option.{option_map}
use Rattle.sheet.specs.Checks.{word_at, unless, or_else}
use Rattle.sheet.specs.declared.faults.Layer.{Layer}
use Rattle.sheet.specs.declared.faults.Layer.TheVariants.{Opening, Playing}
use Rattle.onepath.specs.Refusals.{convert_fault, number_of as convert_number, place_of as convert_place, layer_of as convert_layer}
use Rattle.session.specs.declared.opening.Lent.{Lent}
use Rattle.session.specs.declared.faults.OpenFault.{OpenFault}
use Rattle.session.specs.declared.faults.PlayFault.{PlayFault}
use Rattle.session.specs.declared.faults.PlayFault.TheVariants.{Open, Answers}
use Rattle.session.specs.declared.faults.OpenFault.TheVariants.{Convert, SetterCells, WorkingCells, Tries}

abbrev pub number_of : OpenFault → ℕ
number_of (Convert f) = convert_number f
number_of SetterCells = 8
number_of WorkingCells = 8
number_of Tries = 9

abbrev pub place_of : OpenFault → ℕ
place_of (Convert f) = convert_place f
place_of SetterCells = 1
place_of WorkingCells = 2
place_of Tries = 0

abbrev pub layer_of : OpenFault → Layer
layer_of (Convert f) = convert_layer f
layer_of SetterCells = Opening
layer_of WorkingCells = Opening
layer_of Tries = Opening

-- the first fault of an opening
abbrev pub open_fault : List ℕ → Lent → ℕ → Option OpenFault
open_fault bs n tries =
    or_else (option_map Convert (convert_fault bs n.lines n.marks n.steps))
    (unless (n.setter == word_at bs 0) SetterCells (unless (n.working == word_at bs 0) WorkingCells
    (unless (nat_le 1 tries && nat_le tries 100) Tries None)))

-- ... and of a list
abbrev pub play_number : PlayFault → ℕ
play_number (Open f) = number_of f
play_number Answers = 7

abbrev pub play_place : PlayFault → ℕ
play_place (Open f) = place_of f
play_place Answers = 4

abbrev pub play_layer : PlayFault → Layer
play_layer (Open f) = layer_of f
play_layer Answers = Playing
