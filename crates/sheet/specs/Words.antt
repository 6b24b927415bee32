-- The words that a fault is printed in.
use Rattle.std.specs.Prelude.{ℕ, List, ◌++◌, codes, decimal}
use Rattle.sheet.specs.declared.faults.Layer.{Layer}
use Rattle.sheet.specs.declared.faults.Layer.TheVariants.{Reading, Marking, Conversion, Running, Opening, Playing}

-- by its number and its place
abbrev pub refusal_text : ℕ → ℕ → List ℕ
refusal_text number place = codes "refused " ++ (decimal number ++ (codes " at " ++ decimal place))

abbrev pub layer_text : Layer → List ℕ
layer_text Reading = codes "reading"
layer_text Marking = codes "marking"
layer_text Conversion = codes "conversion"
layer_text Running = codes "running"
layer_text Opening = codes "opening"
layer_text Playing = codes "playing"
