-- The words that a verdict is printed in.
use Rattle.std.specs.Prelude.{ℕ, List, ◌++◌, codes, decimal}
use Rattle.run.specs.declared.verdicts.Verdict.{Verdict}
use Rattle.run.specs.declared.verdicts.Verdict.TheVariants.{Right, Wrong, Void}

abbrev pub verdict_text : Verdict → List ℕ
verdict_text Right = codes "right"
verdict_text Wrong = codes "wrong"
verdict_text (Void line) = codes "void at " ++ decimal line
