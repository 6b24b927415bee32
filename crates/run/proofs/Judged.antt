-- The verdict of a sheet that was read and run.
use Rattle.std.proofs.Common.{◌≡◌, ℕ, List, Some, None, Option, refl}
use Rattle.run.specs.Branching.{out_of}
use Rattle.run.specs.Judging.{cells_of, verdict_of, verdict_by}
use Rattle.run.specs.Values.{Values}

pub cells_out : (b : Option ℕ) (w : List ℕ) → cells_of (out_of b w) ≡ w
cells_out None w = refl
cells_out (Some l) w = refl

pub verdict_out : (v : Values) (x : ℕ) (b : Option ℕ) (w : List ℕ) → verdict_by v x w b ≡ verdict_of v x (out_of b w)
verdict_out v x None w = refl
verdict_out v x (Some l) w = refl
