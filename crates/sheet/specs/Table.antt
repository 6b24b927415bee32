-- The line table of a sheet.
use Rattle.std.specs.Prelude.{ℕ, ◌+◌, List, [], ◌∷◌, ◌++◌}
use Rattle.sheet.specs.Code.{Code, stop, work, literal, choose, repeat, size_of}
use Rattle.sheet.specs.declared.lines.Line.{Line}
use Rattle.sheet.specs.declared.lines.Line.TheVariants.{Work, Literal, If, Else, End, Loop}

-- The lines of the code, the first of which has the number i. An `if` keeps the number of its `else`, an `else`
-- and a loop that of their `end`, and an `end` that of the line that opened its construct.
abbrev pub lines_of : ℕ → Code → List Line
lines_of i stop = []
lines_of i (work t o a b r) = Work t o a b ∷ lines_of (i + 1) r
lines_of i (literal t n r) = Literal t n ∷ lines_of (i + 1) r
lines_of i (choose c p q r) =
    let e = i + 1 + size_of p in
    let z = e + 1 + size_of q in
    If c e ∷ (lines_of (i + 1) p ++ (Else z ∷ (lines_of (e + 1) q ++ (End i ∷ lines_of (z + 1) r))))
lines_of i (repeat c n p r) =
    let z = i + 1 + size_of p in
    Loop c n z ∷ (lines_of (i + 1) p ++ (End i ∷ lines_of (z + 1) r))
