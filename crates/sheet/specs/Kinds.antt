-- The bytes that name the kinds of lines.
use Rattle.std.specs.Prelude.{ℕ, cond, Some, None, Option, ◌==◌}
use Rattle.sheet.specs.declared.kinds.LineKind.{LineKind}
use Rattle.sheet.specs.declared.kinds.LineKind.TheVariants.{Work, Literal, If, Else, End, Loop}

-- the byte that names a kind
abbrev pub byte_of : LineKind → ℕ
byte_of Work = 1
byte_of Literal = 2
byte_of If = 3
byte_of Else = 4
byte_of End = 5
byte_of Loop = 6

-- the kind that a byte names, if there is one
abbrev pub kind_of : ℕ → Option LineKind
kind_of b =
    cond (b == 1) (Some Work) (cond (b == 2) (Some Literal) (cond (b == 3) (Some If)
    (cond (b == 4) (Some Else) (cond (b == 5) (Some End) (cond (b == 6) (Some Loop) None)))))
