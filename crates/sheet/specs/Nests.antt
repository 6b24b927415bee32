-- What the reader's record of open constructs means.
use Rattle.std.specs.Prelude.{List, reverse}
use Rattle.sheet.specs.declared.nesting.Nest.{Nest}
use Rattle.sheet.specs.declared.nesting.Open.{Open}

-- the constructs that are open, the innermost first
abbrev pub opens : Nest → List Open
opens n = reverse n.open.items
