use Rattle.std.proofs.Common.{◌≡◌, ◌++◌, drop, string_bytes}
use Rattle.report.specs.Texts.{origin_lines}
use Rattle.report.proofs.origins.origin_lines.Given as goal

-- the text, and what is left of the cells, is the whole of the lines
abbrev pub invariant-loop-cell : goal.invariant-loop-cell
invariant-loop-cell l = string_bytes l.text ++ origin_lines l.cell (drop l.cell l.sets) ≡ origin_lines 0 l.sets
