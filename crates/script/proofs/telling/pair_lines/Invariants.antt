use Rattle.std.proofs.Common.{◌≡◌, map, ◌++◌, string_bytes}
use Rattle.std.specs.List.{zip}
use Rattle.std.specs.Slice.Iter.{iter_rest}
use Rattle.script.specs.Texts.{call_lines, answers_text}
use Rattle.script.proofs.telling.pair_lines.Given as goal

-- the text, and the lines that are left, are all
abbrev pub invariant-loop-call : goal.invariant-loop-call
invariant-loop-call l =
    string_bytes l.text ++ call_lines (map string_bytes (iter_rest l.call-iterator.a)) (map answers_text (zip (iter_rest l.call-iterator.b.a) (iter_rest l.call-iterator.b.b)))
    ≡ call_lines (map string_bytes l.calls) (map answers_text (zip l.first l.second))
