use Rattle.std.proofs.Common.{◌≡◌, map, ◌++◌, string_bytes}
use Rattle.std.specs.Slice.Iter.{iter_rest}
use Rattle.protocol.specs.Texts.{answer_text}
use Rattle.script.specs.Texts.{call_lines}
use Rattle.script.proofs.telling.round_lines.Given as goal

-- the text, and the lines that are left, are all
abbrev pub invariant-loop-call : goal.invariant-loop-call
invariant-loop-call l =
    string_bytes l.text ++ call_lines (map string_bytes (iter_rest l.call-iterator.a)) (map answer_text (iter_rest l.call-iterator.b))
    ≡ call_lines (map string_bytes l.calls) (map answer_text l.answers)
