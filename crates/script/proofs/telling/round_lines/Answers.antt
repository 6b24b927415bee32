use Rattle.std.proofs.Common.{◌≡◌, [], map, string_bytes, ap, ◌∙◌, inl, inr}
use Rattle.std.specs.Slice.Iter.{iter_rest}
use Rattle.std.proofs.lemmas.Slice.Zip.{either_empty_from_Zip}
use Rattle.protocol.specs.Texts.{answer_text}
use Rattle.script.specs.Texts.{call_lines}
use Rattle.script.proofs.Gone.{call_lines-empty, whole}
use Rattle.script.proofs.telling.round_lines.Goals as goal

pub returns : goal.returns
returns c =
    let s = c.loop-call.call-iterator in
    let calls = map string_bytes (iter_rest s.a) in
    let none : call_lines calls (map answer_text (iter_rest s.b)) ≡ [] = elim (either_empty_from_Zip s c.next.new.self c.next.result c.in-None.is c.next.ensures.steps) [
      | inl e ↦ ap (λ xs. call_lines (map string_bytes xs) (map answer_text (iter_rest s.b))) e
      | inr e ↦ ap (λ ys. call_lines calls (map answer_text ys)) e ∙ call_lines-empty calls
    ] in
    whole _ _ _ none c.loop-call.invariant
