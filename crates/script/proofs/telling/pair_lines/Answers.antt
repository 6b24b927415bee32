use Rattle.std.proofs.Common.{◌≡◌, ℕ, List, [], map, string_bytes, ap, ◌∙◌, inl, inr}
use Rattle.std.specs.List.{zip}
use Rattle.std.specs.Slice.Iter.{iter_rest}
use Rattle.protocol.specs.declared.answers.Answer.{Answer}
use Rattle.script.specs.Texts.{call_lines, answers_text}
use Rattle.script.proofs.Gone.{one_of_three_gone, zip-empty, call_lines-empty, whole}
use Rattle.script.proofs.telling.pair_lines.Goals as goal

pub returns : goal.returns
returns c =
    let s = c.loop-call.call-iterator in
    let calls = map string_bytes (iter_rest s.a) in
    let told : List Answer → List Answer → List ℕ = λ xs ys. call_lines calls (map answers_text (zip xs ys)) in
    let none : told (iter_rest s.b.a) (iter_rest s.b.b) ≡ [] = elim (one_of_three_gone s c.next.new.self c.next.result c.in-None.is c.next.ensures.steps) [
      | inl e ↦ ap (λ xs. call_lines (map string_bytes xs) (map answers_text (zip (iter_rest s.b.a) (iter_rest s.b.b)))) e
      | inr (inl e) ↦ ap (λ xs. told xs (iter_rest s.b.b)) e ∙ call_lines-empty calls
      | inr (inr e) ↦ ap (told (iter_rest s.b.a)) e ∙ ap (λ ps. call_lines calls (map answers_text ps)) (zip-empty (iter_rest s.b.a)) ∙ call_lines-empty calls
    ] in
    whole _ _ _ none c.loop-call.invariant
