-- A text that grows by one item after another.
use Rattle.std.proofs.Common.{◌≡◌, ℕ, ◌+◌, ◌<◌, List, ◌++◌, length, get_or, drop, sym, ap, ◌∙◌}
use Rattle.std.proofs.lemmas.List.{append_assoc, drop_more}
use Rattle.marking.specs.Sets.{no_origins}
use Rattle.marking.specs.declared.origins.Origins.{Origins}
use Rattle.report.specs.Texts.{origin_line, origin_lines}

-- one more cell's line
pub line_more : (t u : List ℕ) (ss : List Origins) (i : ℕ) → i < length ss → u ≡ t ++ origin_line i (get_or ss i no_origins) →
    u ++ origin_lines (i + 1) (drop (i + 1) ss) ≡ t ++ origin_lines i (drop i ss)
line_more t u ss i l e =
    ap (λ y. y ++ origin_lines (i + 1) (drop (i + 1) ss)) e
    ∙ append_assoc t (origin_line i (get_or ss i no_origins)) (origin_lines (i + 1) (drop (i + 1) ss))
    ∙ ap (λ y. t ++ origin_lines i y) (sym (drop_more ss i no_origins l))
