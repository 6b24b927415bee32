use Rattle.std.proofs.Common.{◌≡◌, ◌<◌, ◌++◌, length, get_or, string_bytes, ap, ◌∙◌, arith}
use Rattle.std.proofs.lemmas.List.{get_or_read}
use Rattle.report.specs.Texts.{origin_line}
use Rattle.marking.specs.Sets.{no_origins}
use Rattle.report.proofs.Growing.{line_more}
use Rattle.report.proofs.origins.origin_lines.Goals as goal

pub loop-cell-preserved : goal.loop-cell-preserved
loop-cell-preserved c =
    let i = c.loop-cell.cell in
    let ss = c.args.sets.now in
    let t = string_bytes c.loop-cell.text in
    let more : i < length ss = omega arith in
    let set : c.index-sets-cell.result ≡ get_or ss i no_origins = get_or_read ss i c.index-sets-cell.result more c.index-sets-cell.is no_origins in
    line_more t (string_bytes c.push_str.new.self) ss i more
    (c.in_ok-push_str.ensures.bytes ∙ ap (λ y. t ++ y) (c.as_str.ensures.value ∙ c.in_ok-line.ensures ∙ ap (origin_line i) set)) ∙ c.loop-cell.invariant
