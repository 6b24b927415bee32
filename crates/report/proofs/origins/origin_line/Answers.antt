use Rattle.std.proofs.Common.{◌≡◌, Some, IfOk, string_bytes, codes, decimal, subst, ap, ◌∙◌}
use Rattle.std.specs.Prelude.{IfSome}
use Rattle.std.specs.Fmt.{◌++?◌}
use Rattle.report.specs.Texts.{member_cells}
use Rattle.report.proofs.Spacing.{spaced_output-numbers}
use Rattle.report.proofs.origins.origin_line.Goals as goal

pub returns : goal.returns
returns c =
    let members = member_cells c.args.origins.now.members in
    let all = spaced_output-numbers c.as_slice.result.now members (c.as_slice.ensures.value ∙ c.in_ok-cells.ensures) in
    subst (λ y. IfOk c.format.result (λ s. IfSome y (λ bs. string_bytes s ≡ bs)))
    (ap (λ y. Some (codes "cell ") ++? (Some (decimal c.args.cell) ++? (Some (codes ":") ++? (y ++? Some (codes "\n"))))) all) c.format.ensures.ok
