use Rattle.std.proofs.Common.{◌≡◌, ℕ, List, Some, Option, IfOk, string_bytes, codes, decimal, subst, ap, ◌∙◌}
use Rattle.std.specs.Prelude.{IfSome}
use Rattle.std.specs.Fmt.{◌++?◌}
use Rattle.onepath.specs.Names.{name_of}
use Rattle.report.specs.Texts.{covered_cells, spaced, spaced_output}
use Rattle.report.proofs.Spacing.{spaced_output-some, spaced_output-numbers}
use Rattle.report.proofs.path_report.Goals as goal

pub returns : goal.returns
returns c =
    let steps = c.args.steps.now in
    let cells = c.as_slice.result.now in
    let covered = spaced_output-numbers cells (covered_cells c.args.marks.now) (c.as_slice.ensures.value ∙ c.in_ok-cells.ensures) in
    let named = spaced_output-some name_of steps in
    let path : Option (List ℕ) → Option (List ℕ) → Option (List ℕ) = λ y z. Some (codes "covered") ++? (y ++? (Some (codes "\nsteps") ++? (z ++? Some (codes "\n")))) in
    subst (λ y. IfOk c.format.result (λ s. IfSome y (λ bs. string_bytes s ≡ bs)))
    (ap (λ y. path y (spaced_output (λ s. Some (name_of s)) steps)) covered ∙ ap (path (Some (spaced decimal (covered_cells c.args.marks.now)))) named) c.format.ensures.ok
