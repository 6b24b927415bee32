use Rattle.std.proofs.Common.{rules, ◌≡◌, false, get_or, take, None, sym, ap, ◌∙◌, subst, arith}
use Rattle.sheet.proofs.Verdicts.{laid_cells}
use Rattle.onepath.specs.Converting.{Stepped}
use Rattle.session.specs.Opening.{holds, lent_by}
use Rattle.session.specs.Refusals.{open_fault}
use Rattle.round.specs.Tables.{Marks}
use Rattle.std.proofs.lemmas.List.{take_all}
use Rattle.session.proofs.Openings.{passed, short_take, few}
use Rattle.round.proofs.Tables.{marks_everywhere}
use Rattle.session.proofs.opening.open_with.Goals as goal

pub returns-clause-opens : goal.returns-clause-opens
returns-clause-opens c =
    let bs = c.args.bytes.now in
    let before = holds c.args.tables.now in
    let lent = lent_by before c.args.setter c.args.working in
    let none : None ≡ open_fault bs lent c.args.tries = search (rules, c.in_ok-check_opening.ensures.first, c.of.ensures) in
    let pass = passed bs lent c.args.tries (sym none) in
    let (p, laid, tells, filled, covered, stepped) = c.in_ok-path.ensures.converts in
    let new = c.new_round.ensures in
    let rec = c.new_round.result.at in
    let marks = c.convert.new.marks in
    let cells = tells.cells in
    let same = laid_cells bs p laid in
    let short = short_take c.in_ok-path.path.sheet.cells 64 marks (let f = laid.lawful.few in omega arith) in
    record {
      program = p;
      laid = laid;
      filled = filled;
      covered = covered;
      stepped = subst (λ k. Stepped p marks before.steps c.convert.new.steps k) (sym new.steps) stepped;
      new = record {
        phase = new.phase;
        tries = new.tries ∙ few c.args.tries 100 pass.few;
        cells = new.cells ∙ cells;
        verdict = new.verdict ∙ tells.verdict;
        marked = marks_everywhere p.cells p.marks rec.secrets.marked laid.lawful.rising laid.lawful.few new.long (subst (λ l. Marks l rec.secrets.marked) tells.marks new.marked);
        covered = λ x. new.covered x ∙ ap (λ z. get_or z x false) (take_all 64 (take c.in_ok-path.path.sheet.cells marks) short) ∙ ap (λ k. get_or (take k marks) x false) cells;
        track = new.track;
      };
      setter = pass.setter ∙ same;
      working = pass.working ∙ same;
    }
