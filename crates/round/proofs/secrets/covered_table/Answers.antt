use Rattle.std.proofs.Common.{◌-◌, false, ◌++◌, length, get_or, drop, replicate, ap, ◌∙◌}
use Rattle.round.proofs.Tables.{padded, all_no}
use Rattle.round.proofs.secrets.covered_table.Goals as goal

pub returns : goal.returns
returns c x =
    let n = length c.args.marks.now - 0 in
    let rest = drop n (replicate 64 false) in
    ap (λ z. get_or (z ++ rest) x false) c.copy_from_slice.ensures.after ∙ padded c.args.marks.now rest (all_no n 64) x
