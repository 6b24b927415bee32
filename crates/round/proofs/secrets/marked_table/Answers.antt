use Rattle.std.proofs.Common.{◌||◌, refl, ap}
use Rattle.protocol.specs.Terms.{is_in}
use Rattle.round.proofs.Tables.{all_no}
use Rattle.round.proofs.secrets.marked_table.Goals as goal

pub loop-cell-init : goal.loop-cell-init
loop-cell-init c = (refl, λ x h. ap (λ b. b || is_in c.args.list.now x) (all_no 0 64 x))
