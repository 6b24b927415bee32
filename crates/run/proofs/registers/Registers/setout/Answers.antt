use Rattle.std.proofs.Common.{◌≡◌, ℕ, true, List, length, sym, ap, ◌∙◌, inl, inr}
use Rattle.std.proofs.lemmas.List.{get_or-set_same, set-set, set_past}
use Rattle.std.proofs.lemmas.Bool.{cases_lt}
use Rattle.run.specs.Machine.{no_level, level_at, put_level, flagged, counted}
use Rattle.run.specs.declared.registers.Level.{Level}
use Rattle.run.specs.declared.registers.Registers.{Registers}
use Rattle.run.proofs.registers.Registers.setout.Goals as goal

-- a flag and then the passes, in one write
both : (r : Registers) (k : ℕ) → put_level r k (record { flag = true; guard = (level_at r k).guard; passes = 0 }) ≡ counted (flagged r k true) k 0
both r k =
    let x = level_at r k in
    let y : Level = record { flag = true; guard = x.guard; passes = x.passes } in
    let with : List Level → Registers = λ xs. record { levels = xs; loops = r.loops } in
    elim (cases_lt k (length r.levels)) [
      | inl p ↦ rw (get_or-set_same r.levels k y no_level p) (ap with (sym (set-set r.levels k _ _)))
      | inr p ↦ ap with (set_past r.levels k _ p ∙ sym (set-set r.levels k _ _ ∙ set_past r.levels k _ p))
    ]

pub returns : goal.returns
returns c =
    let to : Level → Registers = λ x. put_level c.args.self.now c.args.level (record { flag = true; guard = x.guard; passes = 0 }) in
    c.set_level.ensures ∙ ap to c.level-guard.ensures ∙ both c.args.self.now c.args.level
