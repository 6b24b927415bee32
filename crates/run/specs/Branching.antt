-- The branching run.
use Rattle.std.specs.Prelude.{ℕ, zero, suc, ◌+◌, true, false, cond, List, Some, None, Option}
use Rattle.sheet.specs.Code.{Code, stop, work, literal, choose, repeat, size_of}
use Rattle.run.specs.Values.{Values, is_true, worked, stated}

-- It goes through to the end, or breaks at a loop's line; either way with these cells.
pub data Out : Type 0 where
  went : List ℕ → Out
  broke : ℕ → List ℕ → Out

abbrev pub after : Out → (List ℕ → Out) → Out
after (went w) f = f w
after (broke l w) f = broke l w

-- A loop at line l, on the cell x, with n passes left: the cell is tested before each pass, and where it is true
-- after the last the run breaks.
abbrev pub passes : Values → ℕ → ℕ → (List ℕ → Out) → ℕ → List ℕ → Out
passes v x l body zero w = cond (is_true v w x) (broke l w) (went w)
passes v x l body (suc n) w = elim (is_true v w x) [ true ↦ after (body w) (passes v x l body n) | false ↦ went w ]

-- the code whose first line is l, from the cells w
abbrev pub branching : Values → Code → ℕ → List ℕ → Out
branching v stop l w = went w
branching v (work t o a b r) l w = branching v r (l + 1) (worked v t o a b w)
branching v (literal t n r) l w = branching v r (l + 1) (stated v t n w)
branching v (choose x p q r) l w =
    let e = l + 1 + size_of p in
    let z = e + 1 + size_of q in
    after (elim (is_true v w x) [ true ↦ branching v p (l + 1) w | false ↦ branching v q (e + 1) w ]) (branching v r (z + 1))
branching v (repeat x n p r) l w = after (passes v x l (branching v p (l + 1)) n w) (branching v r (l + 1 + size_of p + 1))

-- the run that ended with these cells, at this line if it broke
abbrev pub out_of : Option ℕ → List ℕ → Out
out_of None w = went w
out_of (Some l) w = broke l w
