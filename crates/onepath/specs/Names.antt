-- The word for each kind of step.
use Rattle.std.specs.Prelude.{ℕ, List, codes}
use Rattle.onepath.specs.declared.steps.Step.{Step}
use Rattle.onepath.specs.declared.steps.Step.TheVariants.{Work, Literal, Ask, Turn, Setout, Narrow, Again, Close, Branch, Jump, Enter, Test}

abbrev pub name_of : Step → List ℕ
name_of (Work k t o a b) = codes "work"
name_of (Literal k t n) = codes "literal"
name_of (Ask k x) = codes "ask"
name_of (Turn k) = codes "turn"
name_of (Setout k) = codes "setout"
name_of (Narrow k x) = codes "narrow"
name_of (Again k n i) = codes "again"
name_of (Close k x l) = codes "close"
name_of (Branch x i) = codes "branch"
name_of (Jump i) = codes "jump"
name_of (Enter d) = codes "enter"
name_of (Test d x n i l) = codes "test"
