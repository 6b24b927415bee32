-- The simple lines, those that work or state a literal, that a run goes over, in order.
use Rattle.std.specs.Prelude.{ℕ, zero, suc, ◌+◌, true, false, cond, List, [], ◌∷◌, ◌++◌, length}
use Rattle.sheet.specs.Code.{Code, stop, work, literal, choose, repeat, size_of}
use Rattle.onepath.specs.Holds.{step_at}
use Rattle.onepath.specs.declared.steps.Step.{Step}
use Rattle.onepath.specs.declared.steps.Step.TheVariants.{Work, Literal, Ask, Turn, Setout, Narrow, Again, Close, Branch, Jump, Enter, Test}
use Rattle.run.specs.Values.{Values, is_true, worked, stated}
use Rattle.run.specs.Branching.{Out, went, broke, passes, branching}
use Rattle.run.specs.Machine.{State, guard_at, is_over, next}
use Rattle.run.specs.declared.registers.Registers.{Registers}

pub data Simple : Type 0 where
  -- target cell, operation, cell a, cell b
  did_work : ℕ → ℕ → ℕ → ℕ → Simple
  -- target cell, number
  did_literal : ℕ → ℕ → Simple

-- what is gone over after an outcome: nothing after a break
abbrev pub beyond : Out → (List ℕ → List Simple) → List Simple
beyond (went w) f = f w
beyond (broke l w) f = []

-- a loop's n passes, each of which comes to `body` and goes over `over`
abbrev pub passes_trail : Values → ℕ → (List ℕ → Out) → (List ℕ → List Simple) → ℕ → List ℕ → List Simple
passes_trail v x body over zero w = []
passes_trail v x body over (suc n) w = elim (is_true v w x) [ true ↦ over w ++ beyond (body w) (passes_trail v x body over n) | false ↦ [] ]

-- what the branching run goes over, up to its break if it breaks; the code's first line is l
abbrev pub trail : Values → Code → ℕ → List ℕ → List Simple
trail v stop l w = []
trail v (work t o a b r) l w = did_work t o a b ∷ trail v r (l + 1) (worked v t o a b w)
trail v (literal t n r) l w = did_literal t n ∷ trail v r (l + 1) (stated v t n w)
trail v (choose x p q r) l w =
    let e = l + 1 + size_of p in
    let z = e + 1 + size_of q in
    elim (is_true v w x) [ true ↦ trail v p (l + 1) w | false ↦ trail v q (e + 1) w ] ++ beyond (elim (is_true v w x) [ true ↦ branching v p (l + 1) w | false ↦ branching v q (e + 1) w ]) (trail v r (z + 1))
trail v (repeat x n p r) l w =
    let body = branching v p (l + 1) in
    passes_trail v x body (trail v p (l + 1)) n w ++ beyond (passes v x l body n w) (trail v r (l + 1 + size_of p + 1))

-- what a step goes over: the simple line of which it is the step, if its guard is yes
abbrev pub done : Step → Registers → List Simple
done (Work k t o a b) r = cond (guard_at r k) (did_work t o a b ∷ []) []
done (Literal k t n) r = cond (guard_at r k) (did_literal t n ∷ []) []
done (Ask k x) r = []
done (Turn k) r = []
done (Setout k) r = []
done (Narrow k x) r = []
done (Again k n j) r = []
done (Close k x l) r = []
done (Branch x j) r = []
done (Jump j) r = []
done (Enter d) r = []
done (Test d x n j l) r = []

-- what the next step goes over, unless the run is over
abbrev pub done_next : List Step → State → List Simple
done_next ts s = cond (is_over (length ts) s) [] (done (step_at ts s.track.place) s.track.registers)

-- what the one path goes over in n steps
abbrev pub enabled : Values → List Step → ℕ → State → List Simple
enabled v ts zero s = []
enabled v ts (suc n) s = done_next ts s ++ enabled v ts n (next v ts s)
