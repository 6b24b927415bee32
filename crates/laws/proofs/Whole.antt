-- The whole run, from its first step: it comes to what the branching run comes to, in so many steps, over the same lines.
use Rattle.std.proofs.Common.{◌≡◌, ℕ, zero, suc, ◌+◌, ◌-◌, Bool, true, List, [], ◌++◌, length, Some, None, sym, refl, ap, ◌∙◌, inl, inr, le_refl, arith}
use Rattle.std.proofs.lemmas.List.{append-nil}
use Rattle.std.proofs.lemmas.Bool.{le-leb}
use Rattle.sheet.specs.Code.{Code, Keeps}
use Rattle.onepath.specs.Listed.{steps_of}
use Rattle.onepath.specs.declared.steps.Step.{Step}
use Rattle.onepath.proofs.Front.{front_holds}
use Rattle.run.specs.Values.{Values}
use Rattle.run.specs.Branching.{Out, went, broke, branching}
use Rattle.run.specs.Machine.{State, is_over, steps, cleared, fresh}
use Rattle.run.proofs.Taking.{over_stays}
use Rattle.laws.specs.Trails.{Simple, trail, enabled}
use Rattle.laws.specs.Laws.{ComesTo, Agreement, most_steps, Ending, Order, Disabled}
use Rattle.run.specs.declared.registers.Registers.{Registers}
use Rattle.laws.proofs.Kept.{Sized}
use Rattle.laws.proofs.Walking.{Memory, memory_of, Walk, on, off, walk, Agree, agrees}
use Rattle.laws.proofs.Following.{Reach, Follows, arrives, breaks, steps_both, enabled_both}
use Rattle.laws.proofs.Simulation.{sim}

-- a machine that follows a walk comes to what the walk agrees with
comes : {v : Values} {ts : List Step} {most k d e : ℕ} {r : Registers} {b : List Simple} {s : State} (o : Out) (c : List Simple) (x : Walk) → Agree o c x → Follows v ts most k d r b s e x →
    (n : ℕ) × ComesTo e o (steps v ts n s)
comes (went w) c (on u h) a (arrives t y b) = (b.number, rw b.there (refl, ap (λ z. (memory_of z).cells) a, cc, refl))
comes (went w) c (off l h u) a (breaks i t b) = absurd (let z : ◌≡◌ {A = ℕ} 0 1 = cc in omega arith)
comes (broke l w) c (on u h) a (arrives t y b) = (b.number, rw b.there (inl (a.0, inl refl)))
comes (broke l w) c (off m h u) (inl a, x) (breaks i t b) = (b.number, rw b.there (inl (a, inr (m, refl))))
comes (broke l w) c (off m h u) (inr a, x) (breaks i t b) = (b.number, rw b.there (inr (a.0, ap Some a.1)))

-- a run that is over goes over nothing more
module _ (v : Values) (ts : List Step) where
  over_idle : (n : ℕ) (s : State) → is_over (length ts) s ≡ true → enabled v ts n s ≡ []
  over_idle zero s h = refl
  over_idle (suc n) s h = rw h (over_idle n s h)

-- after so many steps the run is over, and has gone over b
record Whole (v : Values) (ts : List Step) (most : ℕ) (s : State) (b : List Simple) : Type 0 where
  pub over : is_over (length ts) (steps v ts most s) ≡ true
  pub told : enabled v ts most s ≡ b

module _ {v : Values} {ts : List Step} where
  whole_within : {n : ℕ} {s t : State} {b : List Simple} → is_over (length ts) t ≡ true → Reach v ts n [] s b t → Whole v ts n s b
  whole_within {n} {s} {t} h b =
      let m = b.number in
      let e : n ≡ m + (n - m) = omega arith in
      record {
        over = rw (e, steps_both v ts m (n - m) s, b.there, over_stays v ts t (n - m) h) h;
        told = rw (e, enabled_both v ts m (n - m) s, b.there, over_idle v ts (n - m) t h, append-nil (enabled v ts m s)) b.told;
      }

  whole : {n k d : ℕ} {r : Registers} {s : State} {x : Walk} → Follows v ts n k d r [] s (length ts) x → Whole v ts n s (memory_of x).trail
  whole (arrives t u b) = whole_within (le-leb (length ts) (length ts) (le_refl (length ts))) b
  whole (breaks i t b) = whole_within refl b

-- what a walk that agrees has gone over
in_order : (o : Out) (c : List Simple) (x : Walk) → Agree o c x → (rest : List Simple) × ((memory_of x).trail ≡ c ++ rest) × ((u : List ℕ) → o ≡ went u → rest ≡ [])
in_order (went w) c x a = ([], ap (λ z. (memory_of z).trail) a ∙ sym (append-nil c), λ u q. refl)
in_order (broke l w) c x a = (a.1.0, a.1.1, λ u q. absurd (let z : ◌≡◌ {A = ℕ} 0 1 = cc in omega arith))

-- nothing has been gone over yet
abbrev begun : List ℕ → Memory
begun w = record { cells = w; trail = [] }

module _ (v : Values) (covered : ℕ → Bool) (cells : ℕ) (c : Code) (w : List ℕ) (s : Keeps cells 6 c) where
  -- from its first step to its end the machine follows the walk
  follows : Follows v (steps_of covered 0 0 0 0 c) (most_steps c) 0 0 cleared [] (fresh w) (length (steps_of covered 0 0 0 0 c)) (walk v covered 0 0 c true (begun w) None)
  follows =
      let ts = steps_of covered 0 0 0 0 c in
      let z : Sized cleared = record { levels = refl; loops = refl } in
      sim v covered ts cells 6 0 0 0 0 (length ts) c s (omega arith) (front_holds covered ts [] 0 0 0 c (sym (append-nil ts))) (le_refl (length ts)) (most_steps c) (le_refl (most_steps c)) cleared None (begun w) true z refl

pub agreement : Agreement
agreement v covered cells c w s = comes (branching v c 0 w) (trail v c 0 w) (walk v covered 0 0 c true (begun w) None) (agrees v covered 0 0 c (begun w)) (follows v covered cells c w s)

pub ending : Ending
ending v covered cells c w s = (whole (follows v covered cells c w s)).over

pub order : Order
order v covered cells c w s =
    let t = in_order (branching v c 0 w) (trail v c 0 w) (walk v covered 0 0 c true (begun w) None) (agrees v covered 0 0 c (begun w)) in
    (t.0, (whole (follows v covered cells c w s)).told ∙ t.1, t.2)

pub disabled : Disabled
disabled v k i r h w e = (λ t o a b. rw e, λ t n. rw e)
