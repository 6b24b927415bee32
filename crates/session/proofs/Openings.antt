-- What is known once an opening's checks are passed.
use Rattle.std.proofs.Common.{◌≡◌, ℕ, zero, suc, ◌-◌, ◌≤◌, min, ◌&&◌, eqb, leb, List, [], ◌∷◌, length, take, Some, None, Option, sym, ap, ◌∙◌, arith}
use Rattle.std.proofs.lemmas.Bool.{eqb-true, leb-true, and_parts}
use Rattle.std.specs.Option.{option_map}
use Rattle.sheet.specs.Checks.{word_at, or_else}
use Rattle.onepath.specs.Refusals.{convert_fault}
use Rattle.protocol.proofs.Agrees.{unless_none}
use Rattle.protocol.specs.declared.calls.Phase.TheVariants.{Laying}
use Rattle.run.specs.Machine.{at_first}
use Rattle.round.specs.Rounds.{renewed}
use Rattle.round.specs.declared.records.Record.{Record}
use Rattle.session.specs.Refusals.{open_fault}
use Rattle.session.specs.declared.opening.Lent.{Lent}
use Rattle.session.specs.declared.faults.OpenFault.TheVariants.{Convert, SetterCells, WorkingCells, Tries}

or_else_none : {F : Type 0} (o q : Option F) → or_else o q ≡ None → q ≡ None
or_else_none None q h = h
or_else_none (Some f) q h = absurd (let z : ◌≡◌ {A = ℕ} 0 1 = cc in omega arith)

pub record Passed (bs : List ℕ) (n : Lent) (k : ℕ) : Type 0 where
  pub setter : n.setter ≡ word_at bs 0
  pub working : n.working ≡ word_at bs 0
  pub few : k ≤ 100

pub passed : (bs : List ℕ) (n : Lent) (k : ℕ) → open_fault bs n k ≡ None → Passed bs n k
passed bs n k none =
    let rest = or_else_none (option_map Convert (convert_fault bs n.lines n.marks n.steps)) _ none in
    let (setter, rest') = unless_none (eqb n.setter (word_at bs 0)) SetterCells _ rest in
    let (working, rest'') = unless_none (eqb n.working (word_at bs 0)) WorkingCells _ rest' in
    let (tries, _) = unless_none (leb 1 k && leb k 100) Tries None rest'' in
    record { setter = eqb-true n.setter (word_at bs 0) setter; working = eqb-true n.working (word_at bs 0) working; few = leb-true k 100 (and_parts (leb 1 k) (leb k 100) tries).1 }

-- the first few of a list are few
pub short_take : {A : Type 0} (n m : ℕ) (l : List A) → n ≤ m → length (take n l) ≤ m
short_take zero m l h = omega arith
short_take (suc n) m [] h = omega arith
short_take (suc n) m (x ∷ l) h = let k = short_take n (m - 1) l (omega arith) in omega arith

pub few : (k m : ℕ) → k ≤ m → min k m ≡ k
few k m h = omega arith

-- a new round of the same sheet is as the first was when it was new
pub as_new : (r : Record) (k : ℕ) → r.phase ≡ Laying → r.tries ≡ k → r.track ≡ at_first → k ≤ 100 → renewed r k ≡ r
as_new r k phase tries track few-tries =
    ap (λ z. record { phase = z; tries = min k 100; cells = r.cells; steps = r.steps; verdict = r.verdict; secrets = r.secrets; track = at_first }) (sym phase)
    ∙ ap (λ z. record { phase = r.phase; tries = z; cells = r.cells; steps = r.steps; verdict = r.verdict; secrets = r.secrets; track = at_first }) (few k 100 few-tries ∙ sym tries)
    ∙ ap (λ z. record { phase = r.phase; tries = r.tries; cells = r.cells; steps = r.steps; verdict = r.verdict; secrets = r.secrets; track = z }) (sym track)
