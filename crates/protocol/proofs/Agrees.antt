-- A round tells what the plain round tells: where a score is accepted, the one path came to what the branching run
-- comes to.
use Rattle.std.proofs.Common.{◌≡◌, ℕ, zero, suc, ◌+◌, Bool, true, false, ◌||◌, eqb, leb, List, [], ◌∷◌, length, take, is_some, Some, None, Option, sym, refl, ap, ◌∙◌, inl, inr, arith}
use Rattle.std.proofs.lemmas.Bool.{le-leb, or_right}
use Rattle.sheet.specs.Checks.{unless}
use Rattle.sheet.specs.Code.{Code, Keeps}
use Rattle.onepath.specs.Listed.{steps_of}
use Rattle.onepath.specs.declared.steps.Step.{Step}
use Rattle.run.specs.Branching.{Out, went, broke, branching}
use Rattle.run.specs.Judging.{verdict_of, path_verdict}
use Rattle.laws.specs.Laws.{ComesTo}
use Rattle.run.specs.Machine.{State, is_over, steps, fresh}
use Rattle.run.specs.Values.{Values}
use Rattle.laws.proofs.Following.{steps_both}
use Rattle.run.proofs.Taking.{over_stays}
use Rattle.laws.proofs.Whole.{agreement}
use Rattle.protocol.specs.Calls.{is_in_play, refusal, score_of, path_score, accepted, moved, reported, answer}
use Rattle.protocol.specs.Plain.{Plain, tells, kept, branching_score, plain_after, plain_tells}
use Rattle.protocol.specs.Stands.{Stand}
use Rattle.protocol.specs.Terms.{Terms}
use Rattle.protocol.specs.Watching.{Watching}
use Rattle.protocol.specs.declared.answers.Answer.{Answer}
use Rattle.protocol.specs.declared.answers.Answer.TheVariants.{Scored}
use Rattle.protocol.specs.declared.calls.Call.{Call}
use Rattle.protocol.specs.declared.calls.Call.TheVariants.{Put, Start, Advance, Look, Withdraw, Score as AskScore}
use Rattle.protocol.specs.declared.calls.Phase.{Phase}
use Rattle.protocol.specs.declared.calls.Phase.TheVariants.{Laying, InPlay}
use Rattle.protocol.specs.declared.refusals.Refusal.{Refusal}
use Rattle.protocol.specs.declared.refusals.Refusal.TheVariants.{WorkingCells, Phase as WrongPhase, Early}
use Rattle.protocol.proofs.Advances.{advanced_on}

-- two ends of one run are one
module _ (v : Values) (ts : List Step) (s : State) where
  one_end : (n m : ℕ) → is_over (length ts) (steps v ts n s) ≡ true → is_over (length ts) (steps v ts m s) ≡ true → steps v ts n s ≡ steps v ts m s
  one_end n m h g =
      let e : n + m ≡ m + n = omega arith in
      sym (over_stays v ts (steps v ts n s) m h) ∙ sym (steps_both v ts n m s) ∙ ap (λ k. steps v ts k s) e ∙ steps_both v ts m n s ∙ over_stays v ts (steps v ts m s) n g

-- a run that came to what the branching run comes to is over, and its verdict is the same
over_at : (e i : ℕ) (b : Option ℕ) → i ≡ e → (is_some b || leb e i) ≡ true
over_at e i b q = or_right (is_some b) (leb e i) (le-leb e i (omega arith))

over_broken : (e i l : ℕ) (b : Option ℕ) → b ≡ Some l → (is_some b || leb e i) ≡ true
over_broken e i l b q = rw q refl

comes_over : (e : ℕ) (o : Out) (s : State) → ComesTo e o s → is_over e s ≡ true
comes_over e (went w) s c = over_at e s.track.place s.track.broken c.0
comes_over e (broke l w) s (inl (h, inl q)) = over_at e s.track.place s.track.broken q
comes_over e (broke l w) s (inl (h, inr (m, q))) = over_broken e s.track.place m s.track.broken q
comes_over e (broke l w) s (inr (h, q)) = over_broken e s.track.place l s.track.broken q

comes_verdict : (v : Values) (x e : ℕ) (o : Out) (s : State) → ComesTo e o s → path_verdict v x s ≡ verdict_of v x o
comes_verdict v x e (went w) s (p, c, h, b) = rw (h, b, c) refl
comes_verdict v x e (broke l w) s (inl (h, q)) = rw h refl
comes_verdict v x e (broke l w) s (inr (h, q)) = rw (h, q) refl

-- a test that is passed
pub unless_none : {F : Type 0} (b : Bool) (f : F) (o : Option F) → unless b f o ≡ None → (b ≡ true) × (o ≡ None)
unless_none true f o h = (refl, h)
unless_none false f o h = absurd (let z : ◌≡◌ {A = ℕ} 0 1 = cc in omega arith)

pub in_play_lem : (h : Phase) → is_in_play h ≡ true → h ≡ InPlay
in_play_lem Laying h = absurd (let z : ◌≡◌ {A = ℕ} 0 1 = cc in omega arith)
in_play_lem InPlay h = refl

pub not_laying : {A : Type 0} → Laying ≡ InPlay → A
not_laying e = absurd (let z : ◌≡◌ {A = ℕ} 0 1 = cc in omega arith)

same_report : (o : Option Refusal) (a b : Answer) → (o ≡ None → a ≡ b) → reported o a ≡ reported o b
same_report None a b h = h refl
same_report (Some f) a b h = refl

module _ {M : Type 0} (t : Terms) (code : Code) (covered : ℕ → Bool) (cells : ℕ) (keeps : Keeps cells 6 code) (path : t.steps ≡ steps_of covered 0 0 0 0 code) (w : Watching M) where
  -- a run in play began from cells of which the verdict is kept
  pub record Began (p : Plain M) : Type 0 where
    pub number : ℕ
    pub from : List ℕ
    pub there : p.stand.run ≡ steps t.values t.steps number (fresh from)
    pub kept : p.verdict ≡ Some (branching_score t code from)

  abbrev pub Tied : Plain M → Type 0
  Tied p = p.stand.phase ≡ InPlay → Began p

  end_score : (n : ℕ) (u : List ℕ) → is_over (length t.steps) (steps t.values t.steps n (fresh u)) ≡ true →
      path_score t (steps t.values t.steps n (fresh u)) ≡ branching_score t code u
  end_score n u h =
      let v = t.values in
      let (m, c) = agreement v covered cells code u keeps in
      let ts = steps_of covered 0 0 0 0 code in
      let o = branching v code 0 u in
      let g : is_over (length ts) (steps v ts n (fresh u)) ≡ true = ap (λ z. is_over (length z) (steps v z n (fresh u))) (sym path) ∙ h in
      let same = one_end v ts (fresh u) n m g (comes_over (length ts) o (steps v ts m (fresh u)) c) in
      ap (λ z. path_score t (steps v z n (fresh u))) path ∙ ap (path_score t) same ∙ ap score_of (comes_verdict v t.verdict (length ts) o (steps v ts m (fresh u)) c)

  -- an accepted score says the verdict that is kept
  same_score : (p : Plain M) → Tied p → refusal t p.stand AskScore ≡ None → path_score t p.stand.run ≡ kept p.verdict
  same_score p tied none =
      let s = p.stand.run in
      let (playing, rest) = unless_none (is_in_play p.stand.phase) WrongPhase _ none in
      let (long, rest') = unless_none (eqb (length s.cells) t.cells) WorkingCells _ rest in
      let (over, _) = unless_none (is_over (length t.steps) s) Early None rest' in
      let b = tied (in_play_lem p.stand.phase playing) in
      ap (path_score t) b.there ∙ end_score b.number b.from (ap (is_over (length t.steps)) (sym b.there) ∙ over) ∙ ap kept (sym b.kept)

  tied_by : (o : Option Refusal) (a : Stand M) (p : Plain M) → (a.phase ≡ InPlay → Began (record { stand = a; verdict = p.verdict })) → Tied p →
      Tied (record { stand = moved o a p.stand; verdict = p.verdict })
  tied_by None a p h tied = h
  tied_by (Some f) a p h tied = tied

  tied_start : (o : Option Refusal) (p : Plain M) → Tied p →
      Tied (record { stand = moved o (accepted t w p.stand Start) p.stand; verdict = moved o (Some (branching_score t code p.stand.setter)) p.verdict })
  tied_start None p tied = λ _. record { number = 0; from = p.stand.setter; there = refl; kept = refl }
  tied_start (Some f) p tied = tied

  tied_after : (p : Plain M) (c : Call) → Tied p → Tied (plain_after t code w p c)
  tied_after p (Put x n) tied =
      tied_by (refusal t p.stand (Put x n)) (accepted t w p.stand (Put x n)) p (λ h. let b = tied h in record { number = b.number; from = b.from; there = b.there; kept = b.kept }) tied
  tied_after p Start tied = tied_start (refusal t p.stand Start) p tied
  tied_after p (Advance k) tied =
      let on = advanced_on t.values t.steps w k p.stand.run p.stand.watcher in
      tied_by (refusal t p.stand (Advance k)) (accepted t w p.stand (Advance k)) p
      (λ h.
      let b = tied h in
      record {
        number = b.number + on.number;
        from = b.from;
        there = on.there ∙ ap (steps t.values t.steps on.number) b.there ∙ sym (steps_both t.values t.steps b.number on.number (fresh b.from));
        kept = b.kept;
      })
      tied
  tied_after p (Look x) tied = tied_by (refusal t p.stand (Look x)) p.stand p tied tied
  tied_after p Withdraw tied = tied_by (refusal t p.stand Withdraw) (accepted t w p.stand Withdraw) p not_laying tied
  tied_after p AskScore tied = tied_by (refusal t p.stand AskScore) (accepted t w p.stand AskScore) p not_laying tied

  same_answer : (p : Plain M) (c : Call) → Tied p → answer t w p.stand (path_score t p.stand.run) c ≡ answer t w p.stand (kept p.verdict) c
  same_answer p (Put x n) tied = refl
  same_answer p Start tied = refl
  same_answer p (Advance k) tied = refl
  same_answer p (Look x) tied = refl
  same_answer p Withdraw tied = refl
  same_answer p AskScore tied =
      same_report (refusal t p.stand AskScore) (Scored (path_score t p.stand.run)) (Scored (kept p.verdict)) (λ none. ap Scored (same_score p tied none))

  pub tells_plain : (p : Plain M) (cs : List Call) → Tied p → tells t w p.stand cs ≡ plain_tells t code w p cs
  tells_plain p [] tied = refl
  tells_plain p (c ∷ cs) tied = rw (same_answer p c tied, tells_plain (plain_after t code w p c) cs (tied_after p c tied)) refl

  -- what is told of the first calls is what they alone are told
  pub tells_each : (k : ℕ) (p : Plain M) (cs : List Call) → take k (plain_tells t code w p cs) ≡ plain_tells t code w p (take k cs)
  tells_each zero p cs = refl
  tells_each (suc k) p [] = refl
  tells_each (suc k) p (c ∷ cs) = rw (tells_each k (plain_after t code w p c) cs) refl
