-- Every score that the plain round accepts is deserved.
use Rattle.std.proofs.Common.{◌≡◌, ℕ, Bool, true, false, cond, List, [], ◌∷◌, Some, None, Option, sym, refl, ap, ◌∙◌, arith}
use Rattle.sheet.specs.Layout.{Program}
use Rattle.run.specs.Branching.{Out, went, broke, branching}
use Rattle.run.specs.Judging.{verdict_of}
use Rattle.run.specs.Values.{Values, is_true, stated}
use Rattle.run.specs.declared.verdicts.Verdict.TheVariants.{Right as RightVerdict, Wrong as WrongVerdict}
use Rattle.protocol.specs.Calls.{is_in_play, refusal, score_of, accepted, moved, reported, after, answer}
use Rattle.protocol.specs.Plain.{Plain, kept, branching_score, plain_after, plain_tells}
use Rattle.protocol.specs.Promise.{Deserves, Deserved, Scores, laid, begun, answers_of, is_refused}
use Rattle.protocol.specs.Stands.{Stand}
use Rattle.protocol.specs.Terms.{Terms, terms_for}
use Rattle.protocol.specs.Watching.{Watching}
use Rattle.protocol.specs.declared.answers.Answer.{Answer}
use Rattle.protocol.specs.declared.answers.Answer.TheVariants.{Done, Left, Walked, Shown, Scored}
use Rattle.protocol.specs.declared.calls.Call.{Call}
use Rattle.protocol.specs.declared.calls.Call.TheVariants.{Put, Start, Advance, Look, Withdraw, Score as AskScore}
use Rattle.protocol.specs.declared.calls.Phase.TheVariants.{InPlay}
use Rattle.protocol.specs.declared.refusals.Refusal.{Refusal}
use Rattle.protocol.specs.declared.refusals.Refusal.TheVariants.{Phase as WrongPhase}
use Rattle.protocol.proofs.Agrees.{unless_none, in_play_lem, not_laying}

deserves_ended : (v : Values) (x : ℕ) (u : List ℕ) (b : Bool) → is_true v u x ≡ b → Deserves v x (went u) (score_of (cond b RightVerdict WrongVerdict))
deserves_ended v x u true e =
    record {
      void = (λ q. absurd (let z : ◌≡◌ {A = ℕ} 0 1 = cc in omega arith), λ (l, y, q). absurd (let z : ◌≡◌ {A = ℕ} 0 1 = cc in omega arith));
      right = λ y q. (λ _. let same : u ≡ y = cc in ap (λ z. is_true v z x) (sym same) ∙ e, λ _. refl);
    }
deserves_ended v x u false e =
    record {
      void = (λ q. absurd (let z : ◌≡◌ {A = ℕ} 0 1 = cc in omega arith), λ (l, y, q). absurd (let z : ◌≡◌ {A = ℕ} 0 1 = cc in omega arith));
      right = λ y q. (λ r. absurd (let z : ◌≡◌ {A = ℕ} 0 1 = cc in omega arith), λ r. let same : u ≡ y = cc in let h = sym e ∙ ap (λ z. is_true v z x) same ∙ r in absurd (let z : ◌≡◌ {A = ℕ} 0 1 = cc in omega arith));
    }

deserves : (v : Values) (x : ℕ) (o : Out) → Deserves v x o (score_of (verdict_of v x o))
deserves v x (went u) = deserves_ended v x u (is_true v u x) refl
deserves v x (broke l u) =
    record {
      void = (λ _. (l, u, refl), λ _. refl);
      right = λ y q. absurd (let z : ◌≡◌ {A = ℕ} 0 1 = cc in omega arith);
    }

module _ {M : Type 0} (v : Values) (p : Program) (covered : ℕ → Bool) (w : Watching M) where
  abbrev t : Terms
  t = terms_for v p covered

  -- a run in play began from the cells of the latest accepted start, of which the verdict is kept
  abbrev Since : Plain M → Option (List ℕ) → Type 0
  Since q o = q.stand.phase ≡ InPlay → (u : List ℕ) × (o ≡ Some u) × (q.verdict ≡ Some (branching_score t p.code u))

  since_by : (r : Option Refusal) (a : Stand M) (q : Plain M) (o : Option (List ℕ)) → Since (record { stand = a; verdict = q.verdict }) o → Since q o →
      Since (record { stand = moved r a q.stand; verdict = q.verdict }) o
  since_by None a q o h g = h
  since_by (Some f) a q o h g = g

  started : (r : Option Refusal) (n : ℕ) (q : Plain M) (o : Option (List ℕ)) → Since q o →
      Since (record { stand = moved r (accepted t w q.stand Start) q.stand; verdict = moved r (Some (branching_score t p.code q.stand.setter)) q.verdict })
      (cond (is_refused (reported r (Left n))) o (Some q.stand.setter))
  started None n q o g = λ _. (q.stand.setter, refl, refl)
  started (Some f) n q o g = g

  put_by : (r : Option Refusal) (x n : ℕ) (q : Plain M) → (moved r (accepted t w q.stand (Put x n)) q.stand).setter ≡ cond (is_refused (reported r Done)) q.stand.setter (stated v x n q.stand.setter)
  put_by None x n q = refl
  put_by (Some f) x n q = refl

  kept_by : (r : Option Refusal) (a b : Stand M) → a.setter ≡ b.setter → b.setter ≡ (moved r a b).setter
  kept_by None a b e = sym e
  kept_by (Some f) a b e = refl

  -- the setter's cells, as the calls and answers tell them
  setter_after : (q : Plain M) (c : Call) → laid v c (answer t w q.stand (kept q.verdict) c) q.stand.setter ≡ (after t w q.stand c).setter
  setter_after q (Put x n) = sym (put_by (refusal t q.stand (Put x n)) x n q)
  setter_after q Start = kept_by (refusal t q.stand Start) (accepted t w q.stand Start) q.stand refl
  setter_after q (Advance k) = kept_by (refusal t q.stand (Advance k)) (accepted t w q.stand (Advance k)) q.stand refl
  setter_after q (Look x) = kept_by (refusal t q.stand (Look x)) q.stand q.stand refl
  setter_after q Withdraw = kept_by (refusal t q.stand Withdraw) (accepted t w q.stand Withdraw) q.stand refl
  setter_after q AskScore = kept_by (refusal t q.stand AskScore) (accepted t w q.stand AskScore) q.stand refl

  since_after : (q : Plain M) (o : Option (List ℕ)) (c : Call) → Since q o →
      Since (plain_after t p.code w q c) (begun c (answer t w q.stand (kept q.verdict) c) q.stand.setter o)
  since_after q o (Put x n) g = since_by (refusal t q.stand (Put x n)) (accepted t w q.stand (Put x n)) q o g g
  since_after q o Start g = started (refusal t q.stand Start) _ q o g
  since_after q o (Advance k) g = since_by (refusal t q.stand (Advance k)) (accepted t w q.stand (Advance k)) q o g g
  since_after q o (Look x) g = since_by (refusal t q.stand (Look x)) q.stand q o g g
  since_after q o Withdraw g = since_by (refusal t q.stand Withdraw) (accepted t w q.stand Withdraw) q o not_laying g
  since_after q o AskScore g = since_by (refusal t q.stand AskScore) (accepted t w q.stand AskScore) q o not_laying g

  deserved_by : (r : Option Refusal) (a : Answer) (o : Option (List ℕ)) → (r ≡ None → Deserved v p o a) → Deserved v p o (reported r a)
  deserved_by None a o h = h refl
  deserved_by (Some f) a o h = tt

  scored : (q : Plain M) (o : Option (List ℕ)) → Since q o → refusal t q.stand AskScore ≡ None → Deserved v p o (Scored (kept q.verdict))
  scored q o g none =
      let playing = (unless_none (is_in_play q.stand.phase) WrongPhase _ none).0 in
      let (u, from, verdict) = g (in_play_lem q.stand.phase playing) in
      (u, from, rw verdict (deserves v p.verdict (branching v p.code 0 u)))

  deserved : (q : Plain M) (o : Option (List ℕ)) (c : Call) → Since q o → Deserved v p o (answer t w q.stand (kept q.verdict) c)
  deserved q o (Put x n) g = deserved_by (refusal t q.stand (Put x n)) Done o (λ _. tt)
  deserved q o Start g = deserved_by (refusal t q.stand Start) (Left _) o (λ _. tt)
  deserved q o (Advance k) g = deserved_by (refusal t q.stand (Advance k)) (Walked _) o (λ _. tt)
  deserved q o (Look x) g = deserved_by (refusal t q.stand (Look x)) (Shown _) o (λ _. tt)
  deserved q o Withdraw g = deserved_by (refusal t q.stand Withdraw) Done o (λ _. tt)
  deserved q o AskScore g = deserved_by (refusal t q.stand AskScore) (Scored (kept q.verdict)) o (scored q o g)

  pub all_deserved : (q : Plain M) (o : Option (List ℕ)) (cs : List Call) → Since q o → Scores v p q.stand.setter o cs (answers_of (plain_tells t p.code w q cs))
  all_deserved q o [] g = tt
  all_deserved q o (c ∷ cs) g =
      (deserved q o c g, rw (setter_after q c) (all_deserved (plain_after t p.code w q c) (begun c (answer t w q.stand (kept q.verdict) c) q.stand.setter o) cs (since_after q o c g)))
