-- The promise.
use Rattle.std.proofs.Common.{◌≡◌, ℕ, Bool, true, false, ◌||◌, eqb, List, [], ◌∷◌, map, length, take, None, sym, refl, ap, ◌∙◌, subst, arith}
use mathlib.Core.Path.{fun_ext}
use Rattle.std.proofs.lemmas.Bool.{eqb-true, or_from}
use Rattle.sheet.specs.Layout.{Program}
use Rattle.sheet.specs.Reading.{Laid}
use Rattle.sheet.proofs.Sole.{sole}
use Rattle.marking.specs.Rules.{Owns, Least}
use Rattle.laws.specs.Laws.{Alike}
use Rattle.run.specs.Values.{Values}
use Rattle.protocol.specs.Plain.{Told, Plain, opened, tells, plain_round}
use Rattle.protocol.specs.Promise.{Promise, card_of}
use Rattle.protocol.specs.Terms.{Terms, is_in, terms_for}
use Rattle.protocol.specs.Watching.{Watching}
use Rattle.protocol.specs.declared.calls.Call.{Call}
use Rattle.protocol.proofs.Agrees.{not_laying, tells_plain, tells_each}
use Rattle.protocol.proofs.Deserving.{all_deserved}
use Rattle.protocol.proofs.Pairs.{Paired, tells_alike}

-- a cell that is not covered is not marked
apart : (covered : ℕ → Bool) (x m : ℕ) (b : Bool) → eqb x m ≡ b → (covered m || true) ≡ covered m → covered x ≡ false → b ≡ false
apart covered x m true e own c = let same = eqb-true x m e in let z = ap covered same in absurd (let z : ◌≡◌ {A = ℕ} 0 1 = cc in omega arith)
apart covered x m false e own c = refl

not_marked : (covered : ℕ → Bool) (marks : List ℕ) → Owns ◌||◌ (λ _. true) covered marks → (x : ℕ) → covered x ≡ false → is_in marks x ≡ false
not_marked covered [] owns x c = refl
not_marked covered (m ∷ ms) (own, owns) x c = or_from (eqb x m) (is_in ms x) (apart covered x m (eqb x m) refl own c) (not_marked covered ms owns x c)

-- there is one least set
or_both : (a b : Bool) → (a || b) ≡ a → (b || a) ≡ b → a ≡ b
or_both true true e f = refl
or_both true false e f = f
or_both false true e f = sym e
or_both false false e f = refl

one_least : (p : Program) (m n : ℕ → Bool) → Least ◌||◌ (λ _. true) m p.marks p.code → Least ◌||◌ (λ _. true) n p.marks p.code → m ≡ n
one_least p m n x y = fun_ext (λ k. or_both (m k) (n k) (y.least m x.meets k) (x.least n y.meets k))

module _ {M : Type 0} (bs : List ℕ) (v : Values) (p : Program) (covered : ℕ → Bool) (laid : Laid bs p) (least : Least ◌||◌ (λ _. true) covered p.marks p.code) (w : Watching M)
    (tries : ℕ) (setter working : List ℕ) (m : M) (cs : List Call) where
  abbrev t : Terms
  t = terms_for v p covered

  abbrev new : List ℕ → List ℕ → Plain M
  new ss ws = record { stand = opened tries ss ws m; verdict = None }

  paired : (ss ws : List ℕ) → Alike (is_in p.marks) setter ss → length working ≡ length ws →
      Paired t p.code refl least.meets.follows (not_marked covered p.marks least.meets.owns) w (opened tries setter working m) (opened tries ss ws m)
  paired ss ws a l = record { phase = refl; tries = refl; watcher = refl; setter = a; long = l; run = not_laying }

  -- what another opening of these bytes tells, that agrees where cells are not marked
  abbrev Same : List ℕ → List ℕ → List (Told M) → Program → (ℕ → Bool) → Type 0
  Same ss ws told q c = Alike (is_in q.marks) setter ss → length working ≡ length ws → map card_of told ≡ map card_of (plain_round (terms_for v q c) q.code w tries ss ws m cs)

  any_opening : (told : List (Told M)) → ((ss ws : List ℕ) → Same ss ws told p covered) → (q : Program) (c : ℕ → Bool) → Laid bs q → Least ◌||◌ (λ _. true) c q.marks q.code → (ss ws : List ℕ) → Same ss ws told q c
  any_opening told base q c other other-least ss ws =
      let e = sole bs p q laid other in
      let here : Least ◌||◌ (λ _. true) c p.marks p.code = subst (λ z. Least ◌||◌ (λ _. true) c z.marks z.code) (sym e) other-least in
      subst (λ z. Same ss ws told z c) e (subst (Same ss ws told p) (one_least p covered c least here) (base ss ws))

  pub promised : Promise bs v p covered w tries setter working m cs (tells t w (opened tries setter working m) cs)
  promised =
      let same = tells_plain t p.code covered p.cells laid.lawful.keeps refl w (new setter working) cs not_laying in
      record {
        plain = same;
        each = λ k. ap (take k) same ∙ tells_each t p.code covered p.cells laid.lawful.keeps refl w k (new setter working) cs;
        alike = any_opening (tells t w (opened tries setter working m) cs) (λ ss ws a l. ap (map card_of) same ∙ tells_alike t p.code refl least.meets.follows (not_marked covered p.marks least.meets.owns) w (new setter working) (new ss ws) cs (paired ss ws a l));
        scores = rw same (all_deserved v p covered w (new setter working) None cs not_laying);
      }
