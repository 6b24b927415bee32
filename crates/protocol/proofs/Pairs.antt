-- Two rounds that differ in marked cells only tell the same, but for accepted scores.
use Rattle.std.proofs.Common.{◌≡◌, ℕ, zero, suc, ◌+◌, Bool, true, false, cond, not, ◌||◌, eqb, ltb, List, [], ◌∷◌, map, length, Some, None, Option, sym, refl, ap, ◌∙◌, arith}
use Rattle.std.proofs.lemmas.Bool.{not-true}
use Rattle.sheet.specs.Checks.{unless}
use Rattle.sheet.specs.Code.{Code}
use Rattle.marking.specs.Rules.{Follows}
use Rattle.onepath.specs.Listed.{steps_of}
use Rattle.laws.specs.Laws.{Alike}
use Rattle.run.specs.Machine.{State, is_over, next, steps, fresh}
use Rattle.laws.proofs.Together.{lockstep, alike_same}
use Rattle.protocol.specs.Advancing.{Walk, advanced, over_by, halted, later}
use Rattle.protocol.specs.Calls.{is_in_play, refusal, accepted, says, moved, reported, after, answer, told_of}
use Rattle.protocol.specs.Plain.{Plain, kept, plain_after, plain_tells}
use Rattle.protocol.specs.Promise.{shared, card_of}
use Rattle.protocol.specs.Stands.{Stand}
use Rattle.protocol.specs.Terms.{Terms}
use Rattle.protocol.specs.Watching.{Watching}
use Rattle.protocol.specs.declared.answers.Answer.{Answer}
use Rattle.protocol.specs.declared.answers.Answer.TheVariants.{Walked, Shown}
use Rattle.protocol.specs.declared.answers.Ending.{Ending}
use Rattle.protocol.specs.declared.answers.Ending.TheVariants.{Paused, Stopped}
use Rattle.protocol.specs.declared.answers.Score.{Score}
use Rattle.protocol.specs.declared.calls.Call.{Call}
use Rattle.protocol.specs.declared.calls.Call.TheVariants.{Put, Start, Advance, Look, Withdraw, Score as AskScore}
use Rattle.protocol.specs.declared.calls.Phase.{Phase}
use Rattle.protocol.specs.declared.calls.Phase.TheVariants.{Laying, InPlay}
use Rattle.protocol.specs.declared.refusals.Refusal.{Refusal}
use Rattle.protocol.specs.declared.refusals.Refusal.TheVariants.{WorkingCells, NoCell, Covered, Phase as WrongPhase, Early}
use Rattle.protocol.proofs.Advances.{next_steps}
use Rattle.protocol.proofs.Agrees.{unless_none, in_play_lem, not_laying}

module _ {M : Type 0} (t : Terms) (code : Code) (path : t.steps ≡ steps_of t.covered 0 0 0 0 code) (follows : Follows ◌||◌ t.covered [] code)
    (hidden : (x : ℕ) → t.covered x ≡ false → t.marked x ≡ false) (w : Watching M) where
  -- two runs so many steps on, from cells that are alike where they are not covered
  pub record Pace (s r : State) : Type 0 where
    pub number : ℕ
    pub from : List ℕ
    pub other : List ℕ
    pub here : s ≡ steps t.values t.steps number (fresh from)
    pub there : r ≡ steps t.values t.steps number (fresh other)
    pub alike : Alike t.covered from other

  abbrev Level : State → State → Type 0
  Level s r = (s.track.place ≡ r.track.place) × (s.track.broken ≡ r.track.broken) × Alike t.covered s.cells r.cells

  level : (s r : State) → Pace s r → Level s r
  level s r p =
      let v = t.values in
      let n = p.number in
      rw (p.here, p.there, path) (lockstep v t.covered code follows p.from p.other p.alike n)

  paced_next : (s r : State) → Pace s r → Pace (next t.values t.steps s) (next t.values t.steps r)
  paced_next s r p =
      let v = t.values in
      let ts = t.steps in
      record {
        number = suc p.number;
        from = p.from;
        other = p.other;
        here = ap (next v ts) p.here ∙ next_steps v ts p.number (fresh p.from);
        there = ap (next v ts) p.there ∙ next_steps v ts p.number (fresh p.other);
        alike = p.alike;
      }

  -- two walks that are told alike
  pub record Walks (x y : Walk M) : Type 0 where
    pub told : told_of x ≡ told_of y
    pub watcher : x.watcher ≡ y.watcher
    pub pace : Pace x.run y.run

  walks_by : (b c : Bool) → b ≡ c → (x y z u : Walk M) → Walks x y → Walks z u → Walks (cond b x z) (cond c y u)
  walks_by true true e x y z u p q = p
  walks_by true false e x y z u p q = absurd (let z : ◌≡◌ {A = ℕ} 0 1 = cc in omega arith)
  walks_by false true e x y z u p q = absurd (let z : ◌≡◌ {A = ℕ} 0 1 = cc in omega arith)
  walks_by false false e x y z u p q = q

  same_over : (s r : State) → Pace s r → is_over (length t.steps) s ≡ is_over (length t.steps) r
  same_over s r p = let (place, broken, _) = level s r p in rw (place, broken) refl

  halts : (s r : State) (m n : M) → Pace s r → m ≡ n → (e f : Ending) → e ≡ f → Walks (halted e s m) (halted f r n)
  halts s r m n p q e f g = record { told = ap (λ z. record { steps = 0; ending = z }) g; watcher = q; pace = p }

  walks : (k : ℕ) (s r : State) (m n : M) → m ≡ n → Pace s r → Walks (advanced t.values t.steps w k s m) (advanced t.values t.steps w k r n)
  walks zero s r m n q p =
      let ts = t.steps in
      let (place, broken, _) = level s r p in
      walks_by (is_over (length ts) s) (is_over (length ts) r) (same_over s r p) (halted (over_by s.track.broken) s m) (halted (over_by r.track.broken) r n) (halted Paused s m) (halted Paused r n)
      (halts s r m n p q _ _ (ap over_by broken)) (halts s r m n p q Paused Paused refl)
  walks (suc k) s r m n q p =
      let v = t.values in
      let ts = t.steps in
      let (place, broken, _) = level s r p in
      let i = s.track.place in
      let j = r.track.place in
      let on = walks k (next v ts s) (next v ts r) (w.becomes m i) (w.becomes n j) (rw (q, place) refl) (paced_next s r p) in
      let x = later 1 (advanced v ts w k (next v ts s) (w.becomes m i)) in
      let y = later 1 (advanced v ts w k (next v ts r) (w.becomes n j)) in
      walks_by (is_over (length ts) s) (is_over (length ts) r) (same_over s r p) (halted (over_by s.track.broken) s m) (halted (over_by r.track.broken) r n) (cond (w.accepts m i) x (halted Stopped s m)) (cond (w.accepts n j) y (halted Stopped r n))
      (halts s r m n p q _ _ (ap over_by broken))
      (walks_by (w.accepts m i) (w.accepts n j) (rw (q, place) refl) x y (halted Stopped s m) (halted Stopped r n)
      (record { told = ap (λ a. record { steps = 1 + a.steps; ending = a.ending }) on.told; watcher = on.watcher; pace = on.pace })
      (halts s r m n p q Stopped Stopped refl))

  -- two rounds that stand alike
  pub record Paired (s r : Stand M) : Type 0 where
    pub phase : s.phase ≡ r.phase
    pub tries : s.tries ≡ r.tries
    pub watcher : s.watcher ≡ r.watcher
    pub setter : Alike t.marked s.setter r.setter
    pub long : length s.run.cells ≡ length r.run.cells
    pub run : s.phase ≡ InPlay → Pace s.run r.run

  -- by its phase: only in play does it matter how the runs stand
  by_phase : (h : Phase) (f : Refusal) (o q : Option Refusal) → (h ≡ InPlay → o ≡ q) → unless (is_in_play h) f o ≡ unless (is_in_play h) f q
  by_phase Laying f o q e = refl
  by_phase InPlay f o q e = e refl

  same_refusal : (s r : Stand M) (c : Call) → Paired s r → refusal t s c ≡ refusal t r c
  same_refusal s r (Put x n) p = rw (p.phase, p.setter.0) refl
  same_refusal s r Start p = rw (p.phase, p.setter.0, p.long, p.tries) refl
  same_refusal s r (Advance k) p = rw (p.phase, p.long) refl
  same_refusal s r (Look x) p = rw (p.phase, p.long) refl
  same_refusal s r Withdraw p = rw p.phase refl
  same_refusal s r AskScore p =
      let b = eqb (length r.run.cells) t.cells in
      rw p.long
      (by_phase s.phase WrongPhase (unless b WorkingCells (unless (is_over (length t.steps) s.run) Early None)) (unless b WorkingCells (unless (is_over (length t.steps) r.run) Early None))
      (λ h. ap (λ z. unless b WorkingCells (unless z Early None)) (same_over s.run r.run (p.run h)))
      ∙ ap (λ z. unless (is_in_play z) WrongPhase (unless b WorkingCells (unless (is_over (length t.steps) r.run) Early None))) p.phase)

  same_told : (o : Option Refusal) (a b : Answer) → (o ≡ None → shared a ≡ shared b) → shared (reported o a) ≡ shared (reported o b)
  same_told None a b h = h refl
  same_told (Some f) a b h = refl

  -- an accepted advance and an accepted look are of a round in play, and the cell that is shown is not covered
  advancing : (s : Stand M) (k : ℕ) → refusal t s (Advance k) ≡ None → s.phase ≡ InPlay
  advancing s k none = in_play_lem s.phase (unless_none (is_in_play s.phase) WrongPhase _ none).0

  looking : (s : Stand M) (x : ℕ) → refusal t s (Look x) ≡ None → (s.phase ≡ InPlay) × (t.covered x ≡ false)
  looking s x none =
      let (playing, rest) = unless_none (is_in_play s.phase) WrongPhase _ none in
      let (long, rest') = unless_none (eqb (length s.run.cells) t.cells) WorkingCells _ rest in
      let (below, rest'') = unless_none (ltb x t.cells) (NoCell x) _ rest' in
      let (plain, _) = unless_none (not (t.covered x)) (Covered x) None rest'' in
      (in_play_lem s.phase playing, not-true (t.covered x) plain)

  same_shared : (s r : Stand M) (a b : Score) (c : Call) → Paired s r → shared (answer t w s a c) ≡ shared (answer t w r b c)
  same_shared s r a b c p =
      rw (sym (same_refusal s r c p)) (same_told (refusal t s c) (says t w s a c) (says t w r b c) (said c))
    where
      said : (c : Call) → refusal t s c ≡ None → shared (says t w s a c) ≡ shared (says t w r b c)
      said (Put x n) none = refl
      said Start none = rw p.tries refl
      said (Advance k) none = ap (λ z. Some (Walked z)) (walks k s.run r.run s.watcher r.watcher p.watcher (p.run (advancing s k none))).told
      said (Look x) none =
          let (playing, plain) = looking s x none in
          let (place, broken, alike) = level s.run r.run (p.run playing) in
          ap (λ z. Some (Shown z)) (alike.1 x plain (t.values.literally 0))
      said Withdraw none = refl
      said AskScore none = refl

  paired_by : (o q : Option Refusal) → o ≡ q → (a b s r : Stand M) → (o ≡ None → Paired a b) → Paired s r → Paired (moved o a s) (moved q b r)
  paired_by None None e a b s r h p = h refl
  paired_by None (Some f) e a b s r h p = absurd (let z : ◌≡◌ {A = ℕ} 0 1 = cc in omega arith)
  paired_by (Some f) None e a b s r h p = absurd (let z : ◌≡◌ {A = ℕ} 0 1 = cc in omega arith)
  paired_by (Some f) (Some g) e a b s r h p = p

  -- cells that are alike where they are not marked are alike where they are not covered
  uncover : (x y : List ℕ) → Alike t.marked x y → Alike t.covered x y
  uncover x y a = (a.0, λ i c e. a.1 i (hidden i c) e)

  long_at : (s r : State) → Pace s r → length s.cells ≡ length r.cells
  long_at s r p = let (place, broken, alike) = level s r p in alike.0

  paired_accepted : (s r : Stand M) (c : Call) → refusal t s c ≡ None → Paired s r → Paired (accepted t w s c) (accepted t w r c)
  paired_accepted s r (Put x n) none p =
      record { phase = p.phase; tries = p.tries; watcher = p.watcher; setter = alike_same t.marked s.setter r.setter x _ _ refl p.setter; long = p.long; run = p.run }
  paired_accepted s r Start none p =
      record {
        phase = refl;
        tries = rw p.tries refl;
        watcher = p.watcher;
        setter = p.setter;
        long = p.setter.0;
        run = λ _. record { number = 0; from = s.setter; other = r.setter; here = refl; there = refl; alike = uncover s.setter r.setter p.setter };
      }
  paired_accepted s r (Advance k) none p =
      let on = walks k s.run r.run s.watcher r.watcher p.watcher (p.run (advancing s k none)) in
      record { phase = p.phase; tries = p.tries; watcher = on.watcher; setter = p.setter; long = long_at _ _ on.pace; run = λ _. on.pace }
  paired_accepted s r (Look x) none p = p
  paired_accepted s r Withdraw none p =
      record { phase = refl; tries = p.tries; watcher = p.watcher; setter = p.setter; long = p.long; run = not_laying }
  paired_accepted s r AskScore none p =
      record { phase = refl; tries = p.tries; watcher = p.watcher; setter = p.setter; long = p.long; run = not_laying }

  paired_after : (s r : Stand M) (c : Call) → Paired s r → Paired (after t w s c) (after t w r c)
  paired_after s r c p =
      paired_by (refusal t s c) (refusal t r c) (same_refusal s r c p) (accepted t w s c) (accepted t w r c) s r (λ none. paired_accepted s r c none p) p

  pub tells_alike : (p q : Plain M) (cs : List Call) → Paired p.stand q.stand → map card_of (plain_tells t code w p cs) ≡ map card_of (plain_tells t code w q cs)
  tells_alike p q [] e = refl
  tells_alike p q (c ∷ cs) e =
      let next = paired_after p.stand q.stand c e in
      rw (same_shared p.stand q.stand (kept p.verdict) (kept q.verdict) c e, next.watcher, tells_alike (plain_after t code w p c) (plain_after t code w q c) cs next) refl
