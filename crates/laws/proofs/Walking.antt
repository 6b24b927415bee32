-- The one path walked by the structure of the code, with no places and no registers, and what it comes to.
use Rattle.std.proofs.Common.{◌≡◌, ℕ, zero, suc, ◌+◌, ◌≤◌, Bool, true, false, cond, not, ◌&&◌, ◌⊎◌, List, [], ◌∷◌, ◌++◌, Some, None, Option, sym, refl, ap, ◌∙◌, inl, inr, arith}
use Rattle.std.proofs.lemmas.List.{append-nil, append_assoc}
use Rattle.sheet.specs.Code.{Code, stop, work, literal, choose, repeat, size_of}
use Rattle.onepath.specs.Cover.{loop_covered, level_in}
use Rattle.run.specs.Values.{Values, is_true, worked, stated}
use Rattle.run.specs.Branching.{Out, went, broke, after, passes, branching}
use Rattle.run.specs.Machine.{closing}
use Rattle.laws.specs.Trails.{Simple, did_work, did_literal, beyond, passes_trail, trail}

-- what a walk has come to: its cells, and the simple lines gone over
pub record Memory : Type 0 where
  pub cells : List ℕ
  pub trail : List Simple

-- a simple line gone over, and what it does to the cells
abbrev pub does : (List ℕ → List ℕ) → Simple → Memory → Memory
does f a w = record { cells = f w.cells; trail = w.trail ++ (a ∷ []) }

-- A walk goes on, with a latch, or broke at a line, with a latch.
pub data Walk : Type 0 where
  on : Memory → Option ℕ → Walk
  off : ℕ → Option ℕ → Memory → Walk

abbrev pub memory_of : Walk → Memory
memory_of (on w h) = w
memory_of (off l h w) = w

abbrev latch_of : Walk → Option ℕ
latch_of (on w h) = h
latch_of (off l h w) = h

abbrev pub onward : Walk → (Memory → Option ℕ → Walk) → Walk
onward (on w h) f = f w h
onward (off l h w) f = off l h w

-- the walk of some code, from a guard, what it has come to, and a latch
abbrev pub Form : Type 0
Form = Bool → Memory → Option ℕ → Walk

-- one after the other, under the same guard
unfoldable pub in_turn : Form → Form → Form
in_turn X Y g w h = onward (X g w h) (Y g)

unfoldable pub resting : Form
resting g w h = on w h

unfoldable pub doing : (Memory → Memory) → Form
doing f g w h = on (cond g (f w) w) h

-- an if, covered or open
unfoldable pub choosing : Bool → Values → ℕ → Form → Form → Form
choosing true v x X Y g w h = onward (X (g && is_true v w.cells x) w h) (Y (g && not (is_true v w.cells x)))
choosing false v x X Y g w h = cond (is_true v w.cells x) (X g w h) (Y g w h)

-- the passes left of a covered loop, whose flag is q, and then its close
unfoldable pub narrowing : Values → ℕ → ℕ → Form → ℕ → Bool → Form
narrowing v x l X zero q g w h = on w (closing (g && (q && is_true v w.cells x)) l h)
narrowing v x l X (suc n) q g w h = onward (X (g && (q && is_true v w.cells x)) w h) (narrowing v x l X n (q && is_true v w.cells x) g)

-- the passes left of an open loop
unfoldable pub circling : Values → ℕ → ℕ → Form → ℕ → Form
circling v x l X zero g w h = cond (is_true v w.cells x) (off l h w) (on w h)
circling v x l X (suc n) g w h = cond (is_true v w.cells x) (onward (X g w h) (circling v x l X n g)) (on w h)

abbrev pub looping : Bool → Values → ℕ → ℕ → Form → ℕ → Form
looping true v x l X n = narrowing v x l X n true
looping false v x l X n = circling v x l X n

-- the code at level k whose first line is l
unfoldable pub walk : Values → (ℕ → Bool) → ℕ → ℕ → Code → Form
walk v covered k l stop = resting
walk v covered k l (work t o a b r) = in_turn (doing (does (worked v t o a b) (did_work t o a b))) (walk v covered k (l + 1) r)
walk v covered k l (literal t n r) = in_turn (doing (does (stated v t n) (did_literal t n))) (walk v covered k (l + 1) r)
walk v covered k l (choose x p q r) =
    let b = covered x in
    let own = level_in b k in
    let else = l + 1 + size_of p in
    let end = else + 1 + size_of q in
    in_turn (choosing b v x (walk v covered own (l + 1) p) (walk v covered own (else + 1) q)) (walk v covered k (end + 1) r)
walk v covered k l (repeat x n p r) =
    let b = loop_covered covered k x in
    let own = level_in b k in
    in_turn (looping b v x l (walk v covered own (l + 1) p) n) (walk v covered k (l + 1 + size_of p + 1) r)

-- Under a guard that is no, inside a covered construct, a walk changes nothing.
abbrev Idle : Form → Type 0
Idle X = (w : Memory) (h : Option ℕ) → X false w h ≡ on w h

idle_turn : (X Y : Form) → Idle X → Idle Y → Idle (in_turn X Y)
unfolding in_turn
idle_turn X Y x y w h = rw (x w h) (y w h)

idle_rest : Idle resting
unfolding resting
idle_rest w h = refl

idle_doing : (f : Memory → Memory) → Idle (doing f)
unfolding doing
idle_doing f w h = refl

idle_choosing : (b : Bool) (v : Values) (x : ℕ) (X Y : Form) → Idle X → Idle Y → Idle (choosing b v x X Y)
unfolding choosing
idle_choosing true v x X Y i j w h = rw (i w h) (j w h)
idle_choosing false v x X Y i j w h = go (is_true v w.cells x)
  where
    go : (b : Bool) → cond b (X false w h) (Y false w h) ≡ on w h
    go true = i w h
    go false = j w h

module _ (v : Values) (x l : ℕ) (X : Form) (i : Idle X) where
  idle_narrowing : (n : ℕ) (q : Bool) → Idle (narrowing v x l X n q)
  unfolding narrowing
  idle_narrowing zero q w h = refl
  idle_narrowing (suc n) q w h = rw (i w h) (idle_narrowing n (q && is_true v w.cells x) w h)

  -- nor does a loop whose flag is no
  spent_narrowing : (n : ℕ) (w : Memory) (h : Option ℕ) → narrowing v x l X n false true w h ≡ on w h
  unfolding narrowing
  spent_narrowing zero w h = refl
  spent_narrowing (suc n) w h = rw (i w h) (spent_narrowing n w h)

loop_inside : (covered : ℕ → Bool) (k x : ℕ) → 1 ≤ k → loop_covered covered k x ≡ true
loop_inside covered zero x p = absurd (omega arith)
loop_inside covered (suc k) x p = refl

level_least : (b : Bool) (k : ℕ) → k ≤ level_in b k
level_least true k = omega arith
level_least false k = omega arith

module _ (v : Values) (covered : ℕ → Bool) where
  idle : (k l : ℕ) (c : Code) → 1 ≤ k → Idle (walk v covered k l c)
  unfolding walk
  idle k l stop p = idle_rest
  idle k l (work t o a b r) p = idle_turn _ _ (idle_doing _) (idle k (l + 1) r p)
  idle k l (literal t n r) p = idle_turn _ _ (idle_doing _) (idle k (l + 1) r p)
  idle k l (choose x y z r) p =
      let f : 1 ≤ level_in (covered x) k = omega (arith, level_least (covered x) k) in
      idle_turn _ _ (idle_choosing (covered x) v x _ _ (idle _ (l + 1) y f) (idle _ _ z f)) (idle k _ r p)
  idle k l (repeat x n y r) p =
      rw (loop_inside covered k x p) (idle_turn _ _ (idle_narrowing v x l _ (idle (k + 1) (l + 1) y (omega arith)) n true) (idle k _ r p))

-- the second list begins with the first
abbrev Extends : List Simple → List Simple → Type 0
Extends a b = (rest : List Simple) × (b ≡ a ++ rest)

extends_same : (a : List Simple) → Extends a a
extends_same a = ([], sym (append-nil a))

extends_both : (a b c : List Simple) → Extends a b → Extends b c → Extends a c
extends_both a b c p q = (p.0 ++ q.0, q.1 ∙ ap (λ (s : List Simple). s ++ q.0) p.1 ∙ append_assoc a p.0 q.0)

-- A latch stays, and what was gone over stays gone over.
record Latched (l : ℕ) (a : List Simple) (s : Walk) : Type 0 where
  latch : latch_of s ≡ Some l
  longer : Extends a (memory_of s).trail

abbrev Stays : Form → Type 0
Stays X = (g : Bool) (w : Memory) (l : ℕ) → Latched l w.trail (X g w (Some l))

latched_here : {l : ℕ} {w : Memory} {h : Option ℕ} → h ≡ Some l → Latched l w.trail (on w h)
latched_here {w = w} e = record { latch = e; longer = extends_same w.trail }

latched_longer : {l : ℕ} {a b : List Simple} {s : Walk} → Extends a b → Latched l b s → Latched l a s
latched_longer {a = a} {b} {s} x e = record { latch = e.latch; longer = extends_both a b (memory_of s).trail x e.longer }

latched_onward : {l : ℕ} {a : List Simple} (s : Walk) (f : Memory → Option ℕ → Walk) → Latched l a s → ((w : Memory) → Latched l w.trail (f w (Some l))) → Latched l a (onward s f)
latched_onward (on w h) f e k = rw e.latch (latched_longer e.longer (k w))
latched_onward (off m h w) f e k = record { latch = e.latch; longer = e.longer }

latched_cond : {l : ℕ} {a : List Simple} (b : Bool) (s t : Walk) → Latched l a s → Latched l a t → Latched l a (cond b s t)
latched_cond true s t x y = x
latched_cond false s t x y = y

closing_latched : (b : Bool) (m l : ℕ) → closing b m (Some l) ≡ Some l
closing_latched true m l = refl
closing_latched false m l = refl

stays_turn : (X Y : Form) → Stays X → Stays Y → Stays (in_turn X Y)
unfolding in_turn
stays_turn X Y x y g w l = latched_onward _ _ (x g w l) (λ w₁. y g w₁ l)

stays_rest : Stays resting
unfolding resting
stays_rest g w l = latched_here refl

stays_doing : (f : List ℕ → List ℕ) (a : Simple) → Stays (doing (does f a))
unfolding doing
stays_doing f a true w l = record { latch = refl; longer = (a ∷ [], refl) }
stays_doing f a false w l = latched_here refl

stays_choosing : (b : Bool) (v : Values) (x : ℕ) (X Y : Form) → Stays X → Stays Y → Stays (choosing b v x X Y)
unfolding choosing
stays_choosing true v x X Y p q g w l = latched_onward _ _ (p (g && is_true v w.cells x) w l) (λ w₁. q (g && not (is_true v w.cells x)) w₁ l)
stays_choosing false v x X Y p q g w l = latched_cond (is_true v w.cells x) _ _ (p g w l) (q g w l)

module _ (v : Values) (x m : ℕ) (X : Form) (s : Stays X) where
  stays_narrowing : (n : ℕ) (q : Bool) → Stays (narrowing v x m X n q)
  unfolding narrowing
  stays_narrowing zero q g w l = latched_here (closing_latched (g && (q && is_true v w.cells x)) m l)
  stays_narrowing (suc n) q g w l = latched_onward _ _ (s (g && (q && is_true v w.cells x)) w l) (λ w₁. stays_narrowing n (q && is_true v w.cells x) g w₁ l)

  stays_circling : (n : ℕ) → Stays (circling v x m X n)
  unfolding circling
  stays_circling zero g w l = latched_cond (is_true v w.cells x) _ _ (record { latch = refl; longer = extends_same w.trail }) (latched_here refl)
  stays_circling (suc n) g w l = latched_cond (is_true v w.cells x) _ _ (latched_onward _ _ (s g w l) (λ w₁. stays_circling n g w₁ l)) (latched_here refl)

  stays_looping : (b : Bool) (n : ℕ) → Stays (looping b v x m X n)
  stays_looping true n = stays_narrowing n true
  stays_looping false n = stays_circling n

module _ (v : Values) (covered : ℕ → Bool) where
  stays : (k l : ℕ) (c : Code) → Stays (walk v covered k l c)
  unfolding walk
  stays k l stop = stays_rest
  stays k l (work t o a b r) = stays_turn _ _ (stays_doing _ _) (stays k (l + 1) r)
  stays k l (literal t n r) = stays_turn _ _ (stays_doing _ _) (stays k (l + 1) r)
  stays k l (choose x y z r) = stays_turn _ _ (stays_choosing (covered x) v x _ _ (stays (level_in (covered x) k) (l + 1) y) (stays (level_in (covered x) k) _ z)) (stays k _ r)
  stays k l (repeat x n y r) = stays_turn _ _ (stays_looping v x l _ (stays (level_in (loop_covered covered k x) k) (l + 1) y) (loop_covered covered k x) n) (stays k _ r)

-- Under a guard that is yes, and with nothing latched, a walk comes to what the branching run comes to, and goes over
-- what that goes over: a latch, or without one a break, blames the line at which that breaks, and from then on the
-- walk may go over more.
abbrev Blames : ℕ → Walk → Type 0
Blames l (on w h) = h ≡ Some l
Blames l (off m h w) = (h ≡ Some l) ⊎ ((h ≡ None) × (m ≡ l))

abbrev pub Agree : Out → List Simple → Walk → Type 0
Agree (went w) a s = s ≡ on (record { cells = w; trail = a }) None
Agree (broke l w) a s = Blames l s × Extends a (memory_of s).trail

-- B is what the branching run comes to, and T what it goes over
abbrev Agrees : (List ℕ → Out) → (List ℕ → List Simple) → Form → Type 0
Agrees B T X = (w : Memory) → Agree (B w.cells) (w.trail ++ T w.cells) (X true w None)

blames : (l : ℕ) (s : Walk) → latch_of s ≡ Some l → Blames l s
blames l (on w h) e = e
blames l (off m h w) e = inl e

-- a was gone over before, and c by what comes to b
agree_onward : (b : Out) (a c : List Simple) (s : Walk) (C : List ℕ → Out) (T : List ℕ → List Simple) (f : Memory → Option ℕ → Walk) → Agree b (a ++ c) s →
    ((w : Memory) → Agree (C w.cells) (w.trail ++ T w.cells) (f w None)) → ((w : Memory) (l : ℕ) → Latched l w.trail (f w (Some l))) →
    Agree (after b C) (a ++ (c ++ beyond b T)) (onward s f)
agree_onward (went u) a c s C T f e k y = rw (e, sym (append_assoc a c (T u))) (k (record { cells = u; trail = a ++ c }))
agree_onward (broke l u) a c (on w h) C T f e k y =
    let n : Latched l (a ++ c) (f w (Some l)) = latched_longer e.1 (y w l) in
    rw (append-nil c, e.0) (blames l (f w (Some l)) n.latch, n.longer)
agree_onward (broke l u) a c (off m h w) C T f e k y = rw (append-nil c) e

agree_turn : (B C : List ℕ → Out) (T U : List ℕ → List Simple) (X Y : Form) → Agrees B T X → Agrees C U Y → Stays Y →
    Agrees (λ w. after (B w) C) (λ w. T w ++ beyond (B w) U) (in_turn X Y)
unfolding in_turn
agree_turn B C T U X Y x y s w = agree_onward (B w.cells) w.trail (T w.cells) (X true w None) C U (Y true) (x w) y (s true)

agree_rest : Agrees went (λ w. []) resting
unfolding resting
agree_rest w = rw (append-nil w.trail)

agree_doing : (f : List ℕ → List ℕ) (a : Simple) → Agrees (λ w. went (f w)) (λ w. a ∷ []) (doing (does f a))
unfolding doing
agree_doing f a w = refl

module _ (v : Values) (x : ℕ) (B C : List ℕ → Out) (T U : List ℕ → List Simple) (X Y : Form) (p : Agrees B T X) (q : Agrees C U Y) where
  agree_choosing : (b : Bool) → (b ≡ true → Idle X) → (b ≡ true → Idle Y) →
      Agrees (λ w. elim (is_true v w x) [ true ↦ B w | false ↦ C w ]) (λ w. elim (is_true v w x) [ true ↦ T w | false ↦ U w ]) (choosing b v x X Y)
  unfolding choosing
  agree_choosing true i j w = go (is_true v w.cells x)
    where
      idle-after : (a : List Simple) (s : Walk) → Agree (B w.cells) a s → Agree (B w.cells) a (onward s (Y false))
      idle-after a (on u h) e = rw (j refl u h) e
      idle-after a (off m h u) e = e

      go : (b : Bool) → Agree (elim b [ true ↦ B w.cells | false ↦ C w.cells ]) (w.trail ++ elim b [ true ↦ T w.cells | false ↦ U w.cells ]) (onward (X b w None) (Y (not b)))
      go true = idle-after _ (X true w None) (p w)
      go false = rw (i refl w None) (q w)
  agree_choosing false i j w = go (is_true v w.cells x)
    where
      go : (b : Bool) → Agree (elim b [ true ↦ B w.cells | false ↦ C w.cells ]) (w.trail ++ elim b [ true ↦ T w.cells | false ↦ U w.cells ]) (cond b (X true w None) (Y true w None))
      go true = p w
      go false = q w

module _ (v : Values) (x l : ℕ) (B : List ℕ → Out) (T : List ℕ → List Simple) (X : Form) (p : Agrees B T X) (s : Stays X) where
  agree_narrowing : Idle X → (n : ℕ) → Agrees (passes v x l B n) (passes_trail v x B T n) (narrowing v x l X n true)
  unfolding narrowing
  agree_narrowing i zero w = rw (append-nil w.trail) (go (is_true v w.cells x))
    where
      go : (b : Bool) → Agree (cond b (broke l w.cells) (went w.cells)) w.trail (on w (closing b l None))
      go true = (refl, extends_same w.trail)
      go false = refl
  agree_narrowing i (suc n) w = go (is_true v w.cells x) (agree_narrowing i n)
    where
      go : (b : Bool) → Agrees (passes v x l B n) (passes_trail v x B T n) (narrowing v x l X n true) →
          Agree (elim b [ true ↦ after (B w.cells) (passes v x l B n) | false ↦ went w.cells ])
          (w.trail ++ elim b [ true ↦ T w.cells ++ beyond (B w.cells) (passes_trail v x B T n) | false ↦ [] ]) (onward (X b w None) (narrowing v x l X n b true))
      go true a = agree_onward (B w.cells) w.trail (T w.cells) (X true w None) (passes v x l B n) (passes_trail v x B T n) (narrowing v x l X n true true) (p w) a (stays_narrowing v x l X s n true true)
      go false a = rw (append-nil w.trail, i w None) (spent_narrowing v x l X i n w None)

  agree_circling : (n : ℕ) → Agrees (passes v x l B n) (passes_trail v x B T n) (circling v x l X n)
  unfolding circling
  agree_circling zero w = rw (append-nil w.trail) (go (is_true v w.cells x))
    where
      go : (b : Bool) → Agree (cond b (broke l w.cells) (went w.cells)) w.trail (cond b (off l None w) (on w None))
      go true = (inr (refl, refl), extends_same w.trail)
      go false = refl
  agree_circling (suc n) w = go (is_true v w.cells x) (agree_circling n)
    where
      go : (b : Bool) → Agrees (passes v x l B n) (passes_trail v x B T n) (circling v x l X n) →
          Agree (elim b [ true ↦ after (B w.cells) (passes v x l B n) | false ↦ went w.cells ])
          (w.trail ++ elim b [ true ↦ T w.cells ++ beyond (B w.cells) (passes_trail v x B T n) | false ↦ [] ]) (cond b (onward (X true w None) (circling v x l X n true)) (on w None))
      go true a = agree_onward (B w.cells) w.trail (T w.cells) (X true w None) (passes v x l B n) (passes_trail v x B T n) (circling v x l X n true) (p w) a (stays_circling v x l X s n true)
      go false a = rw (append-nil w.trail)

  agree_looping : (b : Bool) → (b ≡ true → Idle X) → (n : ℕ) → Agrees (passes v x l B n) (passes_trail v x B T n) (looping b v x l X n)
  agree_looping true i n = agree_narrowing (i refl) n
  agree_looping false i n = agree_circling n

level_inside : (b : Bool) (k : ℕ) → b ≡ true → 1 ≤ level_in b k
level_inside b k e = rw e (omega arith)

module _ (v : Values) (covered : ℕ → Bool) where
  pub agrees : (k l : ℕ) (c : Code) → Agrees (branching v c l) (trail v c l) (walk v covered k l c)
  unfolding walk
  agrees k l stop = agree_rest
  agrees k l (work t o a b r) = agree_turn (λ w. went (worked v t o a b w)) (branching v r (l + 1)) (λ w. did_work t o a b ∷ []) (trail v r (l + 1)) _ (walk v covered k (l + 1) r) (agree_doing (worked v t o a b) (did_work t o a b)) (agrees k (l + 1) r) (stays v covered k (l + 1) r)
  agrees k l (literal t n r) = agree_turn (λ w. went (stated v t n w)) (branching v r (l + 1)) (λ w. did_literal t n ∷ []) (trail v r (l + 1)) _ (walk v covered k (l + 1) r) (agree_doing (stated v t n) (did_literal t n)) (agrees k (l + 1) r) (stays v covered k (l + 1) r)
  agrees k l (choose x p q r) =
      let f = level_inside (covered x) k in
      let own = level_in (covered x) k in
      let else = l + 1 + size_of p in
      let end = else + 1 + size_of q in
      agree_turn _ (branching v r (end + 1)) _ (trail v r (end + 1)) _ (walk v covered k (end + 1) r)
      (agree_choosing v x (branching v p (l + 1)) (branching v q (else + 1)) (trail v p (l + 1)) (trail v q (else + 1)) (walk v covered own (l + 1) p) (walk v covered own (else + 1) q)
      (agrees (level_in (covered x) k) (l + 1) p) (agrees (level_in (covered x) k) (else + 1) q) (covered x)
      (λ e. idle v covered own (l + 1) p (f e)) (λ e. idle v covered own (else + 1) q (f e)))
      (agrees k (end + 1) r) (stays v covered k (end + 1) r)
  agrees k l (repeat x n p r) =
      let b = loop_covered covered k x in
      let f = level_inside b k in
      let own = level_in b k in
      let end = l + 1 + size_of p in
      agree_turn _ (branching v r (end + 1)) _ (trail v r (end + 1)) _ (walk v covered k (end + 1) r)
      (agree_looping v x l (branching v p (l + 1)) (trail v p (l + 1)) (walk v covered own (l + 1) p)
      (agrees (level_in (loop_covered covered k x) k) (l + 1) p) (stays v covered own (l + 1) p) b (λ e. idle v covered own (l + 1) p (f e)) n)
      (agrees k (end + 1) r) (stays v covered k (end + 1) r)
