-- A list played on a new round keeps the promise.
use Rattle.std.proofs.Common.{◌≡◌, ℕ, Bool, true, false, ◌||◌, List, [], ◌∷◌, ◌++◌, map, length, get_or, take, drop, sym, refl, ap, ◌∙◌}
use mathlib.Core.Path.{fun_ext}
use lib.Seq.{take-append_seam}
use Rattle.std.proofs.lemmas.List.{length-map}
use Rattle.sheet.specs.Layout.{Program}
use Rattle.sheet.specs.Reading.{Laid}
use Rattle.marking.specs.Rules.{Least}
use Rattle.onepath.specs.Converting.{covers}
use Rattle.onepath.specs.Listed.{steps_of}
use Rattle.onepath.specs.declared.steps.Step.{Step}
use Rattle.value.specs.declared.kinds.Value.{Ghosts}
use Rattle.watch.specs.declared.watchers.Watcher.{Ghosts as WatcherGhosts}
use Rattle.laws.specs.Laws.{Alike}
use Rattle.run.specs.Values.{Values, kind_of}
use Rattle.protocol.specs.Calls.{after}
use Rattle.protocol.specs.Plain.{Told, opened, tells, ends, plain_round}
use Rattle.protocol.specs.Promise.{Card, answers_of, card_of}
use Rattle.protocol.specs.Stands.{Stand}
use Rattle.protocol.specs.Terms.{Terms, is_in, terms_for}
use Rattle.protocol.specs.Watching.{Watching, watch_of}
use Rattle.protocol.specs.declared.answers.Answer.{Answer}
use Rattle.protocol.specs.declared.calls.Call.{Call}
use Rattle.protocol.proofs.Promised.{promised}
use Rattle.session.specs.Lists.{Desk, desk_of, HearsAll}
use Rattle.session.specs.Opening.{Tables, Opened}
use Rattle.session.specs.Playing.{Side, side_of, last_of, Ready, Played, CardsAlike}
use Rattle.round.specs.Rounds.{terms_of, stand_of}
use Rattle.round.specs.declared.records.Record.{Record}

pub ready : {bs : List ℕ} {before after : Tables} {k n m : ℕ} {r : Record} (o : Opened bs before after k n m r) → Ready bs before after o.program
ready {r = r} o = record { laid = o.laid; filled = o.filled; covered = o.covered; number = r.steps; stepped = o.stepped }

-- what the watcher means after the calls is what was told last
last_told : {M : Type 0} (t : Terms) (w : Watching M) (s : Stand M) (cs : List Call) → (ends t w s cs).watcher ≡ last_of s.watcher (tells t w s cs)
last_told t w s [] = refl
last_told t w s (c ∷ cs) = last_told t w (after t w s c) cs

same_terms : (v : Values) (c d x y : ℕ) (m n a b : ℕ → Bool) (ss ts : List Step) → c ≡ d → m ≡ n → a ≡ b → x ≡ y → ss ≡ ts →
    ◌≡◌ {A = Terms} (record { values = v; cells = c; marked = m; covered = a; verdict = x; steps = ss }) (record { values = v; cells = d; marked = n; covered = b; verdict = y; steps = ts })
same_terms v c d x y m n a b ss ts e f g h i = rw (e, f, g, h, i) refl

module _ {V W : Type 0} (g : Ghosts V) (h : WatcherGhosts W) (bs : List ℕ) (before after' : Tables) (k n m : ℕ) (r : Record) (o : Opened bs before after' k n m r) where
  abbrev p : Program
  p = o.program

  abbrev covered : ℕ → Bool
  covered = covers p after'.marks

  -- the round stands on the program's terms
  program_terms : terms_of g r after'.steps ≡ terms_for (kind_of g) p covered
  program_terms =
      let new = o.new in
      let ts = steps_of covered 0 0 0 0 p.code in
      let own : take r.steps after'.steps ≡ ts = ap (λ z. take z after'.steps) o.stepped.number ∙ ap (take (length ts)) o.stepped.steps ∙ take-append_seam ts (drop r.steps before.steps) in
      same_terms (kind_of g) r.cells p.cells r.verdict p.verdict (λ x. get_or r.secrets.marked x false) (is_in p.marks) (λ x. get_or r.secrets.covered x false) covered (take r.steps after'.steps) ts new.cells (fun_ext new.marked) (fun_ext new.covered) new.verdict own

  -- and as it was opened
  as_opened : (setter working : List V) (watcher : W) → stand_of g h r setter working watcher ≡ opened k (map g.meaning setter) (map g.meaning working) (h.meaning watcher)
  as_opened setter working watcher = let new = o.new in rw (new.phase, new.tries, new.track) refl

  pub played : (d : Desk V W) (setter working : List V) (watcher : W) (cs : List Call) (xs ys : List Answer) → HearsAll g h after'.steps (desk_of r setter working watcher) d cs xs ys →
      Played g h bs p covered k (side_of setter working watcher xs) (side_of d.setter d.working d.watcher ys) cs
  played d setter working watcher cs xs ys e =
      let w = watch_of h in
      let t = terms_for (kind_of g) p covered in
      let s = opened k (map g.meaning setter) (map g.meaning working) (h.meaning watcher) in
      let real = stand_of g h r setter working watcher in
      let told = tells t w s cs in
      let same : tells (terms_of g r after'.steps) w real cs ≡ told = ap (λ z. tells z w real cs) program_terms ∙ ap (λ z. tells t w z cs) (as_opened setter working watcher) in
      let stands = e.stands ∙ ap (λ z. ends z w real cs) program_terms ∙ ap (λ z. ends t w z cs) (as_opened setter working watcher) in
      record {
        told = told;
        promise = promised bs (kind_of g) p covered o.laid o.covered.least w k (map g.meaning setter) (map g.meaning working) (h.meaning watcher) cs;
        answers = e.says ∙ ap (λ z. answers_of z ++ drop (length cs) xs) same;
        watcher = ap (λ z. z.watcher) stands ∙ last_told t w s cs;
        setter = ap (λ z. z.setter) stands;
        working = ap (λ z. z.run.cells) stands;
      }

-- the last card tells what the watcher means
abbrev last_card : {M : Type 0} → M → List (Card M) → M
last_card m [] = m
last_card m (c ∷ cs) = last_card c.watcher cs

last_card_lem : {M : Type 0} (m : M) (hs : List (Told M)) → last_of m hs ≡ last_card m (map card_of hs)
last_card_lem m [] = refl
last_card_lem m (h ∷ hs) = last_card_lem h.watcher hs

-- two rounds of one program
module _ {V W : Type 0} (g : Ghosts V) (h : WatcherGhosts W) (bs : List ℕ) (p : Program) (covered : ℕ → Bool) (laid : Laid bs p) (least : Least ◌||◌ (λ _. true) covered p.marks p.code) (k : ℕ) (cs : List Call) where
  pub cards_alike : (a a' b b' : Side V W) → Played g h bs p covered k a a' cs → Played g h bs p covered k b b' cs → length a.working ≡ length b.working → CardsAlike g h bs p covered k a a' b b' cs
  cards_alike a a' b b' x y long =
      let f = g.meaning in
      let t = terms_for (kind_of g) p covered in
      let m = h.meaning a.watcher in
      let n = h.meaning b.watcher in
      let longs : length (map f a.working) ≡ length (map f b.working) = length-map a.working f ∙ long ∙ sym (length-map b.working f) in
      let cards : Alike (is_in p.marks) (map f a.setter) (map f b.setter) → m ≡ n → map card_of x.told ≡ map card_of y.told = λ al e.
      x.promise.alike p covered laid least (map f b.setter) (map f b.working) al longs
      ∙ ap (λ z. map card_of (plain_round t p.code (watch_of h) k (map f b.setter) (map f b.working) z cs)) e
      ∙ ap (map card_of) (sym y.promise.plain)
      in
      record {
        first = x;
        second = y;
        alike = λ al e. (
          cards al e,
          x.watcher ∙ last_card_lem m x.told ∙ ap (last_card m) (cards al e) ∙ ap (λ z. last_card z (map card_of y.told)) e ∙ sym (last_card_lem n y.told) ∙ sym y.watcher,
        );
      }
