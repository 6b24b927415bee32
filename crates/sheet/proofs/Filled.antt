-- What filling a line, an if or a loop in, and then the rest of the block, leaves of the table.
use Rattle.std.proofs.Common.{◌≡◌, ℕ, ◌+◌, ◌*◌, ◌<◌, ◌≤◌, ◌≢◌, List, length, set, sym, refl, ap, ◌∙◌, subst, inl, inr, ⊎_elim, arith}
use Rattle.std.proofs.lemmas.List.{get_or-set_same, get_or-set_other, length-set}
use Rattle.sheet.specs.Code.{Code, stop, work, literal, choose, repeat, size_of}
use Rattle.sheet.specs.Spans.{line_at, Spans}
use Rattle.sheet.specs.Filling.{Begins, FilledFrom, Stepped, line_byte}
use Rattle.sheet.specs.declared.lines.Line.{Line}
use Rattle.sheet.specs.declared.lines.Line.TheVariants.{Work, Literal, If, Else, End, Loop}
use Rattle.sheet.proofs.Heads.{spans_le}
use Rattle.sheet.proofs.Blocks.{has_work, has_literal, has_if, has_loop}

-- a write, read there and elsewhere
pub wrote : (ts : List Line) (i : ℕ) (l : Line) → i < length ts → line_at (set ts i l) i ≡ l
wrote ts i l h = get_or-set_same ts i l _ h

pub other : (ts : List Line) (i : ℕ) (l : Line) (k : ℕ) → k ≢ i → line_at (set ts i l) k ≡ line_at ts k
other ts i l k n = get_or-set_other ts i k l _ n

-- the places from i up to j are alike
abbrev pub Same : List Line → List Line → ℕ → ℕ → Type 0
Same xs ys i j = (k : ℕ) → i ≤ k → k < j → line_at ys k ≡ line_at xs k

pub spans_same : (xs ys : List Line) (i j : ℕ) (c : Code) → Same xs ys i j → Spans xs i j c → Spans ys i j c
spans_same xs ys i j stop s h = h
spans_same xs ys i j (work t o a b r) s h =
    let l = spans_le xs (i + 1) j r h.1 in
    (s i (omega arith) (omega arith) ∙ h.0, spans_same xs ys (i + 1) j r (λ k f g. s k (omega arith) g) h.1)
spans_same xs ys i j (literal t n r) s h =
    let l = spans_le xs (i + 1) j r h.1 in
    (s i (omega arith) (omega arith) ∙ h.0, spans_same xs ys (i + 1) j r (λ k f g. s k (omega arith) g) h.1)
spans_same xs ys i j (choose x p q r) s h =
    let e = h.0 in
    let z = h.1 in
    let l₁ = spans_le xs (i + 1) e p h.3 in
    let l₂ = spans_le xs (e + 1) z q h.5 in
    let l₃ = spans_le xs (z + 1) j r h.7 in (
      e,
      z,
      s i (omega arith) (omega arith) ∙ h.2,
      spans_same xs ys (i + 1) e p (λ k f g. s k (omega arith) (omega arith)) h.3,
      s e (omega arith) (omega arith) ∙ h.4,
      spans_same xs ys (e + 1) z q (λ k f g. s k (omega arith) (omega arith)) h.5,
      s z (omega arith) (omega arith) ∙ h.6,
      spans_same xs ys (z + 1) j r (λ k f g. s k (omega arith) (omega arith)) h.7,
    )
spans_same xs ys i j (repeat x n p r) s h =
    let z = h.0 in
    let l₁ = spans_le xs (i + 1) z p h.2 in
    let l₂ = spans_le xs (z + 1) j r h.4 in (
      z,
      s i (omega arith) (omega arith) ∙ h.1,
      spans_same xs ys (i + 1) z p (λ k f g. s k (omega arith) (omega arith)) h.2,
      s z (omega arith) (omega arith) ∙ h.3,
      spans_same xs ys (z + 1) j r (λ k f g. s k (omega arith) (omega arith)) h.4,
    )

module _ (ls : List (List ℕ)) where
  abbrev Filled : ℕ → List Line → List Line → ℕ → Type 0
  Filled i before after r = FilledFrom ls i before after r

  -- nothing is left of the block
  pub filled_none : (i : ℕ) (ts : List Line) → ((c : Code) → Begins ls i c → c ≡ stop) → Filled i ts ts i
  filled_none i ts f =
      record {
        long = refl;
        outside = λ k h. refl;
        spans = λ c b. let e = f c b in (let e₀ : i ≡ i + 0 = omega arith in e₀ ∙ ap (λ y. i + size_of y) (sym e), subst (λ y. Spans ts i i y) (sym e) refl);
      }

  -- a line or construct, and then the rest
  pub filled_then : (i n r : ℕ) (ts us vs : List Line) → ((c : Code) × Begins ls i c) → Stepped ls i ts us n → Filled n us vs r → Filled i ts vs r
  filled_then i n r ts us vs b₀ s d =
      let w₀ = s.onward b₀.0 b₀.1 in
      let e₀ = (d.spans w₀.rest w₀.begins).0 in
      let l₀ = s.further in
      record {
        long = d.long ∙ s.long;
        outside = λ k o. d.outside k (⊎_elim (λ g. inl (omega arith)) (λ g. inr g) o) ∙ s.outside k (⊎_elim (λ g. inl g) (λ g. inr (omega arith)) o);
        spans = λ c b.
            let w = s.onward c b in
            let g = d.spans w.rest w.begins in
            (let e = g.0 in let z = w.size in omega arith, w.spans vs r (λ k f h. d.outside k (inl h)) g.1);
      }

  module _ (i : ℕ) (more : i < length ls) (ts : List Line) (room : i < length ts) where
    -- a line in its place
    stepped_line : (l : Line) → ((c : Code) → Begins ls i c → (rest : Code) × Begins ls (i + 1) rest × (size_of c ≡ 1 + size_of rest) ×
        ((xs : List Line) (j : ℕ) → line_at xs i ≡ l → Spans xs (i + 1) j rest → Spans xs i j c)) → Stepped ls i ts (set ts i l) (i + 1)
    stepped_line l f =
        record {
          long = length-set ts i l;
          further = omega arith;
          outside = λ k o. other ts i l k (⊎_elim (λ g. omega arith) (λ g. omega arith) o);
          onward = λ c b.
              let w = f c b in
              record {
                rest = w.0;
                begins = w.1;
                size = let e = w.2 in omega arith;
                spans = λ xs j s h. w.3 xs j (s i (omega arith) (omega arith) ∙ wrote ts i l room) h;
              };
        }

    pub stepped_work : line_byte ls i 0 ≡ 1 →
        Stepped ls i ts (set ts i (Work (line_byte ls i 1) (line_byte ls i 2) (line_byte ls i 3) (line_byte ls i 4))) (i + 1)
    stepped_work k = stepped_line _ (λ c b.
        let v = has_work ls i more c b k in
        (v.rest, v.begins, ap size_of v.is, λ xs j e h. subst (λ y. Spans xs i j y) (sym v.is) (e, h)))

    pub stepped_literal : (n : ℕ) → n ≡ line_byte ls i 4 + 256 * line_byte ls i 5 + 65536 * line_byte ls i 6 + 16777216 * line_byte ls i 7 →
        line_byte ls i 0 ≡ 2 → Stepped ls i ts (set ts i (Literal (line_byte ls i 1) n)) (i + 1)
    stepped_literal n w k = stepped_line _ (λ c b.
        let v = has_literal ls i more n w c b k in
        (v.rest, v.begins, ap size_of v.is, λ xs j e h. subst (λ y. Spans xs i j y) (sym v.is) (e, h)))

  module _ (i : ℕ) (more : i < length ls) (ts us : List Line) (m : ℕ) (le : i < m) (d₁ : Filled (i + 1) ts us m) where
    -- an if: its two blocks, and then its three lines
    pub stepped_if : (vs : List Line) (z : ℕ) → m < z → z < length ts → Filled (m + 1) us vs z → line_byte ls i 0 ≡ 3 →
        Stepped ls i ts (set (set (set vs i (If (line_byte ls i 1) m)) m (Else z)) z (End i)) (z + 1)
    stepped_if vs z lz room d₂ k =
        let x = line_byte ls i 1 in
        let v₁ = set vs i (If x m) in
        let v₂ = set v₁ m (Else z) in
        let v₃ = set v₂ z (End i) in
        let n₀ : length vs ≡ length ts = d₂.long ∙ d₁.long in
        let n₁ : length v₁ ≡ length ts = length-set vs i (If x m) ∙ n₀ in
        let n₂ : length v₂ ≡ length ts = length-set v₁ m (Else z) ∙ n₁ in
        let keep : (y : ℕ) → y ≢ i → y ≢ m → y ≢ z → line_at v₃ y ≡ line_at vs y = λ y p q r. other v₂ z (End i) y r ∙ other v₁ m (Else z) y q ∙ other vs i (If x m) y p in
        record {
          long = length-set v₂ z (End i) ∙ n₂;
          further = omega arith;
          outside = λ y o. keep y (⊎_elim (λ g. omega arith) (λ g. omega arith) o) (⊎_elim (λ g. omega arith) (λ g. omega arith) o) (⊎_elim (λ g. omega arith) (λ g. omega arith) o)
              ∙ d₂.outside y (⊎_elim (λ g. inl (omega arith)) (λ g. inr (omega arith)) o) ∙ d₁.outside y (⊎_elim (λ g. inl (omega arith)) (λ g. inr (omega arith)) o);
          onward = λ c b.
              let v = has_if ls i more c b k in
              let g₁ = d₁.spans v.first v.begins_first in
              let em = g₁.0 in
              let g₂ = d₂.spans v.second (subst (λ y. Begins ls (y + 1) v.second) (sym em) v.begins_second) in
              let ez = g₂.0 in
              let er : i + 1 + size_of v.first + 1 + size_of v.second + 1 ≡ z + 1 = omega arith in
              let ec : i + (3 + size_of v.first + size_of v.second + size_of v.rest) ≡ z + 1 + size_of v.rest = omega arith in
              record {
                rest = v.rest;
                begins = subst (λ y. Begins ls y v.rest) er v.begins_rest;
                size = ap (λ y. i + size_of y) v.is ∙ ec;
                spans = λ xs j s h. subst (λ y. Spans xs i j y) (sym v.is) (
                  m,
                  z,
                  s i (omega arith) (omega arith) ∙ other v₂ z (End i) i (omega arith) ∙ other v₁ m (Else z) i (omega arith) ∙ wrote vs i (If x m) (omega arith),
                  spans_same us xs (i + 1) m v.first (λ y f g. s y (omega arith) (omega arith) ∙ keep y (omega arith) (omega arith) (omega arith) ∙ d₂.outside y (inl (omega arith))) g₁.1,
                  s m (omega arith) (omega arith) ∙ other v₂ z (End i) m (omega arith) ∙ wrote v₁ m (Else z) (omega arith),
                  spans_same vs xs (m + 1) z v.second (λ y f g. s y (omega arith) (omega arith) ∙ keep y (omega arith) (omega arith) (omega arith)) g₂.1,
                  s z (omega arith) (omega arith) ∙ wrote v₂ z (End i) (omega arith),
                  h,
                );
              };
        }

    -- a loop: its block, and then its two lines
    pub stepped_loop : m < length ts → line_byte ls i 0 ≡ 6 →
        Stepped ls i ts (set (set us i (Loop (line_byte ls i 1) (line_byte ls i 2) m)) m (End i)) (m + 1)
    stepped_loop room k =
        let l = Loop (line_byte ls i 1) (line_byte ls i 2) m in
        let v₁ = set us i l in
        let v₂ = set v₁ m (End i) in
        let n₁ : length v₁ ≡ length ts = length-set us i l ∙ d₁.long in
        let n₀ = d₁.long in
        let keep : (y : ℕ) → y ≢ i → y ≢ m → line_at v₂ y ≡ line_at us y = λ y p q. other v₁ m (End i) y q ∙ other us i l y p in
        record {
          long = length-set v₁ m (End i) ∙ n₁;
          further = omega arith;
          outside = λ y o. keep y (⊎_elim (λ g. omega arith) (λ g. omega arith) o) (⊎_elim (λ g. omega arith) (λ g. omega arith) o)
              ∙ d₁.outside y (⊎_elim (λ g. inl (omega arith)) (λ g. inr (omega arith)) o);
          onward = λ c b.
              let v = has_loop ls i more c b k in
              let g₁ = d₁.spans v.first v.begins_first in
              let em = g₁.0 in
              let er : i + 1 + size_of v.first + 1 ≡ m + 1 = omega arith in
              let ec : i + (2 + size_of v.first + size_of v.rest) ≡ m + 1 + size_of v.rest = omega arith in
              record {
                rest = v.rest;
                begins = subst (λ y. Begins ls y v.rest) er v.begins_rest;
                size = ap (λ y. i + size_of y) v.is ∙ ec;
                spans = λ xs j s h. subst (λ y. Spans xs i j y) (sym v.is) (
                  m,
                  s i (omega arith) (omega arith) ∙ other v₁ m (End i) i (omega arith) ∙ wrote us i l (omega arith),
                  spans_same us xs (i + 1) m v.first (λ y f g. s y (omega arith) (omega arith) ∙ keep y (omega arith) (omega arith)) g₁.1,
                  s m (omega arith) (omega arith) ∙ wrote v₁ m (End i) (omega arith),
                  h,
                );
              };
        }

  -- where the lines of an if and of a loop lie
  module _ (i : ℕ) (more : i < length ls) (c : Code) (b : Begins ls i c) (ts us : List Line) (m : ℕ) (d₁ : Filled (i + 1) ts us m) where
    pub record Midway : Type 0 where
      pub after : i < m
      pub within : m < length ls
      pub code : (q : Code) × Begins ls (m + 1) q

    pub if_middle_lem : line_byte ls i 0 ≡ 3 → Midway
    if_middle_lem k =
        let v = has_if ls i more c b k in
        let e = (d₁.spans v.first v.begins_first).0 in
        let w = v.begins_second.within in
        record { after = omega arith; within = omega arith; code = (v.second, subst (λ y. Begins ls (y + 1) v.second) (sym e) v.begins_second) }

    pub loop_end_lem : line_byte ls i 0 ≡ 6 → Midway
    loop_end_lem k =
        let v = has_loop ls i more c b k in
        let e = (d₁.spans v.first v.begins_first).0 in
        let w = v.begins_rest.within in
        record { after = omega arith; within = omega arith; code = (v.rest, subst (λ y. Begins ls (y + 1) v.rest) (sym e) v.begins_rest) }

    pub if_end : (vs : List Line) (z : ℕ) → Filled (m + 1) us vs z → line_byte ls i 0 ≡ 3 → (m < z) × (z < length ls)
    if_end vs z d₂ k =
        let v = has_if ls i more c b k in
        let e = (d₁.spans v.first v.begins_first).0 in
        let e₂ = (d₂.spans v.second (subst (λ y. Begins ls (y + 1) v.second) (sym e) v.begins_second)).0 in
        let w = v.begins_rest.within in
        (omega arith, omega arith)
