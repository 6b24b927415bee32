-- The line table by places, `Spans`, and as a list, `lines_of`, are the same table.
use Rattle.std.proofs.Common.{◌≡◌, ℕ, ◌+◌, List, [], ◌∷◌, ◌++◌, length, sym, refl, ap, ◌∙◌, subst, arith}
use Rattle.std.proofs.lemmas.List.{length-append}
use Rattle.sheet.specs.Code.{Code, stop, work, literal, choose, repeat, size_of}
use Rattle.sheet.specs.Table.{lines_of}
use Rattle.sheet.specs.Spans.{line_at, Spans}
use Rattle.sheet.specs.declared.lines.Line.{Line}
use Rattle.sheet.specs.declared.lines.Line.TheVariants.{Work, If, Else, End, Loop}
use Rattle.sheet.proofs.Stands.{Stands, stands_split, stands_append, stands_in, stands_moved}
use Rattle.sheet.proofs.Heads.{spans_size}

pub lines_size : (i : ℕ) (c : Code) → length (lines_of i c) ≡ size_of c
lines_size i stop = refl
lines_size i (work t o a b r) = let l = lines_size (i + 1) r in omega arith
lines_size i (literal t n r) = let l = lines_size (i + 1) r in omega arith
lines_size i (choose x p q r) =
    let e = i + 1 + size_of p in
    let z = e + 1 + size_of q in
    let l₁ = lines_size (i + 1) p in
    let l₂ = lines_size (e + 1) q in
    let l₃ = lines_size (z + 1) r in
    simp length-append (omega arith)
lines_size i (repeat x n p r) =
    let z = i + 1 + size_of p in
    let l₁ = lines_size (i + 1) p in
    let l₂ = lines_size (z + 1) r in
    simp length-append (omega arith)

abbrev Here : List Line → ℕ → List Line → Type 0
Here = Stands (Work 0 0 0 0)

pub spans_from_list : (xs : List Line) (i j : ℕ) (c : Code) → j ≡ i + size_of c → Here xs i (lines_of i c) → Spans xs i j c
spans_from_list xs i j stop e h = omega arith
spans_from_list xs i j (work t o a b r) e h = (h.0, spans_from_list xs (i + 1) j r (omega arith) h.1)
spans_from_list xs i j (literal t n r) e h = (h.0, spans_from_list xs (i + 1) j r (omega arith) h.1)
spans_from_list xs i j (choose x p q r) g h =
    let e = i + 1 + size_of p in
    let z = e + 1 + size_of q in
    let ps = lines_of (i + 1) p in
    let qs = lines_of (e + 1) q in
    let rs = lines_of (z + 1) r in
    let l₁ = lines_size (i + 1) p in
    let l₂ = lines_size (e + 1) q in
    let s = stands_split (Work 0 0 0 0) xs (i + 1) ps (Else z ∷ (qs ++ (End i ∷ rs))) h.1 in
    let s₁ = stands_moved (Work 0 0 0 0) xs (i + 1 + length ps) e (Else z ∷ (qs ++ (End i ∷ rs))) (omega arith) s.1 in
    let s₂ = stands_split (Work 0 0 0 0) xs (e + 1) qs (End i ∷ rs) s₁.1 in
    let s₃ = stands_moved (Work 0 0 0 0) xs (e + 1 + length qs) z (End i ∷ rs) (omega arith) s₂.1 in (
      e,
      z,
      h.0,
      spans_from_list xs (i + 1) e p refl s.0,
      s₁.0,
      spans_from_list xs (e + 1) z q refl s₂.0,
      s₃.0,
      spans_from_list xs (z + 1) j r (omega arith) s₃.1,
    )
spans_from_list xs i j (repeat x n p r) g h =
    let z = i + 1 + size_of p in
    let ps = lines_of (i + 1) p in
    let rs = lines_of (z + 1) r in
    let l₁ = lines_size (i + 1) p in
    let s = stands_split (Work 0 0 0 0) xs (i + 1) ps (End i ∷ rs) h.1 in
    let s₁ = stands_moved (Work 0 0 0 0) xs (i + 1 + length ps) z (End i ∷ rs) (omega arith) s.1 in
    (z, h.0, spans_from_list xs (i + 1) z p refl s.0, s₁.0, spans_from_list xs (z + 1) j r (omega arith) s₁.1)

pub spans_to_list : (xs : List Line) (i j : ℕ) (c : Code) → Spans xs i j c → Here xs i (lines_of i c)
spans_to_list xs i j stop h = tt
spans_to_list xs i j (work t o a b r) h = (h.0, spans_to_list xs (i + 1) j r h.1)
spans_to_list xs i j (literal t n r) h = (h.0, spans_to_list xs (i + 1) j r h.1)
spans_to_list xs i j (choose x p q r) h =
    let e = i + 1 + size_of p in
    let z = e + 1 + size_of q in
    let ps = lines_of (i + 1) p in
    let qs = lines_of (e + 1) q in
    let rs = lines_of (z + 1) r in
    let ee : h.0 ≡ e = spans_size xs (i + 1) h.0 p h.3 in
    let l₁ = lines_size (i + 1) p in
    let l₂ = lines_size (e + 1) q in
    let zz : h.1 ≡ z = spans_size xs (h.0 + 1) h.1 q h.5 ∙ ap (λ y. y + 1 + size_of q) ee in
    let sq = subst (λ y. Spans xs (y + 1) h.1 q) ee h.5 in
    let sr = subst (λ y. Spans xs (y + 1) j r) zz h.7 in
    let mid : line_at xs e ≡ Else z = subst (λ y. line_at xs y ≡ Else h.1) ee h.4 ∙ ap Else zz in
    let end : line_at xs z ≡ End i = subst (λ y. line_at xs y ≡ End i) zz h.6 in
    let last = stands_moved (Work 0 0 0 0) xs z (e + 1 + length qs) (End i ∷ rs) (omega arith) (end, spans_to_list xs (z + 1) j r sr) in
    let half = stands_moved (Work 0 0 0 0) xs e (i + 1 + length ps) (Else z ∷ (qs ++ (End i ∷ rs))) (omega arith)
    (mid, stands_append (Work 0 0 0 0) xs (e + 1) qs (End i ∷ rs) (spans_to_list xs (e + 1) h.1 q sq) last) in
    (h.2 ∙ ap (If x) ee, stands_append (Work 0 0 0 0) xs (i + 1) ps (Else z ∷ (qs ++ (End i ∷ rs))) (spans_to_list xs (i + 1) h.0 p h.3) half)
spans_to_list xs i j (repeat x n p r) h =
    let z = i + 1 + size_of p in
    let ps = lines_of (i + 1) p in
    let rs = lines_of (z + 1) r in
    let zz : h.0 ≡ z = spans_size xs (i + 1) h.0 p h.2 in
    let l₁ = lines_size (i + 1) p in
    let sr = subst (λ y. Spans xs (y + 1) j r) zz h.4 in
    let end : line_at xs z ≡ End i = subst (λ y. line_at xs y ≡ End i) zz h.3 in
    let last = stands_moved (Work 0 0 0 0) xs z (i + 1 + length ps) (End i ∷ rs) (omega arith) (end, spans_to_list xs (z + 1) j r sr) in
    (h.1 ∙ ap (Loop x n) zz, stands_append (Work 0 0 0 0) xs (i + 1) ps (End i ∷ rs) (spans_to_list xs (i + 1) h.0 p h.2) last)

-- a table that begins with the code's lines spans the code
pub front_spans : (xs ys : List Line) (c : Code) → xs ≡ lines_of 0 c ++ ys → Spans xs 0 (size_of c) c
front_spans xs ys c e =
    spans_from_list xs 0 (size_of c) c (omega arith)
    (subst (λ y. Here y 0 (lines_of 0 c)) (sym e) (stands_split (Work 0 0 0 0) (lines_of 0 c ++ ys) 0 (lines_of 0 c) ys (stands_in (Work 0 0 0 0) [] (lines_of 0 c ++ ys))).0)
