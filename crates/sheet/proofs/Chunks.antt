-- The lines of a sheet as pieces of its bytes.
use Rattle.std.proofs.Common.{◌≡◌, ℕ, zero, suc, ◌+◌, ◌*◌, ◌<◌, List, [], ◌∷◌, ◌++◌, length, get_or, drop, sym, refl, ap, ◌∙◌, arith}
use Rattle.std.proofs.lemmas.List.{get_or-take, get_or-drop, take_at, drop_at, length-append}
use Rattle.std.proofs.lemmas.List.Folds.{concat-append}
use Rattle.std.specs.List.{concat}
use Rattle.std.specs.Simd.{first_chunks}
use Rattle.sheet.specs.Code.{Code, stop, work, literal, choose, repeat, size_of}
use Rattle.sheet.specs.Layout.{code_bytes}
use Rattle.sheet.specs.Checks.{byte_at}
use Rattle.sheet.specs.Parts.{IsLineAt}
use Rattle.sheet.specs.Filling.{code_lines}

pub chunks_length : (k : ℕ) (xs : List ℕ) → length (first_chunks 8 k xs) ≡ k
chunks_length zero xs = refl
chunks_length (suc k) xs = ap suc (chunks_length k (drop 8 xs))

chunk_byte : (k : ℕ) (xs : List ℕ) (i j : ℕ) → i < k → j < 8 → byte_at (get_or (first_chunks 8 k xs) i []) j ≡ byte_at xs (8 * i + j)
chunk_byte zero xs i j l m = absurd (omega arith)
chunk_byte (suc k) xs zero j l m = get_or-take 8 xs j 0 m ∙ ap (byte_at xs) (let e : j ≡ 8 * 0 + j = omega arith in e)
chunk_byte (suc k) xs (suc i) j l m =
    chunk_byte k (drop 8 xs) i j (omega arith) m ∙ get_or-drop 8 xs (8 * i + j) 0
    ∙ ap (byte_at xs) (let e : 8 + (8 * i + j) ≡ 8 * suc i + j = omega arith in e)

-- each piece is a line of the bytes
pub chunk_stands : (bs : List ℕ) (first k : ℕ) (lines : List (List ℕ)) → lines ≡ first_chunks 8 k (drop first bs) → (i : ℕ) → i < k →
    IsLineAt bs (first + 8 * i) (get_or lines i [])
chunk_stands bs first k lines e i i_in j j_in =
    ap (λ (y : List (List ℕ)). byte_at (get_or y i []) j) e ∙ chunk_byte k (drop first bs) i j i_in j_in ∙ get_or-drop first bs (8 * i + j) 0
    ∙ ap (byte_at bs) (let g : first + (8 * i + j) ≡ first + 8 * i + j = omega arith in g)

-- lists of eight
abbrev Eights : List (List ℕ) → Type 0
Eights [] = Unit {0}
Eights (l ∷ ls) = (length l ≡ 8) × Eights ls

eights_append : (ks ls : List (List ℕ)) → Eights ks → Eights ls → Eights (ks ++ ls)
eights_append [] ls g h = h
eights_append (k ∷ ks) ls g h = (g.0, eights_append ks ls g.1 h)

chunks_concat : (ls : List (List ℕ)) → Eights ls → first_chunks 8 (length ls) (concat ls) ≡ ls
chunks_concat [] h = refl
chunks_concat (l ∷ ls) h =
    ap (λ y. y ∷ first_chunks 8 (length ls) (drop 8 (l ++ concat ls))) (take_at l (concat ls) 8 h.0)
    ∙ ap (λ y. l ∷ first_chunks 8 (length ls) y) (drop_at l (concat ls) 8 h.0) ∙ ap (λ y. l ∷ y) (chunks_concat ls h.1)

code_eights : (c : Code) → Eights (code_lines c)
code_eights stop = tt
code_eights (work t o a b r) = (refl, code_eights r)
code_eights (literal t n r) = (refl, code_eights r)
code_eights (choose x p q r) = (refl, eights_append (code_lines p) _ (code_eights p) (refl, eights_append (code_lines q) _ (code_eights q) (refl, code_eights r)))
code_eights (repeat x n p r) = (refl, eights_append (code_lines p) _ (code_eights p) (refl, code_eights r))

code_concat : (c : Code) → concat (code_lines c) ≡ code_bytes c
code_concat stop = refl
code_concat (work t o a b r) = let e = code_concat r in cc
code_concat (literal t n r) = let e = code_concat r in cc
code_concat (choose x p q r) = simp (concat-append, code_concat p, code_concat q, code_concat r)
code_concat (repeat x n p r) = simp (concat-append, code_concat p, code_concat r)

pub lines_length : (c : Code) → length (code_lines c) ≡ size_of c
lines_length stop = refl
lines_length (work t o a b r) = let l = lines_length r in omega arith
lines_length (literal t n r) = let l = lines_length r in omega arith
lines_length (choose x p q r) =
    let l₁ = lines_length p in
    let l₂ = lines_length q in
    let l₃ = lines_length r in
    simp length-append (omega arith)
lines_length (repeat x n p r) =
    let l₁ = lines_length p in
    let l₂ = lines_length r in
    simp length-append (omega arith)

-- the pieces of a code's bytes are its lines
pub code_chunks : (c : Code) (n : ℕ) → n ≡ size_of c → first_chunks 8 n (code_bytes c) ≡ code_lines c
code_chunks c n e =
    ap (λ y. first_chunks 8 y (code_bytes c)) (e ∙ sym (lines_length c)) ∙ ap (first_chunks 8 (length (code_lines c))) (sym (code_concat c))
    ∙ chunks_concat (code_lines c) (code_eights c)
