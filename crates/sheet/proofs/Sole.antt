-- Bytes are the layout of one program only.
use Rattle.std.proofs.Common.{◌≡◌, ℕ, ◌/◌, ◌%◌, ◌≤◌, ◌⊎◌, List, [], ◌∷◌, ◌++◌, length, get_or, drop, sym, refl, ap, ◌∙◌, inl, inr, append_assoc, arith}
use Rattle.std.proofs.lemmas.List.{append-nil}
use Rattle.sheet.specs.Code.{Code, stop, work, literal, choose, repeat}
use Rattle.sheet.specs.Layout.{Program, other_bytes, code_bytes, sheet_bytes}
use Rattle.sheet.specs.Reading.{OneProgram}

-- after a block come an else, an end, or no more bytes
abbrev Ends : List ℕ → Type 0
Ends u = (get_or u 0 0 ≡ 0) ⊎ ((get_or u 0 0 ≡ 4) ⊎ (get_or u 0 0 ≡ 5))

no_end : {A : Type 0} (u : List ℕ) (k : ℕ) → Ends u → get_or u 0 0 ≡ k → 1 ≤ k → (k ≡ 4 → ⊥) → (k ≡ 5 → ⊥) → A
no_end u k (inl e) h some f g = absurd (omega arith)
no_end u k (inr (inl e)) h some f g = absurd (f (sym h ∙ e))
no_end u k (inr (inr e)) h some f g = absurd (g (sym h ∙ e))

-- a number by its bytes
same_number : (n m : ℕ) → n % 256 ≡ m % 256 → n / 256 % 256 ≡ m / 256 % 256 → n / 65536 % 256 ≡ m / 65536 % 256 → n / 16777216 ≡ m / 16777216 → n ≡ m
same_number n m a b c d = omega arith

module _ {A : Type 0} where
  differ : (x y : List ℕ) → x ≡ y → (get_or x 0 0 ≡ get_or y 0 0 → ⊥) → A
  differ x y e f = absurd (f (ap (λ l. get_or l 0 0) e))

-- the bytes of two blocks, each before what ends it
pub same_code : (c d : Code) (u v : List ℕ) → Ends u → Ends v → code_bytes c ++ u ≡ code_bytes d ++ v → (c ≡ d) × (u ≡ v)
same_code stop stop u v x y e = (refl, e)
same_code stop (work t o a b r) u v x y e = no_end u 1 x (ap (λ l. get_or l 0 0) e) (omega arith) (λ z. omega arith) (λ z. omega arith)
same_code stop (literal t n r) u v x y e = no_end u 2 x (ap (λ l. get_or l 0 0) e) (omega arith) (λ z. omega arith) (λ z. omega arith)
same_code stop (choose c p q r) u v x y e = no_end u 3 x (ap (λ l. get_or l 0 0) e) (omega arith) (λ z. omega arith) (λ z. omega arith)
same_code stop (repeat c n p r) u v x y e = no_end u 6 x (ap (λ l. get_or l 0 0) e) (omega arith) (λ z. omega arith) (λ z. omega arith)
same_code (work t o a b r) stop u v x y e = no_end v 1 y (ap (λ l. get_or l 0 0) (sym e)) (omega arith) (λ z. omega arith) (λ z. omega arith)
same_code (literal t n r) stop u v x y e = no_end v 2 y (ap (λ l. get_or l 0 0) (sym e)) (omega arith) (λ z. omega arith) (λ z. omega arith)
same_code (choose c p q r) stop u v x y e = no_end v 3 y (ap (λ l. get_or l 0 0) (sym e)) (omega arith) (λ z. omega arith) (λ z. omega arith)
same_code (repeat c n p r) stop u v x y e = no_end v 6 y (ap (λ l. get_or l 0 0) (sym e)) (omega arith) (λ z. omega arith) (λ z. omega arith)
same_code (work t o a b r) (work t' o' a' b' r') u v x y e =
    let (rest, ends) = same_code r r' u v x y (ap (drop 8) e) in
    let et = ap (λ l. get_or l 1 0) e in
    let eo = ap (λ l. get_or l 2 0) e in
    let ea = ap (λ l. get_or l 3 0) e in
    let eb = ap (λ l. get_or l 4 0) e in
    (cc, ends)
same_code (literal t n r) (literal t' n' r') u v x y e =
    let (rest, ends) = same_code r r' u v x y (ap (drop 8) e) in
    let et = ap (λ l. get_or l 1 0) e in
    let en = same_number n n' (ap (λ l. get_or l 4 0) e) (ap (λ l. get_or l 5 0) e) (ap (λ l. get_or l 6 0) e) (ap (λ l. get_or l 7 0) e) in
    (cc, ends)
same_code (choose c p q r) (choose c' p' q' r') u v x y e =
    let ec = ap (λ l. get_or l 1 0) e in
    let after = other_bytes 5 0 0 ++ code_bytes r in
    let after' = other_bytes 5 0 0 ++ code_bytes r' in
    let mid = other_bytes 4 0 0 ++ (code_bytes q ++ after) in
    let mid' = other_bytes 4 0 0 ++ (code_bytes q' ++ after') in
    let (ep, e1) = same_code p p' (mid ++ u) (mid' ++ v) (inr (inl refl)) (inr (inl refl)) (sym (append_assoc (code_bytes p) mid u) ∙ ap (drop 8) e ∙ append_assoc (code_bytes p') mid' v) in
    let (eq, e2) = same_code q q' (after ++ u) (after' ++ v) (inr (inr refl)) (inr (inr refl)) (sym (append_assoc (code_bytes q) after u) ∙ ap (drop 8) e1 ∙ append_assoc (code_bytes q') after' v) in
    let (er, ends) = same_code r r' u v x y (ap (drop 8) e2) in
    (cc, ends)
same_code (repeat c n p r) (repeat c' n' p' r') u v x y e =
    let ec = ap (λ l. get_or l 1 0) e in
    let en = ap (λ l. get_or l 2 0) e in
    let after = other_bytes 5 0 0 ++ code_bytes r in
    let after' = other_bytes 5 0 0 ++ code_bytes r' in
    let (ep, e1) = same_code p p' (after ++ u) (after' ++ v) (inr (inr refl)) (inr (inr refl)) (sym (append_assoc (code_bytes p) after u) ∙ ap (drop 8) e ∙ append_assoc (code_bytes p') after' v) in
    let (er, ends) = same_code r r' u v x y (ap (drop 8) e1) in
    (cc, ends)
same_code (work t o a b r) (literal t' n' r') u v x y e = differ _ _ e (λ z. omega arith)
same_code (work t o a b r) (choose c' p' q' r') u v x y e = differ _ _ e (λ z. omega arith)
same_code (work t o a b r) (repeat c' n' p' r') u v x y e = differ _ _ e (λ z. omega arith)
same_code (literal t n r) (work t' o' a' b' r') u v x y e = differ _ _ e (λ z. omega arith)
same_code (literal t n r) (choose c' p' q' r') u v x y e = differ _ _ e (λ z. omega arith)
same_code (literal t n r) (repeat c' n' p' r') u v x y e = differ _ _ e (λ z. omega arith)
same_code (choose c p q r) (work t' o' a' b' r') u v x y e = differ _ _ e (λ z. omega arith)
same_code (choose c p q r) (literal t' n' r') u v x y e = differ _ _ e (λ z. omega arith)
same_code (choose c p q r) (repeat c' n' p' r') u v x y e = differ _ _ e (λ z. omega arith)
same_code (repeat c n p r) (work t' o' a' b' r') u v x y e = differ _ _ e (λ z. omega arith)
same_code (repeat c n p r) (literal t' n' r') u v x y e = differ _ _ e (λ z. omega arith)
same_code (repeat c n p r) (choose c' p' q' r') u v x y e = differ _ _ e (λ z. omega arith)

same_front : (xs ys a b : List ℕ) → length xs ≡ length ys → xs ++ a ≡ ys ++ b → (xs ≡ ys) × (a ≡ b)
same_front [] [] a b l e = (refl, e)
same_front [] (y ∷ ys) a b l e = absurd (omega arith)
same_front (x ∷ xs) [] a b l e = absurd (omega arith)
same_front (x ∷ xs) (y ∷ ys) a b l e =
    let head = ap (λ z. get_or z 0 0) e in
    let (front, back) = same_front xs ys a b (omega arith) (ap (drop 1) e) in
    (cc, back)

same_two : (n m : ℕ) → n % 256 ≡ m % 256 → n / 256 ≡ m / 256 → n ≡ m
same_two n m a b = omega arith

same_program : (c d x y : ℕ) (ms ns : List ℕ) (k l : Code) → c ≡ d → x ≡ y → ms ≡ ns → k ≡ l →
    ◌≡◌ {A = Program} (record { cells = c; marks = ms; verdict = x; code = k }) (record { cells = d; marks = ns; verdict = y; code = l })
same_program c d x y ms ns k l e f g h = rw (e, f, g, h) refl

pub sole : OneProgram
sole bs p q x y =
    let e : sheet_bytes p ≡ sheet_bytes q = sym x.bytes ∙ y.bytes in
    let cells = same_two p.cells q.cells (ap (λ l. get_or l 0 0) e) (ap (λ l. get_or l 1 0) e) in
    let marked = same_two (length p.marks) (length q.marks) (ap (λ l. get_or l 2 0) e) (ap (λ l. get_or l 3 0) e) in
    let verdict = same_two p.verdict q.verdict (ap (λ l. get_or l 6 0) e) (ap (λ l. get_or l 7 0) e) in
    let (marks, codes) = same_front p.marks q.marks (code_bytes p.code) (code_bytes q.code) marked (ap (drop 14) e) in
    let (code, _) = same_code p.code q.code [] [] (inl refl) (inl refl) (append-nil (code_bytes p.code) ∙ codes ∙ sym (append-nil (code_bytes q.code))) in
    same_program p.cells q.cells p.verdict q.verdict p.marks q.marks p.code q.code cells verdict marks code
