-- What the first line of a block says of its code.
use Rattle.std.proofs.Common.{◌≡◌, ℕ, ◌+◌, ◌*◌, ◌/◌, ◌%◌, ◌<◌, ◌≤◌, ◌⊎◌, List, [], ◌∷◌, ◌++◌, length, get_or, Some, refl, ap, subst, inl, inr, ⊎_elim, arith}
use Rattle.sheet.specs.Code.{Code, stop, work, literal, choose, repeat, size_of}
use Rattle.sheet.specs.Kinds.{kind_of}
use Rattle.sheet.specs.Layout.{other_bytes}
use Rattle.sheet.specs.Filling.{Begins, code_lines, line_byte}
use Rattle.sheet.specs.declared.kinds.LineKind.TheVariants.{Work, Literal, If, Loop}
use Rattle.sheet.proofs.Stands.{Stands, stands_split, stands_moved}
use Rattle.sheet.proofs.Chunks.{lines_length}

module _ (ls : List (List ℕ)) where
  pub record HasWork (i : ℕ) (c : Code) : Type 0 where
    pub rest : Code
    pub is : c ≡ work (line_byte ls i 1) (line_byte ls i 2) (line_byte ls i 3) (line_byte ls i 4) rest
    pub begins : Begins ls (i + 1) rest

  pub record HasLiteral (i n : ℕ) (c : Code) : Type 0 where
    pub rest : Code
    pub is : c ≡ literal (line_byte ls i 1) n rest
    pub begins : Begins ls (i + 1) rest

  pub record HasIf (i : ℕ) (c : Code) : Type 0 where
    pub first : Code
    pub second : Code
    pub rest : Code
    pub is : c ≡ choose (line_byte ls i 1) first second rest
    pub begins_first : Begins ls (i + 1) first
    pub begins_second : Begins ls (i + 1 + size_of first + 1) second
    pub begins_rest : Begins ls (i + 1 + size_of first + 1 + size_of second + 1) rest

  pub record HasLoop (i : ℕ) (c : Code) : Type 0 where
    pub first : Code
    pub rest : Code
    pub is : c ≡ repeat (line_byte ls i 1) (line_byte ls i 2) first rest
    pub begins_first : Begins ls (i + 1) first
    pub begins_rest : Begins ls (i + 1 + size_of first + 1) rest

  -- the block c ends where the block r, further on, does
  ends : (i j : ℕ) (c r : Code) → i + size_of c ≡ j + size_of r → Begins ls i c → Stands [] ls j (code_lines r) → Begins ls j r
  ends i j c r e b h =
      record {
        here = h;
        within = let w = b.within in omega arith;
        closes = subst (λ y. (y ≡ length ls) ⊎ ((line_byte ls y 0 ≡ 4) ⊎ (line_byte ls y 0 ≡ 5))) e b.closes;
      }

  -- the block p ends before an else or an end
  before : (i j : ℕ) (p : Code) → Stands [] ls i (code_lines p) → j ≡ i + size_of p → j < length ls → (line_byte ls j 0 ≡ 4) ⊎ (line_byte ls j 0 ≡ 5) → Begins ls i p
  before i j p h e l k =
      record {
        here = h;
        within = omega arith;
        closes = inr (subst (λ y. (line_byte ls y 0 ≡ 4) ⊎ (line_byte ls y 0 ≡ 5)) e k);
      }

  -- after a code's lines, what follows them
  split : (i j : ℕ) (c : Code) (us : List (List ℕ)) → j ≡ i + size_of c → Stands [] ls i (code_lines c ++ us) → Stands [] ls i (code_lines c) × Stands [] ls j us
  split i j c us e h =
      let s = stands_split [] ls i (code_lines c) us h in
      let l = lines_length c in
      (s.0, stands_moved [] ls (i + length (code_lines c)) j us (omega arith) s.1)

  -- an empty block has nothing, an else or an end after it
  stopped : (i : ℕ) → i < length ls → Begins ls i stop → (line_byte ls i 0 ≡ 4) ⊎ (line_byte ls i 0 ≡ 5)
  stopped i l b =
      let e : i + 0 ≡ i = omega arith in
      ⊎_elim (λ h. absurd (omega arith)) (λ h. subst (λ y. (line_byte ls y 0 ≡ 4) ⊎ (line_byte ls y 0 ≡ 5)) e h) b.closes

  module _ (i : ℕ) (more : i < length ls) where
    -- a byte of the line, where the line is known
    byte : (us : List ℕ) (j : ℕ) → get_or ls i [] ≡ us → line_byte ls i j ≡ get_or us j 0
    byte us j e = ap (λ l. get_or l j 0) e

    pub has_work : (c : Code) → Begins ls i c → line_byte ls i 0 ≡ 1 → HasWork i c
    has_work stop b k = absurd (⊎_elim (λ h. omega arith) (λ h. omega arith) (stopped i more b))
    has_work (work t o x y r) b k =
        let e₁ = byte _ 1 b.here.0 in
        let e₂ = byte _ 2 b.here.0 in
        let e₃ = byte _ 3 b.here.0 in
        let e₄ = byte _ 4 b.here.0 in
        record { rest = r; is = cc; begins = ends i (i + 1) (work t o x y r) r (omega arith) b b.here.1 }
    has_work (literal t n r) b k = let h = byte _ 0 b.here.0 in absurd (omega arith)
    has_work (choose x p q r) b k = let h = byte _ 0 b.here.0 in absurd (omega arith)
    has_work (repeat x n p r) b k = let h = byte _ 0 b.here.0 in absurd (omega arith)

    pub has_literal : (v : ℕ) → v ≡ line_byte ls i 4 + 256 * line_byte ls i 5 + 65536 * line_byte ls i 6 + 16777216 * line_byte ls i 7 →
        (c : Code) → Begins ls i c → line_byte ls i 0 ≡ 2 → HasLiteral i v c
    has_literal v w stop b k = absurd (⊎_elim (λ h. omega arith) (λ h. omega arith) (stopped i more b))
    has_literal v w (work t o x y r) b k = let h = byte _ 0 b.here.0 in absurd (omega arith)
    has_literal v w (literal t n r) b k =
        let e₁ = byte _ 1 b.here.0 in
        let same : v ≡ n = spelled n v _ _ _ _ (byte _ 4 b.here.0) (byte _ 5 b.here.0) (byte _ 6 b.here.0) (byte _ 7 b.here.0) w in
        record { rest = r; is = cc; begins = ends i (i + 1) (literal t n r) r (omega arith) b b.here.1 }
      where
        spelled : (n v b₀ b₁ b₂ b₃ : ℕ) → b₀ ≡ n % 256 → b₁ ≡ n / 256 % 256 → b₂ ≡ n / 65536 % 256 → b₃ ≡ n / 16777216 →
            v ≡ b₀ + 256 * b₁ + 65536 * b₂ + 16777216 * b₃ → v ≡ n
        spelled n v b₀ b₁ b₂ b₃ e₀ e₁ e₂ e₃ e = omega arith
    has_literal v w (choose x p q r) b k = let h = byte _ 0 b.here.0 in absurd (omega arith)
    has_literal v w (repeat x n p r) b k = let h = byte _ 0 b.here.0 in absurd (omega arith)

    pub has_if : (c : Code) → Begins ls i c → line_byte ls i 0 ≡ 3 → HasIf i c
    has_if stop b k = absurd (⊎_elim (λ h. omega arith) (λ h. omega arith) (stopped i more b))
    has_if (work t o x y r) b k = let h = byte _ 0 b.here.0 in absurd (omega arith)
    has_if (literal t n r) b k = let h = byte _ 0 b.here.0 in absurd (omega arith)
    has_if (choose x p q r) b k =
        let e₁ = byte _ 1 b.here.0 in
        let w = b.within in
        let e = i + 1 + size_of p in
        let z = e + 1 + size_of q in
        let s₁ = split (i + 1) e p (other_bytes 4 0 0 ∷ (code_lines q ++ (other_bytes 5 0 0 ∷ code_lines r))) refl b.here.1 in
        let s₂ = split (e + 1) z q (other_bytes 5 0 0 ∷ code_lines r) refl s₁.1.1 in
        record {
          first = p;
          second = q;
          rest = r;
          is = cc;
          begins_first = before (i + 1) e p s₁.0 refl (omega arith) (inl (ap (λ l. get_or l 0 0) s₁.1.0));
          begins_second = before (e + 1) z q s₂.0 refl (omega arith) (inr (ap (λ l. get_or l 0 0) s₂.1.0));
          begins_rest = ends i (z + 1) (choose x p q r) r (omega arith) b s₂.1.1;
        }
    has_if (repeat x n p r) b k = let h = byte _ 0 b.here.0 in absurd (omega arith)

    pub has_loop : (c : Code) → Begins ls i c → line_byte ls i 0 ≡ 6 → HasLoop i c
    has_loop stop b k = absurd (⊎_elim (λ h. omega arith) (λ h. omega arith) (stopped i more b))
    has_loop (work t o x y r) b k = let h = byte _ 0 b.here.0 in absurd (omega arith)
    has_loop (literal t n r) b k = let h = byte _ 0 b.here.0 in absurd (omega arith)
    has_loop (choose x p q r) b k = let h = byte _ 0 b.here.0 in absurd (omega arith)
    has_loop (repeat x n p r) b k =
        let e₁ = byte _ 1 b.here.0 in
        let e₂ = byte _ 2 b.here.0 in
        let w = b.within in
        let z = i + 1 + size_of p in
        let s₁ = split (i + 1) z p (other_bytes 5 0 0 ∷ code_lines r) refl b.here.1 in
        record {
          first = p;
          rest = r;
          is = cc;
          begins_first = before (i + 1) z p s₁.0 refl (omega arith) (inr (ap (λ l. get_or l 0 0) s₁.1.0));
          begins_rest = ends i (z + 1) (repeat x n p r) r (omega arith) b s₁.1.1;
        }

    -- a line of no other kind closes the block
    pub has_none : (c : Code) → Begins ls i c → (kind_of (line_byte ls i 0) ≡ Some Work → ⊥) → (kind_of (line_byte ls i 0) ≡ Some Literal → ⊥) →
        (kind_of (line_byte ls i 0) ≡ Some If → ⊥) → (kind_of (line_byte ls i 0) ≡ Some Loop → ⊥) → c ≡ stop
    has_none stop b n₁ n₂ n₃ n₆ = refl
    has_none (work t o x y r) b n₁ n₂ n₃ n₆ = absurd (n₁ (ap kind_of (byte _ 0 b.here.0)))
    has_none (literal t n r) b n₁ n₂ n₃ n₆ = absurd (n₂ (ap kind_of (byte _ 0 b.here.0)))
    has_none (choose x p q r) b n₁ n₂ n₃ n₆ = absurd (n₃ (ap kind_of (byte _ 0 b.here.0)))
    has_none (repeat x n p r) b n₁ n₂ n₃ n₆ = absurd (n₆ (ap kind_of (byte _ 0 b.here.0)))

  -- at the end of the lines only the empty block begins
  pub at_end : (i : ℕ) → length ls ≤ i → (c : Code) → Begins ls i c → c ≡ stop
  at_end i l stop b = refl
  at_end i l (work t o a b r) k = let w = k.within in absurd (omega arith)
  at_end i l (literal t n r) k = let w = k.within in absurd (omega arith)
  at_end i l (choose x p q r) k = let w = k.within in absurd (omega arith)
  at_end i l (repeat x n p r) k = let w = k.within in absurd (omega arith)
