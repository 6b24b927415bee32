-- The layout of a program has no fault.
use Rattle.std.proofs.Common.{◌≡◌, ℕ, suc, ◌+◌, ◌-◌, ◌*◌, ◌/◌, ◌%◌, ◌<◌, ◌≤◌, cond, List, [], ◌∷◌, ◌++◌, length, Some, None, Ok, sym, refl, ap, ◌∙◌, subst, arith}
use Rattle.std.proofs.lemmas.Bool.{eq-eqb, lt-ltb, le-leb}
use Rattle.std.proofs.lemmas.List.{length-append}
use Rattle.sheet.specs.Code.{Code, stop, work, literal, choose, repeat, size_of, Keeps}
use Rattle.sheet.specs.Layout.{Program, Lawful, Rising, work_bytes, literal_bytes, other_bytes, code_bytes, header, sheet_bytes}
use Rattle.sheet.specs.Kinds.{byte_of, kind_of}
use Rattle.sheet.specs.Checks.{byte_at, word_at, or_else, header_of, limit_fault, offset_fault, marks_fault, rules_of, opened, nested, placed, faulted, kinded, line_says, lines_fault, sheet_fault}
use Rattle.sheet.specs.Reading.{Laid}
use Rattle.sheet.specs.declared.kinds.LineKind.{LineKind}
use Rattle.sheet.specs.declared.kinds.LineKind.TheVariants.{Work, Literal, If, Else, End, Loop}
use Rattle.sheet.specs.declared.nesting.Open.{Open}
use Rattle.sheet.specs.declared.nesting.Open.TheVariants.{First, Second, Body}
use Rattle.sheet.proofs.Stands.{Stands, stands_split, stands_moved, stands_self}
use Rattle.sheet.proofs.Stepping.{passed, line_said, kind_of-byte_of}
use Rattle.sheet.proofs.Bytes.{Obey, faultless}
use Rattle.sheet.proofs.Sound.{code_length, word_of}

abbrev Here : List ℕ → ℕ → List ℕ → Type 0
Here = Stands 0

module _ (cells : ℕ) (bs : List ℕ) where
  -- a line of the layout, where it may stand
  said : (at : ℕ) (kind : LineKind) (us : List ℕ) (os os' : List Open) → Here bs at (byte_of kind ∷ us) → Obey cells (rules_of kind) us → nested kind os ≡ Some os' →
      line_says cells bs at os ≡ Ok os'
  said at kind us os os' h o n =
      ap (λ b. kinded cells bs at os (kind_of b)) h.0 ∙ ap (kinded cells bs at os) (kind_of-byte_of kind)
      ∙ ap (λ f. faulted f (placed at (nested kind os))) (faultless cells bs (at + 1) (rules_of kind) us o h.1) ∙ ap (placed at) n

  opens : (o : Open) (os : List Open) → length os < 6 → opened o os ≡ Some (o ∷ os)
  opens o os l = ap (λ t. cond t (Some (o ∷ os)) None) (lt-ltb (length os) 6 l)

  -- a code, and then a line and what follows it
  split : (at : ℕ) (c : Code) (us : List ℕ) → Here bs at (code_bytes c ++ us) → Here bs at (code_bytes c) × Here bs (at + 8 * size_of c) us
  split at c us h =
      let s = stands_split 0 bs at (code_bytes c) us h in
      let l = code_length c in
      (s.0, stands_moved 0 bs (at + length (code_bytes c)) (at + 8 * size_of c) us (omega arith) s.1)

  deeper : (os : List Open) (c : Code) → Keeps cells (6 - length os - 1) c → Keeps cells (6 - suc (length os)) c
  deeper os c h = let e : 6 - length os - 1 ≡ 6 - suc (length os) = omega arith in subst (λ d. Keeps cells d c) e h

  -- the lines of a code are passed over, and what is open is open again
  pub code_passes : (c : Code) (at n : ℕ) (os : List Open) → Here bs at (code_bytes c) → Keeps cells (6 - length os) c →
      lines_fault cells bs at (size_of c + n) os ≡ lines_fault cells bs (at + 8 * size_of c) n os
  code_passes stop at n os h k = let e₁ : 0 + n ≡ n = omega arith in let e₂ : at ≡ at + 8 * 0 = omega arith in
      ap (λ y. lines_fault cells bs at y os) e₁ ∙ ap (λ y. lines_fault cells bs y n os) e₂
  code_passes (work t o a b r) at n os h k =
      let s = stands_split 0 bs at (work_bytes t o a b) (code_bytes r) h in
      let e : at + 8 + 8 * size_of r ≡ at + 8 * (1 + size_of r) = omega arith in
      line_said cells bs at os (1 + size_of r + n) (size_of r + n) (omega arith) os
      (said at Work (t ∷ o ∷ a ∷ b ∷ 0 ∷ 0 ∷ 0 ∷ []) os os s.0 (lt-ltb t cells k.0, (le-leb o 7 k.1, (lt-ltb a cells k.2, (lt-ltb b cells k.3, (refl, (refl, (refl, tt))))))) refl)
      ∙ code_passes r (at + 8) n os s.1 k.4 ∙ ap (λ y. lines_fault cells bs y n os) e
  code_passes (literal t v r) at n os h k =
      let s = stands_split 0 bs at (literal_bytes t v) (code_bytes r) h in
      let e : at + 8 + 8 * size_of r ≡ at + 8 * (1 + size_of r) = omega arith in
      line_said cells bs at os (1 + size_of r + n) (size_of r + n) (omega arith) os
      (said at Literal (t ∷ 0 ∷ 0 ∷ v % 256 ∷ v / 256 % 256 ∷ v / 65536 % 256 ∷ v / 16777216 ∷ []) os os s.0 (lt-ltb t cells k.0, (refl, (refl, (refl, (refl, (refl, (refl, tt))))))) refl)
      ∙ code_passes r (at + 8) n os s.1 k.2 ∙ ap (λ y. lines_fault cells bs y n os) e
  code_passes (choose x p q r) at n os h k =
      let s₀ = stands_split 0 bs at (other_bytes 3 x 0) (code_bytes p ++ (other_bytes 4 0 0 ++ (code_bytes q ++ (other_bytes 5 0 0 ++ code_bytes r)))) h in
      let s₁ = split (at + 8) p (other_bytes 4 0 0 ++ (code_bytes q ++ (other_bytes 5 0 0 ++ code_bytes r))) s₀.1 in
      let a₁ = at + 8 + 8 * size_of p in
      let s₂ = stands_split 0 bs a₁ (other_bytes 4 0 0) (code_bytes q ++ (other_bytes 5 0 0 ++ code_bytes r)) s₁.1 in
      let s₃ = split (a₁ + 8) q (other_bytes 5 0 0 ++ code_bytes r) s₂.1 in
      let a₂ = a₁ + 8 + 8 * size_of q in
      let s₄ = stands_split 0 bs a₂ (other_bytes 5 0 0) (code_bytes r) s₃.1 in
      let n₃ = size_of r + n in
      let n₂ = size_of q + suc n₃ in
      let n₁ = size_of p + suc n₂ in
      let e : a₂ + 8 + 8 * size_of r ≡ at + 8 * (3 + size_of p + size_of q + size_of r) = omega arith in
      line_said cells bs at os (3 + size_of p + size_of q + size_of r + n) n₁ (omega arith) (First ∷ os)
      (said at If (x ∷ 0 ∷ 0 ∷ 0 ∷ 0 ∷ 0 ∷ 0 ∷ []) os (First ∷ os) s₀.0 (lt-ltb x cells k.0, (refl, (refl, (refl, (refl, (refl, (refl, tt))))))) (opens First os (omega arith)))
      ∙ code_passes p (at + 8) (suc n₂) (First ∷ os) s₁.0 (deeper os p k.2)
      ∙ line_said cells bs a₁ (First ∷ os) (suc n₂) n₂ refl (Second ∷ os)
      (said a₁ Else (0 ∷ 0 ∷ 0 ∷ 0 ∷ 0 ∷ 0 ∷ 0 ∷ []) (First ∷ os) (Second ∷ os) s₂.0 (refl, (refl, (refl, (refl, (refl, (refl, (refl, tt))))))) refl)
      ∙ code_passes q (a₁ + 8) (suc n₃) (Second ∷ os) s₃.0 (deeper os q k.3)
      ∙ line_said cells bs a₂ (Second ∷ os) (suc n₃) n₃ refl os
      (said a₂ End (0 ∷ 0 ∷ 0 ∷ 0 ∷ 0 ∷ 0 ∷ 0 ∷ []) (Second ∷ os) os s₄.0 (refl, (refl, (refl, (refl, (refl, (refl, (refl, tt))))))) refl)
      ∙ code_passes r (a₂ + 8) n os s₄.1 k.4 ∙ ap (λ y. lines_fault cells bs y n os) e
  code_passes (repeat x v p r) at n os h k =
      let s₀ = stands_split 0 bs at (other_bytes 6 x v) (code_bytes p ++ (other_bytes 5 0 0 ++ code_bytes r)) h in
      let s₁ = split (at + 8) p (other_bytes 5 0 0 ++ code_bytes r) s₀.1 in
      let a₁ = at + 8 + 8 * size_of p in
      let s₂ = stands_split 0 bs a₁ (other_bytes 5 0 0) (code_bytes r) s₁.1 in
      let n₂ = size_of r + n in
      let n₁ = size_of p + suc n₂ in
      let e : a₁ + 8 + 8 * size_of r ≡ at + 8 * (2 + size_of p + size_of r) = omega arith in
      line_said cells bs at os (2 + size_of p + size_of r + n) n₁ (omega arith) (Body ∷ os)
      (said at Loop (x ∷ v ∷ 0 ∷ 0 ∷ 0 ∷ 0 ∷ 0 ∷ []) os (Body ∷ os) s₀.0 (lt-ltb x cells k.0, (le-leb 1 v k.1, (refl, (refl, (refl, (refl, (refl, tt))))))) (opens Body os (omega arith)))
      ∙ code_passes p (at + 8) (suc n₂) (Body ∷ os) s₁.0 (deeper os p k.4)
      ∙ line_said cells bs a₁ (Body ∷ os) (suc n₂) n₂ refl os
      (said a₁ End (0 ∷ 0 ∷ 0 ∷ 0 ∷ 0 ∷ 0 ∷ 0 ∷ []) (Body ∷ os) os s₂.0 (refl, (refl, (refl, (refl, (refl, (refl, (refl, tt))))))) refl)
      ∙ code_passes r (a₁ + 8) n os s₂.1 k.5 ∙ ap (λ y. lines_fault cells bs y n os) e

  -- rising marks have no fault
  marks_pass : (ms : List ℕ) (at low : ℕ) → Rising cells low ms → Here bs at ms → marks_fault cells bs low at (length ms) ≡ None
  marks_pass [] at low r h = refl
  marks_pass (m ∷ ms) at low r h =
      let is = h.0 in
      passed _ _ _ (le-leb low (byte_at bs at) (omega arith)) ∙ passed _ _ _ (lt-ltb (byte_at bs at) cells (omega arith))
      ∙ ap (λ y. marks_fault cells bs (y + 1) (at + 1) (length ms)) is ∙ marks_pass ms (at + 1) (m + 1) r.2 h.1

-- rising marks are no more than the cells
few_marks : (cells low : ℕ) (ms : List ℕ) → Rising cells low ms → length ms ≤ cells - low
few_marks cells low [] r = omega arith
few_marks cells low (m ∷ ms) r = let l = few_marks cells (m + 1) ms r.2 in omega arith

-- bytes that hold a program's numbers, marks and lines where they belong
module _ (bs : List ℕ) (p : Program) (law : Lawful p)
    (w₀ : word_at bs 0 ≡ p.cells) (w₂ : word_at bs 2 ≡ length p.marks) (w₄ : word_at bs 4 ≡ size_of p.code) (w₆ : word_at bs 6 ≡ p.verdict)
    (w₈ : word_at bs 8 ≡ 14) (w₁₀ : word_at bs 10 ≡ 14 + length p.marks) (w₁₂ : word_at bs 12 ≡ 14 + length p.marks + 8 * size_of p.code)
    (long : length bs ≡ 14 + length p.marks + 8 * size_of p.code)
    (marks : Here bs 14 p.marks) (code : Here bs (14 + length p.marks) (code_bytes p.code)) where
  limits : limit_fault (header_of bs) ≡ None
  limits =
      let few = few_marks p.cells 0 p.marks law.rising in
      passed _ _ _ (le-leb 1 (word_at bs 0) (omega (arith, law.some))) ∙ passed _ _ _ (le-leb (word_at bs 0) 64 (omega (arith, law.few)))
      ∙ passed _ _ _ (le-leb (word_at bs 2) (word_at bs 0) (omega arith)) ∙ passed _ _ _ (le-leb (word_at bs 4) 512 (omega (arith, law.short)))
      ∙ passed _ _ _ (lt-ltb (word_at bs 6) (word_at bs 0) (omega (arith, law.judged)))

  offsets : offset_fault bs (header_of bs) ≡ None
  offsets =
      let end = 14 + word_at bs 2 + 8 * word_at bs 4 in
      passed _ _ _ (eq-eqb (word_at bs 8) 14 w₈) ∙ passed _ _ _ (eq-eqb (word_at bs 10) (14 + word_at bs 2) (omega arith))
      ∙ passed _ _ _ (eq-eqb (word_at bs 12) end (omega arith)) ∙ passed _ _ _ (eq-eqb (length bs) end (omega arith))

  marked : marks_fault (word_at bs 0) bs 0 14 (word_at bs 2) ≡ None
  marked =
      ap (λ y. marks_fault y bs 0 14 (word_at bs 2)) w₀ ∙ ap (marks_fault p.cells bs 0 14) w₂ ∙ marks_pass p.cells bs p.marks 14 0 law.rising marks

  lined : lines_fault (word_at bs 0) bs (14 + word_at bs 2) (word_at bs 4) [] ≡ None
  lined =
      let e : word_at bs 4 ≡ size_of p.code + 0 = omega arith in
      ap (λ y. lines_fault y bs (14 + word_at bs 2) (word_at bs 4) []) w₀ ∙ ap (λ y. lines_fault p.cells bs (14 + y) (word_at bs 4) []) w₂
      ∙ ap (λ y. lines_fault p.cells bs (14 + length p.marks) y []) e
      ∙ code_passes p.cells bs p.code (14 + length p.marks) 0 [] code law.keeps

  passes : sheet_fault bs ≡ None
  passes =
      let h = header_of bs in
      let o = offset_fault bs h in
      let m = marks_fault (word_at bs 0) bs 0 14 (word_at bs 2) in
      let l = lines_fault (word_at bs 0) bs (14 + word_at bs 2) (word_at bs 4) [] in
      passed _ _ _ (le-leb 14 (length bs) (omega arith)) ∙ ap (λ y. or_else y (or_else o (or_else m l))) limits ∙ ap (λ y. or_else y (or_else m l)) offsets
      ∙ ap (λ y. or_else y l) marked ∙ lined

pub layout_passes : (bs : List ℕ) (p : Program) → Laid bs p → sheet_fault bs ≡ None
layout_passes bs p laid =
    let cs = p.marks ++ code_bytes p.code in
    let ts = sheet_bytes p in
    let l = code_length p.code in
    let len : length ts ≡ 14 + length p.marks + 8 * size_of p.code = simp length-append (omega arith) in
    let s = (stands_split 0 ts 0 (header p) cs (stands_self 0 ts)).1 in
    let t = stands_split 0 ts 14 p.marks (code_bytes p.code) s in
    subst (λ y. sheet_fault y ≡ None) (sym laid.bytes)
    (passes ts p laid.lawful (word_of p.cells) (word_of (length p.marks)) (word_of (size_of p.code)) (word_of p.verdict) refl
    (word_of (14 + length p.marks)) (word_of (14 + length p.marks + 8 * size_of p.code)) len t.0 t.1)
