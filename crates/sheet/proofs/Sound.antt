-- Bytes without a fault are the layout of a program.
use Rattle.std.proofs.Common.{◌≡◌, ℕ, zero, suc, ◌+◌, ◌-◌, ◌*◌, ◌/◌, ◌%◌, ◌^◌, ◌<◌, ◌≤◌, Bool, true, false, cond, ltb, List, [], ◌∷◌, ◌++◌, length, Some, None, Ok, Err, Option, Result, sym, refl, ap, ◌∙◌, subst, arith}
use Rattle.std.proofs.lemmas.Bool.{eqb-true, ltb-true, leb-true}
use Rattle.std.proofs.lemmas.List.{length-append, drop_all, append-nil}
use Rattle.sheet.specs.Code.{Code, stop, work, literal, choose, repeat, size_of, Keeps}
use Rattle.sheet.specs.Layout.{Program, Lawful, Rising, work_bytes, literal_bytes, other_bytes, code_bytes, sheet_bytes}
use Rattle.sheet.specs.Kinds.{byte_of, kind_of}
use Rattle.sheet.specs.Checks.{byte_at, word_at, header_of, limit_fault, offset_fault, marks_fault, rules_of, bytes_fault, opened, turned, closed, nested, placed, faulted, kinded, line_says, lines_fault, sheet_fault}
use Rattle.sheet.specs.Results.{Bytes}
use Rattle.sheet.specs.Reading.{Laid}
use Rattle.sheet.specs.declared.faults.ReadFault.{ReadFault}
use Rattle.sheet.specs.declared.kinds.LineKind.{LineKind}
use Rattle.sheet.specs.declared.nesting.Open.{Open}
use Rattle.sheet.specs.declared.nesting.Open.TheVariants.{First, Second, Body}
use Rattle.sheet.proofs.Stands.{Stands, stands_append, stands_moved, stands_front}
use Rattle.sheet.proofs.Stepping.{byte_of_kind}
use Rattle.sheet.proofs.Bytes.{unless_none, or_none, LineIs, is_work, is_literal, is_if, is_else, is_end, is_loop, line_is}

never : {A : Type 0} → ◌≡◌ {A = ℕ} 0 1 → A
never e = absurd (omega (arith, e))

abbrev Here : List ℕ → ℕ → List ℕ → Type 0
Here = Stands 0

-- each line has eight bytes
pub code_length : (c : Code) → length (code_bytes c) ≡ 8 * size_of c
code_length stop = refl
code_length (work t o a b r) = let l = code_length r in omega arith
code_length (literal t n r) = let l = code_length r in omega arith
code_length (choose x p q r) =
    let l₁ = code_length p in
    let l₂ = code_length q in
    let l₃ = code_length r in
    simp length-append (omega arith)
code_length (repeat x n p r) =
    let l₁ = code_length p in
    let l₂ = code_length r in
    simp length-append (omega arith)

module _ (cells : ℕ) (bs : List ℕ) where
  -- a part of the bytes, and then another
  then_code : (at : ℕ) (us : List ℕ) (c : Code) (n : ℕ) → at + length us ≡ n → Here bs at us → Here bs n (code_bytes c) → Here bs at (us ++ code_bytes c)
  then_code at us c n e h g = stands_append 0 bs at us (code_bytes c) h (stands_moved 0 bs n (at + length us) (code_bytes c) (sym e) g)

  -- after a code, another line and what follows it
  then_line : (at : ℕ) (c : Code) (us vs : List ℕ) → Here bs at (code_bytes c) → Here bs (at + 8 * size_of c) us → Here bs (at + 8 * size_of c + length us) vs →
      Here bs at (code_bytes c ++ (us ++ vs))
  then_line at c us vs h g k =
      let l = code_length c in
      stands_append 0 bs at (code_bytes c) (us ++ vs) h
      (stands_moved 0 bs (at + 8 * size_of c) (at + length (code_bytes c)) (us ++ vs) (omega arith) (stands_append 0 bs (at + 8 * size_of c) us vs g k))

  -- What is left of a sheet, up to the byte `end`, where `os` is open: a code, and then what closes `os`.
  abbrev Closing : List Open → ℕ → ℕ → Type 0
  Closing [] at end = at ≡ end
  Closing (First ∷ os) at end =
      Here bs at (other_bytes 4 0 0) × ((q : Code) × Keeps cells (6 - suc (length os)) q × Here bs (at + 8) (code_bytes q) ×
      (Here bs (at + 8 + 8 * size_of q) (other_bytes 5 0 0) × ((r : Code) × Keeps cells (6 - length os) r × Here bs (at + 8 + 8 * size_of q + 8) (code_bytes r) ×
      Closing os (at + 8 + 8 * size_of q + 8 + 8 * size_of r) end)))
  Closing (Second ∷ os) at end =
      Here bs at (other_bytes 5 0 0) × ((r : Code) × Keeps cells (6 - length os) r × Here bs (at + 8) (code_bytes r) × Closing os (at + 8 + 8 * size_of r) end)
  Closing (Body ∷ os) at end =
      Here bs at (other_bytes 5 0 0) × ((r : Code) × Keeps cells (6 - length os) r × Here bs (at + 8) (code_bytes r) × Closing os (at + 8 + 8 * size_of r) end)

  record Block (os : List Open) (at end : ℕ) : Type 0 where
    code : Code
    keeps : Keeps cells (6 - length os) code
    here : Here bs at (code_bytes code)
    closing : Closing os (at + 8 * size_of code) end

  -- the same block, with the place after its code written another way
  moved : (os : List Open) (at n end : ℕ) → at ≡ n → Closing os at end → Closing os n end
  moved os at n end e h = subst (λ y. Closing os y end) e h

  nothing : (os : List Open) (at end : ℕ) → Closing os at end → Block os at end
  nothing os at end h = record { code = stop; keeps = tt; here = tt; closing = moved os at (at + 8 * 0) end (omega arith) h }

  -- a line in front
  with_work : (os : List Open) (at end t o a b : ℕ) → t < cells → o ≤ 7 → a < cells → b < cells → Here bs at (work_bytes t o a b) → Block os (at + 8) end → Block os at end
  with_work os at end t o a b l₁ l₂ l₃ l₄ h k =
      record {
        code = work t o a b k.code;
        keeps = (l₁, l₂, l₃, l₄, k.keeps);
        here = then_code at (work_bytes t o a b) k.code (at + 8) refl h k.here;
        closing = moved os (at + 8 + 8 * size_of k.code) (at + 8 * (1 + size_of k.code)) end (omega arith) k.closing;
      }

  with_literal : (os : List Open) (at end t n : ℕ) → t < cells → n < 2 ^ 32 → Here bs at (literal_bytes t n) → Block os (at + 8) end → Block os at end
  with_literal os at end t n l₁ l₂ h k =
      record {
        code = literal t n k.code;
        keeps = (l₁, l₂, k.keeps);
        here = then_code at (literal_bytes t n) k.code (at + 8) refl h k.here;
        closing = moved os (at + 8 + 8 * size_of k.code) (at + 8 * (1 + size_of k.code)) end (omega arith) k.closing;
      }

  shallower : (os : List Open) (c : Code) → Keeps cells (6 - suc (length os)) c → Keeps cells (6 - length os - 1) c
  shallower os c h = let e : 6 - suc (length os) ≡ 6 - length os - 1 = omega arith in subst (λ d. Keeps cells d c) e h

  -- an if: its first block, its else, its second block and its end are in what is left
  with_if : (os : List Open) (at end x : ℕ) → x < cells → length os < 6 → Here bs at (other_bytes 3 x 0) → Block (First ∷ os) (at + 8) end → Block os at end
  with_if os at end x l d h k =
      let p = k.code in
      let z = k.closing in
      let q = z.1.0 in
      let r = z.1.3.1.0 in
      let a₁ = at + 8 + 8 * size_of p in
      let a₂ = a₁ + 8 + 8 * size_of q in
      let rest : Here bs (a₂ + 8) (code_bytes r) = z.1.3.1.2 in
      let second : Here bs (a₁ + 8) (code_bytes q ++ (other_bytes 5 0 0 ++ code_bytes r)) = then_line (a₁ + 8) q (other_bytes 5 0 0) (code_bytes r) z.1.2 z.1.3.0 rest in
      let first : Here bs (at + 8) (code_bytes p ++ (other_bytes 4 0 0 ++ (code_bytes q ++ (other_bytes 5 0 0 ++ code_bytes r)))) =
      then_line (at + 8) p (other_bytes 4 0 0) (code_bytes q ++ (other_bytes 5 0 0 ++ code_bytes r)) k.here z.0 second in
      record {
        code = choose x p q r;
        keeps = (l, omega arith, shallower os p k.keeps, shallower os q z.1.1, z.1.3.1.1);
        here = stands_append 0 bs at (other_bytes 3 x 0) (code_bytes p ++ (other_bytes 4 0 0 ++ (code_bytes q ++ (other_bytes 5 0 0 ++ code_bytes r)))) h first;
        closing = moved os (a₂ + 8 + 8 * size_of r) (at + 8 * (3 + size_of p + size_of q + size_of r)) end (omega arith) z.1.3.1.3;
      }

  with_loop : (os : List Open) (at end x n : ℕ) → x < cells → 1 ≤ n → n ≤ 255 → length os < 6 → Here bs at (other_bytes 6 x n) → Block (Body ∷ os) (at + 8) end → Block os at end
  with_loop os at end x n l l₁ l₂ d h k =
      let p = k.code in
      let z = k.closing in
      let r = z.1.0 in
      let a₁ = at + 8 + 8 * size_of p in
      let first : Here bs (at + 8) (code_bytes p ++ (other_bytes 5 0 0 ++ code_bytes r)) =
      then_line (at + 8) p (other_bytes 5 0 0) (code_bytes r) k.here z.0 z.1.2 in
      record {
        code = repeat x n p r;
        keeps = (l, l₁, l₂, omega arith, shallower os p k.keeps, z.1.1);
        here = stands_append 0 bs at (other_bytes 6 x n) (code_bytes p ++ (other_bytes 5 0 0 ++ code_bytes r)) h first;
        closing = moved os (a₁ + 8 + 8 * size_of r) (at + 8 * (2 + size_of p + size_of r)) end (omega arith) z.1.3;
      }

  -- an else and an end close what is open
  with_else : (os os' : List Open) (at end : ℕ) → turned os ≡ Some os' → Here bs at (other_bytes 4 0 0) → Block os' (at + 8) end → Block os at end
  with_else [] os' at end e h k = never (cc)
  with_else (First ∷ os) os' at end e h k =
      let same : os' ≡ Second ∷ os = cc in
      let m = subst (λ y. Block y (at + 8) end) same k in
      nothing (First ∷ os) at end (h, (m.code, m.keeps, m.here, m.closing))
  with_else (Second ∷ os) os' at end e h k = never (cc)
  with_else (Body ∷ os) os' at end e h k = never (cc)

  with_end : (os os' : List Open) (at end : ℕ) → closed os ≡ Some os' → Here bs at (other_bytes 5 0 0) → Block os' (at + 8) end → Block os at end
  with_end [] os' at end e h k = never (cc)
  with_end (First ∷ os) os' at end e h k = never (cc)
  with_end (Second ∷ os) os' at end e h k =
      let same : os' ≡ os = cc in
      let m = subst (λ y. Block y (at + 8) end) same k in
      nothing (Second ∷ os) at end (h, (m.code, m.keeps, m.here, m.closing))
  with_end (Body ∷ os) os' at end e h k =
      let same : os' ≡ os = cc in
      let m = subst (λ y. Block y (at + 8) end) same k in
      nothing (Body ∷ os) at end (h, (m.code, m.keeps, m.here, m.closing))

  -- a construct opens where there is room
  opens : (o : Open) (os os' : List Open) → opened o os ≡ Some os' → (length os < 6) × (os' ≡ o ∷ os)
  opens o os os' e = go (ltb (length os) 6) refl e
    where
      go : (t : Bool) → ltb (length os) 6 ≡ t → cond t (Some (o ∷ os)) None ≡ Some os' → (length os < 6) × (os' ≡ o ∷ os)
      go true g h = (ltb-true (length os) 6 g, cc)
      go false g h = never (cc)

  -- what a line that may stand where `os` is open says
  record Said (at : ℕ) (os os' : List Open) : Type 0 where
    kind : LineKind
    byte : byte_at bs at ≡ byte_of kind
    faultless : bytes_fault cells bs (at + 1) (rules_of kind) ≡ None
    after : nested kind os ≡ Some os'

  line_says_lem : (at : ℕ) (os os' : List Open) → line_says cells bs at os ≡ Ok os' → Said at os os'
  line_says_lem at os os' e = go (kind_of (byte_at bs at)) refl e
    where
      placed_ok : (b : Option (List Open)) → placed at b ≡ Ok os' → b ≡ Some os'
      placed_ok None h = never (cc)
      placed_ok (Some os'') h = cc

      faulted_ok : (a : Option ReadFault) (b : Option (List Open)) → faulted a (placed at b) ≡ Ok os' → (a ≡ None) × (b ≡ Some os')
      faulted_ok None b h = (refl, placed_ok b h)
      faulted_ok (Some f) b h = never (cc)

      go : (k : Option LineKind) → kind_of (byte_at bs at) ≡ k → kinded cells bs at os k ≡ Ok os' → Said at os os'
      go None g h = never (cc)
      go (Some kind) g h =
          let p = faulted_ok (bytes_fault cells bs (at + 1) (rules_of kind)) (nested kind os) h in
          record { kind = kind; byte = byte_of_kind (byte_at bs at) kind g; faultless = p.0; after = p.1 }

  -- a line in front of what is left
  with_line : (at end : ℕ) (kind : LineKind) (os os' : List Open) → LineIs cells bs at kind → nested kind os ≡ Some os' → Block os' (at + 8) end → Block os at end
  with_line at end kind os os' (is_work t o a b l₁ l₂ l₃ l₄ e h) g k =
      let same : Some os ≡ Some os' = subst (λ y. nested y os ≡ Some os') e g in
      let es : os' ≡ os = cc in
      with_work os at end t o a b l₁ l₂ l₃ l₄ h (subst (λ y. Block y (at + 8) end) es k)
  with_line at end kind os os' (is_literal t n l₁ l₂ e h) g k =
      let same : Some os ≡ Some os' = subst (λ y. nested y os ≡ Some os') e g in
      let es : os' ≡ os = cc in
      with_literal os at end t n l₁ l₂ h (subst (λ y. Block y (at + 8) end) es k)
  with_line at end kind os os' (is_if x l e h) g k =
      let o = opens First os os' (subst (λ y. nested y os ≡ Some os') e g) in
      with_if os at end x l o.0 h (subst (λ y. Block y (at + 8) end) o.1 k)
  with_line at end kind os os' (is_else e h) g k = with_else os os' at end (subst (λ y. nested y os ≡ Some os') e g) h k
  with_line at end kind os os' (is_end e h) g k = with_end os os' at end (subst (λ y. nested y os ≡ Some os') e g) h k
  with_line at end kind os os' (is_loop x n l l₁ l₂ e h) g k =
      let o = opens Body os os' (subst (λ y. nested y os ≡ Some os') e g) in
      with_loop os at end x n l l₁ l₂ o.0 h (subst (λ y. Block y (at + 8) end) o.1 k)

  module _ (bytes : Bytes bs) where
    line_then : (at n : ℕ) (os : List Open) → ((os' : List Open) → lines_fault cells bs (at + 8) n os' ≡ None → Block os' (at + 8) (at + 8 + 8 * n)) →
        (r : Result (List Open) ReadFault) → line_says cells bs at os ≡ r →
        (elim r as (λ _. Option ReadFault) [ Ok os' ↦ lines_fault cells bs (at + 8) n os' | Err f ↦ Some f ]) ≡ None → Block os at (at + 8 * suc n)
    line_then at n os ih (Ok os') e h =
        let s = line_says_lem at os os' e in
        let k = subst (λ y. Block os' (at + 8) y) (let g : at + 8 + 8 * n ≡ at + 8 * suc n = omega arith in g) (ih os' h) in
        with_line at (at + 8 * suc n) s.kind os os' (line_is cells bs at bytes s.kind s.byte s.faultless) s.after k
    line_then at n os ih (Err f) e h = never (cc)

    blocks : (n at : ℕ) (os : List Open) → lines_fault cells bs at n os ≡ None → Block os at (at + 8 * n)
    blocks zero at [] h = nothing [] at (at + 8 * 0) (omega arith)
    blocks zero at (o ∷ os) h = never (cc)
    blocks (suc n) at os h = line_then at n os (λ os' g. blocks n (at + 8) os' g) (line_says cells bs at os) refl h

  -- the marks
  marks_rise : (n at low : ℕ) → marks_fault cells bs low at n ≡ None → (ms : List ℕ) × (length ms ≡ n) × Rising cells low ms × Here bs at ms
  marks_rise zero at low h = ([], refl, tt, tt)
  marks_rise (suc n) at low h =
      let u = unless_none _ _ _ h in
      let v = unless_none _ _ _ u.1 in
      let w = marks_rise n (at + 1) (byte_at bs at + 1) v.1 in
      (byte_at bs at ∷ w.0, ap suc w.1, (leb-true _ _ u.0, ltb-true _ _ v.0, w.2), (refl, w.3))

-- two bytes spell a number, and are its bytes
pub word_bytes : (low high n : ℕ) → low < 256 → low + 256 * high ≡ n → (low ≡ n % 256) × (high ≡ n / 256)
word_bytes low high n l e = (omega arith, omega arith)

pub word_of : (n : ℕ) → n % 256 + 256 * (n / 256) ≡ n
word_of n = omega arith

-- what a sheet without a fault is
pub record Sheeted (bs : List ℕ) : Type 0 where
  pub program : Program
  pub laid : Laid bs program
  pub cells : word_at bs 0 ≡ program.cells
  pub lines : word_at bs 4 ≡ size_of program.code
  pub verdict : word_at bs 6 ≡ program.verdict
  pub marked : word_at bs 2 ≡ length program.marks
  pub marks : Here bs 14 program.marks
  pub code : Here bs (14 + length program.marks) (code_bytes program.code)
  pub long : length bs ≡ 14 + length program.marks + 8 * size_of program.code

module _ (bs : List ℕ) (bytes : Bytes bs) (none : sheet_fault bs ≡ None) where
  pub sheeted : Sheeted bs
  sheeted =
      let h = header_of bs in
      let s₀ = unless_none _ _ _ none in
      let s₁ = or_none (limit_fault h) _ s₀.1 in
      let s₂ = or_none (offset_fault bs h) _ s₁.1 in
      let s₃ = or_none (marks_fault h.cells bs 0 14 h.marked) _ s₂.1 in
      let a₁ = unless_none _ _ _ s₁.0 in
      let a₂ = unless_none _ _ _ a₁.1 in
      let a₃ = unless_none _ _ _ a₂.1 in
      let a₄ = unless_none _ _ _ a₃.1 in
      let a₅ = unless_none _ _ _ a₄.1 in
      let b₁ = unless_none _ _ _ s₂.0 in
      let b₂ = unless_none _ _ _ b₁.1 in
      let b₃ = unless_none _ _ _ b₂.1 in
      let b₄ = unless_none _ _ _ b₃.1 in
      let ms = marks_rise h.cells bs h.marked 14 0 s₃.0 in
      let k = blocks h.cells bs bytes h.lines (14 + h.marked) [] s₃.1 in
      built ms.0 ms.1 ms.2 ms.3 k.code k.keeps k.here k.closing
      (leb-true _ _ a₁.0) (leb-true _ _ a₂.0) (leb-true _ _ a₄.0) (ltb-true _ _ a₅.0)
      (eqb-true _ _ b₁.0) (eqb-true _ _ b₂.0) (eqb-true _ _ b₃.0) (eqb-true _ _ b₄.0)
    where
      built : (ms : List ℕ) → length ms ≡ word_at bs 2 → Rising (word_at bs 0) 0 ms → Here bs 14 ms →
          (c : Code) → Keeps (word_at bs 0) 6 c → Here bs (14 + word_at bs 2) (code_bytes c) → 14 + word_at bs 2 + 8 * size_of c ≡ 14 + word_at bs 2 + 8 * word_at bs 4 →
          1 ≤ word_at bs 0 → word_at bs 0 ≤ 64 → word_at bs 4 ≤ 512 → word_at bs 6 < word_at bs 0 →
          word_at bs 8 ≡ 14 → word_at bs 10 ≡ 14 + word_at bs 2 → word_at bs 12 ≡ 14 + word_at bs 2 + 8 * word_at bs 4 → length bs ≡ 14 + word_at bs 2 + 8 * word_at bs 4 →
          Sheeted bs
      built ms lm rise hm c keeps hc end some few short judged o₈ o₁₀ o₁₂ long =
          let p : Program = record { cells = word_at bs 0; marks = ms; verdict = word_at bs 6; code = c } in
          let size : word_at bs 4 ≡ size_of c = omega arith in
          let lc = code_length c in
          let law : Lawful p = record { some = some; few = few; rising = rise; short = omega arith; judged = judged; keeps = keeps } in
          let hc' = stands_moved 0 bs (14 + word_at bs 2) (14 + length ms) (code_bytes c) (omega arith) hc in
          let w : (i n : ℕ) → word_at bs i ≡ n → (byte_at bs i ≡ n % 256) × (byte_at bs (i + 1) ≡ n / 256) =
          λ i n e. word_bytes (byte_at bs i) (byte_at bs (i + 1)) n (bytes i) e in
          let w₀ = w 0 (word_at bs 0) refl in
          let w₂ = w 2 (length ms) (sym lm) in
          let w₄ = w 4 (size_of c) size in
          let w₆ = w 6 (word_at bs 6) refl in
          let w₈ = w 8 14 o₈ in
          let w₁₀ = w 10 (14 + length ms) (omega arith) in
          let w₁₂ = w 12 (14 + length ms + 8 * size_of c) (omega arith) in
          let st : Here bs 0 (sheet_bytes p) = (
            w₀.0,
            (
              w₀.1,
              (
                w₂.0,
                (
                  w₂.1,
                  (
                    w₄.0,
                    (
                      w₄.1,
                      (
                        w₆.0,
                        (
                          w₆.1,
                          (
                            w₈.0,
                            (
                              w₈.1,
                              (
                                w₁₀.0,
                                (
                                  w₁₀.1,
                                  (
                                    w₁₂.0,
                                    (
                                      w₁₂.1,
                                      stands_append 0 bs 14 ms (code_bytes c) hm hc',
                                    ),
                                  ),
                                ),
                              ),
                            ),
                          ),
                        ),
                      ),
                    ),
                  ),
                ),
              ),
            ),
          ) in
          let len : length (sheet_bytes p) ≡ length bs = simp length-append (omega arith) in
          let same : bs ≡ sheet_bytes p =
          stands_front 0 bs (sheet_bytes p) st (omega arith) ∙ ap (λ y. sheet_bytes p ++ y) (drop_all (length (sheet_bytes p)) bs (omega arith)) ∙ append-nil (sheet_bytes p) in
          record { program = p; laid = record { lawful = law; bytes = same }; cells = refl; lines = size; verdict = refl; marked = sym lm; marks = hm; code = hc'; long = omega arith }
