-- How far into a sheet the place of a fault can lie.
use Rattle.std.proofs.Common.{◌≡◌, ℕ, zero, suc, ◌+◌, ◌*◌, ◌≤◌, Bool, true, false, eqb, ltb, leb, List, [], ◌∷◌, length, Some, None, Ok, Err, Option, Result, refl, ap, subst, arith}
use Rattle.std.proofs.lemmas.Bool.{leb-true}
use Rattle.sheet.specs.Kinds.{kind_of}
use Rattle.sheet.specs.Checks.{byte_at, word_at, unless, or_else, header_of, limit_fault, offset_fault, marks_fault, rules_of, obeys, bytes_fault, nested, placed, faulted, kinded, line_says, lines_fault, sheet_fault}
use Rattle.sheet.specs.Refusals.{place_of}
use Rattle.sheet.specs.declared.faults.ReadFault.{ReadFault}
use Rattle.sheet.specs.declared.faults.ReadFault.TheVariants.{Short, Limit, Offset, Mark, Byte, Nesting}
use Rattle.sheet.specs.declared.kinds.LineKind.{LineKind}
use Rattle.sheet.specs.declared.nesting.Open.{Open}
use Rattle.sheet.specs.declared.rules.Rule.{Rule}
use Rattle.sheet.proofs.Stepping.{rules_length}
use Rattle.sheet.proofs.Bytes.{unless_none}

never : {A : Type 0} → ◌≡◌ {A = ℕ} 0 1 → A
never e = absurd (omega (arith, e))

-- a fault's place, if there is one, is at most n
pub record Near (o : Option ReadFault) (n : ℕ) : Type 0 where
  pub place : (f : ReadFault) → o ≡ Some f → place_of f ≤ n

near_none : (n : ℕ) → Near None n
near_none n = record { place = λ f e. never (cc) }

near_some : (f : ReadFault) (n : ℕ) → place_of f ≤ n → Near (Some f) n
near_some f n l = record { place = λ g e. let is : f ≡ g = cc in subst (λ y. place_of y ≤ n) is l }

further : (o : Option ReadFault) (m n : ℕ) → m ≤ n → Near o m → Near o n
further o m n l h = record { place = λ f e. let k = h.place f e in omega arith }

near_unless : (t : Bool) (f : ReadFault) (rest : Option ReadFault) (n : ℕ) → place_of f ≤ n → (t ≡ true → Near rest n) → Near (unless t f rest) n
near_unless true f rest n h g = g refl
near_unless false f rest n h g = near_some f n h

near_or : (a b : Option ReadFault) (n : ℕ) → Near a n → (a ≡ None → Near b n) → Near (or_else a b) n
near_or None b n h g = g refl
near_or (Some f) b n h g = h

module _ (cells : ℕ) (bs : List ℕ) where
  near_marks : (k at low : ℕ) → Near (marks_fault cells bs low at k) (at + k)
  near_marks zero at low = near_none (at + 0)
  near_marks (suc k) at low =
      let rest = marks_fault cells bs (byte_at bs at + 1) (at + 1) k in
      near_unless (leb low (byte_at bs at)) (Mark at) (unless (ltb (byte_at bs at) cells) (Mark at) rest) (at + suc k) (omega arith)
      (λ _. near_unless (ltb (byte_at bs at) cells) (Mark at) rest (at + suc k) (omega arith)
      (λ _. further rest (at + 1 + k) (at + suc k) (omega arith) (near_marks k (at + 1) (byte_at bs at + 1))))

  near_bytes : (rs : List Rule) (at : ℕ) → Near (bytes_fault cells bs at rs) (at + length rs)
  near_bytes [] at = near_none (at + 0)
  near_bytes (r ∷ rs) at =
      near_unless (obeys cells r (byte_at bs at)) (Byte at) (bytes_fault cells bs (at + 1) rs) (at + suc (length rs)) (omega arith)
      (λ _. further (bytes_fault cells bs (at + 1) rs) (at + 1 + length rs) (at + suc (length rs)) (omega arith) (near_bytes rs (at + 1)))

  near_line : (at : ℕ) (b : Option ReadFault) (os : Option (List Open)) → Near b (at + 8) →
      (f : ReadFault) → faulted b (placed at os) ≡ Err f → place_of f ≤ at + 8
  near_line at None None h f e = let is : f ≡ Nesting at = cc in let p = ap place_of is in omega arith
  near_line at None (Some os) h f e = never (cc)
  near_line at (Some g) os h f e = let is : f ≡ g = cc in let p = ap place_of is in let l = h.place g refl in omega arith

  near_kind : (at : ℕ) (os : List Open) (k : Option LineKind) (f : ReadFault) → kinded cells bs at os k ≡ Err f → place_of f ≤ at + 8
  near_kind at os None f e = let is : f ≡ Byte at = cc in let p = ap place_of is in omega arith
  near_kind at os (Some kind) f e =
      let n = rules_length kind in
      near_line at (bytes_fault cells bs (at + 1) (rules_of kind)) (nested kind os)
      (further (bytes_fault cells bs (at + 1) (rules_of kind)) (at + 1 + length (rules_of kind)) (at + 8) (omega arith) (near_bytes (rules_of kind) (at + 1))) f e

  near_lines : (k at : ℕ) (os : List Open) → Near (lines_fault cells bs at k os) (at + 8 * k)
  near_lines zero at [] = near_none (at + 8 * 0)
  near_lines zero at (o ∷ os) = near_some (Nesting at) (at + 8 * 0) (omega arith)
  near_lines (suc k) at os = go (line_says cells bs at os) refl (λ os'. near_lines k (at + 8) os')
    where
      go : (r : Result (List Open) ReadFault) → line_says cells bs at os ≡ r → ((os' : List Open) → Near (lines_fault cells bs (at + 8) k os') (at + 8 + 8 * k)) →
          Near (elim r as (λ _. Option ReadFault) [ Ok os' ↦ lines_fault cells bs (at + 8) k os' | Err f ↦ Some f ]) (at + 8 * suc k)
      go (Ok os') e ih = further (lines_fault cells bs (at + 8) k os') (at + 8 + 8 * k) (at + 8 * suc k) (omega arith) (ih os')
      go (Err f) e ih =
          let l = near_kind at os (kind_of (byte_at bs at)) f e in
          near_some f (at + 8 * suc k) (omega arith)

-- the header's limits, where it has no fault
limited : (bs : List ℕ) → limit_fault (header_of bs) ≡ None → (word_at bs 2 ≤ 64) × (word_at bs 4 ≤ 512)
limited bs e =
    let h = header_of bs in
    let r₄ = unless (ltb h.verdict h.cells) (Limit 6) None in
    let r₃ = unless (leb h.lines 512) (Limit 4) r₄ in
    let r₂ = unless (leb h.marked h.cells) (Limit 2) r₃ in
    let a₁ = unless_none (leb 1 h.cells) (Limit 0) (unless (leb h.cells 64) (Limit 0) r₂) e in
    let a₂ = unless_none (leb h.cells 64) (Limit 0) r₂ a₁.1 in
    let a₃ = unless_none (leb h.marked h.cells) (Limit 2) r₃ a₂.1 in
    let a₄ = unless_none (leb h.lines 512) (Limit 4) r₄ a₃.1 in
    let l₂ = leb-true h.cells 64 a₂.0 in
    let l₃ = leb-true h.marked h.cells a₃.0 in
    (omega (arith, l₂, l₃), leb-true h.lines 512 a₄.0)

near_limits : (bs : List ℕ) → Near (limit_fault (header_of bs)) 4174
near_limits bs =
    let h = header_of bs in
    let r₄ = unless (ltb h.verdict h.cells) (Limit 6) None in
    let r₃ = unless (leb h.lines 512) (Limit 4) r₄ in
    let r₂ = unless (leb h.marked h.cells) (Limit 2) r₃ in
    let r₁ = unless (leb h.cells 64) (Limit 0) r₂ in
    near_unless (leb 1 h.cells) (Limit 0) r₁ 4174 (omega arith) (λ _. near_unless (leb h.cells 64) (Limit 0) r₂ 4174 (omega arith)
    (λ _. near_unless (leb h.marked h.cells) (Limit 2) r₃ 4174 (omega arith) (λ _. near_unless (leb h.lines 512) (Limit 4) r₄ 4174 (omega arith)
    (λ _. near_unless (ltb h.verdict h.cells) (Limit 6) None 4174 (omega arith) (λ _. near_none 4174)))))

near_offsets : (bs : List ℕ) → Near (offset_fault bs (header_of bs)) 4174
near_offsets bs =
    let h = header_of bs in
    let end = 14 + h.marked + 8 * h.lines in
    let r₃ = unless (eqb (length bs) end) (Offset 12) None in
    let r₂ = unless (eqb (word_at bs 12) end) (Offset 12) r₃ in
    let r₁ = unless (eqb (word_at bs 10) (14 + h.marked)) (Offset 10) r₂ in
    near_unless (eqb (word_at bs 8) 14) (Offset 8) r₁ 4174 (omega arith) (λ _. near_unless (eqb (word_at bs 10) (14 + h.marked)) (Offset 10) r₂ 4174 (omega arith)
    (λ _. near_unless (eqb (word_at bs 12) end) (Offset 12) r₃ 4174 (omega arith) (λ _. near_unless (eqb (length bs) end) (Offset 12) None 4174 (omega arith) (λ _. near_none 4174))))

-- no fault lies beyond the longest sheet
pub near_sheet : (bs : List ℕ) → Near (sheet_fault bs) 4174
near_sheet bs =
    let h = header_of bs in
    let l₃ = lines_fault h.cells bs (14 + h.marked) h.lines [] in
    let m = marks_fault h.cells bs 0 14 h.marked in
    let l₂ = or_else m l₃ in
    let l₁ = or_else (offset_fault bs h) l₂ in
    near_unless (leb 14 (length bs)) Short (or_else (limit_fault h) l₁) 4174 (omega arith) (λ _. near_or (limit_fault h) l₁ 4174 (near_limits bs) (λ e.
    let l = limited bs e in
    near_or (offset_fault bs h) l₂ 4174 (near_offsets bs) (λ _.
    near_or m l₃ 4174 (further m (14 + h.marked) 4174 (omega arith) (near_marks h.cells bs h.marked 14 0)) (λ _.
    further l₃ (14 + h.marked + 8 * h.lines) 4174 (omega arith) (near_lines h.cells bs h.lines (14 + h.marked) [])))))
