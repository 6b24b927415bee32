-- One step of each of the checks that go over a part of the sheet.
use Rattle.std.proofs.Common.{◌≡◌, ℕ, suc, ◌+◌, ◌<◌, Bool, true, false, cond, not, ◌&&◌, ltb, leb, List, [], ◌∷◌, length, get_or, take, drop, Some, None, Ok, Err, ok_or, Option, Result, option_map, position, zip, sym, refl, ap, ◌∙◌, arith}
use Rattle.std.proofs.lemmas.Bool.{and_parts}
use Rattle.std.proofs.lemmas.List.{length-take, length-drop, get_or-take, get_or-drop}
use Rattle.std.proofs.lemmas.Iterator.Adapters.{position_from-zero}
use Rattle.std.specs.List.{position_from}
use Rattle.sheet.specs.Kinds.{byte_of, kind_of}
use Rattle.sheet.specs.Checks.{byte_at, unless, marks_fault, rules_of, obeys, bytes_fault, nested, placed, faulted, kinded, line_says, lines_fault}
use Rattle.sheet.specs.Nests.{opens}
use Rattle.sheet.specs.Parts.{IsLineAt}
use Rattle.sheet.specs.declared.faults.ReadFault.{ReadFault}
use Rattle.sheet.specs.declared.faults.ReadFault.TheVariants.{Mark, Byte, Nesting}
use Rattle.sheet.specs.declared.kinds.LineKind.{LineKind}
use Rattle.sheet.specs.declared.kinds.LineKind.TheVariants.{Work, Literal, If, Else, End, Loop}
use Rattle.sheet.specs.declared.nesting.Nest.{Nest}
use Rattle.sheet.specs.declared.nesting.Open.{Open}
use Rattle.sheet.specs.declared.rules.Rule.{Rule}

pub passed : (t : Bool) (f : ReadFault) (rest : Option ReadFault) → t ≡ true → unless t f rest ≡ rest
passed t f rest e = ap (λ b. unless b f rest) e

pub failed : (t : Bool) (f : ReadFault) (rest : Option ReadFault) → t ≡ false → unless t f rest ≡ Some f
failed t f rest e = ap (λ b. unless b f rest) e

pub rules_length : (kind : LineKind) → length (rules_of kind) ≡ 7
rules_length Work = refl
rules_length Literal = refl
rules_length If = refl
rules_length Else = refl
rules_length End = refl
rules_length Loop = refl

-- the byte of a kind names it, and no other does
pub kind_of-byte_of : (kind : LineKind) → kind_of (byte_of kind) ≡ Some kind
kind_of-byte_of Work = refl
kind_of-byte_of Literal = refl
kind_of-byte_of If = refl
kind_of-byte_of Else = refl
kind_of-byte_of End = refl
kind_of-byte_of Loop = refl

pub byte_of_kind : (b : ℕ) (kind : LineKind) → kind_of b ≡ Some kind → b ≡ byte_of kind
byte_of_kind b kind h = grind arith

module _ (cells : ℕ) (bs : List ℕ) (at : ℕ) where
  -- marks: m are left, the one at `at` and n more
  module _ (low mark m n : ℕ) (more : m ≡ suc n) (is : mark ≡ byte_at bs at) where
    read : marks_fault cells bs low at m ≡ unless (leb low mark) (Mark at) (unless (ltb mark cells) (Mark at) (marks_fault cells bs (mark + 1) (at + 1) n))
    read =
        ap (marks_fault cells bs low at) more
        ∙ ap (λ y. unless (leb low y) (Mark at) (unless (ltb y cells) (Mark at) (marks_fault cells bs (y + 1) (at + 1) n))) (sym is)

    pub mark_next : (low' at' : ℕ) → low' ≡ mark + 1 → at' ≡ at + 1 → (leb low mark && ltb mark cells) ≡ true → marks_fault cells bs low' at' n ≡ marks_fault cells bs low at m
    mark_next low' at' l e h =
        let b = and_parts (leb low mark) (ltb mark cells) h in
        ap (λ y. marks_fault cells bs y at' n) l ∙ ap (λ y. marks_fault cells bs (mark + 1) y n) e ∙ sym (read ∙ passed _ _ _ b.0 ∙ passed _ _ _ b.1)

    pub mark_bad : (leb low mark && ltb mark cells) ≡ false → marks_fault cells bs low at m ≡ Some (Mark at)
    mark_bad h = read ∙ either (leb low mark) (ltb mark cells) _ h
      where
        either : (s t : Bool) (rest : Option ReadFault) → (s && t) ≡ false → unless s (Mark at) (unless t (Mark at) rest) ≡ Some (Mark at)
        either true t rest g = failed t (Mark at) rest g
        either false t rest g = refl

  abbrev then_lines : ℕ → Result (List Open) ReadFault → Option ReadFault
  then_lines m r = elim r [ Ok os ↦ lines_fault cells bs (at + 8) m os | Err f ↦ Some f ]

  -- lines: m are left, the one at `at` and n more
  module _ (os : List Open) (m n : ℕ) (more : m ≡ suc n) where
    pub line_said : (os' : List Open) → line_says cells bs at os ≡ Ok os' → lines_fault cells bs at m os ≡ lines_fault cells bs (at + 8) n os'
    line_said os' h = ap (λ k. lines_fault cells bs at k os) more ∙ ap (then_lines n) h

    pub line_bad : (f : ReadFault) → line_says cells bs at os ≡ Err f → lines_fault cells bs at m os ≡ Some f
    line_bad f h = ap (λ k. lines_fault cells bs at k os) more ∙ ap (then_lines n) h

  pub ends_open : (os : List Open) (n : ℕ) → n ≡ 0 → 0 < length os → lines_fault cells bs at n os ≡ Some (Nesting at)
  ends_open [] n e l = absurd (omega arith)
  ends_open (o ∷ os) n e l = ap (λ k. lines_fault cells bs at k (o ∷ os)) e

-- Bytes that stand from `n` on, each beside its rule, have the fault of the first that its rule does not allow.
module _ (cells at : ℕ) (bs : List ℕ) where
  abbrev pub is_wrong : Rule × ℕ → Bool
  is_wrong p = not (obeys cells p.0 p.1)

  pub first_wrong : (rs : List Rule) (us : List ℕ) (i n : ℕ) → n ≡ at + i → length us ≡ length rs → ((j : ℕ) → j < length rs → get_or us j 0 ≡ byte_at bs (n + j)) →
      bytes_fault cells bs n rs ≡ option_map (λ j. Byte (at + j)) (position_from is_wrong i (zip rs us))
  first_wrong [] us i n e l h = refl
  first_wrong (r ∷ rs) [] i n e l h = absurd (omega arith)
  first_wrong (r ∷ rs) (u ∷ us) i n e l h =
      let n₀ : n + 0 ≡ n = omega arith in
      let is : u ≡ byte_at bs n = h 0 (omega arith) ∙ ap (byte_at bs) n₀ in
      let rest = first_wrong rs us (i + 1) (n + 1) (omega arith) (omega arith)
      (λ j m. h (suc j) (omega arith) ∙ ap (byte_at bs) (let g : n + suc j ≡ n + 1 + j = omega arith in g)) in
      ap (λ y. unless (obeys cells r y) (Byte n) (bytes_fault cells bs (n + 1) rs)) (sym is) ∙ either (obeys cells r u) _ _ rest
    where
      either : (t : Bool) (a : Option ReadFault) (b : Option ℕ) → a ≡ option_map (λ j. Byte (at + j)) b →
          unless t (Byte n) a ≡ option_map (λ j. Byte (at + j)) (cond (not t) (Some i) b)
      either true a b g = g
      either false a b g = ap (λ y. Some (Byte y)) e

-- a line that stands at the byte `at`
module _ (cells at : ℕ) (bs : List ℕ) (kind : LineKind) (line : List ℕ) (here : IsLineAt bs at line) where
  -- has the fault of the first of its bytes that its rule does not allow
  pub misfit_fault : (rs : List Rule) (r : Option ℕ) → rs ≡ rules_of kind → length line ≡ 8 → r ≡ position (λ p. not (obeys cells p.0 p.1)) (zip rs (take 7 (drop 1 line))) →
      option_map (λ j. Byte (at + 1 + j)) r ≡ bytes_fault cells bs (at + 1) (rules_of kind)
  misfit_fault rs r are eight e =
      let seven = ap length are ∙ rules_length kind in
      ap (option_map (λ j. Byte (at + 1 + j))) (e ∙ position_from-zero (λ p. not (obeys cells p.0 p.1)) (zip rs (take 7 (drop 1 line))))
      ∙ sym (first_wrong cells (at + 1) bs rs (take 7 (drop 1 line)) 0 (at + 1) (omega arith) (simp (length-take, length-drop) (omega arith))
      (λ j l. get_or-take 7 (drop 1 line) j 0 (omega arith) ∙ get_or-drop 1 line j 0 ∙ here (1 + j) (omega arith) ∙ ap (byte_at bs) (let g : at + (1 + j) ≡ at + 1 + j = omega arith in g)))
      ∙ ap (bytes_fault cells bs (at + 1)) are

  module _ (os : List Open) (named : Some kind ≡ kind_of (byte_at line 0)) where
    named_says : line_says cells bs at os ≡ kinded cells bs at os (Some kind)
    named_says = let g : at ≡ at + 0 = omega arith in ap (λ b. kinded cells bs at os (kind_of b)) (ap (byte_at bs) g ∙ sym (here 0 (omega arith))) ∙ ap (kinded cells bs at os) (sym named)

    pub says_fault : (f : ReadFault) → Some f ≡ bytes_fault cells bs (at + 1) (rules_of kind) → line_says cells bs at os ≡ Err f
    says_fault f e = named_says ∙ ap (λ b. faulted b (placed at (nested kind os))) (sym e)

    pub says_after : (after : Option (List Open)) → None ≡ bytes_fault cells bs (at + 1) (rules_of kind) → after ≡ nested kind os → line_says cells bs at os ≡ placed at after
    says_after after e n = named_says ∙ ap (λ b. faulted b (placed at (nested kind os))) (sym e) ∙ ap (placed at) (sym n)

-- what is open after a line, as the record of it
pub placed_open : (at : ℕ) (next : Option Nest) →
    placed at (option_map opens next) ≡ (elim (ok_or next (Nesting at)) as (λ _. Result (List Open) ReadFault) [ Ok n ↦ Ok (opens n) | Err f ↦ Err f ])
placed_open at None = refl
placed_open at (Some n) = refl
