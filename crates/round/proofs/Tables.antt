-- Tables of yes and no.
use Rattle.std.proofs.Common.{◌≡◌, ℕ, zero, suc, ◌+◌, ◌≤◌, Bool, true, false, ◌||◌, eqb, List, [], ◌∷◌, ◌++◌, length, get_or, drop, replicate, sym, refl, ◌∙◌, ⊎_elim, arith}
use Rattle.std.proofs.lemmas.List.{get_or_past}
use Rattle.std.proofs.lemmas.Bool.{cases_lt, ne_eqb, or_from}
use Rattle.sheet.specs.Layout.{Rising}
use Rattle.protocol.specs.Terms.{is_in}
use Rattle.round.specs.Tables.{Marks}

-- no is all that stands past the marks
pub padded : (marks rest : List Bool) → ((i : ℕ) → get_or rest i false ≡ false) → (x : ℕ) → get_or (marks ++ rest) x false ≡ get_or marks x false
padded [] rest none x = none x
padded (b ∷ bs) rest none zero = refl
padded (b ∷ bs) rest none (suc x) = padded bs rest none x

pub all_no : (n k i : ℕ) → get_or (drop n (replicate k false)) i false ≡ false
all_no zero zero i = refl
all_no zero (suc k) zero = refl
all_no zero (suc k) (suc i) = all_no zero k i
all_no (suc n) zero i = refl
all_no (suc n) (suc k) i = all_no n k i

pub or_false : (b : Bool) → (b || false) ≡ b
or_false true = refl
or_false false = refl

-- a cell past the sheet's is not marked
pub past_marks : (cells low : ℕ) (ms : List ℕ) (x : ℕ) → Rising cells low ms → cells ≤ x → is_in ms x ≡ false
past_marks cells low [] x r h = refl
past_marks cells low (m ∷ ms) x (l, b, r) h = or_from (eqb x m) (is_in ms x) (ne_eqb x m (λ e. omega arith)) (past_marks cells (m + 1) ms x r h)

-- the table of a sheet's marks says of every cell whether it is marked
pub marks_everywhere : (cells : ℕ) (ms : List ℕ) (table : List Bool) → Rising cells 0 ms → cells ≤ 64 → length table ≡ 64 → Marks ms table → (x : ℕ) → get_or table x false ≡ is_in ms x
marks_everywhere cells ms table r few long says x =
    ⊎_elim (λ below. says x below)
    (λ past. get_or_past table x false (omega arith) ∙ sym (past_marks cells 0 ms x r (omega arith))) (cases_lt x 64)
