-- The step table read by places: the form in which the functions that fill it speak of it.
use Rattle.std.specs.Prelude.{◌≡◌, ℕ, ◌+◌, ◌-◌, ◌*◌, ◌<◌, ◌≤◌, Bool, true, false, List, length, slice_index_or}
use Rattle.sheet.specs.Blocks.{HasCode, lines_in, Lies, Leads}
use Rattle.sheet.specs.Code.{Code, stop, work, literal, choose, repeat, size_of}
use Rattle.sheet.specs.declared.block.Block.{Block}
use Rattle.sheet.specs.declared.block.Construct.{Construct}
use Rattle.sheet.specs.declared.lines.Line.{Line}
use Rattle.onepath.specs.Cover.{loop_covered, level_in, loops_in}
use Rattle.onepath.specs.Own.{if_head, if_middle, loop_head, loop_test, loop_back}
use Rattle.onepath.specs.declared.steps.Step.{Step}
use Rattle.onepath.specs.declared.steps.Step.TheVariants.{Work, Literal, Close, Jump}

abbrev pub step_at : List Step → ℕ → Step
step_at ts i = slice_index_or ts i (Jump 0)

-- after the last step of a loop's pass: a covered loop has one step more, at m; j is the place after the loop
abbrev pub LoopEnd : Bool → List Step → ℕ → ℕ → ℕ → ℕ → ℕ → Type 0
LoopEnd true ts k x l m j = (step_at ts m ≡ Close k x l) × (j ≡ m + 1)
LoopEnd false ts k x l m j = j ≡ m

-- the steps from i up to j are those of a block at level k, with d open loops around it, whose first line is l
abbrev pub Holds : (ℕ → Bool) → List Step → ℕ → ℕ → ℕ → ℕ → ℕ → Code → Type 0
Holds covered ts k d l i j stop = i ≡ j
Holds covered ts k d l i j (work t o a b r) = (step_at ts i ≡ Work k t o a b) × Holds covered ts k d (l + 1) (i + 1) j r
Holds covered ts k d l i j (literal t n r) = (step_at ts i ≡ Literal k t n) × Holds covered ts k d (l + 1) (i + 1) j r
Holds covered ts k d l i j (choose x p q r) =
    let b = covered x in
    let own = level_in b k in
    let else = l + 1 + size_of p in
    let end = else + 1 + size_of q in
    (m : ℕ) × (e : ℕ) × (step_at ts i ≡ if_head b own x (m + 1)) × Holds covered ts own d (l + 1) (i + 1) m p × (step_at ts m ≡ if_middle b own e) × Holds covered ts own d (else + 1) (m + 1) e q × Holds covered ts k d (end + 1) e j r
Holds covered ts k d l i j (repeat x n p r) =
    let b = loop_covered covered k x in
    let own = level_in b k in
    let end = l + 1 + size_of p in
    (m : ℕ) × (e : ℕ) × (step_at ts i ≡ loop_head b own d) × (step_at ts (i + 1) ≡ loop_test b own d x n (m + 1) l) × Holds covered ts own (loops_in b d) (l + 1) (i + 2) m p × (step_at ts m ≡ loop_back b own n (i + 1)) × LoopEnd b ts own x l (m + 1) e × Holds covered ts k d (end + 1) e j r

-- Converting n lines made the steps us of the steps ts: theirs stand from `at` up to r, and the others are as they were.
pub record Written (n : ℕ) (ts us : List Step) (at r : ℕ) : Type 0 where
  pub below : (x : ℕ) → x < at → step_at us x ≡ step_at ts x
  pub above : (x : ℕ) → r ≤ x → step_at us x ≡ step_at ts x
  pub long : length us ≡ length ts
  pub least : at ≤ r
  pub most : r ≤ at + 2 * n

-- the block was converted: the steps are those of its code
pub record Converted (covered : ℕ → Bool) (b : Block) (k d : ℕ) (ts us : List Step) (at r : ℕ) : Type 0 where
  pub written : Written (b.to - b.from) ts us at r
  pub holds : (c : Code) → HasCode b c → Holds covered us k d b.from at r c

-- the construct was converted, whatever its first line i is
pub record ConvertedOne (covered : ℕ → Bool) (x : Construct) (k d : ℕ) (ts us : List Step) (at r : ℕ) : Type 0 where
  pub written : Written (lines_in x) ts us at r
  pub holds : (xs : List Line) (i j : ℕ) → Lies xs i x j → (c : Code) → Leads x c stop → Holds covered us k d i at r c
