-- Blocks, and the constructs that they are made of.
use Rattle.std.specs.Prelude.{◌≡◌, ℕ, ◌+◌, ◌-◌, List, Some, None, Option}
use Rattle.sheet.specs.Code.{Code, stop, work, literal, choose, repeat}
use Rattle.sheet.specs.Spans.{Spans}
use Rattle.sheet.specs.declared.lines.Line.{Line}
use Rattle.sheet.specs.declared.block.Block.{Block}
use Rattle.sheet.specs.declared.block.Construct.{Construct}
use Rattle.sheet.specs.declared.block.Construct.TheVariants.{Work, Literal, If, Loop}

-- the lines of the block are the code's
abbrev pub HasCode : Block → Code → Type 0
HasCode b c = Spans b.lines.now b.from b.to c

-- Where a construct lies in the table xs whose first line is i: its blocks come between its lines, and j is the line
-- after it.
abbrev pub Lies : List Line → ℕ → Construct → ℕ → Type 0
Lies xs i (Work t o a b) j = j ≡ i + 1
Lies xs i (Literal t n) j = j ≡ i + 1
Lies xs i (If x p q) j = (p.lines.now ≡ xs) × (p.from ≡ i + 1) × (q.lines.now ≡ xs) × (q.from ≡ p.to + 1) × (j ≡ q.to + 1)
Lies xs i (Loop l x n p) j = (l ≡ i) × (p.lines.now ≡ xs) × (p.from ≡ i + 1) × (j ≡ p.to + 1)

-- how many lines the construct has
abbrev pub lines_in : Construct → ℕ
lines_in (Work t o a b) = 1
lines_in (Literal t n) = 1
lines_in (If x p q) = (p.to - p.from) + (q.to - q.from) + 3
lines_in (Loop l x n p) = (p.to - p.from) + 2

-- the code c is the construct and then the code r
abbrev pub Leads : Construct → Code → Code → Type 0
Leads (Work t o a b) c r = c ≡ work t o a b r
Leads (Literal t n) c r = c ≡ literal t n r
Leads (If x p q) c r = (f : Code) × (s : Code) × HasCode p f × HasCode q s × (c ≡ choose x f s r)
Leads (Loop l x n p) c r = (f : Code) × HasCode p f × (c ≡ repeat x n f r)

-- The block begins with the construct, and `rest` is what comes after it.
pub record Heads (b : Block) (x : Construct) (rest : Block) : Type 0 where
  pub lines : rest.lines.now ≡ b.lines.now
  pub to : rest.to ≡ b.to
  pub lies : Lies b.lines.now b.from x rest.from
  pub begins : (c : Code) → HasCode b c → (r : Code) × Leads x c r × HasCode rest r

-- What a block gives when it is asked for its next construct, and what is left of it then.
abbrev pub Gives : Block → Option Construct → Block → Type 0
Gives b None rest = (rest ≡ b) × ((c : Code) → HasCode b c → c ≡ stop)
Gives b (Some x) rest = Heads b x rest
