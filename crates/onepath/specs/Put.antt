-- The step table with a construct's own steps written into it: the first at i, and the one after its first block at m.
use Rattle.std.specs.Prelude.{ℕ, ◌+◌, Bool, true, false, List, slice_set}
use Rattle.onepath.specs.declared.constructs.Form.{Form}
use Rattle.onepath.specs.declared.constructs.Form.TheVariants.{Covered, Open}
use Rattle.onepath.specs.declared.steps.Step.{Step}
use Rattle.onepath.specs.declared.steps.Step.TheVariants.{Ask, Turn, Setout, Narrow, Again, Close, Branch, Jump, Enter, Test}

-- the form of a construct that is covered or not: its own level k, or its counter d
abbrev pub form_of : Bool → ℕ → ℕ → Form
form_of true k d = Covered k
form_of false k d = Open d

-- an if's, where j is the place after its second block
abbrev pub put_if : Form → ℕ → ℕ → ℕ → ℕ → List Step → List Step
put_if (Covered k) x i m j ts = slice_set (slice_set ts i (Ask k x)) m (Turn k)
put_if (Open d) x i m j ts = slice_set (slice_set ts i (Branch x (m + 1))) m (Jump j)

-- a loop's, on the cell x, with the bound n, of the line l
abbrev pub put_loop : Form → ℕ → ℕ → ℕ → ℕ → ℕ → List Step → List Step
put_loop (Covered k) x n l i m ts =
    slice_set (slice_set (slice_set (slice_set ts i (Setout k)) (i + 1) (Narrow k x)) m (Again k n (i + 1))) (m + 1) (Close k x l)
put_loop (Open d) x n l i m ts = slice_set (slice_set (slice_set ts i (Enter d)) (i + 1) (Test d x n (m + 1) l)) m (Jump (i + 1))

-- the place after a loop whose step back stands just before m: a covered loop has one step more
abbrev pub past_end : Form → ℕ → ℕ
past_end (Covered k) m = m + 1
past_end (Open d) m = m
