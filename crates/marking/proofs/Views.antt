-- What a block that is code over so many cells says by its first construct: which cells it names, and which blocks are
-- such code again.
use Rattle.std.proofs.Common.{ℕ, ◌-◌, ◌<◌, subst}
use Rattle.sheet.specs.Blocks.{Heads}
use Rattle.sheet.specs.Code.{Keeps}
use Rattle.sheet.specs.declared.block.Block.{Block}
use Rattle.sheet.specs.declared.block.Construct.TheVariants.{Work, Literal, If, Loop}
use Rattle.marking.specs.Spread.{Reads}

pub record ReadsWork (d : Block) (n t x y : ℕ) : Type 0 where
  pub target : t < n
  pub left : x < n
  pub right : y < n
  pub rest : Reads d n

pub record ReadsLiteral (d : Block) (n t : ℕ) : Type 0 where
  pub target : t < n
  pub rest : Reads d n

pub record ReadsIf (d : Block) (n x : ℕ) (p q : Block) : Type 0 where
  pub cell : x < n
  pub first : Reads p n
  pub second : Reads q n
  pub rest : Reads d n

pub record ReadsLoop (d : Block) (n x : ℕ) (p : Block) : Type 0 where
  pub cell : x < n
  pub body : Reads p n
  pub rest : Reads d n

module _ (b d : Block) (n : ℕ) (r : Reads b n) where
  pub reads_work : (t o x y : ℕ) → Heads b (Work t o x y) d → ReadsWork d n t x y
  reads_work t o x y h =
      let k = h.begins r.0 r.2 in
      let g = subst (Keeps n r.1) k.1 r.3 in
      record { target = g.0; left = g.2; right = g.3; rest = (k.0, r.1, k.2, g.4) }

  pub reads_literal : (t m : ℕ) → Heads b (Literal t m) d → ReadsLiteral d n t
  reads_literal t m h =
      let k = h.begins r.0 r.2 in
      let g = subst (Keeps n r.1) k.1 r.3 in
      record { target = g.0; rest = (k.0, r.1, k.2, g.2) }

  pub reads_if : (x : ℕ) (p q : Block) → Heads b (If x p q) d → ReadsIf d n x p q
  reads_if x p q h =
      let k = h.begins r.0 r.2 in
      let g = subst (Keeps n r.1) k.1.4 r.3 in
      record { cell = g.0; first = (k.1.0, r.1 - 1, k.1.2, g.2); second = (k.1.1, r.1 - 1, k.1.3, g.3); rest = (k.0, r.1, k.2, g.4) }

  pub reads_loop : (l x m : ℕ) (p : Block) → Heads b (Loop l x m p) d → ReadsLoop d n x p
  reads_loop l x m p h =
      let k = h.begins r.0 r.2 in
      let g = subst (Keeps n r.1) k.1.2 r.3 in
      record { cell = g.0; body = (k.1.0, r.1 - 1, k.1.1, g.4); rest = (k.0, r.1, k.2, g.5) }
