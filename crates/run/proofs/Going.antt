-- The branching run, construct by construct.
use Rattle.std.proofs.Common.{Ok, Err, Result, ◌≡◌, ℕ, suc, ◌+◌, Bool, true, false, List, sym, ap, ◌∙◌, arith}
use Rattle.sheet.specs.Blocks.{HasCode, Heads}
use Rattle.sheet.specs.Code.{Code, size_of}
use Rattle.sheet.specs.declared.block.Block.{Block}
use Rattle.sheet.specs.declared.block.Construct.TheVariants.{If, Loop}
use Rattle.sheet.proofs.Heads.{spans_size}
use Rattle.run.specs.Values.{Values, is_true}
use Rattle.std.specs.Result.{IsErrAnd, result_err}
use Rattle.run.specs.Branching.{Out, went, broke, after, passes, branching, out_of}

abbrev either : Bool → Out → Out → Out
either b x y = elim b [ true ↦ x | false ↦ y ]

-- the run that broke with this error
pub broke_on : (r : Result (Unit {0}) ℕ) (e : ℕ) (w : List ℕ) → IsErrAnd r (λ x. x ≡ e) → out_of (result_err r) w ≡ broke e w
broke_on (Ok x) e w h = absurd h
broke_on (Err x) e w h = ap (λ y. broke y w) h

-- A block that begins with a construct comes to what the construct comes to, and then to what is left.
module _ (v : Values) (b d : Block) (w : List ℕ) (c : Code) (holds : HasCode b c) where
  pub record Goes (o : Out) : Type 0 where
    pub rest : Code
    pub left : HasCode d rest
    pub is : branching v c b.from w ≡ after o (branching v rest d.from)

  module _ (x : ℕ) (p q : Block) (h : Heads b (If x p q) d) (o : Out) where
    pub after_first : is_true v w x ≡ true → ((f : Code) → HasCode p f → o ≡ branching v f p.from w) → Goes o
    after_first t g =
        let n = h.begins c holds in
        let f = n.1.0 in
        let s = n.1.1 in
        let r = n.0 in
        let one = spans_size p.lines.now p.from p.to f n.1.2 in
        let two = spans_size q.lines.now q.from q.to s n.1.3 in
        let start : b.from + 1 ≡ p.from = omega (arith, h.lies.1) in
        let past : b.from + 1 + size_of f + 1 + size_of s + 1 ≡ d.from = omega (arith, one, two, h.lies.1, h.lies.3, h.lies.4) in
        record {
          rest = r;
          left = n.2;
          is =
              ap (λ k. branching v k b.from w) n.1.4
              ∙ ap (λ y. after (either y (branching v f (b.from + 1) w) (branching v s (b.from + 1 + size_of f + 1) w)) (branching v r (b.from + 1 + size_of f + 1 + size_of s + 1))) t
              ∙ ap (λ k. after (branching v f k w) (branching v r (b.from + 1 + size_of f + 1 + size_of s + 1))) start
              ∙ ap (λ y. after y (branching v r (b.from + 1 + size_of f + 1 + size_of s + 1))) (sym (g f n.1.2))
              ∙ ap (λ k. after o (branching v r k)) past;
        }

    pub after_second : is_true v w x ≡ false → ((s : Code) → HasCode q s → o ≡ branching v s q.from w) → Goes o
    after_second t g =
        let n = h.begins c holds in
        let f = n.1.0 in
        let s = n.1.1 in
        let r = n.0 in
        let one = spans_size p.lines.now p.from p.to f n.1.2 in
        let two = spans_size q.lines.now q.from q.to s n.1.3 in
        let start : b.from + 1 + size_of f + 1 ≡ q.from = omega (arith, one, h.lies.1, h.lies.3) in
        let past : b.from + 1 + size_of f + 1 + size_of s + 1 ≡ d.from = omega (arith, one, two, h.lies.1, h.lies.3, h.lies.4) in
        record {
          rest = r;
          left = n.2;
          is =
              ap (λ k. branching v k b.from w) n.1.4
              ∙ ap (λ y. after (either y (branching v f (b.from + 1) w) (branching v s (b.from + 1 + size_of f + 1) w)) (branching v r (b.from + 1 + size_of f + 1 + size_of s + 1))) t
              ∙ ap (λ k. after (branching v s k w) (branching v r (b.from + 1 + size_of f + 1 + size_of s + 1))) start
              ∙ ap (λ y. after y (branching v r (b.from + 1 + size_of f + 1 + size_of s + 1))) (sym (g s n.1.3))
              ∙ ap (λ k. after o (branching v r k)) past;
        }

  pub after_loop : (l x n : ℕ) (p : Block) (h : Heads b (Loop l x n p) d) (o : Out) → ((f : Code) → HasCode p f → o ≡ passes v x l (branching v f p.from) n w) → Goes o
  after_loop l x n p h o g =
      let e = h.begins c holds in
      let f = e.1.0 in
      let r = e.0 in
      let one = spans_size p.lines.now p.from p.to f e.1.1 in
      let start : b.from + 1 ≡ p.from = omega (arith, h.lies.2) in
      let past : b.from + 1 + size_of f + 1 ≡ d.from = omega (arith, one, h.lies.2, h.lies.3) in
      record {
        rest = r;
        left = e.2;
        is =
            ap (λ k. branching v k b.from w) e.1.2
            ∙ ap (λ k. after (passes v x k (branching v f (b.from + 1)) n w) (branching v r (b.from + 1 + size_of f + 1))) (sym h.lies.0)
            ∙ ap (λ k. after (passes v x l (branching v f k) n w) (branching v r (b.from + 1 + size_of f + 1))) start
            ∙ ap (λ y. after y (branching v r (b.from + 1 + size_of f + 1))) (sym (g f e.1.1))
            ∙ ap (λ k. after o (branching v r k)) past;
      }

module _ (v : Values) (x l : ℕ) where
  -- the passes of a loop, n of them left, of which m after the next
  module _ (body : List ℕ → Out) (n m : ℕ) (more : n ≡ suc m) (w : List ℕ) where
    pass : (b : Bool) → is_true v w x ≡ b → passes v x l body n w ≡ either b (after (body w) (passes v x l body m)) (went w)
    pass b t = ap (λ k. passes v x l body k w) more ∙ ap (λ y. either y (after (body w) (passes v x l body m)) (went w)) t

    pub pass_ends : is_true v w x ≡ false → passes v x l body n w ≡ went w
    pass_ends t = pass false t

    pub pass_goes : (u : List ℕ) → is_true v w x ≡ true → went u ≡ body w → passes v x l body n w ≡ passes v x l body m u
    pass_goes u t h = pass true t ∙ ap (λ o. after o (passes v x l body m)) (sym h)

    pub pass_breaks : (h : ℕ) (u : List ℕ) → is_true v w x ≡ true → broke h u ≡ body w → passes v x l body n w ≡ broke h u
    pass_breaks h u t e = pass true t ∙ ap (λ o. after o (passes v x l body m)) (sym e)
