-- What each arm of the conversion leaves.
use Rattle.std.proofs.Common.{◌≡◌, ℕ, ◌+◌, ◌*◌, ◌<◌, ◌≤◌, Bool, true, false, ◌≢◌, List, length, set, sym, refl, ap, ◌∙◌, subst, arith}
use Rattle.std.proofs.lemmas.List.{get_or-set_same, get_or-set_other, length-set}
use Rattle.sheet.specs.Blocks.{HasCode, Heads, lines_in}
use Rattle.sheet.specs.Code.{Code, stop, repeat, size_of}
use Rattle.sheet.specs.declared.block.Block.{Block}
use Rattle.sheet.specs.declared.block.Construct.{Construct}
use Rattle.sheet.specs.declared.block.Construct.TheVariants.{If, Loop}
use Rattle.sheet.proofs.Heads.{spans_size}
use Rattle.onepath.specs.Cover.{loop_covered, level_in, loops_in}
use Rattle.onepath.specs.Own.{if_head, if_middle, loop_head, loop_test, loop_back}
use Rattle.onepath.specs.Put.{form_of, put_if, past_end, put_loop}
use Rattle.onepath.specs.Holds.{step_at, Holds, LoopEnd, Converted, ConvertedOne}
use Rattle.onepath.specs.declared.steps.Step.{Step}
use Rattle.onepath.specs.declared.steps.Step.TheVariants.{Close}
use Rattle.onepath.proofs.Kept.{Kept, holds_kept}
use Rattle.onepath.proofs.Parts.{cut, lies_lines, lies_size, holds_follow}

-- a write at i, read there and elsewhere
wrote : (ts : List Step) (i : ℕ) (s : Step) → i < length ts → step_at (set ts i s) i ≡ s
wrote ts i s l = get_or-set_same ts i s _ l

other : (ts : List Step) (i : ℕ) (s : Step) (x : ℕ) → x ≢ i → step_at (set ts i s) x ≡ step_at ts x
other ts i s x n = get_or-set_other ts i x s _ n

module _ (cov : ℕ → Bool) (k d : ℕ) where
  -- a block that is at its end
  pub none : (b : Block) (ts : List Step) (at : ℕ) → ((c : Code) → HasCode b c → c ≡ stop) → Converted cov b k d ts ts at at
  none b ts at e =
      record {
        written = record { below = λ x l. refl; above = λ x l. refl; long = refl; least = omega arith; most = omega arith };
        holds = λ c h. subst (λ y. Holds cov ts k d b.from at at y) (sym (e c h)) refl;
      }

  -- the first construct of a block, and then the rest of it
  pub joined : (b e : Block) (x : Construct) → Heads b x e → (ts us vs : List Step) (at m r : ℕ) →
      ConvertedOne cov x k d ts us at m → Converted cov e k d us vs m r → Converted cov b k d ts vs at r
  joined b e x h ts us vs at m r d₁ d₂ =
      let w₁ = d₁.written in
      let w₂ = d₂.written in
      let a₁ = w₁.least in
      let a₂ = w₂.least in
      let lines = lies_lines b.lines.now b.from e.from x h.lies in
      record {
        written = record {
          below = λ y l. w₂.below y (omega arith) ∙ w₁.below y l;
          above = λ y l. w₂.above y l ∙ w₁.above y (omega arith);
          long = w₂.long ∙ w₁.long;
          least = omega arith;
          most = omega (arith, w₁.most, w₂.most, lines, h.to, e.ordered);
        };
        holds = λ c g.
            let v = h.begins c g in
            let q = cut x c v.0 v.1 in
            let h₁ = holds_kept cov us vs k d b.from at m q.one (λ y f g. w₂.below y g) (d₁.holds b.lines.now b.from e.from h.lies q.one q.begins) in
            let size = lies_size b.lines.now b.from e.from x h.lies q.one q.begins in
            let h₂ = subst (λ y. Holds cov vs k d y m r v.0) size (d₂.holds v.0 v.2) in
            subst (λ y. Holds cov vs k d b.from at r y) (sym q.is) (holds_follow cov vs k d b.from at m r q.one v.0 h₁ h₂);
      }

-- a block's conversion at the level and the number of loops that the rules give
within : (cov : ℕ → Bool) (b : Block) (k k' d d' : ℕ) (ts us : List Step) (at r : ℕ) → k ≡ k' → d ≡ d' →
    Converted cov b k d ts us at r → Converted cov b k' d' ts us at r
within cov b k k' d d' ts us at r e f h = subst (λ y. Converted cov b k' y ts us at r) f (subst (λ y. Converted cov b y d ts us at r) e h)

-- what is put, by whether the construct is covered: k is its own level, d its counter
abbrev by_if : Bool → ℕ → ℕ → ℕ → ℕ → ℕ → List Step → List Step
by_if b k x i m j ts = set (set ts i (if_head b k x (m + 1))) m (if_middle b k j)

abbrev by_end : Bool → ℕ → ℕ → ℕ → ℕ → List Step → List Step
by_end true k x l m ts = set ts m (Close k x l)
by_end false k x l m ts = ts

abbrev past : Bool → ℕ → ℕ
past true m = m + 1
past false m = m

abbrev by_loop : Bool → ℕ → ℕ → ℕ → ℕ → ℕ → ℕ → ℕ → List Step → List Step
by_loop b k d x n l i m ts = by_end b k x l (m + 1) (set (set (set ts i (loop_head b k d)) (i + 1) (loop_test b k d x n (m + 1) l)) m (loop_back b k n (i + 1)))

puts_if : (b : Bool) (k d x i m j : ℕ) (ts : List Step) → put_if (form_of b k d) x i m j ts ≡ by_if b k x i m j ts
puts_if true k d x i m j ts = refl
puts_if false k d x i m j ts = refl

puts_loop : (b : Bool) (k d x n l i m : ℕ) (ts : List Step) → put_loop (form_of b k d) x n l i m ts ≡ by_loop b k d x n l i m ts
puts_loop true k d x n l i m ts = refl
puts_loop false k d x n l i m ts = refl

puts_past : (b : Bool) (k d m : ℕ) → past_end (form_of b k d) m ≡ past b m
puts_past true k d m = refl
puts_past false k d m = refl

-- an if: both blocks are converted, and then its own steps are written
if_put : (cov : ℕ → Bool) (k d : ℕ) (ts us vs : List Step) (at m r x : ℕ) (p q : Block) → at + 2 * lines_in (If x p q) ≤ length ts →
    Converted cov p (level_in (cov x) k) d ts us (at + 1) m → Converted cov q (level_in (cov x) k) d us vs (m + 1) r →
    ConvertedOne cov (If x p q) k d ts (by_if (cov x) (level_in (cov x) k) x at m r vs) at r
if_put cov k d ts us vs at m r x p q room d₁ d₂ =
    let own = level_in (cov x) k in
    let s₁ = if_head (cov x) own x (m + 1) in
    let s₂ = if_middle (cov x) own r in
    let ws = set vs at s₁ in
    let zs = set ws m s₂ in
    let w₁ = d₁.written in
    let w₂ = d₂.written in
    let lv : length vs ≡ length ts = w₂.long ∙ w₁.long in
    let lw : length ws ≡ length ts = length-set vs at s₁ ∙ lv in
    let keep : (y : ℕ) → y ≢ at → y ≢ m → step_at zs y ≡ step_at vs y = λ y n₁ n₂. other ws m s₂ y n₂ ∙ other vs at s₁ y n₁ in
    let a₁ = w₁.least in
    let a₂ = w₂.least in
    let b₁ = w₁.most in
    let b₂ = w₂.most in
    record {
      written = record {
        below = λ y l. keep y (omega arith) (omega arith) ∙ w₂.below y (omega arith) ∙ w₁.below y (omega arith);
        above = λ y l. keep y (omega arith) (omega arith) ∙ w₂.above y l ∙ w₁.above y (omega arith);
        long = length-set ws m s₂ ∙ lw;
        least = omega arith;
        most = omega arith;
      };
      holds = λ xs i j w c e.
          let f = e.0 in
          let s = e.1 in
          let one = spans_size p.lines.now p.from p.to f e.2 in
          let first : p.from ≡ i + 1 = w.1 in
          let second : q.from ≡ i + 1 + size_of f + 1 = omega (arith, w.1, w.3, one) in
          let h₁ = subst (λ y. Holds cov us own d y (at + 1) m f) first (d₁.holds f e.2) in
          let h₂ = subst (λ y. Holds cov vs own d y (m + 1) r s) second (d₂.holds s e.3) in
          subst (λ y. Holds cov zs k d i at r y) (sym e.4) (
            m,
            r,
            other ws m s₂ at (omega arith) ∙ wrote vs at s₁ (omega (arith, lv)),
            holds_kept cov us zs own d (i + 1) (at + 1) m f (λ y f g. keep y (omega arith) (omega arith) ∙ w₂.below y (omega arith)) h₁,
            wrote ws m s₂ (omega (arith, lw)),
            holds_kept cov vs zs own d _ (m + 1) r s (λ y f g. keep y (omega arith) (omega arith)) h₂,
            refl,
          );
    }

-- the same, as the code has it: b is whether the if is covered
pub whole_if : (cov : ℕ → Bool) (k d : ℕ) (ts us vs zs : List Step) (at m r x : ℕ) (p q : Block) (b : Bool) (own loops : ℕ) → at + 2 * lines_in (If x p q) ≤ length ts →
    b ≡ cov x → own ≡ level_in b k → loops ≡ d →
    Converted cov p own loops ts us (at + 1) m → Converted cov q own loops us vs (m + 1) r →
    zs ≡ put_if (form_of b own d) x at m r vs → ConvertedOne cov (If x p q) k d ts zs at r
whole_if cov k d ts us vs zs at m r x p q b own loops room eb eo ed c₁ c₂ ez =
    let eo' : own ≡ level_in (cov x) k = eo ∙ ap (λ y. level_in y k) eb in
    let d₁ = within cov p own _ loops d ts us (at + 1) m eo' ed c₁ in
    let d₂ = within cov q own _ loops d us vs (m + 1) r eo' ed c₂ in
    let put = ez ∙ puts_if b own d x at m r vs ∙ ap (λ y. by_if y own x at m r vs) eb ∙ ap (λ y. by_if (cov x) y x at m r vs) eo' in
    subst (λ y. ConvertedOne cov (If x p q) k d ts y at r) (sym put) (if_put cov k d ts us vs at m r x p q room d₁ d₂)

-- writing a covered loop's last step leaves the other steps
pub record Ended (b : Bool) (ts us : List Step) (k x l m j : ℕ) : Type 0 where
  pub below : Kept ts us 0 m
  pub above : (y : ℕ) → j ≤ y → step_at us y ≡ step_at ts y
  pub long : length us ≡ length ts
  pub least : m ≤ j
  pub most : j ≤ m + 1
  pub end : LoopEnd b us k x l m j

end_put : (b : Bool) (ts : List Step) (k x l m : ℕ) → m < length ts → Ended b ts (by_end b k x l m ts) k x l m (past b m)
end_put true ts k x l m lt =
    record {
      below = λ y f g. other ts m (Close k x l) y (omega arith);
      above = λ y f. other ts m (Close k x l) y (omega arith);
      long = length-set ts m (Close k x l);
      least = omega arith;
      most = omega arith;
      end = (wrote ts m (Close k x l) lt, refl);
    }
end_put false ts k x l m lt = record { below = λ y f g. refl; above = λ y f. refl; long = refl; least = omega arith; most = omega arith; end = refl }

-- a loop: its block is converted, and then its own steps are written
loop_put : (cov : ℕ → Bool) (k d : ℕ) (ts us : List Step) (at m l x n : ℕ) (p : Block) → at + 2 * lines_in (Loop l x n p) ≤ length ts →
    Converted cov p (level_in (loop_covered cov k x) k) (loops_in (loop_covered cov k x) d) ts us (at + 2) m →
    ConvertedOne cov (Loop l x n p) k d ts (by_loop (loop_covered cov k x) (level_in (loop_covered cov k x) k) d x n l at m us) at (past (loop_covered cov k x) (m + 1))
loop_put cov k d ts us at m l x n p room d₁ =
    let b = loop_covered cov k x in
    let own = level_in b k in
    let s₁ = loop_head b own d in
    let s₂ = loop_test b own d x n (m + 1) l in
    let s₃ = loop_back b own n (at + 1) in
    let v₁ = set us at s₁ in
    let v₂ = set v₁ (at + 1) s₂ in
    let v₃ = set v₂ m s₃ in
    let zs = by_end b own x l (m + 1) v₃ in
    let r = past b (m + 1) in
    let w₁ = d₁.written in
    let a₁ = w₁.least in
    let b₁ = w₁.most in
    let n₀ = w₁.long in
    let n₁ : length v₁ ≡ length ts = length-set us at s₁ ∙ n₀ in
    let n₂ : length v₂ ≡ length ts = length-set v₁ (at + 1) s₂ ∙ n₁ in
    let n₃ : length v₃ ≡ length ts = length-set v₂ m s₃ ∙ n₂ in
    let en = end_put b v₃ own x l (m + 1) (omega (arith, n₃)) in
    let a₂ = en.least in
    let b₂ = en.most in
    let keep : (y : ℕ) → y ≢ m → y ≢ at → y ≢ at + 1 → step_at v₃ y ≡ step_at us y = λ y p q u. other v₂ m s₃ y p ∙ other v₁ (at + 1) s₂ y u ∙ other us at s₁ y q in
    record {
      written = record {
        below = λ y g. en.below y (omega arith) (omega arith) ∙ keep y (omega arith) (omega arith) (omega arith) ∙ w₁.below y (omega arith);
        above = λ y g. en.above y g ∙ keep y (omega arith) (omega arith) (omega arith) ∙ w₁.above y (omega arith);
        long = en.long ∙ n₃;
        least = omega arith;
        most = omega arith;
      };
      holds = λ xs i j w c e.
          let f = e.0 in
          let first : p.from ≡ l + 1 = omega (arith, w.0, w.2) in
          let h₁ = subst (λ y. Holds cov us own (loops_in b d) y (at + 2) m f) first (d₁.holds f e.1) in
          let whole : Holds cov zs k d l at r (repeat x n f stop) = (
            m,
            r,
            en.below at (omega arith) (omega arith) ∙ other v₂ m s₃ at (omega arith) ∙ other v₁ (at + 1) s₂ at (omega arith) ∙ wrote us at s₁ (omega arith),
            en.below (at + 1) (omega arith) (omega arith) ∙ other v₂ m s₃ (at + 1) (omega arith) ∙ wrote v₁ (at + 1) s₂ (omega arith),
            holds_kept cov us zs own (loops_in b d) (l + 1) (at + 2) m f (λ y f g. en.below y (omega arith) (omega arith) ∙ keep y (omega arith) (omega arith) (omega arith)) h₁,
            en.below m (omega arith) (omega arith) ∙ wrote v₂ m s₃ (omega arith),
            en.end,
            refl,
          ) in
          subst (λ y. Holds cov zs k d y at r c) w.0 (subst (λ y. Holds cov zs k d l at r y) (sym e.2) whole);
    }

-- the same, as the code has it: b is whether the loop is covered
pub whole_loop : (cov : ℕ → Bool) (k d : ℕ) (ts us zs : List Step) (at m r l x n : ℕ) (p : Block) (b : Bool) (own loops : ℕ) → at + 2 * lines_in (Loop l x n p) ≤ length ts →
    b ≡ loop_covered cov k x → own ≡ level_in b k → loops ≡ loops_in b d →
    Converted cov p own loops ts us (at + 2) m →
    zs ≡ put_loop (form_of b own d) x n l at m us → r ≡ past_end (form_of b own d) (m + 1) → ConvertedOne cov (Loop l x n p) k d ts zs at r
whole_loop cov k d ts us zs at m r l x n p b own loops room eb eo ed c₁ ez er =
    let b' = loop_covered cov k x in
    let eo' : own ≡ level_in b' k = eo ∙ ap (λ y. level_in y k) eb in
    let d₁ = within cov p own _ loops _ ts us (at + 2) m eo' (ed ∙ ap (λ y. loops_in y d) eb) c₁ in
    let put = ez ∙ puts_loop b own d x n l at m us ∙ ap (λ y. by_loop y own d x n l at m us) eb ∙ ap (λ y. by_loop b' y d x n l at m us) eo' in
    let end = er ∙ puts_past b own d (m + 1) ∙ ap (λ y. past y (m + 1)) eb in
    subst (λ y. ConvertedOne cov (Loop l x n p) k d ts zs at y) (sym end)
    (subst (λ y. ConvertedOne cov (Loop l x n p) k d ts y at (past b' (m + 1))) (sym put) (loop_put cov k d ts us at m l x n p room d₁))
