-- What a stretch of steps leaves alone in the registers, and what it reads there.
use Rattle.std.proofs.Common.{◌≡◌, ℕ, ◌+◌, ◌-◌, ◌<◌, ◌≤◌, Bool, ◌||◌, eqb, List, length, get_or, set, refl, ap, ◌∙◌, arith}
use Rattle.std.proofs.lemmas.List.{length-set, get_or-set_same, get_or-set_other}
use Rattle.std.proofs.lemmas.Bool.{ne_eqb}
use Rattle.run.specs.Machine.{no_level, level_at, flag_at, guard_at, counter_at, loop_at, put_level, looped, counted_on}
use Rattle.run.specs.declared.registers.Level.{Level}
use Rattle.run.specs.declared.registers.Registers.{Registers}

-- the registers have a place for each level and each open loop
pub record Sized (r : Registers) : Type 0 where
  pub levels : length r.levels ≡ 7
  pub loops : length r.loops ≡ 6

-- what a block at level k, with d open loops around it, leaves alone
pub record Kept (k d : ℕ) (r s : Registers) : Type 0 where
  pub level : (i : ℕ) → i ≤ k → level_at s i ≡ level_at r i
  pub loop : (i : ℕ) → i < d → loop_at s i ≡ loop_at r i
  pub sized : Sized r → Sized s

pub kept_all : {k d : ℕ} {r : Registers} → Kept k d r r
kept_all = record { level = λ i h. refl; loop = λ i h. refl; sized = λ z. z }

pub kept_both : {k d : ℕ} {r s t : Registers} → Kept k d r s → Kept k d s t → Kept k d r t
kept_both a b = record { level = λ i h. b.level i h ∙ a.level i h; loop = λ i h. b.loop i h ∙ a.loop i h; sized = λ z. b.sized (a.sized z) }

pub kept_less : {k d m e : ℕ} {r s : Registers} → k ≤ m → d ≤ e → Kept m e r s → Kept k d r s
kept_less p q a = record { level = λ i h. a.level i (omega arith); loop = λ i h. a.loop i (omega arith); sized = a.sized }

module _ {k d : ℕ} {r s : Registers} (a : Kept k d r s) (i : ℕ) (h : i ≤ k) where
  pub flag_kept : flag_at s i ≡ flag_at r i
  flag_kept = ap (λ x. x.flag) (a.level i h)

  pub guard_kept : guard_at s i ≡ guard_at r i
  guard_kept = ap (λ x. eqb i 0 || x.guard) (a.level i h)

  pub counter_kept : counter_at s i ≡ counter_at r i
  counter_kept = ap (λ x. x.passes) (a.level i h)

module _ {A : Type 0} (l : List A) (k : ℕ) (a d : A) where
  -- a write at k changes nothing below k
  set_above : (i : ℕ) → i < k → get_or (set l k a) i d ≡ get_or l i d
  set_above i h = get_or-set_other l k i a d (omega arith)

  set_long : (n : ℕ) → length l ≡ n → length (set l k a) ≡ n
  set_long n h = length-set l k a ∙ h

module _ {k d : ℕ} (r : Registers) where
  pub kept_put : (x : Level) → Kept k d r (put_level r (k + 1) x)
  kept_put x = record {
    level = λ i h. set_above r.levels (k + 1) x no_level i (omega arith);
    loop = λ i h. refl;
    sized = λ z. record { levels = set_long r.levels (k + 1) x no_level 7 z.levels; loops = z.loops };
  }

  pub kept_looped : (n : ℕ) → Kept k d r (looped r d n)
  kept_looped n = record {
    level = λ i h. refl;
    loop = λ i h. set_above r.loops d n 0 i h;
    sized = λ z. record { levels = z.levels; loops = set_long r.loops d n 0 6 z.loops };
  }

-- reading what was written
module _ (k : ℕ) (r : Registers) (low : k ≤ 5) (z : Sized r) where
  pub put_same : (x : Level) → level_at (put_level r (k + 1) x) (k + 1) ≡ x
  put_same x = get_or-set_same r.levels (k + 1) x no_level (omega arith)

  pub flag_same : (x : Level) → flag_at (put_level r (k + 1) x) (k + 1) ≡ x.flag
  flag_same x = ap (λ y. y.flag) (put_same x)

  pub guard_same : (x : Level) → guard_at (put_level r (k + 1) x) (k + 1) ≡ x.guard
  guard_same x = rw (ne_eqb (k + 1) 0 (omega arith)) (ap (λ y. y.guard) (put_same x))

  pub counter_same : (x : Level) → counter_at (put_level r (k + 1) x) (k + 1) ≡ x.passes
  counter_same x = ap (λ y. y.passes) (put_same x)

  pub loop_same : (n : ℕ) → loop_at (looped r k n) k ≡ n
  loop_same n = get_or-set_same r.loops k n 0 (omega arith)

-- the guard of the level around
pub guard_around : (r : Registers) (k : ℕ) (g : Bool) → guard_at r k ≡ g → guard_at r (k + 1 - 1) ≡ g
guard_around r k g e = let q : k + 1 - 1 ≡ k = omega arith in rw q e

-- a counter below its bound
pub one_more : (n m : ℕ) → n ≡ m → m < 255 → counted_on n ≡ m + 1
one_more n m e h = omega arith
