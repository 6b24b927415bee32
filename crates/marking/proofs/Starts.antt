-- The own marks of the marked cells, by their places in the list.
use Rattle.std.proofs.Common.{ℕ, zero, suc, ◌+◌, ◌<◌, List, [], ◌∷◌, length, get_or, arith}
use Rattle.sheet.specs.Layout.{Rising}
use Rattle.marking.specs.Rules.{AtLeast, Owns}
use Rattle.marking.proofs.Order.{Laws, above_trans}

pub rising_below : (n low : ℕ) (cs : List ℕ) → Rising n low cs → (k : ℕ) → k < length cs → get_or cs k 0 < n
rising_below n low [] h k l = absurd (omega arith)
rising_below n low (c ∷ cs) h zero l = h.1
rising_below n low (c ∷ cs) h (suc k) l = rising_below n (c + 1) cs h.2 k (omega arith)

module _ {M : Type 0} (join : M → M → M) (own : ℕ → M) where
  pub owns_at : (m : ℕ → M) (cs : List ℕ) → Owns join own m cs → (k : ℕ) → k < length cs → AtLeast join (m (get_or cs k 0)) (own (get_or cs k 0))
  owns_at m [] h k l = absurd (omega arith)
  owns_at m (c ∷ cs) h zero l = h.0
  owns_at m (c ∷ cs) h (suc k) l = owns_at m cs h.1 k (omega arith)

  pub owns_all : (m : ℕ → M) (cs : List ℕ) → ((k : ℕ) → k < length cs → AtLeast join (m (get_or cs k 0)) (own (get_or cs k 0))) → Owns join own m cs
  owns_all m [] h = tt
  owns_all m (c ∷ cs) h = (h 0 (omega arith), owns_all m cs (λ k l. h (suc k) (omega arith)))

  -- a marking that grows keeps the own marks
  pub owns_more : {none : M} {rank : M → ℕ} {height : ℕ} → Laws join none rank height →
      (m n : ℕ → M) → ((x : ℕ) → AtLeast join (n x) (m x)) → (cs : List ℕ) → Owns join own m cs → Owns join own n cs
  owns_more l m n up [] h = tt
  owns_more l m n up (c ∷ cs) h = (above_trans l (n c) (m c) (own c) (up c) h.0, owns_more l m n up cs h.1)
