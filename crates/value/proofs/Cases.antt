-- What holds at each bit, and at each digit from 1 to 9.
use Rattle.std.proofs.Common.{ℕ, zero, suc, ◌<◌, ◌≤◌, arith}

pub each_bits : (P : ℕ → ℕ → Type 0) → P 0 0 → P 0 1 → P 1 0 → P 1 1 → (x y : ℕ) → x < 2 → y < 2 → P x y
each_bits P p₀₀ p₀₁ p₁₀ p₁₁ zero zero hx hy = p₀₀
each_bits P p₀₀ p₀₁ p₁₀ p₁₁ zero (suc zero) hx hy = p₀₁
each_bits P p₀₀ p₀₁ p₁₀ p₁₁ (suc zero) zero hx hy = p₁₀
each_bits P p₀₀ p₀₁ p₁₀ p₁₁ (suc zero) (suc zero) hx hy = p₁₁
each_bits P p₀₀ p₀₁ p₁₀ p₁₁ zero (suc (suc y)) hx hy = absurd (omega arith)
each_bits P p₀₀ p₀₁ p₁₀ p₁₁ (suc zero) (suc (suc y)) hx hy = absurd (omega arith)
each_bits P p₀₀ p₀₁ p₁₀ p₁₁ (suc (suc x)) y hx hy = absurd (omega arith)

pub each_digit : (P : ℕ → Type 0) → P 1 → P 2 → P 3 → P 4 → P 5 → P 6 → P 7 → P 8 → P 9
    → (d : ℕ) → 1 ≤ d → d ≤ 9 → P d
each_digit P p₁ p₂ p₃ p₄ p₅ p₆ p₇ p₈ p₉ zero lo hi = absurd (omega arith)
each_digit P p₁ p₂ p₃ p₄ p₅ p₆ p₇ p₈ p₉ (suc zero) lo hi = p₁
each_digit P p₁ p₂ p₃ p₄ p₅ p₆ p₇ p₈ p₉ (suc (suc zero)) lo hi = p₂
each_digit P p₁ p₂ p₃ p₄ p₅ p₆ p₇ p₈ p₉ (suc (suc (suc zero))) lo hi = p₃
each_digit P p₁ p₂ p₃ p₄ p₅ p₆ p₇ p₈ p₉ (suc (suc (suc (suc zero)))) lo hi = p₄
each_digit P p₁ p₂ p₃ p₄ p₅ p₆ p₇ p₈ p₉ (suc (suc (suc (suc (suc zero))))) lo hi = p₅
each_digit P p₁ p₂ p₃ p₄ p₅ p₆ p₇ p₈ p₉ (suc (suc (suc (suc (suc (suc zero)))))) lo hi = p₆
each_digit P p₁ p₂ p₃ p₄ p₅ p₆ p₇ p₈ p₉ (suc (suc (suc (suc (suc (suc (suc zero))))))) lo hi = p₇
each_digit P p₁ p₂ p₃ p₄ p₅ p₆ p₇ p₈ p₉ (suc (suc (suc (suc (suc (suc (suc (suc zero)))))))) lo hi = p₈
each_digit P p₁ p₂ p₃ p₄ p₅ p₆ p₇ p₈ p₉ (suc (suc (suc (suc (suc (suc (suc (suc (suc zero))))))))) lo hi = p₉
each_digit P p₁ p₂ p₃ p₄ p₅ p₆ p₇ p₈ p₉ (suc (suc (suc (suc (suc (suc (suc (suc (suc (suc d)))))))))) lo hi = absurd (omega arith)
