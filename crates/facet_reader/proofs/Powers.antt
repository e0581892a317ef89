-- Places: digits below 65536, the first one first.
use Rattle.std.proofs.Common.{◌≡◌, ◌<◌, ◌≤◌, ◌+◌, ◌*◌, ◌^◌, ℕ, zero, suc, ap, sym, ◌∙◌, arith}
use Rattle.std.proofs.Math.Nat.{pow-succ', pow-zero, mul-le-mul_left, mul-le-mul_right, mul_assoc}

abbrev pub power : ℕ → ℕ
power k = 65536 ^ k

pub power-next : (k : ℕ) → 65536 ^ suc k ≡ 65536 * 65536 ^ k
power-next k = pow-succ' 65536 k

pub power-some : (k : ℕ) → 1 ≤ 65536 ^ k
power-some zero = omega (arith, pow-zero 65536)
power-some (suc k) = omega (arith, power-next k, power-some k)

-- a digit more in front
front : (high x w p : ℕ) → high * (65536 * w) + (x * w + p) ≡ (high * 65536 + x) * w + p
front high x w p = grind arith

pub digit-front : (high x k p : ℕ) → high * 65536 ^ suc k + (x * 65536 ^ k + p) ≡ (high * 65536 + x) * 65536 ^ k + p
digit-front high x k p = ap (λ (w : ℕ). high * w + (x * 65536 ^ k + p)) (power-next k) ∙ front high x (65536 ^ k) p

pub room-front : (high x k : ℕ) → x < 65536 → (high + 1) * 65536 ^ suc k ≤ 18446744073709551616 → (high * 65536 + x + 1) * 65536 ^ k ≤ 18446744073709551616
room-front high x k l h =
    let a : high * 65536 + x + 1 ≤ (high + 1) * 65536 = omega (arith, l) in
    let b : (high * 65536 + x + 1) * 65536 ^ k ≤ (high + 1) * 65536 * 65536 ^ k = mul-le-mul_right (65536 ^ k) a in
    let c : (high + 1) * 65536 * 65536 ^ k ≡ (high + 1) * 65536 ^ suc k = mul_assoc (high + 1) 65536 (65536 ^ k) ∙ ap (λ (w : ℕ). (high + 1) * w) (sym (power-next k)) in
    omega (arith, b, c, h)

-- what has room is a number of 64 bits
pub room-fits : (high k : ℕ) → (high + 1) * 65536 ^ k ≤ 18446744073709551616 → high < 18446744073709551616
room-fits high k h =
    let b : (high + 1) * 1 ≤ (high + 1) * 65536 ^ k = mul-le-mul_left (high + 1) (power-some k) in
    omega (arith, b, h)

pub power-most : (k : ℕ) → k ≤ 4 → 1 * 65536 ^ k ≤ 18446744073709551616
power-most zero l = omega arith
power-most (suc zero) l = omega arith
power-most (suc (suc zero)) l = omega arith
power-most (suc (suc (suc zero))) l = omega arith
power-most (suc (suc (suc (suc zero)))) l = omega arith
power-most (suc (suc (suc (suc (suc k))))) l = absurd (omega arith)
