-- The laws of a field hold for arithmetic modulo p. This is a law with its proof, beside the definitions since a law of an
-- impl may cite a file of specs alone.
--   inverts p n   each number below n is 0 or has its inverse modulo p in the list
--   mod_field p   where that is so below p, arithmetic modulo p has the laws of a field
use Rattle.std.proofs.Common.{◌≡◌, ◌≢◌, ℕ, zero, suc, ◌+◌, ◌*◌, ◌-◌, ◌/◌, ◌<◌, ◌%◌, Bool, true, ◌||◌, ◌&&◌, ◌==◌, arith, ap, sym, ◌∙◌}
use Rattle.std.specs.Prelude.{slice_index}
use Rattle.std.proofs.Math.Nat.{mod-add-mod, add-mod-mod, mod-add-div, add-mul-mod_self_left, mod-eq_of_lt, mod_self}
use Rattle.std.proofs.lemmas.Nat.{mod_below}
use native.Mathlib.Decide.{dec_lt}
use Prim.{yes, no}
use Rattle.std.proofs.lemmas.Bool.Decides.{nat_tests}
use Rattle.small_field.specs.Field.{IsField}
use Rattle.small_field.specs.Prime.{inverses, inverse_mod, mod_ops}

abbrev pub inverts : ℕ → ℕ → Bool
inverts p zero = true
inverts p (suc n) = (n == 0 || (n * inverse_mod p n) % p == 1) && inverts p n

mod-mul-mod : (a b m : ℕ) → ((a % m) * b) % m ≡ (a * b) % m
mod-mul-mod a b m =
    let e : a * b ≡ (a % m) * b + m * ((a / m) * b) = omega (arith, ap (λ n. n * b) (mod-add-div a m)) in
    sym (ap (λ n. n % m) e ∙ add-mul-mod_self_left ((a % m) * b) m ((a / m) * b))

mul-mod-mod : (a b m : ℕ) → (a * (b % m)) % m ≡ (a * b) % m
mul-mod-mod a b m =
    let c : a * (b % m) ≡ (b % m) * a = omega arith in
    let d : b * a ≡ a * b = omega arith in
    ap (λ n. n % m) c ∙ (mod-mul-mod b a m ∙ ap (λ n. n % m) d)

inverts_at : (p n x : ℕ) → inverts p n ≡ true → x < n → x ≢ 0 → (x * inverse_mod p x) % p ≡ 1
inverts_at p zero x h lt ne = absurd (omega arith)
inverts_at p (suc n) x h lt ne =
    let parts : (((n == 0) || ((n * inverse_mod p n) % p == 1)) ≡ true) × (inverts p n ≡ true) = grind (arith, nat_tests) in
    elim (dec_lt x n) [
      | yes l ↦ inverts_at p n x parts.1 l ne
      | no m ↦
          let same : x ≡ n = omega arith in
          let t : ((n == 0) || ((n * inverse_mod p n) % p == 1)) ≡ true = parts.0 in
          grind (arith, nat_tests)
    ]

pub mod_field : (p : ℕ) → 1 < p → inverts p p ≡ true → IsField (mod_ops p)
mod_field p large works =
    let pos : 0 < p = omega arith in
    record {
      one_below = large;
      add_below = λ x y. mod_below (x + y) p pos;
      mul_below = λ x y. mod_below (x * y) p pos;
      neg_below = λ x. mod_below (p - x % p) p pos;
      inv_below = λ x. mod_below (slice_index (inverses p) x) p pos;
      add_assoc = λ x y z. mod-add-mod (x + y) p z ∙ (ap (λ n. n % p) (omega arith) ∙ sym (add-mod-mod x (y + z) p));
      add_comm = λ x y. ap (λ n. n % p) (omega arith);
      mul_assoc = λ x y z. mod-mul-mod (x * y) z p ∙ (ap (λ n. n % p) (omega arith) ∙ sym (mul-mod-mod x (y * z) p));
      mul_comm = λ x y. ap (λ n. n % p) (omega arith);
      mul_add = λ x y z.
          mul-mod-mod x (y + z) p ∙ (ap (λ n. n % p) (omega arith) ∙ (sym (mod-add-mod (x * y) p (x * z)) ∙ sym (add-mod-mod ((x * y) % p) (x * z) p)));
      add_neg = λ x.
          let low : x % p < p = mod_below x p pos in
          add-mod-mod x (p - x % p) p ∙ (sym (mod-add-mod x p (p - x % p)) ∙ (ap (λ n. n % p) (omega arith) ∙ mod_self p));
      zero_add = λ x h. ap (λ n. n % p) (omega arith) ∙ mod-eq_of_lt h;
      one_mul = λ x h. ap (λ n. n % p) (omega arith) ∙ mod-eq_of_lt h;
      mul_inv = λ x h ne. inverts_at p p x works h ne;
    }
