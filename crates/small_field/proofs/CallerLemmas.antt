-- What other crates may cite of the proofs here. Each lemma takes the arithmetic k of a field, and that it has the laws of
-- a field, before its own arguments.

-- 0 is an element; 0 added on the right changes nothing
pub use Rattle.small_field.proofs.Laws.{zero_below, add_zero}
-- a product with 0 is 0, on the right and on the left; where a product is 0 and a factor is not, the other one is
pub use Rattle.small_field.proofs.Laws.{mul_zero, zero_mul, factor_zero}
-- (a + b) + (c + d) is (a + c) + (b + d); a sum is multiplied from the right; what is added on both sides goes
pub use Rattle.small_field.proofs.Laws.{add_swap, add_mul, add_cancel}
-- what gives 0 with x is its negative; the negative of 0, of a sum, and of a negative
pub use Rattle.small_field.proofs.Laws.{neg_unique, neg_zero, neg_add, neg_neg}
-- a product with a negative, on the right and on the left
pub use Rattle.small_field.proofs.Laws.{mul_neg, neg_mul}
-- what holds for each modulus in the list holds for each that passes the test; the laws of the fields that there are
pub use Rattle.small_field.proofs.SmallFields.{each_modulus, small_fields}
