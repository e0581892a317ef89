-- Loops that go over two rows, sixteen places at a time and then one by one.
use Rattle.std.proofs.Common.{◌≡◌, ℕ, suc, ◌+◌, ◌-◌, ◌*◌, ◌%◌, ◌<◌, ◌≤◌, List, [], ◌∷◌, All, length, map, get_or, set, get_or-set_same, get_or-set_other, inl, inr, zero-add, refl, ap, ap₂, sym, ◌∙◌, subst, arith}
use native.Mathlib.Decide.{dec_lt}
use Prim.{yes, no}
use Rattle.std.proofs.lemmas.Bool.{cases_eq}
use Rattle.std.specs.List.{range_with_len}
use Rattle.std.proofs.lemmas.Grind.{same_number_lists}
use Rattle.std.proofs.lemmas.List.{get_or-map, length-map}
use Rattle.std.proofs.lemmas.List.FromFn.{get_or-range_with_len}
use Rattle.std.proofs.lemmas.Nat.{mod_below}
use Rattle.std.proofs.lemmas.Simd.{get_or-zip2, length-zip2}
use Rattle.std.proofs.Math.Nat.{add-mod-mod}
use Rattle.lane_rows.specs.Lanes.{zip2, added, multiples_of, replaced, scaled}
use Rattle.lane_rows.specs.Vectors.{AreBelow, IsStepped, IsSteppedTo}

-- sixteen places more
pub more_steps : (f : ℕ → ℕ → ℕ) (old ys mid new : List ℕ) (at next : ℕ) → next ≡ at + 16 → IsSteppedTo f old ys mid at → IsStepped f mid ys new at → IsSteppedTo f old ys new next
more_steps f old ys mid new at next e h s = record {
  done = λ k lt.
      elim (dec_lt k at) [
        | yes l ↦ s.before k l ∙ h.done k l
        | no m ↦
            let j : at + (k - at) ≡ k = omega arith in
            let is : get_or new k 0 ≡ f (get_or mid k 0) (get_or ys k 0) = subst (λ i. get_or new i 0 ≡ f (get_or mid i 0) (get_or ys i 0)) j (s.here (k - at) (omega arith)) in
            is ∙ ap (λ x. f x (get_or ys k 0)) (h.rest k (omega arith))
      ];
  rest = λ k le. s.after k (omega arith) ∙ h.rest k (omega arith);
}

-- one place more
pub one_more : (f : ℕ → ℕ → ℕ) (old ys mid : List ℕ) (i x : ℕ) → i < length mid → x ≡ f (get_or mid i 0) (get_or ys i 0) → IsSteppedTo f old ys mid i → IsSteppedTo f old ys (set mid i x) (i + 1)
one_more f old ys mid i x inside is h = record {
  done = λ k lt.
      elim (cases_eq k i) [
        | inl e ↦ subst (λ j. get_or (set mid i x) j 0 ≡ f (get_or old j 0) (get_or ys j 0)) (sym e) (get_or-set_same mid i x 0 inside ∙ is ∙ ap (λ v. f v (get_or ys i 0)) (h.rest i (omega arith)))
        | inr ne ↦ get_or-set_other mid i k x 0 ne ∙ h.done k (omega arith)
      ];
  rest = λ k le. get_or-set_other mid i k x 0 (omega arith) ∙ h.rest k (omega arith);
}

-- all places
pub all_steps : (f : ℕ → ℕ → ℕ) (old ys new : List ℕ) (n : ℕ) → length new ≡ length old → length ys ≡ length old → length old ≤ n → IsSteppedTo f old ys new n → new ≡ zip2 f old ys
all_steps f old ys new n long same le h =
    same_number_lists new (zip2 f old ys) (long ∙ sym (length-zip2 f old ys (sym same)))
    (λ k lt. h.done k (omega arith) ∙ sym (get_or-zip2 f old ys k 0 0 0 (omega arith) (omega arith)))

-- two functions that agree on the numbers of the second row
pub zip2-agree : (f g : ℕ → ℕ → ℕ) (n : ℕ) (xs ys : List ℕ) → All (λ y. y < n) ys → ((x y : ℕ) → y < n → f x y ≡ g x y) → zip2 f xs ys ≡ zip2 g xs ys
zip2-agree f g n [] ys small same = refl
zip2-agree f g n (x ∷ xs) [] small same = refl
zip2-agree f g n (x ∷ xs) (y ∷ ys) small same =
    ap₂ (λ a b. a ∷ b) (same x y (small 0 0 (omega arith))) (zip2-agree f g n xs ys (λ i d lt. small (suc i) d (omega arith)) same)

-- the table of multiples
pub multiple_at : (p factor y : ℕ) → y < 16 → get_or (multiples_of p factor) y 0 ≡ (factor * y) % p
multiple_at p factor y lt =
    get_or-map (λ i. (factor * i) % p) (range_with_len 0 16) y 0 0 lt ∙ (ap (λ i. (factor * i) % p) (get_or-range_with_len 0 16 y 0 lt) ∙ ap (λ i. (factor * i) % p) (zero-add y))

pub multiples_below : (p factor : ℕ) → 0 < p → AreBelow p (multiples_of p factor)
multiples_below p factor pos k lt = subst (λ v. v < p) (sym (multiple_at p factor k lt)) (mod_below (factor * k) p pos)

pub added-by_table : (p factor : ℕ) (xs ys : List ℕ) → p ≤ 16 → All (λ y. y < p) ys → zip2 (λ x y. (x + get_or (multiples_of p factor) y 0) % p) xs ys ≡ added p factor xs ys
added-by_table p factor xs ys le small =
    zip2-agree (λ x y. (x + get_or (multiples_of p factor) y 0) % p) (λ x y. (x + factor * y) % p) p xs ys small
    (λ x y lt. ap (λ v. (x + v) % p) (multiple_at p factor y (omega arith)) ∙ add-mod-mod x (factor * y) p)

-- the same of one row
pub replaced_steps : (table old new : List ℕ) (n : ℕ) → length new ≡ length old → length old ≤ n → IsSteppedTo (λ x y. get_or table x 0) old old new n → new ≡ replaced table old
replaced_steps table old new n long le h =
    same_number_lists new (replaced table old) (long ∙ sym (length-map old (λ x. get_or table x 0)))
    (λ k lt. h.done k (omega arith) ∙ sym (get_or-map (λ x. get_or table x 0) old k 0 0 (omega arith)))

pub map-agree : (f g : ℕ → ℕ) (n : ℕ) (xs : List ℕ) → All (λ x. x < n) xs → ((x : ℕ) → x < n → f x ≡ g x) → map f xs ≡ map g xs
map-agree f g n [] small same = refl
map-agree f g n (x ∷ xs) small same = ap₂ (λ a b. a ∷ b) (same x (small 0 0 (omega arith))) (map-agree f g n xs (λ i d lt. small (suc i) d (omega arith)) same)

pub replaced-multiples : (p factor : ℕ) (xs : List ℕ) → p ≤ 16 → All (λ x. x < p) xs → replaced (multiples_of p factor) xs ≡ scaled p factor xs
replaced-multiples p factor xs le small =
    map-agree (λ x. get_or (multiples_of p factor) x 0) (λ x. (factor * x) % p) p xs small (λ x lt. multiple_at p factor x (omega arith))
