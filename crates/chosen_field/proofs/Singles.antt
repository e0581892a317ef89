-- The set of the facets that just one cell has, and its least.
use Rattle.std.proofs.Common.{◌≡◌, inl, inr, ℕ, ◌-◌, ◌<◌, ◌≤◌, List, [], ◌∷◌, length, get_or, true, eqb, nat_le, refl, ap, sym, ◌∙◌, arith, Some, None}
use Rattle.std.specs.List.{find, list_any}
use Rattle.std.specs.Ordering.{nat_cmp}
use Rattle.std.specs.BTreeSet.{BTreeSet, contains, IsLowerBound}
use Rattle.std.specs.BTreeMap.{is_at}
use Rattle.std.proofs.lemmas.Bool.{cases_lt, and_parts, leb-true, eqb-true, false_from_ne_true}
use Rattle.std.proofs.lemmas.List.{get_or_past}
use Rattle.std.proofs.lemmas.Map.Keys.{le_from_not_gt}
use Rattle.number_lists.specs.Words.{upto}
use Rattle.chosen_field.specs.Rests.{is_single, AreSingle}
use Rattle.chosen_field.proofs.Lists.{find-upto, find-upto_none}

-- such a facet is there
single-range : (shared : List ℕ) (f : ℕ) → is_single shared f ≡ true → (1 ≤ f) × (f ≤ length shared)
single-range shared f e =
    let parts = and_parts (nat_le 1 f) (eqb (get_or shared (f - 1) 0) 1) e in
    let low : 1 ≤ f = leb-true 1 f parts.0 in (
      low,
      elim (cases_lt (f - 1) (length shared)) [
        | inl l ↦ omega (arith, l, low)
        | inr l ↦ absurd (omega (arith, eqb-true (get_or shared (f - 1) 0) 1 parts.1, get_or_past shared (f - 1) 0 l))
      ],
    )

pub least_single : (shared : List ℕ) (free : BTreeSet ℕ) (f : ℕ) → AreSingle shared free → contains nat_cmp free f ≡ true → IsLowerBound nat_cmp free f → find (is_single shared) (upto (length shared)) ≡ Some f
least_single shared free f are member least =
    let e : is_single shared f ≡ true = sym (are f) ∙ member in
    let r = single-range shared f e in
    find-upto (is_single shared) (length shared) f r.0 r.1 e (λ k a l. false_from_ne_true (is_single shared k) (λ s. omega (arith, l, le_from_not_gt f k (least k (are k ∙ s)))))

pub none_single : (shared : List ℕ) (free : BTreeSet ℕ) → AreSingle shared free → free.keys ≡ [] → find (is_single shared) (upto (length shared)) ≡ None
none_single shared free are empty =
    find-upto_none (is_single shared) (length shared) (λ k a b. sym (are k) ∙ ap (λ (ks : List ℕ). list_any (is_at (nat_cmp k)) ks) empty)

pub no_keys : (xs : List ℕ) → (0 < length xs → ⊥) → xs ≡ []
no_keys [] h = refl
no_keys (x ∷ xs) h = absurd (h (omega arith))
