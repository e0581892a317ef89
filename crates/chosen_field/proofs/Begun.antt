-- Flags and counts when nothing has gone.
use Rattle.std.proofs.Common.{◌≡◌, ◌≢◌, inl, inr, ℕ, zero, suc, ◌+◌, ◌-◌, ◌<◌, ◌≤◌, List, length, get_or, set, Bool, true, ap, sym, ◌∙◌, subst, arith, filter, All, Contains}
use Rattle.std.specs.List.Sorted.{IsStrictlyIncreasing}
use Rattle.std.proofs.lemmas.Bool.{cases_eq, cases_order, and_parts}
use Rattle.std.proofs.lemmas.List.{get_or-set_same, get_or-set_other}
use Rattle.std.proofs.lemmas.List.Elements.{All-filter}
use Rattle.number_lists.specs.Words.{upto, holds}
use Rattle.face_poset.specs.Poset.{count, cell_count, cofaces_of}
use Rattle.number_lists.proofs.CallerLemmas.{length-filter-le, holds-filter, All-upto, length-upto, holds-Contains, same_increasing}
use Rattle.vector_field.specs.Stages.{is_left}
use Rattle.number_lists.proofs.CallerLemmas.{same_bool}
use Rattle.chosen_field.specs.Chosen.{has_facet}
use Rattle.chosen_field.specs.Rests.{left_of, AreCounts}
use Rattle.chosen_field.proofs.Steps.{left-rise, left-holds, cofaces-left}

-- what holds of all holds of each
at_held : (P : ℕ → Type 0) (xs : List ℕ) (n : ℕ) → All P xs → holds xs n ≡ true → P n
at_held P xs n h e = let c : Contains xs n = holds-Contains xs n e in subst P c.2 (h c.0 n c.1)

-- where the flags are those of an increasing list, the cells that are left are the list
pub left-flags : (flags : List Bool) (xs : List ℕ) → IsStrictlyIncreasing xs → All (λ c. (1 ≤ c) × (c ≤ length flags)) xs → ((c : ℕ) → 1 ≤ c → is_left flags c ≡ holds xs c) → left_of flags ≡ xs
left-flags flags xs rise within h = same_increasing (left_of flags) xs (left-rise flags) rise (λ n. same_bool (holds (left_of flags) n) (holds xs n) (to n) (from n))
  where
    to : (n : ℕ) → holds (left_of flags) n ≡ true → holds xs n ≡ true
    to n e =
        let parts = and_parts (is_left flags n) (holds (upto (length flags)) n) (sym (holds-filter (is_left flags) (upto (length flags)) n) ∙ e) in
        let low : 1 ≤ n = (at_held (λ c. (1 ≤ c) × (c ≤ length flags)) (upto (length flags)) n (All-upto (length flags)) parts.1).0 in
        sym (h n low) ∙ parts.0

    from : (n : ℕ) → holds xs n ≡ true → holds (left_of flags) n ≡ true
    from n e = let r = at_held (λ c. (1 ≤ c) × (c ≤ length flags)) xs n within e in left-holds flags n r.0 r.1 (h n r.0 ∙ e)

module _ (space : List (List (List ℕ))) where
  pub count_few : (dim : ℕ) → dim < 3 → cell_count space ≤ 4294967295 → count space (dim + 1) ≤ 4294967295
  count_few zero l h = omega (arith, h)
  count_few (suc zero) l h = omega (arith, h)
  count_few (suc (suc zero)) l h = omega (arith, h)
  count_few (suc (suc (suc dim))) l h = absurd (omega (arith, l))

  pub cofaces_few : (dim f : ℕ) → dim < 3 → cell_count space ≤ 4294967295 → length (cofaces_of space dim f) ≤ 4294967295
  cofaces_few dim f l h = omega (arith, length-filter-le (has_facet space dim f) (upto (count space (dim + 1))), length-upto (count space (dim + 1)), count_few dim l h)

  pub cofaces_all : (dim f n : ℕ) → n ≡ count space (dim + 1) → All (λ c. (1 ≤ c) × (c ≤ n)) (cofaces_of space dim f)
  cofaces_all dim f n e = subst (λ (m : ℕ). All (λ c. (1 ≤ c) × (c ≤ m)) (cofaces_of space dim f)) (sym e) (All-filter (has_facet space dim f) (λ c. (1 ≤ c) × (c ≤ count space (dim + 1))) (upto (count space (dim + 1))) (All-upto (count space (dim + 1))))

  -- one count more is right
  pub counts-more : (dim : ℕ) (cells : List Bool) (now new : List ℕ) (i number : ℕ) → length cells ≡ count space (dim + 1) → i < length now → number ≡ length (filter (is_left cells) (cofaces_of space dim (i + 1)))
      → new ≡ set now (i + 1 - 1) number → AreCounts space dim i cells now → AreCounts space dim (i + 1) cells new
  counts-more dim cells now new i number long l is e h f a b = elim (cases_eq f (i + 1)) [
    | inl same ↦ subst (λ (k : ℕ). get_or new (k - 1) 0 ≡ length (filter (has_facet space dim k) (left_of cells))) (sym same)
        (ap (λ (xs : List ℕ). get_or xs (i + 1 - 1) 0) e ∙ (get_or-set_same now (i + 1 - 1) number 0 (omega (arith, l)) ∙ (is ∙ ap (λ (xs : List ℕ). length xs) (cofaces-left space dim cells (i + 1) long))))
    | inr ne ↦ ap (λ (xs : List ℕ). get_or xs (f - 1) 0) e ∙ (get_or-set_other now (i + 1 - 1) (f - 1) number 0 (λ x. ne (omega (arith, x, a))) ∙ h f a (lower i f b ne))
  ]
    where
      lower : (n f : ℕ) → f ≤ n + 1 → f ≢ n + 1 → f ≤ n
      lower n f a b = elim (cases_order f (n + 1)) [ inl e ↦ absurd (b e) | inr s ↦ elim s [ inl l ↦ omega (arith, l) | inr l ↦ absurd (omega (arith, l, a)) ] ]
