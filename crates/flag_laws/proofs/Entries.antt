-- The rows of the cells with their signs, numbered by their flags, entry by entry.
use Rattle.std.proofs.Common.{◌≡◌, ℕ, zero, suc, ◌+◌, ◌-◌, ◌<◌, ◌≤◌, List, [], Bool, true, false, ◌&&◌, cond, map, filter, length, get_or, refl, ap, ◌∙◌, arith}
use Rattle.std.proofs.lemmas.List.{length-map}
use Rattle.std.proofs.lemmas.List.FromFn.{length-map-range_with_len, get_or-map-range_with_len}
use Rattle.small_field.specs.Field.{Ops}
use Rattle.number_lists.specs.Words.{upto, holds}
use Rattle.number_lists.proofs.CallerLemmas.{In-holds, In-upto, holds-filter, length-upto}
use Rattle.face_poset.specs.Poset.{count, facets_of}
use Rattle.pair_stages.specs.Signed.{sign_element, signed_entry}
use Rattle.local_field.specs.Flags.{other_sign, is_odd, flag_negative, flag_cells, all_flag_cells, facets_at, minus_at, minus_of, renumbered, negative_in}

and-true : (t : Bool) → t && true ≡ t
and-true true = refl
and-true false = refl

module _ (space : List (List (List ℕ))) (negative : ℕ → ℕ → ℕ → Bool) where
  abbrev cells : List (List ℕ)
  cells = all_flag_cells space

  abbrev pub sp : List (List (List ℕ))
  sp = renumbered space cells

  abbrev pub minus : List (List (List ℕ))
  minus = minus_of space negative cells

  abbrev pub at : (d i : ℕ) → ℕ
  at d i = get_or (flag_cells space d) i 0

  -- as many by places as there are flags
  pub count-flags : (d : ℕ) → d ≤ 3 → count sp d ≡ length (flag_cells space d)
  count-flags zero small = length-map (upto (length (flag_cells space 0))) (λ place. []) ∙ length-upto (length (flag_cells space 0))
  count-flags (suc zero) small = length-map-range_with_len (facets_at space cells 1) 1 (length (flag_cells space 1))
  count-flags (suc (suc zero)) small = length-map-range_with_len (facets_at space cells 2) 1 (length (flag_cells space 2))
  count-flags (suc (suc (suc zero))) small = length-map-range_with_len (facets_at space cells 3) 1 (length (flag_cells space 3))
  count-flags (suc (suc (suc (suc d)))) small = absurd (omega (arith, small))

  -- the test for facets by places, and the sign
  abbrev test : (d p q : ℕ) → Bool
  test d p q = holds (facets_of space (suc d) (at (suc d) (p - 1))) (at d (q - 1))

  abbrev pub sign_at : (d g f : ℕ) → Bool
  sign_at d g f = other_sign (is_odd (suc d)) (other_sign (negative (suc d) g f) (other_sign (flag_negative space negative (suc d) g) (flag_negative space negative d f)))

  abbrev facets_there : (d p : ℕ) → List ℕ
  facets_there d p = filter (test d p) (upto (length (flag_cells space d)))

  abbrev minus_there : (d p : ℕ) → List ℕ
  minus_there d p = filter (λ q. sign_at d (at (suc d) (p - 1)) (at d (q - 1))) (facets_there d p)

  listed : (f : ℕ → List ℕ) (n j : ℕ) → j < n → get_or (map f (upto n)) (j + 1 - 1) [] ≡ f (j + 1)
  listed f n j l = get_or-map-range_with_len f 1 n (j + 1 - 1) (j + 1) [] (omega (arith, l)) (omega arith)

  pub facets-are : (d j : ℕ) → suc d ≤ 3 → j < length (flag_cells space (suc d)) → facets_of sp (d + 1) (j + 1) ≡ facets_there d (j + 1)
  facets-are zero j small l = listed (facets_at space cells 1) (length (flag_cells space 1)) j l
  facets-are (suc zero) j small l = listed (facets_at space cells 2) (length (flag_cells space 2)) j l
  facets-are (suc (suc zero)) j small l = listed (facets_at space cells 3) (length (flag_cells space 3)) j l
  facets-are (suc (suc (suc d))) j small l = absurd (omega (arith, small))

  minus-are : (d j : ℕ) → suc d ≤ 3 → j < length (flag_cells space (suc d)) → facets_of minus (d + 1) (j + 1) ≡ minus_there d (j + 1)
  minus-are zero j small l = listed (minus_at space negative cells 1) (length (flag_cells space 1)) j l
  minus-are (suc zero) j small l = listed (minus_at space negative cells 2) (length (flag_cells space 2)) j l
  minus-are (suc (suc zero)) j small l = listed (minus_at space negative cells 3) (length (flag_cells space 3)) j l
  minus-are (suc (suc (suc d))) j small l = absurd (omega (arith, small))

  module _ (F : Ops) where
    abbrev pub given : (d g f : ℕ) → ℕ
    given d g f = cond (holds (facets_of space (suc d) g) f) (sign_element F (sign_at d g f)) 0

    pub entry-is : (d i j : ℕ) → suc d ≤ 3 → i < length (flag_cells space d) → j < length (flag_cells space (suc d)) → signed_entry F sp (negative_in minus) d (i + 1) (j + 1) ≡ given d (at (suc d) j) (at d i)
    entry-is d i j small li lj =
        let n : ℕ = length (flag_cells space d) in
        let one : i + 1 - 1 ≡ i = omega arith in
        let two : j + 1 - 1 ≡ j = omega arith in
        let inside : holds (facets_there d (j + 1)) (i + 1) ≡ test d (j + 1) (i + 1) =
        holds-filter (test d (j + 1)) (upto n) (i + 1) ∙ (ap (λ (b : Bool). test d (j + 1) (i + 1) && b) (In-holds (In-upto n (i + 1) (omega arith) (omega (arith, li)))) ∙ and-true (test d (j + 1) (i + 1))) in
        ap (λ (xs : List ℕ). cond (holds xs (i + 1)) (sign_element F (holds (facets_of minus (d + 1) (j + 1)) (i + 1))) 0) (facets-are d j small lj)
        ∙ (ap (λ (xs : List ℕ). cond (holds (facets_there d (j + 1)) (i + 1)) (sign_element F (holds xs (i + 1))) 0) (minus-are d j small lj)
        ∙ (by (test d (j + 1) (i + 1)) inside
        ∙ (ap (λ (k : ℕ). given d (at (suc d) (j + 1 - 1)) (at d k)) one ∙ ap (λ (k : ℕ). given d (at (suc d) k) (at d i)) two)))
      where
        S : ℕ → Bool
        S q = sign_at d (at (suc d) (j + 1 - 1)) (at d (q - 1))

        by : (b : Bool) → holds (facets_there d (j + 1)) (i + 1) ≡ b → cond (holds (facets_there d (j + 1)) (i + 1)) (sign_element F (holds (minus_there d (j + 1)) (i + 1))) 0 ≡ cond b (sign_element F (S (i + 1))) 0
        by true e =
            ap (λ (b : Bool). cond b (sign_element F (holds (minus_there d (j + 1)) (i + 1))) 0) e
            ∙ ap (sign_element F) (holds-filter S (facets_there d (j + 1)) (i + 1) ∙ (ap (λ (b : Bool). S (i + 1) && b) e ∙ and-true (S (i + 1))))
        by false e = ap (λ (b : Bool). cond b (sign_element F (holds (minus_there d (j + 1)) (i + 1))) 0) e
