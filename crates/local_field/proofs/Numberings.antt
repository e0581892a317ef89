-- The cells of all dimensions with their places.
use Rattle.std.proofs.Common.{◌≡◌, ℕ, zero, suc, List, [], ◌∷◌, ◌++◌, length, get_or, refl, ap, sym, ◌∙◌, subst, arith}
use Rattle.face_poset.specs.Poset.{IsSpace, count}
use Rattle.local_field.specs.Flags.{flag_cells, all_flag_cells, cells_at, IsOf, IsOrderOf, IsOrderPut, HasPlaces}

-- by the number of cells of the list itself
own : (n : ℕ) (cells places : List ℕ) → IsOrderOf n cells places → IsOrderOf (length cells) cells places
own n cells places h = subst (λ (k : ℕ). IsOrderOf k cells places) (sym h.many) h

none : IsOrderOf 0 [] []
none = record {
  many = refl;
  each = refl;
  place = λ c l m. absurd (omega (arith, l, m));
  cell = λ c l m. absurd (omega (arith, l, m));
  within = λ c l m. absurd (omega (arith, l, m));
  back = λ c l m. absurd (omega (arith, l, m));
}

pub four-placed : (space : List (List (List ℕ))) (c0 c1 c2 c3 c p p0 p1 p2 p3 : List (List ℕ)) → c ≡ [] → p ≡ []
    → c0 ≡ c ++ flag_cells space 0 ∷ [] → c1 ≡ c0 ++ flag_cells space 1 ∷ [] → c2 ≡ c1 ++ flag_cells space 2 ∷ [] → c3 ≡ c2 ++ flag_cells space 3 ∷ []
    → IsOrderPut space 0 p p0 → IsOrderPut space 1 p0 p1 → IsOrderPut space 2 p1 p2 → IsOrderPut space 3 p2 p3 → HasPlaces c3 p3
four-placed space c0 c1 c2 c3 c p p0 p1 p2 p3 e f a0 a1 a2 a3 b0 b1 b2 b3 =
    let add : List (List ℕ) → List ℕ → List (List ℕ) = λ xs x. xs ++ x ∷ [] in
    let cells : c3 ≡ all_flag_cells space =
    a3 ∙ ap (λ (xs : List (List ℕ)). add xs (flag_cells space 3)) (a2 ∙ ap (λ (xs : List (List ℕ)). add xs (flag_cells space 2)) (a1 ∙ ap (λ (xs : List (List ℕ)). add xs (flag_cells space 1)) (a0 ∙ ap (λ (xs : List (List ℕ)). add xs (flag_cells space 0)) e))) in
    let places : p3 ≡ b0.places ∷ b1.places ∷ b2.places ∷ b3.places ∷ [] =
    b3.put ∙ ap (λ (xs : List (List ℕ)). add xs b3.places) (b2.put ∙ ap (λ (xs : List (List ℕ)). add xs b2.places) (b1.put ∙ ap (λ (xs : List (List ℕ)). add xs b1.places) (b0.put ∙ ap (λ (xs : List (List ℕ)). add xs b0.places) f))) in
    subst (λ (xs : List (List ℕ)). HasPlaces xs p3) (sym cells) (subst (λ (xs : List (List ℕ)). HasPlaces (all_flag_cells space) xs) (sym places) (record { four = refl; as_many = refl; order = order }))
  where
    order : (dim : ℕ) → IsOrderOf (length (cells_at (all_flag_cells space) dim)) (cells_at (all_flag_cells space) dim) (cells_at (b0.places ∷ b1.places ∷ b2.places ∷ b3.places ∷ []) dim)
    order zero = own (count space 0) (flag_cells space 0) b0.places b0.order
    order (suc zero) = own (count space 1) (flag_cells space 1) b1.places b1.order
    order (suc (suc zero)) = own (count space 2) (flag_cells space 2) b2.places b2.order
    order (suc (suc (suc zero))) = own (count space 3) (flag_cells space 3) b3.places b3.order
    order (suc (suc (suc (suc dim)))) = none

-- and as many as there are in the space
pub four-of : (space : List (List (List ℕ))) → IsSpace space → (c0 c1 c2 c3 c p p0 p1 p2 p3 : List (List ℕ)) → c ≡ [] → p ≡ []
    → c0 ≡ c ++ flag_cells space 0 ∷ [] → c1 ≡ c0 ++ flag_cells space 1 ∷ [] → c2 ≡ c1 ++ flag_cells space 2 ∷ [] → c3 ≡ c2 ++ flag_cells space 3 ∷ []
    → IsOrderPut space 0 p p0 → IsOrderPut space 1 p0 p1 → IsOrderPut space 2 p1 p2 → IsOrderPut space 3 p2 p3 → (c3 ≡ all_flag_cells space) × IsOf space c3
four-of space valid c0 c1 c2 c3 c p p0 p1 p2 p3 e f a0 a1 a2 a3 b0 b1 b2 b3 =
    let add : List (List ℕ) → List ℕ → List (List ℕ) = λ xs x. xs ++ x ∷ [] in
    let cells : c3 ≡ all_flag_cells space =
    a3 ∙ ap (λ (xs : List (List ℕ)). add xs (flag_cells space 3)) (a2 ∙ ap (λ (xs : List (List ℕ)). add xs (flag_cells space 2)) (a1 ∙ ap (λ (xs : List (List ℕ)). add xs (flag_cells space 1)) (a0 ∙ ap (λ (xs : List (List ℕ)). add xs (flag_cells space 0)) e))) in
    (cells, record { counts = λ d. ap (λ (xs : List (List ℕ)). length (cells_at xs d)) cells ∙ counts d; places = p3; order = four-placed space c0 c1 c2 c3 c p p0 p1 p2 p3 e f a0 a1 a2 a3 b0 b1 b2 b3 })
  where
    counts : (d : ℕ) → length (cells_at (all_flag_cells space) d) ≡ count space d
    counts zero = b0.order.many
    counts (suc zero) = b1.order.many
    counts (suc (suc zero)) = b2.order.many
    counts (suc (suc (suc zero))) = b3.order.many
    counts (suc (suc (suc (suc d)))) = sym (above space valid.layers)
      where
        above : (xs : List (List (List ℕ))) → length xs ≡ 4 → length (get_or xs (suc (suc (suc (suc d)))) []) ≡ 0
        above [] l = refl
        above (a ∷ []) l = refl
        above (a ∷ b ∷ []) l = refl
        above (a ∷ b ∷ c ∷ []) l = refl
        above (a ∷ b ∷ c ∷ e ∷ []) l = refl
        above (a ∷ b ∷ c ∷ e ∷ x ∷ xs) l = absurd (omega (arith, l))
