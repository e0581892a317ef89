-- What is kept of a space, and the cells of its components.
use Rattle.std.proofs.Common.{◌≡◌, ℕ, zero, suc, ◌+◌, ◌-◌, ◌<◌, ◌≤◌, List, [], ◌∷◌, Bool, cond, eqb, filter, map, length, get_or, refl, ap, sym, ◌∙◌, arith, All}
use Rattle.std.proofs.lemmas.List.FromFn.{length-map-range_with_len, get_or-map-range_with_len}
use Rattle.number_lists.specs.Words.{upto}
use Rattle.number_lists.specs.Members.{In, here, there}
use Rattle.number_lists.proofs.CallerLemmas.{upto-In, at-In}
use Rattle.face_poset.specs.Poset.{IsSpace, count, facets_of}
use Rattle.regular_check.specs.Rules.{IsRegular}
use Rattle.regular_check.specs.Components.{SameComponentIsAPath, ComponentsAreNumbered, component_count}
use Rattle.space_parts.specs.Parts.{component_at, cells_upto, cells_in, place_in, facets_in}
use Rattle.space_parts.specs.Listings.{numbers_of, with_number, grouped, own_place, own_places, below_of}
use Rattle.space_parts.proofs.Within.{facet_in, component_in}
use Rattle.space_parts.proofs.Places.{IsMember}
use Rattle.space_parts.proofs.PartSpaces.{member_facet, vertex_none}

pub filter_agree : (p q : ℕ → Bool) (xs : List ℕ) → ((x : ℕ) → In x xs → p x ≡ q x) → filter p xs ≡ filter q xs
filter_agree p q [] h = refl
filter_agree p q (x ∷ xs) h =
    ap (λ (b : Bool). cond b (x ∷ filter p xs) (filter p xs)) (h x here) ∙ ap (λ (ys : List ℕ). cond (q x) (x ∷ ys) ys) (filter_agree p q xs (λ y i. h y (there i)))

map_agree_in : (f g : ℕ → ℕ) (xs : List ℕ) → ((x : ℕ) → In x xs → f x ≡ g x) → map f xs ≡ map g xs
map_agree_in f g [] h = refl
map_agree_in f g (x ∷ xs) h = ap (λ (y : ℕ). y ∷ map f xs) (h x here) ∙ ap (λ (ys : List ℕ). g x ∷ ys) (map_agree_in f g xs (λ y i. h y (there i)))

module _ (space : List (List (List ℕ))) (dim : ℕ) where
  pub length_numbers : length (numbers_of space dim) ≡ count space dim
  length_numbers = length-map-range_with_len (component_at space dim) 1 (count space dim)

  pub number_at : (c : ℕ) → 1 ≤ c → c ≤ count space dim → get_or (numbers_of space dim) (c - 1) 0 ≡ component_at space dim c
  number_at c low high = get_or-map-range_with_len (component_at space dim) 1 (count space dim) (c - 1) c 0 (omega (arith, low, high)) (omega (arith, low))

  pub numbers_in : IsSpace space → ComponentsAreNumbered → All (λ n. (1 ≤ n) × (n ≤ component_count space)) (numbers_of space dim)
  numbers_in hs numbered k d l =
      let lt : k < count space dim = omega (arith, l, length_numbers) in
      let w = component_in space hs numbered dim (k + 1) (omega arith) (omega (arith, lt)) in
      let e : get_or (numbers_of space dim) k d ≡ component_at space dim (k + 1) = get_or-map-range_with_len (component_at space dim) 1 (count space dim) k (k + 1) d lt (omega arith) in
      (omega (arith, w.0, e), omega (arith, w.1, e))

  pub with_is : (number n : ℕ) → n ≤ count space dim → with_number (numbers_of space dim) number n ≡ cells_upto space number dim n
  with_is number n l =
      filter_agree (λ c. eqb (get_or (numbers_of space dim) (c - 1) 0) number) (λ c. eqb (component_at space dim c) number) (upto n)
      (λ c i. let w = upto-In n c i in ap (λ (x : ℕ). eqb x number) (number_at c w.0 (omega (arith, w.1, l))))

  -- the cells of a component
  pub grouped_at : (number most : ℕ) → 1 ≤ number → number ≤ most → get_or (grouped (numbers_of space dim) most) (number - 1) [] ≡ cells_in space number dim
  grouped_at number most low high =
      get_or-map-range_with_len (λ n. with_number (numbers_of space dim) n (length (numbers_of space dim))) 1 most (number - 1) number [] (omega (arith, low, high)) (omega (arith, low))
      ∙ (ap (with_number (numbers_of space dim) number) length_numbers ∙ with_is number (count space dim) (omega arith))

  pub length_grouped : (most : ℕ) → length (grouped (numbers_of space dim) most) ≡ most
  length_grouped most = length-map-range_with_len (λ n. with_number (numbers_of space dim) n (length (numbers_of space dim))) 1 most

  -- the number of a cell in its part
  pub own_at : (c : ℕ) → 1 ≤ c → c ≤ count space dim → get_or (own_places (numbers_of space dim)) (c - 1) 0 ≡ place_in space (component_at space dim c) dim c
  own_at c low high =
      get_or-map-range_with_len (own_place (numbers_of space dim)) 1 (length (numbers_of space dim)) (c - 1) c 0 (omega (arith, low, high, length_numbers)) (omega (arith, low))
      ∙ (ap (λ (n : ℕ). length (with_number (numbers_of space dim) n c)) (number_at c low high) ∙ ap length (with_is (component_at space dim c) c high))

  pub length_own : length (own_places (numbers_of space dim)) ≡ count space dim
  length_own = length-map-range_with_len (own_place (numbers_of space dim)) 1 (length (numbers_of space dim)) ∙ length_numbers

-- the facets of a cell of a component, by the numbers that are kept
module _ (space : List (List (List ℕ))) (number : ℕ) (hs : IsSpace space) where
  pub facets_room : (dim c : ℕ) → 1 ≤ c → c ≤ count space dim → All (λ f. (1 ≤ f) × (f ≤ length (below_of space dim))) (facets_of space dim c)
  facets_room zero c low high k d l = absurd (omega (arith, l, ap length (vertex_none space number hs c low high)))
  facets_room (suc dim) c low high k d l =
      let w = facet_in space dim c (get_or (facets_of space (suc dim) c) k d) hs low high (at-In (facets_of space (suc dim) c) k d l) in
      (w.0, omega (arith, w.1, length_own space dim))

  pub facets_listed : IsRegular space → SameComponentIsAPath → (dim c : ℕ) → IsMember space number dim c → map (λ f. get_or (below_of space dim) (f - 1) 0) (facets_of space dim c) ≡ facets_in space number dim c
  facets_listed regular paths zero c m =
      let e : facets_of space 0 c ≡ [] = vertex_none space number hs c m.low m.high in
      ap (map (λ f. get_or (below_of space 0) (f - 1) 0)) e ∙ sym (ap (map (place_in space number (0 - 1))) e)
  facets_listed regular paths (suc dim) c m =
      let e : suc dim - 1 ≡ dim = omega arith in
      map_agree_in (λ f. get_or (below_of space (suc dim)) (f - 1) 0) (place_in space number dim) (facets_of space (suc dim) c)
      (λ f i.
      let w = facet_in space dim c f hs m.low m.high i in
      own_at space dim f w.0 w.1 ∙ ap (λ (n : ℕ). place_in space n dim f) (member_facet space number hs regular paths dim c f m i).component)
      ∙ sym (ap (λ (n : ℕ). map (place_in space number n) (facets_of space (suc dim) c)) e)
