-- A space with one component is its part, number by number; the facets of a cell of a part are those of its cell in the space.
use Rattle.std.proofs.Common.{◌≡◌, ℕ, zero, suc, ◌+◌, ◌-◌, ◌<◌, ◌≤◌, List, [], ◌∷◌, Bool, true, eqb, filter, map, length, get_or, refl, ap, sym, subst, ◌∙◌, arith}
use Rattle.std.proofs.lemmas.Bool.{eq-eqb}
use Rattle.std.proofs.lemmas.List.{same_lists, get_or-map, length-map, get_or_default}
use Rattle.number_lists.specs.Words.{upto}
use Rattle.number_lists.specs.Members.{In, here, there}
use Rattle.number_lists.proofs.CallerLemmas.{length-upto, get_or-upto, upto-In}
use Rattle.face_poset.specs.Poset.{IsSpace, layer, count, facets_of}
use Rattle.regular_check.specs.Rules.{IsRegular}
use Rattle.regular_check.specs.Components.{SameComponentIsAPath, ComponentsAreNumbered, component_count}
use Rattle.space_parts.specs.Parts.{component_at, cells_upto, cells_in, place_in, facets_in, layer_in, part_of, piece_of, whole_of}
use Rattle.space_parts.proofs.Within.{facet_in, component_in}
use Rattle.space_parts.proofs.Places.{by_dim, IsMember, part_low, comes_from, goes_to}
use Rattle.space_parts.proofs.PartSpaces.{member_facet, vertex_none}

-- a filter that all pass
filter_all : (p : ℕ → Bool) (xs : List ℕ) → ((x : ℕ) → In x xs → p x ≡ true) → filter p xs ≡ xs
filter_all p [] h = refl
filter_all p (x ∷ xs) h = rw (h x here) (ap (λ (ys : List ℕ). x ∷ ys) (filter_all p xs (λ y i. h y (there i))))

-- a map that changes nothing there
pub map_kept : (f : ℕ → ℕ) (xs : List ℕ) → ((x : ℕ) → In x xs → f x ≡ x) → map f xs ≡ xs
map_kept f [] h = refl
map_kept f (x ∷ xs) h = ap (λ (y : ℕ). y ∷ map f xs) (h x here) ∙ ap (λ (ys : List ℕ). x ∷ ys) (map_kept f xs (λ y i. h y (there i)))

-- the cell of the space from which one of a part comes
pub whole_is : (space : List (List (List ℕ))) (number d n : ℕ) → d ≤ 3 → whole_of (piece_of space number) d n ≡ get_or (cells_in space number d) (n - 1) 0
whole_is space number d n l = by_dim (λ e. whole_of (piece_of space number) e n ≡ get_or (cells_in space number e) (n - 1) 0) refl refl refl refl d l

module _ (space : List (List (List ℕ))) (hs : IsSpace space) (numbered : ComponentsAreNumbered) (one : component_count space ≡ 1) where
  pub all_first : (d c : ℕ) → 1 ≤ c → c ≤ count space d → component_at space d c ≡ 1
  all_first d c low high = let w = component_in space hs numbered d c low high in omega (arith, w.0, w.1, one)

  upto_all : (d c : ℕ) → c ≤ count space d → cells_upto space 1 d c ≡ upto c
  upto_all d c high = filter_all (λ x. eqb (component_at space d x) 1) (upto c) (λ x i. let w = upto-In c x i in eq-eqb (component_at space d x) 1 (all_first d x w.0 (omega (arith, w.1, high))))

  pub place_kept : (d c : ℕ) → c ≤ count space d → place_in space 1 d c ≡ c
  place_kept d c high = ap length (upto_all d c high) ∙ length-upto c

  facets_kept : (d c : ℕ) → 1 ≤ c → c ≤ count space d → facets_in space 1 d c ≡ facets_of space d c
  facets_kept zero c low high = ap (map (place_in space 1 (0 - 1))) (vertex_none space 1 hs c low high) ∙ sym (vertex_none space 1 hs c low high)
  facets_kept (suc d) c low high =
      let e : suc d - 1 ≡ d = omega arith in
      ap (λ (n : ℕ). map (place_in space 1 n) (facets_of space (suc d) c)) e
      ∙ map_kept (place_in space 1 d) (facets_of space (suc d) c) (λ f i. place_kept d f ((facet_in space d c f hs low high i).1))

  layer_kept : (d : ℕ) → layer_in space 1 d ≡ layer space d
  layer_kept d =
      let is : cells_in space 1 d ≡ upto (count space d) = upto_all d (count space d) (omega arith) in
      let long : length (layer_in space 1 d) ≡ count space d = length-map (cells_in space 1 d) (facets_in space 1 d) ∙ (ap length is ∙ length-upto (count space d)) in
      same_lists (layer_in space 1 d) (layer space d) long
      (λ k q l.
      let lt : k < count space d = omega (arith, l, long) in
      let in_cells : k < length (cells_in space 1 d) = omega (arith, lt, ap length is, length-upto (count space d)) in
      let at : get_or (cells_in space 1 d) k 0 ≡ k + 1 = ap (λ (xs : List ℕ). get_or xs k 0) is ∙ get_or-upto (count space d) k lt in
      let e : k + 1 - 1 ≡ k = omega arith in
      get_or-map (facets_in space 1 d) (cells_in space 1 d) k 0 q in_cells
      ∙ (ap (facets_in space 1 d) at
      ∙ (facets_kept d (k + 1) (omega arith) (omega (arith, lt)) ∙ (ap (λ (n : ℕ). get_or (layer space d) n []) e ∙ get_or_default (layer space d) k [] q lt))))

  pub part_is_space : part_of space 1 ≡ space
  part_is_space =
      same_lists (part_of space 1) space (sym hs.layers)
      (λ k q l. by_dim (λ d. get_or (part_of space 1) d q ≡ get_or space d q) (read 0 q (omega arith)) (read 1 q (omega arith)) (read 2 q (omega arith)) (read 3 q (omega arith)) k (omega (arith, l)))
    where
      read : (d : ℕ) (q : List (List ℕ)) → d < 4 → layer_in space 1 d ≡ get_or space d q
      read d q l = layer_kept d ∙ get_or_default space d [] q (omega (arith, l, hs.layers))

  -- and has its numbers
  pub numbers_kept : (d c : ℕ) → 1 ≤ c → c ≤ count space d → whole_of (piece_of space 1) d c ≡ c
  numbers_kept d c low high =
      let three : d ≤ 3 = part_low space 1 d c low (subst (λ (s : List (List (List ℕ))). c ≤ count s d) (sym part_is_space) high) in
      let at : get_or (upto (count space d)) (c - 1) 0 ≡ (c - 1) + 1 = get_or-upto (count space d) (c - 1) (omega (arith, low, high)) in
      whole_is space 1 d c three
      ∙ (ap (λ (xs : List ℕ). get_or xs (c - 1) 0) (upto_all d (count space d) (omega arith)) ∙ (at ∙ omega (arith, low)))

module _ (space : List (List (List ℕ))) (number : ℕ) (hs : IsSpace space) (regular : IsRegular space) (paths : SameComponentIsAPath) where
  pub facets_whole : (dim cell : ℕ) → 1 ≤ cell → cell ≤ count (part_of space number) (suc dim)
      → map (whole_of (piece_of space number) dim) (facets_of (part_of space number) (suc dim) cell) ≡ facets_of space (suc dim) (whole_of (piece_of space number) (suc dim) cell)
  facets_whole dim cell low high =
      let three : suc dim ≤ 3 = part_low space number (suc dim) cell low high in
      let h = comes_from space number (suc dim) cell low high in
      let c : ℕ = get_or (cells_in space number (suc dim)) (cell - 1) 0 in
      let e : suc dim - 1 ≡ dim = omega arith in
      let is : facets_of (part_of space number) (suc dim) cell ≡ map (place_in space number dim) (facets_of space (suc dim) c) = h.facets ∙ ap (λ (n : ℕ). map (place_in space number n) (facets_of space (suc dim) c)) e in
      ap (map (whole_of (piece_of space number) dim)) is
      ∙ (back dim c (omega (arith, three)) h.member ∙ ap (facets_of space (suc dim)) (sym (whole_is space number (suc dim) cell three)))
    where
      back_all : (dim : ℕ) (xs : List ℕ) → dim ≤ 3 → ((f : ℕ) → In f xs → IsMember space number dim f) → map (whole_of (piece_of space number) dim) (map (place_in space number dim) xs) ≡ xs
      back_all dim [] l m = refl
      back_all dim (x ∷ xs) l m =
          ap (λ (y : ℕ). y ∷ map (whole_of (piece_of space number) dim) (map (place_in space number dim) xs)) (whole_is space number dim (place_in space number dim x) l ∙ (goes_to space number hs dim x (m x here)).back)
          ∙ ap (λ (ys : List ℕ). x ∷ ys) (back_all dim xs l (λ f i. m f (there i)))

      back : (dim c : ℕ) → dim ≤ 3 → IsMember space number (suc dim) c → map (whole_of (piece_of space number) dim) (map (place_in space number dim) (facets_of space (suc dim) c)) ≡ facets_of space (suc dim) c
      back dim c l m = back_all dim (facets_of space (suc dim) c) l (λ f i. member_facet space number hs regular paths dim c f m i)
