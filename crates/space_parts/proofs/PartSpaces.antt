-- The part of a component of a regular space is a space.
use Rattle.std.proofs.Common.{◌≡◌, ℕ, suc, ◌+◌, ◌-◌, ◌<◌, ◌≤◌, List, [], map, eqb, length, get_or, refl, ap, sym, ◌∙◌, subst, arith}
use Rattle.std.proofs.lemmas.List.{get_or-map, length-map, get_or_default}
use Rattle.number_lists.specs.Members.{In}
use Rattle.number_lists.proofs.CallerLemmas.{at-In}
use Rattle.face_poset.specs.Poset.{IsCell, IsSpace, layer, count, cell_count, facets_of}
use Rattle.regular_check.specs.Rules.{IsRegular}
use Rattle.regular_check.specs.Components.{SameComponentIsAPath}
use Rattle.space_parts.specs.Parts.{component_at, cells_in, place_in, facets_in, part_of}
use Rattle.space_parts.proofs.Counted.{count-le}
use Rattle.space_parts.proofs.Within.{facets_cell, facet_in, dim_low, lies_within}
use Rattle.space_parts.proofs.Places.{IsMember, place_lt, part_count, part_low, comes_from, goes_to}

module _ (space : List (List (List ℕ))) (number : ℕ) where
  -- the part has no more cells than the space
  pub cells_few : (d : ℕ) → length (cells_in space number d) ≤ count space d
  cells_few d = count-le (λ c. eqb (component_at space d c) number) (count space d)

  pub vertex_none : IsSpace space → (c : ℕ) → 1 ≤ c → c ≤ count space 0 → facets_of space 0 c ≡ []
  vertex_none hs c low high = hs.vertices (c - 1) [] (omega (arith, low, high))

module _ (space : List (List (List ℕ))) (number : ℕ) (hs : IsSpace space) (regular : IsRegular space) (paths : SameComponentIsAPath) where
  -- the facets of a member are members
  pub member_facet : (d c f : ℕ) → IsMember space number (suc d) c → In f (facets_of space (suc d) c) → IsMember space number d f
  member_facet d c f m i =
      let w = facet_in space d c f hs m.low m.high i in
      record { low = w.0; high = w.1; component = lies_within space hs regular paths d c f m.low m.high i ∙ m.component }

  -- the facets of a cell by their numbers in the part
  pub facets_fit : (d c : ℕ) → IsMember space number (suc d) c → IsCell (length (cells_in space number d)) (facets_in space number (suc d) c)
  facets_fit d c m =
      let xs : List ℕ = facets_of space (suc d) c in
      let e : suc d - 1 ≡ d = omega arith in
      let is : IsCell (count space d) xs = facets_cell space d c hs m.low m.high in
      let three : suc d ≤ 3 = dim_low space hs (suc d) c m.low m.high in
      let member : (k : ℕ) → k < length xs → IsMember space number d (get_or xs k 0) = λ k l. member_facet d c (get_or xs k 0) m (at-In xs k 0 l) in
      subst (λ (n : ℕ). IsCell (length (cells_in space number d)) (map (place_in space number n) xs)) (sym e)
      (record {
        rises = λ k l.
            let a : k + 1 < length xs = omega (arith, l, length-map xs (place_in space number d)) in
            let b : k < length xs = omega (arith, a) in
            let up : place_in space number d (get_or xs k 0) < place_in space number d (get_or xs (k + 1) 0) = place_lt space number d (get_or xs k 0) (get_or xs (k + 1) 0) (member (k + 1) a) (is.rises k a) in
            omega (arith, up, get_or-map (place_in space number d) xs k 0 0 b, get_or-map (place_in space number d) xs (k + 1) 0 0 a);
        within = λ k q l.
            let b : k < length xs = omega (arith, l, length-map xs (place_in space number d)) in
            let to = goes_to space number hs d (get_or xs k 0) (member k b) in
            let at : get_or (map (place_in space number d) xs) k q ≡ place_in space number d (get_or xs k 0) = get_or-map (place_in space number d) xs k 0 q b in
            (omega (arith, to.low, at), omega (arith, to.high, at, part_count space number d (omega (arith, three))));
        some = omega (arith, is.some, length-map xs (place_in space number d));
      })

  layer_read : (d k : ℕ) (q : List ℕ) → k < count (part_of space number) d → get_or (layer (part_of space number) d) k q ≡ facets_of (part_of space number) d (k + 1)
  layer_read d k q l =
      let e : k + 1 - 1 ≡ k = omega arith in
      get_or_default (layer (part_of space number) d) k q [] l ∙ sym (ap (λ (n : ℕ). get_or (layer (part_of space number) d) n []) e)

  few : cell_count (part_of space number) ≤ cell_count space
  few =
      omega (arith, part_count space number 0 (omega arith), part_count space number 1 (omega arith), part_count space number 2 (omega arith), part_count space number 3 (omega arith), cells_few space number 0, cells_few space number 1, cells_few space number 2, cells_few space number 3)

  pub part_space : IsSpace (part_of space number)
  part_space =
      record {
        layers = refl;
        vertices = λ k q l.
            let h = comes_from space number 0 (k + 1) (omega arith) (omega (arith, l)) in
            layer_read 0 k q l ∙ (h.facets ∙ ap (map (place_in space number (0 - 1))) (vertex_none space number hs (get_or (cells_in space number 0) (k + 1 - 1) 0) h.member.low h.member.high));
        cells = λ dim low k q l.
            let e : suc (dim - 1) ≡ dim = omega (arith, low) in
            let h = comes_from space number dim (k + 1) (omega arith) (omega (arith, l)) in
            let three : dim ≤ 3 = part_low space number dim (k + 1) (omega arith) (omega (arith, l)) in
            let c : ℕ = get_or (cells_in space number dim) (k + 1 - 1) 0 in
            let fits : IsCell (length (cells_in space number (dim - 1))) (facets_in space number dim c) =
            subst (λ (n : ℕ). IsCell (length (cells_in space number (dim - 1))) (facets_in space number n c)) e (facets_fit (dim - 1) c (subst (λ (n : ℕ). IsMember space number n c) (sym e) h.member)) in
            subst (λ (n : ℕ). IsCell n (get_or (layer (part_of space number) dim) k q)) (sym (part_count space number (dim - 1) (omega (arith, three))))
            (subst (IsCell (length (cells_in space number (dim - 1)))) (sym (layer_read dim k q l ∙ h.facets)) fits);
        few = omega (arith, few, hs.few);
      }
