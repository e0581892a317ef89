-- The space by places is the permutahedral space.
use Rattle.std.proofs.Common.{◌≡◌, ℕ, suc, ◌+◌, List, [], ◌∷◌, ◌++◌, Bool, true, false, cond, eqb, nat_lt, nat_le, leb-true, map, filter, length, Result, Ok, Err, refl, ap, sym, ◌∙◌, arith}
use Rattle.std.specs.List.{range_with_len, flat_map, list_any, list_all}
use Rattle.std.proofs.lemmas.Bool.{false_from_ne_true}
use Rattle.std.proofs.lemmas.List.{length-append, length-map}
use Rattle.gap_text.specs.Value.{Value}
use Rattle.array_values.specs.declared.fault.ArrayFault.{ArrayFault}
use Rattle.array_values.specs.declared.fault.ArrayFault.TheVariants.{TooManyCells, BadDimension, Empty}
use Rattle.array_values.specs.Answers.{and_then}
use Rattle.array_values.specs.Bits.{Bits, sizes_of, bits_of, is_allowed}
use Rattle.tuple_spaces.specs.Tuples.{same, boxed}
use Rattle.permutahedral_arrays.specs.Places as places
use Rattle.permutahedral_arrays.specs.Permutahedra.{vectors, still, chains, moved, sequences, is_among, facets_of, cells_of, space_of, limited, present_of, permutahedral_of}
use Rattle.permutahedral_arrays.proofs.Loops.{none_of}
use Rattle.permutahedral_arrays.proofs.Marked.{slab_of}
use Rattle.permutahedral_arrays.proofs.Images.{layer-same}
use Rattle.permutahedral_arrays.proofs.Boxed.{place_of, vector_three, vector_two, fits, once_three, once_two, cells_three, fit_three, cells_two, fit_two}

-- ---- from cells to the space

-- the space of the cells of dimensions 0 to 3, each a sequence of points; no cell has one point more than a vertex
abbrev space_with : (v e f s : List (List (List ℕ))) → List (List (List ℕ))
space_with v e f s = map (facets_of []) v ∷ map (facets_of v) e ∷ map (facets_of e) f ∷ map (facets_of f) s ∷ []

four : {A : Type 0} (a b c d : List A) → length (flat_map (λ (xs : List A). xs) (a ∷ b ∷ c ∷ d ∷ [])) ≡ length a + length b + length c + length d
four a b c d = omega (arith, length-append a (b ++ (c ++ (d ++ []))), length-append b (c ++ (d ++ [])), length-append c (d ++ []), length-append d [])

module _ (place : List ℕ → ℕ) (ok : List ℕ → Bool) (once : (t u : List ℕ) → ok t ≡ true → ok u ≡ true → eqb (place u) (place t) ≡ same t u) where
  abbrev placed : List (List (List ℕ)) → List (List ℕ)
  placed cells = map (map place) cells

  spaces : (v e f s : List (List (List ℕ))) → list_all (list_all ok) v ≡ true → list_all (list_all ok) e ≡ true → list_all (list_all ok) f ≡ true → list_all (list_all ok) s ≡ true
      → places.space_of (map (map place) v) (map (map place) e) (map (map place) f) (map (map place) s) ≡ space_with v e f s
  spaces v e f s a b c d =
      ap (λ l. l ∷ places.layer_of (placed v) (placed e) ∷ places.layer_of (placed e) (placed f) ∷ places.layer_of (placed f) (placed s) ∷ []) (layer-same place ok once [] v refl a)
      ∙ (ap (λ l. map (facets_of []) v ∷ l ∷ places.layer_of (placed e) (placed f) ∷ places.layer_of (placed f) (placed s) ∷ []) (layer-same place ok once v e a b)
      ∙ (ap (λ l. map (facets_of []) v ∷ map (facets_of v) e ∷ l ∷ places.layer_of (placed f) (placed s) ∷ []) (layer-same place ok once e f b c)
      ∙ ap (λ l. map (facets_of []) v ∷ map (facets_of v) e ∷ map (facets_of e) f ∷ l ∷ []) (layer-same place ok once f s c d)))

  counts : (v e f s : List (List (List ℕ))) → length (map (map place) v) + length (map (map place) e) + length (map (map place) f) + length (map (map place) s) ≡ length (flat_map (λ layer. layer) (space_with v e f s))
  counts v e f s =
      omega (
        arith,
        four (map (facets_of []) v) (map (facets_of v) e) (map (facets_of e) f) (map (facets_of f) s),
        length-map v (map place),
        length-map e (map place),
        length-map f (map place),
        length-map s (map place),
        length-map v (facets_of []),
        length-map e (facets_of v),
        length-map f (facets_of e),
        length-map s (facets_of f),
      )

  pub limited-same : (v e f s : List (List (List ℕ))) → list_all (list_all ok) v ≡ true → list_all (list_all ok) e ≡ true → list_all (list_all ok) f ≡ true → list_all (list_all ok) s ≡ true
      → places.limited (map (map place) v) (map (map place) e) (map (map place) f) (map (map place) s) ≡ limited (space_with v e f s)
  limited-same v e f s a b c d =
      ap (λ (n : ℕ). cond (nat_lt 60000 n) (Err TooManyCells) (Ok (places.space_of (placed v) (placed e) (placed f) (placed s)))) (counts v e f s)
      ∙ ap (λ (l : List (List (List ℕ))). cond (nat_lt 60000 (length (flat_map (λ layer. layer) (space_with v e f s)))) (Err TooManyCells) (Ok l)) (spaces v e f s a b c d)

-- ---- the shapes of cells are the chains of vectors

abbrev AreVectors : (depth n : ℕ) → (vector : ℕ → List ℕ) → (shapes : List (List ℕ)) → Type 0
AreVectors depth n vector shapes = map (λ chain. still depth ∷ chain) (chains n (vectors depth) (still depth)) ≡ map (map vector) shapes

points_three : AreVectors 3 3 vector_three (places.shapes_in 3 0)
points_three = refl

edges_three : AreVectors 3 2 vector_three (places.shapes_in 3 1)
edges_three = refl

faces_three : AreVectors 3 1 vector_three (places.shapes_in 3 2)
faces_three = refl

solids_three : AreVectors 3 0 vector_three (places.shapes_in 3 3)
solids_three = refl

points_two : AreVectors 2 2 vector_two (places.shapes_in 2 0)
points_two = refl

edges_two : AreVectors 2 1 vector_two (places.shapes_in 2 1)
edges_two = refl

faces_two : AreVectors 2 0 vector_two (places.shapes_in 2 2)
faces_two = refl

-- no sequence has more points than a vertex
no_chain : (sizes : List ℕ) (present : List (List ℕ)) (n : ℕ) → chains n (vectors (length sizes)) (still (length sizes)) ≡ [] → cells_of sizes present n ≡ []
no_chain sizes present n e =
    ap (filter (list_any (is_among present)))
    (none_of (sequences (length sizes) n) (boxed (map (λ size. size + 1) sizes)) (λ first. ap (map (λ chain. first ∷ map (moved first) chain)) e))

-- ---- three levels

module _ (p r k : ℕ) (bits : List Bool) where
  abbrev cells3 : ℕ → List (List (List ℕ))
  cells3 n = cells_of (p ∷ r ∷ k ∷ []) (present_of (p ∷ r ∷ k ∷ []) bits) n

  abbrev found3 : ℕ → List (List ℕ)
  found3 dim = places.cells_of (slab_of r k) (k + 2) (places.marks_of p r k bits) (places.shapes_in 3 dim)

  abbrev every : ℕ → Bool
  every v = true

  pub same_three : places.solid 3 p r k bits ≡ limited (space_of (p ∷ r ∷ k ∷ []) (present_of (p ∷ r ∷ k ∷ []) bits))
  same_three =
      let v = cells_three p r k bits 3 (places.shapes_in 3 0) every points_three refl in
      let e = cells_three p r k bits 2 (places.shapes_in 3 1) every edges_three refl in
      let f = cells_three p r k bits 1 (places.shapes_in 3 2) every faces_three refl in
      let s = cells_three p r k bits 0 (places.shapes_in 3 3) every solids_three refl in
      ap (λ x. places.limited x (found3 1) (found3 2) (found3 3)) v
      ∙ (ap (λ x. places.limited (map (map (place_of r k)) (cells3 3)) x (found3 2) (found3 3)) e
      ∙ (ap (λ x. places.limited (map (map (place_of r k)) (cells3 3)) (map (map (place_of r k)) (cells3 2)) x (found3 3)) f
      ∙ (ap (λ x. places.limited (map (map (place_of r k)) (cells3 3)) (map (map (place_of r k)) (cells3 2)) (map (map (place_of r k)) (cells3 1)) x) s
      ∙ (limited-same (place_of r k) (fits r k) (once_three r k) (cells3 3) (cells3 2) (cells3 1) (cells3 0) (fit_three p r k bits 3 (places.shapes_in 3 0) every points_three refl) (fit_three p r k bits 2 (places.shapes_in 3 1) every edges_three refl)
      (fit_three p r k bits 1 (places.shapes_in 3 2) every faces_three refl) (fit_three p r k bits 0 (places.shapes_in 3 3) every solids_three refl)
      ∙ ap (λ above. limited (map (facets_of above) (cells3 3) ∷ map (facets_of (cells3 3)) (cells3 2) ∷ map (facets_of (cells3 2)) (cells3 1) ∷ map (facets_of (cells3 1)) (cells3 0) ∷ []))
      (sym (no_chain (p ∷ r ∷ k ∷ []) (present_of (p ∷ r ∷ k ∷ []) bits) 4 refl))))))

-- ---- two levels

module _ (r k : ℕ) (bits : List Bool) where
  abbrev cells2 : ℕ → List (List (List ℕ))
  cells2 n = cells_of (r ∷ k ∷ []) (present_of (r ∷ k ∷ []) bits) n

  abbrev found2 : ℕ → List (List ℕ)
  found2 dim = places.cells_of (slab_of r k) (k + 2) (places.marks_of 1 r k bits) (places.shapes_in 2 dim)

  abbrev at_place : List (List (List ℕ)) → List (List ℕ)
  at_place cells = map (map (λ t. place_of r k (1 ∷ t))) cells

  pub same_two : places.solid 2 1 r k bits ≡ limited (space_of (r ∷ k ∷ []) (present_of (r ∷ k ∷ []) bits))
  same_two =
      let v = cells_two r k bits 2 (places.shapes_in 2 0) points_two refl in
      let e = cells_two r k bits 1 (places.shapes_in 2 1) edges_two refl in
      let f = cells_two r k bits 0 (places.shapes_in 2 2) faces_two refl in
      let s = none_of (places.cells_at (slab_of r k) (k + 2) (places.marks_of 1 r k bits) []) (range_with_len 1 (length (places.marks_of 1 r k bits))) (λ first. refl) in
      ap (λ x. places.limited x (found2 1) (found2 2) (found2 3)) v
      ∙ (ap (λ x. places.limited (at_place (cells2 2)) x (found2 2) (found2 3)) e
      ∙ (ap (λ x. places.limited (at_place (cells2 2)) (at_place (cells2 1)) x (found2 3)) f
      ∙ (ap (λ x. places.limited (at_place (cells2 2)) (at_place (cells2 1)) (at_place (cells2 0)) x) s
      ∙ (limited-same (λ t. place_of r k (1 ∷ t)) (λ t. fits r k (1 ∷ t)) (once_two r k) (cells2 2) (cells2 1) (cells2 0) [] (fit_two r k bits 2 (places.shapes_in 2 0) points_two refl) (fit_two r k bits 1 (places.shapes_in 2 1) edges_two refl)
      (fit_two r k bits 0 (places.shapes_in 2 2) faces_two refl) refl
      ∙ ap (λ above. limited (map (facets_of above) (cells2 2) ∷ map (facets_of (cells2 2)) (cells2 1) ∷ map (facets_of (cells2 1)) (cells2 0) ∷ [] ∷ []))
      (sym (no_chain (r ∷ k ∷ []) (present_of (r ∷ k ∷ []) bits) 3 refl))))))

-- ---- every value

abbrev wanted : Bits → Result (List (List (List ℕ))) ArrayFault
wanted a = limited (space_of a.sizes (present_of a.sizes a.bits))

abbrev with_bits : (sizes : List ℕ) → Result (List Bool) ArrayFault → Result Bits ArrayFault
with_bits sizes read = and_then read (λ bits. cond (list_any (λ b. b) bits) (Ok (record { sizes = sizes; bits = bits })) (Err Empty))

abbrev bits_from : (sizes : List ℕ) → (bits : List Bool) → Bits
bits_from sizes bits = record { sizes = sizes; bits = bits }

by_bits : (sizes : List ℕ) → ((bits : List Bool) → places.space_in (bits_from sizes bits) ≡ wanted (bits_from sizes bits)) → (read : Result (List Bool) ArrayFault) → and_then (with_bits sizes read) places.space_in ≡ and_then (with_bits sizes read) wanted
by_bits sizes h (Err fault) = refl
by_bits sizes h (Ok bits) = by_one (list_any (λ b. b) bits)
  where
    by_one : (b : Bool) → and_then (cond b (Ok (bits_from sizes bits)) (Err Empty)) places.space_in ≡ and_then (cond b (Ok (bits_from sizes bits)) (Err Empty)) wanted
    by_one true = h bits
    by_one false = refl

abbrev with_sizes : (List ℕ → Result (List Bool) ArrayFault) → List ℕ → Result Bits ArrayFault
with_sizes read sizes = cond (is_allowed 2 3 (length sizes)) (with_bits sizes (read sizes)) (Err BadDimension)

too_deep : (n : ℕ) → is_allowed 2 3 (suc (suc (suc (suc n)))) ≡ false
too_deep n =
    ap (λ (b : Bool). cond (nat_le 2 (suc (suc (suc (suc n))))) b false) (false_from_ne_true (nat_le (suc (suc (suc (suc n)))) 3) (λ e. let l = leb-true (suc (suc (suc (suc n)))) 3 e in omega (arith, l)))
    ∙ both (nat_le 2 (suc (suc (suc (suc n)))))
  where
    both : (b : Bool) → cond b false false ≡ false
    both true = refl
    both false = refl

by_sizes : (read : List ℕ → Result (List Bool) ArrayFault) (sizes : List ℕ) → and_then (with_sizes read sizes) places.space_in ≡ and_then (with_sizes read sizes) wanted
by_sizes read [] = refl
by_sizes read (a ∷ []) = refl
by_sizes read (r ∷ k ∷ []) = by_bits (r ∷ k ∷ []) (same_two r k) (read (r ∷ k ∷ []))
by_sizes read (p ∷ r ∷ k ∷ []) = by_bits (p ∷ r ∷ k ∷ []) (same_three p r k) (read (p ∷ r ∷ k ∷ []))
by_sizes read (a ∷ b ∷ c ∷ d ∷ sizes) =
    let all : List ℕ = a ∷ b ∷ c ∷ d ∷ sizes in
    let e = too_deep (length sizes) in
    ap (λ (t : Bool). and_then (cond t (with_bits all (read all)) (Err BadDimension)) places.space_in) e ∙ sym (ap (λ (t : Bool). and_then (cond t (with_bits all (read all)) (Err BadDimension)) wanted) e)

by_array : (read : List ℕ → Result (List Bool) ArrayFault) (sizes : Result (List ℕ) ArrayFault) → and_then (and_then sizes (with_sizes read)) places.space_in ≡ and_then (and_then sizes (with_sizes read)) wanted
by_array read (Err fault) = refl
by_array read (Ok sizes) = by_sizes read sizes

pub places_are_permutahedra : (v : Value) → places.places_of v ≡ permutahedral_of v
places_are_permutahedra v = by_array (λ sizes. bits_of sizes v) (sizes_of v)
