-- What the builder asks of a cell, and the space with the cell.
use Rattle.std.proofs.Common.{◌≡◌, ℕ, ◌+◌, ◌-◌, ◌<◌, ◌≤◌, List, [], ◌∷◌, ◌++◌, map, length, set, take, get_or, Contains, ap, sym, ◌∙◌, subst, arith}
use Rattle.std.specs.List.Sorted.{IsStrictlyIncreasing}
use Rattle.std.proofs.lemmas.List.{take_more}
use Rattle.face_poset.specs.Poset.{IsCell, layer, count}
use Rattle.number_lists.specs.Members.{In}
use Rattle.array_values.specs.Bits.{volume}
use Rattle.tuple_spaces.specs.Tuples.{cells_in, numbers_in}
use Rattle.tuple_spaces.specs.Voxels.{facets}
use Rattle.voxel_spaces.specs.Places.{dim_at, facet_places, number_among, stage, IsClosed}
use Rattle.voxel_spaces.specs.BoxTuples.{strides_of, tuple_at}
use Rattle.voxel_spaces.proofs.CellNumbers.{sorted_facets, no_facets, cell_facets}
use Rattle.voxel_spaces.proofs.SpaceStages.{stage-more, stage-below}
use Rattle.number_lists.proofs.CallerLemmas.{Contains-In, In-Contains}

-- the numbers of the facets of the cell at a place
abbrev pub facets_at : (ss P : List ℕ) → (place : ℕ) → List ℕ
facets_at ss P place = numbers_in (cells_in (map (tuple_at ss) P) (dim_at ss place - 1)) (facets (tuple_at ss place))

abbrev There : (ss P : List ℕ) → Type 0
There ss P = (p : ℕ) → Contains P p → (k : ℕ) → Contains (facet_places ss p) k → Contains P k

-- the same by members
inside : (ss P : List ℕ) → There ss P → (p : ℕ) → In p P → (k : ℕ) → In k (facet_places ss p) → In k P
inside ss P h p i k j = Contains-In (h p (In-Contains i) k (In-Contains j))

module _ (ss P : List ℕ) (c : IsClosed ss P) (inc : IsStrictlyIncreasing P) (place : ℕ) (there_is : In place P) where
  low : (p : ℕ) → In p P → p < volume c.limits
  low p i = c.below p (In-Contains i)

  pub facets_sorted : (listed sorted : List ℕ) → listed ≡ map (number_among ss P) (facet_places ss place) → IsStrictlyIncreasing sorted
      → ((n : ℕ) → Contains listed n → Contains sorted n) → ((n : ℕ) → Contains sorted n → Contains listed n) → sorted ≡ facets_at ss P place
  facets_sorted listed sorted e r keeps adds_none =
      subst (λ (s : List ℕ). There s P → listed ≡ map (number_among s P) (facet_places s place) → sorted ≡ facets_at s P place) (sym c.strides_are)
      (λ h q. sorted_facets c.limits P c.some inc low c.odd (inside (strides_of c.limits) P h) place there_is listed sorted q r keeps adds_none) c.facets_there e

  pub vertex_facets : dim_at ss place ≡ 0 → facets_at ss P place ≡ []
  vertex_facets e =
      subst (λ (s : List ℕ). There s P → dim_at s place ≡ 0 → facets_at s P place ≡ []) (sym c.strides_are)
      (λ h q. no_facets c.limits P c.some inc low c.odd (inside (strides_of c.limits) P h) place there_is q) c.facets_there e

  pub other_facets : 1 ≤ dim_at ss place → IsCell (length (cells_in (map (tuple_at ss) P) (dim_at ss place - 1))) (facets_at ss P place)
  other_facets e =
      subst (λ (s : List ℕ). There s P → 1 ≤ dim_at s place → IsCell (length (cells_in (map (tuple_at s) P) (dim_at s place - 1))) (facets_at s P place)) (sym c.strides_are)
      (λ h q. cell_facets c.limits P c.some inc low c.odd (inside (strides_of c.limits) P h) place there_is q) c.facets_there e

-- the facets are those of a cell over the builder
pub facets_fit : (ss P : List ℕ) (c : IsClosed ss P) → IsStrictlyIncreasing P → (dim place : ℕ) (done : List ℕ) (builder : List (List (List ℕ))) (found : List ℕ) → In place P → dim_at ss place ≡ dim → dim ≤ 3 → 1 ≤ dim
    → builder ≡ stage ss P dim done → found ≡ facets_at ss P place → IsCell (count builder (dim - 1)) found
facets_fit ss P c inc dim place done builder found i e most some is same =
    let n : count builder (dim - 1) ≡ length (cells_in (map (tuple_at ss) P) (dim - 1)) = ap (λ (b : List (List (List ℕ))). count b (dim - 1)) is ∙ stage-below ss P dim done most some in
    subst (λ (k : ℕ). IsCell k found) (sym n)
    (subst (IsCell (length (cells_in (map (tuple_at ss) P) (dim - 1)))) (sym same)
    (subst (λ (d : ℕ). IsCell (length (cells_in (map (tuple_at ss) P) (d - 1))) (facets_at ss P place)) e (other_facets ss P c inc place i (omega (arith, e, some)))))

-- the builder with the cell
pub one_more : (ss P : List ℕ) (dim i place : ℕ) (builder new : List (List (List ℕ))) (found : List ℕ) → i < length P → place ≡ get_or P i 0 → dim ≤ 3 → dim_at ss place ≡ dim → builder ≡ stage ss P dim (take i P)
    → found ≡ facets_at ss P place → new ≡ set builder dim (layer builder dim ++ found ∷ []) → new ≡ stage ss P dim (take (i + 1) P)
one_more ss P dim i place builder new found l at most e is same added =
    added
    ∙ (ap (λ (b : List (List (List ℕ))). set b dim (layer b dim ++ found ∷ [])) is
    ∙ (ap (λ (fs : List ℕ). set (stage ss P dim (take i P)) dim (layer (stage ss P dim (take i P)) dim ++ fs ∷ [])) (same ∙ ap (λ (d : ℕ). numbers_in (cells_in (map (tuple_at ss) P) (d - 1)) (facets (tuple_at ss place))) e)
    ∙ (stage-more ss P dim (take i P) place most e
    ∙ ap (stage ss P dim) (ap (λ (n : ℕ). take i P ++ n ∷ []) at ∙ sym (take_more P i 0 l)))))
