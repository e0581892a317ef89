-- The cells of one dimension of a part, added one after another.
use Rattle.std.proofs.Common.{◌≡◌, ℕ, suc, ◌+◌, ◌-◌, ◌<◌, ◌≤◌, List, [], ◌∷◌, ◌++◌, map, set, length, get_or, eqb, ap, sym, ◌∙◌, subst, arith, All}
use Rattle.std.proofs.lemmas.Bool.{eqb-true}
use Rattle.number_lists.specs.Words.{upto}
use Rattle.number_lists.proofs.CallerLemmas.{at-In, In-inside, filter-In, upto-In}
use Rattle.face_poset.specs.Poset.{IsCell, IsLimited, IsSpace, layer, count, cell_count, facets_of}
use Rattle.regular_check.specs.Rules.{IsRegular}
use Rattle.regular_check.specs.Components.{SameComponentIsAPath}
use Rattle.space_parts.specs.Parts.{component_at, cells_in, place_in, facets_in}
use Rattle.space_parts.specs.Listings.{below_of}
use Rattle.space_parts.specs.Making.{stage}
use Rattle.space_parts.proofs.Places.{IsMember}
use Rattle.space_parts.proofs.PartSpaces.{facets_fit, vertex_none}
use Rattle.space_parts.proofs.Listed.{facets_room, facets_listed}
use Rattle.space_parts.proofs.Stages.{stage-more, stage-end, stage-below, stage-room}

module _ (space : List (List (List ℕ))) (number dim : ℕ) where
  pub member_at : (own : List ℕ) (k : ℕ) → own ≡ cells_in space number dim → k < length own → IsMember space number dim (get_or own k 0)
  member_at own k e l =
      let c : ℕ = get_or (cells_in space number dim) k 0 in
      let lt : k < length (cells_in space number dim) = omega (arith, l, ap length e) in
      let i = at-In (cells_in space number dim) k 0 lt in
      let w = upto-In (count space dim) c (In-inside (λ c. eqb (component_at space dim c) number) (upto (count space dim)) i) in
      subst (λ (xs : List ℕ). IsMember space number dim (get_or xs k 0)) (sym e)
      (record { low = w.0; high = w.1; component = eqb-true (component_at space dim c) number (filter-In (λ c. eqb (component_at space dim c) number) (upto (count space dim)) i) })

  pub places_fit : (own below facets : List ℕ) (k : ℕ) → IsSpace space → own ≡ cells_in space number dim → below ≡ below_of space dim → k < length own → facets ≡ facets_of space dim (get_or own k 0)
      → All (λ f. (1 ≤ f) × (f ≤ length below)) facets
  places_fit own below facets k hs e b l f =
      let m = member_at own k e l in
      subst (All (λ f. (1 ≤ f) × (f ≤ length below))) (sym f) (subst (λ (bs : List ℕ). All (λ f. (1 ≤ f) × (f ≤ length bs)) (facets_of space dim (get_or own k 0))) (sym b) (facets_room space number hs dim (get_or own k 0) m.low m.high))

  pub facets_made : (c : ℕ) (below facets : List ℕ) → IsSpace space → IsRegular space → SameComponentIsAPath → IsMember space number dim c → below ≡ below_of space dim → facets ≡ facets_of space dim c
      → map (λ f. get_or below (f - 1) 0) facets ≡ facets_in space number dim c
  facets_made c below facets hs regular paths m b f =
      ap (map (λ f. get_or below (f - 1) 0)) f ∙ (ap (λ (bs : List ℕ). map (λ f. get_or bs (f - 1) 0) (facets_of space dim c)) b ∙ facets_listed space number hs regular paths dim c m)

  pub room_left : (own : List ℕ) (builder : List (List (List ℕ))) (k : ℕ) → IsLimited space → dim ≤ 3 → own ≡ cells_in space number dim → k < length own → builder ≡ stage space number dim k → cell_count builder < 60000
  room_left own builder k few three e l is =
      subst (λ (b : List (List (List ℕ))). cell_count b < 60000) (sym is) (omega (arith, stage-room space number dim k three (omega (arith, l, ap length e)), few.most))

  pub no_facets : (c : ℕ) (facets : List ℕ) → IsSpace space → IsMember space number dim c → facets ≡ facets_in space number dim c → dim ≡ 0 → facets ≡ []
  no_facets c facets hs m f z =
      f ∙ ap (map (place_in space number (dim - 1))) (ap (λ (d : ℕ). facets_of space d c) z ∙ vertex_none space number hs c m.low (subst (λ (d : ℕ). c ≤ count space d) z m.high))

  pub cell_fits : (c k : ℕ) (builder : List (List (List ℕ))) (facets : List ℕ) → IsSpace space → IsRegular space → SameComponentIsAPath → IsMember space number dim c → dim ≤ 3 → 1 ≤ dim → builder ≡ stage space number dim k
      → facets ≡ facets_in space number dim c → IsCell (count builder (dim - 1)) facets
  cell_fits c k builder facets hs regular paths m three low is f =
      let s : suc (dim - 1) ≡ dim = omega (arith, low) in
      let n : count builder (dim - 1) ≡ length (cells_in space number (dim - 1)) = ap (λ (b : List (List (List ℕ))). count b (dim - 1)) is ∙ stage-below space number dim k three low in
      subst (λ (j : ℕ). IsCell j facets) (sym n)
      (subst (IsCell (length (cells_in space number (dim - 1)))) (sym f)
      (subst (λ (d : ℕ). IsCell (length (cells_in space number (dim - 1))) (facets_in space number d c)) s (facets_fit space number hs regular paths (dim - 1) c (subst (λ (d : ℕ). IsMember space number d c) (sym s) m))))

  pub one_more : (k : ℕ) (own : List ℕ) (builder new : List (List (List ℕ))) (facets : List ℕ) → dim ≤ 3 → own ≡ cells_in space number dim → k < length own → builder ≡ stage space number dim k
      → facets ≡ facets_in space number dim (get_or own k 0) → new ≡ set builder dim (layer builder dim ++ facets ∷ []) → new ≡ stage space number dim (k + 1)
  one_more k own builder new facets three e l is f added =
      added
      ∙ (ap (λ (b : List (List (List ℕ))). set b dim (layer b dim ++ facets ∷ [])) is
      ∙ (ap (λ (fs : List ℕ). set (stage space number dim k) dim (layer (stage space number dim k) dim ++ fs ∷ [])) (f ∙ ap (λ (xs : List ℕ). facets_in space number dim (get_or xs k 0)) e)
      ∙ stage-more space number dim k three (omega (arith, l, ap length e))))

  pub all_made : (k : ℕ) (own : List ℕ) (builder : List (List (List ℕ))) → dim ≤ 3 → own ≡ cells_in space number dim → length own ≤ k → builder ≡ stage space number dim k → builder ≡ stage space number (dim + 1) 0
  all_made k own builder three e l is = is ∙ stage-end space number dim k three (omega (arith, l, ap length e))
