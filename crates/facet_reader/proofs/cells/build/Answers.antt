use Rattle.std.proofs.Common.{◌≡◌, ℕ, List, [], ◌∷◌, length, map, set, replicate, ap, sym, ◌∙◌, subst, arith}
use Rattle.std.proofs.lemmas.List.{length-replicate}
use Rattle.std.specs.List.Sorted.{IsStrictlyIncreasing}
use Rattle.number_lists.proofs.CallerLemmas.{increasing-upto, length-upto}
use Rattle.face_poset.specs.Poset.{Layers, count}
use Rattle.facet_reader.specs.Places.{AreHeld, facets_at}
use Rattle.facet_reader.proofs.SetPlaces.{first-held, second-held, third-held, edges-rise, triangles-rise, space-is}
use Rattle.facet_reader.proofs.cells.build.Goals as goal

pub add_cells-requires-clause-rises : goal.add_cells-requires-clause-rises
add_cells-requires-clause-rises c = subst IsStrictlyIncreasing (sym (c.deref.ensures.value ∙ c.in_ok-points.ensures.points)) (increasing-upto c.args.vertices)

pub add_cells-requires-clause-few : goal.add_cells-requires-clause-few
add_cells-requires-clause-few c = omega (arith, ap (λ (xs : List ℕ). length xs) (c.deref.ensures.value ∙ c.in_ok-points.ensures.points), length-upto c.args.vertices, c.requires.few)

pub add_cells-requires-clause-held : goal.add_cells-requires-clause-held
add_cells-requires-clause-held c =
    subst (λ (xs : List ℕ). AreHeld 2 xs c.args.edges.now) (sym (c.deref.ensures.value ∙ c.in_ok-points.ensures.points))
    (first-held c.args.vertices c.args.edges.now c.args.triangles.now c.args.solids.now (omega (arith, c.requires.few)) c.requires.complex)

pub add_cells-requires-2-clause-rises : goal.add_cells-requires-2-clause-rises
add_cells-requires-2-clause-rises c = edges-rise c.args.vertices c.args.edges.now c.args.triangles.now c.args.solids.now (omega (arith, c.requires.few)) c.requires.complex

pub add_cells-requires-2-clause-held : goal.add_cells-requires-2-clause-held
add_cells-requires-2-clause-held c = second-held c.args.vertices c.args.edges.now c.args.triangles.now c.args.solids.now (omega (arith, c.requires.few)) c.requires.complex

pub add_cells-requires-3-clause-rises : goal.add_cells-requires-3-clause-rises
add_cells-requires-3-clause-rises c = triangles-rise c.args.vertices c.args.edges.now c.args.triangles.now c.args.solids.now (omega (arith, c.requires.few)) c.requires.complex

pub add_cells-requires-3-clause-held : goal.add_cells-requires-3-clause-held
add_cells-requires-3-clause-held c = third-held c.args.vertices c.args.edges.now c.args.triangles.now c.args.solids.now (omega (arith, c.requires.few)) c.requires.complex

pub add_cells-requires-clause-below : goal.add_cells-requires-clause-below
add_cells-requires-clause-below c =
    ap (λ (b : Layers). count b 0) c.in_ok-points.ensures.added
    ∙ (length-replicate c.args.vertices [] ∙ sym (ap (λ (xs : List ℕ). length xs) (c.deref.ensures.value ∙ c.in_ok-points.ensures.points) ∙ length-upto c.args.vertices))

-- the layers that were put in one after another
layers-are : (n : ℕ) (first second third : List (List ℕ)) (b c d e : Layers) → b ≡ replicate n [] ∷ [] ∷ [] ∷ [] ∷ [] → c ≡ set b 1 first → d ≡ set c 2 second → e ≡ set d 3 third
    → e ≡ replicate n [] ∷ first ∷ second ∷ third ∷ []
layers-are n first second third b c d e p q r s =
    s ∙ (ap (λ (x : Layers). set x 3 third) r ∙ (ap (λ (x : Layers). set (set x 2 second) 3 third) q ∙ ap (λ (x : Layers). set (set (set x 1 first) 2 second) 3 third) p))

pub returns : goal.returns
returns c =
    λ test are.
    c.in_ok-space.ensures
    ∙ (layers-are c.args.vertices (map (facets_at 2 c.deref.result.now) c.args.edges.now) (map (facets_at 3 c.args.edges.now) c.args.triangles.now) (map (facets_at 4 c.args.triangles.now) c.args.solids.now)
    c.add_vertices.new.builder c.add_cells.new.builder c.add_cells-2.new.builder c.add_cells-3.new.builder c.in_ok-points.ensures.added c.in_ok-add_cells.ensures c.in_ok-add_cells-2.ensures c.in_ok-add_cells-3.ensures
    ∙ (ap (λ (xs : List ℕ). replicate c.args.vertices [] ∷ map (facets_at 2 xs) c.args.edges.now ∷ map (facets_at 3 c.args.edges.now) c.args.triangles.now ∷ map (facets_at 4 c.args.triangles.now) c.args.solids.now ∷ [])
    (c.deref.ensures.value ∙ c.in_ok-points.ensures.points)
    ∙ space-is c.args.vertices c.args.edges.now c.args.triangles.now c.args.solids.now (omega (arith, c.requires.few)) test are))
