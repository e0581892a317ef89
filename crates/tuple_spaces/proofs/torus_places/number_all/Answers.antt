use Rattle.std.proofs.Common.{◌≡◌, ◌+◌, ◌≤◌, ℕ, List, eqb, [], ◌∷◌, ◌++◌, map, get_or, set, ap, sym, ◌∙◌, arith}
use Rattle.std.specs.List.{range_with_len}
use Rattle.std.proofs.lemmas.List.{length-set, get_or-set_same}
use Rattle.std.proofs.lemmas.List.FromFn.{map-range_with_len_more}
use Rattle.tuple_spaces.specs.TorusPlaces.{dim_at, before, number_at}
use Rattle.tuple_spaces.proofs.PassingPlaces.{passing-le, volume-le, counts-more}
use Rattle.tuple_spaces.proofs.torus_places.number_all.Goals as goal

pub overflow_add-counts : goal.overflow_add-counts
overflow_add-counts c =
    omega (arith, c.loop-place.invariant.1 c.dimension-dim.result c.dimension-dim.ensures.most, passing-le (λ p. eqb (dim_at c.args.side p) c.dimension-dim.result) c.loop-place.place, c.loop-place-test.true, volume-le c.args.side c.requires.high)

-- the number that is put last
next_number : (side place dim : ℕ) (counts : List ℕ) → dim ≡ dim_at side place → dim ≤ 3 → ((d : ℕ) → d ≤ 3 → get_or counts d 0 ≡ before side d place) → get_or counts dim 0 + 1 ≡ number_at side place
next_number side place dim counts is most h = ap (λ (n : ℕ). n + 1) (h dim most) ∙ ap (λ (d : ℕ). before side d place + 1) is

pub loop-place-preserved : goal.loop-place-preserved
loop-place-preserved c =
    let side : ℕ = c.args.side in
    let place : ℕ = c.loop-place.place in
    let dim : ℕ = c.dimension-dim.result in
    let counts : List ℕ = c.loop-place.counts in
    let long = c.loop-place.invariant.0 in (
      length-set counts dim (get_or counts dim 0 + 1) ∙ long,
      counts-more side place counts dim long c.dimension-dim.ensures.dim c.dimension-dim.ensures.most c.loop-place.invariant.1,
      c.in_ok-push.ensures.items
          ∙ (ap (λ (ns : List ℕ). ns ++ get_or (set counts dim (get_or counts dim 0 + 1)) dim 0 ∷ []) c.loop-place.invariant.2
          ∙ (ap (λ (n : ℕ). map (number_at side) (range_with_len 0 place) ++ n ∷ []) (get_or-set_same counts dim (get_or counts dim 0 + 1) 0 (omega (arith, long, c.dimension-dim.ensures.most)) ∙ next_number side place dim counts c.dimension-dim.ensures.dim c.dimension-dim.ensures.most c.loop-place.invariant.1)
          ∙ sym (map-range_with_len_more (number_at side) 0 place place (omega arith)))),
    )
