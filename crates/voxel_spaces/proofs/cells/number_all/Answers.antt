use Rattle.std.proofs.Common.{◌≡◌, ◌<◌, ◌≤◌, ◌+◌, ◌++◌, ◌∷◌, [], ℕ, List, length, map, filter, take, get_or, set, length-set, eqb, ap, sym, ◌∙◌, arith}
use Rattle.std.proofs.lemmas.List.{get_or-set_same, take_more, map-append, length-take-le}
use Rattle.std.specs.List.Sorted.{IsStrictlyIncreasing}
use Rattle.number_lists.proofs.CallerLemmas.{length-filter-le}
use Rattle.voxel_spaces.specs.Places.{dim_at, number_among}
use Rattle.voxel_spaces.proofs.CellNumbers.{number-is, counts-more}
use Rattle.voxel_spaces.proofs.cells.number_all.Goals as goal

pub overflow_add-counts : goal.overflow_add-counts
overflow_add-counts c =
    let i : ℕ = c.loop-place.place-index in
    let d : ℕ = c.dimension-dim.result in
    let front : List ℕ = take i c.args.places.now in
    omega (arith, c.loop-place.invariant.counted d c.dimension-dim.ensures.most, length-filter-le (λ p. eqb (dim_at c.args.strides.now p) d) front, length-take-le i c.args.places.now (omega (arith, c.loop-place-test.true)), c.loop-place-test.true, c.requires.small)

-- the number that is put last
next_numbers : (ss P numbers new counts : List ℕ) (i dim : ℕ) → IsStrictlyIncreasing P → i < length P → length counts ≡ 4 → dim ≤ 3 → dim ≡ dim_at ss (get_or P i 0)
    → get_or counts dim 0 ≡ length (filter (λ p. eqb (dim_at ss p) dim) (take i P)) → new ≡ numbers ++ get_or (set counts dim (get_or counts dim 0 + 1)) dim 0 ∷ []
    → numbers ≡ map (number_among ss P) (take i P) → new ≡ map (number_among ss P) (take (i + 1) P)
next_numbers ss P numbers new counts i dim inc l long most is counted pushed h =
    let f : ℕ → ℕ = number_among ss P in
    let value : get_or (set counts dim (get_or counts dim 0 + 1)) dim 0 ≡ f (get_or P i 0) =
    get_or-set_same counts dim (get_or counts dim 0 + 1) 0 (omega (arith, long, most)) ∙ (ap (λ (n : ℕ). n + 1) counted ∙ sym (number-is ss P i dim inc l (sym is))) in
    pushed
    ∙ (ap (λ (n : ℕ). numbers ++ n ∷ []) value
    ∙ (ap (λ (xs : List ℕ). xs ++ f (get_or P i 0) ∷ []) h
    ∙ sym (ap (map f) (take_more P i 0 l) ∙ map-append f (take i P) (get_or P i 0 ∷ []))))

pub loop-place-preserved : goal.loop-place-preserved
loop-place-preserved c =
    let i : ℕ = c.loop-place.place-index in
    let dim : ℕ = c.dimension-dim.result in
    let counts : List ℕ = c.loop-place.counts in
    let ss : List ℕ = c.args.strides.now in
    let P : List ℕ = c.args.places.now in
    record {
      four = length-set counts dim (get_or counts dim 0 + 1) ∙ c.loop-place.invariant.four;
      counted = counts-more ss P counts i dim c.loop-place-test.true c.loop-place.invariant.four c.dimension-dim.ensures.dim c.dimension-dim.ensures.most c.loop-place.invariant.counted;
      numbered = next_numbers ss P c.loop-place.numbers.items c.push.new.self.items counts i dim c.requires.rises c.loop-place-test.true c.loop-place.invariant.four c.dimension-dim.ensures.most c.dimension-dim.ensures.dim
          (c.loop-place.invariant.counted dim c.dimension-dim.ensures.most) c.in_ok-push.ensures.items c.loop-place.invariant.numbered;
    }
