use Rattle.std.proofs.Common.{◌≡◌, ◌-◌, ◌*◌, ◌/◌, ◌%◌, ◌<◌, ◌≤◌, ℕ, List, [], ◌++◌, map, length, get_or, ap, sym, ◌∙◌, arith}
use Rattle.std.specs.List.{range_with_len}
use Rattle.std.proofs.lemmas.List.{map-append, append_assoc}
use Rattle.std.proofs.lemmas.List.FromFn.{length-map-range_with_len}
use Rattle.tuple_spaces.specs.TorusPlaces.{volume, number_at, moved, pair_places, facet_places}
use Rattle.tuple_spaces.proofs.PassingPlaces.{volume-le}
use Rattle.tuple_spaces.proofs.TorusFacets.{even_turns, x-below, y-below, z-below, in_volume, moved-x, moved-y, moved-z}
use Rattle.tuple_spaces.proofs.TorusNumbers.{numbers_read, sorted_facets}
use Rattle.tuple_spaces.proofs.torus_places.list_facets.Goals as goal

long : (side : ℕ) (numbers : List ℕ) → numbers ≡ map (number_at side) (range_with_len 0 (volume side)) → length numbers ≡ volume side
long side numbers e = ap length e ∙ length-map-range_with_len (number_at side) 0 (volume side)

small : (side : ℕ) (numbers : List ℕ) → side ≤ 38 → numbers ≡ map (number_at side) (range_with_len 0 (volume side)) → length numbers ≤ 54872
small side numbers h e = omega (arith, long side numbers e, volume-le side h)

-- the last place in each direction
last_places : (side place : ℕ) → 2 ≤ side → place < volume side
    → (moved (side * side) place (place / (side * side)) (side - 1) < volume side) × (moved side place (place % (side * side) / side) (side - 1) < volume side) × (moved 1 place (place % (side * side) % side) (side - 1) < volume side)
last_places side place two low =
    let some : 0 < side = omega arith in
    let s : side - 1 < side = omega arith in
    let x = x-below side place some low in
    let y = y-below side place some low in
    let z = z-below side place some low in (
      omega (arith, moved-x side place some low (side - 1), in_volume side place some low (side - 1) (place % (side * side) / side) (place % (side * side) % side) s y z),
      omega (arith, moved-y side place some low (side - 1), in_volume side place some low (place / (side * side)) (side - 1) (place % (side * side) % side) x s z),
      omega (arith, moved-z side place some low (side - 1), in_volume side place some low (place / (side * side)) (place % (side * side) / side) (side - 1) x y s),
    )

pub push_pair-requires-clause-room : goal.push_pair-requires-clause-room
push_pair-requires-clause-room c = omega (arith, (last_places c.args.side c.args.place c.requires.low c.requires.place).0, long c.args.side c.args.numbers.now c.requires.numbers)

pub push_pair-requires-2-clause-room : goal.push_pair-requires-2-clause-room
push_pair-requires-2-clause-room c = omega (arith, (last_places c.args.side c.args.place c.requires.low c.requires.place).1, long c.args.side c.args.numbers.now c.requires.numbers)

pub push_pair-requires-3-clause-room : goal.push_pair-requires-3-clause-room
push_pair-requires-3-clause-room c = omega (arith, (last_places c.args.side c.args.place c.requires.low c.requires.place).2, long c.args.side c.args.numbers.now c.requires.numbers)

pub push_pair-requires-clause-small : goal.push_pair-requires-clause-small
push_pair-requires-clause-small c = small c.args.side c.args.numbers.now c.requires.high c.requires.numbers

pub push_pair-requires-2-clause-small : goal.push_pair-requires-2-clause-small
push_pair-requires-2-clause-small c = small c.args.side c.args.numbers.now c.requires.high c.requires.numbers

pub push_pair-requires-3-clause-small : goal.push_pair-requires-3-clause-small
push_pair-requires-3-clause-small c = small c.args.side c.args.numbers.now c.requires.high c.requires.numbers

-- what the three directions give one after another
joined : (f : ℕ → ℕ) (none a b d : List ℕ) (one two three : List ℕ) → none ≡ [] → one ≡ none ++ map f a → two ≡ one ++ map f b → three ≡ two ++ map f d → three ≡ map f (a ++ (b ++ d))
joined f none a b d one two three e p q r =
    r
    ∙ (ap (λ (xs : List ℕ). xs ++ map f d) (q ∙ ap (λ (xs : List ℕ). xs ++ map f b) (p ∙ ap (λ (xs : List ℕ). xs ++ map f a) e))
    ∙ (append_assoc (map f a) (map f b) (map f d) ∙ sym (map-append f a (b ++ d) ∙ ap (λ (xs : List ℕ). map f a ++ xs) (map-append f b d))))

pub returns : goal.returns
returns c =
    let side : ℕ = c.args.side in
    let place : ℕ = c.args.place in
    let some : 0 < side = omega (arith, c.requires.low) in
    let found : c.push_pair-3.new.facets.items ≡ map (λ k. get_or c.args.numbers.now k 0) (facet_places side place) =
    joined (λ k. get_or c.args.numbers.now k 0) c.clear.new.self.items (pair_places side (side * side) place (place / (side * side))) (pair_places side side place (place % (side * side) / side)) (pair_places side 1 place (place % (side * side) % side))
    c.push_pair.new.facets.items c.push_pair-2.new.facets.items c.push_pair-3.new.facets.items c.clear.ensures.items c.in_ok-push_pair.ensures c.in_ok-push_pair-2.ensures c.in_ok-push_pair-3.ensures in
    sorted_facets side place c.push_pair-3.new.facets.items c.sort_once.new.numbers.items some c.requires.place (even_turns side c.requires.even) (found ∙ numbers_read side place c.args.numbers.now some c.requires.place (even_turns side c.requires.even) c.requires.numbers)
    c.sort_once.ensures.rises c.sort_once.ensures.keeps c.sort_once.ensures.adds_none
