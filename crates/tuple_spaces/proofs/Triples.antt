-- Triples by their places in lexicographic order.
use Rattle.std.proofs.Common.{◌≡◌, ℕ, suc, ◌+◌, ◌*◌, ◌/◌, ◌%◌, ◌<◌, ◌≤◌, List, [], ◌∷◌, eqb, filter, map, get_or, ap, sym, ◌∙◌, arith}
use Rattle.std.specs.List.{range_with_len}
use Rattle.std.proofs.Math.Nat.{mul_comm, mul-le-mul_right}
use Rattle.std.proofs.lemmas.Nat.{div-mul-add, mod-mul-add, div-add-mod'}
use Rattle.std.proofs.lemmas.List.Concat.{flat_map_single}
use Rattle.number_lists.proofs.CallerLemmas.{filter-map, flat_map_agree}
use Rattle.tuple_spaces.specs.Tuples.{tuples, dim_of, cells_in}
use Rattle.tuple_spaces.specs.TorusPlaces.{volume, triple_at, dim_at}
use Rattle.tuple_spaces.proofs.PassingPlaces.{passing}
use Rattle.tuple_spaces.proofs.ListLemmas.{rows_joined}
use Rattle.std.proofs.lemmas.Simd.{map-map}

-- ---- lists

-- ---- all triples

ones : (limit : ℕ) → tuples 1 limit ≡ map (λ c. c ∷ []) (range_with_len 0 limit)
ones limit = flat_map_single (λ (c : ℕ). c ∷ []) (range_with_len 0 limit)

abbrev two_at : (limit i : ℕ) → List ℕ
two_at limit i = (i / limit) ∷ (i % limit) ∷ []

twos : (limit : ℕ) → 0 < limit → tuples 2 limit ≡ map (two_at limit) (range_with_len 0 (limit * limit))
twos limit l =
    flat_map_agree (λ (c : ℕ). map (λ t. c ∷ t) (tuples 1 limit)) (λ (c : ℕ). map (λ (d : ℕ). c ∷ d ∷ []) (range_with_len 0 limit)) (range_with_len 0 limit)
    (λ c. ap (map (λ t. c ∷ t)) (ones limit) ∙ map-map (λ t. c ∷ t) (λ (d : ℕ). d ∷ []) (range_with_len 0 limit))
    ∙ rows_joined (λ (c d : ℕ). c ∷ d ∷ []) limit limit l

pub triples : (side : ℕ) → 0 < side → tuples 3 side ≡ map (triple_at side) (range_with_len 0 (volume side))
triples side l =
    let wide : 0 < side * side = omega (arith, mul-le-mul_right side l) in
    flat_map_agree (λ (c : ℕ). map (λ t. c ∷ t) (tuples 2 side)) (λ (c : ℕ). map (λ i. c ∷ two_at side i) (range_with_len 0 (side * side))) (range_with_len 0 side)
    (λ c. ap (map (λ t. c ∷ t)) (twos side l) ∙ map-map (λ t. c ∷ t) (two_at side) (range_with_len 0 (side * side)))
    ∙ (rows_joined (λ (c i : ℕ). c ∷ two_at side i) side (side * side) wide ∙ ap (λ (n : ℕ). map (triple_at side) (range_with_len 0 n)) (mul_comm side (side * side)))

-- those of a dimension
pub cells_are : (side dim : ℕ) → 0 < side → cells_in (tuples 3 side) dim ≡ map (triple_at side) (passing (λ p. eqb (dim_at side p) dim) (volume side))
cells_are side dim l = ap (filter (λ t. eqb (dim_of t) dim)) (triples side l) ∙ filter-map (λ t. eqb (dim_of t) dim) (triple_at side) (range_with_len 0 (volume side))

-- ---- the place of a triple

below_row : (side y z : ℕ) → y < side → z < side → y * side + z < side * side
below_row side y z a b = let m : suc y * side ≤ side * side = mul-le-mul_right side a in omega (arith, m)

pub triple_of : (side x y z : ℕ) → y < side → z < side → triple_at side (x * (side * side) + (y * side + z)) ≡ x ∷ y ∷ z ∷ []
triple_of side x y z a b =
    let r : ℕ = y * side + z in
    let l : y * side + z < side * side = below_row side y z a b in
    let q : (x * (side * side) + (y * side + z)) / (side * side) ≡ x = div-mul-add x (side * side) (y * side + z) l in
    let m : (x * (side * side) + (y * side + z)) % (side * side) ≡ y * side + z = mod-mul-add x (side * side) (y * side + z) l in
    ap (λ (n : ℕ). n ∷ ((x * (side * side) + (y * side + z)) % (side * side) / side) ∷ ((x * (side * side) + (y * side + z)) % (side * side) % side) ∷ []) q
    ∙ (ap (λ (n : ℕ). x ∷ (n / side) ∷ (n % side) ∷ []) m
    ∙ (ap (λ (n : ℕ). x ∷ n ∷ ((y * side + z) % side) ∷ []) (div-mul-add y side z b) ∙ ap (λ (n : ℕ). x ∷ y ∷ n ∷ []) (mod-mul-add y side z b)))

-- a place by its coordinates
pub place_is : (side place : ℕ) → place ≡ place / (side * side) * (side * side) + (place % (side * side) / side * side + place % (side * side) % side)
place_is side place =
    let a : place / (side * side) * (side * side) + place % (side * side) ≡ place = div-add-mod' place (side * side) in
    let b : place % (side * side) / side * side + place % (side * side) % side ≡ place % (side * side) = div-add-mod' (place % (side * side)) side in
    sym (ap (λ (n : ℕ). place / (side * side) * (side * side) + n) b ∙ a)

-- two places with the same triple are the same
pub triple_once : (side j k : ℕ) → triple_at side j ≡ triple_at side k → j ≡ k
triple_once side j k e =
    let a : j / (side * side) ≡ k / (side * side) = ap (λ (t : List ℕ). get_or t 0 0) e in
    let b : j % (side * side) / side ≡ k % (side * side) / side = ap (λ (t : List ℕ). get_or t 1 0) e in
    let c : j % (side * side) % side ≡ k % (side * side) % side = ap (λ (t : List ℕ). get_or t 2 0) e in
    place_is side j
    ∙ (ap (λ (n : ℕ). n * (side * side) + (j % (side * side) / side * side + j % (side * side) % side)) a
    ∙ (ap (λ (n : ℕ). k / (side * side) * (side * side) + (n * side + j % (side * side) % side)) b
    ∙ (ap (λ (n : ℕ). k / (side * side) * (side * side) + (k % (side * side) / side * side + n)) c ∙ sym (place_is side k))))
