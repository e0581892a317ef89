use Rattle.std.proofs.Common.{◌≡◌, ◌≢◌, ◌≤◌, ◌<◌, ◌+◌, ◌-◌, ◌*◌, ◌^◌, ◌++◌, [], ℕ, suc, List, length, get_or, ap, sym, ◌∙◌, subst, arith, All}
use Rattle.std.specs.List.{flat_map}
use Rattle.std.proofs.lemmas.Result.{err_from_is_err_and}
use Rattle.std.proofs.lemmas.List.{take_all, length-append}
use Rattle.facet_reader.specs.Chains.{row_at, places_from}
use Rattle.facet_reader.proofs.Powers.{room-front, room-fits}
use Rattle.facet_reader.proofs.ChainPlaces.{places_first, first-length}
use Rattle.facet_reader.proofs.chains.+push_chains.Goals as goal

-- the place of a head has room
head-room : (size high x : ℕ) → size ≢ 0 → x < 65536 → (high + 1) * 65536 ^ size ≤ 18446744073709551616 → (high * 65536 + x + 1) * 65536 ^ (size - 1) ≤ 18446744073709551616
head-room size high x some l h = let e : size ≡ suc (size - 1) = omega (arith, some) in room-front high x (size - 1) l (subst (λ (n : ℕ). (high + 1) * 65536 ^ n ≤ 18446744073709551616) e h)

-- a head among the points
point-low : (n k : ℕ) (next : List ℕ) → n ≤ 60000 → All (λ x. (1 ≤ x) × (x ≤ n)) next → k < length next → get_or next k 0 < 65536
point-low n k next few h l = let r = h k 0 l in omega (arith, r.1, few)

rest-is : (above : List (List ℕ)) (n x : ℕ) (rest : List ℕ) → n ≡ length above → rest ≡ get_or above (n - x) [] → rest ≡ row_at above x
rest-is above n x rest e h = h ∙ ap (λ (k : ℕ). get_or above (k - x) []) e

rest-points : (above : List (List ℕ)) (x : ℕ) (rest : List ℕ) → All (All (λ y. (1 ≤ y) × (y ≤ length above))) above → 1 ≤ x → x ≤ length above → rest ≡ row_at above x → All (λ y. (1 ≤ y) × (y ≤ length above)) rest
rest-points above x rest h low high e = subst (All (λ y. (1 ≤ y) × (y ≤ length above))) (sym e) (h (length above - x) [] (omega (arith, low, high)))

head-many : (above : List (List ℕ)) (size high : ℕ) (next rest old now : List ℕ) (i : ℕ) → size ≢ 0 → i < length next → rest ≡ row_at above (get_or next i 0) → now ≡ old ++ places_first above (size - 1) high next i
    → 60000 < length now + length (places_from above (size - 1) (high * 65536 + get_or next i 0) rest) → 60000 < length old + length (places_from above size high next)
head-many above size high next rest old now i some l is h many =
    let e : suc (size - 1) ≡ size = omega (arith, some) in
    omega (
      arith,
      many,
      ap (λ (xs : List ℕ). length xs) h,
      length-append old (places_first above (size - 1) high next i),
      ap (λ (xs : List ℕ). length (places_from above (size - 1) (high * 65536 + get_or next i 0) xs)) is,
      first-length above (size - 1) high next i l,
      ap (λ (k : ℕ). length (places_from above k high next)) e,
    )

all-listed : (above : List (List ℕ)) (size high : ℕ) (next old now : List ℕ) (i : ℕ) → size ≢ 0 → length next ≤ i → now ≡ old ++ places_first above (size - 1) high next i → now ≡ old ++ places_from above size high next
all-listed above size high next old now i some l h =
    let e : suc (size - 1) ≡ size = omega (arith, some) in
    h
    ∙ (ap (λ (xs : List ℕ). old ++ flat_map (λ x. places_from above (size - 1) (high * 65536 + x) (row_at above x)) xs) (take_all i next l)
    ∙ ap (λ (k : ℕ). old ++ places_from above k high next) e)

pub overflow_mul-place : goal.overflow_mul-place
overflow_mul-place t c =
    let x : ℕ = get_or c.args.next.now c.loop-point.point-index 0 in
    omega (arith, room-fits (c.args.high * 65536 + x) (c.args.size - 1) (head-room c.args.size c.args.high x c.if-size-eq0.false (point-low (length c.args.above.now) c.loop-point.point-index c.args.next.now c.requires.few c.requires.next c.loop-point-test.true) c.requires.room))

pub overflow_add-place : goal.overflow_add-place
overflow_add-place t c =
    let x : ℕ = get_or c.args.next.now c.loop-point.point-index 0 in
    omega (arith, room-fits (c.args.high * 65536 + x) (c.args.size - 1) (head-room c.args.size c.args.high x c.if-size-eq0.false (point-low (length c.args.above.now) c.loop-point.point-index c.args.next.now c.requires.few c.requires.next c.loop-point-test.true) c.requires.room))

pub push_chains-requires : goal.push_chains-requires
push_chains-requires t c =
    let x : ℕ = get_or c.args.next.now c.loop-point.point-index 0 in
    let p = c.requires.next c.loop-point.point-index 0 c.loop-point-test.true in (
      omega (arith, c.decreases, c.if-size-eq0.false),
      (
        omega (arith, c.requires.size),
        (
          c.requires.few,
          (
            c.requires.points,
            (
              rest-points c.args.above.now x c.get-rest.result.now c.requires.points p.0 p.1 (rest-is c.args.above.now c.len.result x c.get-rest.result.now c.len.ensures c.get-rest.ensures),
              (
                head-room c.args.size c.args.high x c.if-size-eq0.false (point-low (length c.args.above.now) c.loop-point.point-index c.args.next.now c.requires.few c.requires.next c.loop-point-test.true) c.requires.room,
                c.loop-point.invariant.few,
              ),
            ),
          ),
        ),
      ),
    )

pub returns-in_err-push_chains-clause-many : goal.returns-in_err-push_chains-clause-many
returns-in_err-push_chains-clause-many t c =
    let p = err_from_is_err_and c.from_residual.result c.from_residual.ensures.1 in
    let x : ℕ = get_or c.args.next.now c.loop-point.point-index 0 in
    rw (p.1, p.2) (λ ne. head-many c.args.above.now c.args.size c.args.high c.args.next.now c.get-rest.result.now c.args.places.now.items c.loop-point.places.items c.loop-point.point-index c.if-size-eq0.false c.loop-point-test.true
    (rest-is c.args.above.now c.len.result x c.get-rest.result.now c.len.ensures c.get-rest.ensures) c.loop-point.invariant.places (c.in_err-push_chains.ensures.many ne))

pub returns-clause-ok : goal.returns-clause-ok
returns-clause-ok t c =
    all-listed c.args.above.now c.args.size c.args.high c.args.next.now c.args.places.now.items c.loop-point.places.items c.loop-point.point-index c.if-size-eq0.false (omega (arith, c.loop-point-test.false)) c.loop-point.invariant.places
