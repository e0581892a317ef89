use Rattle.std.proofs.Common.{◌≡◌, ◌≢◌, ◌≤◌, ◌<◌, ◌+◌, ◌-◌, ◌*◌, ◌^◌, ℕ, suc, List, length, take, drop, get_or, ap, sym, subst, arith}
use Rattle.std.proofs.lemmas.Result.{err_from_is_err_and}
use Rattle.std.proofs.lemmas.List.{take_rest}
use Rattle.std.proofs.lemmas.List.Elements.{All-take, All-drop}
use Rattle.number_lists.specs.Members.{In}
use Rattle.facet_reader.specs.Places.{Adds, IsCrowded, made_by}
use Rattle.facet_reader.proofs.Powers.{room-front, room-fits}
use Rattle.facet_reader.proofs.MadeSets.{adds-both, adds-same, crowded-later, made_first, made-more, made-head, made-heads, made-all}
use Rattle.facet_reader.proofs.listing.+push_sets.Goals as goal

-- the place of a head has room
head-room : (size high x : ℕ) → size ≢ 0 → x < 65536 → (high + 1) * 65536 ^ size ≤ 18446744073709551616 → (high * 65536 + x + 1) * 65536 ^ (size - 1) ≤ 18446744073709551616
head-room size high x some l h = let e : size ≡ suc (size - 1) = omega (arith, some) in room-front high x (size - 1) l (subst (λ (n : ℕ). (high + 1) * 65536 ^ n ≤ 18446744073709551616) e h)

-- what is made of the rest of a row
rest-is : (k place : ℕ) (row : List ℕ) (i : ℕ) → made_by k place (take (length row - (i + 1)) (drop (i + 1) row)) ≡ made_by k place (drop (i + 1) row)
rest-is k place row i = ap (made_by k place) (take_rest row (i + 1))

head-crowded : (size high : ℕ) (row old now : List ℕ) (i : ℕ) → size ≢ 0 → i < length row → Adds (made_first (size - 1) high row i) old now
    → IsCrowded (made_by (size - 1) (high * 65536 + get_or row i 0) (take (length row - (i + 1)) (drop (i + 1) row))) now → IsCrowded (made_by size high row) old
head-crowded size high row old now i some l h k =
    let e : suc (size - 1) ≡ size = omega (arith, some) in
    subst (λ (n : ℕ). IsCrowded (made_by n high row) old) e
    (crowded-later h (λ z j. made-heads (size - 1) high row i z (omega (arith, l)) j) (λ z j. made-head (size - 1) high row i z l j)
    (subst (λ (xs : List ℕ). IsCrowded xs now) (rest-is (size - 1) (high * 65536 + get_or row i 0) row i) k))

head-added : (k high : ℕ) (row old now new : List ℕ) (i : ℕ) → Adds (made_first k high row i) old now
    → Adds (made_by k (high * 65536 + get_or row i 0) (take (length row - (i + 1)) (drop (i + 1) row))) now new → Adds (made_first k high row (i + 1)) old new
head-added k high row old now new i h a =
    subst (λ (xs : List ℕ). Adds xs old new) (sym (made-more k high row i)) (adds-both h (subst (λ (xs : List ℕ). Adds xs now new) (rest-is k (high * 65536 + get_or row i 0) row i) a))

all-added : (size high : ℕ) (row old new : List ℕ) (i : ℕ) → size ≢ 0 → i ≤ length row → length row ≤ i → Adds (made_first (size - 1) high row i) old new → Adds (made_by size high row) old new
all-added size high row old new i some low l h =
    let e : suc (size - 1) ≡ size = omega (arith, some) in
    let q : i ≡ length row = omega (arith, low, l) in
    subst (λ (n : ℕ). Adds (made_by n high row) old new) e
    (adds-same (λ z j. made-heads (size - 1) high row i z low j) (λ z j. subst (λ (n : ℕ). In z (made_first (size - 1) high row n)) (sym q) (made-all (size - 1) high row z j)) h)

pub overflow_mul-place : goal.overflow_mul-place
overflow_mul-place t c =
    let x : ℕ = get_or c.args.row.now c.loop-index.index 0 in
    omega (arith, room-fits (c.args.high * 65536 + x) (c.args.size - 1) (head-room c.args.size c.args.high x c.if-size-eq0.false (c.requires.digits c.loop-index.index 0 c.loop-index-test.true) c.requires.room))

pub overflow_add-place : goal.overflow_add-place
overflow_add-place t c =
    let x : ℕ = get_or c.args.row.now c.loop-index.index 0 in
    omega (arith, room-fits (c.args.high * 65536 + x) (c.args.size - 1) (head-room c.args.size c.args.high x c.if-size-eq0.false (c.requires.digits c.loop-index.index 0 c.loop-index-test.true) c.requires.room))

pub push_sets-requires : goal.push_sets-requires
push_sets-requires t c =
    let x : ℕ = get_or c.args.row.now c.loop-index.index 0 in (
      omega (arith, c.decreases, c.if-size-eq0.false),
      (
        omega (arith, c.requires.size),
        (
          All-take (λ x. x < 65536) (length c.args.row.now - (c.loop-index.index + 1)) (drop (c.loop-index.index + 1) c.args.row.now) (All-drop (λ x. x < 65536) (c.loop-index.index + 1) c.args.row.now c.requires.digits),
          head-room c.args.size c.args.high x c.if-size-eq0.false (c.requires.digits c.loop-index.index 0 c.loop-index-test.true) c.requires.room,
        ),
      ),
    )

pub returns-in_err-push_sets-clause-many : goal.returns-in_err-push_sets-clause-many
returns-in_err-push_sets-clause-many t c =
    let p = err_from_is_err_and c.from_residual.result c.from_residual.ensures.1 in
    rw (p.1, p.2) (λ ne. head-crowded c.args.size c.args.high c.args.row.now c.args.places.now.items c.loop-index.places.items c.loop-index.index c.if-size-eq0.false c.loop-index-test.true c.loop-index.invariant (c.in_err-push_sets.ensures.many ne))

pub loop-index-preserved : goal.loop-index-preserved
loop-index-preserved t c =
    head-added (c.args.size - 1) c.args.high c.args.row.now c.args.places.now.items c.loop-index.places.items c.push_sets.new.places.items c.loop-index.index c.loop-index.invariant c.in_ok-push_sets.ensures.ok

pub returns-clause-ok : goal.returns-clause-ok
returns-clause-ok t c =
    all-added c.args.size c.args.high c.args.row.now c.args.places.now.items c.loop-index.places.items c.loop-index.index c.if-size-eq0.false c.loop-index.auto.index-end (omega (arith, c.loop-index-test.false)) c.loop-index.invariant
