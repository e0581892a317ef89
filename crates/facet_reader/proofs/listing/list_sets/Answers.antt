use Rattle.std.proofs.Common.{◌<◌, ℕ, List, [], length, sym, subst, arith}
use Rattle.std.proofs.lemmas.Result.{err_from_is_err_and}
use Rattle.facet_reader.specs.Places.{Adds, IsCrowded, made_by}
use Rattle.facet_reader.proofs.Powers.{power-most}
use Rattle.facet_reader.proofs.MadeSets.{adds-both}
use Rattle.facet_reader.proofs.FacePlaces.{made-in-more, sets-listed, sets-crowded, sets-many, all_rows, made-in-again}
use Rattle.facet_reader.proofs.listing.list_sets.Goals as goal

pub push_sets-requires-clause-room : goal.push_sets-requires-clause-room
push_sets-requires-clause-room c = power-most c.args.size c.requires.high

pub returns-in_err-push_sets-clause-many : goal.returns-in_err-push_sets-clause-many
returns-in_err-push_sets-clause-many c =
    let p = err_from_is_err_and c.from_residual.result c.from_residual.ensures.1 in
    let lt : c.loop-index.index < length c.args.rows.now = omega (arith, c.len-index-end.ensures, c.loop-index-test.true) in
    rw (p.1, p.2) (λ ne n are. sets-crowded n c.args.rows.now c.args.size c.loop-index.places.items c.loop-index.index are c.requires.low lt c.loop-index.invariant
    (subst (λ (row : List ℕ). IsCrowded (made_by c.args.size 0 row) c.loop-index.places.items) c.get.ensures (c.in_err-push_sets.ensures.many ne)))

pub loop-index-preserved : goal.loop-index-preserved
loop-index-preserved c =
    let lt : c.loop-index.index < length c.args.rows.now = omega (arith, c.len-index-end.ensures, c.loop-index-test.true) in
    subst (λ (xs : List ℕ). Adds xs [] c.push_sets.new.places.items) (sym (made-in-more c.args.size c.args.rows.now c.loop-index.index lt))
    (adds-both c.loop-index.invariant (subst (λ (row : List ℕ). Adds (made_by c.args.size 0 row) c.loop-index.places.items c.push_sets.new.places.items) c.get.ensures c.in_ok-push_sets.ensures.ok))

pub returns-then-len-gt-MOST_CELLS-clause-many : goal.returns-then-len-gt-MOST_CELLS-clause-many
returns-then-len-gt-MOST_CELLS-clause-many c =
    λ _ n are. sets-many n c.args.rows.now c.args.size c.loop-index.places.items c.sort_indexes_once.new.indexes.items are c.requires.low
    (all_rows c.args.size c.args.rows.now c.loop-index.index c.loop-index.places.items (omega (arith, c.len-index-end.ensures, c.loop-index-test.false)) c.loop-index.invariant)
    c.sort_indexes_once.ensures.rises c.sort_indexes_once.ensures.adds_none (omega (arith, c.len.ensures, c.if-len-gt-MOST_CELLS.true))

pub returns-clause-sets : goal.returns-clause-sets
returns-clause-sets c =
    λ n are small. sets-listed n c.args.rows.now c.args.size c.loop-index.places.items c.sort_indexes_once.new.indexes.items are small c.requires.low
    (all_rows c.args.size c.args.rows.now c.loop-index.index c.loop-index.places.items (omega (arith, c.len-index-end.ensures, c.loop-index-test.false)) c.loop-index.invariant)
    c.sort_indexes_once.ensures.rises c.sort_indexes_once.ensures.keeps c.sort_indexes_once.ensures.adds_none

pub loop-index-preserved-then-is_repeated : goal.loop-index-preserved-then-is_repeated
loop-index-preserved-then-is_repeated c =
    let lt : c.loop-index.index < length c.args.rows.now = omega (arith, c.len-index-end.ensures, c.loop-index-test.true) in
    let r = c.is_repeated.ensures c.if-is_repeated.true in
    made-in-again c.args.size c.args.rows.now c.loop-index.index c.loop-index.places.items lt r.0 r.1 c.loop-index.invariant
