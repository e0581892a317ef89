use Rattle.std.proofs.Common.{sym, ◌∙◌, arith}
use Rattle.std.proofs.lemmas.List.{take_rest}
use Rattle.hap_outside.proofs.OpenEntry.{rest_of_open}
use Rattle.hap_outside.proofs.entries.rest_at.Goals as goal

pub offset_bounds-entries-place : goal.offset_bounds-entries-place
offset_bounds-entries-place c = let at = c.requires c.in-Some.place c.in-Some.is in omega (arith, at.0)

pub bounds-entries-place : goal.bounds-entries-place
bounds-entries-place c = (c.requires c.in-Some.place c.in-Some.is).0

pub slice_bounds-result-count : goal.slice_bounds-result-count
slice_bounds-result-count c =
    (rest_of_open c.args.entries.now _ _ _ c.index-entries-place.result c.deref.result.now c.requires c.in-Some.is c.deref.ensures.value).0

pub slice_bounds-result-start : goal.slice_bounds-result-start
slice_bounds-result-start c =
    let rest = rest_of_open c.args.entries.now c.args.open_at c.in-Some.place c.args.taken c.index-entries-place.result c.deref.result.now c.requires c.in-Some.is c.deref.ensures.value in
    omega (arith, rest.0)

pub returns-in-Some-clause-rest : goal.returns-in-Some-clause-rest
returns-in-Some-clause-rest c =
    take_rest c.deref.result.now c.args.taken ∙ sym (rest_of_open c.args.entries.now _ _ _ c.index-entries-place.result c.deref.result.now c.requires c.in-Some.is c.deref.ensures.value).1
