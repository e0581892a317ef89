use Rattle.std.proofs.Common.{ℕ, List, ap, ◌∙◌, arith}
use Rattle.regular_check.specs.Components.{Numbering}
use Rattle.space_parts.specs.Listings.{grouped, own_places}
use Rattle.space_parts.proofs.Given.{given, given_within, given_few, four_lists, listing}
use Rattle.space_parts.proofs.listing.Listing.new.Goals as goal

pub group-requires-clause-within : goal.group-requires-clause-within
group-requires-clause-within c =
    given_within c.args.space.now 0 c.count-count.result c.deref-4.result.now
    (given c.args.space.now 0 c.count-count.result c.args.components.now c.deref-4.result.now c.in_ok-vertices.vertices.items c.requires.components c.count-count.ensures c.deref-4.ensures.value c.in_ok-vertices.ensures) c.requires.valid c.components_are_numbered.ensures

pub group-requires-clause-few : goal.group-requires-clause-few
group-requires-clause-few c =
    given_few c.args.space.now 0 c.count-count.result c.deref-4.result.now
    (given c.args.space.now 0 c.count-count.result c.args.components.now c.deref-4.result.now c.in_ok-vertices.vertices.items c.requires.components c.count-count.ensures c.deref-4.ensures.value c.in_ok-vertices.ensures) c.requires.limited (omega arith)

pub group-requires-2-clause-within : goal.group-requires-2-clause-within
group-requires-2-clause-within c =
    given_within c.args.space.now 1 c.count-count.result c.deref-5.result.now
    (given c.args.space.now 1 c.count-count.result c.args.components.now c.deref-5.result.now c.in_ok-edges.edges.items c.requires.components c.count-count.ensures c.deref-5.ensures.value c.in_ok-edges.ensures) c.requires.valid c.components_are_numbered.ensures

pub group-requires-2-clause-few : goal.group-requires-2-clause-few
group-requires-2-clause-few c =
    given_few c.args.space.now 1 c.count-count.result c.deref-5.result.now
    (given c.args.space.now 1 c.count-count.result c.args.components.now c.deref-5.result.now c.in_ok-edges.edges.items c.requires.components c.count-count.ensures c.deref-5.ensures.value c.in_ok-edges.ensures) c.requires.limited (omega arith)

pub group-requires-3-clause-within : goal.group-requires-3-clause-within
group-requires-3-clause-within c =
    given_within c.args.space.now 2 c.count-count.result c.deref-6.result.now
    (given c.args.space.now 2 c.count-count.result c.args.components.now c.deref-6.result.now c.in_ok-disks.disks.items c.requires.components c.count-count.ensures c.deref-6.ensures.value c.in_ok-disks.ensures) c.requires.valid c.components_are_numbered.ensures

pub group-requires-3-clause-few : goal.group-requires-3-clause-few
group-requires-3-clause-few c =
    given_few c.args.space.now 2 c.count-count.result c.deref-6.result.now
    (given c.args.space.now 2 c.count-count.result c.args.components.now c.deref-6.result.now c.in_ok-disks.disks.items c.requires.components c.count-count.ensures c.deref-6.ensures.value c.in_ok-disks.ensures) c.requires.limited (omega arith)

pub group-requires-4-clause-within : goal.group-requires-4-clause-within
group-requires-4-clause-within c =
    given_within c.args.space.now 3 c.count-count.result c.deref-7.result.now
    (given c.args.space.now 3 c.count-count.result c.args.components.now c.deref-7.result.now c.in_ok-solids.solids.items c.requires.components c.count-count.ensures c.deref-7.ensures.value c.in_ok-solids.ensures) c.requires.valid c.components_are_numbered.ensures

pub group-requires-4-clause-few : goal.group-requires-4-clause-few
group-requires-4-clause-few c =
    given_few c.args.space.now 3 c.count-count.result c.deref-7.result.now
    (given c.args.space.now 3 c.count-count.result c.args.components.now c.deref-7.result.now c.in_ok-solids.solids.items c.requires.components c.count-count.ensures c.deref-7.ensures.value c.in_ok-solids.ensures) c.requires.limited (omega arith)

pub number_places-requires-clause-within : goal.number_places-requires-clause-within
number_places-requires-clause-within c =
    given_within c.args.space.now 0 c.count-count.result c.deref-8.result.now
    (given c.args.space.now 0 c.count-count.result c.args.components.now c.deref-8.result.now c.in_ok-vertices.vertices.items c.requires.components c.count-count.ensures c.deref-8.ensures.value c.in_ok-vertices.ensures) c.requires.valid c.components_are_numbered.ensures

pub number_places-requires-clause-few : goal.number_places-requires-clause-few
number_places-requires-clause-few c =
    given_few c.args.space.now 0 c.count-count.result c.deref-8.result.now
    (given c.args.space.now 0 c.count-count.result c.args.components.now c.deref-8.result.now c.in_ok-vertices.vertices.items c.requires.components c.count-count.ensures c.deref-8.ensures.value c.in_ok-vertices.ensures) c.requires.limited (omega arith)

pub number_places-requires-2-clause-within : goal.number_places-requires-2-clause-within
number_places-requires-2-clause-within c =
    given_within c.args.space.now 1 c.count-count.result c.deref-10.result.now
    (given c.args.space.now 1 c.count-count.result c.args.components.now c.deref-10.result.now c.in_ok-edges.edges.items c.requires.components c.count-count.ensures c.deref-10.ensures.value c.in_ok-edges.ensures) c.requires.valid c.components_are_numbered.ensures

pub number_places-requires-2-clause-few : goal.number_places-requires-2-clause-few
number_places-requires-2-clause-few c =
    given_few c.args.space.now 1 c.count-count.result c.deref-10.result.now
    (given c.args.space.now 1 c.count-count.result c.args.components.now c.deref-10.result.now c.in_ok-edges.edges.items c.requires.components c.count-count.ensures c.deref-10.ensures.value c.in_ok-edges.ensures) c.requires.limited (omega arith)

pub number_places-requires-3-clause-within : goal.number_places-requires-3-clause-within
number_places-requires-3-clause-within c =
    given_within c.args.space.now 2 c.count-count.result c.deref-12.result.now
    (given c.args.space.now 2 c.count-count.result c.args.components.now c.deref-12.result.now c.in_ok-disks.disks.items c.requires.components c.count-count.ensures c.deref-12.ensures.value c.in_ok-disks.ensures) c.requires.valid c.components_are_numbered.ensures

pub number_places-requires-3-clause-few : goal.number_places-requires-3-clause-few
number_places-requires-3-clause-few c =
    given_few c.args.space.now 2 c.count-count.result c.deref-12.result.now
    (given c.args.space.now 2 c.count-count.result c.args.components.now c.deref-12.result.now c.in_ok-disks.disks.items c.requires.components c.count-count.ensures c.deref-12.ensures.value c.in_ok-disks.ensures) c.requires.limited (omega arith)

pub number_places-requires-4-clause-within : goal.number_places-requires-4-clause-within
number_places-requires-4-clause-within c =
    given_within c.args.space.now 3 c.count-count.result c.deref-14.result.now
    (given c.args.space.now 3 c.count-count.result c.args.components.now c.deref-14.result.now c.in_ok-solids.solids.items c.requires.components c.count-count.ensures c.deref-14.ensures.value c.in_ok-solids.ensures) c.requires.valid c.components_are_numbered.ensures

pub number_places-requires-4-clause-few : goal.number_places-requires-4-clause-few
number_places-requires-4-clause-few c =
    given_few c.args.space.now 3 c.count-count.result c.deref-14.result.now
    (given c.args.space.now 3 c.count-count.result c.args.components.now c.deref-14.result.now c.in_ok-solids.solids.items c.requires.components c.count-count.ensures c.deref-14.ensures.value c.in_ok-solids.ensures) c.requires.limited (omega arith)

pub returns : goal.returns
returns c =
    listing c.args.space.now c.count-count.result c.in_ok-group.field-0 c.in_ok-group-2.field-0 c.in_ok-group-3.field-0 c.in_ok-group-4.field-0 c.push-4.new.self c.in_ok-vertices.vertices.items c.in_ok-edges.edges.items c.in_ok-disks.disks.items c.in_ok-solids.solids.items
    c.deref-9.result.now c.deref-11.result.now c.deref-13.result.now c.deref-15.result.now c.in_ok-number_places.field-0.items c.in_ok-number_places-2.field-0.items c.in_ok-number_places-3.field-0.items c.in_ok-number_places-4.field-0.items
    (record { numbers_are = c.in_ok-vertices.ensures; number_is = c.count-count.ensures ∙ ap (λ (x : Numbering). x.count) c.requires.components })
    (record { numbers_are = c.in_ok-edges.ensures; number_is = c.count-count.ensures ∙ ap (λ (x : Numbering). x.count) c.requires.components })
    (record { numbers_are = c.in_ok-disks.ensures; number_is = c.count-count.ensures ∙ ap (λ (x : Numbering). x.count) c.requires.components })
    (record { numbers_are = c.in_ok-solids.ensures; number_is = c.count-count.ensures ∙ ap (λ (x : Numbering). x.count) c.requires.components })
    (c.in_ok-group.ensures ∙ ap (λ (xs : List ℕ). grouped xs c.count-count.result) c.deref-4.ensures.value)
    (c.in_ok-group-2.ensures ∙ ap (λ (xs : List ℕ). grouped xs c.count-count.result) c.deref-5.ensures.value)
    (c.in_ok-group-3.ensures ∙ ap (λ (xs : List ℕ). grouped xs c.count-count.result) c.deref-6.ensures.value)
    (c.in_ok-group-4.ensures ∙ ap (λ (xs : List ℕ). grouped xs c.count-count.result) c.deref-7.ensures.value)
    (four_lists c.new-places.result c.push.new.self c.push-2.new.self c.push-3.new.self c.push-4.new.self c.deref-9.result.now c.deref-11.result.now c.deref-13.result.now c.deref-15.result.now c.new-places.ensures c.in_ok-push.ensures.ok c.in_ok-push-2.ensures.ok c.in_ok-push-3.ensures.ok c.in_ok-push-4.ensures.ok)
    c.deref-9.ensures.value c.deref-11.ensures.value c.deref-13.ensures.value c.deref-15.ensures.value
    (c.in_ok-number_places.ensures ∙ ap own_places c.deref-8.ensures.value)
    (c.in_ok-number_places-2.ensures ∙ ap own_places c.deref-10.ensures.value)
    (c.in_ok-number_places-3.ensures ∙ ap own_places c.deref-12.ensures.value)
    (c.in_ok-number_places-4.ensures ∙ ap own_places c.deref-14.ensures.value)
