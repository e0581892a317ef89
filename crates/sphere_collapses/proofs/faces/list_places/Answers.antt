use Rattle.std.proofs.Common.{◌+◌, take, sym, subst}
use Rattle.sphere_collapses.specs.Places.{ArePlaces}
use Rattle.sphere_collapses.proofs.Lists.{places-begun, places-more, places_all}
use Rattle.sphere_collapses.proofs.faces.list_places.Goals as goal

pub loop-number-init : goal.loop-number-init
loop-number-init c = places-begun c.args.sorted.now c.args.numbers.now c.clear.new.self.items c.clear.ensures.items

pub place_of-requires-clause-there : goal.place_of-requires-clause-there
place_of-requires-clause-there c = c.requires.there c.loop-number.number-index 0 c.loop-number-test.true

pub loop-number-preserved : goal.loop-number-preserved
loop-number-preserved c =
    subst (ArePlaces c.args.sorted.now (take (c.loop-number.number-index + 1) c.args.numbers.now)) (sym c.in_ok-push.ensures.items)
    (places-more c.args.sorted.now c.args.numbers.now c.loop-number.places.items c.loop-number.number-index c.place_of.result c.loop-number-test.true c.loop-number.invariant c.place_of.ensures.number c.place_of.ensures.first c.place_of.ensures.last)

pub returns : goal.returns
returns c = places_all c.args.sorted.now c.args.numbers.now c.loop-number.places.items c.loop-number.number-index c.loop-number-test.false c.loop-number.invariant
