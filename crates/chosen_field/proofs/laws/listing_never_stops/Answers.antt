use Rattle.chosen_field.proofs.ChosenGood.{listing_never_stops}
use Rattle.chosen_field.proofs.laws.listing_never_stops.Goals as goal

pub returns : goal.returns
returns c = listing_never_stops
