use Rattle.cover_listing.proofs.OfCovers.{listings_are_of_covers}
use Rattle.cover_listing.proofs.laws.listings_are_of_covers.Goals as goal

pub returns : goal.returns
returns c = listings_are_of_covers c.listed_are_covers.ensures c.parts_are_regular.ensures c.chosen_is_good.ensures
