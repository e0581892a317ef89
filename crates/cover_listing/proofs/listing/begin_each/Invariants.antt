use Rattle.std.proofs.Common.{◌≡◌, ◌≤◌, take, map}
use Rattle.edge_words.specs.Words.{relations_of}
use Rattle.cover_search.specs.Searches.{at}
use Rattle.cover_listing.specs.Listings.{CanBegin}
use Rattle.cover_listing.specs.Passes.{begun_each}
use Rattle.cover_listing.proofs.listing.begin_each.Given as goal

abbrev pub invariant-loop-index : goal.invariant-loop-index
invariant-loop-index l = record {
  searches : l.searches.items ≡ take l.index (begun_each l.sheets (at l.from) (map relations_of l.presentations));
  begins : 1 ≤ l.index → CanBegin (map relations_of l.presentations) l.sheets (at l.from);
}
