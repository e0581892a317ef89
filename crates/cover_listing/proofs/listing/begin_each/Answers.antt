use Rattle.std.proofs.Common.{◌∙◌, ◌++◌, ◌∷◌, [], ap, sym, map, arith}
use Rattle.std.proofs.lemmas.List.{length-map}
use Rattle.edge_words.specs.Words.{relations_of}
use Rattle.live_laws.specs.Live.{Relations}
use Rattle.cover_search.specs.Searches.{at}
use Rattle.cover_listing.specs.Listings.{CanBegin}
use Rattle.cover_listing.proofs.Going.{all-taken, taken-more, by-first}
use Rattle.cover_listing.proofs.listing.begin_each.Goals as goal

pub loop-index-preserved : goal.loop-index-preserved
loop-index-preserved c = record {
  searches = c.in_ok-push.ensures.items ∙ (ap (λ xs. xs ++ c.in_ok-begin_at.field-0 ∷ []) c.loop-index.invariant.searches
      ∙ sym (taken-more c.args.sheets (at c.args.from.now) (map relations_of c.args.presentations.now) c.loop-index.index c.in_ok-begin_at.field-0
      (let l = length-map {B = Relations} c.args.presentations.now relations_of in let t = c.loop-index-test.true in omega (arith, l, t)) c.in_ok-begin_at.ensures.search));
  begins = λ _. by-first (CanBegin (map relations_of c.args.presentations.now) c.args.sheets (at c.args.from.now)) c.loop-index.index c.in_ok-begin_at.ensures.begins c.loop-index.invariant.begins;
}

pub returns-clause-searches : goal.returns-clause-searches
returns-clause-searches c =
    c.loop-index.invariant.searches ∙ all-taken c.args.sheets (at c.args.from.now) (map relations_of c.args.presentations.now) c.loop-index.index
    (let l = length-map {B = Relations} c.args.presentations.now relations_of in grind (arith, l, c.loop-index-test.false))
