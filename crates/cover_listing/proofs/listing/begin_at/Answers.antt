use Rattle.std.proofs.Common.{◌∙◌, Some, ap, sym, []}
use Rattle.std.proofs.lemmas.Result.{IfOk-weaker}
use Rattle.edge_words.specs.Words.{relations_of}
use Rattle.live_laws.specs.Live.{Position}
use Rattle.cover_search.specs.Searches.{at, begun}
use Rattle.cover_listing.proofs.Starting.{begun-at}
use Rattle.cover_listing.proofs.listing.begin_at.Goals as goal

pub returns-else-index-eq0-clause-search : goal.returns-else-index-eq0-clause-search
returns-else-index-eq0-clause-search c =
    IfOk-weaker c.new-else-index-eq0-2.result _ _
    (λ search h. begun-at c.args.sheets (at c.args.from.now) c.args.presentations.now c.args.index c.index-presentations-index.result c.if-index-eq0.false c.requires.index
    ∙ ap Some (ap (λ p. begun (relations_of p) c.args.sheets (0, [])) (sym c.index-presentations-index.is)
    ∙ sym (h ∙ ap (λ (t : Position). begun (relations_of c.index-presentations-index.result) c.args.sheets t) (ap at c.start.ensures))))
    c.new-else-index-eq0-2.ensures.search
