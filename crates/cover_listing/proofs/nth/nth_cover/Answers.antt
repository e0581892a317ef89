use Rattle.std.proofs.Common.{◌∙◌, sym}
use Rattle.cover_listing.proofs.Seeking.{bare-only}
use Rattle.cover_listing.proofs.nth.nth_cover.Goals as goal

pub returns-else-index-eq1 : goal.returns-else-index-eq1
returns-else-index-eq1 c = bare-only c.args.search.now c.args.budget c.args.index (sym c.table.ensures.columns ∙ (sym c.columns.ensures ∙ c.if-columns-eq0.true)) c.requires.first c.if-index-eq1.false
