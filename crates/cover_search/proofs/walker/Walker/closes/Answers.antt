use Rattle.std.proofs.Common.{ap, ◌∙◌, get_or}
use Rattle.std.specs.Prelude.{◌==◌}
use Rattle.std.specs.List.{list_all}
use Rattle.live_laws.specs.Trees.{from}
use Rattle.cover_search.proofs.Walking.{kept_at_once}
use Rattle.cover_search.proofs.walker.Walker.closes.Goals as goal

pub returns-in-Some : goal.returns-in-Some
returns-in-Some c = c.stays.ensures ∙ (ap (λ m. list_all (λ s. get_or c.in-Some.ends s 0 == s) (from 0 m)) c.sheets.ensures.sheets
    ∙ kept_at_once c.args.self.now c.args.word.now c.in-Some.ends c.sheets.ensures.valid c.in-Some.ensures)
