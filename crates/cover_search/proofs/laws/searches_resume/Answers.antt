use Rattle.cover_search.proofs.Resuming.{searches_resume}
use Rattle.cover_search.proofs.laws.searches_resume.Goals as goal

pub returns : goal.returns
returns c = searches_resume c.runs_join.ensures c.live_tables_are_in_order.ensures.behind
