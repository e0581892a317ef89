use Rattle.std.proofs.Common.{◌-◌, take, subst}
use Rattle.live_laws.specs.Live.{is_listed}
use Rattle.cover_search.specs.Courses.{Stops, StopsListed, ahead}
use Rattle.cover_search.proofs.Units.{found-listed, table-listed}
use Rattle.cover_search.proofs.search.Search.next.Goals as goal

pub refill-requires-in-Listed-clause-table : goal.refill-requires-in-Listed-clause-table
refill-requires-in-Listed-clause-table c =
    let last = c.place-last.result in
    let new = c.place-last.new.self in
    let p = take c.place-last.result.length c.place-last.new.self.written in
    let stop : StopsListed c.self.inside.course c.place-last.new.self (c.args.budget.now - c.place-last.new.budget) (c.place-last.result.sheets, take c.place-last.result.length c.place-last.new.self.written) =
    subst
    (λ s. Stops c.self.inside.course c.place-last.new.self (c.args.budget.now - c.place-last.new.budget) c.place-last.new.budget (c.place-last.result.sheets, take c.place-last.result.length c.place-last.new.self.written) s)
    c.in-Listed.is c.place-last.ensures.stop in
    table-listed c.self.inside.course.relations c.place-last.result.sheets c.place-last.new.self.most c.self.inside.table.columns (take c.place-last.result.length c.place-last.new.self.written) c.written-in-Listed.result.now
    (found-listed (is_listed c.self.inside.course.relations) (take (c.args.budget.now - c.place-last.new.budget) (ahead c.self.inside.course)) (c.place-last.result.sheets, take c.place-last.result.length c.place-last.new.self.written) stop.found)
    c.place-last.ensures.last.range c.place-last.ensures.proper.most_sheets c.place-last.ensures.last.ranged c.self.invariant.columns c.written-in-Listed.ensures
