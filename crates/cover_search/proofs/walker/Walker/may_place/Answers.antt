use Rattle.std.proofs.Common.{◌<◌, ◌*◌, ap, ◌∙◌, arith}
use Rattle.live_laws.specs.Live.{may_follow}
use Rattle.cover_search.proofs.Walking.{may_at}
use Rattle.cover_search.proofs.walker.Walker.may_place.Goals as goal

pub returns : goal.returns
returns c =
    let lt : c.self.inside.at < c.self.inside.sheets * c.self.inside.columns = omega (arith, c.self.invariant.within, c.if-self.false) in
    let some : 0 < c.args.sheet = omega arith in
    may_at c.self.inside.columns c.self.inside.sheets c.self.inside.most c.self.inside.at c.self.inside.cells.items c.self.inside.seen.items c.self.inside.forward.items c.self.inside.backward.items
    c.args.sheet c.index-seen.result.now c.index.result.now c.self.invariant lt some c.if-sheet-self.false c.index-seen.ensures c.if-sheet-seen.false c.if-row-seen.false c.index.ensures
    ∙ ap (λ v. may_follow v.columns v.sheets v.cells c.args.sheet) c.self.view_is
