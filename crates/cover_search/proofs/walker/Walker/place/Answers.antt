use Rattle.std.proofs.Common.{◌≡◌, ◌+◌, true, subst, sym, refl}
use Rattle.std.specs.Prelude.{slice_set}
use Rattle.cover_search.specs.Columns.{IsWalker}
use Rattle.cover_search.proofs.Passages.{partial_of}
use Rattle.live_laws.specs.Live.{may_follow}
use Rattle.cover_search.proofs.Placing.{placed}
use Rattle.cover_search.proofs.walker.Walker.place.Goals as goal

pub invariant_of-self : goal.invariant_of-self
invariant_of-self c = rw (c.put.ensures, c.put-2.ensures, c.larger.ensures)
    (placed c.self.inside.columns c.self.inside.sheets c.self.inside.most c.self.inside.at c.self.inside.cells.items c.self.inside.seen.items c.self.inside.forward.items c.self.inside.backward.items c.args.sheet _ _ _ c.self.invariant
    (subst (λ v. may_follow v.columns v.sheets v.cells c.args.sheet ≡ true) (sym c.self.view_is) c.requires) c.index.ensures refl refl)

pub returns-clause-valid : goal.returns-clause-valid
returns-clause-valid c =
    let w : IsWalker c.self.inside.columns c.self.inside.sheets c.self.inside.most (c.self.inside.at + 1) (slice_set c.self.inside.cells.items c.self.inside.at c.args.sheet)
    (slice_set c.self.inside.seen.items (c.self.inside.at + 1) c.larger.result) c.put.new.columns.items c.put-2.new.columns.items =
    rw (c.put.ensures, c.put-2.ensures, c.larger.ensures)
    (placed c.self.inside.columns c.self.inside.sheets c.self.inside.most c.self.inside.at c.self.inside.cells.items c.self.inside.seen.items c.self.inside.forward.items c.self.inside.backward.items c.args.sheet _ _ _ c.self.invariant
    (subst (λ v. may_follow v.columns v.sheets v.cells c.args.sheet ≡ true) (sym c.self.view_is) c.requires) c.index.ensures refl refl) in
    partial_of c.self.inside.columns c.self.inside.sheets c.self.inside.most (c.self.inside.at + 1) (slice_set c.self.inside.cells.items c.self.inside.at c.args.sheet)
    (slice_set c.self.inside.seen.items (c.self.inside.at + 1) c.larger.result) c.put.new.columns.items c.put-2.new.columns.items w
