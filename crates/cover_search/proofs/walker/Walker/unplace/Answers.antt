use Rattle.std.proofs.Common.{◌≡◌, ◌<◌, ◌-◌, ◌+◌, subst, sym, refl, arith, length}
use Rattle.cover_search.specs.Columns.{IsWalker}
use Rattle.cover_search.proofs.Passages.{partial_of}
use Rattle.cover_search.proofs.Placing.{unplaced, some_cell, last_sheet}
use Rattle.cover_search.proofs.walker.Walker.unplace.Goals as goal

pub overflow_sub-sheet : goal.overflow_sub-sheet
overflow_sub-sheet c =
    let some : 0 < c.self.inside.at = some_cell c.self.inside.at c.self.inside.cells.items (subst (λ v. 0 < length v.cells) (sym c.self.view_is) c.requires) in
    (last_sheet c.self.inside.columns c.self.inside.sheets c.self.inside.most c.self.inside.at c.self.inside.cells.items c.self.inside.seen.items c.self.inside.forward.items c.self.inside.backward.items _ c.self.invariant some c.index-sheet.ensures).0

pub put-requires-2-clause-sheet : goal.put-requires-2-clause-sheet
put-requires-2-clause-sheet c =
    let some : 0 < c.self.inside.at = some_cell c.self.inside.at c.self.inside.cells.items (subst (λ v. 0 < length v.cells) (sym c.self.view_is) c.requires) in
    let h = last_sheet c.self.inside.columns c.self.inside.sheets c.self.inside.most c.self.inside.at c.self.inside.cells.items c.self.inside.seen.items c.self.inside.forward.items c.self.inside.backward.items _ c.self.invariant some c.index-sheet.ensures in
    omega (arith, h.0, h.1, c.self.invariant.most)

pub invariant_of-self : goal.invariant_of-self
invariant_of-self c =
    let some : 0 < c.self.inside.at = some_cell c.self.inside.at c.self.inside.cells.items (subst (λ v. 0 < length v.cells) (sym c.self.view_is) c.requires) in
    let h = last_sheet c.self.inside.columns c.self.inside.sheets c.self.inside.most c.self.inside.at c.self.inside.cells.items c.self.inside.seen.items c.self.inside.forward.items c.self.inside.backward.items _ c.self.invariant some c.index-sheet.ensures in
    let next : c.self.inside.at ≡ c.self.inside.at - 1 + 1 = omega arith in
    rw (c.put.ensures, c.put-2.ensures)
    (unplaced c.self.inside.columns c.self.inside.sheets c.self.inside.most (c.self.inside.at - 1) c.self.inside.at c.self.inside.cells.items c.self.inside.seen.items c.self.inside.forward.items c.self.inside.backward.items _ _ _ c.self.invariant next h.2 refl refl)

pub returns-clause-valid : goal.returns-clause-valid
returns-clause-valid c =
    let some : 0 < c.self.inside.at = some_cell c.self.inside.at c.self.inside.cells.items (subst (λ v. 0 < length v.cells) (sym c.self.view_is) c.requires) in
    let h = last_sheet c.self.inside.columns c.self.inside.sheets c.self.inside.most c.self.inside.at c.self.inside.cells.items c.self.inside.seen.items c.self.inside.forward.items c.self.inside.backward.items _ c.self.invariant some c.index-sheet.ensures in
    let next : c.self.inside.at ≡ c.self.inside.at - 1 + 1 = omega arith in
    let w : IsWalker c.self.inside.columns c.self.inside.sheets c.self.inside.most (c.self.inside.at - 1) c.self.inside.cells.items c.self.inside.seen.items c.put.new.columns.items c.put-2.new.columns.items =
    rw (c.put.ensures, c.put-2.ensures)
    (unplaced c.self.inside.columns c.self.inside.sheets c.self.inside.most (c.self.inside.at - 1) c.self.inside.at c.self.inside.cells.items c.self.inside.seen.items c.self.inside.forward.items c.self.inside.backward.items _ _ _ c.self.invariant next h.2 refl refl) in
    partial_of c.self.inside.columns c.self.inside.sheets c.self.inside.most (c.self.inside.at - 1) c.self.inside.cells.items c.self.inside.seen.items c.put.new.columns.items c.put-2.new.columns.items w
