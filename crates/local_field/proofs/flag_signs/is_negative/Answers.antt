use Rattle.std.proofs.Common.{ℕ, ◌-◌, Bool, false, get_or, ap, sym, ◌∙◌, subst, arith}
use Rattle.number_lists.specs.Members.{In}
use Rattle.number_lists.proofs.CallerLemmas.{Contains-In, In-Contains}
use Rattle.face_poset.specs.Poset.{count, facets_of}
use Rattle.local_field.specs.Flags.{other_sign, is_odd, flag_negative, cell_at_place}
use Rattle.local_field.proofs.FlagSigns.{number-at, as-many}
use Rattle.local_field.proofs.SignsByPlace.{facet-in}
use Rattle.local_field.proofs.flag_signs.is_negative.Goals as goal

pub cell-side-requires-clause-first : goal.cell-side-requires-clause-first
cell-side-requires-clause-first g c = (facet-in (g.S.Graded.space c.args.signed.now) c.cells-cells.ensures.valid c.args.numbering.now c.requires.cells (g.S.Signed.negative c.args.signed.now) c.args.dim c.args.place c.args.facet (Contains-In c.requires.facet)).0

pub cell-side-requires-clause-last : goal.cell-side-requires-clause-last
cell-side-requires-clause-last g c = (facet-in (g.S.Graded.space c.args.signed.now) c.cells-cells.ensures.valid c.args.numbering.now c.requires.cells (g.S.Signed.negative c.args.signed.now) c.args.dim c.args.place c.args.facet (Contains-In c.requires.facet)).1

pub is_minus-step-requires-clause-facet : goal.is_minus-step-requires-clause-facet
is_minus-step-requires-clause-facet g c =
    In-Contains (subst (λ (x : ℕ). In x (facets_of (g.S.Graded.space c.args.signed.now) c.args.dim c.cell-cell.result)) (sym c.cell-side.ensures.cell)
    (subst (λ (x : ℕ). In (cell_at_place c.args.numbering.now (c.args.dim - 1) c.args.facet) (facets_of (g.S.Graded.space c.args.signed.now) c.args.dim x)) (sym c.cell-cell.ensures.cell) (facet-in (g.S.Graded.space c.args.signed.now) c.cells-cells.ensures.valid c.args.numbering.now c.requires.cells (g.S.Signed.negative c.args.signed.now) c.args.dim c.args.place c.args.facet (Contains-In c.requires.facet)).2))

pub bounds-signs-cell : goal.bounds-signs-cell
bounds-signs-cell g c =
    let l = as-many (flag_negative (g.S.Graded.space c.args.signed.now) (g.S.Signed.negative c.args.signed.now) c.args.dim) (count (g.S.Graded.space c.args.signed.now) c.args.dim) c.args.signs.now c.requires.signs in
    omega (arith, l, c.cell-cell.ensures.first, c.cell-cell.ensures.last, c.requires.cells.counts c.args.dim)

pub bounds-below-side : goal.bounds-below-side
bounds-below-side g c =
    let l = as-many (flag_negative (g.S.Graded.space c.args.signed.now) (g.S.Signed.negative c.args.signed.now) (c.args.dim - 1)) (count (g.S.Graded.space c.args.signed.now) (c.args.dim - 1)) c.args.below.now c.requires.below in
    omega (arith, l, c.cell-side.ensures.first, c.cell-side.ensures.last, c.requires.cells.counts (c.args.dim - 1))

pub returns : goal.returns
returns g c =
    let d : ℕ = c.args.dim in
    let cell : ℕ = cell_at_place c.args.numbering.now d c.args.place in
    let side : ℕ = cell_at_place c.args.numbering.now (d - 1) c.args.facet in
    let high = number-at (flag_negative (g.S.Graded.space c.args.signed.now) (g.S.Signed.negative c.args.signed.now) d) (count (g.S.Graded.space c.args.signed.now) d) c.cell-cell.result c.args.signs.now false c.requires.signs c.cell-cell.ensures.first (omega (arith, c.cell-cell.ensures.last, c.requires.cells.counts d)) in
    let low = number-at (flag_negative (g.S.Graded.space c.args.signed.now) (g.S.Signed.negative c.args.signed.now) (d - 1)) (count (g.S.Graded.space c.args.signed.now) (d - 1)) c.cell-side.result c.args.below.now false c.requires.below c.cell-side.ensures.first (omega (arith, c.cell-side.ensures.last, c.requires.cells.counts (d - 1))) in
    let step = c.is_minus-step.ensures ∙ (ap (λ (x : ℕ). (g.S.Signed.negative c.args.signed.now) d x c.cell-side.result) c.cell-cell.ensures.cell ∙ ap ((g.S.Signed.negative c.args.signed.now) d cell) c.cell-side.ensures.cell) in
    let both = c.is_one-both.ensures ∙ (ap (λ (b : Bool). other_sign b (get_or c.args.below.now (c.cell-side.result - 1) false)) (high ∙ ap (flag_negative (g.S.Graded.space c.args.signed.now) (g.S.Signed.negative c.args.signed.now) d) c.cell-cell.ensures.cell) ∙ ap (other_sign (flag_negative (g.S.Graded.space c.args.signed.now) (g.S.Signed.negative c.args.signed.now) d cell)) (low ∙ ap (flag_negative (g.S.Graded.space c.args.signed.now) (g.S.Signed.negative c.args.signed.now) (d - 1)) c.cell-side.ensures.cell)) in
    c.is_one-2.ensures
    ∙ (ap (λ (b : Bool). other_sign b c.is_one.result) c.is_odd.ensures
    ∙ ap (other_sign (is_odd d))
    (c.is_one.ensures ∙ (ap (λ (b : Bool). other_sign b c.is_one-both.result) step ∙ ap (other_sign ((g.S.Signed.negative c.args.signed.now) d cell side)) both)))
