use Rattle.std.proofs.Common.{ℕ, List, eqb, not, get_or, ap, sym, ◌∙◌}
use Rattle.std.specs.List.{list_any}
use Rattle.std.proofs.lemmas.List.{take_all}
use Rattle.number_lists.specs.Words.{holds}
use Rattle.face_poset.specs.Poset.{facets_of}
use Rattle.std.proofs.lemmas.Bool.{ne_eqb, and_from}
use Rattle.cell_signs.proofs.Placed.{other_at, found_across, none_across}
use Rattle.cell_signs.proofs.solids.find_across.Goals as goal

pub returns-then-contains : goal.returns-then-contains
returns-then-contains c =
    let d : ℕ = get_or c.args.disks.now c.loop-other.other-index 0 in
    let apart = c.if-other-disk.true in
    let is = c.if-contains.true in
    let value = c.contains.ensures.value in
    let facets = c.facets.ensures.facets in
    sym (found_across c.args.space.now c.args.disks.now c.args.edge c.args.disk c.loop-other.other-index c.loop-other-test.true
    (and_from (not (eqb d c.args.disk)) (holds (facets_of c.args.space.now 2 d) c.args.edge) (ap not (ne_eqb d c.args.disk apart)) (sym (ap (λ (xs : List ℕ). holds xs c.args.edge) facets) ∙ (sym value ∙ is))) c.loop-other.invariant)

pub returns : goal.returns
returns c = sym (none_across c.args.space.now c.args.disks.now c.args.edge c.args.disk (sym (ap (list_any (other_at c.args.space.now c.args.edge c.args.disk)) (take_all c.loop-other.other-index c.args.disks.now c.loop-other-test.false)) ∙ c.loop-other.invariant))
