use Rattle.std.proofs.Common.{◌≡◌, ◌<◌, ◌+◌, ◌-◌, ◌^◌, ℕ, List, length, get_or, take, ap, ◌∙◌, sym, subst, arith}
use Rattle.face_poset.specs.Poset.{IsCell}
use Rattle.number_lists.proofs.CallerLemmas.{holds-before, IsTouched, touch-more, touch-fresh}
use Rattle.regular_check.specs.declared.tally.Tally.{Tally}
use Rattle.regular_check.specs.Tally.{none, with_cell, IsModest}
use Rattle.regular_check.proofs.tally.add_cell.Goals as goal

-- the tally at the facet is as it was
as_before : (facets : List ℕ) (i cell : ℕ) (old now : List Tally) → IsCell (length old) facets → i < length facets → IsTouched none (with_cell cell) (take i facets) old now
    → get_or now (get_or facets i 0 - 1) none ≡ get_or old (get_or facets i 0 - 1) none
as_before facets i cell old now h l t =
    let w = h.within i 0 l in
    touch-fresh none (with_cell cell) (take i facets) (get_or facets i 0) old now t w.0 w.1 (holds-before facets i h.rises l)

modest : (facets : List ℕ) (i cell : ℕ) (old now : List Tally) → IsCell (length old) facets → i < length facets → IsTouched none (with_cell cell) (take i facets) old now → IsModest old
    → ((get_or now (get_or facets i 0 - 1) none).count < 4294967295) × ((get_or now (get_or facets i 0 - 1) none).sum < 2 ^ 63)
modest facets i cell old now h l t m =
    let w = h.within i 0 l in
    subst (λ (y : Tally). (y.count < 4294967295) × (y.sum < 2 ^ 63)) (sym (as_before facets i cell old now h l t)) (m (get_or facets i 0 - 1) (omega (arith, w.0, w.1)))

pub overflow_add-tally : goal.overflow_add-tally
overflow_add-tally c = omega (arith, (modest c.args.facets.now c.loop-facet.facet-index c.args.cell c.args.tallies.now c.loop-facet.tallies c.requires.facets c.loop-facet-test.true c.loop-facet.invariant c.requires.modest).0)

pub overflow_add-tally-in-loop-facet : goal.overflow_add-tally-in-loop-facet
overflow_add-tally-in-loop-facet c = omega (arith, (modest c.args.facets.now c.loop-facet.facet-index c.args.cell c.args.tallies.now c.loop-facet.tallies c.requires.facets c.loop-facet-test.true c.loop-facet.invariant c.requires.modest).1)

pub loop-facet-preserved : goal.loop-facet-preserved
loop-facet-preserved c =
    let w = c.requires.facets.within c.loop-facet.facet-index 0 c.loop-facet-test.true in
    let before = as_before c.args.facets.now c.loop-facet.facet-index c.args.cell c.args.tallies.now c.loop-facet.tallies c.requires.facets c.loop-facet-test.true c.loop-facet.invariant in
    touch-more none (with_cell c.args.cell) c.args.facets.now c.loop-facet.facet-index c.args.tallies.now c.loop-facet.tallies
    (record { count = (get_or c.loop-facet.tallies (get_or c.args.facets.now c.loop-facet.facet-index 0 - 1) none).count + 1; sum = (get_or c.loop-facet.tallies (get_or c.args.facets.now c.loop-facet.facet-index 0 - 1) none).sum + c.from.result })
    c.loop-facet-test.true w.0 w.1 c.loop-facet.auto.tallies
    (ap (λ (n : ℕ). let t : Tally = record { count = (get_or c.loop-facet.tallies (get_or c.args.facets.now c.loop-facet.facet-index 0 - 1) none).count + 1; sum = (get_or c.loop-facet.tallies (get_or c.args.facets.now c.loop-facet.facet-index 0 - 1) none).sum + n } in t) c.from.ensures
    ∙ ap (with_cell c.args.cell) before)
    c.loop-facet.invariant
