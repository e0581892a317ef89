use Rattle.std.proofs.Common.{◌≡◌, ◌<◌, ◌≤◌, ◌-◌, ℕ, List, eqb, length, get_or, ap, sym, ◌∙◌}
use Rattle.std.specs.List.{list_all}
use Rattle.face_poset.specs.Poset.{facets_of, count, IsCell, IsSpace}
use Rattle.regular_check.specs.declared.tally.Tally.{Tally}
use Rattle.regular_check.specs.Rules.{sharing, each_twice}
use Rattle.regular_check.specs.Tally.{IsTally, all_double}
use Rattle.regular_check.proofs.Cells.{facets-cell}
use Rattle.regular_check.proofs.Tallies.{double-is}
use Rattle.regular_check.proofs.Passing.{pass_more, fails_at}
use Rattle.std.proofs.lemmas.Bool.{false_from_ne_true}
use Rattle.regular_check.proofs.tally.are_each_twice.Goals as goal

-- what the tallies tell of one of the cells
told : (space : List (List (List ℕ))) (dim : ℕ) (cells facets : List ℕ) (i : ℕ) (tallies : List Tally) → IsSpace space → 1 ≤ dim → IsCell (count space dim) cells → i < length cells
    → count space (dim - 1) ≤ length tallies → IsTally space dim cells tallies → facets ≡ facets_of space dim (get_or cells i 0)
    → all_double tallies facets ≡ list_all (λ f. eqb (length (sharing space dim cells f)) 2) (facets_of space dim (get_or cells i 0))
told space dim cells facets i tallies h low cell l room t e =
    let w = cell.within i 0 l in
    ap (all_double tallies) e ∙ double-is space dim cells (facets_of space dim (get_or cells i 0)) tallies t (facets-cell space dim (get_or cells i 0) (length tallies) h low w.0 w.1 room)

pub returns-then-not-are_double : goal.returns-then-not-are_double
returns-then-not-are_double c =
    let same = told c.args.space.now c.args.dim c.args.cells.now c.facets.result.now c.loop-cell.cell-index c.args.tallies.now c.facets.ensures.valid c.requires.low c.requires.cells c.loop-cell-test.true c.requires.room c.requires.tally c.facets.ensures.facets in
    sym (false_from_ne_true (each_twice c.args.space.now c.args.dim c.args.cells.now)
    (λ e. fails_at (λ ch. list_all (λ f. eqb (length (sharing c.args.space.now c.args.dim c.args.cells.now f)) 2) (facets_of c.args.space.now c.args.dim ch)) c.args.cells.now c.loop-cell.cell-index c.loop-cell-test.true
    (sym same ∙ (sym c.are_double.ensures ∙ c.if-not-are_double.true)) e))

pub loop-cell-preserved : goal.loop-cell-preserved
loop-cell-preserved c =
    let same = told c.args.space.now c.args.dim c.args.cells.now c.facets.result.now c.loop-cell.cell-index c.args.tallies.now c.facets.ensures.valid c.requires.low c.requires.cells c.loop-cell-test.true c.requires.room c.requires.tally c.facets.ensures.facets in
    pass_more (λ ch. list_all (λ f. eqb (length (sharing c.args.space.now c.args.dim c.args.cells.now f)) 2) (facets_of c.args.space.now c.args.dim ch)) c.args.cells.now c.loop-cell.cell-index c.loop-cell-test.true c.loop-cell.invariant
    (sym same ∙ (sym c.are_double.ensures ∙ c.if-not-are_double.false))
