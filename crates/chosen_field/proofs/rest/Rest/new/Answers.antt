use Rattle.std.proofs.Common.{ℕ, ◌+◌, ◌≤◌, List, Bool, length, filter, All, sym, ◌∙◌, ap, subst, arith}
use Rattle.vector_field.specs.Stages.{is_left}
use Rattle.chosen_field.proofs.Begun.{left-flags, cofaces_few, cofaces_all, counts-more}
use Rattle.chosen_field.proofs.rest.Rest.new.Goals as goal

pub count_left-number-requires-clause-few : goal.count_left-number-requires-clause-few
count_left-number-requires-clause-few g c =
    subst (λ (us : List ℕ). length us ≤ 4294967295) (sym c.cofaces.ensures.cofaces) (cofaces_few (g.G.Graded.space c.args.graded.now) c.args.dim (c.loop-index.index + 1) c.requires.dim c.cells.ensures.valid.few)

pub count_left-number-requires-clause-cells : goal.count_left-number-requires-clause-cells
count_left-number-requires-clause-cells g c =
    subst (λ (us : List ℕ). All (λ cell. (1 ≤ cell) × (cell ≤ length c.deref.result.now)) us) (sym c.cofaces.ensures.cofaces)
    (cofaces_all (g.G.Graded.space c.args.graded.now) c.args.dim (c.loop-index.index + 1) (length c.deref.result.now) (ap (λ (bs : List Bool). length bs) c.deref.ensures.value ∙ (c.in_ok-flags.ensures.len ∙ c.cells.ensures.cells)))

pub loop-index-preserved : goal.loop-index-preserved
loop-index-preserved g c = (
  c.put.ensures.len ∙ c.loop-index.invariant.0,
  counts-more (g.G.Graded.space c.args.graded.now) c.args.dim c.in_ok-flags.flags.items c.loop-index.shared c.put.new.self c.loop-index.index c.count_left-number.result (c.in_ok-flags.ensures.len ∙ c.cells.ensures.cells)
      (omega (arith, c.loop-index-test.true, c.cells-index-end.ensures.cells, c.loop-index.invariant.0))
      (c.count_left-number.ensures ∙ (ap (λ (bs : List Bool). length (filter (is_left bs) c.cofaces.result.now)) c.deref.ensures.value ∙ ap (λ (us : List ℕ). length (filter (is_left c.in_ok-flags.flags.items) us)) c.cofaces.ensures.cofaces))
      c.in_ok-put.ensures.counts c.loop-index.invariant.1,
)

pub returns-clause-left : goal.returns-clause-left
returns-clause-left g c =
    left-flags c.in_ok-flags.flags.items c.args.cells.now c.requires.rise (λ k d l. let r = c.requires.within k d l in (r.0, omega (arith, r.1, c.in_ok-flags.ensures.len, c.cells.ensures.cells))) c.in_ok-flags.ensures.flags
