use Rattle.std.proofs.Common.{◌≡◌, ℕ, ◌+◌, ◌<◌, List, true, false, ap, sym, ◌∙◌, arith}
use Rattle.face_poset.specs.declared.cells.Pair.{Pair}
use Rattle.face_poset.specs.Poset.{count}
use Rattle.vector_field.specs.Pairs.{is_used, Field}
use Rattle.number_lists.specs.Found.{Numbers}
use Rattle.vector_field.specs.Stages.{first_open, put_open, filled_at, filled_upto}
use Rattle.vector_field.proofs.Filled.{filled-used, filled-unused, upto-next, upto-field}
use Rattle.vector_field.proofs.filling.fill.Goals as goal
use Rattle.vector_field.proofs.filling.fill.Goals.{then-not-is_used+in_ok-add_pair, else-not-is_used}

pub add_pair-requires-clause-field : goal.add_pair-requires-clause-field
add_pair-requires-clause-field g c =
    upto-field (g.G.Graded.space c.args.graded.now) c.args.dim c.requires.dim c.args.pairing.now c.loop-index.pairing c.loop-index.index (omega (arith, c.loop-index-test.true, c.cells-index-end.ensures.cells)) c.requires.field
    c.loop-index.invariant.1 c.loop-index.invariant.2

-- what a turn does, where the cell is in no pair and where it is in one
module _ (space : List (List (List ℕ))) (dim first : ℕ) (low : dim < 3) (start old new : List Pair) (before : old ≡ filled_upto space dim start first) where
  turned : new ≡ filled_at space dim old (first + 1) → new ≡ filled_upto space dim start (first + 1)
  turned e = e ∙ (ap (λ (ps : List Pair). filled_at space dim ps (first + 1)) before ∙ sym (upto-next space dim low start first))

  added : is_used old dim (first + 1) ≡ false → new ≡ put_open space dim old (first + 1) (first_open space old dim (first + 1)) → new ≡ filled_upto space dim start (first + 1)
  added u e = turned (e ∙ sym (filled-unused space dim low old (first + 1) u))

  passed : is_used old dim (first + 1) ≡ true → new ≡ old → new ≡ filled_upto space dim start (first + 1)
  passed u e = turned (e ∙ sym (filled-used space dim low old (first + 1) u))

pub loop-index-preserved : goal.loop-index-preserved
loop-index-preserved g c =
    let space : List (List (List ℕ)) = g.G.Graded.space c.args.graded.now in
    let old : Field = c.loop-index.pairing in
    elim c.if-not-is_used.branch [
      | then-not-is_used+in_ok-add_pair w ↦ (
        ap (λ (n : Numbers). n.most) w.found-is ∙ (w.add_pair.ensures.most ∙ c.loop-index.invariant.0),
        ap (λ (f : Field). f.counts) w.pairing-is ∙ (w.add_pair.ensures.counts ∙ c.loop-index.invariant.1),
        added space c.args.dim c.loop-index.index c.requires.dim c.args.pairing.now.pairs old.pairs c.if-not-is_used.pairing.pairs c.loop-index.invariant.2 (sym c.is_used.ensures ∙ w.if-not-is_used.true)
            (ap (λ (f : Field). f.pairs) w.pairing-is ∙ w.in_ok-add_pair.ensures.pairs),
      )
      | else-not-is_used w ↦ (
        ap (λ (n : Numbers). n.most) w.found-is ∙ c.loop-index.invariant.0,
        ap (λ (f : Field). f.counts) w.pairing-is ∙ c.loop-index.invariant.1,
        passed space c.args.dim c.loop-index.index c.requires.dim c.args.pairing.now.pairs old.pairs c.if-not-is_used.pairing.pairs c.loop-index.invariant.2 (sym c.is_used.ensures ∙ w.if-not-is_used.false)
            (ap (λ (f : Field). f.pairs) w.pairing-is),
      )
    ]

pub returns-clause-pairs : goal.returns-clause-pairs
returns-clause-pairs g c =
    let space : List (List (List ℕ)) = g.G.Graded.space c.args.graded.now in
    let all : c.loop-index.index ≡ count space c.args.dim = omega (arith, c.loop-index-test.false, c.loop-index.auto.index-end, c.cells-index-end.ensures.cells) in
    c.loop-index.invariant.2 ∙ ap (filled_upto space c.args.dim c.args.pairing.now.pairs) all
