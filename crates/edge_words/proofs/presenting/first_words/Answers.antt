use Rattle.std.proofs.Common.{◌≡◌, ◌∙◌, ◌+◌, ℕ, List, length, ap, arith, subst}
use Rattle.face_poset.specs.Poset.{Layers, count, IsLimited}
use Rattle.vector_field.specs.Pairs.{Field, critical_of, IsFieldOf}
use Rattle.vector_field.proofs.CallerLemmas.{critical-is}
use Rattle.sheet_laws.specs.Lifts.{critical_edges}
use Rattle.edge_words.specs.Words.{first_word, own_word}
use Rattle.edge_words.proofs.Led.{values-more, values-all}
use Rattle.edge_words.proofs.Stages.{columns-few}
use Rattle.edge_words.proofs.presenting.first_words.Goals as goal

edges-are : (space : Layers) (field : Field) (cells : List ℕ) → IsFieldOf space field → cells ≡ critical_of field 1 → cells ≡ critical_edges space field.pairs
edges-are space field cells is e = e ∙ critical-is space field 1 is (omega arith)

pub push_own-requires-clause-few : goal.push_own-requires-clause-few
push_own-requires-clause-few c =
    omega (
      arith,
      columns-few c.args.regular.now c.args.field.now.pairs (subst IsLimited c.space.ensures.same c.cells-index-end.ensures.limited),
      ap (λ (xs : List ℕ). length xs) (edges-are c.args.regular.now c.args.field.now c.critical-critical.result.now c.requires c.critical-critical.ensures.cells),
    )

pub loop-index-preserved : goal.loop-index-preserved
loop-index-preserved c =
    values-more (first_word c.args.regular.now c.args.field.now.pairs) c.loop-index.words c.push_own.new.words c.loop-index.index (own_word c.critical-critical.result.now (c.loop-index.index + 1)) c.loop-index.invariant c.in_ok-push_own.ensures
    (ap (λ (xs : List ℕ). own_word xs (c.loop-index.index + 1)) (edges-are c.args.regular.now c.args.field.now c.critical-critical.result.now c.requires c.critical-critical.ensures.cells))

pub returns : goal.returns
returns c =
    values-all (first_word c.args.regular.now c.args.field.now.pairs) c.loop-index.words c.loop-index.index (count c.args.regular.now 1) c.loop-index.invariant
    (omega (arith, c.loop-index-test.false, c.loop-index.auto.index-end, c.cells-index-end.ensures.cells, ap (λ (s : Layers). count s 1) c.space.ensures.same))
