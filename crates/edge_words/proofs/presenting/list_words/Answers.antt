use Rattle.std.proofs.Common.{◌<◌, ◌∙◌, List, length, take, ap, sym, arith, subst}
use Rattle.std.specs.Prelude.{ℤ}
use Rattle.std.proofs.lemmas.Result.{err_from_is_err_and}
use Rattle.std.proofs.lemmas.List.{take_all}
use Rattle.face_poset.specs.declared.cells.Pair.{Pair}
use Rattle.face_poset.specs.Poset.{IsLimited}
use Rattle.edge_words.specs.Words.{words, words_from}
use Rattle.edge_words.specs.Limits.{edge_words}
use Rattle.edge_words.specs.Counting.{IsCounted}
use Rattle.edge_words.specs.Reducing.{AreWords}
use Rattle.edge_words.proofs.Counted.{counted-none}
use Rattle.edge_words.proofs.WordLetters.{first, length-from}
use Rattle.edge_words.proofs.Stages.{words-are, incident-is, words-next, count-next, fault-now}
use Rattle.edge_words.proofs.presenting.list_words.Goals as goal

pub loop-index-init : goal.loop-index-init
loop-index-init c = (c.in_ok-words.ensures, counted-none c.args.sum.now c.requires.sum)

pub settle-requires-clause-pair : goal.settle-requires-clause-pair
settle-requires-clause-pair c =
    incident-is c.args.regular.now c.args.field.now.pairs c.requires.field.valid c.loop-index.index c.get.result (omega (arith, c.loop-index-test.true, c.len-index-end.ensures)) c.get.ensures

pub settle-requires-clause-words : goal.settle-requires-clause-words
settle-requires-clause-words c =
    subst AreWords (sym c.loop-index.invariant.0) (words-are c.args.regular.now c.args.field.now.pairs (subst IsLimited c.space-space.ensures.same c.cells-edges.ensures.limited) (take c.loop-index.index c.args.field.now.pairs))

pub settle-requires-clause-edges : goal.settle-requires-clause-edges
settle-requires-clause-edges c = ap (λ (ws : List (List ℤ)). length ws) c.loop-index.invariant.0 ∙ length-from c.args.regular.now c.args.field.now.pairs (take c.loop-index.index c.args.field.now.pairs)

pub settle-requires-clause-sum : goal.settle-requires-clause-sum
settle-requires-clause-sum c = c.loop-index.invariant.1.within

pub returns-in_err-settle-clause-count : goal.returns-in_err-settle-clause-count
returns-in_err-settle-clause-count c =
    let p = err_from_is_err_and c.from_residual-in_err-settle.result c.from_residual-in_err-settle.ensures.1 in
    rw (p.1, p.2)
    (fault-now c.args.regular.now c.args.field.now.pairs c.requires.field.valid c.loop-index.index c.get.result (omega (arith, c.loop-index-test.true, c.len-index-end.ensures)) c.get.ensures c.args.sum.now c.loop-index.sum c.loop-index.words
    c.in_err-settle.field-0.0 c.loop-index.invariant.0 c.loop-index.invariant.1 c.in_err-settle.ensures.count)

pub loop-index-preserved : goal.loop-index-preserved
loop-index-preserved c =
    let l : c.loop-index.index < length c.args.field.now.pairs = omega (arith, c.loop-index-test.true, c.len-index-end.ensures) in (
      words-next c.args.regular.now c.args.field.now.pairs c.requires.field.valid c.loop-index.index c.get.result l c.get.ensures c.loop-index.words c.settle.new.words c.loop-index.invariant.0 c.in_ok-settle.ensures.words,
      count-next c.args.regular.now c.args.field.now.pairs c.requires.field.valid c.loop-index.index c.get.result l c.get.ensures c.args.sum.now c.loop-index.sum c.settle.new.sum c.loop-index.words c.loop-index.invariant.0 c.loop-index.invariant.1 c.in_ok-settle.ensures.count,
    )

pub returns-clause-words : goal.returns-clause-words
returns-clause-words c =
    c.loop-index.invariant.0
    ∙ ap (words_from c.args.regular.now (first c.args.regular.now c.args.field.now.pairs)) (take_all c.loop-index.index c.args.field.now.pairs (omega (arith, c.loop-index-test.false, c.len-index-end.ensures)))

pub returns-clause-count : goal.returns-clause-count
returns-clause-count c =
    subst (λ (ps : List Pair). IsCounted c.args.sum.now (edge_words (words c.args.regular.now c.args.field.now.pairs) ps) c.loop-index.sum)
    (take_all c.loop-index.index c.args.field.now.pairs (omega (arith, c.loop-index-test.false, c.len-index-end.ensures))) c.loop-index.invariant.1
