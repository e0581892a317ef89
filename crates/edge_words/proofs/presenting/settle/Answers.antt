use Rattle.std.proofs.Common.{◌≡◌, ◌∙◌, ℕ, List, [], ◌∷◌, length, ap, sym, subst}
use Rattle.std.specs.Prelude.{ℤ}
use Rattle.std.proofs.lemmas.Result.{err_from_is_err_and}
use Rattle.face_poset.specs.declared.cells.Cell.{Cell}
use Rattle.face_poset.specs.Poset.{IsSpace}
use Rattle.face_poset.specs.Below.{cell_at}
use Rattle.regular_check.specs.Cycle.{cycle}
use Rattle.edge_words.specs.declared.fault.WordFault.{WordFault}
use Rattle.edge_words.specs.Words.{words_from, forced_word}
use Rattle.edge_words.specs.Limits.{edge_words, first_long, IsFault}
use Rattle.edge_words.specs.Reducing.{AreSteps}
use Rattle.edge_words.proofs.FieldCells.{high-range}
use Rattle.edge_words.proofs.Stages.{put-measured, cycle-steps}
use Rattle.edge_words.proofs.presenting.settle.Goals as goal

pub force_word-requires-clause-steps : goal.force_word-requires-clause-steps
force_word-requires-clause-steps c =
    subst (AreSteps c.args.words.now) (sym c.cycle_of.ensures.cycle)
    (cycle-steps c.cycles_go_round.ensures c.args.regular.now (subst IsSpace c.space-space.ensures.same c.cells-edges.ensures.valid) c.cycle_of.ensures.regular c.args.pair.upper (high-range c.args.regular.now c.args.pair 1 c.if-pair-ne1.false c.requires.pair)
    c.args.words.now c.requires.edges)

-- the fault of the only measured word
fault-one : (old : ℕ) (ms : List (Cell × List ℤ)) (cell : Cell) (word made : List ℤ) (letters : ℕ) (fault : WordFault) → ms ≡ (cell, word) ∷ [] → made ≡ word → letters ≡ length made → ((w : List ℤ) → length w ≡ letters → IsFault (first_long old ((cell, w) ∷ [])) fault) → IsFault (first_long old ms) fault
fault-one old ms cell word made letters fault e m l h = rw e (h word (sym (ap (λ (v : List ℤ). length v) m) ∙ sym l))

pub returns-in_err-add_letters-clause-count : goal.returns-in_err-add_letters-clause-count
returns-in_err-add_letters-clause-count c =
    let p = err_from_is_err_and c.from_residual-in_err-add_letters.result c.from_residual-in_err-add_letters.ensures.1 in
    rw (p.1, p.2)
    (fault-one c.args.sum.now (edge_words (words_from c.args.regular.now c.args.words.now (c.args.pair ∷ [])) (c.args.pair ∷ [])) (cell_at 1 c.args.pair.lower) (forced_word c.args.words.now c.args.pair.lower (cycle c.args.regular.now c.args.pair.upper)) c.force_word.new.word.items c.len.result
    c.in_err-add_letters.field-0.0 (put-measured c.args.regular.now c.args.pair c.requires.pair c.if-pair-ne1.false c.args.words.now c.requires.edges)
    (c.in_ok-force_word.ensures ∙ ap (forced_word c.args.words.now c.args.pair.lower) c.cycle_of.ensures.cycle) (c.len.ensures ∙ c.force_word.new.word.ok.0) c.in_err-add_letters.ensures)
