use Rattle.std.proofs.Common.{◌≡◌, ◌≤◌, ◌<◌, ◌∙◌, ℕ, List, [], ◌∷◌, ◌++◌, length, take, get_or, ap, sym, subst, map}
use Rattle.std.specs.Prelude.{ℤ}
use Rattle.std.proofs.lemmas.Result.{err_from_is_err_and}
use Rattle.std.proofs.lemmas.List.{take_all}
use Rattle.face_poset.specs.Poset.{Layers, IsSpace, IsLimited}
use Rattle.regular_check.specs.declared.cycles.Step.{Step}
use Rattle.regular_check.specs.Cycle.{cycle}
use Rattle.vector_field.specs.Pairs.{Field, critical_of, IsFieldOf}
use Rattle.pair_laws.specs.Letters.{reduced}
use Rattle.edge_words.specs.Words.{word_of, cycle_word, critical_disks}
use Rattle.edge_words.specs.Limits.{disk_word}
use Rattle.edge_words.specs.Counting.{IsCounted}
use Rattle.edge_words.specs.Reducing.{AreWords, AreSteps}
use Rattle.edge_words.proofs.Counted.{counted-none}
use Rattle.edge_words.proofs.WordLetters.{length-from}
use Rattle.edge_words.proofs.Stages.{words-are, disks-are, disk-range, cycle-steps, relators-next, disk-next, disk-fault}
use Rattle.edge_words.proofs.presenting.list_relators.Goals as goal

pub loop-disk-init : goal.loop-disk-init
loop-disk-init c = (c.new-relators.ensures, counted-none c.args.sum.now c.requires.sum)

pub cycle_of-requires-clause-first : goal.cycle_of-requires-clause-first
cycle_of-requires-clause-first c = (disk-range c.args.regular.now c.args.field.now c.requires.field c.critical-disk-items.result.now c.critical-disk-items.ensures.cells c.loop-disk.disk-index c.loop-disk-test.true).0

pub cycle_of-requires-clause-last : goal.cycle_of-requires-clause-last
cycle_of-requires-clause-last c = (disk-range c.args.regular.now c.args.field.now c.requires.field c.critical-disk-items.result.now c.critical-disk-items.ensures.cells c.loop-disk.disk-index c.loop-disk-test.true).1

pub push_steps-requires-clause-words : goal.push_steps-requires-clause-words
push_steps-requires-clause-words c =
    subst AreWords (sym c.requires.words) (words-are c.args.regular.now c.args.field.now.pairs (subst IsLimited c.space-space.ensures.same c.cells-disks.ensures.limited) c.args.field.now.pairs)

pub push_steps-requires-clause-steps : goal.push_steps-requires-clause-steps
push_steps-requires-clause-steps c =
    subst (AreSteps c.args.made.now) (sym c.cycle_of.ensures.cycle)
    (cycle-steps c.cycles_go_round.ensures c.args.regular.now (subst IsSpace c.space-space.ensures.same c.cells-disks.ensures.valid) c.cycle_of.ensures.regular (get_or c.critical-disk-items.result.now c.loop-disk.disk-index 0)
    (disk-range c.args.regular.now c.args.field.now c.requires.field c.critical-disk-items.result.now c.critical-disk-items.ensures.cells c.loop-disk.disk-index c.loop-disk-test.true)
    c.args.made.now (ap (λ (ws : List (List ℤ)). length ws) c.requires.words ∙ length-from c.args.regular.now c.args.field.now.pairs c.args.field.now.pairs))

-- the word of the cycle, as it is pushed on nothing
pushed : (space : Layers) (ws : List (List ℤ)) (d : ℕ) (none w : List ℤ) (ss : List Step) → none ≡ [] → ss ≡ cycle space d → w ≡ reduced (none ++ word_of ws ss) → w ≡ cycle_word space ws d
pushed space ws d none w ss e h k = k ∙ (ap (λ (v : List ℤ). reduced (v ++ word_of ws ss)) e ∙ ap (λ (ys : List Step). reduced (word_of ws ys)) h)

-- the disk that is read, and its place
read : (space : Layers) (field : Field) (cells : List ℕ) (i : ℕ) → IsFieldOf space field → cells ≡ critical_of field 2 → i < length cells → (i < length (critical_disks space field.pairs)) × (get_or cells i 0 ≡ get_or (critical_disks space field.pairs) i 0)
read space field cells i is e l =
    let d = disks-are space field is cells e in
    (subst (λ (xs : List ℕ). i < length xs) d l, ap (λ (xs : List ℕ). get_or xs i 0) d)

pub returns-in_err-add_letters-clause-count : goal.returns-in_err-add_letters-clause-count
returns-in_err-add_letters-clause-count c =
    let p = err_from_is_err_and c.from_residual-in_err-add_letters.result c.from_residual-in_err-add_letters.ensures.1 in
    let r = read c.args.regular.now c.args.field.now c.critical-disk-items.result.now c.loop-disk.disk-index c.requires.field c.critical-disk-items.ensures.cells c.loop-disk-test.true in
    let d : ℕ = get_or c.critical-disk-items.result.now c.loop-disk.disk-index 0 in
    let told = pushed c.args.regular.now c.args.made.now d c.clear.new.self.items c.push_steps.new.word.items c.cycle_of.result.now c.clear.ensures.items c.cycle_of.ensures.cycle c.in_ok-push_steps.ensures in
    rw (p.1, p.2)
    (disk-fault c.args.regular.now c.args.made.now (critical_disks c.args.regular.now c.args.field.now.pairs) c.loop-disk.disk-index d r.0 r.1 c.push_steps.new.word.items told c.args.sum.now c.loop-disk.sum c.in_err-add_letters.field-0.0
    c.loop-disk.invariant.1 (c.in_err-add_letters.ensures c.push_steps.new.word.items (sym (c.len.ensures ∙ c.push_steps.new.word.ok.0))))

pub loop-disk-preserved : goal.loop-disk-preserved
loop-disk-preserved c =
    let r = read c.args.regular.now c.args.field.now c.critical-disk-items.result.now c.loop-disk.disk-index c.requires.field c.critical-disk-items.ensures.cells c.loop-disk-test.true in
    let d : ℕ = get_or c.critical-disk-items.result.now c.loop-disk.disk-index 0 in
    let told = pushed c.args.regular.now c.args.made.now d c.clear.new.self.items c.push_steps.new.word.items c.cycle_of.result.now c.clear.ensures.items c.cycle_of.ensures.cycle c.in_ok-push_steps.ensures in (
      relators-next c.args.regular.now c.args.made.now (critical_disks c.args.regular.now c.args.field.now.pairs) c.loop-disk.disk-index d r.0 r.1 c.push_steps.new.word.items told c.loop-disk.relators c.push.new.self c.loop-disk.invariant.0
          (c.in_ok-push.ensures ∙ ap (λ (w : List ℤ). c.loop-disk.relators ++ w ∷ []) c.deref.ensures.value),
      disk-next c.args.regular.now c.args.made.now (critical_disks c.args.regular.now c.args.field.now.pairs) c.loop-disk.disk-index d r.0 r.1 c.push_steps.new.word.items told c.args.sum.now c.loop-disk.sum c.add_letters.new.sum
          c.loop-disk.invariant.1 (c.in_ok-add_letters.ensures c.push_steps.new.word.items (sym (c.len.ensures ∙ c.push_steps.new.word.ok.0))),
    )

-- all 2-cells have passed
passed : (space : Layers) (field : Field) (cells : List ℕ) (i : ℕ) → IsFieldOf space field → cells ≡ critical_of field 2 → length cells ≤ i → take i (critical_disks space field.pairs) ≡ critical_disks space field.pairs
passed space field cells i is e l = take_all i (critical_disks space field.pairs) (subst (λ (xs : List ℕ). length xs ≤ i) (disks-are space field is cells e) l)

pub returns-clause-relators : goal.returns-clause-relators
returns-clause-relators c =
    c.loop-disk.invariant.0
    ∙ (ap (map (cycle_word c.args.regular.now c.args.made.now)) (passed c.args.regular.now c.args.field.now c.critical-disk-items.result.now c.loop-disk.disk-index c.requires.field c.critical-disk-items.ensures.cells c.loop-disk-test.false)
    ∙ ap (λ (ws : List (List ℤ)). map (cycle_word c.args.regular.now ws) (critical_disks c.args.regular.now c.args.field.now.pairs)) c.requires.words)

pub returns-clause-count : goal.returns-clause-count
returns-clause-count c =
    subst (λ (ds : List ℕ). IsCounted c.args.sum.now (map (disk_word c.args.regular.now c.args.made.now) ds) c.loop-disk.sum)
    (passed c.args.regular.now c.args.field.now c.critical-disk-items.result.now c.loop-disk.disk-index c.requires.field c.critical-disk-items.ensures.cells c.loop-disk-test.false) c.loop-disk.invariant.1
