use Rattle.std.proofs.Common.{◌≡◌, ◌≤◌, ◌∙◌, ℕ, List, length, All, ap, sym, arith, subst, None}
use Rattle.std.specs.Prelude.{ℤ}
use Rattle.std.proofs.lemmas.Result.{err_from_is_err_and}
use Rattle.face_poset.specs.Poset.{Layers, IsLimited}
use Rattle.vector_field.specs.Pairs.{Field, critical_of, IsFieldOf}
use Rattle.vector_field.proofs.CallerLemmas.{critical-is}
use Rattle.sheet_laws.specs.Lifts.{critical_edges, columns_of}
use Rattle.live_laws.specs.Walks.{AreLetters}
use Rattle.edge_words.specs.declared.fault.WordFault.{WordFault}
use Rattle.edge_words.specs.Words.{words, relators, Presented, presentation_of}
use Rattle.edge_words.specs.Limits.{edge_words, disk_words, first_long, too_long, IsFault}
use Rattle.edge_words.specs.Counting.{IsCounted}
use Rattle.edge_words.proofs.Counted.{counted-append, fault-first, fault-second}
use Rattle.edge_words.proofs.Stages.{columns-few, relators-few}
use Rattle.edge_words.proofs.WordLetters.{length-from, words-letters, relators-letters}
use Rattle.edge_words.proofs.presenting.present.Goals as goal

-- what is handed on, said of the space
module _ (space : Layers) (field : Field) (is : IsFieldOf space field) (cells edges : List ℕ) (c : cells ≡ critical_of field 1) (e : edges ≡ cells) where
  edges-are : edges ≡ critical_edges space field.pairs
  edges-are = e ∙ (c ∙ critical-is space field 1 is (omega arith))

  sum-is : (sum : ℕ) → sum ≡ length edges → sum ≡ columns_of space field.pairs
  sum-is sum h = h ∙ ap (λ (xs : List ℕ). length xs) edges-are

  letters-are : (ws : List (List ℤ)) → All (AreLetters (columns_of space field.pairs)) ws → All (AreLetters (length edges)) ws
  letters-are ws h = subst (λ (xs : List ℕ). All (AreLetters (length xs)) ws) (sym edges-are) h

  few : IsLimited space → length edges ≤ 60000
  few h = omega (arith, columns-few space field.pairs h, ap (λ (xs : List ℕ). length xs) edges-are)

  whole : (p : Presented) (rs ws : List (List ℤ)) → p ≡ record { generators = edges; relators = rs; words = ws } → rs ≡ relators space field.pairs → ws ≡ words space field.pairs → p ≡ presentation_of space field.pairs
  whole p rs ws h r w = rw (edges-are, r, w) at h

  fault-of-words : (sum : ℕ) (fault : WordFault) → sum ≡ length edges → IsFault (first_long sum (edge_words (words space field.pairs) field.pairs)) fault → IsFault (too_long space field.pairs) fault
  fault-of-words sum fault h k =
      fault-first (columns_of space field.pairs) (edge_words (words space field.pairs) field.pairs) (disk_words space (words space field.pairs) field.pairs) fault
      (subst (λ (n : ℕ). IsFault (first_long n (edge_words (words space field.pairs) field.pairs)) fault) (sum-is sum h) k)

  module _ (ws : List (List ℤ)) (w : ws ≡ words space field.pairs) (sum mid : ℕ) (s : sum ≡ length edges) (counted : IsCounted sum (edge_words (words space field.pairs) field.pairs) mid) where
    first : IsCounted (columns_of space field.pairs) (edge_words (words space field.pairs) field.pairs) mid
    first = subst (λ (n : ℕ). IsCounted n (edge_words (words space field.pairs) field.pairs) mid) (sum-is sum s) counted

    fault-of-disks : (fault : WordFault) → IsFault (first_long mid (disk_words space ws field.pairs)) fault → IsFault (too_long space field.pairs) fault
    fault-of-disks fault k =
        fault-second (columns_of space field.pairs) mid (edge_words (words space field.pairs) field.pairs) (disk_words space (words space field.pairs) field.pairs) fault first
        (subst (λ (vs : List (List ℤ)). IsFault (first_long mid (disk_words space vs field.pairs)) fault) w k)

    none : (new : ℕ) → IsCounted mid (disk_words space ws field.pairs) new → too_long space field.pairs ≡ None
    none new k =
        (counted-append (columns_of space field.pairs) mid new (edge_words (words space field.pairs) field.pairs) (disk_words space (words space field.pairs) field.pairs) first
        (subst (λ (vs : List (List ℤ)). IsCounted mid (disk_words space vs field.pairs) new) w k)).short

pub list_words-requires-clause-sum : goal.list_words-requires-clause-sum
list_words-requires-clause-sum c =
    omega (
      arith,
      c.len-sum.ensures,
      c.in_ok-generators.generators.ok.0,
      few c.args.regular.now c.args.field.now c.requires c.critical.result.now c.in_ok-generators.generators.items c.critical.ensures.cells c.in_ok-generators.ensures.items (subst IsLimited c.space-space.ensures.same c.cells-edges.ensures.limited),
    )

pub returns-in_err-words-clause-limits : goal.returns-in_err-words-clause-limits
returns-in_err-words-clause-limits c =
    let p = err_from_is_err_and c.from_residual-in_err-words.result c.from_residual-in_err-words.ensures.1 in
    rw (p.1, p.2)
    (fault-of-words c.args.regular.now c.args.field.now c.requires c.critical.result.now c.in_ok-generators.generators.items c.critical.ensures.cells c.in_ok-generators.ensures.items c.len-sum.result c.in_err-words.field-0.0
    (c.len-sum.ensures ∙ c.in_ok-generators.generators.ok.0) c.in_err-words.ensures.count)

pub returns-in_err-relators-clause-limits : goal.returns-in_err-relators-clause-limits
returns-in_err-relators-clause-limits c =
    let p = err_from_is_err_and c.from_residual-in_err-relators.result c.from_residual-in_err-relators.ensures.1 in
    rw (p.1, p.2)
    (fault-of-disks c.args.regular.now c.args.field.now c.requires c.critical.result.now c.in_ok-generators.generators.items c.critical.ensures.cells c.in_ok-generators.ensures.items c.in_ok-words.words c.in_ok-words.ensures.words c.len-sum.result
    c.list_words.new.sum (c.len-sum.ensures ∙ c.in_ok-generators.generators.ok.0) c.in_ok-words.ensures.count c.in_err-relators.field-0.0 c.in_err-relators.ensures.count)

pub new-requires-clause-generators : goal.new-requires-clause-generators
new-requires-clause-generators c =
    few c.args.regular.now c.args.field.now c.requires c.critical.result.now c.in_ok-generators.generators.items c.critical.ensures.cells c.in_ok-generators.ensures.items (subst IsLimited c.space-space.ensures.same c.cells-edges.ensures.limited)

pub new-requires-clause-few : goal.new-requires-clause-few
new-requires-clause-few c =
    subst (λ (rs : List (List ℤ)). length rs ≤ 60000) (sym c.in_ok-relators.ensures.relators) (relators-few c.args.regular.now c.args.field.now.pairs (subst IsLimited c.space-space.ensures.same c.cells-edges.ensures.limited))

pub new-requires-clause-relators : goal.new-requires-clause-relators
new-requires-clause-relators c =
    letters-are c.args.regular.now c.args.field.now c.requires c.critical.result.now c.in_ok-generators.generators.items c.critical.ensures.cells c.in_ok-generators.ensures.items c.in_ok-relators.relators
    (subst (All (AreLetters (columns_of c.args.regular.now c.args.field.now.pairs))) (sym c.in_ok-relators.ensures.relators) (relators-letters c.args.regular.now c.args.field.now.pairs))

pub new-requires-clause-words : goal.new-requires-clause-words
new-requires-clause-words c =
    letters-are c.args.regular.now c.args.field.now c.requires c.critical.result.now c.in_ok-generators.generators.items c.critical.ensures.cells c.in_ok-generators.ensures.items c.in_ok-words.words
    (subst (All (AreLetters (columns_of c.args.regular.now c.args.field.now.pairs))) (sym c.in_ok-words.ensures.words) (words-letters c.args.regular.now c.args.field.now.pairs))

pub returns-clause-presentation : goal.returns-clause-presentation
returns-clause-presentation c =
    whole c.args.regular.now c.args.field.now c.requires c.critical.result.now c.in_ok-generators.generators.items c.critical.ensures.cells c.in_ok-generators.ensures.items c.new.result c.in_ok-relators.relators c.in_ok-words.words c.new.ensures
    c.in_ok-relators.ensures.relators c.in_ok-words.ensures.words

pub returns-clause-edges : goal.returns-clause-edges
returns-clause-edges c =
    ap (λ (p : Presented). length p.words)
    (whole c.args.regular.now c.args.field.now c.requires c.critical.result.now c.in_ok-generators.generators.items c.critical.ensures.cells c.in_ok-generators.ensures.items c.new.result c.in_ok-relators.relators c.in_ok-words.words c.new.ensures
    c.in_ok-relators.ensures.relators c.in_ok-words.ensures.words)
    ∙ length-from c.args.regular.now c.args.field.now.pairs c.args.field.now.pairs

pub returns-clause-limits : goal.returns-clause-limits
returns-clause-limits c =
    none c.args.regular.now c.args.field.now c.requires c.critical.result.now c.in_ok-generators.generators.items c.critical.ensures.cells c.in_ok-generators.ensures.items c.in_ok-words.words c.in_ok-words.ensures.words c.len-sum.result
    c.list_words.new.sum (c.len-sum.ensures ∙ c.in_ok-generators.generators.ok.0) c.in_ok-words.ensures.count c.list_relators.new.sum c.in_ok-relators.ensures.count
