-- How many words there are, and their letters: those of the critical edges.
use Rattle.std.proofs.Common.{◌≡◌, ◌+◌, ◌<◌, List, map, length, get_or, All, arith, sym, ◌∙◌, subst}
use Rattle.std.specs.Prelude.{ℤ}
use Rattle.std.proofs.lemmas.List.{length-map, get_or-map}
use Rattle.std.proofs.lemmas.List.FromFn.{get_or-map-range_with_len, length-map-range_with_len}
use Rattle.number_lists.specs.Words.{upto}
use Rattle.face_poset.specs.declared.cells.Pair.{Pair}
use Rattle.face_poset.specs.Poset.{Layers, count}
use Rattle.regular_check.specs.Cycle.{cycle}
use Rattle.sheet_laws.specs.Lifts.{critical_edges, columns_of}
use Rattle.live_laws.specs.Walks.{AreLetters}
use Rattle.edge_words.specs.Words.{words_from, words, first_word, word_of, cycle_word, critical_disks, relators}
use Rattle.edge_words.proofs.LetterWalks.{letters-reduced}
use Rattle.edge_words.proofs.Along.{letters-word_of, length-words_from, letters-words_from}
use Rattle.edge_words.proofs.Own.{own-letters}

module _ (space : Layers) (pairs : List Pair) where
  -- the words before any is forced
  abbrev pub first : List (List ℤ)
  first = map (first_word space pairs) (upto (count space 1))

  pub length-first : length first ≡ count space 1
  length-first = length-map-range_with_len (first_word space pairs) 1 (count space 1)

  pub letters-first : All (AreLetters (columns_of space pairs)) first
  letters-first k d l =
      let n : k < count space 1 = omega (arith, l, length-first) in
      subst (AreLetters (columns_of space pairs)) (sym (get_or-map-range_with_len (first_word space pairs) 1 (count space 1) k (k + 1) d n (omega arith))) (own-letters (critical_edges space pairs) (k + 1))

  pub letters-from : (ps : List Pair) → All (AreLetters (columns_of space pairs)) (words_from space first ps)
  letters-from ps = letters-words_from space (columns_of space pairs) first ps letters-first

  pub length-from : (ps : List Pair) → length (words_from space first ps) ≡ count space 1
  length-from ps = length-words_from space first ps ∙ length-first

  -- ---- all words

  pub words-long : length (words space pairs) ≡ count space 1
  words-long = length-from pairs

  pub words-letters : All (AreLetters (columns_of space pairs)) (words space pairs)
  words-letters = letters-from pairs

  pub relators-letters : All (AreLetters (columns_of space pairs)) (relators space pairs)
  relators-letters k d l =
      let n : k < length (critical_disks space pairs) = omega (arith, l, length-map (critical_disks space pairs) (cycle_word space (words space pairs))) in
      subst (AreLetters (columns_of space pairs)) (sym (get_or-map (cycle_word space (words space pairs)) (critical_disks space pairs) k 0 d n))
      (letters-reduced (columns_of space pairs) (word_of (words space pairs) (cycle space (get_or (critical_disks space pairs) k 0)))
      (letters-word_of (columns_of space pairs) (words space pairs) (cycle space (get_or (critical_disks space pairs) k 0)) words-letters))
