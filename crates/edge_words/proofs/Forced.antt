-- The word that is forced at an edge, as the code makes it.
use Rattle.std.proofs.Common.{◌≡◌, ℕ, suc, ◌+◌, List, [], ◌++◌, map, take, drop, get_or, ap, sym, ◌∙◌, arith, Bool, true, false, cond}
use Rattle.std.specs.Prelude.{ℤ}
use Rattle.number_lists.specs.Words.{holds}
use Rattle.regular_check.specs.declared.cycles.Step.{Step}
use Rattle.pair_laws.specs.Letters.{inverted, reduced}
use Rattle.pair_laws.proofs.CallerLemmas.{reduced_inverted}
use Rattle.sheet_laws.specs.Lifts.{round_from}
use Rattle.live_laws.specs.Walks.{AreLetters}
use Rattle.edge_words.specs.Words.{word_of, forced_word}
use Rattle.edge_words.specs.Reducing.{AreWords, IsWord, place_in}
use Rattle.edge_words.proofs.Letters.{reduced-then, word-then}
use Rattle.edge_words.proofs.LetterWalks.{letters-are}
use Rattle.edge_words.proofs.Along.{letters-word_of}
use Rattle.edge_words.proofs.StepWords.{word_of-append}
use Rattle.edge_words.proofs.Steps.{round-place}

module _ (ws : List (List ℤ)) (ss : List Step) (e : ℕ) (d : Step) (words : AreWords ws) (there : holds (map (λ (s : Step). s.edge) ss) e ≡ true) where
  abbrev after : List Step
  after = drop (place_in e ss + 1) ss

  abbrev before : List Step
  before = take (place_in e ss) ss

  turned : (f : Bool) (w : List ℤ) → w ≡ reduced (word_of ws (after ++ before)) → cond f (inverted w) w ≡ reduced (cond f (inverted (word_of ws (after ++ before))) (word_of ws (after ++ before)))
  turned true w h = rw h (sym (reduced_inverted (word_of ws (after ++ before)) (letters-are 60000 (word_of ws (after ++ before)) (letters-word_of 60000 ws (after ++ before) words))))
  turned false w h = h

  round : round_from e [] ss ≡ ((get_or ss (place_in e ss) d).forward, after ++ before)
  round = round-place e [] ss d there ∙ ap (λ (k : ℕ). ((get_or ss (place_in e ss) d).forward, drop k ss ++ before)) next
    where
      next : suc (place_in e ss) ≡ place_in e ss + 1
      next = omega arith

  forced : (r : Bool × List Step) → r ≡ ((get_or ss (place_in e ss) d).forward, after ++ before)
      → reduced (cond r.0 (inverted (word_of ws r.1)) (word_of ws r.1)) ≡ reduced (cond (get_or ss (place_in e ss) d).forward (inverted (word_of ws (after ++ before))) (word_of ws (after ++ before)))
  forced r h = ap (λ (q : Bool × List Step). reduced (cond q.0 (inverted (word_of ws q.1)) (word_of ws q.1))) h

  pub forced-is : (k : ℕ) (w v u : List ℤ) → k ≡ place_in e ss → w ≡ reduced (word_of ws (drop (k + 1) ss)) → v ≡ reduced (w ++ word_of ws (take k ss)) → u ≡ cond (get_or ss k d).forward (inverted v) v → u ≡ forced_word ws e ss
  forced-is k w v u i h j l =
      rw i at l
      ∙ (turned (get_or ss (place_in e ss) d).forward v
      (reduced-then [] (word_of ws after) (word_of ws before) w v tt (letters-word_of 60000 ws after words) (rw i at h) (rw i at j) ∙ ap reduced (sym (word_of-append ws after before)))
      ∙ sym (forced (round_from e [] ss) round))

  -- the word of the first steps, and of all of them, as they are reduced
  pub first-word : (k : ℕ) (w : List ℤ) → w ≡ reduced (word_of ws (drop (k + 1) ss)) → IsWord w
  first-word k w h = word-then [] (word_of ws (drop (k + 1) ss)) w tt (letters-word_of 60000 ws (drop (k + 1) ss) words) h

  pub second-word : (k : ℕ) (w v : List ℤ) → w ≡ reduced (word_of ws (drop (k + 1) ss)) → v ≡ reduced (w ++ word_of ws (take k ss)) → AreLetters 60000 v
  second-word k w v h j = (word-then w (word_of ws (take k ss)) v (first-word k w h).letters (letters-word_of 60000 ws (take k ss) words) j).letters
