-- Words along the pairs of a field: how many there are, their letters, and that a word stays once its pair has passed.
use Rattle.std.proofs.Common.{◌≡◌, ℕ, ◌+◌, ◌-◌, ◌<◌, ◌≤◌, List, [], ◌∷◌, ◌++◌, map, filter, length, set, get_or, take, All, refl, ap, ◌∙◌, arith, Bool, true, false, cond, inl, inr, ◌⊎◌}
use Rattle.std.specs.Prelude.{ℤ, ◌==◌}
use Rattle.std.proofs.lemmas.Bool.{eqb-true, cases_lt}
use Rattle.std.proofs.lemmas.List.{length-set, get_or-set_other, get_or_past, map-append, append-nil, take_more}
use Rattle.std.proofs.lemmas.List.Elements.{All-set, filter-append}
use Rattle.number_lists.specs.Members.{In, here, there}
use Rattle.face_poset.specs.declared.cells.Pair.{Pair}
use Rattle.face_poset.specs.Poset.{Layers}
use Rattle.regular_check.specs.declared.cycles.Step.{Step}
use Rattle.regular_check.specs.Cycle.{cycle}
use Rattle.pair_laws.specs.Letters.{inverted}
use Rattle.sheet_laws.specs.Lifts.{round_from}
use Rattle.live_laws.specs.Walks.{AreLetters}
use Rattle.edge_words.specs.Words.{word_at, step_word, word_of, forced_word, words_from}
use Rattle.edge_words.specs.Limits.{edge_word, edge_words}
use Rattle.edge_words.proofs.LetterWalks.{letters-append, letters-inverted, letters-reduced}
use Rattle.edge_words.proofs.StepWords.{word_of-append}

-- the words of steps, one step more
pub word_of-more : (ws : List (List ℤ)) (ss : List Step) (i : ℕ) (d : Step) → i < length ss → word_of ws (take (i + 1) ss) ≡ word_of ws (take i ss) ++ step_word ws (get_or ss i d)
word_of-more ws ss i d l =
    ap (word_of ws) (take_more ss i d l)
    ∙ (word_of-append ws (take i ss) (get_or ss i d ∷ []) ∙ ap (λ (w : List ℤ). word_of ws (take i ss) ++ w) (append-nil (step_word ws (get_or ss i d))))

-- ---- letters

pub letters-word_at : (c : ℕ) (ws : List (List ℤ)) (e : ℕ) → All (AreLetters c) ws → AreLetters c (word_at ws e)
letters-word_at c ws e h = by (cases_lt (e - 1) (length ws))
  where
    by : (e - 1 < length ws) ⊎ (length ws ≤ e - 1) → AreLetters c (word_at ws e)
    by (inl l) = h (e - 1) [] l
    by (inr l) = rw (get_or_past ws (e - 1) [] l) tt

pub letters-word_of : (c : ℕ) (ws : List (List ℤ)) (ss : List Step) → All (AreLetters c) ws → AreLetters c (word_of ws ss)
letters-word_of c ws [] h = tt
letters-word_of c ws (s ∷ ss) h = letters-append c (step_word ws s) (word_of ws ss) (by s.forward) (letters-word_of c ws ss h)
  where
    by : (b : Bool) → AreLetters c (cond b (word_at ws s.edge) (inverted (word_at ws s.edge)))
    by true = letters-word_at c ws s.edge h
    by false = letters-inverted c (word_at ws s.edge) (letters-word_at c ws s.edge h)

pub letters-forced : (c : ℕ) (ws : List (List ℤ)) (e : ℕ) (ss : List Step) → All (AreLetters c) ws → AreLetters c (forced_word ws e ss)
letters-forced c ws e ss h = letters-reduced c (cond (round_from e [] ss).0 (inverted (word_of ws (round_from e [] ss).1)) (word_of ws (round_from e [] ss).1)) (by (round_from e [] ss).0)
  where
    by : (b : Bool) → AreLetters c (cond b (inverted (word_of ws (round_from e [] ss).1)) (word_of ws (round_from e [] ss).1))
    by true = letters-inverted c (word_of ws (round_from e [] ss).1) (letters-word_of c ws (round_from e [] ss).1 h)
    by false = letters-word_of c ws (round_from e [] ss).1 h

module _ (space : Layers) where
  pub words_from-append : (ws : List (List ℤ)) (ps qs : List Pair) → words_from space ws (ps ++ qs) ≡ words_from space (words_from space ws ps) qs
  words_from-append ws [] qs = refl
  words_from-append ws (p ∷ ps) qs = words_from-append (words_from space ws (p ∷ [])) ps qs

  length-step : (ws : List (List ℤ)) (p : Pair) (b : Bool) → length (cond b (set ws (p.lower - 1) (forced_word ws p.lower (cycle space p.upper))) ws) ≡ length ws
  length-step ws p true = length-set ws (p.lower - 1) (forced_word ws p.lower (cycle space p.upper))
  length-step ws p false = refl

  pub length-words_from : (ws : List (List ℤ)) (ps : List Pair) → length (words_from space ws ps) ≡ length ws
  length-words_from ws [] = refl
  length-words_from ws (p ∷ ps) = length-words_from (words_from space ws (p ∷ [])) ps ∙ length-step ws p (p.dim == 1)

  letters-step : (c : ℕ) (ws : List (List ℤ)) (p : Pair) (b : Bool) → All (AreLetters c) ws → All (AreLetters c) (cond b (set ws (p.lower - 1) (forced_word ws p.lower (cycle space p.upper))) ws)
  letters-step c ws p true h = All-set (AreLetters c) ws (p.lower - 1) (forced_word ws p.lower (cycle space p.upper)) (letters-forced c ws p.lower (cycle space p.upper) h) h
  letters-step c ws p false h = h

  pub letters-words_from : (c : ℕ) (ws : List (List ℤ)) (ps : List Pair) → All (AreLetters c) ws → All (AreLetters c) (words_from space ws ps)
  letters-words_from c ws [] h = h
  letters-words_from c ws (p ∷ ps) h = letters-words_from c (words_from space ws (p ∷ [])) ps (letters-step c ws p (p.dim == 1) h)

  -- the word of an edge stays where no pair has it as its lower
  pub word-kept : (ws : List (List ℤ)) (ps : List Pair) (e : ℕ) → 1 ≤ e → ((p : Pair) → In p ps → p.dim ≡ 1 → (1 ≤ p.lower) × (p.lower ≡ e → ⊥)) → word_at (words_from space ws ps) e ≡ word_at ws e
  word-kept ws [] e l h = refl
  word-kept ws (p ∷ ps) e l h = word-kept (words_from space ws (p ∷ [])) ps e l (λ q i. h q (there i)) ∙ by (p.dim == 1) refl
    where
      by : (b : Bool) → (p.dim == 1) ≡ b → word_at (cond b (set ws (p.lower - 1) (forced_word ws p.lower (cycle space p.upper))) ws) e ≡ word_at ws e
      by true d = let q = h p here (eqb-true p.dim 1 d) in get_or-set_other ws (p.lower - 1) (e - 1) (forced_word ws p.lower (cycle space p.upper)) [] (λ x. q.1 (omega (arith, x, l, q.0)))
      by false d = refl

-- the measured words of pairs, one part after another
pub edge_words-append : (ws : List (List ℤ)) (ps qs : List Pair) → edge_words ws (ps ++ qs) ≡ edge_words ws ps ++ edge_words ws qs
edge_words-append ws ps qs =
    ap (map (edge_word ws)) (filter-append (λ (p : Pair). p.dim == 1) ps qs)
    ∙ map-append (edge_word ws) (filter (λ (p : Pair). p.dim == 1) ps) (filter (λ (p : Pair). p.dim == 1) qs)
