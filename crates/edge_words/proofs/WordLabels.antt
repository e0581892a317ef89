-- Labels by words: the walk by them follows the words of the steps, and with the words of edges they are the lift.
use Rattle.std.proofs.Common.{◌≡◌, All, ℕ, ◌-◌, List, [], ◌∷◌, map, length, refl, ap, arith, sym, ◌∙◌, subst, Bool, true, false, cond}
use Rattle.std.specs.Prelude.{ℤ, pos}
use Rattle.std.proofs.lemmas.List.{length-map, get_or-map, map-id}
use Rattle.std.proofs.lemmas.List.FromFn.{length-map-range_with_len}
use Rattle.number_lists.specs.Members.{In, here, there}
use Rattle.number_lists.specs.Words.{upto}
use Rattle.number_lists.proofs.CallerLemmas.{In-all, map-In}
use Rattle.face_poset.specs.declared.cells.Pair.{Pair}
use Rattle.face_poset.specs.Poset.{count, IsSpace}
use Rattle.regular_check.specs.declared.cycles.Step.{Step}
use Rattle.regular_check.specs.Rules.{IsRegular}
use Rattle.regular_check.specs.Cycle.{cycle, CyclesGoRound}
use Rattle.vector_field.specs.Pairs.{IsValid}
use Rattle.pair_laws.specs.Letters.{reduced, inverted, follow}
use Rattle.sheet_laws.specs.Permutations.{InRange, is_permutation, at, back, values}
use Rattle.sheet_laws.specs.Tables.{column, is_table}
use Rattle.sheet_laws.specs.Labellings.{label, step, walk}
use Rattle.sheet_laws.specs.Lifts.{critical_edges, columns_of, IsLift, lift}
use Rattle.sheet_laws.proofs.CallerLemmas.{parts-of, at_values, at-range, critical-range, list_of, back_values, same_turns, AreWithin, closes-from, within, lift_is_one}
use Rattle.live_laws.proofs.CallerLemmas.{table-column}
use Rattle.edge_words.specs.Words.{word_at, step_word, word_of, words}
use Rattle.live_laws.specs.Walks.{move, AreLetters}
use Rattle.edge_words.specs.Labels.{label_of, labels_of}
use Rattle.edge_words.proofs.FieldCells.{upper-range}
use Rattle.edge_words.proofs.LetterWalks.{follow-append, word-turn, word-back, word-short}
use Rattle.edge_words.proofs.StepWords.{each-word}
use Rattle.edge_words.proofs.Along.{letters-word_at, letters-word_of}
use Rattle.edge_words.proofs.WordLetters.{words-long, words-letters}
use Rattle.edge_words.proofs.WordStages.{words-close, tree-word, critical-word}

-- ---- labels by any words in the letters of a table

module _ (c m n : ℕ) (cells : List ℕ) (table : is_table c m cells ≡ true) (ws : List (List ℤ)) (long : length ws ≡ n) (letters : All (AreLetters c) ws) where
  abbrev pub by_words : List (List ℕ)
  by_words = map (λ w. values m (follow (move c m cells) w)) ws

  pub label-word : (e : ℕ) → InRange n e → label by_words e ≡ values m (follow (move c m cells) (word_at ws e))
  label-word e r = get_or-map (label_of c m cells) ws (e - 1) [] [] (omega (arith, r.0, r.1, long))

  -- a step follows its word
  step-word : (s : Step) → InRange n s.edge → (x : ℕ) → InRange m x → step by_words s x ≡ follow (move c m cells) (step_word ws s) x
  step-word s r x q =
      ap (λ (f : List ℕ). cond s.forward (at f x) (back f x)) (label-word s.edge r)
      ∙ by s.forward
    where
      by : (b : Bool)
          → cond b (at (values m (follow (move c m cells) (word_at ws s.edge))) x) (back (values m (follow (move c m cells) (word_at ws s.edge))) x)
          ≡ follow (move c m cells) (cond b (word_at ws s.edge) (inverted (word_at ws s.edge))) x
      by true = at_values m (follow (move c m cells) (word_at ws s.edge)) x q
      by false =
          back_values m (follow (move c m cells) (word_at ws s.edge)) (word-turn c m cells table (word_at ws s.edge) (letters-word_at c ws s.edge letters)) x q
          ∙ word-back c m cells table (word_at ws s.edge) (letters-word_at c ws s.edge letters) x

  step-into : (s : Step) → InRange n s.edge → (x : ℕ) → InRange m x → InRange m (follow (move c m cells) (step_word ws s) x)
  step-into s r x q = by s.forward
    where
      by : (b : Bool) → InRange m (follow (move c m cells) (cond b (word_at ws s.edge) (inverted (word_at ws s.edge))) x)
      by true = (word-turn c m cells table (word_at ws s.edge) (letters-word_at c ws s.edge letters)).into x q
      by false = subst (InRange m) (word-back c m cells table (word_at ws s.edge) (letters-word_at c ws s.edge letters) x) ((word-turn c m cells table (word_at ws s.edge) (letters-word_at c ws s.edge letters)).inv_into x q)

  -- a walk follows the word of its steps
  pub walk-word : (ss : List Step) → AreWithin n ss → (x : ℕ) → InRange m x → walk by_words ss x ≡ follow (move c m cells) (word_of ws ss) x
  walk-word [] h x q = refl
  walk-word (s ∷ ss) h x q =
      ap (walk by_words ss) (step-word s (h s here) x q)
      ∙ (walk-word ss (λ t i. h t (there i)) (follow (move c m cells) (step_word ws s) x) (step-into s (h s here) x q)
      ∙ sym (follow-append (move c m cells) (step_word ws s) (word_of ws ss) x))

-- ---- the words of edges

module _ (law : CyclesGoRound) (space : List (List (List ℕ))) (pairs : List Pair) (is : IsSpace space) (regular : IsRegular space) (valid : IsValid space pairs)
    (m : ℕ) (cells : List ℕ) (table : is_table (columns_of space pairs) m cells ≡ true) where
  letters : All (AreLetters (columns_of space pairs)) (words space pairs)
  letters = words-letters space pairs

  long : length (words space pairs) ≡ count space 1
  long = words-long space pairs

  -- the walk by these labels follows the word, and the reduced word
  labels-walk : (ss : List Step) → AreWithin (count space 1) ss → (x : ℕ) → InRange m x
      → walk (labels_of (columns_of space pairs) m cells (words space pairs)) ss x ≡ follow (move (columns_of space pairs) m cells) (word_of (words space pairs) ss) x
  labels-walk ss h x q = walk-word (columns_of space pairs) m (count space 1) cells table (words space pairs) long letters ss h x q

  labels-walk_short : (ss : List Step) → AreWithin (count space 1) ss → (x : ℕ) → InRange m x
      → walk (labels_of (columns_of space pairs) m cells (words space pairs)) ss x ≡ follow (move (columns_of space pairs) m cells) (reduced (word_of (words space pairs) ss)) x
  labels-walk_short ss h x q =
      labels-walk ss h x q
      ∙ sym (word-short (columns_of space pairs) m cells table (word_of (words space pairs) ss) (letters-word_of (columns_of space pairs) (words space pairs) ss letters) x q)

  labels-label : (e : ℕ) → InRange (count space 1) e → label (labels_of (columns_of space pairs) m cells (words space pairs)) e ≡ values m (follow (move (columns_of space pairs) m cells) (word_at (words space pairs) e))
  labels-label e r = label-word (columns_of space pairs) m (count space 1) cells table (words space pairs) long letters e r

  labels-permute : (e : ℕ) → InRange (count space 1) e → is_permutation m (label (labels_of (columns_of space pairs) m cells (words space pairs)) e) ≡ true
  labels-permute e r =
      ap (is_permutation m) (labels-label e r)
      ∙ list_of m (follow (move (columns_of space pairs) m cells) (word_at (words space pairs) e)) (word-turn (columns_of space pairs) m cells table (word_at (words space pairs) e) (letters-word_at (columns_of space pairs) (words space pairs) e letters))

  all-permute : (f : List ℕ) → In f (labels_of (columns_of space pairs) m cells (words space pairs)) → is_permutation m f ≡ true
  all-permute f i =
      let r = map-In (label_of (columns_of space pairs) m cells) (words space pairs) i in
      ap (is_permutation m) r.2
      ∙ each-word (λ w. is_permutation m (label_of (columns_of space pairs) m cells w) ≡ true) (count space 1) (words space pairs) long
      (λ e q. list_of m (follow (move (columns_of space pairs) m cells) (word_at (words space pairs) e)) (word-turn (columns_of space pairs) m cells table (word_at (words space pairs) e) (letters-word_at (columns_of space pairs) (words space pairs) e letters))) r.0 r.1

  labels-lift : IsLift space pairs m cells (labels_of (columns_of space pairs) m cells (words space pairs))
  labels-lift = record {
    labels = record {
      one_for_each = length-map (words space pairs) (label_of (columns_of space pairs) m cells) ∙ long;
      permutations = In-all (is_permutation m) (labels_of (columns_of space pairs) m cells (words space pairs)) all-permute;
    };
    tree = λ p i d.
        labels-label p.upper (upper-range space pairs valid p 0 i d)
        ∙ (ap (label_of (columns_of space pairs) m cells) (tree-word law space pairs is regular valid p i d) ∙ map-id (upto m));
    columns = λ g r.
        labels-label (at (critical_edges space pairs) g) (critical-range space pairs valid (at (critical_edges space pairs) g) (at-range (critical_edges space pairs) g r))
        ∙ (ap (label_of (columns_of space pairs) m cells) (critical-word law space pairs is regular valid g r) ∙ column-values g r);
    forced = λ p i d.
        closes-from m (labels_of (columns_of space pairs) m cells (words space pairs)) (cycle space p.upper) (λ x q.
        labels-walk_short (cycle space p.upper) (within law space pairs is regular valid p i d) x q
        ∙ ap (λ (w : List ℤ). follow (move (columns_of space pairs) m cells) w x) (words-close law space pairs is regular valid p i d));
  }
    where
      column-values : (g : ℕ) → InRange (columns_of space pairs) g → values m (follow (move (columns_of space pairs) m cells) (pos g ∷ [])) ≡ column (columns_of space pairs) m cells g
      column-values g r =
          let h = table-column (columns_of space pairs) m cells table g r in
          same_turns m (values m (follow (move (columns_of space pairs) m cells) (pos g ∷ []))) (column (columns_of space pairs) m cells g)
          (length-map-range_with_len (at (column (columns_of space pairs) m cells g)) 1 m) (parts-of m (column (columns_of space pairs) m cells g) h).long
          (λ s q. at_values m (at (column (columns_of space pairs) m cells g)) s q)

  -- they are the lift
  pub labels-are_lift : labels_of (columns_of space pairs) m cells (words space pairs) ≡ lift space pairs m cells
  labels-are_lift = (lift_is_one law space pairs m cells is regular valid table).only (labels_of (columns_of space pairs) m cells (words space pairs)) labels-lift

  -- the walk of the lift follows the word of the steps, and the reduced word
  pub lift-walk : (ss : List Step) → AreWithin (count space 1) ss → (x : ℕ) → InRange m x
      → walk (lift space pairs m cells) ss x ≡ follow (move (columns_of space pairs) m cells) (word_of (words space pairs) ss) x
  lift-walk ss h x q = rw labels-are_lift at (labels-walk ss h x q)

  pub lift-walk_short : (ss : List Step) → AreWithin (count space 1) ss → (x : ℕ) → InRange m x
      → walk (lift space pairs m cells) ss x ≡ follow (move (columns_of space pairs) m cells) (reduced (word_of (words space pairs) ss)) x
  lift-walk_short ss h x q = rw labels-are_lift at (labels-walk_short ss h x q)
