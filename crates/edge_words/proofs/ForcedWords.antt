-- The words of edges are forced: at each pair of an edge with a 2-cell there is one reduced word that closes the round, and there is one list
-- of words that do so everywhere.
use Rattle.std.proofs.Common.{◌≡◌, ℕ, suc, ◌-◌, ◌<◌, List, [], ◌∷◌, ◌++◌, length, get_or, set, refl, ap, arith, sym, ◌∙◌, subst, Bool, true, false, cond, ◌&&◌}
use Rattle.std.specs.Prelude.{ℤ, pos}
use Rattle.std.proofs.lemmas.Bool.{and_parts, and_from}
use Rattle.std.proofs.lemmas.List.{same_lists, get_or_default}
use Rattle.number_lists.specs.Members.{In, there}
use Rattle.number_lists.proofs.CallerLemmas.{In-all, all-In, at-In, In-left, In-right}
use Rattle.face_poset.specs.declared.cells.Pair.{Pair}
use Rattle.face_poset.specs.Poset.{count, IsSpace}
use Rattle.regular_check.specs.declared.cycles.Step.{Step}
use Rattle.regular_check.specs.Rules.{IsRegular}
use Rattle.regular_check.specs.Cycle.{cycle, CyclesGoRound}
use Rattle.vector_field.specs.Pairs.{others, IsValid}
use Rattle.vector_field.proofs.CallerLemmas.{not-itself}
use Rattle.pair_laws.specs.Letters.{are_letters, reduced, is_reduced, inverted}
use Rattle.pair_laws.proofs.CallerLemmas.{letters_inverted}
use Rattle.sheet_laws.specs.Permutations.{InRange, at, back}
use Rattle.sheet_laws.specs.Lifts.{critical_edges, columns_of}
use Rattle.sheet_laws.proofs.CallerLemmas.{AreWithin, IsCutAt, cut, within, cut-others, back-range, at-back, over-edges}
use Rattle.edge_words.specs.Words.{word_at, step_word, word_of, words}
use Rattle.edge_words.specs.Laws.{AreForced, IsOnlyForced}
use Rattle.edge_words.proofs.FreeWords.{inverted-twice, is_reduced-inverted, round-once}
use Rattle.edge_words.proofs.FieldCells.{lower-range, others-range}
use Rattle.edge_words.proofs.LetterWalks.{letters-are}
use Rattle.edge_words.proofs.StepWords.{each-word, word-same, word-other, word_of-append, word_of-agree, word_of-are_letters}
use Rattle.edge_words.proofs.Along.{letters-word_at}
use Rattle.edge_words.proofs.WordLetters.{words-long, words-letters}
use Rattle.edge_words.proofs.WordStages.{words-short, words-close, tree-word, critical-word}

module _ (law : CyclesGoRound) (space : List (List (List ℕ))) (pairs : List Pair) (is : IsSpace space) (regular : IsRegular space) (valid : IsValid space pairs) where
  long : length (words space pairs) ≡ count space 1
  long = words-long space pairs

  short : (e : ℕ) → InRange (count space 1) e → is_reduced (word_at (words space pairs) e) ≡ true
  short = words-short law space pairs is regular valid

  closed : (p : Pair) → In p pairs → p.dim ≡ 1 → reduced (word_of (words space pairs) (cycle space p.upper)) ≡ []
  closed = words-close law space pairs is regular valid

  tree : (p : Pair) → In p pairs → p.dim ≡ 0 → word_at (words space pairs) p.upper ≡ []
  tree = tree-word law space pairs is regular valid

  own : (g : ℕ) → InRange (columns_of space pairs) g → word_at (words space pairs) (at (critical_edges space pairs) g) ≡ pos g ∷ []
  own = critical-word law space pairs is regular valid

  -- the word of the cycle of the upper, cut at the lower, by other words that agree with these but there
  module _ (p : Pair) (i : In p pairs) (d : p.dim ≡ 1) where
    abbrev piece : IsCutAt p.lower (cycle space p.upper)
    piece = cut law space pairs is regular valid p i d

    pub all_in : AreWithin (count space 1) (piece.first ++ piece.itself ∷ piece.last)
    all_in = rw piece.whole at (within law space pairs is regular valid p i d)

    parted : (ws vs : List (List ℤ)) (w : List ℤ) → word_at ws p.lower ≡ w → ((e : ℕ) → In e (others space p) → word_at ws e ≡ word_at vs e)
        → reduced (word_of ws (cycle space p.upper)) ≡ [] → reduced (word_of vs piece.first ++ (cond piece.itself.forward w (inverted w) ++ word_of vs piece.last)) ≡ []
    parted ws vs w same other e =
        sym (ap (λ (ss : List Step). reduced (word_of ws ss)) piece.whole
        ∙ (ap reduced (word_of-append ws piece.first (piece.itself ∷ piece.last))
        ∙ (ap (λ (v : List ℤ). reduced (v ++ (step_word ws piece.itself ++ word_of ws piece.last))) (word_of-agree ws vs piece.first (λ t j. away t (In-right piece.last j)))
        ∙ (ap (λ (v : List ℤ). reduced (word_of vs piece.first ++ (step_word ws piece.itself ++ v))) (word_of-agree ws vs piece.last (λ t j. away t (In-left piece.first j)))
        ∙ ap (λ (v : List ℤ). reduced (word_of vs piece.first ++ (cond piece.itself.forward v (inverted v) ++ word_of vs piece.last))) (ap (word_at ws) piece.edge ∙ same)))))
        ∙ e
      where
        away : (t : Step) → In t (piece.last ++ piece.first) → word_at ws t.edge ≡ word_at vs t.edge
        away t j = other t.edge (cut-others law space pairs is regular valid p i d t j)

  -- reduced words with which two words at the lower of a pair close the round are the same
  closing-once : (p : Pair) → (i : In p pairs) → (d : p.dim ≡ 1) → (ws : List (List ℤ)) → ((e : ℕ) → InRange (count space 1) e → are_letters (word_at ws e) ≡ true)
      → (w v : List ℤ) → are_letters w ≡ true → is_reduced w ≡ true → are_letters v ≡ true → is_reduced v ≡ true
      → reduced (word_of ws (piece p i d).first ++ (cond (piece p i d).itself.forward w (inverted w) ++ word_of ws (piece p i d).last)) ≡ []
      → reduced (word_of ws (piece p i d).first ++ (cond (piece p i d).itself.forward v (inverted v) ++ word_of ws (piece p i d).last)) ≡ []
      → w ≡ v
  closing-once p i d ws letters w v lw sw lv sv = by (piece p i d).itself.forward
    where
      first : List ℤ
      first = word_of ws (piece p i d).first

      last : List ℤ
      last = word_of ws (piece p i d).last

      first-ok : are_letters (word_of ws (piece p i d).first) ≡ true
      first-ok = word_of-are_letters (count space 1) ws letters (piece p i d).first (λ t j. all_in p i d t (In-left ((piece p i d).itself ∷ (piece p i d).last) j))

      last-ok : are_letters (word_of ws (piece p i d).last) ≡ true
      last-ok = word_of-are_letters (count space 1) ws letters (piece p i d).last (λ t j. all_in p i d t (In-right (piece p i d).first (there j)))

      by : (b : Bool) → reduced (first ++ (cond b w (inverted w) ++ last)) ≡ [] → reduced (first ++ (cond b v (inverted v) ++ last)) ≡ [] → w ≡ v
      by true h k = round-once first w v last first-ok lw lv last-ok sw sv h k
      by false h k =
          sym (inverted-twice w)
          ∙ (ap inverted (round-once first (inverted w) (inverted v) last first-ok (letters_inverted w lw) (letters_inverted v lv) last-ok (is_reduced-inverted w lw sw) (is_reduced-inverted v lv sv) h k)
          ∙ inverted-twice v)

  ok : (e : ℕ) → InRange (count space 1) e → are_letters (word_at (words space pairs) e) ≡ true
  ok e r = letters-are (columns_of space pairs) (word_at (words space pairs) e) (letters-word_at (columns_of space pairs) (words space pairs) e (words-letters space pairs))

  apart : (p : Pair) (x : ℕ) → In x (others space p) → x ≡ p.lower → ⊥
  apart p x j e = not-itself space p (subst (λ (y : ℕ). In y (others space p)) e j)

  -- no other reduced word at the lower of a pair closes the round
  pub words-only : (p : Pair) → In p pairs → p.dim ≡ 1 → IsOnlyForced space (words space pairs) p
  words-only p i d w l s e =
      let low = lower-range space pairs valid p 1 i d in
      closing-once p i d (words space pairs) ok w (word_at (words space pairs) p.lower) l s (ok p.lower low) (short p.lower low)
      (parted p i d (set (words space pairs) (p.lower - 1) w) (words space pairs) w (word-same (words space pairs) p.lower w (rw long low)) (λ x j. word-other (words space pairs) p.lower x w low.0 (others-range space pairs valid is p 1 x i d j).0 (apart p x j)) e)
      (parted p i d (words space pairs) (words space pairs) (word_at (words space pairs) p.lower) refl (λ x j. refl) (closed p i d))

  -- the words are forced
  pub words-forced : AreForced space pairs (words space pairs)
  words-forced = record {
    one_for_each = long;
    words = In-all (λ w. are_letters w && is_reduced w) (words space pairs)
        (each-word (λ w. (are_letters w && is_reduced w) ≡ true) (count space 1) (words space pairs) long
        (λ e r. and_from (are_letters (word_at (words space pairs) e)) (is_reduced (word_at (words space pairs) e)) (ok e r) (short e r)));
    tree = tree;
    letters = own;
    closes = closed;
  }

  -- and no others are
  pub words-one : (vs : List (List ℤ)) → AreForced space pairs vs → vs ≡ words space pairs
  words-one vs h =
      same_lists vs (words space pairs) (h.one_for_each ∙ sym long) (λ k d l.
      default vs k d l ∙ (one-word (suc k) (omega arith, omega (arith, l, h.one_for_each)) ∙ sym (default (words space pairs) k d (omega (arith, l, h.one_for_each, long)))))
    where
      default : (ws : List (List ℤ)) (k : ℕ) (d : List ℤ) → k < length ws → get_or ws k d ≡ word_at ws (suc k)
      default ws k d l = let e : suc k - 1 ≡ k = omega arith in get_or_default ws k d [] l ∙ ap (λ (i : ℕ). get_or ws i []) (sym e)

      both : (e : ℕ) → InRange (count space 1) e → (are_letters (word_at vs e) ≡ true) × (is_reduced (word_at vs e) ≡ true)
      both e r =
          and_parts (are_letters (word_at vs e)) (is_reduced (word_at vs e))
          (all-In (λ w. are_letters w && is_reduced w) h.words (at-In vs (e - 1) [] (omega (arith, r.0, r.1, h.one_for_each))))

      pass : (p : Pair) → In p pairs → p.dim ≡ 1 → ((g : ℕ) → In g (others space p) → word_at vs g ≡ word_at (words space pairs) g) → word_at vs p.lower ≡ word_at (words space pairs) p.lower
      pass p i d same =
          let low = lower-range space pairs valid p 1 i d in
          closing-once p i d vs (λ e r. (both e r).0) (word_at vs p.lower) (word_at (words space pairs) p.lower) (both p.lower low).0 (both p.lower low).1 (ok p.lower low) (short p.lower low)
          (parted p i d vs vs (word_at vs p.lower) refl (λ x j. refl) (h.closes p i d))
          (parted p i d (words space pairs) vs (word_at (words space pairs) p.lower) refl (λ x j. sym (same x j)) (closed p i d))

      one-word : (e : ℕ) → InRange (count space 1) e → word_at vs e ≡ word_at (words space pairs) e
      one-word =
          over-edges space pairs is valid (λ e. word_at vs e ≡ word_at (words space pairs) e)
          (λ e r i.
          let g : InRange (columns_of space pairs) (back (critical_edges space pairs) e) = back-range (critical_edges space pairs) e i in
          let k : at (critical_edges space pairs) (back (critical_edges space pairs) e) ≡ e = at-back (critical_edges space pairs) e i in
          ap (word_at vs) (sym k) ∙ (h.letters (back (critical_edges space pairs) e) g ∙ sym (ap (word_at (words space pairs)) (sym k) ∙ own (back (critical_edges space pairs) e) g)))
          (λ p i d r. h.tree p i d ∙ sym (tree p i d))
          pass
