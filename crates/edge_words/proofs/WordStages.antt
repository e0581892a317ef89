-- The words of edges, pair by pair: what each word is when the field is passed.
use Rattle.std.proofs.Common.{◌≡◌, ◌⊎◌, All, inl, inr, ℕ, ◌-◌, List, [], ◌∷◌, ◌++◌, map, length, set, refl, ap, arith, sym, ◌∙◌, subst, Bool, true, false, cond}
use Rattle.std.specs.Prelude.{ℤ, pos, ◌==◌, not}
use Rattle.std.proofs.lemmas.Bool.{eqb-true, eq-eqb, false≢true, cases_Bool, false_from_ne_true}
use Rattle.std.proofs.lemmas.List.{length-set, append_assoc, append-nil}
use Rattle.std.proofs.lemmas.List.Elements.{All-set}
use Rattle.std.proofs.lemmas.List.FromFn.{get_or-map-range_with_len}
use Rattle.number_lists.specs.Members.{In, here, there}
use Rattle.number_lists.specs.Words.{upto, holds}
use Rattle.number_lists.proofs.CallerLemmas.{push-In, In-left, In-right, In-last, holds-In, In-holds}
use Rattle.face_poset.specs.declared.cells.Pair.{Pair}
use Rattle.face_poset.specs.Poset.{count, IsSpace}
use Rattle.regular_check.specs.declared.cycles.Step.{Step}
use Rattle.regular_check.specs.Rules.{IsRegular}
use Rattle.regular_check.specs.Cycle.{cycle, CyclesGoRound}
use Rattle.vector_field.specs.Pairs.{is_used, IsValid}
use Rattle.vector_field.proofs.CallerLemmas.{Lined, Goes, lined-from}
use Rattle.pair_laws.specs.Letters.{are_letters, reduced, is_reduced, inverted}
use Rattle.pair_laws.proofs.CallerLemmas.{reduced_is, reduced_inverted}
use Rattle.sheet_laws.specs.Permutations.{InRange, at, back}
use Rattle.sheet_laws.specs.Lifts.{critical_edges, columns_of}
use Rattle.sheet_laws.proofs.CallerLemmas.{AreWithin, IsCutAt, IsRound, round-of, cut, within, tree-no_lower, critical-no_lower, critical-no_tree, critical-range, back-at, at-range, distinct-filter, distinct-range}
use Rattle.edge_words.specs.Words.{word_at, step_word, word_of, forced_word, first_word, words_from, words}
use Rattle.edge_words.proofs.FreeWords.{round-closed}
use Rattle.edge_words.proofs.FieldCells.{lower-range, upper-range, In-others}
use Rattle.live_laws.specs.Walks.{AreLetters}
use Rattle.edge_words.proofs.LetterWalks.{letters-are}
use Rattle.edge_words.proofs.StepWords.{word-same, word-other, word_of-append, word_of-agree}
use Rattle.edge_words.proofs.Along.{letters-word_of, letters-forced}
use Rattle.edge_words.proofs.WordLetters.{length-first, letters-first}

module _ (law : CyclesGoRound) (space : List (List (List ℕ))) (pairs : List Pair) (is : IsSpace space) (regular : IsRegular space) (valid : IsValid space pairs) where
  -- the words after the first pairs
  record Stage (done : List Pair) (ws : List (List ℤ)) : Type 0 where
    pub long : length ws ≡ count space 1
    pub letters : All (AreLetters (columns_of space pairs)) ws
    pub short : (e : ℕ) → InRange (count space 1) e → is_reduced (word_at ws e) ≡ true
    pub kept : (e : ℕ) → InRange (count space 1) e → ((p : Pair) → In p done → p.dim ≡ 1 → p.lower ≡ e → ⊥) → word_at ws e ≡ first_word space pairs e
    pub closed : (p : Pair) → In p done → p.dim ≡ 1 → reduced (word_of ws (cycle space p.upper)) ≡ []

  -- ---- at the beginning

  first-short : (e : ℕ) → is_reduced (first_word space pairs e) ≡ true
  first-short e = by (holds (critical_edges space pairs) e)
    where
      by : (b : Bool) → is_reduced (cond b (pos (back (critical_edges space pairs) e) ∷ []) []) ≡ true
      by true = refl
      by false = refl

  first-word : (e : ℕ) → InRange (count space 1) e → word_at (map (first_word space pairs) (upto (count space 1))) e ≡ first_word space pairs e
  first-word e r = get_or-map-range_with_len (first_word space pairs) 1 (count space 1) (e - 1) e [] (omega (arith, r.0, r.1)) (omega (arith, r.0))

  begun : Stage [] (map (first_word space pairs) (upto (count space 1)))
  begun = record {
    long = length-first space pairs;
    letters = letters-first space pairs;
    short = λ e r. ap is_reduced (first-word e r) ∙ first-short e;
    kept = λ e r n. first-word e r;
    closed = λ p i. elim i [ ];
  }

  -- ---- the word of the lower of a pair, put anew

  module _ (done : List Pair) (p : Pair) (i : In p pairs) (d : p.dim ≡ 1) (before : (q : Pair) → In q done → In q pairs × Goes space q p) (ws : List (List ℤ)) (h : Stage done ws) where
    c : IsCutAt p.lower (cycle space p.upper)
    c = cut law space pairs is regular valid p i d

    inside : AreWithin (count space 1) (c.first ++ c.itself ∷ c.last)
    inside = rw c.whole at (within law space pairs is regular valid p i d)

    first_in : AreWithin (count space 1) c.first
    first_in t m = inside t (In-left (c.itself ∷ c.last) m)

    last_in : AreWithin (count space 1) c.last
    last_in t m = inside t (In-right c.first (there m))

    low : InRange (count space 1) p.lower
    low = lower-range space pairs valid p 1 i d

    around : List ℤ
    around = word_of ws (c.last ++ c.first)

    around-letters : AreLetters (columns_of space pairs) around
    unfolding around
    around-letters = letters-word_of (columns_of space pairs) ws (c.last ++ c.first) h.letters

    new : List ℤ
    new = forced_word ws p.lower (cycle space p.upper)

    new-is : new ≡ reduced (cond c.itself.forward (inverted around) around)
    unfolding new around
    new-is = ap (λ (r : Bool × List Step). reduced (cond r.0 (inverted (word_of ws r.1)) (word_of ws r.1))) (c.round [])

    new-letters : AreLetters (columns_of space pairs) new
    unfolding new
    new-letters = letters-forced (columns_of space pairs) ws p.lower (cycle space p.upper) h.letters

    new-short : is_reduced new ≡ true
    new-short = ap is_reduced new-is ∙ reduced_is (cond c.itself.forward (inverted around) around)

    put : List (List ℤ)
    put = set ws (p.lower - 1) new

    put-other : (e : ℕ) → InRange (count space 1) e → (e ≡ p.lower → ⊥) → word_at put e ≡ word_at ws e
    unfolding put
    put-other e r n = word-other ws p.lower e new low.0 r.0 n

    put-same : word_at put p.lower ≡ new
    unfolding put
    put-same = word-same ws p.lower new (rw h.long low)

    -- the step along the lower goes back along the rest
    put-step : step_word put c.itself ≡ reduced (inverted around)
    put-step =
        ap (λ (w : List ℤ). cond c.itself.forward w (inverted w)) (ap (word_at put) c.edge ∙ (put-same ∙ new-is))
        ∙ by c.itself.forward
      where
        by : (b : Bool) → cond b (reduced (cond b (inverted around) around)) (inverted (reduced (cond b (inverted around) around))) ≡ reduced (inverted around)
        by true = refl
        by false = sym (reduced_inverted around (letters-are (columns_of space pairs) around around-letters))

    put-rest : (ss : List Step) → AreWithin (count space 1) ss → ((t : Step) → In t ss → t.edge ≡ p.lower → ⊥) → word_of put ss ≡ word_of ws ss
    put-rest ss r n = word_of-agree put ws ss (λ t j. put-other t.edge (r t j) (n t j))

    put-closes : reduced (word_of put (cycle space p.upper)) ≡ []
    unfolding around
    put-closes =
        ap (λ (ss : List Step). reduced (word_of put ss)) c.whole
        ∙ (ap reduced (word_of-append put c.first (c.itself ∷ c.last))
        ∙ (ap (λ (w : List ℤ). reduced (w ++ (step_word put c.itself ++ word_of put c.last))) (put-rest c.first first_in (λ t j. c.others t (In-right c.last j)))
        ∙ (ap (λ (w : List ℤ). reduced (word_of ws c.first ++ (step_word put c.itself ++ w))) (put-rest c.last last_in (λ t j. c.others t (In-left c.first j)))
        ∙ (ap (λ (w : List ℤ). reduced (word_of ws c.first ++ (w ++ word_of ws c.last))) put-step
        ∙ (ap (λ (w : List ℤ). reduced (word_of ws c.first ++ (reduced (inverted w) ++ word_of ws c.last))) (word_of-append ws c.last c.first)
        ∙ round-closed (word_of ws c.first) (word_of ws c.last) (ok c.first) (ok c.last))))))
      where
        ok : (ss : List Step) → are_letters (word_of ws ss) ≡ true
        ok ss = letters-are (columns_of space pairs) (word_of ws ss) (letters-word_of (columns_of space pairs) ws ss h.letters)

    -- the uppers of earlier pairs close as before
    earlier-closes : (q : Pair) → In q done → q.dim ≡ 1 → reduced (word_of put (cycle space q.upper)) ≡ []
    earlier-closes q j k =
        ap reduced (put-rest (cycle space q.upper) (within law space pairs is regular valid q (before q j).0 k) apart) ∙ h.closed q j k
      where
        round : IsRound space q.upper (cycle space q.upper)
        round = round-of law space q.upper is regular (upper-range space pairs valid q 1 (before q j).0 k)

        apart : (t : Step) → In t (cycle space q.upper) → t.edge ≡ p.lower → ⊥
        apart t n e = by (cases_Bool (p.lower == q.lower))
          where
            by : ((p.lower == q.lower) ≡ true) ⊎ ((p.lower == q.lower) ≡ false) → ⊥
            by (inl x) = (before q j).1.apart.0 (inl (k ∙ sym d, sym (eqb-true p.lower q.lower x)))
            by (inr x) =
                (before q j).1.free (d ∙ sym k)
                (In-others space pairs valid q 1 p.lower k (rw e at (round.inside t n)) (λ y. false≢true (sym x ∙ eq-eqb p.lower q.lower y)))

    put-short : (e : ℕ) → InRange (count space 1) e → is_reduced (word_at put e) ≡ true
    put-short e r = by (cases_Bool (e == p.lower))
      where
        by : ((e == p.lower) ≡ true) ⊎ ((e == p.lower) ≡ false) → is_reduced (word_at put e) ≡ true
        by (inl x) = ap is_reduced (ap (word_at put) (eqb-true e p.lower x) ∙ put-same) ∙ new-short
        by (inr x) = ap is_reduced (put-other e r (λ y. false≢true (sym x ∙ eq-eqb e p.lower y))) ∙ h.short e r

    put-stage : Stage (done ++ p ∷ []) put
    unfolding put
    put-stage = record {
      long = length-set ws (p.lower - 1) new ∙ h.long;
      letters = All-set (AreLetters (columns_of space pairs)) ws (p.lower - 1) new new-letters h.letters;
      short = put-short;
      kept = λ e r n. put-other e r (λ x. n p (In-last done p) d (sym x)) ∙ h.kept e r (λ q j k x. n q (In-left (p ∷ []) j) k x);
      closed = λ q j k. elim (push-In done p j) [ inl i ↦ earlier-closes q i k | inr x ↦ rw x put-closes ];
    }

  -- a pair of another dimension changes nothing
  skip-stage : (done : List Pair) (p : Pair) (ws : List (List ℤ)) → (p.dim ≡ 1 → ⊥) → Stage done ws → Stage (done ++ p ∷ []) ws
  skip-stage done p ws n h = record {
    long = h.long;
    letters = h.letters;
    short = h.short;
    kept = λ e r k. h.kept e r (λ q j d x. k q (In-left (p ∷ []) j) d x);
    closed = λ q j k. elim (push-In done p j) [ inl i ↦ h.closed q i k | inr x ↦ absurd (n (rw x at k)) ];
  }

  next-stage : (done : List Pair) (p : Pair) → In p pairs → ((q : Pair) → In q done → In q pairs × Goes space q p) → (ws : List (List ℤ)) → Stage done ws
      → Stage (done ++ p ∷ []) (cond (p.dim == 1) (set ws (p.lower - 1) (forced_word ws p.lower (cycle space p.upper))) ws)
  unfolding put new
  next-stage done p i before ws h = by (p.dim == 1) refl
    where
      by : (b : Bool) → (p.dim == 1) ≡ b → Stage (done ++ p ∷ []) (cond b (set ws (p.lower - 1) (forced_word ws p.lower (cycle space p.upper))) ws)
      by true e = put-stage done p i (eqb-true p.dim 1 e) before ws h
      by false e = skip-stage done p ws (λ d. false≢true (sym e ∙ eq-eqb p.dim 1 d)) h

  all-stages : (done ps : List Pair) (ws : List (List ℤ)) → ((q : Pair) → In q done → In q pairs) → ((p : Pair) → In p ps → In p pairs)
      → ((q p : Pair) → In q done → In p ps → Goes space q p) → Lined (Goes space) ps → Stage done ws → Stage (done ++ ps) (words_from space ws ps)
  all-stages done [] ws a b g l h = let P : List Pair → Type 0 = λ ps. Stage ps ws in subst P (sym (append-nil done)) h
  all-stages done (p ∷ ps) ws a b g l h =
      let P : List Pair → Type 0 = λ qs. Stage qs (words_from space ws (p ∷ ps)) in
      subst P (append_assoc done (p ∷ []) ps)
      (all-stages (done ++ p ∷ []) ps (cond (p.dim == 1) (set ws (p.lower - 1) (forced_word ws p.lower (cycle space p.upper))) ws)
      (λ q i. elim (push-In done p i) [ inl j ↦ a q j | inr x ↦ rw x (b p here) ])
      (λ q i. b q (there i))
      (λ q r i j. elim (push-In done p i) [ inl k ↦ g q r k (there j) | inr x ↦ rw x (l.0 r j) ])
      l.1 (next-stage done p (b p here) (λ q i. (a q i, g q p i here)) ws h))

  finished : Stage pairs (words space pairs)
  finished = all-stages [] pairs (map (first_word space pairs) (upto (count space 1))) (λ q i. elim i [ ]) (λ p i. i) (λ q p i. elim i [ ]) (lined-from space pairs valid).lined begun

  -- ---- what the words are

  pub words-short : (e : ℕ) → InRange (count space 1) e → is_reduced (word_at (words space pairs) e) ≡ true
  words-short = finished.short

  pub words-close : (p : Pair) → In p pairs → p.dim ≡ 1 → reduced (word_of (words space pairs) (cycle space p.upper)) ≡ []
  words-close = finished.closed

  pub tree-word : (p : Pair) → In p pairs → p.dim ≡ 0 → word_at (words space pairs) p.upper ≡ []
  tree-word p i d =
      finished.kept p.upper (upper-range space pairs valid p 0 i d) (λ q j k e. tree-no_lower space pairs valid p q i j d k e)
      ∙ ap (λ (b : Bool). cond b (pos (back (critical_edges space pairs) p.upper) ∷ []) [])
      (false_from_ne_true (holds (critical_edges space pairs) p.upper) (λ e. critical-no_tree space pairs valid p i d (holds-In (critical_edges space pairs) e)))

  pub critical-word : (g : ℕ) → InRange (columns_of space pairs) g → word_at (words space pairs) (at (critical_edges space pairs) g) ≡ pos g ∷ []
  critical-word g r =
      let e = at-range (critical_edges space pairs) g r in
      finished.kept (at (critical_edges space pairs) g) (critical-range space pairs valid (at (critical_edges space pairs) g) e)
      (λ q j k x. critical-no_lower space pairs valid q j k (rw x e))
      ∙ (ap (λ (b : Bool). cond b (pos (back (critical_edges space pairs) (at (critical_edges space pairs) g)) ∷ []) []) (In-holds e)
      ∙ ap (λ (n : ℕ). pos n ∷ []) (back-at (critical_edges space pairs) g (distinct-filter (λ c. not (is_used pairs 1 c)) (upto (count space 1)) (distinct-range 1 (count space 1))) r))
