-- The words and the sums along a field, pair by pair.
use Rattle.std.proofs.Common.{◌≡◌, ℕ, ◌+◌, ◌-◌, ◌<◌, ◌≤◌, List, [], ◌∷◌, ◌++◌, map, length, take, drop, get_or, set, refl, ap, sym, ◌∙◌, subst, arith, Bool, true, false, inl}
use Rattle.std.specs.Prelude.{ℤ, ◌==◌, not}
use Rattle.std.proofs.lemmas.Bool.{eqb-true, eq-eqb}
use Rattle.std.proofs.lemmas.List.{append_assoc, take_more, take-append-drop, get_or-set_same, map-append, length-map}
use Rattle.number_lists.specs.Members.{In, here, there}
use Rattle.number_lists.specs.Words.{upto}
use Rattle.number_lists.proofs.CallerLemmas.{In-right, at-In, length-filter-le, length-upto, upto-In, In-inside}
use Rattle.face_poset.specs.declared.cells.Cell.{Cell}
use Rattle.face_poset.specs.declared.cells.Pair.{Pair}
use Rattle.face_poset.specs.Poset.{Layers, count, IsSpace, IsLimited}
use Rattle.face_poset.specs.Below.{cell_at}
use Rattle.regular_check.specs.Rules.{IsRegular}
use Rattle.regular_check.specs.Cycle.{cycle, CyclesGoRound}
use Rattle.vector_field.specs.Pairs.{is_used, is_incident, critical_of, Field, IsFieldOf, IsValid}
use Rattle.vector_field.proofs.CallerLemmas.{Lined, Goes, lined-from, incident-true, critical-is}
use Rattle.sheet_laws.specs.Permutations.{InRange}
use Rattle.sheet_laws.specs.Lifts.{columns_of}
use Rattle.edge_words.specs.Words.{word_at, words_from, words, forced_word, cycle_word, critical_disks, relators}
use Rattle.edge_words.specs.declared.fault.WordFault.{WordFault}
use Rattle.edge_words.specs.Limits.{disk_word, edge_words, first_long, IsFault}
use Rattle.edge_words.specs.Counting.{IsCounted}
use Rattle.edge_words.specs.Reducing.{AreWords, AreSteps}
use Rattle.edge_words.proofs.Letters.{letters-wider}
use Rattle.edge_words.proofs.Counted.{counted-append, fault-next}
use Rattle.edge_words.proofs.Along.{words_from-append, word-kept, edge_words-append}
use Rattle.edge_words.proofs.WordLetters.{first, letters-from}
use Rattle.edge_words.proofs.FieldCells.{low-range, cycle-within}

lined-right : {A : Type 0} (R : A → A → Type 0) (xs ys : List A) → Lined R (xs ++ ys) → Lined R ys
lined-right R [] ys h = h
lined-right R (x ∷ xs) ys h = lined-right R xs ys h.1

-- the pairs before a place, at it and behind it
pub pairs-more : (pairs : List Pair) (i : ℕ) (p : Pair) → i < length pairs → p ≡ get_or pairs i p → take (i + 1) pairs ≡ take i pairs ++ p ∷ []
pairs-more pairs i p l e = take_more pairs i p l ∙ ap (λ (q : Pair). take i pairs ++ q ∷ []) (sym e)

pub pairs-split : (pairs : List Pair) (i : ℕ) (p : Pair) → i < length pairs → p ≡ get_or pairs i p → pairs ≡ take i pairs ++ p ∷ drop (i + 1) pairs
pairs-split pairs i p l e =
    sym (take-append-drop (i + 1) pairs)
    ∙ (ap (λ (xs : List Pair). xs ++ drop (i + 1) pairs) (pairs-more pairs i p l e) ∙ append_assoc (take i pairs) (p ∷ []) (drop (i + 1) pairs))

-- the measured word of a pair, where the word of its lower is the same
same-measured : (ws vs : List (List ℤ)) (p : Pair) → (p.dim ≡ 1 → word_at ws p.lower ≡ word_at vs p.lower) → edge_words ws (p ∷ []) ≡ edge_words vs (p ∷ [])
same-measured ws vs p h = by (p.dim == 1) refl
  where
    by : (b : Bool) → (p.dim == 1) ≡ b → edge_words ws (p ∷ []) ≡ edge_words vs (p ∷ [])
    by true k = rw k (ap (λ (v : List ℤ). (cell_at 1 p.lower, v) ∷ []) (h (eqb-true p.dim 1 k)))
    by false k = rw k refl

module _ (space : Layers) (pairs : List Pair) where
  pub columns-few : IsLimited space → columns_of space pairs ≤ 60000
  columns-few h = omega (arith, h.most, length-filter-le (λ cell. not (is_used pairs 1 cell)) (upto (count space 1)), length-upto (count space 1))

  pub words-are : IsLimited space → (ps : List Pair) → AreWords (words_from space (first space pairs) ps)
  words-are h ps k d l = letters-wider (columns_of space pairs) 60000 (get_or (words_from space (first space pairs) ps) k d) (columns-few h) (letters-from space pairs ps k d l)

  -- the word of the lower of a pair is final as soon as it is made
  module _ (valid : IsValid space pairs) (i : ℕ) (p : Pair) (l : i < length pairs) (e : p ≡ get_or pairs i p) where
    there-is : In p pairs
    there-is = subst (λ (ps : List Pair). In p ps) (sym (pairs-split pairs i p l e)) (In-right (take i pairs) here)

    pub incident-is : is_incident space p ≡ true
    incident-is = (lined-from space pairs valid).incident p there-is

    later : (q : Pair) → In q (drop (i + 1) pairs) → Goes space p q
    later q m = (lined-right (Goes space) (take i pairs) (p ∷ drop (i + 1) pairs) (subst (Lined (Goes space)) (pairs-split pairs i p l e) (lined-from space pairs valid).lined)).0 q m

    behind : (q : Pair) → In q (drop (i + 1) pairs) → In q pairs
    behind q m = subst (λ (ps : List Pair). In q ps) (sym (pairs-split pairs i p l e)) (In-right (take i pairs) (there m))

    before : List (List ℤ)
    before = words_from space (first space pairs) (take i pairs)

    rest : words space pairs ≡ words_from space (words_from space (words_from space (first space pairs) (take i pairs)) (p ∷ [])) (drop (i + 1) pairs)
    rest =
        ap (words_from space (first space pairs)) (pairs-split pairs i p l e)
        ∙ (words_from-append space (first space pairs) (take i pairs) (p ∷ drop (i + 1) pairs) ∙ words_from-append space (words_from space (first space pairs) (take i pairs)) (p ∷ []) (drop (i + 1) pairs))

    final : p.dim ≡ 1 → word_at (words_from space (words_from space (first space pairs) (take i pairs)) (p ∷ [])) p.lower ≡ word_at (words space pairs) p.lower
    final d =
        sym (ap (λ (ws : List (List ℤ)). word_at ws p.lower) rest
        ∙ word-kept space (words_from space (words_from space (first space pairs) (take i pairs)) (p ∷ [])) (drop (i + 1) pairs) p.lower (incident-true space p incident-is).first
        (λ q m k. ((incident-true space q ((lined-from space pairs valid).incident q (behind q m))).first, λ x. (later q m).apart.0 (inl (d ∙ sym k, sym x)))))

    pub final-words : edge_words (words_from space (words_from space (first space pairs) (take i pairs)) (p ∷ [])) (p ∷ []) ≡ edge_words (words space pairs) (p ∷ [])
    final-words = same-measured (words_from space (words_from space (first space pairs) (take i pairs)) (p ∷ [])) (words space pairs) p final

    -- the measured words in three parts
    pub measured-split : edge_words (words space pairs) pairs ≡ edge_words (words space pairs) (take i pairs) ++ (edge_words (words space pairs) (p ∷ []) ++ edge_words (words space pairs) (drop (i + 1) pairs))
    measured-split =
        ap (edge_words (words space pairs)) (pairs-split pairs i p l e)
        ∙ (edge_words-append (words space pairs) (take i pairs) (p ∷ drop (i + 1) pairs)
        ∙ ap (λ (ms : List (Cell × List ℤ)). edge_words (words space pairs) (take i pairs) ++ ms) (edge_words-append (words space pairs) (p ∷ []) (drop (i + 1) pairs)))

    -- one pair more
    pub words-next : (ws vs : List (List ℤ)) → ws ≡ words_from space (first space pairs) (take i pairs) → vs ≡ words_from space ws (p ∷ []) → vs ≡ words_from space (first space pairs) (take (i + 1) pairs)
    words-next ws vs h k =
        k
        ∙ (ap (λ (us : List (List ℤ)). words_from space us (p ∷ [])) h
        ∙ sym (ap (words_from space (first space pairs)) (pairs-more pairs i p l e) ∙ words_from-append space (first space pairs) (take i pairs) (p ∷ [])))

    one : (ws : List (List ℤ)) → ws ≡ words_from space (first space pairs) (take i pairs) → edge_words (words_from space ws (p ∷ [])) (p ∷ []) ≡ edge_words (words space pairs) (p ∷ [])
    one ws h = ap (λ (us : List (List ℤ)). edge_words (words_from space us (p ∷ [])) (p ∷ [])) h ∙ final-words

    pub count-next : (old mid new : ℕ) (ws : List (List ℤ)) → ws ≡ words_from space (first space pairs) (take i pairs) → IsCounted old (edge_words (words space pairs) (take i pairs)) mid
        → IsCounted mid (edge_words (words_from space ws (p ∷ [])) (p ∷ [])) new → IsCounted old (edge_words (words space pairs) (take (i + 1) pairs)) new
    count-next old mid new ws h a b =
        subst (λ (ms : List (Cell × List ℤ)). IsCounted old ms new) (sym (ap (edge_words (words space pairs)) (pairs-more pairs i p l e) ∙ edge_words-append (words space pairs) (take i pairs) (p ∷ [])))
        (counted-append old mid new (edge_words (words space pairs) (take i pairs)) (edge_words (words space pairs) (p ∷ [])) a (subst (λ (ms : List (Cell × List ℤ)). IsCounted mid ms new) (one ws h) b))

    pub fault-now : (old mid : ℕ) (ws : List (List ℤ)) (fault : WordFault) → ws ≡ words_from space (first space pairs) (take i pairs) → IsCounted old (edge_words (words space pairs) (take i pairs)) mid
        → IsFault (first_long mid (edge_words (words_from space ws (p ∷ [])) (p ∷ []))) fault → IsFault (first_long old (edge_words (words space pairs) pairs)) fault
    fault-now old mid ws fault h a b =
        subst (λ (ms : List (Cell × List ℤ)). IsFault (first_long old ms) fault) (sym measured-split)
        (fault-next old mid (edge_words (words space pairs) (take i pairs)) (edge_words (words space pairs) (p ∷ [])) (edge_words (words space pairs) (drop (i + 1) pairs)) fault a
        (subst (λ (ms : List (Cell × List ℤ)). IsFault (first_long mid ms) fault) (one ws h) b))

-- ---- the steps of a cycle

module _ (law : CyclesGoRound) (space : Layers) (is : IsSpace space) (regular : IsRegular space) (c : ℕ) (r : InRange (count space 2) c) where
  pub cycle-steps : (ws : List (List ℤ)) → length ws ≡ count space 1 → AreSteps ws (cycle space c)
  cycle-steps ws e k d l = let f = cycle-within law space is regular c r (get_or (cycle space c) k d) (at-In (cycle space c) k d l) in (f.0, omega (arith, f.1, e))

-- ---- one pair of an edge with a 2-cell

module _ (space : Layers) (p : Pair) (i : is_incident space p ≡ true) (d : p.dim ≡ 1) where
  -- the word that is put, and its measure
  pub put-word : (ws : List (List ℤ)) → words_from space ws (p ∷ []) ≡ set ws (p.lower - 1) (forced_word ws p.lower (cycle space p.upper))
  put-word ws = rw (eq-eqb p.dim 1 d) refl

  pub put-measured : (ws : List (List ℤ)) → length ws ≡ count space 1 → edge_words (words_from space ws (p ∷ [])) (p ∷ []) ≡ (cell_at 1 p.lower, forced_word ws p.lower (cycle space p.upper)) ∷ []
  put-measured ws e =
      ap (λ (vs : List (List ℤ)). edge_words vs (p ∷ [])) (put-word ws)
      ∙ measured-one (set ws (p.lower - 1) (forced_word ws p.lower (cycle space p.upper)))
      ∙ ap (λ (v : List ℤ). (cell_at 1 p.lower, v) ∷ []) (get_or-set_same ws (p.lower - 1) (forced_word ws p.lower (cycle space p.upper)) [] (let r = low-range space p 1 d i in omega (arith, r.0, r.1, e)))
    where
      measured-one : (vs : List (List ℤ)) → edge_words vs (p ∷ []) ≡ (cell_at 1 p.lower, word_at vs p.lower) ∷ []
      measured-one vs = rw (eq-eqb p.dim 1 d) refl

-- ---- the critical 2-cells

module _ (space : Layers) (field : Field) (is : IsFieldOf space field) (cells : List ℕ) (e : cells ≡ critical_of field 2) where
  pub disks-are : cells ≡ critical_disks space field.pairs
  disks-are = e ∙ critical-is space field 2 is (omega arith)

  pub disk-range : (i : ℕ) → i < length cells → InRange (count space 2) (get_or cells i 0)
  disk-range i l =
      upto-In (count space 2) (get_or cells i 0)
      (In-inside (λ cell. not (is_used field.pairs 2 cell)) (upto (count space 2)) (subst (λ (xs : List ℕ). In (get_or cells i 0) xs) disks-are (at-In cells i 0 l)))

module _ (space : Layers) (ws : List (List ℤ)) (ds : List ℕ) (i d : ℕ) (l : i < length ds) (is : d ≡ get_or ds i 0) where
  disks-more : take (i + 1) ds ≡ take i ds ++ d ∷ []
  disks-more = take_more ds i 0 l ∙ ap (λ (x : ℕ). take i ds ++ x ∷ []) (sym is)

  disks-split : map (disk_word space ws) ds ≡ map (disk_word space ws) (take i ds) ++ ((disk_word space ws d ∷ []) ++ map (disk_word space ws) (drop (i + 1) ds))
  disks-split =
      ap (map (disk_word space ws)) (sym (take-append-drop (i + 1) ds) ∙ (ap (λ (xs : List ℕ). xs ++ drop (i + 1) ds) disks-more ∙ append_assoc (take i ds) (d ∷ []) (drop (i + 1) ds)))
      ∙ map-append (disk_word space ws) (take i ds) (d ∷ drop (i + 1) ds)

  -- one 2-cell more, whose word is told
  module _ (word : List ℤ) (told : word ≡ cycle_word space ws d) where
    pub relators-next : (us vs : List (List ℤ)) → us ≡ map (cycle_word space ws) (take i ds) → vs ≡ us ++ word ∷ [] → vs ≡ map (cycle_word space ws) (take (i + 1) ds)
    relators-next us vs h k =
        k
        ∙ (ap (λ (xs : List (List ℤ)). xs ++ word ∷ []) h
        ∙ (ap (λ (w : List ℤ). map (cycle_word space ws) (take i ds) ++ w ∷ []) told ∙ sym (ap (map (cycle_word space ws)) disks-more ∙ map-append (cycle_word space ws) (take i ds) (d ∷ []))))

    one-disk : (cell_at 2 d, word) ∷ [] ≡ disk_word space ws d ∷ []
    one-disk = ap (λ (w : List ℤ). (cell_at 2 d, w) ∷ []) told

    pub disk-next : (old mid new : ℕ) → IsCounted old (map (disk_word space ws) (take i ds)) mid → IsCounted mid ((cell_at 2 d, word) ∷ []) new → IsCounted old (map (disk_word space ws) (take (i + 1) ds)) new
    disk-next old mid new a b =
        subst (λ (ms : List (Cell × List ℤ)). IsCounted old ms new) (sym (ap (map (disk_word space ws)) disks-more ∙ map-append (disk_word space ws) (take i ds) (d ∷ [])))
        (counted-append old mid new (map (disk_word space ws) (take i ds)) (disk_word space ws d ∷ []) a (subst (λ (ms : List (Cell × List ℤ)). IsCounted mid ms new) one-disk b))

    pub disk-fault : (old mid : ℕ) (fault : WordFault) → IsCounted old (map (disk_word space ws) (take i ds)) mid → IsFault (first_long mid ((cell_at 2 d, word) ∷ [])) fault → IsFault (first_long old (map (disk_word space ws) ds)) fault
    disk-fault old mid fault a b =
        subst (λ (ms : List (Cell × List ℤ)). IsFault (first_long old ms) fault) (sym disks-split)
        (fault-next old mid (map (disk_word space ws) (take i ds)) (disk_word space ws d ∷ []) (map (disk_word space ws) (drop (i + 1) ds)) fault a (subst (λ (ms : List (Cell × List ℤ)). IsFault (first_long mid ms) fault) one-disk b))

-- ---- what the presentation holds

module _ (space : Layers) (pairs : List Pair) (limited : IsLimited space) where
  pub relators-few : length (relators space pairs) ≤ 60000
  relators-few = omega (arith, limited.most, length-map (critical_disks space pairs) (cycle_word space (words space pairs)), length-filter-le (λ cell. not (is_used pairs 2 cell)) (upto (count space 2)), length-upto (count space 2))
