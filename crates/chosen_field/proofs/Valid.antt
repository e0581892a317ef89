-- The pairs of a collapse, backward, are in a valid order.
use Rattle.std.proofs.Common.{◌≡◌, ℕ, zero, suc, ◌+◌, ◌-◌, ◌<◌, ◌≤◌, List, [], ◌∷◌, ◌++◌, length, get_or, set, map, not, eqb, Bool, true, false, ◌&&◌, ◌||◌, refl, ap, sym, ◌∙◌, subst, arith, filter, drop, All, Option, Some, None}
use Rattle.std.specs.List.{find}
use Rattle.std.proofs.lemmas.Bool.{false≢true, eqb-true}
use Rattle.std.proofs.lemmas.List.{length-set, length-map, append_assoc, append-nil}
use Rattle.std.proofs.lemmas.List.FromFn.{get_or-map-range_with_len}
use Rattle.face_poset.specs.declared.cells.Pair.{Pair}
use Rattle.number_lists.specs.Words.{upto, holds}
use Rattle.face_poset.specs.Poset.{count, cofaces_of}
use Rattle.number_lists.proofs.CallerLemmas.{All-upto, length-upto, holds-filter, filter_same, holds-upto}
use Rattle.vector_field.specs.Pairs.{pair, is_used, unpaired, IsValid}
use Rattle.vector_field.specs.Stages.{is_left, IsOnly}
use Rattle.number_lists.specs.Members.{In}
use Rattle.number_lists.proofs.CallerLemmas.{In-holds, holds-In}
use Rattle.vector_field.proofs.CallerLemmas.{cofaces-In}
use Rattle.vector_field.proofs.CallerLemmas.{IsMaking, making_begun, making_less, making_more, making_done, dims-reverse}
use Rattle.chosen_field.specs.Chosen.{has_facet, is_free, least_free, collapse, collapsed, free_pairs}
use Rattle.chosen_field.specs.Rests.{left_of}
use Rattle.chosen_field.proofs.Lists.{find-held, find-passes, find-none}
use Rattle.chosen_field.proofs.Steps.{left-without, left-drop, left-holds, coface-left, free-some, turn-pair, turn-drop}
use Rattle.chosen_field.proofs.Turns.{left_there, coface_there}

-- a list of one number has no other
one_alone : (xs : List ℕ) (b c : ℕ) → eqb (length xs) 1 ≡ true → holds xs b ≡ true → holds xs c ≡ true → c ≡ b
one_alone [] b c e h k = absurd (false≢true h)
one_alone (x ∷ []) b c e h k = sym (same x c k) ∙ same x b h
  where
    same : (x y : ℕ) → holds (x ∷ []) y ≡ true → x ≡ y
    same x y h = eqb-true x y (by (eqb x y) refl h)
      where
        by : (t : Bool) → eqb x y ≡ t → holds (x ∷ []) y ≡ true → eqb x y ≡ true
        by true e h = e
        by false e h = absurd (false≢true (sym (ap (λ (t : Bool). t || false) e) ∙ h))
one_alone (x ∷ y ∷ xs) b c e h k = absurd (omega (arith, eqb-true (length (x ∷ y ∷ xs)) 1 e))

module _ (space : List (List (List ℕ))) (dim : ℕ) (low : dim < 3) (ps : List Pair) (above : (q : Pair) → In q ps → dim + 1 ≤ q.dim) where
  -- the coface that is paired is the only one left
  only_left : (flags : List Bool) (f b : ℕ) → length flags ≡ count space (dim + 1) → least_free space dim (left_of flags) ≡ Some f → find (has_facet space dim f) (left_of flags) ≡ Some b → IsOnly flags (cofaces_of space dim f) b
  only_left flags f b long e g =
      let there = coface_there space dim flags (cofaces_of space dim f) f b (length flags) refl long (coface-left space dim flags f long ∙ g) in
      let left : is_left flags b ≡ true = find-passes (is_left flags) (cofaces_of space dim f) b (coface-left space dim flags f long ∙ g) in
      let has : has_facet space dim f b ≡ true = find-passes (has_facet space dim f) (left_of flags) b g in
      let one : eqb (length (filter (has_facet space dim f) (left_of flags))) 1 ≡ true = find-passes (is_free space dim (left_of flags)) (upto (count space dim)) f e in
      record {
        member = holds-filter (has_facet space dim f) (upto (count space (dim + 1))) b ∙ (ap (λ (t : Bool). t && holds (upto (count space (dim + 1))) b) has ∙ holds-upto (count space (dim + 1)) b there.0 (omega (arith, there.1, long)));
        left = left;
        only = λ c h l. one_alone (filter (has_facet space dim f) (left_of flags)) b c one (in_both flags f b there.0 there.1 has left) (of_coface flags f c long h l);
      }
    where
      in_both : (flags : List Bool) (f c : ℕ) → 1 ≤ c → c ≤ length flags → has_facet space dim f c ≡ true → is_left flags c ≡ true → holds (filter (has_facet space dim f) (left_of flags)) c ≡ true
      in_both flags f c a b h l = holds-filter (has_facet space dim f) (left_of flags) c ∙ (ap (λ (t : Bool). t && holds (left_of flags) c) h ∙ left-holds flags c a b l)

      of_coface : (flags : List Bool) (f c : ℕ) → length flags ≡ count space (dim + 1) → holds (cofaces_of space dim f) c ≡ true → is_left flags c ≡ true → holds (filter (has_facet space dim f) (left_of flags)) c ≡ true
      of_coface flags f c long h l = let k = cofaces-In space dim f c (holds-In (cofaces_of space dim f) h) in in_both flags f c k.first (omega (arith, k.last, long)) (In-holds k.facet) l

  abbrev Ends : List Pair → Type 0
  Ends made = (flags : List Bool) × IsMaking space dim ps made flags

  -- all pairs that are made in so many turns
  making : (turns : ℕ) (made : List Pair) (flags : List Bool) → length flags ≡ count space (dim + 1) → IsMaking space dim ps made flags → Ends (made ++ collapse space dim turns (left_of flags))
  making zero made flags long h = subst Ends (sym (append-nil made)) (flags, h)
  making (suc turns) made flags long h = by (λ ms fs l k. making turns ms fs l k) (least_free space dim (left_of flags)) refl
    where
      by : ((ms : List Pair) (fs : List Bool) → length fs ≡ count space (dim + 1) → IsMaking space dim ps ms fs → Ends (ms ++ collapse space dim turns (left_of fs))) → (o : Option ℕ) → least_free space dim (left_of flags) ≡ o
          → Ends (made ++ collapse space dim (suc turns) (left_of flags))
      by k (Some f) e = with_cell (find (has_facet space dim f) (left_of flags)) refl
        where
          with_cell : (o : Option ℕ) → find (has_facet space dim f) (left_of flags) ≡ o → Ends (made ++ collapse space dim (suc turns) (left_of flags))
          with_cell None g = absurd (free-some space dim (left_of flags) f e g)
          with_cell (Some b) g =
              let there = coface_there space dim flags (cofaces_of space dim f) f b (length flags) refl long (coface-left space dim flags f long ∙ g) in
              let at = find-held (λ x. (1 ≤ x) × (x ≤ count space dim)) (is_free space dim (left_of flags)) (upto (count space dim)) f (All-upto (count space dim)) e in
              subst Ends
              (append_assoc made (pair dim f b ∷ []) (collapse space dim turns (left_of (set flags (b - 1) false)))
              ∙ ap (λ (qs : List Pair). made ++ qs) (ap (λ (xs : List ℕ). pair dim f b ∷ collapse space dim turns xs) (left-without flags b there.0 there.1) ∙ sym (turn-pair space dim turns (left_of flags) f b e g)))
              (k (made ++ pair dim f b ∷ []) (set flags (b - 1) false) (length-set flags (b - 1) false ∙ long) (making_more space dim ps above made flags f b low at.0 at.1 long (only_left flags f b long e g) h))
      by k None e = with_least (find (is_left flags) (upto (length flags))) refl
        where
          with_least : (o : Option ℕ) → find (is_left flags) (upto (length flags)) ≡ o → Ends (made ++ collapse space dim (suc turns) (left_of flags))
          with_least None g =
              let none : left_of flags ≡ [] = find-none (is_left flags) (upto (length flags)) g in
              subst Ends (ap (λ (qs : List Pair). made ++ qs) (ap (collapse space dim turns) (none ∙ sym (ap (drop 1) none)) ∙ sym (turn-drop space dim turns (left_of flags) e))) (k made flags long h)
          with_least (Some b) g =
              let there = left_there flags b g in
              subst Ends
              (ap (λ (qs : List Pair). made ++ qs) (ap (collapse space dim turns) (left-without flags b there.0 there.1 ∙ left-drop flags b g) ∙ sym (turn-drop space dim turns (left_of flags) e)))
              (k made (set flags (b - 1) false) (length-set flags (b - 1) false ∙ long) (making_less space dim ps above made flags b there.0 there.1 h))

-- the flags at the beginning
first_flags : (space : List (List (List ℕ))) (dim : ℕ) (ps : List Pair) → List Bool
first_flags space dim ps = map (λ b. not (is_used ps (dim + 1) b)) (upto (count space (dim + 1)))

module _ (space : List (List (List ℕ))) (dim : ℕ) (ps : List Pair) where
  first-long : length (first_flags space dim ps) ≡ count space (dim + 1)
  unfolding first_flags
  first-long = length-map (upto (count space (dim + 1))) (λ b. not (is_used ps (dim + 1) b)) ∙ length-upto (count space (dim + 1))

  first-at : (b : ℕ) → 1 ≤ b → b ≤ count space (dim + 1) → is_left (first_flags space dim ps) b ≡ not (is_used ps (dim + 1) b)
  unfolding first_flags
  first-at b a l = get_or-map-range_with_len (λ b. not (is_used ps (dim + 1) b)) 1 (count space (dim + 1)) (b - 1) b false (omega (arith, a, l)) (omega (arith, a))

  first-left : left_of (first_flags space dim ps) ≡ unpaired ps (dim + 1) (count space (dim + 1))
  first-left =
      ap (λ (n : ℕ). filter (is_left (first_flags space dim ps)) (upto n)) first-long
      ∙ filter_same (is_left (first_flags space dim ps)) (λ b. not (is_used ps (dim + 1) b)) (upto (count space (dim + 1)))
      (λ k d l. let r = All-upto (count space (dim + 1)) k d l in first-at (get_or (upto (count space (dim + 1))) k d) r.0 r.1)

-- the pairs in the order in which they are made
abbrev pub made_by : (space : List (List (List ℕ))) (dim : ℕ) (ps : List Pair) → List Pair
made_by space dim ps = collapsed space dim (unpaired ps (dim + 1) (count space (dim + 1)))

module _ (space : List (List (List ℕ))) (dim : ℕ) (ps : List Pair) (low : dim < 3) (above : (q : Pair) → In q ps → dim + 1 ≤ q.dim) where
  whole_making : (flags : List Bool) × IsMaking space dim ps (made_by space dim ps) flags
  whole_making =
      subst (λ (xs : List ℕ). (flags : List Bool) × IsMaking space dim ps (collapse space dim (length (unpaired ps (dim + 1) (count space (dim + 1)))) xs) flags) (first-left space dim ps)
      (making space dim low ps above (length (unpaired ps (dim + 1) (count space (dim + 1)))) [] (first_flags space dim ps) (first-long space dim ps) (making_begun space dim ps above (first_flags space dim ps) (first-long space dim ps) (first-at space dim ps)))

  -- the pairs made, backward, go after the pairs of higher dimensions
  pub collapsed-valid : IsValid space ps → IsValid space (ps ++ free_pairs space dim ps)
  collapsed-valid v = let w = whole_making in making_done space dim ps above (made_by space dim ps) w.0 v w.1

  -- they all have the one dimension
  pub collapsed-dims : All (λ (p : Pair). p.dim ≡ dim) (free_pairs space dim ps)
  collapsed-dims = let w = whole_making in dims-reverse dim (made_by space dim ps) (w.1).dims
