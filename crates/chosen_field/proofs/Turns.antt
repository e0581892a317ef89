-- One turn of the loop.
use Rattle.std.proofs.Common.{◌≡◌, ℕ, ◌+◌, ◌-◌, ◌<◌, ◌≤◌, List, [], ◌∷◌, ◌++◌, length, get_or, set, cond, Bool, false, ap, sym, ◌∙◌, subst, arith, drop, All, Option, Some, None}
use Rattle.std.specs.List.{find}
use Rattle.std.specs.List.Sorted.{IsStrictlyIncreasing}
use Rattle.std.proofs.lemmas.List.{length-set}
use Rattle.face_poset.specs.declared.cells.Pair.{Pair}
use Rattle.number_lists.specs.Words.{upto, holds}
use Rattle.face_poset.specs.Poset.{count, facets_of, cofaces_of, IsSpace}
use Rattle.number_lists.proofs.CallerLemmas.{All-upto}
use Rattle.vector_field.specs.Pairs.{pair}
use Rattle.vector_field.specs.Stages.{is_left}
use Rattle.number_lists.proofs.CallerLemmas.{at-In}
use Rattle.vector_field.proofs.CallerLemmas.{facets-cell, facet-range}
use Rattle.chosen_field.specs.Chosen.{has_facet, least_free}
use Rattle.chosen_field.specs.Rests.{left_of, is_single, AreCounts}
use Rattle.chosen_field.proofs.Lists.{find-held, find-passes, find-none}
use Rattle.chosen_field.proofs.Steps.{IsMade, left-without, left-drop, coface-left, least-free, counts-less, free-some, made-pair, made-drop}
use Rattle.chosen_field.proofs.Begun.{cofaces_all}

pub single_there : (shared : List ℕ) (f : ℕ) → find (is_single shared) (upto (length shared)) ≡ Some f → (1 ≤ f) × (f ≤ length shared)
single_there shared f e = find-held (λ x. (1 ≤ x) × (x ≤ length shared)) (is_single shared) (upto (length shared)) f (All-upto (length shared)) e

pub left_there : (cells : List Bool) (b : ℕ) → find (is_left cells) (upto (length cells)) ≡ Some b → (1 ≤ b) × (b ≤ length cells)
left_there cells b e = find-held (λ x. (1 ≤ x) × (x ≤ length cells)) (is_left cells) (upto (length cells)) b (All-upto (length cells)) e

module _ (space : List (List (List ℕ))) (dim : ℕ) where
  pub coface_there : (cells : List Bool) (us : List ℕ) (f b n : ℕ) → us ≡ cofaces_of space dim f → n ≡ count space (dim + 1) → find (is_left cells) us ≡ Some b → (1 ≤ b) × (b ≤ n)
  coface_there cells us f b n e long h = find-held (λ x. (1 ≤ x) × (x ≤ n)) (is_left cells) (cofaces_of space dim f) b (cofaces_all space dim f n long) (ap (find (is_left cells)) (sym e) ∙ h)

  pub facets_rise : (b : ℕ) (fs : List ℕ) → IsSpace space → 1 ≤ b → b ≤ count space (dim + 1) → fs ≡ facets_of space (dim + 1) b → IsStrictlyIncreasing fs
  facets_rise b fs valid low high e = subst IsStrictlyIncreasing (sym e) (facets-cell space (dim + 1) b valid (omega arith) low high).rises

  pub facets_all : (b n : ℕ) (fs : List ℕ) → IsSpace space → 1 ≤ b → b ≤ count space (dim + 1) → fs ≡ facets_of space (dim + 1) b → n ≡ count space dim → All (λ f. (1 ≤ f) × (f ≤ n)) fs
  facets_all b n fs valid low high e long =
      subst (λ (xs : List ℕ). All (λ f. (1 ≤ f) × (f ≤ n)) xs) (sym e)
      (λ k d l. let r = facet-range space dim b (get_or (facets_of space (dim + 1) b) k d) valid low high (at-In (facets_of space (dim + 1) b) k d l) in (r.0, omega (arith, r.1, long)))

  -- the flags and the counts are right, and so are the pairs made
  pub record IsTurn (total turn : ℕ) (cells : List Bool) (shared : List ℕ) (made : List Pair) (whole : List ℕ) : Type 0 where
    pub long : length cells ≡ count space (dim + 1)
    pub wide : length shared ≡ count space dim
    pub counts : AreCounts space dim (count space dim) cells shared
    pub made_is : IsMade space dim total turn made (left_of cells) whole

  module _ (total turn : ℕ) (cells : List Bool) (shared : List ℕ) (made : List Pair) (whole : List ℕ) (h : IsTurn total turn cells shared made whole) (more : turn < total) where
    free_is : (o : Option ℕ) → o ≡ find (is_single shared) (upto (length shared)) → least_free space dim (left_of cells) ≡ o
    free_is o e = sym (e ∙ least-free space dim cells shared h.wide h.counts)

    coface_is : (us : List ℕ) (f : ℕ) (o : Option ℕ) → us ≡ cofaces_of space dim f → o ≡ find (is_left cells) us → find (has_facet space dim f) (left_of cells) ≡ o
    coface_is us f o e k = sym (k ∙ (ap (find (is_left cells)) e ∙ coface-left space dim cells f h.long))

    -- a pair is made
    pub turn_pair : (f b : ℕ) (us fs : List ℕ) (cells' : List Bool) (shared' : List ℕ) (made' : List Pair) → Some f ≡ find (is_single shared) (upto (length shared)) → us ≡ cofaces_of space dim f → Some b ≡ find (is_left cells) us
        → fs ≡ facets_of space (dim + 1) b → cells' ≡ set cells (b - 1) false → length shared' ≡ length shared → ((f : ℕ) → 1 ≤ f → get_or shared' (f - 1) 0 ≡ get_or shared (f - 1) 0 - cond (holds fs f) 1 0)
        → made' ≡ made ++ pair dim f b ∷ [] → IsTurn total (turn + 1) cells' shared' made' whole
    turn_pair f b us fs cells' shared' made' e1 e2 e3 e4 e5 e6 e7 e8 =
        let r = coface_there cells us f b (length cells) e2 h.long (sym e3) in
        subst (λ (bs : List Bool). IsTurn total (turn + 1) bs shared' made' whole) (sym e5)
        (subst (λ (ms : List Pair). IsTurn total (turn + 1) (set cells (b - 1) false) shared' ms whole) (sym e8)
        (record {
          long = length-set cells (b - 1) false ∙ h.long;
          wide = e6 ∙ h.wide;
          counts = counts-less space dim cells shared shared' b r.0 r.1 (find-passes (is_left cells) us b (sym e3)) h.counts (λ f a. e7 f a ∙ ap (λ (xs : List ℕ). get_or shared (f - 1) 0 - cond (holds xs f) 1 0) e4);
          made_is = subst (λ (xs : List ℕ). IsMade space dim total (turn + 1) (made ++ pair dim f b ∷ []) xs whole) (sym (left-without cells b r.0 r.1))
              (made-pair space dim total turn made (left_of cells) whole f b more (free_is (Some f) e1) (coface_is us f (Some b) e2 e3) h.made_is);
        }))

    -- a free facet has a coface that is left
    pub turn_none : (f : ℕ) (us : List ℕ) → Some f ≡ find (is_single shared) (upto (length shared)) → us ≡ cofaces_of space dim f → None ≡ find (is_left cells) us → ⊥
    turn_none f us e1 e2 e3 = free-some space dim (left_of cells) f (free_is (Some f) e1) (coface_is us f None e2 e3)

    -- the least cell goes
    pub turn_drop : (b : ℕ) (fs : List ℕ) (cells' : List Bool) (shared' : List ℕ) (made' : List Pair) → None ≡ find (is_single shared) (upto (length shared)) → Some b ≡ find (is_left cells) (upto (length cells))
        → fs ≡ facets_of space (dim + 1) b → cells' ≡ set cells (b - 1) false → length shared' ≡ length shared → ((f : ℕ) → 1 ≤ f → get_or shared' (f - 1) 0 ≡ get_or shared (f - 1) 0 - cond (holds fs f) 1 0)
        → made' ≡ made → IsTurn total (turn + 1) cells' shared' made' whole
    turn_drop b fs cells' shared' made' e1 e3 e4 e5 e6 e7 e8 =
        let r = left_there cells b (sym e3) in
        subst (λ (bs : List Bool). IsTurn total (turn + 1) bs shared' made' whole) (sym e5)
        (subst (λ (ms : List Pair). IsTurn total (turn + 1) (set cells (b - 1) false) shared' ms whole) (sym e8)
        (record {
          long = length-set cells (b - 1) false ∙ h.long;
          wide = e6 ∙ h.wide;
          counts = counts-less space dim cells shared shared' b r.0 r.1 (find-passes (is_left cells) (upto (length cells)) b (sym e3)) h.counts (λ f a. e7 f a ∙ ap (λ (xs : List ℕ). get_or shared (f - 1) 0 - cond (holds xs f) 1 0) e4);
          made_is = subst (λ (xs : List ℕ). IsMade space dim total (turn + 1) made xs whole) (sym (left-without cells b r.0 r.1 ∙ left-drop cells b (sym e3)))
              (made-drop space dim total turn made (left_of cells) whole more (free_is None e1) h.made_is);
        }))

    -- no cell is left
    pub turn_over : (cells' : List Bool) (shared' : List ℕ) (made' : List Pair) → None ≡ find (is_single shared) (upto (length shared)) → None ≡ find (is_left cells) (upto (length cells)) → cells' ≡ cells → shared' ≡ shared → made' ≡ made
        → IsTurn total (turn + 1) cells' shared' made' whole
    turn_over cells' shared' made' e1 e3 e5 e6 e8 =
        let none : left_of cells ≡ [] = find-none (is_left cells) (upto (length cells)) (sym e3) in
        subst (λ (bs : List Bool). IsTurn total (turn + 1) bs shared' made' whole) (sym e5)
        (subst (λ (ss : List ℕ). IsTurn total (turn + 1) cells ss made' whole) (sym e6)
        (subst (λ (ms : List Pair). IsTurn total (turn + 1) cells shared ms whole) (sym e8)
        (record {
          long = h.long;
          wide = h.wide;
          counts = h.counts;
          made_is = subst (λ (xs : List ℕ). IsMade space dim total (turn + 1) made xs whole) (ap (drop 1) none ∙ sym none)
              (made-drop space dim total turn made (left_of cells) whole more (free_is None e1) h.made_is);
        })))
