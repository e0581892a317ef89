-- The one critical vertex of a good field on a space with one component, and how many columns there are.
use Rattle.std.proofs.Common.{◌≡◌, inl, inr, ℕ, ◌+◌, ◌≤◌, List, [], ◌∷◌, ◌++◌, map, length, filter, get_or, refl, ap, arith, sym, ◌∙◌, subst, Bool, true}
use Rattle.std.specs.Prelude.{◌==◌, not}
use Rattle.std.proofs.lemmas.Bool.{eq-eqb}
use Rattle.std.proofs.lemmas.List.{length-append, length-map}
use Rattle.number_lists.specs.Members.{In, here, there}
use Rattle.number_lists.specs.Words.{upto}
use Rattle.number_lists.proofs.CallerLemmas.{In-cases, In-filter, In-inside, upto-In, In-upto, at-In, In-map, map-In, append-In, In-left, In-right, length-upto}
use Rattle.pair_laws.specs.Tree.{distinct}
use Rattle.pair_laws.proofs.CallerLemmas.{no_more}
use Rattle.face_poset.specs.declared.cells.Pair.{Pair}
use Rattle.face_poset.specs.Poset.{count, IsSpace}
use Rattle.regular_check.specs.Rules.{IsRegular}
use Rattle.regular_check.specs.Components.{component_of, ComponentsAreNumbered}
use Rattle.vector_field.specs.Pairs.{is_used, unpaired, IsValid}
use Rattle.vector_field.proofs.CallerLemmas.{Lined, Goes}
use Rattle.sheet_laws.specs.Permutations.{InRange}
use Rattle.sheet_laws.specs.Lifts.{critical_edges, columns_of}
use Rattle.sheet_laws.proofs.CallerLemmas.{distinct-cons, distinct-tail, distinct-head, distinct-range, distinct-filter, critical-range, critical-no_tree, over-vertices}
use Rattle.cover_laws.specs.Laws.{HasGoodField, ColumnsAreFew}
use Rattle.cover_laws.proofs.TreeTurns.{branches, branch-in, branch-dim, branch, branches-go}

filter-whole : (p : ℕ → Bool) (xs : List ℕ) → ((x : ℕ) → In x xs → p x ≡ true) → filter p xs ≡ xs
filter-whole p [] h = refl
filter-whole p (x ∷ xs) h = rw (h x here) (ap (λ (ys : List ℕ). x ∷ ys) (filter-whole p xs (λ y i. h y (there i))))

module _ (numbered : ComponentsAreNumbered) (space : List (List (List ℕ))) (pairs : List Pair) (h : HasGoodField space pairs) where
  pub lone : length (unpaired pairs 0 (count space 0)) ≡ 1
  lone =
      ap (λ (xs : List ℕ). length xs) (sym (filter-whole (λ v. component_of space v == 1) (unpaired pairs 0 (count space 0)) one))
      ∙ h.good.vertex 1 (omega arith) (omega (arith, h.one))
    where
      one : (v : ℕ) → In v (unpaired pairs 0 (count space 0)) → (component_of space v == 1) ≡ true
      one v i =
          let r = upto-In (count space 0) v (In-inside (λ c. not (is_used pairs 0 c)) (upto (count space 0)) i) in
          let w = (numbered space).within v r.0 r.1 in
          eq-eqb (component_of space v) 1 (omega (arith, w.0, w.1, h.one))

  pub root : ℕ
  root = get_or (unpaired pairs 0 (count space 0)) 0 0

  pub root-range : InRange (count space 0) root
  unfolding root
  root-range =
      upto-In (count space 0) root
      (In-inside (λ c. not (is_used pairs 0 c)) (upto (count space 0)) (at-In (unpaired pairs 0 (count space 0)) 0 0 (omega (arith, lone))))

  pub only-root : (v : ℕ) → In v (unpaired pairs 0 (count space 0)) → v ≡ root
  unfolding root
  only-root v i = one (unpaired pairs 0 (count space 0)) lone i
    where
      one : (xs : List ℕ) → length xs ≡ 1 → In v xs → v ≡ get_or xs 0 0
      one [] e i = elim i [ ]
      one (x ∷ []) e i = elim (In-cases i) [ inl j ↦ j | inr n ↦ elim n [ ] ]
      one (x ∷ y ∷ xs) e i = absurd (omega (arith, e))

-- ---- the columns

distinct-append : (xs ys : List ℕ) → distinct xs ≡ true → distinct ys ≡ true → ((x : ℕ) → In x xs → In x ys → ⊥) → distinct (xs ++ ys) ≡ true
distinct-append [] ys a b n = b
distinct-append (x ∷ xs) ys a b n =
    distinct-cons x (xs ++ ys) (λ i. elim (append-In xs ys i) [ inl j ↦ distinct-head x xs a j | inr j ↦ n x here j ])
    (distinct-append xs ys (distinct-tail x xs a) b (λ y i j. n y (there i) j))

module _ (space : List (List (List ℕ))) (pairs : List Pair) (is : IsSpace space) (regular : IsRegular space) (valid : IsValid space pairs) where
  uppers-distinct : (ps : List Pair) → Lined (Goes space) ps → ((p : Pair) → In p ps → p.dim ≡ 0) → distinct (map (λ (p : Pair). p.upper) ps) ≡ true
  uppers-distinct [] l d = refl
  uppers-distinct (p ∷ ps) l d =
      distinct-cons p.upper (map (λ (p : Pair). p.upper) ps) (λ i.
      let r = map-In (λ (p : Pair). p.upper) ps i in
      (l.0 r.0 r.1).apart.1 (inr (ap (λ (k : ℕ). k + 1) (d p here ∙ sym (d r.0 (there r.1))), r.2)))
      (uppers-distinct ps l.1 (λ q i. d q (there i)))

  -- each vertex is critical or the lower of a pair
  vertices-are : (v : ℕ) → In v (upto (count space 0)) → In v (unpaired pairs 0 (count space 0) ++ map (λ (p : Pair). p.lower) (branches pairs))
  vertices-are v i =
      over-vertices space pairs is valid (λ v. In v (unpaired pairs 0 (count space 0) ++ map (λ (p : Pair). p.lower) (branches pairs)))
      (λ v j. In-left (map (λ (p : Pair). p.lower) (branches pairs)) j)
      (λ p j d n. In-right (unpaired pairs 0 (count space 0)) (In-map (λ (p : Pair). p.lower) (In-filter (λ (p : Pair). p.dim == 0) j (eq-eqb p.dim 0 d))))
      v (upto-In (count space 0) v i)

  vertices-few : count space 0 ≤ length (unpaired pairs 0 (count space 0)) + length (branches pairs)
  vertices-few =
      let lowers = map (λ (p : Pair). p.lower) (branches pairs) in
      let n = no_more (upto (count space 0)) (unpaired pairs 0 (count space 0) ++ lowers) (distinct-range 1 (count space 0)) vertices-are in
      let k = length-append (unpaired pairs 0 (count space 0)) lowers in
      omega (arith, n, length-upto (count space 0), k, length-map (branches pairs) (λ (p : Pair). p.lower))

  edges-many : columns_of space pairs + length (branches pairs) ≤ count space 1
  edges-many =
      let n = no_more (critical_edges space pairs ++ map (λ (p : Pair). p.upper) (branches pairs)) (upto (count space 1)) once inside in
      let k = length-append (critical_edges space pairs) (map (λ (p : Pair). p.upper) (branches pairs)) in
      omega (arith, n, length-upto (count space 1), k, length-map (branches pairs) (λ (p : Pair). p.upper))
    where
      once : distinct (critical_edges space pairs ++ map (λ (p : Pair). p.upper) (branches pairs)) ≡ true
      once =
          distinct-append (critical_edges space pairs) (map (λ (p : Pair). p.upper) (branches pairs))
          (distinct-filter (λ e. not (is_used pairs 1 e)) (upto (count space 1)) (distinct-range 1 (count space 1)))
          (uppers-distinct (branches pairs) (branches-go space pairs is regular valid) (branch-dim pairs))
          (λ e i j.
          let r = map-In (λ (p : Pair). p.upper) (branches pairs) j in
          critical-no_tree space pairs valid r.0 (branch-in pairs r.0 r.1) (branch-dim pairs r.0 r.1) (subst (λ (k : ℕ). In k (critical_edges space pairs)) r.2 i))

      inside : (e : ℕ) → In e (critical_edges space pairs ++ map (λ (p : Pair). p.upper) (branches pairs)) → In e (upto (count space 1))
      inside e i = elim (append-In (critical_edges space pairs) (map (λ (p : Pair). p.upper) (branches pairs)) i) [
        | inl j ↦ (let r = critical-range space pairs valid e j in In-upto (count space 1) e r.0 r.1)
        | inr j ↦
            let r = map-In (λ (p : Pair). p.upper) (branches pairs) j in
            let q = (branch space pairs is regular valid r.0 (branch-in pairs r.0 r.1) (branch-dim pairs r.0 r.1)).range in
            subst (λ (k : ℕ). In k (upto (count space 1))) (sym r.2) (In-upto (count space 1) r.0.upper q.0 q.1)
      ]

pub columns_are_few : ComponentsAreNumbered → ColumnsAreFew
columns_are_few numbered space pairs h =
    omega (arith, lone numbered space pairs h, vertices-few space pairs h.is h.regular h.good.valid, edges-many space pairs h.is h.regular h.good.valid)
