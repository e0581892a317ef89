-- Edges of a regular space, and what a valid field does with them.
use Rattle.std.proofs.Common.{◌≡◌, ◌⊎◌, inl, inr, ℕ, ◌+◌, ◌≤◌, List, [], ◌∷◌, ◌++◌, length, get_or, refl, ap, arith, sym, ◌∙◌, subst, Bool, true, false, None, Some}
use Rattle.std.specs.Prelude.{◌==◌, not, find, Option, option_map}
use Rattle.std.specs.List.{list_any, flat_map}
use Rattle.std.proofs.lemmas.Bool.{eqb-true, not-true, not-false, not_from_false, false≢true, cases_Bool}
use Rattle.number_lists.specs.Members.{In, here}
use Rattle.number_lists.specs.Words.{upto}
use Rattle.number_lists.proofs.CallerLemmas.{In-cases, In-filter, filter-In, In-inside, any-In, In-left, In-flat_map, In-upto, upto-In, at-In}
use Rattle.pair_laws.proofs.CallerLemmas.{find-none}
use Rattle.face_poset.specs.declared.cells.Pair.{Pair}
use Rattle.face_poset.specs.Poset.{count, facets_of, IsSpace}
use Rattle.regular_check.specs.declared.fault.RegularFault.TheVariants.{EdgeEnds}
use Rattle.regular_check.specs.Rules.{Rule, rule, two_ends, edge_rules, disk_rules, solid_rules, all_rules, IsRegular}
use Rattle.vector_field.specs.Pairs.{has_lower, is_used, others, unpaired, IsValid}
use Rattle.vector_field.proofs.CallerLemmas.{lined-two, Goes, lined-from, unused-In, used-some, has_lower-from, Incident, incident-true, facets-cell, facet-range, along-field}
use Rattle.sheet_laws.specs.Permutations.{InRange}
use Rattle.sheet_laws.specs.Lifts.{critical_edges}

-- in a regular space each rule is kept
none-found : (o : Option Rule) → option_map (λ (r : Rule). r.fault) o ≡ None → o ≡ None
none-found None e = refl
none-found (Some r) e = absurd (grind (arith, e))

pub ends-two : (space : List (List (List ℕ))) (e : ℕ) → IsRegular space → InRange (count space 1) e → length (facets_of space 1 e) ≡ 2
ends-two space e h r =
    let m : In (rule (two_ends space e) (EdgeEnds e)) (all_rules space) =
    In-left (flat_map (disk_rules space) (upto (count space 2)) ++ flat_map (solid_rules space) (upto (count space 3)))
    (In-flat_map (edge_rules space) (In-upto (count space 1) e r.0 r.1) here) in
    eqb-true (length (facets_of space 1 e)) 2 (not-false (two_ends space e) (find-none (λ (r : Rule). not r.kept) (all_rules space) (none-found (find (λ (r : Rule). not r.kept) (all_rules space)) h) m))

-- the two ends of an edge
pub record Ends (space : List (List (List ℕ))) (e : ℕ) : Type 0 where
  pub first : InRange (count space 0) (get_or (facets_of space 1 e) 0 0)
  pub second : InRange (count space 0) (get_or (facets_of space 1 e) 1 0)
  pub only : (v : ℕ) → In v (facets_of space 1 e) → (v ≡ get_or (facets_of space 1 e) 0 0) ⊎ (v ≡ get_or (facets_of space 1 e) 1 0)
  pub apart : get_or (facets_of space 1 e) 0 0 ≡ get_or (facets_of space 1 e) 1 0 → ⊥
  pub there_first : In (get_or (facets_of space 1 e) 0 0) (facets_of space 1 e)
  pub there_second : In (get_or (facets_of space 1 e) 1 0) (facets_of space 1 e)

two-members : (xs : List ℕ) → length xs ≡ 2 → (v : ℕ) → In v xs → (v ≡ get_or xs 0 0) ⊎ (v ≡ get_or xs 1 0)
two-members [] l v i = absurd (omega (arith, l))
two-members (x ∷ []) l v i = absurd (omega (arith, l))
two-members (x ∷ y ∷ []) l v i = elim (In-cases i) [ inl e ↦ inl e | inr j ↦ elim (In-cases j) [ inl e ↦ inr e | inr n ↦ elim n [ ] ] ]
two-members (x ∷ y ∷ z ∷ xs) l v i = absurd (omega (arith, l))

pub ends-of : (space : List (List (List ℕ))) (e : ℕ) → IsSpace space → IsRegular space → InRange (count space 1) e → Ends space e
ends-of space e valid regular r =
    let two = ends-two space e regular r in
    let a = at-In (facets_of space 1 e) 0 0 (omega (arith, two)) in
    let b = at-In (facets_of space 1 e) 1 0 (omega (arith, two)) in
    record {
      first = facet-range space 0 e (get_or (facets_of space 1 e) 0 0) valid r.0 r.1 a;
      second = facet-range space 0 e (get_or (facets_of space 1 e) 1 0) valid r.0 r.1 b;
      only = two-members (facets_of space 1 e) two;
      apart = λ x. omega (arith, x, (facets-cell space 1 e valid (omega arith) r.0 r.1).rises 0 (omega (arith, two)));
      there_first = a;
      there_second = b;
    }

-- ---- what a field does with an edge

-- a pair of the field with this dimension
pub record HasPair (pairs : List Pair) (dim : ℕ) (is : Pair → Type 0) : Type 0 where
  pub pair : Pair
  pub among : In pair pairs
  pub of_dim : pair.dim ≡ dim
  pub has : is pair

module _ (space : List (List (List ℕ))) (pairs : List Pair) (valid : IsValid space pairs) where
  pub incident : (p : Pair) → In p pairs → Incident space p
  incident p m = incident-true space p ((lined-from space pairs valid).incident p m)

  -- of two pairs one stands before the other, or they are one
  pub before-or-after : (p q : Pair) → In p pairs → In q pairs → (p ≡ q) ⊎ (Goes space p q ⊎ Goes space q p)
  before-or-after p q i j = lined-two (Goes space) pairs (lined-from space pairs valid).lined p q i j

  -- an edge paired with a vertex is paired with no 2-cell
  pub tree-no_lower : (p q : Pair) → In p pairs → In q pairs → p.dim ≡ 0 → q.dim ≡ 1 → q.lower ≡ p.upper → ⊥
  tree-no_lower p q i j d k e = by (before-or-after p q i j)
    where
      by : (p ≡ q) ⊎ (Goes space p q ⊎ Goes space q p) → ⊥
      by (inl x) = omega (arith, d, k, ap (λ (z : Pair). z.dim) x)
      by (inr (inl g)) = g.apart.0 (inr (omega (arith, d, k), sym e))
      by (inr (inr g)) = g.apart.1 (inl (omega (arith, d, k), e))

  pub critical-no_pair : (e : ℕ) → In e (critical_edges space pairs) → is_used pairs 1 e ≡ false
  critical-no_pair e i = not-true (is_used pairs 1 e) (filter-In (λ c. not (is_used pairs 1 c)) (upto (count space 1)) i)

  pub critical-no_lower : (q : Pair) → In q pairs → q.dim ≡ 1 → In q.lower (critical_edges space pairs) → ⊥
  critical-no_lower q j k i = unused-In 1 q.lower (critical-no_pair q.lower i) j (inl (k, refl))

  pub critical-no_tree : (p : Pair) → In p pairs → p.dim ≡ 0 → In p.upper (critical_edges space pairs) → ⊥
  critical-no_tree p j k i = unused-In 1 p.upper (critical-no_pair p.upper i) j (inr (omega (arith, k), refl))

  pub critical-range : (e : ℕ) → In e (critical_edges space pairs) → InRange (count space 1) e
  critical-range e i = upto-In (count space 1) e (In-inside (λ c. not (is_used pairs 1 c)) (upto (count space 1)) i)

  -- an edge is critical, or paired with a vertex, or with a 2-cell
  pub edge-kinds : (e : ℕ) → InRange (count space 1) e → In e (critical_edges space pairs) ⊎ (HasPair pairs 0 (λ p. p.upper ≡ e) ⊎ HasPair pairs 1 (λ p. p.lower ≡ e))
  edge-kinds e r = by (is_used pairs 1 e) refl
    where
      by : (b : Bool) → is_used pairs 1 e ≡ b → In e (critical_edges space pairs) ⊎ (HasPair pairs 0 (λ p. p.upper ≡ e) ⊎ HasPair pairs 1 (λ p. p.lower ≡ e))
      by false k = inl (In-filter (λ c. not (is_used pairs 1 c)) (In-upto (count space 1) e r.0 r.1) (not_from_false (is_used pairs 1 e) k))
      by true k =
          let s = used-some pairs 1 e k in
          elim s.2 [
            | inl u ↦ inr (inr (record { pair = s.0; among = s.1; of_dim = u.0; has = u.1 }))
            | inr u ↦ inr (inl (record { pair = s.0; among = s.1; of_dim = omega (arith, u.0); has = u.1 }))
          ]

  -- the other facets of the upper of a pair of an edge with a 2-cell
  pub In-others : (p : Pair) (g : ℕ) → p.dim ≡ 1 → In g (facets_of space 2 p.upper) → (g ≡ p.lower → ⊥) → In g (others space p)
  In-others p g d i n =
      In-filter (λ f. not (f == p.lower)) (subst (λ (k : ℕ). In g (facets_of space (k + 1) p.upper)) (sym d) i) (not_from_false (g == p.lower) (differ (g == p.lower) refl))
    where
      differ : (b : Bool) → (g == p.lower) ≡ b → b ≡ false
      differ true e = absurd (n (eqb-true g p.lower e))
      differ false e = refl

  pub others-In : (p : Pair) (g : ℕ) → p.dim ≡ 1 → In g (others space p) → In g (facets_of space 2 p.upper)
  others-In p g d i = subst (λ (k : ℕ). In g (facets_of space (k + 1) p.upper)) d (In-inside (λ f. not (f == p.lower)) (facets_of space (p.dim + 1) p.upper) i)

  pub upper-range : (p : Pair) → In p pairs → p.dim ≡ 1 → InRange (count space 2) p.upper
  upper-range p i d = let h = incident p i in (h.upper_first, subst (λ (k : ℕ). p.upper ≤ count space (k + 1)) d h.upper_last)

  pub lower-range : (p : Pair) → In p pairs → p.dim ≡ 1 → InRange (count space 1) p.lower
  lower-range p i d = let h = incident p i in (h.first, subst (λ (k : ℕ). p.lower ≤ count space k) d h.last)

  pub lower-facet : (p : Pair) → In p pairs → p.dim ≡ 1 → In p.lower (facets_of space 2 p.upper)
  lower-facet p i d = subst (λ (k : ℕ). In p.lower (facets_of space (k + 1) p.upper)) d (incident p i).facet

-- what holds of each edge that is the lower of no pair, and of the lower of each pair where it holds of the other edges of the upper, holds of
-- each edge
pub over-edges : (space : List (List (List ℕ))) (pairs : List Pair) → IsSpace space → IsValid space pairs → (P : ℕ → Type 0)
    → ((e : ℕ) → InRange (count space 1) e → In e (critical_edges space pairs) → P e)
    → ((p : Pair) → In p pairs → p.dim ≡ 0 → InRange (count space 1) p.upper → P p.upper)
    → ((p : Pair) → In p pairs → p.dim ≡ 1 → ((g : ℕ) → In g (others space p) → P g) → P p.lower)
    → (e : ℕ) → InRange (count space 1) e → P e
over-edges space pairs is valid P critical tree pass e r = by e r (edge-kinds space pairs valid e r)
  where
    free : (p : Pair) (f : ℕ) → In p pairs → p.dim ≡ 1 → In f (others space p) → list_any (has_lower 1 f) pairs ≡ false → P f
    free p f i d m n = by_kind (edge-kinds space pairs valid f range)
      where
        range : InRange (count space 1) f
        range = let h = upper-range space pairs valid p i d in facet-range space 1 p.upper f is h.0 h.1 (others-In space pairs valid p f d m)

        by_kind : In f (critical_edges space pairs) ⊎ (HasPair pairs 0 (λ p. p.upper ≡ f) ⊎ HasPair pairs 1 (λ p. p.lower ≡ f)) → P f
        by_kind (inl c) = critical f range c
        by_kind (inr (inl h)) = subst P h.has (tree h.pair h.among h.of_dim (subst (λ (x : ℕ). InRange (count space 1) x) (sym h.has) range))
        by_kind (inr (inr h)) = absurd (false≢true (sym n ∙ any-In (has_lower 1 f) h.among (has_lower-from h.pair 1 f h.of_dim h.has)))

    by : (e : ℕ) → InRange (count space 1) e → In e (critical_edges space pairs) ⊎ (HasPair pairs 0 (λ p. p.upper ≡ e) ⊎ HasPair pairs 1 (λ p. p.lower ≡ e)) → P e
    by e r (inl c) = critical e r c
    by e r (inr (inl h)) = subst P h.has (tree h.pair h.among h.of_dim (subst (λ (x : ℕ). InRange (count space 1) x) (sym h.has) r))
    by e r (inr (inr h)) = subst P h.has (along-field space pairs valid 1 P free pass h.pair h.among h.of_dim)

-- the same over vertices
pub over-vertices : (space : List (List (List ℕ))) (pairs : List Pair) → IsSpace space → IsValid space pairs → (P : ℕ → Type 0)
    → ((v : ℕ) → In v (unpaired pairs 0 (count space 0)) → P v)
    → ((p : Pair) → In p pairs → p.dim ≡ 0 → ((g : ℕ) → In g (others space p) → P g) → P p.lower)
    → (v : ℕ) → InRange (count space 0) v → P v
over-vertices space pairs is valid P critical pass v r = by v r (cases_Bool (is_used pairs 0 v))
  where
    unused : (v : ℕ) → InRange (count space 0) v → is_used pairs 0 v ≡ false → P v
    unused v r e = critical v (In-filter (λ c. not (is_used pairs 0 c)) (In-upto (count space 0) v r.0 r.1) (not_from_false (is_used pairs 0 v) e))

    lower : (v : ℕ) → is_used pairs 0 v ≡ true → HasPair pairs 0 (λ p. p.lower ≡ v)
    lower v e =
        let s = used-some pairs 0 v e in
        elim s.2 [ inl u ↦ record { pair = s.0; among = s.1; of_dim = u.0; has = u.1 } | inr u ↦ absurd (omega (arith, u.0)) ]

    free : (p : Pair) (f : ℕ) → In p pairs → p.dim ≡ 0 → In f (others space p) → list_any (has_lower 0 f) pairs ≡ false → P f
    free p f i d m n = by_use (cases_Bool (is_used pairs 0 f))
      where
        range : InRange (count space 0) f
        range =
            let h = incident space pairs valid p i in
            facet-range space 0 p.upper f is h.upper_first (subst (λ (k : ℕ). p.upper ≤ count space (k + 1)) d h.upper_last)
            (subst (λ (k : ℕ). In f (facets_of space (k + 1) p.upper)) d (In-inside (λ f. not (f == p.lower)) (facets_of space (p.dim + 1) p.upper) m))

        by_use : (is_used pairs 0 f ≡ true) ⊎ (is_used pairs 0 f ≡ false) → P f
        by_use (inl e) = let h = lower f e in absurd (false≢true (sym n ∙ any-In (has_lower 0 f) h.among (has_lower-from h.pair 0 f h.of_dim h.has)))
        by_use (inr e) = unused f range e

    by : (v : ℕ) → InRange (count space 0) v → (is_used pairs 0 v ≡ true) ⊎ (is_used pairs 0 v ≡ false) → P v
    by v r (inl e) = let h = lower v e in subst P h.has (along-field space pairs valid 0 P free pass h.pair h.among h.of_dim)
    by v r (inr e) = unused v r e
