-- A pair inside a component, in the numbers of the space and in those of the part.
use Rattle.std.proofs.Common.{◌≡◌, inl, inr, ℕ, suc, ◌+◌, ◌≤◌, List, not, eqb, refl, ap, sym, ◌∙◌, subst, arith}
use Rattle.std.proofs.lemmas.Bool.{eqb-false, ne_eqb, not-true, not_from_false}
use Rattle.number_lists.specs.Members.{In}
use Rattle.number_lists.proofs.CallerLemmas.{In-filter, In-inside, filter-In}
use Rattle.face_poset.specs.Poset.{IsSpace, count, facets_of}
use Rattle.face_poset.specs.declared.cells.Pair.{Pair}
use Rattle.regular_check.specs.Rules.{IsRegular}
use Rattle.regular_check.specs.Components.{SameComponentIsAPath}
use Rattle.vector_field.specs.Pairs.{others}
use Rattle.vector_field.proofs.CallerLemmas.{Uses, Goes, Incident}
use Rattle.space_parts.specs.Parts.{component_at, place_in, part_of}
use Rattle.space_parts.proofs.CallerLemmas.{IsMember, lies_within, member_facet, goes_to, place_once, copies}
use Rattle.part_fields.specs.Fields.{pair_in}

-- the two cells of a pair that is there are in one component
pub same_component : (space : List (List (List ℕ))) → IsSpace space → IsRegular space → SameComponentIsAPath → (p : Pair) → Incident space p → component_at space p.dim p.lower ≡ component_at space (p.dim + 1) p.upper
same_component space hs regular paths p h =
    let e : suc p.dim ≡ p.dim + 1 = omega arith in
    subst (λ (n : ℕ). p.upper ≤ count space n → In p.lower (facets_of space n p.upper) → component_at space p.dim p.lower ≡ component_at space n p.upper) e
    (λ most i. lies_within space hs regular paths p.dim p.upper p.lower h.upper_first most i) h.upper_last h.facet

-- a pair that uses a cell of a component is in it
pub used_component : (space : List (List (List ℕ))) → IsSpace space → IsRegular space → SameComponentIsAPath → (p : Pair) (d c number : ℕ) → Incident space p → Uses p d c → component_at space d c ≡ number → component_at space p.dim p.lower ≡ number
used_component space hs regular paths p d c number h (inl u) e = ap (λ (n : ℕ). component_at space n p.lower) u.0 ∙ (ap (component_at space d) u.1 ∙ e)
used_component space hs regular paths p d c number h (inr u) e = same_component space hs regular paths p h ∙ (ap (λ (n : ℕ). component_at space n p.upper) u.0 ∙ (ap (component_at space d) u.1 ∙ e))

module _ (space : List (List (List ℕ))) (number : ℕ) where
  -- a pair of the component
  pub record MemberPair (p : Pair) : Type 0 where
    pub incident : Incident space p
    pub lower : IsMember space number p.dim p.lower
    pub upper : IsMember space number (p.dim + 1) p.upper

module _ (space : List (List (List ℕ))) (number : ℕ) (hs : IsSpace space) (regular : IsRegular space) (paths : SameComponentIsAPath) where
  pub member_pair : (p : Pair) → Incident space p → component_at space p.dim p.lower ≡ number → MemberPair space number p
  member_pair p h e =
      record {
        incident = h;
        lower = record { low = h.first; high = h.last; component = e };
        upper = record { low = h.upper_first; high = h.upper_last; component = sym (same_component space hs regular paths p h) ∙ e };
      }

  -- ---- facets

  pub down : (d u f : ℕ) → IsMember space number (d + 1) u → In f (facets_of space (d + 1) u) → IsMember space number d f
  down d u f m i =
      let e : suc d ≡ d + 1 = omega arith in
      subst (λ (n : ℕ). IsMember space number n u → In f (facets_of space n u) → IsMember space number d f) e (λ k j. member_facet space number hs regular paths d u f k j) m i

  pub facet_to : (d u f : ℕ) → IsMember space number (d + 1) u → In f (facets_of space (d + 1) u) → In (place_in space number d f) (facets_of (part_of space number) (d + 1) (place_in space number (d + 1) u))
  facet_to d u f m i =
      let e : suc d ≡ d + 1 = omega arith in
      subst (λ (n : ℕ). IsMember space number n u → In f (facets_of space n u) → In (place_in space number d f) (facets_of (part_of space number) n (place_in space number n u))) e (λ k j. (copies space number hs regular paths).to d u f k j) m i

  pub facet_from : (d u y : ℕ) → IsMember space number (d + 1) u → In y (facets_of (part_of space number) (d + 1) (place_in space number (d + 1) u)) → (f : ℕ) × In f (facets_of space (d + 1) u) × (y ≡ place_in space number d f)
  facet_from d u y m i =
      let e : suc d ≡ d + 1 = omega arith in
      subst (λ (n : ℕ). IsMember space number n u → In y (facets_of (part_of space number) n (place_in space number n u)) → (f : ℕ) × In f (facets_of space n u) × (y ≡ place_in space number d f)) e
      (λ k j. (copies space number hs regular paths).from d u y k j) m i

  pub once : (d a b : ℕ) → IsMember space number d a → IsMember space number d b → place_in space number d a ≡ place_in space number d b → a ≡ b
  once d a b m k e = place_once space number d a b hs m k e

  -- ---- pairs

  pub incident_in : (p : Pair) → MemberPair space number p → Incident (part_of space number) (pair_in space number p)
  incident_in p h =
      let l = goes_to space number hs p.dim p.lower h.lower in
      let u = goes_to space number hs (p.dim + 1) p.upper h.upper in
      record { low = h.incident.low; first = l.low; last = l.high; upper_first = u.low; upper_last = u.high; facet = facet_to p.dim p.upper p.lower h.upper h.incident.facet }

  pub other_member : (p : Pair) (f : ℕ) → MemberPair space number p → In f (others space p) → IsMember space number p.dim f
  other_member p f h i = down p.dim p.upper f h.upper (In-inside (λ g. not (eqb g p.lower)) (facets_of space (p.dim + 1) p.upper) i)

  pub others_to : (p : Pair) (f : ℕ) → MemberPair space number p → In f (others space p) → In (place_in space number p.dim f) (others (part_of space number) (pair_in space number p))
  others_to p f h i =
      let xs : List ℕ = facets_of space (p.dim + 1) p.upper in
      let j : In f xs = In-inside (λ g. not (eqb g p.lower)) xs i in
      In-filter (λ g. not (eqb g (place_in space number p.dim p.lower))) (facet_to p.dim p.upper f h.upper j)
      (not_from_false (eqb (place_in space number p.dim f) (place_in space number p.dim p.lower))
      (ne_eqb (place_in space number p.dim f) (place_in space number p.dim p.lower)
      (λ e. eqb-false f p.lower (not-true (eqb f p.lower) (filter-In (λ g. not (eqb g p.lower)) xs i)) (once p.dim f p.lower (other_member p f h i) h.lower e))))

  pub others_from : (p : Pair) (y : ℕ) → MemberPair space number p → In y (others (part_of space number) (pair_in space number p)) → (f : ℕ) × In f (others space p) × (y ≡ place_in space number p.dim f)
  others_from p y h i =
      let l : ℕ = place_in space number p.dim p.lower in
      let xs : List ℕ = facets_of (part_of space number) (p.dim + 1) (place_in space number (p.dim + 1) p.upper) in
      let r = facet_from p.dim p.upper y h.upper (In-inside (λ g. not (eqb g l)) xs i) in (
        r.0,
        In-filter (λ g. not (eqb g p.lower)) r.1
            (not_from_false (eqb r.0 p.lower)
            (ne_eqb r.0 p.lower (λ e. eqb-false y l (not-true (eqb y l) (filter-In (λ g. not (eqb g l)) xs i)) (r.2 ∙ ap (place_in space number p.dim) e)))),
        r.2,
      )

  -- ---- cells that pairs use

  pub uses_to : (p : Pair) (d c : ℕ) → Uses p d c → Uses (pair_in space number p) d (place_in space number d c)
  uses_to p d c (inl u) = inl (u.0, ap (λ (n : ℕ). place_in space number n p.lower) u.0 ∙ ap (place_in space number d) u.1)
  uses_to p d c (inr u) = inr (u.0, ap (λ (n : ℕ). place_in space number n p.upper) u.0 ∙ ap (place_in space number d) u.1)

  pub uses_from : (p : Pair) (d c : ℕ) → MemberPair space number p → IsMember space number d c → Uses (pair_in space number p) d (place_in space number d c) → Uses p d c
  uses_from p d c h m (inl u) =
      inl (u.0, once d p.lower c (subst (λ (n : ℕ). IsMember space number n p.lower) u.0 h.lower) m (subst (λ (n : ℕ). place_in space number n p.lower ≡ place_in space number d c) u.0 u.1))
  uses_from p d c h m (inr u) =
      inr (u.0, once d p.upper c (subst (λ (n : ℕ). IsMember space number n p.upper) u.0 h.upper) m (subst (λ (n : ℕ). place_in space number n p.upper ≡ place_in space number d c) u.0 u.1))

  -- ---- the order

  pub goes_in : (p q : Pair) → MemberPair space number p → MemberPair space number q → Goes space p q → Goes (part_of space number) (pair_in space number p) (pair_in space number q)
  goes_in p q h k g =
      record {
        apart = ((λ u. g.apart.0 (uses_from p q.dim q.lower h k.lower u)), (λ u. g.apart.1 (uses_from p (q.dim + 1) q.upper h k.upper u)));
        free = λ same i.
            let r = others_from p (place_in space number q.dim q.lower) h i in
            let e : q.lower ≡ r.0 =
            once p.dim q.lower r.0 (subst (λ (n : ℕ). IsMember space number n q.lower) same k.lower) (other_member p r.0 h r.1) (subst (λ (n : ℕ). place_in space number n q.lower ≡ place_in space number p.dim r.0) same r.2) in
            g.free same (subst (λ (f : ℕ). In f (others space p)) (sym e) r.1);
      }

  pub goes_out : (p q : Pair) → MemberPair space number p → MemberPair space number q → Goes (part_of space number) (pair_in space number p) (pair_in space number q) → Goes space p q
  goes_out p q h k g =
      record {
        apart = ((λ u. g.apart.0 (uses_to p q.dim q.lower u)), (λ u. g.apart.1 (uses_to p (q.dim + 1) q.upper u)));
        free = λ same i. g.free same (subst (λ (n : ℕ). In (place_in space number n q.lower) (others (part_of space number) (pair_in space number p))) (sym same) (others_to p q.lower h i));
      }

-- pairs of two components
pub goes_across : (space : List (List (List ℕ))) → IsSpace space → IsRegular space → SameComponentIsAPath → (p q : Pair) → Incident space p → Incident space q → (component_at space p.dim p.lower ≡ component_at space q.dim q.lower → ⊥) → Goes space p q
goes_across space hs regular paths p q h k differ =
    let n : ℕ = component_at space q.dim q.lower in
    record {
      apart = ((λ u. differ (used_component space hs regular paths p q.dim q.lower n h u refl)), (λ u. differ (used_component space hs regular paths p (q.dim + 1) q.upper n h u (sym (same_component space hs regular paths q k)))));
      free = λ same i.
          let m = other_member space (component_at space p.dim p.lower) hs regular paths p q.lower (member_pair space (component_at space p.dim p.lower) hs regular paths p h refl) i in
          differ (sym m.component ∙ ap (λ (d : ℕ). component_at space d q.lower) (sym same));
    }
