-- The search finds exactly what leads to a cell.
use Rattle.std.proofs.Common.{◌≡◌, ◌≢◌, ◌⊎◌, inl, inr, ℕ, ◌+◌, ◌<◌, ◌≤◌, List, [], ◌∷◌, ◌++◌, true, not, eqb, length, get_or, refl, ap, sym, ◌∙◌, subst, arith}
use Rattle.std.specs.Cmp.{both_ways}
use Rattle.std.proofs.lemmas.Bool.{eqb-false, not-true, cases_lt, false≢true}
use Rattle.face_poset.specs.declared.cells.Pair.{Pair}
use Rattle.number_lists.specs.Words.{holds}
use Rattle.face_poset.specs.Poset.{count, facets_of, cofaces_of}
use Rattle.vector_field.specs.Pairs.{pair, is_incident, others}
use Rattle.vector_field.specs.Paths.{Leads, arrived, along, leads_to}
use Rattle.vector_field.specs.Searches.{IsLed, IsStep, HasSteps}
use Rattle.number_lists.specs.Members.{In, here}
use Rattle.number_lists.proofs.CallerLemmas.{In-cases, filter-In, In-inside, In-holds, holds-In, In-left, In-last, push-In, at-In, In-at, IsMore}
use Rattle.vector_field.proofs.Paths.{other-In, leads-sound, leads-complete}
use Rattle.vector_field.proofs.MaximalTest.{incident-true, cofaces-In, In-cofaces}

module _ (pairs : List Pair) (dim facet : ℕ) where
  -- a lower other than the facet of a pair with one of these uppers
  pub record IsStepBy (uppers : List ℕ) (lower : ℕ) : Type 0 where
    pub upper : ℕ
    pub among : holds uppers upper ≡ true
    pub paired : In (pair dim lower upper) pairs
    pub other : lower ≢ facet

  pub record IsAdding (uppers old new : List ℕ) : Type 0 where
    pub long : length old ≤ length new
    pub begins : (k : ℕ) → k < length old → get_or new k 0 ≡ get_or old k 0
    pub kept : (x : ℕ) → holds old x ≡ true → holds new x ≡ true
    pub added : (lower : ℕ) → IsStepBy uppers lower → holds new lower ≡ true
    pub only : (lower : ℕ) → holds new lower ≡ true → (holds old lower ≡ true) ⊎ IsStepBy uppers lower

  pub adding-none : (old : List ℕ) → IsAdding [] old old
  adding-none old = record { long = omega arith; begins = λ k l. refl; kept = λ x h. h; added = λ l s. absurd (false≢true s.among); only = λ l h. inl h }

  step_wider : (uppers : List ℕ) (u lower : ℕ) → IsStepBy uppers lower → IsStepBy (uppers ++ u ∷ []) lower
  step_wider uppers u lower s = record { upper = s.upper; among = In-holds (In-left (u ∷ []) (holds-In uppers s.among)); paired = s.paired; other = s.other }

  -- an upper more, whose lower is found too
  pub adding-found : (uppers old new new' : List ℕ) (u l : ℕ) → In (pair dim l u) pairs → l ≢ facet → ((p q : Pair) → In p pairs → In q pairs → p.dim ≡ q.dim → p.upper ≡ q.upper → p ≡ q)
      → IsMore new l new' → IsAdding uppers old new → IsAdding (uppers ++ u ∷ []) old new'
  adding-found uppers old new new' u l m n one w h = record {
    long = omega (arith, w.long, h.long);
    begins = λ k lt. w.place k (omega (arith, lt, h.long)) ∙ h.begins k lt;
    kept = λ x e. In-holds (w.kept x (holds-In new (h.kept x e)));
    added = λ x s. elim (push-In uppers u (holds-In (uppers ++ u ∷ []) s.among)) [
      | inl i ↦ In-holds (w.kept x (holds-In new (h.added x (record { upper = s.upper; among = In-holds i; paired = s.paired; other = s.other }))))
      | inr e ↦ let same : pair dim x s.upper ≡ pair dim l u = one (pair dim x s.upper) (pair dim l u) s.paired m refl e in subst (λ (z : ℕ). holds new' z ≡ true) (sym (ap (λ (p : Pair). p.lower) same)) (In-holds w.there)
    ];
    only = λ x e. elim (w.only x (holds-In new' e)) [
      | inl k ↦ elim (h.only x (In-holds k)) [ inl a ↦ inl a | inr a ↦ inr (step_wider uppers u x a) ]
      | inr k ↦ inr (record { upper = u; among = In-holds (In-last uppers u); paired = subst (λ (z : ℕ). In (pair dim z u) pairs) (sym k) m; other = λ e. n (sym k ∙ e) })
    ];
  }

  -- an upper more, with no lower but the facet
  pub adding-skip : (uppers old new : List ℕ) (u : ℕ) → ((l : ℕ) → In (pair dim l u) pairs → l ≡ facet) → IsAdding uppers old new → IsAdding (uppers ++ u ∷ []) old new
  adding-skip uppers old new u none h = record {
    long = h.long;
    begins = h.begins;
    kept = h.kept;
    added = λ x s. elim (push-In uppers u (holds-In (uppers ++ u ∷ []) s.among)) [
      | inl i ↦ h.added x (record { upper = s.upper; among = In-holds i; paired = s.paired; other = s.other })
      | inr e ↦ absurd (s.other (none x (subst (λ (z : ℕ). In (pair dim x z) pairs) e s.paired)))
    ];
    only = λ x e. elim (h.only x e) [ inl a ↦ inl a | inr a ↦ inr (step_wider uppers u x a) ];
  }

-- all cofaces were looked at
pub adding-all : (space : List (List (List ℕ))) (pairs : List Pair) (dim facet : ℕ) (uppers old new : List ℕ) → uppers ≡ cofaces_of space dim facet → IsAdding pairs dim facet uppers old new → HasSteps space pairs dim facet old new
adding-all space pairs dim facet uppers old new e h =
    let h2 : IsAdding pairs dim facet (cofaces_of space dim facet) old new = subst (λ (us : List ℕ). IsAdding pairs dim facet us old new) e h in
    record {
      long = h2.long;
      begins = h2.begins;
      kept = h2.kept;
      added = λ l s. h2.added l (record { upper = s.upper; among = s.coface; paired = s.paired; other = s.other });
      only = λ l k. elim (h2.only l k) [ inl a ↦ inl a | inr a ↦ inr (record { upper = a.upper; coface = a.among; paired = a.paired; other = a.other }) ];
    }

module _ (space : List (List (List ℕ))) (pairs : List Pair) (dim last : ℕ) where
  pub record IsSearch (head : ℕ) (found : List ℕ) : Type 0 where
    pub start : holds found last ≡ true
    pub range : (y : ℕ) → holds found y ≡ true → (1 ≤ y) × (y ≤ count space dim)
    pub leads : (y : ℕ) → holds found y ≡ true → Leads space pairs dim last y
    pub closed : (k : ℕ) → k < head → k < length found → (p : Pair) → In p pairs → p.dim ≡ dim → In (get_or found k 0) (others space p) → holds found p.lower ≡ true

  single : {x : ℕ} → holds (last ∷ []) x ≡ true → x ≡ last
  single {x} e = elim (In-cases (holds-In (last ∷ []) e)) [ inl h ↦ h | inr h ↦ elim h [ ] ]

  pub search_begun : 1 ≤ last → last ≤ count space dim → IsSearch 0 (last ∷ [])
  search_begun a b = record {
    start = In-holds {x = last} {xs = last ∷ []} here;
    range = λ y e. subst (λ (z : ℕ). (1 ≤ z) × (z ≤ count space dim)) (sym (single e)) (a, b);
    leads = λ y e. subst (Leads space pairs dim last) (sym (single e)) arrived;
    closed = λ k l. absurd (omega (arith, l));
  }

  module _ (incident : (p : Pair) → In p pairs → is_incident space p ≡ true) where
    step_in : (facet lower : ℕ) → (s : IsStep space pairs dim facet lower) → In facet (others space (pair dim lower s.upper))
    step_in facet lower s = other-In space (pair dim lower s.upper) facet (cofaces-In space dim facet s.upper (holds-In (cofaces_of space dim facet) s.coface)).facet (λ e. s.other (sym e))

    pub search_more : (head : ℕ) (found new : List ℕ) → head < length found → IsSearch head found → HasSteps space pairs dim (get_or found head 0) found new → IsSearch (head + 1) new
    search_more head found new l s h = record {
      start = h.kept last s.start;
      range = λ y e. elim (h.only y e) [
        | inl k ↦ s.range y k
        | inr k ↦ let i = incident-true space (pair dim y k.upper) (incident (pair dim y k.upper) k.paired) in (i.first, i.last)
      ];
      leads = λ y e. elim (h.only y e) [
        | inl k ↦ s.leads y k
        | inr k ↦ along (pair dim y k.upper) k.paired refl (step_in facet y k) (s.leads facet (In-holds (at-In found head 0 l)))
      ];
      closed = λ k a b p m d o. by k (cases_lt k head) a p m d o;
    }
      where
        facet : ℕ
        facet = get_or found head 0

        by : (k : ℕ) → (k < head) ⊎ (head ≤ k) → k < head + 1 → (p : Pair) → In p pairs → p.dim ≡ dim → In (get_or new k 0) (others space p) → holds new p.lower ≡ true
        by k (inl a) b p m d o =
            let lt : k < length found = omega (arith, a, l) in
            h.kept p.lower (s.closed k a lt p m d (subst (λ (z : ℕ). In z (others space p)) (h.begins k lt) o))
        by k (inr a) b p m d o =
            let same : k ≡ head = omega (arith, a, b) in
            let at : In (get_or found head 0) (others space p) = subst (λ (z : ℕ). In z (others space p)) (ap (λ (j : ℕ). get_or new j 0) same ∙ h.begins head l) o in
            let i = incident-true space p (incident p m) in
            let facet_of : In (get_or found head 0) (facets_of space (p.dim + 1) p.upper) = In-inside (λ f. not (eqb f p.lower)) (facets_of space (p.dim + 1) p.upper) at in
            let differs : p.lower ≢ get_or found head 0 = λ e. eqb-false (get_or found head 0) p.lower (not-true (eqb (get_or found head 0) p.lower) (filter-In (λ f. not (eqb f p.lower)) (facets_of space (p.dim + 1) p.upper) at)) (sym e) in
            let coface : In p.upper (cofaces_of space dim (get_or found head 0)) = subst (λ (z : ℕ). In p.upper (cofaces_of space z (get_or found head 0))) d (In-cofaces space p.dim (get_or found head 0) p.upper i.upper_first i.upper_last facet_of) in
            h.added p.lower (record { upper = p.upper; coface = In-holds coface; paired = subst (λ (z : ℕ). In (pair z p.lower p.upper) pairs) d m; other = differs })

    found_all : (head : ℕ) (found : List ℕ) → length found ≤ head → IsSearch head found → {f : ℕ} → Leads space pairs dim last f → holds found f ≡ true
    found_all head found l s arrived = s.start
    found_all head found l s (along p i d o h) =
        let c = In-at (holds-In found (found_all head found l s h)) in
        s.closed c.0 (omega (arith, c.1)) c.1 p i d (subst (λ (z : ℕ). In z (others space p)) (sym c.2) o)

    pub search_tells : (head : ℕ) (found : List ℕ) → length found ≤ head → IsSearch head found → IsLed space pairs dim last found
    search_tells head found l s f =
        both_ways (holds found f) (leads_to space pairs dim last f) (λ e. leads-complete space pairs dim last f (s.leads f e)) (λ e. found_all head found l s (leads-sound space pairs dim last f e))
