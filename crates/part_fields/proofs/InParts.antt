-- The pairs of a component on its part: what they use, where they lead, which vertices they leave.
use Rattle.std.proofs.Common.{◌≡◌, inl, inr, ℕ, ◌+◌, ◌-◌, ◌≤◌, List, [], ◌∷◌, true, false, not, eqb, filter, length, get_or, refl, ap, sym, ◌∙◌, subst, arith}
use Rattle.std.specs.List.Sorted.{IsStrictlyIncreasing}
use Rattle.std.proofs.lemmas.Bool.{eqb-true, eq-eqb, not-true, not_from_false}
use Rattle.std.proofs.lemmas.List.Kept.{IsStrictlyIncreasing-filter}
use Rattle.number_lists.specs.Words.{upto}
use Rattle.number_lists.specs.Members.{In, here, there}
use Rattle.number_lists.proofs.CallerLemmas.{same_bool, increasing-upto, In-cases, In-filter, In-inside, filter-In, In-upto, upto-In, In-map, map-In}
use Rattle.face_poset.specs.Poset.{IsSpace, count}
use Rattle.face_poset.specs.declared.cells.Pair.{Pair}
use Rattle.regular_check.specs.Rules.{IsRegular}
use Rattle.regular_check.specs.Components.{SameComponentIsAPath, component_of}
use Rattle.vector_field.specs.Pairs.{is_used, others, unpaired}
use Rattle.vector_field.specs.Paths.{Leads, arrived, along, GradientPath}
use Rattle.vector_field.specs.Maximal.{vertices_in}
use Rattle.vector_field.proofs.CallerLemmas.{Uses, Incident, used-some, used-In}
use Rattle.space_parts.specs.Parts.{component_at, place_in, cells_in, part_of}
use Rattle.space_parts.proofs.CallerLemmas.{IsMember, goes_to, comes_from}
use Rattle.part_fields.specs.Fields.{lies_in, pair_in, field_in}
use Rattle.part_fields.proofs.Members.{used_component, MemberPair, member_pair, down, facet_to, facet_from, once, other_member, others_to, others_from, uses_to, uses_from}

-- ---- lists of one

pub one_some : (xs : List ℕ) → length xs ≡ 1 → (x : ℕ) × In x xs
one_some [] e = absurd (omega (arith, e))
one_some (x ∷ xs) e = (x, here)

pub one_same : (xs : List ℕ) (a b : ℕ) → length xs ≡ 1 → In a xs → In b xs → a ≡ b
one_same [] a b e i j = elim i [ ]
one_same (x ∷ []) a b e i j = single i ∙ sym (single j)
  where
    single : {y : ℕ} → In y (x ∷ []) → y ≡ x
    single k = elim (In-cases k) [ inl q ↦ q | inr q ↦ elim q [ ] ]
one_same (x ∷ y ∷ xs) a b e i j = absurd (omega (arith, e))

pub one_from : (xs : List ℕ) (x : ℕ) → IsStrictlyIncreasing xs → In x xs → ((y : ℕ) → In y xs → y ≡ x) → length xs ≡ 1
one_from [] x r i only = elim i [ ]
one_from (z ∷ []) x r i only = refl
one_from (z ∷ w ∷ xs) x r i only = absurd (omega (arith, r 0 (omega arith), only z here, only w (there here)))

module _ (space : List (List (List ℕ))) (pairs : List Pair) where
  -- a vertex of a component in no pair
  pub record IsLeft (number v : ℕ) : Type 0 where
    pub low : 1 ≤ v
    pub high : v ≤ count space 0
    pub unused : is_used pairs 0 v ≡ false
    pub component : component_of space v ≡ number

  pub left-In : (number v : ℕ) → In v (vertices_in space pairs number) → IsLeft number v
  left-In number v i =
      let k : In v (unpaired pairs 0 (count space 0)) = In-inside (λ x. eqb (component_of space x) number) (unpaired pairs 0 (count space 0)) i in
      let w = upto-In (count space 0) v (In-inside (λ c. not (is_used pairs 0 c)) (upto (count space 0)) k) in
      record {
        low = w.0;
        high = w.1;
        unused = not-true (is_used pairs 0 v) (filter-In (λ c. not (is_used pairs 0 c)) (upto (count space 0)) k);
        component = eqb-true (component_of space v) number (filter-In (λ x. eqb (component_of space x) number) (unpaired pairs 0 (count space 0)) i);
      }

  pub In-left : (number v : ℕ) → IsLeft number v → In v (vertices_in space pairs number)
  In-left number v h =
      In-filter (λ x. eqb (component_of space x) number) (In-filter (λ c. not (is_used pairs 0 c)) (In-upto (count space 0) v h.low h.high) (not_from_false (is_used pairs 0 v) h.unused)) (eq-eqb (component_of space v) number h.component)

  pub left-rises : (number : ℕ) → IsStrictlyIncreasing (vertices_in space pairs number)
  left-rises number = IsStrictlyIncreasing-filter (λ x. eqb (component_of space x) number) (unpaired pairs 0 (count space 0)) (IsStrictlyIncreasing-filter (λ c. not (is_used pairs 0 c)) (upto (count space 0)) (increasing-upto (count space 0)))

module _ (space : List (List (List ℕ))) (number : ℕ) (hs : IsSpace space) (regular : IsRegular space) (paths : SameComponentIsAPath) (pairs : List Pair) (incident : (p : Pair) → In p pairs → Incident space p) where
  -- ---- the pairs of the component

  pub In-field : (p : Pair) → In p pairs → component_at space p.dim p.lower ≡ number → In (pair_in space number p) (field_in space pairs number)
  In-field p i e = In-map (pair_in space number) (In-filter (lies_in space number) i (eq-eqb (component_at space p.dim p.lower) number e))

  pub record IsFrom (q : Pair) : Type 0 where
    pub p : Pair
    pub there : In p pairs
    pub member : MemberPair space number p
    pub is : q ≡ pair_in space number p

  pub field-In : (q : Pair) → In q (field_in space pairs number) → IsFrom q
  field-In q i =
      let r = map-In (pair_in space number) (filter (lies_in space number) pairs) i in
      let j : In r.0 pairs = In-inside (lies_in space number) pairs r.1 in
      record {
        p = r.0;
        there = j;
        member = member_pair space number hs regular paths r.0 (incident r.0 j) (eqb-true (component_at space r.0.dim r.0.lower) number (filter-In (lies_in space number) pairs r.1));
        is = r.2;
      }

  -- ---- cells in pairs

  used_to : (d c : ℕ) → IsMember space number d c → is_used pairs d c ≡ true → is_used (field_in space pairs number) d (place_in space number d c) ≡ true
  used_to d c m e =
      let s = used-some pairs d c e in
      used-In d (place_in space number d c) (In-field s.0 s.1 (used_component space hs regular paths s.0 d c number (incident s.0 s.1) s.2 m.component)) (uses_to space number hs regular paths s.0 d c s.2)

  used_from : (d c : ℕ) → IsMember space number d c → is_used (field_in space pairs number) d (place_in space number d c) ≡ true → is_used pairs d c ≡ true
  used_from d c m e =
      let s = used-some (field_in space pairs number) d (place_in space number d c) e in
      let r = field-In s.0 s.1 in
      used-In d c r.there (uses_from space number hs regular paths r.p d c r.member m (subst (λ (q : Pair). Uses q d (place_in space number d c)) r.is s.2))

  pub used_same : (d c : ℕ) → IsMember space number d c → is_used (field_in space pairs number) d (place_in space number d c) ≡ is_used pairs d c
  used_same d c m = same_bool (is_used (field_in space pairs number) d (place_in space number d c)) (is_used pairs d c) (used_from d c m) (used_to d c m)

  -- ---- paths

  leads_to : (dim last : ℕ) {f : ℕ} → IsMember space number dim f → Leads space pairs dim last f → Leads (part_of space number) (field_in space pairs number) dim (place_in space number dim last) (place_in space number dim f)
  leads_to dim last m arrived = arrived
  leads_to dim last m (along {next} p i d o h) =
      let k : MemberPair space number p = member_pair space number hs regular paths p (incident p i) (ap (λ (n : ℕ). component_at space n p.lower) d ∙ m.component) in
      let mn : IsMember space number dim next = subst (λ (n : ℕ). IsMember space number n next) d (other_member space number hs regular paths p next k o) in
      let on : In (place_in space number dim next) (others (part_of space number) (pair_in space number p)) = subst (λ (n : ℕ). In (place_in space number n next) (others (part_of space number) (pair_in space number p))) d (others_to space number hs regular paths p next k o) in
      subst (λ (n : ℕ). Leads (part_of space number) (field_in space pairs number) dim (place_in space number dim last) (place_in space number n p.lower)) d
      (along (pair_in space number p) (In-field p i k.lower.component) d on (leads_to dim last mn h))

  leads_from : (dim last : ℕ) {y : ℕ} (f : ℕ) → IsMember space number dim last → IsMember space number dim f → y ≡ place_in space number dim f
      → Leads (part_of space number) (field_in space pairs number) dim (place_in space number dim last) y → Leads space pairs dim last f
  leads_from dim last f ml m e arrived = subst (Leads space pairs dim last) (once space number hs regular paths dim last f ml m e) arrived
  leads_from dim last f ml m e (along {next} q i d o h) =
      let r = field-In q i in
      let dp : r.p.dim ≡ dim = sym (ap (λ (z : Pair). z.dim) r.is) ∙ d in
      let lower : place_in space number dim r.p.lower ≡ place_in space number dim f = ap (λ (n : ℕ). place_in space number n r.p.lower) (sym dp) ∙ (sym (ap (λ (z : Pair). z.lower) r.is) ∙ e) in
      let same : r.p.lower ≡ f = once space number hs regular paths dim r.p.lower f (subst (λ (n : ℕ). IsMember space number n r.p.lower) dp r.member.lower) m lower in
      let g = others_from space number hs regular paths r.p next r.member (subst (λ (z : Pair). In next (others (part_of space number) z)) r.is o) in
      let mg : IsMember space number dim g.0 = subst (λ (n : ℕ). IsMember space number n g.0) dp (other_member space number hs regular paths r.p g.0 r.member g.1) in
      subst (Leads space pairs dim last) same
      (along r.p r.there dp g.1 (leads_from dim last g.0 ml mg (g.2 ∙ ap (λ (n : ℕ). place_in space number n g.0) dp) h))

  pub path_to : (dim lower upper : ℕ) → IsMember space number dim lower → IsMember space number (dim + 1) upper → GradientPath space pairs dim upper lower
      → GradientPath (part_of space number) (field_in space pairs number) dim (place_in space number (dim + 1) upper) (place_in space number dim lower)
  path_to dim lower upper ml mu h =
      let m : IsMember space number dim h.first = down space number hs regular paths dim upper h.first mu h.facet in
      record {
        first = place_in space number dim h.first;
        facet = facet_to space number hs regular paths dim upper h.first mu h.facet;
        other = λ e. h.other (once space number hs regular paths dim h.first lower m ml e);
        leads = leads_to dim lower m h.leads;
      }

  pub path_from : (dim lower upper : ℕ) → IsMember space number dim lower → IsMember space number (dim + 1) upper
      → GradientPath (part_of space number) (field_in space pairs number) dim (place_in space number (dim + 1) upper) (place_in space number dim lower) → GradientPath space pairs dim upper lower
  path_from dim lower upper ml mu h =
      let r = facet_from space number hs regular paths dim upper h.first mu h.facet in
      let m : IsMember space number dim r.0 = down space number hs regular paths dim upper r.0 mu r.1 in
      record {
        first = r.0;
        facet = r.1;
        other = λ e. h.other (r.2 ∙ ap (place_in space number dim) e);
        leads = leads_from dim lower r.0 ml m r.2 h.leads;
      }

  -- ---- vertices

  pub left_to : (v : ℕ) → ((y : ℕ) → 1 ≤ y → y ≤ count (part_of space number) 0 → component_of (part_of space number) y ≡ 1) → IsLeft space pairs number v → IsLeft (part_of space number) (field_in space pairs number) 1 (place_in space number 0 v)
  left_to v one h =
      let m : IsMember space number 0 v = record { low = h.low; high = h.high; component = h.component } in
      let g = goes_to space number hs 0 v m in
      record { low = g.low; high = g.high; unused = used_same 0 v m ∙ h.unused; component = one (place_in space number 0 v) g.low g.high }

  pub left_from : (y : ℕ) → IsLeft (part_of space number) (field_in space pairs number) 1 y → (v : ℕ) × IsLeft space pairs number v × (place_in space number 0 v ≡ y)
  left_from y h =
      let k = comes_from space number 0 y h.low h.high in
      let v : ℕ = get_or (cells_in space number 0) (y - 1) 0 in (
        v,
        record {
          low = k.member.low;
          high = k.member.high;
          unused = sym (used_same 0 v k.member) ∙ (ap (is_used (field_in space pairs number) 0) k.place ∙ h.unused);
          component = k.member.component;
        },
        k.place,
      )
