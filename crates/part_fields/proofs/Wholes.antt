-- A field is good exactly where it is good in each part.
use Rattle.std.proofs.Common.{◌≡◌, ℕ, ◌+◌, ◌-◌, ◌≤◌, List, [], ◌∷◌, Bool, true, false, cond, filter, map, length, get_or, refl, ap, sym, ◌∙◌, subst, arith, inl, inr}
use Rattle.std.proofs.lemmas.Bool.{eq-eqb, eqb-false, cases_Bool, eqb-true}
use Rattle.number_lists.specs.Members.{In, here, there}
use Rattle.number_lists.proofs.CallerLemmas.{map-In, In-map, In-filter}
use Rattle.face_poset.specs.Poset.{IsSpace, count, facets_of}
use Rattle.face_poset.specs.declared.cells.Pair.{Pair}
use Rattle.regular_check.specs.Rules.{IsRegular}
use Rattle.regular_check.specs.Components.{SameComponentIsAPath, ComponentsAreNumbered, component_of, component_count}
use Rattle.vector_field.specs.Pairs.{pair, is_used, is_incident}
use Rattle.vector_field.specs.Paths.{GradientPath}
use Rattle.vector_field.specs.Maximal.{IsGood, vertices_in}
use Rattle.vector_field.proofs.CallerLemmas.{Lined, lined-filter, Goes, lined-from, valid-from, Incident, incident-true, incident-from}
use Rattle.space_parts.specs.Parts.{component_at, place_in, cells_in, part_of}
use Rattle.space_parts.proofs.CallerLemmas.{comes_from, component_in, part_whole}
use Rattle.part_fields.specs.Fields.{lies_in, pair_in, field_in}
use Rattle.part_fields.specs.Laws.{AreGoodParts}
use Rattle.part_fields.proofs.Members.{same_component, MemberPair, member_pair, facet_to, facet_from, once, incident_in, goes_in, goes_out, goes_across}
use Rattle.part_fields.proofs.InParts.{one_some, one_same, one_from, IsLeft, left-In, In-left, left-rises, field-In, used_same, path_to, path_from, left_to, left_from}

-- a list in which each member stands so to each later one, mapped
lined-map : {A B : Type 0} (R : A → A → Type 0) (S : B → B → Type 0) (f : A → B) (xs : List A) → Lined R xs → ((x y : A) → In x xs → In y xs → R x y → S (f x) (f y)) → Lined S (map f xs)
lined-map R S f [] h to = tt
lined-map {A} {B} R S f (x ∷ xs) h to =
    ((λ y i. let r = map-In f xs i in subst (S (f x)) (sym r.2) (to x r.0 here (there r.1) (h.0 r.0 r.1))), lined-map R S f xs h.1 (λ a b i j. to a b (there i) (there j)))

module _ (space : List (List (List ℕ))) (hs : IsSpace space) (regular : IsRegular space) (paths : SameComponentIsAPath) (numbered : ComponentsAreNumbered) (pairs : List Pair) (incident : (p : Pair) → In p pairs → Incident space p) where
  one : (number : ℕ) → 1 ≤ number → number ≤ component_count space → (y : ℕ) → 1 ≤ y → y ≤ count (part_of space number) 0 → component_of (part_of space number) y ≡ 1
  one number low high y a b =
      let w = (numbered (part_of space number)).within y a b in
      omega (arith, w.0, w.1, (part_whole space number hs regular paths numbered low high).one)

  -- ---- from the whole to the parts

  in_part : (number : ℕ) → 1 ≤ number → number ≤ component_count space → IsGood space pairs → IsGood (part_of space number) (field_in space pairs number)
  in_part number low high good =
      record {
        valid = valid-from (part_of space number) (field_in space pairs number)
            (record {
              incident = λ q i. (let r = field-In space number hs regular paths pairs incident q i in subst (λ (z : Pair). is_incident (part_of space number) z ≡ true) (sym r.is) (incident-from (part_of space number) (pair_in space number r.p) (incident_in space number hs regular paths r.p r.member)));
              lined = order pairs incident (lined-from space pairs good.valid).lined;
            });
        maximal = λ dim lower upper i unused free.
            let h = incident-true (part_of space number) (pair dim lower upper) i in
            let l = comes_from space number dim lower h.first h.last in
            let u = comes_from space number (dim + 1) upper h.upper_first h.upper_last in
            let x : ℕ = get_or (cells_in space number dim) (lower - 1) 0 in
            let y : ℕ = get_or (cells_in space number (dim + 1)) (upper - 1) 0 in
            let f = facet_from space number hs regular paths dim y lower u.member (subst (λ (n : ℕ). In lower (facets_of (part_of space number) (dim + 1) n)) (sym u.place) h.facet) in
            let m = Rattle.part_fields.proofs.Members.down space number hs regular paths dim y f.0 u.member f.1 in
            let e : f.0 ≡ x = once space number hs regular paths dim f.0 x m l.member (sym f.2 ∙ sym l.place) in
            let there : Incident space (pair dim x y) = record { low = h.low; first = l.member.low; last = l.member.high; upper_first = u.member.low; upper_last = u.member.high; facet = subst (λ (n : ℕ). In n (facets_of space (dim + 1) y)) e f.1 } in
            let p : GradientPath space pairs dim y x =
            good.maximal dim x y (incident-from space (pair dim x y) there) (sym (used_same space number hs regular paths pairs incident dim x l.member) ∙ (ap (is_used (field_in space pairs number) dim) l.place ∙ unused))
            (sym (used_same space number hs regular paths pairs incident (dim + 1) y u.member) ∙ (ap (is_used (field_in space pairs number) (dim + 1)) u.place ∙ free)) in
            subst (λ (n : ℕ). GradientPath (part_of space number) (field_in space pairs number) dim n lower) u.place
            (subst (λ (n : ℕ). GradientPath (part_of space number) (field_in space pairs number) dim (place_in space number (dim + 1) y) n) l.place (path_to space number hs regular paths pairs incident dim x y l.member u.member p));
        vertex = λ k a b.
            let is : k ≡ 1 = omega (arith, a, b, (part_whole space number hs regular paths numbered low high).one) in
            let some = one_some (vertices_in space pairs number) (good.vertex number low high) in
            let v : IsLeft space pairs number some.0 = left-In space pairs number some.0 some.1 in
            subst (λ (n : ℕ). length (vertices_in (part_of space number) (field_in space pairs number) n) ≡ 1) (sym is)
            (one_from (vertices_in (part_of space number) (field_in space pairs number) 1) (place_in space number 0 some.0) (left-rises (part_of space number) (field_in space pairs number) 1)
            (In-left (part_of space number) (field_in space pairs number) 1 (place_in space number 0 some.0) (left_to space number hs regular paths pairs incident some.0 (one number low high) v))
            (λ y i.
            let r = left_from space number hs regular paths pairs incident y (left-In (part_of space number) (field_in space pairs number) 1 y i) in
            sym r.2 ∙ ap (place_in space number 0) (one_same (vertices_in space pairs number) r.0 some.0 (good.vertex number low high) (In-left space pairs number r.0 r.1) some.1)));
      }
    where
      order : (ps : List Pair) → ((p : Pair) → In p ps → Incident space p) → Lined (Goes space) ps → Lined (Goes (part_of space number)) (field_in space ps number)
      order ps inc h =
          lined-map (Goes space) (Goes (part_of space number)) (pair_in space number) (filter (lies_in space number) ps) (lined-filter (Goes space) (lies_in space number) ps h)
          (λ p q i j g. goes_in space number hs regular paths p q (member p i) (member q j) g)
        where
          member : (p : Pair) → In p (filter (lies_in space number) ps) → MemberPair space number p
          member p i =
              member_pair space number hs regular paths p (inc p (Rattle.number_lists.proofs.CallerLemmas.In-inside (lies_in space number) ps i))
              (eqb-true (component_at space p.dim p.lower) number (Rattle.number_lists.proofs.CallerLemmas.filter-In (lies_in space number) ps i))

  -- ---- from the parts to the whole

  module _ (good : (number : ℕ) → 1 ≤ number → number ≤ component_count space → IsGood (part_of space number) (field_in space pairs number)) where
    Each : List Pair → Type 0
    Each ps = (number : ℕ) → 1 ≤ number → number ≤ component_count space → Lined (Goes (part_of space number)) (field_in space ps number)

    order_whole : (ps : List Pair) → ((p : Pair) → In p ps → Incident space p) → ((number : ℕ) → 1 ≤ number → number ≤ component_count space → Lined (Goes (part_of space number)) (field_in space ps number)) → Lined (Goes space) ps
    order_whole [] inc h = tt
    order_whole (p ∷ ps) inc h = (
      (λ q i. elim (cases_Bool (lies_in space (component_at space q.dim q.lower) p)) [
        | inl e ↦ same q i (eqb-true (component_at space p.dim p.lower) (component_at space q.dim q.lower) e)
        | inr e ↦ goes_across space hs regular paths p q (inc p here) (inc q (there i)) (eqb-false (component_at space p.dim p.lower) (component_at space q.dim q.lower) e)
      ]),
      order_whole ps (λ q i. inc q (there i)) (λ number low high. tail (lies_in space number p) number (h number low high)),
    )
      where
        tail : (b : Bool) (number : ℕ) → Lined (Goes (part_of space number)) (map (pair_in space number) (cond b (p ∷ filter (lies_in space number) ps) (filter (lies_in space number) ps))) → Lined (Goes (part_of space number)) (field_in space ps number)
        tail true number k = k.1
        tail false number k = k

        same : (q : Pair) → In q ps → component_at space p.dim p.lower ≡ component_at space q.dim q.lower → Goes space p q
        same q i e =
            let n : ℕ = component_at space p.dim p.lower in
            let w = component_in space hs numbered p.dim p.lower (inc p here).first (inc p here).last in
            let yes : lies_in space n p ≡ true = eq-eqb (component_at space p.dim p.lower) n refl in
            let all : Lined (Goes (part_of space n)) (map (pair_in space n) (p ∷ filter (lies_in space n) ps)) =
            subst (λ (b : Bool). Lined (Goes (part_of space n)) (map (pair_in space n) (cond b (p ∷ filter (lies_in space n) ps) (filter (lies_in space n) ps)))) yes (h n w.0 w.1) in
            let j : In (pair_in space n q) (field_in space ps n) = In-map (pair_in space n) (In-filter (lies_in space n) i (eq-eqb (component_at space q.dim q.lower) n (sym e))) in
            goes_out space n hs regular paths p q (member_pair space n hs regular paths p (inc p here) refl) (member_pair space n hs regular paths q (inc q (there i)) (sym e)) (all.0 (pair_in space n q) j)

    whole : IsGood space pairs
    whole =
        record {
          valid = valid-from space pairs
              (record {
                incident = λ p i. incident-from space p (incident p i);
                lined = order_whole pairs incident (λ number low high. (lined-from (part_of space number) (field_in space pairs number) (good number low high).valid).lined);
              });
          maximal = λ dim lower upper i unused free.
              let h = incident-true space (pair dim lower upper) i in
              let n : ℕ = component_at space dim lower in
              let w = component_in space hs numbered dim lower h.first h.last in
              let m : MemberPair space n (pair dim lower upper) = member_pair space n hs regular paths (pair dim lower upper) h refl in
              let p : GradientPath (part_of space n) (field_in space pairs n) dim (place_in space n (dim + 1) upper) (place_in space n dim lower) =
              (good n w.0 w.1).maximal dim (place_in space n dim lower) (place_in space n (dim + 1) upper)
              (incident-from (part_of space n) (pair dim (place_in space n dim lower) (place_in space n (dim + 1) upper)) (incident_in space n hs regular paths (pair dim lower upper) m))
              (used_same space n hs regular paths pairs incident dim lower m.lower ∙ unused) (used_same space n hs regular paths pairs incident (dim + 1) upper m.upper ∙ free) in
              path_from space n hs regular paths pairs incident dim lower upper m.lower m.upper p;
          vertex = λ number low high.
              let only : length (vertices_in (part_of space number) (field_in space pairs number) 1) ≡ 1 = (good number low high).vertex 1 (omega arith) (omega (arith, (part_whole space number hs regular paths numbered low high).one)) in
              let some = one_some (vertices_in (part_of space number) (field_in space pairs number) 1) only in
              let r = left_from space number hs regular paths pairs incident some.0 (left-In (part_of space number) (field_in space pairs number) 1 some.0 some.1) in
              one_from (vertices_in space pairs number) r.0 (left-rises space pairs number) (In-left space pairs number r.0 r.1)
              (λ v i.
              let k : IsLeft space pairs number v = left-In space pairs number v i in
              let t : IsLeft (part_of space number) (field_in space pairs number) 1 (place_in space number 0 v) = left_to space number hs regular paths pairs incident v (one number low high) k in
              let e : place_in space number 0 v ≡ place_in space number 0 r.0 = one_same (vertices_in (part_of space number) (field_in space pairs number) 1) (place_in space number 0 v) some.0 only (In-left (part_of space number) (field_in space pairs number) 1 (place_in space number 0 v) t) some.1 ∙ sym r.2 in
              once space number hs regular paths 0 v r.0 (record { low = k.low; high = k.high; component = k.component }) (record { low = r.1.low; high = r.1.high; component = r.1.component }) e);
        }

pub good_in_each : (space : List (List (List ℕ))) → SameComponentIsAPath → ComponentsAreNumbered → (pairs : List Pair) → IsSpace space → IsRegular space → IsGood space pairs → AreGoodParts space pairs
good_in_each space paths numbered pairs hs regular good =
    let lined = lined-from space pairs good.valid in
    record { incident = lined.incident; good = λ number low high. in_part space hs regular paths numbered pairs (λ p i. incident-true space p (lined.incident p i)) number low high good }

pub good_whole : (space : List (List (List ℕ))) → SameComponentIsAPath → ComponentsAreNumbered → (pairs : List Pair) → IsSpace space → IsRegular space → AreGoodParts space pairs → IsGood space pairs
good_whole space paths numbered pairs hs regular h = whole space hs regular paths numbered pairs (λ p i. incident-true space p (h.incident p i)) h.good
