-- Fields of the parts, one after another in the numbers of the whole space.
use Rattle.std.proofs.Common.{◌≡◌, inl, inr, ℕ, zero, suc, ◌+◌, ◌-◌, ◌<◌, ◌≤◌, List, [], ◌∷◌, ◌++◌, Bool, true, false, cond, filter, map, length, get_or, refl, ap, sym, ◌∙◌, subst, arith}
use Rattle.std.specs.Prelude.{⊤}
use Rattle.std.proofs.lemmas.Bool.{eq-eqb, ne_eqb}
use Rattle.std.proofs.lemmas.List.{map-append}
use Rattle.std.proofs.lemmas.List.Elements.{filter-append}
use Rattle.number_lists.specs.Members.{In, here, there}
use Rattle.number_lists.proofs.CallerLemmas.{append-In, map-In}
use Rattle.face_poset.specs.Poset.{IsSpace, facets_of}
use Rattle.face_poset.specs.declared.cells.Pair.{Pair}
use Rattle.regular_check.specs.Rules.{IsRegular}
use Rattle.regular_check.specs.Components.{SameComponentIsAPath, ComponentsAreNumbered, component_count}
use Rattle.vector_field.specs.Pairs.{pair, IsValid}
use Rattle.vector_field.specs.Maximal.{IsGood}
use Rattle.vector_field.proofs.CallerLemmas.{Incident, lined-from, incident-true, incident-from}
use Rattle.space_parts.specs.Parts.{component_at, place_in, cells_in, part_of, piece_of, whole_of}
use Rattle.space_parts.proofs.CallerLemmas.{comes_from, whole_is, all_first, place_kept}
use Rattle.part_fields.specs.Fields.{lies_in, pair_in, field_in, pair_of, joined_from, joined, field_at}
use Rattle.part_fields.specs.Laws.{AreGoodFields}
use Rattle.part_fields.proofs.Members.{MemberPair, down, facet_from, once}
use Rattle.part_fields.proofs.Wholes.{good_whole}

module _ (space : List (List (List ℕ))) (hs : IsSpace space) (regular : IsRegular space) (paths : SameComponentIsAPath) where
  -- ---- one pair of a part

  pub record IsOrigin (number : ℕ) (q p : Pair) : Type 0 where
    pub member : MemberPair space number p
    pub is : pair_in space number p ≡ q

  origin : (number : ℕ) (q : Pair) → Incident (part_of space number) q → IsOrigin number q (pair_of space number q)
  origin number q h =
      let l = comes_from space number q.dim q.lower h.first h.last in
      let u = comes_from space number (q.dim + 1) q.upper h.upper_first h.upper_last in
      let x : ℕ = get_or (cells_in space number q.dim) (q.lower - 1) 0 in
      let y : ℕ = get_or (cells_in space number (q.dim + 1)) (q.upper - 1) 0 in
      let f = facet_from space number hs regular paths q.dim y q.lower u.member (subst (λ (n : ℕ). In q.lower (facets_of (part_of space number) (q.dim + 1) n)) (sym u.place) h.facet) in
      let e : f.0 ≡ x = once space number hs regular paths q.dim f.0 x (down space number hs regular paths q.dim y f.0 u.member f.1) l.member (sym f.2 ∙ sym l.place) in
      let there : Incident space (pair q.dim x y) = record { low = h.low; first = l.member.low; last = l.member.high; upper_first = u.member.low; upper_last = u.member.high; facet = subst (λ (n : ℕ). In n (facets_of space (q.dim + 1) y)) e f.1 } in
      let lower : whole_of (piece_of space number) q.dim q.lower ≡ x = whole_is space number q.dim q.lower (omega (arith, h.low)) in
      let upper : whole_of (piece_of space number) (q.dim + 1) q.upper ≡ y = whole_is space number (q.dim + 1) q.upper (omega (arith, h.low)) in
      subst (λ (n : ℕ). IsOrigin number q (pair q.dim n (whole_of (piece_of space number) (q.dim + 1) q.upper))) (sym lower)
      (subst (λ (n : ℕ). IsOrigin number q (pair q.dim x n)) (sym upper)
      (record {
        member = record { incident = there; lower = l.member; upper = u.member };
        is = ap (λ (n : ℕ). pair q.dim n (place_in space number (q.dim + 1) y)) l.place ∙ ap (λ (n : ℕ). pair q.dim q.lower n) u.place;
      }))

  -- ---- one field

  abbrev AreThere : ℕ → List Pair → Type 0
  AreThere number field = (q : Pair) → In q field → Incident (part_of space number) q

  own : (number : ℕ) (field : List Pair) → ((q : Pair) → In q field → Incident (part_of space number) q) → field_in space (map (pair_of space number) field) number ≡ field
  own number [] h = refl
  own number (q ∷ field) h =
      let o = origin number q (h q here) in
      let yes : lies_in space number (pair_of space number q) ≡ true = eq-eqb (component_at space (pair_of space number q).dim (pair_of space number q).lower) number o.member.lower.component in
      let rest : List Pair = filter (lies_in space number) (map (pair_of space number) field) in
      ap (λ (b : Bool). map (pair_in space number) (cond b (pair_of space number q ∷ rest) rest)) yes
      ∙ (ap (λ (p : Pair). p ∷ map (pair_in space number) rest) o.is ∙ ap (λ (ps : List Pair). q ∷ ps) (own number field (λ r i. h r (there i))))

  other : (number k : ℕ) (field : List Pair) → ((q : Pair) → In q field → Incident (part_of space k) q) → (k ≡ number → ⊥) → field_in space (map (pair_of space k) field) number ≡ []
  other number k [] h ne = refl
  other number k (q ∷ field) h ne =
      let o = origin k q (h q here) in
      let not_here : lies_in space number (pair_of space k q) ≡ false = ne_eqb (component_at space (pair_of space k q).dim (pair_of space k q).lower) number (λ e. ne (sym o.member.lower.component ∙ e)) in
      let rest : List Pair = filter (lies_in space number) (map (pair_of space k) field) in
      ap (λ (b : Bool). map (pair_in space number) (cond b (pair_of space k q ∷ rest) rest)) not_here ∙ other number k field (λ r i. h r (there i)) ne

  field-append : (number : ℕ) (xs ys : List Pair) → field_in space (xs ++ ys) number ≡ field_in space xs number ++ field_in space ys number
  field-append number xs ys = ap (map (pair_in space number)) (filter-append (lies_in space number) xs ys) ∙ map-append (pair_in space number) (filter (lies_in space number) xs) (filter (lies_in space number) ys)

  -- ---- all fields

  abbrev AllThere : ℕ → List (List Pair) → Type 0
  AllThere k [] = ⊤
  AllThere k (field ∷ fields) = ((q : Pair) → In q field → Incident (part_of space k) q) × AllThere (suc k) fields

  all_there : (k : ℕ) (fields : List (List Pair)) → ((i : ℕ) → i < length fields → (q : Pair) → In q (get_or fields i []) → Incident (part_of space (k + i)) q) → AllThere k fields
  all_there k [] h = tt
  all_there k (field ∷ fields) h = (
    λ q i. let e : k + 0 ≡ k = omega arith in subst (λ (n : ℕ). Incident (part_of space n) q) e (h 0 (omega arith) q i),
    all_there (suc k) fields (λ i l q j. let e : k + suc i ≡ suc k + i = omega arith in subst (λ (n : ℕ). Incident (part_of space n) q) e (h (suc i) (omega arith) q j)),
  )

  none_below : (k : ℕ) (fields : List (List Pair)) (number : ℕ) → AllThere k fields → number < k → field_in space (joined_from space k fields) number ≡ []
  none_below k [] number h l = refl
  none_below k (field ∷ fields) number h l =
      field-append number (map (pair_of space k) field) (joined_from space (suc k) fields)
      ∙ (ap (λ (ps : List Pair). ps ++ field_in space (joined_from space (suc k) fields) number) (other number k field h.0 (λ e. absurd (omega (arith, e, l)))) ∙ none_below (suc k) fields number h.1 (omega arith))

  none_after : (ps : List Pair) → ps ++ [] ≡ ps
  none_after [] = refl
  none_after (p ∷ ps) = ap (λ (qs : List Pair). p ∷ qs) (none_after ps)

  apart_at : (k : ℕ) (fields : List (List Pair)) (i : ℕ) → AllThere k fields → i < length fields → field_in space (joined_from space k fields) (k + i) ≡ get_or fields i []
  apart_at k [] i h l = absurd (omega (arith, l))
  apart_at k (field ∷ fields) zero h l =
      let e : k + 0 ≡ k = omega arith in
      ap (field_in space (joined_from space k (field ∷ fields))) e
      ∙ (field-append k (map (pair_of space k) field) (joined_from space (suc k) fields)
      ∙ (ap (λ (ps : List Pair). ps ++ field_in space (joined_from space (suc k) fields) k) (own k field h.0) ∙ (ap (λ (ps : List Pair). field ++ ps) (none_below (suc k) fields k h.1 (omega arith)) ∙ none_after field)))
  apart_at k (field ∷ fields) (suc i) h l =
      let e : k + suc i ≡ suc k + i = omega arith in
      ap (field_in space (joined_from space k (field ∷ fields))) e
      ∙ (field-append (suc k + i) (map (pair_of space k) field) (joined_from space (suc k) fields)
      ∙ (ap (λ (ps : List Pair). ps ++ field_in space (joined_from space (suc k) fields) (suc k + i)) (other (suc k + i) k field h.0 (λ q. absurd (omega (arith, q)))) ∙ apart_at (suc k) fields i h.1 (omega (arith, l))))

  joined_there : (k : ℕ) (fields : List (List Pair)) → AllThere k fields → (p : Pair) → In p (joined_from space k fields) → Incident space p
  joined_there k [] h p i = elim i [ ]
  joined_there k (field ∷ fields) h p i =
      elim (append-In (map (pair_of space k) field) (joined_from space (suc k) fields) i) [
        | inl j ↦ let r = map-In (pair_of space k) field j in subst (Incident space) (sym r.2) (origin k r.0 (h.0 r.0 r.1)).member.incident
        | inr j ↦ joined_there (suc k) fields h.1 p j
      ]

  given : (fields : List (List Pair)) → AreGoodFields space fields → AllThere 1 fields
  given fields h =
      all_there 1 fields
      (λ i l q j.
      let e : 1 + i - 1 ≡ i = omega arith in
      let good : IsGood (part_of space (1 + i)) (get_or fields i []) = subst (λ (n : ℕ). IsGood (part_of space (1 + i)) (get_or fields n [])) e (h.good (1 + i) (omega arith) (omega (arith, l, h.each))) in
      incident-true (part_of space (1 + i)) q ((lined-from (part_of space (1 + i)) (get_or fields i []) good.valid).incident q j))

pub fields_apart : (space : List (List (List ℕ))) → SameComponentIsAPath → (fields : List (List Pair)) (number : ℕ) → IsSpace space → IsRegular space → AreGoodFields space fields → 1 ≤ number → number ≤ component_count space
    → field_in space (joined space fields) number ≡ field_at fields number
fields_apart space paths fields number hs regular h low high =
    let e : 1 + (number - 1) ≡ number = omega (arith, low) in
    ap (field_in space (joined space fields)) (sym e) ∙ apart_at space hs regular paths 1 fields (number - 1) (given space hs regular paths fields h) (omega (arith, low, high, h.each))

pub fields_together : (space : List (List (List ℕ))) → SameComponentIsAPath → ComponentsAreNumbered → (fields : List (List Pair)) → IsSpace space → IsRegular space → AreGoodFields space fields → IsGood space (joined space fields)
fields_together space paths numbered fields hs regular h =
    good_whole space paths numbered (joined space fields) hs regular
    (record {
      incident = λ p i. incident-from space p (joined_there space hs regular paths 1 fields (given space hs regular paths fields h) p i);
      good = λ number low high. subst (IsGood (part_of space number)) (sym (fields_apart space paths fields number hs regular h low high)) (h.good number low high);
    })

-- ---- one component

pub pairs_kept : (space : List (List (List ℕ))) → ComponentsAreNumbered → (pairs : List Pair) → IsSpace space → component_count space ≡ 1 → IsValid space pairs → field_in space pairs 1 ≡ pairs
pairs_kept space numbered pairs hs one valid = kept pairs (λ p i. incident-true space p ((lined-from space pairs valid).incident p i))
  where
    kept : (ps : List Pair) → ((p : Pair) → In p ps → Incident space p) → field_in space ps 1 ≡ ps
    kept [] h = refl
    kept (p ∷ ps) h =
        let k : Incident space p = h p here in
        let yes : lies_in space 1 p ≡ true = eq-eqb (component_at space p.dim p.lower) 1 (all_first space hs numbered one p.dim p.lower k.first k.last) in
        let is : pair_in space 1 p ≡ p =
        ap (λ (n : ℕ). pair p.dim n (place_in space 1 (p.dim + 1) p.upper)) (place_kept space hs numbered one p.dim p.lower k.last)
        ∙ ap (λ (n : ℕ). pair p.dim p.lower n) (place_kept space hs numbered one (p.dim + 1) p.upper k.upper_last) in
        let rest : List Pair = filter (lies_in space 1) ps in
        ap (λ (b : Bool). map (pair_in space 1) (cond b (p ∷ rest) rest)) yes ∙ (ap (λ (q : Pair). q ∷ map (pair_in space 1) rest) is ∙ ap (λ (qs : List Pair). p ∷ qs) (kept ps (λ q i. h q (there i))))
