-- A valid field of a signed set is a matching between each two dimensions.
use Rattle.std.proofs.Common.{◌≡◌, ◌≢◌, ◌⊎◌, inl, inr, ℕ, suc, ◌+◌, ◌-◌, ◌≤◌, ◌<◌, List, [], ◌∷◌, ◌++◌, Bool, true, false, cond, ◌&&◌, not, nat_lt, nat_le, eqb, filter, length, map, get_or, refl, ap, sym, ◌∙◌, arith, subst}
use Rattle.std.specs.List.{AllByRecursion}
use Rattle.std.proofs.lemmas.Bool.{false≢true, eqb-true, eq-eqb, and_parts, not_from_false, leb-true, ltb-true, cases_eq, ne_eqb}
use Rattle.std.proofs.lemmas.List.FromFn.{length-map-range_with_len, get_or-map-range_with_len}
use Rattle.small_field.specs.Field.{Ops, IsField}
use Rattle.small_field.proofs.CallerLemmas.{neg_neg, neg_zero, zero_below}
use Rattle.linear_laws.specs.Vectors.{entry, IsVector, IsMatrix}
use Rattle.face_poset.specs.declared.cells.Pair.{Pair}
use Rattle.face_poset.specs.Words.{upto, holds}
use Rattle.face_poset.specs.Poset.{Layers, count, facets_of}
use Rattle.number_lists.proofs.CallerLemmas.{length-upto, In-cases, In-filter, any-none}
use Rattle.vector_field.specs.Pairs.{pair, is_incident, IsValid}
use Rattle.number_lists.specs.Members.{In, here, there}
use Rattle.vector_field.proofs.CallerLemmas.{Lined, lined-two, Goes, lined-from, unused-In}
use Rattle.split_laws.specs.declared.kind.Kind.{Kind}
use Rattle.split_laws.specs.declared.kind.Kind.TheVariants.{Critical, Lower, Upper}
use Rattle.split_laws.specs.declared.matching.Match.{Match}
use Rattle.split_laws.specs.Kinds.{HasNoUpper}
use Rattle.split_laws.specs.Pairs.{Triangular, HasLower, HasUpper, IsMatching, kind_at}
use Rattle.pair_stages.specs.Stages.{Stage, IsPaired, empty_stage}
use Rattle.pair_stages.specs.Splits.{IsReductionOf, IsSplitting, stage_at}
use Rattle.std.proofs.lemmas.List.{length-append, get_or_append_left}
use Rattle.std.proofs.Math.Seq.{get_or-append_seam}
use Rattle.pair_stages.proofs.KindLemmas.{critical_no_lower, critical_no_upper, lower_no_upper, upper_no_lower}
use Rattle.pair_stages.proofs.SignedLemmas.{sign_below}
use Rattle.pair_stages.specs.Signed.{AreDegrees}
use Rattle.pair_stages.specs.Signed.{sign_element, signed_entry, signed_rows, match_of, matches_of, IsKind, AreKinds, IsStageOf}

-- ---- pairs of one dimension

module _ (dim : ℕ) where
  all_matches : (P : Match → Type 0) (ps : List Pair) → ((p : Pair) → In p ps → p.dim ≡ dim → P (match_of p)) → AllByRecursion P (matches_of ps dim)
  all_matches P [] h = tt
  all_matches P (p ∷ ps) h = by (eqb p.dim dim) refl (all_matches P ps (λ q m. h q (there m)))
    where
      by : (b : Bool) → eqb p.dim dim ≡ b → AllByRecursion P (matches_of ps dim) → AllByRecursion P (map match_of (cond b (p ∷ filter (λ (q : Pair). eqb q.dim dim) ps) (filter (λ (q : Pair). eqb q.dim dim) ps)))
      by true e r = (h p here (eqb-true p.dim dim e), r)
      by false e r = r

  lower_in : (ps : List Pair) (p : Pair) (i : ℕ) → In p ps → p.dim ≡ dim → p.lower - 1 ≡ i → HasLower (matches_of ps dim) i
  lower_in [] p i m d e = elim m [ ]
  lower_in (q ∷ ps) p i m d e = by (eqb q.dim dim) refl (In-cases m) (λ n. lower_in ps p i n d e)
    where
      by : (b : Bool) → eqb q.dim dim ≡ b → (p ≡ q) ⊎ In p ps → (In p ps → HasLower (matches_of ps dim) i) → HasLower (map match_of (cond b (q ∷ filter (λ (r : Pair). eqb r.dim dim) ps) (filter (λ (r : Pair). eqb r.dim dim) ps))) i
      by true g (inl s) r = inl (ap (λ (r : Pair). r.lower - 1) (sym s) ∙ e)
      by true g (inr n) r = inr (r n)
      by false g (inl s) r = absurd (false≢true (sym g ∙ eq-eqb q.dim dim (ap (λ (r : Pair). r.dim) (sym s) ∙ d)))
      by false g (inr n) r = r n

  upper_in : (ps : List Pair) (p : Pair) (i : ℕ) → In p ps → p.dim ≡ dim → p.upper - 1 ≡ i → HasUpper (matches_of ps dim) i
  upper_in [] p i m d e = elim m [ ]
  upper_in (q ∷ ps) p i m d e = by (eqb q.dim dim) refl (In-cases m) (λ n. upper_in ps p i n d e)
    where
      by : (b : Bool) → eqb q.dim dim ≡ b → (p ≡ q) ⊎ In p ps → (In p ps → HasUpper (matches_of ps dim) i) → HasUpper (map match_of (cond b (q ∷ filter (λ (r : Pair). eqb r.dim dim) ps) (filter (λ (r : Pair). eqb r.dim dim) ps))) i
      by true g (inl s) r = inl (ap (λ (r : Pair). r.upper - 1) (sym s) ∙ e)
      by true g (inr n) r = inr (r n)
      by false g (inl s) r = absurd (false≢true (sym g ∙ eq-eqb q.dim dim (ap (λ (r : Pair). r.dim) (sym s) ∙ d)))
      by false g (inr n) r = r n

record Incident (space : Layers) (p : Pair) : Type 0 where
  small : p.dim < 3
  low : 1 ≤ p.lower
  high : p.lower ≤ count space p.dim
  low_up : 1 ≤ p.upper
  high_up : p.upper ≤ count space (p.dim + 1)
  facet : holds (facets_of space (p.dim + 1) p.upper) p.lower ≡ true

incident : (space : Layers) (p : Pair) → is_incident space p ≡ true → Incident space p
incident space p h =
    let a = and_parts (nat_lt p.dim 3) (nat_le 1 p.lower && (nat_le p.lower (count space p.dim) && (nat_le 1 p.upper && (nat_le p.upper (count space (p.dim + 1)) && holds (facets_of space (p.dim + 1) p.upper) p.lower)))) h in
    let b = and_parts (nat_le 1 p.lower) (nat_le p.lower (count space p.dim) && (nat_le 1 p.upper && (nat_le p.upper (count space (p.dim + 1)) && holds (facets_of space (p.dim + 1) p.upper) p.lower))) a.1 in
    let c = and_parts (nat_le p.lower (count space p.dim)) (nat_le 1 p.upper && (nat_le p.upper (count space (p.dim + 1)) && holds (facets_of space (p.dim + 1) p.upper) p.lower)) b.1 in
    let d = and_parts (nat_le 1 p.upper) (nat_le p.upper (count space (p.dim + 1)) && holds (facets_of space (p.dim + 1) p.upper) p.lower) c.1 in
    let e = and_parts (nat_le p.upper (count space (p.dim + 1))) (holds (facets_of space (p.dim + 1) p.upper) p.lower) d.1 in
    record { small = ltb-true p.dim 3 a.0; low = leb-true 1 p.lower b.0; high = leb-true p.lower (count space p.dim) c.0; low_up = leb-true 1 p.upper d.0; high_up = leb-true p.upper (count space (p.dim + 1)) e.0; facet = e.1 }

module _ (F : Ops) (L : IsField F) (space : Layers) (negative : ℕ → ℕ → ℕ → Bool) (dim : ℕ) where
  rows : List (List ℕ)
  rows = signed_rows F space negative dim

  pub rows_long : length (signed_rows F space negative dim) ≡ count space dim
  rows_long = length-map-range_with_len (λ lower. map (signed_entry F space negative dim lower) (upto (count space (dim + 1)))) 1 (count space dim)

  entry_at : (l u : ℕ) → 1 ≤ l → l ≤ count space dim → 1 ≤ u → u ≤ count space (dim + 1) → entry (signed_rows F space negative dim) (l - 1) (u - 1) ≡ signed_entry F space negative dim l u
  entry_at l u a b c d =
      ap (λ (r : List ℕ). get_or r (u - 1) 0) (get_or-map-range_with_len (λ lower. map (signed_entry F space negative dim lower) (upto (count space (dim + 1)))) 1 (count space dim) (l - 1) l [] (omega arith) (omega arith))
      ∙ get_or-map-range_with_len (signed_entry F space negative dim l) 1 (count space (dim + 1)) (u - 1) u 0 (omega arith) (omega arith)

  sign_some : (b : Bool) → sign_element F b ≢ 0
  sign_some true e = one_is_none (sym (neg_neg F L 1 L.one_below) ∙ (ap F.neg e ∙ neg_zero F L))
    where
      one_is_none : ◌≡◌ {A = ℕ} 1 0 → ⊥
      one_is_none z = omega (arith, z)
  sign_some false e = omega (arith, e)

  entry_below : (l u : ℕ) → signed_entry F space negative dim l u < F.size
  entry_below l u = by (holds (facets_of space (dim + 1) u) l)
    where
      by : (b : Bool) → cond b (sign_element F (negative (dim + 1) u l)) 0 < F.size
      by true = sign_below F L (negative (dim + 1) u l)
      by false = zero_below F L

  row_vector : (l : ℕ) (xs : List ℕ) (n : ℕ) → length xs ≡ n → IsVector F n (map (signed_entry F space negative dim l) xs)
  row_vector l [] n e = record { long = e; elements = tt }
  row_vector l (x ∷ xs) n e = let r = row_vector l xs (length xs) refl in record { long = ap suc r.long ∙ e; elements = (entry_below l x, r.elements) }

  rows_vectors : (xs : List ℕ) → IsMatrix F (count space (dim + 1)) (map (λ lower. map (signed_entry F space negative dim lower) (upto (count space (dim + 1)))) xs)
  rows_vectors [] = tt
  rows_vectors (x ∷ xs) = (row_vector x (upto (count space (dim + 1))) (count space (dim + 1)) (length-upto (count space (dim + 1))), rows_vectors xs)

  pub rows_matrix : IsMatrix F (count space (dim + 1)) (signed_rows F space negative dim)
  rows_matrix = rows_vectors (upto (count space dim))

  -- the lower of a later pair is no facet of the upper of an earlier one
  apart_entry : (p q : Pair) → Goes space p q → p.dim ≡ dim → q.dim ≡ dim → holds (facets_of space (dim + 1) p.upper) q.lower ≡ false
  apart_entry p q g dp dq =
      any-none (λ y. eqb y q.lower) (facets_of space (dim + 1) p.upper)
      (λ f m e.
      let is : f ≡ q.lower = eqb-true f q.lower e in
      let same : q.dim ≡ p.dim = dq ∙ sym dp in
      let there_in : In q.lower (facets_of space (p.dim + 1) p.upper) = subst (λ (z : ℕ). In z (facets_of space (p.dim + 1) p.upper)) is (subst (λ (d : ℕ). In f (facets_of space (d + 1) p.upper)) (sym dp) m) in
      g.free same (In-filter (λ z. not (eqb z p.lower)) there_in (not_from_false (eqb q.lower p.lower) (ne_eqb q.lower p.lower (λ z. g.apart.0 (inl (sym same, sym z)))))))

  triangular : (ps : List Pair) → ((p : Pair) → In p ps → Incident space p) → Lined (Goes space) ps → Triangular (signed_rows F space negative dim) (matches_of ps dim)
  triangular [] h l = tt
  triangular (p ∷ ps) h l = by (eqb p.dim dim) refl (triangular ps (λ q m. h q (there m)) l.1)
    where
      by : (b : Bool) → eqb p.dim dim ≡ b → Triangular (signed_rows F space negative dim) (matches_of ps dim) → Triangular (signed_rows F space negative dim) (map match_of (cond b (p ∷ filter (λ (q : Pair). eqb q.dim dim) ps) (filter (λ (q : Pair). eqb q.dim dim) ps)))
      by false e r = r
      by true e r =
          let d : p.dim ≡ dim = eqb-true p.dim dim e in
          let i : Incident space p = h p here in
          let high : p.lower ≤ count space dim = subst (λ (k : ℕ). p.lower ≤ count space k) d i.high in
          let high_up : p.upper ≤ count space (dim + 1) = subst (λ (k : ℕ). p.upper ≤ count space (k + 1)) d i.high_up in
          let facet : holds (facets_of space (dim + 1) p.upper) p.lower ≡ true = subst (λ (k : ℕ). holds (facets_of space (k + 1) p.upper) p.lower ≡ true) d i.facet in
          let low : 1 ≤ p.lower = i.low in
          let below : p.lower - 1 < count space dim = omega arith in (
            subst (λ (n : ℕ). p.lower - 1 < n) (sym rows_long) below,
            (λ z. sign_some (negative (dim + 1) p.upper p.lower) (sym (entry_at p.lower p.upper i.low high i.low_up high_up ∙ ap (λ (b : Bool). cond b (sign_element F (negative (dim + 1) p.upper p.lower)) 0) facet) ∙ z)),
            all_matches dim (λ q. entry (signed_rows F space negative dim) q.lower (p.upper - 1) ≡ 0) ps
                (λ q m dq.
                let j : Incident space q = h q (there m) in
                entry_at q.lower p.upper j.low (subst (λ (k : ℕ). q.lower ≤ count space k) dq j.high) i.low_up high_up
                ∙ ap (λ (b : Bool). cond b (sign_element F (negative (dim + 1) p.upper q.lower)) 0) (apart_entry p q (l.0 q m) d dq)),
            r,
          )

  module _ (pairs : List Pair) (V : IsValid space pairs) where
    fact : (p : Pair) → In p pairs → Incident space p
    fact p m = incident space p ((lined-from space pairs V).incident p m)

    -- a cell is not both a lower and an upper
    conflict : (p q : Pair) → In p pairs → In q pairs → p.dim ≡ q.dim + 1 → p.lower ≡ q.upper → ⊥
    conflict p q m n d e =
        elim (lined-two (Goes space) pairs (lined-from space pairs V).lined p q m n) [
          | inl s ↦ let g : p.dim ≡ q.dim = ap (λ (r : Pair). r.dim) s in omega (arith, d, g)
          | inr (inl g) ↦ g.apart.1 (inl (d, e))
          | inr (inr g) ↦ g.apart.0 (inr (sym d, sym e))
        ]

    lower_or : (i : ℕ) (k : Kind) → IsKind pairs dim (i + 1) k → AllByRecursion (λ (q : Match). i ≢ q.lower) (matches_of pairs dim) ⊎ (k ≡ Lower)
    lower_or i Critical h =
        inl (all_matches dim (λ (q : Match). i ≢ q.lower) pairs (λ p m d e. unused-In dim (i + 1) h m (inl (d, let low : 1 ≤ p.lower = (fact p m).low in omega (arith, e)))))
    lower_or i Lower h = inr refl
    lower_or i Upper h =
        inl (all_matches dim (λ (q : Match). i ≢ q.lower) pairs
        (λ p m d e. conflict p (pair h.0 h.1 (i + 1)) m h.3 (d ∙ h.2) (let low : 1 ≤ p.lower = (fact p m).low in omega (arith, e))))

    upper_or : (j : ℕ) (k : Kind) → IsKind pairs (dim + 1) (j + 1) k → AllByRecursion (λ (q : Match). j ≢ q.upper) (matches_of pairs dim) ⊎ (k ≡ Upper)
    upper_or j Critical h =
        inl (all_matches dim (λ (q : Match). j ≢ q.upper) pairs (λ p m d e. unused-In (dim + 1) (j + 1) h m (inr (ap (λ (n : ℕ). n + 1) d, let low : 1 ≤ p.upper = (fact p m).low_up in omega (arith, e)))))
    upper_or j Upper h = inr refl
    upper_or j Lower h =
        inl (all_matches dim (λ (q : Match). j ≢ q.upper) pairs
        (λ p m d e. conflict (pair (dim + 1) (j + 1) h.0) p h.1 m (ap (λ (n : ℕ). n + 1) (sym d)) (let low : 1 ≤ p.upper = (fact p m).low_up in omega (arith, e))))

    has_lower : (i : ℕ) (k : Kind) → IsKind pairs dim (i + 1) k → k ≡ Lower → HasLower (matches_of pairs dim) i
    has_lower i Critical h e = absurd (critical_no_lower e)
    has_lower i Lower h e = lower_in dim pairs (pair dim (i + 1) h.0) i h.1 refl (omega arith)
    has_lower i Upper h e = absurd (upper_no_lower e)

    has_upper : (j : ℕ) (k : Kind) → IsKind pairs (dim + 1) (j + 1) k → k ≡ Upper → HasUpper (matches_of pairs dim) j
    has_upper j Critical h e = absurd (critical_no_upper e)
    has_upper j Lower h e = absurd (lower_no_upper e)
    has_upper j Upper h e = upper_in dim pairs (pair h.0 h.1 (j + 1)) j h.3 (let d : dim + 1 ≡ h.0 + 1 = h.2 in omega arith) (omega arith)

    pub matching : (ts us : List Kind) → AreKinds pairs dim (count space dim) ts → AreKinds pairs (dim + 1) (count space (dim + 1)) us → IsMatching F (length ts) (length us) (signed_rows F space negative dim) ts us (matches_of pairs dim)
    matching ts us a b = record {
      matrix = subst (λ (n : ℕ). IsMatrix F n (signed_rows F space negative dim)) (sym b.long) rows_matrix;
      long = rows_long ∙ sym a.long;
      below = refl;
      above = refl;
      triangular = triangular pairs fact (lined-from space pairs V).lined;
      uppers = all_matches dim (λ (p : Match). p.upper < length us) pairs
          (λ p m d.
          let low : 1 ≤ p.upper = (fact p m).low_up in
          let high : p.upper ≤ count space (dim + 1) = subst (λ (k : ℕ). p.upper ≤ count space (k + 1)) d (fact p m).high_up in
          subst (λ (n : ℕ). p.upper - 1 < n) (sym b.long) (omega arith));
      kinds = record {
        lower_or = λ i li. lower_or i (kind_at ts i) (a.each i (subst (λ (n : ℕ). i < n) a.long li));
        has_lower = λ i li e. has_lower i (kind_at ts i) (a.each i (subst (λ (n : ℕ). i < n) a.long li)) e;
        upper_or = λ j lj. upper_or j (kind_at us j) (b.each j (subst (λ (n : ℕ). j < n) b.long lj));
        has_upper = λ j lj e. has_upper j (kind_at us j) (b.each j (subst (λ (n : ℕ). j < n) b.long lj)) e;
      };
    }

    -- two stages of the signed set, one after the other
    pub paired : (s next : Stage) → IsStageOf F space negative pairs dim s → IsStageOf F space negative pairs (dim + 1) next → IsPaired F s next
    paired s next a b = record {
      matching =
          subst (λ (r : List (List ℕ)). IsMatching F (length s.kinds) (length next.kinds) r s.kinds next.kinds s.pairs) (sym a.rows)
          (subst (λ (ps : List Match). IsMatching F (length s.kinds) (length next.kinds) (signed_rows F space negative dim) s.kinds next.kinds ps) (sym a.pairs_are)
          (matching s.kinds next.kinds a.kinds b.kinds));
      cols = a.cols ∙ sym b.kinds.long;
    }

no_upper : (ts : List Kind) → ((i : ℕ) → i < length ts → kind_at ts i ≡ Upper → ⊥) → HasNoUpper ts
no_upper [] h = tt
no_upper (Critical ∷ ts) h = no_upper ts (λ i lt. h (suc i) (omega arith))
no_upper (Lower ∷ ts) h = no_upper ts (λ i lt. h (suc i) (omega arith))
no_upper (Upper ∷ ts) h = h 0 (omega arith) refl

-- the first degree has no upper
pub first_kinds : (pairs : List Pair) (n : ℕ) (ts : List Kind) → AreKinds pairs 0 n ts → HasNoUpper ts
first_kinds pairs n ts a =
    no_upper ts
    (λ i li e.
    let k : IsKind pairs 0 (i + 1) Upper = subst (IsKind pairs 0 (i + 1)) e (a.each i (subst (λ (m : ℕ). i < m) a.long li)) in
    let z : 0 ≡ k.0 + 1 = k.2 in
    omega arith)

-- the degrees of a signed set with a valid field
pub splitting : (F : Ops) (L : IsField F) (space : Layers) (negative : ℕ → ℕ → ℕ → Bool) (pairs : List Pair) (stages now : List Stage) → IsValid space pairs → IsReductionOf F space negative pairs stages → now ≡ stages → IsSplitting F now
splitting F L space negative pairs stages now V r e =
    subst (IsSplitting F) (sym e)
    (record {
      long = r.long;
      paired = λ degree lt.
          paired F L space negative degree pairs V (stage_at stages degree) (stage_at stages (suc degree)) (r.each degree (omega arith))
          (subst (λ (k : ℕ). IsStageOf F space negative pairs k (stage_at stages (suc degree))) (let g : suc degree ≡ degree + 1 = omega arith in g) (r.each (suc degree) (omega arith)));
      bottom = first_kinds pairs (count space 0) (stage_at stages 0).kinds (r.each 0 (omega arith)).kinds;
    })

-- each two of them, one after the other
pub degrees_of : (F : Ops) (space : Layers) (negative : ℕ → ℕ → ℕ → Bool) (pairs : List Pair) (stages now : List Stage) → IsReductionOf F space negative pairs stages → now ≡ stages
    → (degree : ℕ) → degree < 4 → AreDegrees F space negative degree (stage_at now degree) (stage_at now (suc degree))
degrees_of F space negative pairs stages now r e degree lt =
    subst (λ (xs : List Stage). AreDegrees F space negative degree (stage_at xs degree) (stage_at xs (suc degree))) (sym e)
    (let a = r.each degree (omega arith) in
    let b = r.each (suc degree) (omega arith) in
    record { rows = a.rows; cells = a.kinds.long; above = b.kinds.long ∙ ap (count space) (let g : suc degree ≡ degree + 1 = omega arith in g) })

pub stages_more : (F : Ops) (space : Layers) (negative : ℕ → ℕ → ℕ → Bool) (pairs : List Pair) (stages now : List Stage) (s : Stage) (i : ℕ) → length stages ≡ i
    → ((degree : ℕ) → degree < i → IsStageOf F space negative pairs degree (stage_at stages degree)) → IsStageOf F space negative pairs i s → now ≡ stages ++ s ∷ []
    → (length now ≡ i + 1) × ((degree : ℕ) → degree < i + 1 → IsStageOf F space negative pairs degree (stage_at now degree))
stages_more F space negative pairs stages now s i l before last e = (
  ap (λ (xs : List Stage). length xs) e ∙ (length-append stages (s ∷ []) ∙ ap (λ (n : ℕ). n + 1) l),
  (λ j lj.
      subst (λ (xs : List Stage). IsStageOf F space negative pairs j (stage_at xs j)) (sym e)
      (elim (cases_eq j i) [
        | inl b ↦
            subst (λ (n : ℕ). IsStageOf F space negative pairs n (stage_at (stages ++ s ∷ []) n)) (sym b)
            (subst (IsStageOf F space negative pairs i) (sym (ap (λ (n : ℕ). get_or (stages ++ s ∷ []) n empty_stage) (sym l) ∙ get_or-append_seam stages s [] empty_stage)) last)
        | inr b ↦ subst (IsStageOf F space negative pairs j) (sym (get_or_append_left stages (s ∷ []) empty_stage j (omega arith))) (before j (omega arith))
      ])),
)
