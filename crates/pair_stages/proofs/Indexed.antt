-- Indexes of pairs and of critical cells.
use Rattle.std.proofs.Common.{◌≡◌, ◌≢◌, inl, inr, ℕ, zero, suc, ◌+◌, ◌<◌, List, [], ◌∷◌, ◌++◌, length, take, get_or, set, get_or-set_same, get_or-set_other, refl, ap, sym, ◌∙◌, arith, subst}
use Rattle.std.proofs.Math.Seq.{take-append_seam}
use Rattle.std.proofs.lemmas.Bool.{cases_eq}
use Rattle.small_field.specs.Field.{Ops}
use Rattle.split_laws.specs.declared.kind.Kind.{Kind}
use Rattle.split_laws.specs.declared.kind.Kind.TheVariants.{Critical, Lower, Upper}
use Rattle.split_laws.specs.declared.matching.Match.{Match}
use Rattle.split_laws.specs.Kinds.{criticals}
use Rattle.split_laws.specs.Pairs.{HasUpper, kind_at}
use Rattle.pair_stages.specs.Stages.{Stage, IsPaired, place_of}
use Rattle.pair_stages.specs.Reaches.{HasPair, AreIndexes}
use Rattle.pair_stages.specs.Units.{pair_at}
use Rattle.pair_stages.proofs.KindLemmas.{critical_no_upper, lower_no_critical, upper_no_critical}
use Rattle.pair_stages.proofs.Placed.{place_below}

-- ---- places of critical cells

pub place_kind : (ts : List Kind) (c : ℕ) → c < criticals ts → kind_at ts (place_of ts c) ≡ Critical
place_kind [] c lt = absurd (omega arith)
place_kind (Critical ∷ ts) zero lt = refl
place_kind (Critical ∷ ts) (suc c) lt = place_kind ts c (omega arith)
place_kind (Lower ∷ ts) c lt = place_kind ts c lt
place_kind (Upper ∷ ts) c lt = place_kind ts c lt

pub place_found : (ts : List Kind) (j : ℕ) → j < length ts → kind_at ts j ≡ Critical → (c : ℕ) × (c < criticals ts) × (place_of ts c ≡ j)
place_found [] j lt e = absurd (omega arith)
place_found (Critical ∷ ts) zero lt e = (zero, omega arith, refl)
place_found (Critical ∷ ts) (suc j) lt e = let r = place_found ts j (omega arith) e in (suc r.0, omega (arith, r.1), ap suc r.2)
place_found (Lower ∷ ts) zero lt e = absurd (lower_no_critical e)
place_found (Lower ∷ ts) (suc j) lt e = let r = place_found ts j (omega arith) e in (r.0, r.1, ap suc r.2)
place_found (Upper ∷ ts) zero lt e = absurd (upper_no_critical e)
place_found (Upper ∷ ts) (suc j) lt e = let r = place_found ts j (omega arith) e in (r.0, r.1, ap suc r.2)

pub place_one : (ts : List Kind) (c d : ℕ) → c < criticals ts → d < criticals ts → place_of ts c ≡ place_of ts d → c ≡ d
place_one [] c d lc ld e = absurd (omega arith)
place_one (Critical ∷ ts) zero zero lc ld e = refl
place_one (Critical ∷ ts) zero (suc d) lc ld e = absurd (omega arith)
place_one (Critical ∷ ts) (suc c) zero lc ld e = absurd (omega arith)
place_one (Critical ∷ ts) (suc c) (suc d) lc ld e = ap suc (place_one ts c d (omega arith) (omega arith) (omega arith))
place_one (Lower ∷ ts) c d lc ld e = place_one ts c d lc ld (omega arith)
place_one (Upper ∷ ts) c d lc ld e = place_one ts c d lc ld (omega arith)

-- ---- one index more

has_pair : (ps : List Match) (xs : List ℕ) (j k : ℕ) → get_or xs j 0 ≡ k → k < length ps → (pair_at ps k).upper ≡ j → HasPair ps xs j
has_pair ps xs j k e lt u = record { within = subst (λ (n : ℕ). n < length ps) (sym e) lt; upper = ap (λ (n : ℕ). (pair_at ps n).upper) e ∙ u }

pub pairs_more : (ps : List Match) (xs now : List ℕ) (i : ℕ) (p : Match) → i < length ps → p ≡ pair_at ps i → p.upper < length xs → now ≡ set xs p.upper i
    → ((k : ℕ) → k < i → HasPair ps xs ((pair_at ps k).upper)) → (k : ℕ) → k < i + 1 → HasPair ps now ((pair_at ps k).upper)
pairs_more ps xs now i p lt e lu s h k lk =
    let u : ℕ = p.upper in
    let eu : u ≡ (pair_at ps i).upper = ap (λ (q : Match). q.upper) e in
    subst (λ (ys : List ℕ). HasPair ps ys ((pair_at ps k).upper)) (sym s)
    (elim (cases_eq ((pair_at ps k).upper) u) [
      | inl b ↦ has_pair ps (set xs u i) ((pair_at ps k).upper) i (ap (λ (j : ℕ). get_or (set xs u i) j 0) b ∙ get_or-set_same xs u i 0 lu) lt (sym eu ∙ sym b)
      | inr b ↦
          let other : k ≢ i = λ z. b (ap (λ (n : ℕ). (pair_at ps n).upper) z ∙ sym eu) in
          let was = h k (omega arith) in
          has_pair ps (set xs u i) ((pair_at ps k).upper) (get_or xs ((pair_at ps k).upper) 0) (get_or-set_other xs u ((pair_at ps k).upper) i 0 b) was.within was.upper
    ])

pub columns_more : (us : List Kind) (xs now : List ℕ) (i p : ℕ) → i < criticals us → length xs ≡ length us → p ≡ place_of us i → now ≡ set xs p i
    → ((c : ℕ) → c < i → get_or xs (place_of us c) 0 ≡ c) → (c : ℕ) → c < i + 1 → get_or now (place_of us c) 0 ≡ c
columns_more us xs now i p lt l e s h c lc =
    let b : place_of us i < length us = place_below us i lt in
    ap (λ (ys : List ℕ). get_or ys (place_of us c) 0) (s ∙ ap (λ (k : ℕ). set xs k i) e)
    ∙ elim (cases_eq c i) [
      | inl z ↦ ap (λ (k : ℕ). get_or (set xs (place_of us i) i) (place_of us k) 0) z ∙ (get_or-set_same xs (place_of us i) i 0 (omega arith) ∙ sym z)
      | inr z ↦ get_or-set_other xs (place_of us i) (place_of us c) i 0 (λ w. z (place_one us c i (omega arith) lt w)) ∙ h c (omega arith)
    ]

pub others_more : (us : List Kind) (old xs now : List ℕ) (i p : ℕ) → i < criticals us → p ≡ place_of us i → now ≡ set xs p i
    → ((j : ℕ) → kind_at us j ≡ Upper → get_or xs j 0 ≡ get_or old j 0) → (j : ℕ) → kind_at us j ≡ Upper → get_or now j 0 ≡ get_or old j 0
others_more us old xs now i p lt e s h j k =
    ap (λ (ys : List ℕ). get_or ys j 0) (s ∙ ap (λ (n : ℕ). set xs n i) e)
    ∙ (get_or-set_other xs (place_of us i) j i 0 (λ w. critical_no_upper (sym (place_kind us i lt) ∙ (ap (kind_at us) (sym w) ∙ k))) ∙ h j k)

-- ---- all indexes

pub has_upper_at : (ps : List Match) (j : ℕ) → HasUpper ps j → (k : ℕ) × (k < length ps) × ((pair_at ps k).upper ≡ j)
has_upper_at [] j h = absurd h
has_upper_at (p ∷ ps) j (inl e) = (zero, omega arith, e)
has_upper_at (p ∷ ps) j (inr h) = let r = has_upper_at ps j h in (suc r.0, omega (arith, r.1), r.2)

pub indexes_are : (F : Ops) (s next : Stage) (xs ys : List ℕ) → IsPaired F s next → length ys ≡ length next.kinds → ((k : ℕ) → k < length s.pairs → HasPair s.pairs xs ((pair_at s.pairs k).upper))
    → ((c : ℕ) → c < criticals next.kinds → get_or ys (place_of next.kinds c) 0 ≡ c) → ((j : ℕ) → kind_at next.kinds j ≡ Upper → get_or ys j 0 ≡ get_or xs j 0) → AreIndexes s.pairs next.kinds ys
indexes_are F s next xs ys P l pairs columns others = record {
  long = l;
  upper = λ j lj e.
      let a = has_upper_at s.pairs j (P.matching.kinds.has_upper j lj e) in
      let h : HasPair s.pairs xs j = subst (HasPair s.pairs xs) a.2 (pairs a.0 a.1) in
      has_pair s.pairs ys j (get_or xs j 0) (others j e) h.within h.upper;
  critical = λ j lj e.
      let a = place_found next.kinds j lj e in
      let at : get_or ys j 0 ≡ a.0 = ap (λ (k : ℕ). get_or ys k 0) (sym a.2) ∙ columns a.0 a.1 in
      (subst (λ (n : ℕ). n < criticals next.kinds) (sym at) a.1, ap (place_of next.kinds) at ∙ a.2);
}

-- what was written to the places of a vector
pub written : (xs zs : List ℕ) (n : ℕ) → n ≡ length xs → take n (xs ++ zs) ≡ xs
written xs zs n e = ap (λ (k : ℕ). take k (xs ++ zs)) e ∙ take-append_seam xs zs
