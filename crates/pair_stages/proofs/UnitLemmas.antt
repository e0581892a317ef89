-- The units are triangular, and each upper has exactly one.
use Rattle.std.proofs.Common.{◌≡◌, ◌≢◌, ◌⊎◌, inl, inr, ℕ, zero, suc, ◌+◌, ◌-◌, ◌<◌, ◌≤◌, List, [], ◌∷◌, length, length-set, replicate, set, get_or-set_same, get_or-set_other, refl, ap, sym, ◌∙◌, arith, subst}
use Rattle.std.proofs.lemmas.Bool.{cases_eq}
use Rattle.std.specs.Prelude.{⊤}
use Rattle.std.specs.List.{AllByRecursion}
use Rattle.small_field.specs.Field.{Ops, IsField}
use Rattle.linear_laws.specs.Marks.{mark}
use Rattle.linear_laws.specs.Vectors.{combination, dot, entry, row_at, IsVector}
use Rattle.linear_laws.proofs.CallerLemmas.{dot_comm, combination-mark, dot_mark, all_at}
use Rattle.split_laws.specs.declared.kind.Kind.{Kind}
use Rattle.split_laws.specs.declared.kind.Kind.TheVariants.{Critical, Lower, Upper}
use Rattle.split_laws.specs.declared.matching.Match.{Match}
use Rattle.split_laws.specs.Pairs.{Triangular, HasUpper, kind_at}
use Rattle.pair_stages.specs.declared.unit.Unit.{Unit}
use Rattle.pair_stages.specs.Stages.{Stage, IsPaired}
use Rattle.pair_stages.specs.Splits.{stage_at, IsSplitting}
use Rattle.pair_stages.specs.Units.{no_match, pair_at, IsUnitOf, filled, value_on, IsTriangular, MatchUppers}
use Rattle.split_laws.specs.Kinds.{uppers}
use Rattle.pair_stages.proofs.Pairwise.{triangular_at, later_zero}

-- ---- triangular

module _ (F : Ops) (L : IsField F) (s next : Stage) (P : IsPaired F s next) where
  -- one cell
  pub filled_mark : (n p : ℕ) (es : List (ℕ × ℕ)) → es ≡ (p + 1, 1) ∷ [] → filled n es ≡ mark n p
  filled_mark n p es e = ap (filled n) e ∙ ap (λ (i : ℕ). set (replicate n 0) i 1) (let g : p + 1 - 1 ≡ p = omega arith in g)

  pub value_is : (p q : Match) (u v : Unit) → IsUnitOf p u → IsUnitOf q v → p.lower < length s.rows → q.upper < length next.kinds → value_on F s next u v ≡ entry s.rows p.lower q.upper
  value_is p q u v h k lp lq =
      let n : ℕ = length s.kinds in
      let m : ℕ = length next.kinds in
      let r : List ℕ = row_at s.rows p.lower in
      let a : IsVector F m r = all_at (IsVector F m) s.rows p.lower [] lp P.matching.matrix in
      ap (λ (x : List ℕ). dot F (combination F m x s.rows) (filled m v.right)) (filled_mark n p.lower u.left h.left)
      ∙ (ap (λ (x : List ℕ). dot F x (filled m v.right)) (combination-mark F L m n p.lower s.rows P.matching.matrix P.matching.long (subst (λ (k : ℕ). p.lower < k) P.matching.long lp))
      ∙ (ap (dot F r) (filled_mark m q.upper v.right k.right) ∙ (dot_comm F L r (mark m q.upper) ∙ dot_mark F L m q.upper r a lq)))

  upper_within : (i : ℕ) → i < length s.pairs → (pair_at s.pairs i).upper < length next.kinds
  upper_within i lt = all_at (λ (p : Match). p.upper < length next.kinds) s.pairs i no_match lt P.matching.uppers

  pub triangular_is : (index : ℕ) (u : Unit) → index < length s.pairs → IsUnitOf (pair_at s.pairs index) u → IsTriangular F s next index u
  triangular_is index u lt h =
      let p : Match = pair_at s.pairs index in
      let t = triangular_at s.rows s.pairs index no_match P.matching.triangular lt in
      record {
        own = λ e. t.1 (sym (value_is p p u u h h t.0 (upper_within index lt)) ∙ e);
        smaller = λ i li v k.
            value_is p (pair_at s.pairs i) u v h k t.0 (upper_within i (omega arith)) ∙ later_zero s.rows s.pairs i index P.matching.triangular li lt;
      }

-- ---- the uppers of the pairs are different

abbrev pub Distinct : List Match → Type 0
Distinct [] = ⊤
Distinct (p ∷ ps) = AllByRecursion (λ (q : Match). p.upper ≢ q.upper) ps × Distinct ps

distinct : (rows : List (List ℕ)) (ps : List Match) → Triangular rows ps → Distinct ps
distinct rows [] tr = tt
distinct rows (p ∷ ps) tr = (apart ps tr.2 tr.3, distinct rows ps tr.3)
  where
    apart : (qs : List Match) → AllByRecursion (λ q. entry rows q.lower p.upper ≡ 0) qs → Triangular rows qs → AllByRecursion (λ (q : Match). p.upper ≢ q.upper) qs
    apart [] h t = tt
    apart (q ∷ qs) h t = ((λ e. t.1 (ap (entry rows q.lower) (sym e) ∙ h.0)), apart qs h.1 t.3)

differs_at : (j : ℕ) (qs : List Match) (i : ℕ) → i < length qs → AllByRecursion (λ (q : Match). j ≢ q.upper) qs → j ≢ (pair_at qs i).upper
differs_at j [] i lt h = absurd (omega arith)
differs_at j (q ∷ qs) zero lt h = h.0
differs_at j (q ∷ qs) (suc i) lt h = differs_at j qs i (omega arith) h.1

same_index : (ps : List Match) (i k : ℕ) → Distinct ps → i < length ps → k < length ps → (pair_at ps i).upper ≡ (pair_at ps k).upper → i ≡ k
same_index [] i k d li lk e = absurd (omega arith)
same_index (p ∷ ps) zero zero d li lk e = refl
same_index (p ∷ ps) zero (suc k) d li lk e = absurd (differs_at p.upper ps k (omega arith) d.0 e)
same_index (p ∷ ps) (suc i) zero d li lk e = absurd (differs_at p.upper ps i (omega arith) d.0 (sym e))
same_index (p ∷ ps) (suc i) (suc k) d li lk e = ap suc (same_index ps i k d.1 (omega arith) (omega arith) e)

index_of : (ps : List Match) (j : ℕ) → HasUpper ps j → (i : ℕ) × (i < length ps) × ((pair_at ps i).upper ≡ j)
index_of [] j h = absurd h
index_of (p ∷ ps) j (inl e) = (0, omega arith, e)
index_of (p ∷ ps) j (inr h) = let r = index_of ps j h in (suc r.0, (let l : r.0 < length ps = r.1 in omega arith), r.2)

pub match_uppers : (F : Ops) (L : IsField F) (s next : Stage) → IsPaired F s next → MatchUppers s.pairs next.kinds
match_uppers F L s next P =
    let d : Distinct s.pairs = distinct s.rows s.pairs P.matching.triangular in
    record {
      upper = λ index lt.
          let j : ℕ = (pair_at s.pairs index).upper in
          let within : j < length next.kinds = upper_within F L s next P index lt in
          (within, elim (P.matching.kinds.upper_or j within) [ inl a ↦ absurd (differs_at j s.pairs index lt a refl) | inr e ↦ e ]);
      index = λ place lt e.
          let r = index_of s.pairs place (P.matching.kinds.has_upper place lt e) in
          (r.0, record { within = r.1; upper = r.2; one = λ i li h. same_index s.pairs i r.0 d li r.1 (h ∙ sym r.2) });
    }

-- ---- how many there are

no_uppers : (us : List Kind) → ((j : ℕ) → j < length us → kind_at us j ≡ Upper → ⊥) → uppers us ≡ 0
no_uppers [] h = refl
no_uppers (Critical ∷ us) h = no_uppers us (λ j lt. h (suc j) (omega arith))
no_uppers (Lower ∷ us) h = no_uppers us (λ j lt. h (suc j) (omega arith))
no_uppers (Upper ∷ us) h = absurd (h 0 (omega arith) refl)

one_less : (us : List Kind) (j : ℕ) → j < length us → kind_at us j ≡ Upper → uppers us ≡ suc (uppers (set us j Critical))
one_less [] j lt e = absurd (omega arith)
one_less (Critical ∷ us) zero lt e = absurd (none e)
  where
    none : Critical ≡ Upper → ⊥
    none z = cc
one_less (Lower ∷ us) zero lt e = absurd (none e)
  where
    none : Lower ≡ Upper → ⊥
    none z = cc
one_less (Upper ∷ us) zero lt e = refl
one_less (Critical ∷ us) (suc j) lt e = one_less us j (omega arith) e
one_less (Lower ∷ us) (suc j) lt e = one_less us j (omega arith) e
one_less (Upper ∷ us) (suc j) lt e = ap suc (one_less us j (omega arith) e)

counted : (ps : List Match) (us : List Kind) → Distinct ps → AllByRecursion (λ (p : Match). p.upper < length us) ps → ((j : ℕ) → j < length us → AllByRecursion (λ (q : Match). j ≢ q.upper) ps ⊎ (kind_at us j ≡ Upper))
    → ((j : ℕ) → j < length us → kind_at us j ≡ Upper → HasUpper ps j) → uppers us ≡ length ps
counted [] us d w either has = no_uppers us (λ j lt e. has j lt e)
counted (p ∷ ps) us d w either has =
    let vs : List Kind = set us p.upper Critical in
    let long : length vs ≡ length us = length-set us p.upper Critical in
    let here : kind_at us p.upper ≡ Upper = elim (either p.upper w.0) [ inl a ↦ absurd (a.0 refl) | inr e ↦ e ] in
    one_less us p.upper w.0 here
    ∙ ap suc
    (counted ps vs d.1 (subst (λ (n : ℕ). AllByRecursion (λ (q : Match). q.upper < n) ps) (sym long) w.1)
    (λ j lt.
    elim (cases_eq j p.upper) [
      | inl b ↦ inl (subst (λ (n : ℕ). AllByRecursion (λ (q : Match). n ≢ q.upper) ps) (sym b) d.0)
      | inr b ↦
          elim (either j (subst (λ (n : ℕ). j < n) long lt)) [ inl a ↦ inl a.1 | inr e ↦ inr (get_or-set_other us p.upper j Critical Critical b ∙ e) ]
    ])
    (λ j lt e.
    elim (cases_eq j p.upper) [
      | inl b ↦ absurd (none (sym (get_or-set_same us p.upper Critical Critical w.0) ∙ (ap (kind_at vs) (sym b) ∙ e)))
      | inr b ↦
          elim (has j (subst (λ (n : ℕ). j < n) long lt) (sym (get_or-set_other us p.upper j Critical Critical b) ∙ e)) [ inl q ↦ absurd (b (sym q)) | inr h ↦ h ]
    ]))
  where
    none : Critical ≡ Upper → ⊥
    none z = cc

pub uppers_are : (F : Ops) (s next : Stage) → IsPaired F s next → length s.pairs ≡ uppers next.kinds
uppers_are F s next P = sym (counted s.pairs next.kinds (distinct s.rows s.pairs P.matching.triangular) P.matching.uppers P.matching.kinds.upper_or P.matching.kinds.has_upper)

-- two degrees, one after the other
pub paired_at : (F : Ops) (stages now : List Stage) → stages ≡ now → IsSplitting F stages → (dim : ℕ) → dim ≤ 3 → IsPaired F (stage_at now dim) (stage_at now (dim + 1))
paired_at F stages now e h dim lt =
    subst (λ (xs : List Stage). IsPaired F (stage_at xs dim) (stage_at xs (dim + 1))) e
    (subst (λ (n : ℕ). IsPaired F (stage_at stages dim) (stage_at stages n)) (let g : suc dim ≡ dim + 1 = omega arith in g) (h.paired dim (omega arith)))
