-- The units of pairs: for each pair its lower and its upper.
use Rattle.std.proofs.Common.{◌≡◌, ◌≢◌, ◌⊎◌, inl, inr, ℕ, zero, suc, ◌+◌, ◌-◌, ◌<◌, ◌≤◌, List, [], ◌∷◌, length, map, replicate, set, get_or, refl, ap, sym, ◌∙◌, arith, subst}
use Rattle.std.specs.List.{AllByRecursion}
use Rattle.std.proofs.lemmas.List.{length-map, get_or-map}
use Rattle.std.proofs.lemmas.List.Elements.{All-cons, All-nil}
use Rattle.small_field.specs.Field.{Ops, IsField}
use Rattle.small_field.specs.Sparse.{IsSparse}
use Rattle.linear_laws.specs.Marks.{mark}
use Rattle.linear_laws.specs.Triangle.{Triangle}
use Rattle.linear_laws.specs.Vectors.{combination, dot, entry, IsVector}
use Rattle.linear_laws.proofs.CallerLemmas.{mark_vector, all_at}
use Rattle.split_laws.specs.declared.kind.Kind.{Kind}
use Rattle.split_laws.specs.declared.kind.Kind.TheVariants.{Critical, Lower, Upper}
use Rattle.split_laws.specs.declared.matching.Match.{Match}
use Rattle.split_laws.specs.Kinds.{ZeroOffLowers}
use Rattle.split_laws.specs.Pairs.{Triangular, kind_at}
use Rattle.pair_stages.specs.declared.unit.Unit.{Unit}
use Rattle.pair_stages.specs.Stages.{Stage, IsPaired}
use Rattle.pair_stages.specs.Units.{no_match, pair_at, filled, unit_of}
use Rattle.pair_stages.proofs.CallerLemmas.{triangular_at, filled_mark, value_is, match_uppers}
use Rattle.critical_complex.specs.Levels.{Level}
use Rattle.critical_complex.specs.Complex.{no_unit, unit_at, IsLeft, IsRight, IsRightOf, MatchUppers, IsUnits}
use Rattle.critical_complex.specs.Stages.{level_of}

-- ---- a mark at a lower is zero off lowers

off_zeros : (ts : List Kind) → ZeroOffLowers ts (replicate (length ts) 0)
off_zeros [] = refl
off_zeros (Critical ∷ ts) = (refl, off_zeros ts)
off_zeros (Lower ∷ ts) = off_zeros ts
off_zeros (Upper ∷ ts) = (refl, off_zeros ts)

off_mark : (ts : List Kind) (i : ℕ) → i < length ts → kind_at ts i ≡ Lower → ZeroOffLowers ts (mark (length ts) i)
off_mark [] i lt e = absurd (omega (arith, lt))
off_mark (Critical ∷ ts) zero lt e = absurd (none e)
  where
    none : Critical ≡ Lower → ⊥
    none z = cc
off_mark (Lower ∷ ts) zero lt e = off_zeros ts
off_mark (Upper ∷ ts) zero lt e = absurd (none e)
  where
    none : Upper ≡ Lower → ⊥
    none z = cc
off_mark (Critical ∷ ts) (suc i) lt e = (refl, off_mark ts i (omega (arith, lt)) e)
off_mark (Lower ∷ ts) (suc i) lt e = off_mark ts i (omega (arith, lt)) e
off_mark (Upper ∷ ts) (suc i) lt e = (refl, off_mark ts i (omega (arith, lt)) e)

differs_at : (j : ℕ) (qs : List Match) (i : ℕ) → i < length qs → AllByRecursion (λ (q : Match). j ≢ q.lower) qs → j ≢ (pair_at qs i).lower
differs_at j [] i lt h = absurd (omega (arith, lt))
differs_at j (q ∷ qs) zero lt h = h.0
differs_at j (q ∷ qs) (suc i) lt h = differs_at j qs i (omega (arith, lt)) h.1

all_units : (P : Unit → Type 0) (ps : List Match) → ((i : ℕ) → i < length ps → P (unit_of (pair_at ps i))) → AllByRecursion P (map unit_of ps)
all_units P [] h = tt
all_units P (p ∷ ps) h = (h 0 (omega arith), all_units P ps (λ i lt. h (suc i) (omega (arith, lt))))

-- ---- the unit of an index

pub unit_is : (ps : List Match) (i : ℕ) → i < length ps → unit_at (map unit_of ps) i ≡ unit_of (pair_at ps i)
unit_is ps i lt = get_or-map unit_of ps i no_match no_unit lt

first : List (ℕ × ℕ) → ℕ
first [] = 0
first (e ∷ es) = e.0

abbrev at_place : ℕ → List (ℕ × ℕ)
at_place n = (n + 1, 1) ∷ []

same_place : (a b : ℕ) → at_place a ≡ at_place b → a ≡ b
unfolding first
same_place a b e = let h : a + 1 ≡ b + 1 = ap first e in omega (arith, h)

-- one entry that is not 0 is sparse
sparse_one : (position value : ℕ) → value ≢ 0 → IsSparse ((position, value) ∷ [])
sparse_one position value ne = record {
  increasing = λ k l. absurd (omega (arith, l));
  nonzero = All-cons (λ x. x.1 ≢ 0) (position, value) [] ne (All-nil (λ x. x.1 ≢ 0));
  few = omega arith;
}

module _ (F : Ops) (L : IsField F) (s next : Stage) (P : IsPaired F s next) where
  left_is : (i : ℕ) → i < length s.pairs → IsLeft F (level_of s) (unit_of (pair_at s.pairs i))
  left_is i lt =
      let p : Match = pair_at s.pairs i in
      let n : ℕ = length s.kinds in
      let low : p.lower < n = subst (λ (k : ℕ). p.lower < k) P.matching.long (triangular_at s.rows s.pairs i no_match P.matching.triangular lt).0 in
      let e : filled n ((p.lower + 1, 1) ∷ []) ≡ mark n p.lower = filled_mark F L s next P n p.lower ((p.lower + 1, 1) ∷ []) refl in
      let kind : kind_at s.kinds p.lower ≡ Lower = elim (P.matching.kinds.lower_or p.lower low) [ inl a ↦ absurd (differs_at p.lower s.pairs i lt a refl) | inr k ↦ k ] in
      record {
        sparse = sparse_one (p.lower + 1) 1 (λ z. absurd (omega (arith, z)));
        numbers = All-cons (λ x. (1 ≤ x.0) × (x.0 ≤ n)) (p.lower + 1, 1) [] (omega arith, omega (arith, low)) (All-nil (λ x. (1 ≤ x.0) × (x.0 ≤ n)));
        elements = All-cons (λ x. x.1 < F.size) (p.lower + 1, 1) [] L.one_below (All-nil (λ x. x.1 < F.size));
        vector = subst (IsVector F n) (sym e) (mark_vector F L n p.lower);
        lowers = subst (ZeroOffLowers s.kinds) (sym e) (off_mark s.kinds p.lower low kind);
      }

  rights : MatchUppers (map unit_of s.pairs) next.kinds
  rights =
      let m = match_uppers F L s next P in
      let many : length (map unit_of s.pairs) ≡ length s.pairs = length-map s.pairs unit_of in
      record {
        upper = λ index lt.
            let li : index < length s.pairs = omega (arith, lt, many) in
            let h = m.upper index li in
            ((pair_at s.pairs index).upper, h.0, h.1, ap (λ (u : Unit). u.right) (unit_is s.pairs index li));
        index = λ place lt e.
            let r = m.index place lt e in (
              r.0,
              record {
                within = let w : r.0 < length s.pairs = r.1.within in omega (arith, w, many);
                right = ap (λ (u : Unit). u.right) (unit_is s.pairs r.0 r.1.within) ∙ ap at_place r.1.upper;
                one = λ i li h.
                    let lp : i < length s.pairs = omega (arith, li, many) in
                    r.1.one i lp (same_place (pair_at s.pairs i).upper place (sym (ap (λ (u : Unit). u.right) (unit_is s.pairs i lp)) ∙ h));
              },
            );
      }

  value_of : (p q : Match) → p.lower < length s.rows → q.upper < length next.kinds → dot F (combination F (length next.kinds) (filled (length s.kinds) (unit_of p).left) s.rows) (filled (length next.kinds) (unit_of q).right) ≡ entry s.rows p.lower q.upper
  value_of p q lp lq = value_is F L s next P p q (unit_of p) (unit_of q) (record { left = refl; right = refl }) (record { left = refl; right = refl }) lp lq

  zeros_of : (p : Match) (qs : List Match) → p.upper < length next.kinds → Triangular s.rows qs → AllByRecursion (λ q. entry s.rows q.lower p.upper ≡ 0) qs
      → AllByRecursion (λ d. dot F d (filled (length next.kinds) (unit_of p).right) ≡ 0) (map (λ u. combination F (length next.kinds) (filled (length s.kinds) u.left) s.rows) (map unit_of qs))
  zeros_of p [] lp t h = tt
  zeros_of p (q ∷ qs) lp t h = (value_of q p t.0 lp ∙ h.0, zeros_of p qs lp t.3 h.1)

  triangle : (ps : List Match) → Triangular s.rows ps → AllByRecursion (λ (p : Match). p.upper < length next.kinds) ps
      → Triangle F (map (λ u. combination F (length next.kinds) (filled (length s.kinds) u.left) s.rows) (map unit_of ps)) (map (λ u. filled (length next.kinds) u.right) (map unit_of ps))
  triangle [] t h = tt
  triangle (p ∷ ps) t h = ((λ e. t.1 (sym (value_of p p t.0 h.0) ∙ e)), zeros_of p ps h.0 t.3 t.2, triangle ps t.3 h.1)

  pub units_are : IsUnits F (level_of s) (level_of next)
  units_are = record {
    lefts = all_units (IsLeft F (level_of s)) s.pairs left_is;
    rights = rights;
    triangle = triangle s.pairs P.matching.triangular P.matching.uppers;
  }
