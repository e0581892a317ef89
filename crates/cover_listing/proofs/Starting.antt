-- The searches of a listing, and where it stops.
use Rattle.std.proofs.Common.{◌≡◌, ◌≢◌, inl, inr, ℕ, zero, suc, ◌+◌, ◌-◌, ◌*◌, ◌<◌, ◌≤◌, List, [], ◌∷◌, ◌++◌, map, length, take, filter, refl, ap, arith, sym, subst, ◌∙◌, Bool, true, false, ◌&&◌, ◌||◌, get_or, Some, None, All}
use Rattle.std.specs.Prelude.{nat_lt, nat_le, slice_get, if◌then◌else◌, not, ◌==◌}
use Rattle.std.specs.List.{flat_map}
use Rattle.std.proofs.lemmas.Bool.{false≢true, eqb-true}
use Rattle.std.proofs.lemmas.List.Elements.{All-nil, All-cons}
use Rattle.number_lists.specs.Members.{In}
use Rattle.number_lists.proofs.CallerLemmas.{and-left, and-right, In-cases, In-inside, filter-In, flat_map-In, map-In, at-In}
use Rattle.edge_words.specs.Words.{Presented, relations_of}
use Rattle.sheet_tables.specs.Positions.{IsProper, IsPosition}
use Rattle.sheet_tables.specs.Spots.{IsSpot}
use Rattle.live_laws.specs.Trees.{from, beyond}
use Rattle.live_laws.specs.Live.{Relations, Position, may_follow, follows, sound, is_live, comes_after, live_of, live}
use Rattle.cover_search.specs.Searches.{begun, last_of}
use Rattle.cover_listing.specs.Passes.{begun_each, stops, stop_at}
use Rattle.cover_listing.proofs.Firsts.{alone}
use Rattle.cover_listing.proofs.Passing.{none-live, last-taken}

-- ---- the searches

begun-later : (n : ℕ) (ps : List Presented) (i : ℕ) (d : Presented) → i < length ps → slice_get (begun_each n (0, []) (map relations_of ps)) i ≡ Some (begun (relations_of (get_or ps i d)) n (0, []))
begun-later n [] i d l = absurd (omega (arith, l))
begun-later n (p ∷ ps) zero d l = refl
begun-later n (p ∷ ps) (suc i) d l = begun-later n ps i d (omega (arith, l))

pub begun-at : (n : ℕ) (t : Position) (ps : List Presented) (i : ℕ) (d : Presented) → i ≢ 0 → i < length ps → slice_get (begun_each n t (map relations_of ps)) i ≡ Some (begun (relations_of (get_or ps i d)) n (0, []))
begun-at n t ps zero d h l = absurd (h refl)
begun-at n t [] (suc i) d h l = absurd (omega (arith, l))
begun-at n t (p ∷ ps) (suc i) d h l = begun-later n ps i d (omega (arith, l))

-- ---- where a listing stops is live, so its cells are sheets

ranged : (c m : ℕ) (p xs : List ℕ) → m ≤ 8 → follows c m p xs ≡ true → All (λ x. (1 ≤ x) × (x ≤ 8)) xs
ranged c m p [] l e = All-nil (λ x. (1 ≤ x) × (x ≤ 8))
ranged c m p (x ∷ xs) l e =
    let f : may_follow c m p x ≡ true = and-left (may_follow c m p x) _ e in
    let g : (nat_le 1 x && nat_le x m) ≡ true = and-left (nat_le 1 x && nat_le x m) _ (and-right (nat_lt (length p) (m * c)) _ f) in
    let low : nat_le 1 x ≡ true = and-left (nat_le 1 x) _ g in
    let high : nat_le x m ≡ true = and-right (nat_le 1 x) _ g in
    All-cons (λ x. (1 ≤ x) × (x ≤ 8)) x xs (grind (arith, low), grind (arith, high, l)) (ranged c m (p ++ x ∷ []) xs l (and-right (may_follow c m p x) _ e))

from-range : (a n k : ℕ) → In k (from a n) → (a ≤ k) × (k < a + n)
from-range a zero k h = elim h [ ]
from-range a (suc n) k h = elim (In-cases h) [ inl e ↦ (omega (arith, e), omega (arith, e)) | inr j ↦ (let r = from-range (suc a) n k j in (omega (arith, r.0), omega (arith, r.1))) ]

live-proper : (P : Relations) (n : ℕ) (t q : Position) → n ≤ 8 → In q (live P n t) → IsProper q.0 q.1
live-proper P n t q l h =
    let f = flat_map-In (live_of P) (from 1 n) (In-inside (comes_after t) (flat_map (live_of P) (from 1 n)) h) in
    let g = map-In (λ (p : List ℕ). (f.0, p)) (filter (is_live P f.0) (beyond f.0 (f.0 * P.generators) [])) f.2 in
    let r = from-range 1 n f.0 f.1 in
    let is : is_live P f.0 g.0 ≡ true = filter-In (is_live P f.0) (beyond f.0 (f.0 * P.generators) []) g.1 in
    let some : nat_lt 0 (length g.0) ≡ true = and-left (nat_lt 0 (length g.0)) (sound P f.0 g.0) is in
    let rules : follows P.generators f.0 [] g.0 ≡ true = and-left (follows P.generators f.0 [] g.0) _ (and-right (nat_lt 0 (length g.0)) (sound P f.0 g.0) is) in
    subst (λ (q : Position). IsProper q.0 q.1) (sym g.2) (record {
      some_sheet = r.0;
      most_sheets = omega (arith, l, r.1);
      some_cell = grind (arith, some);
      within = ranged P.generators f.0 [] g.0 (omega (arith, l, r.1)) rules;
    })

stop-short : (P : Relations) (more : Bool) (n : ℕ) (t : Position) (B : ℕ) → stops P more n t B ≡ true → B ≤ length (live P n t)
stop-short P more n t B e = one (nat_lt B (length (live P n t))) (nat_le B (length (live P n t))) refl refl e
  where
    one : (a b : Bool) → nat_lt B (length (live P n t)) ≡ a → nat_le B (length (live P n t)) ≡ b → (a || (b && more)) ≡ true → B ≤ length (live P n t)
    one true b f g e = grind (arith, f)
    one false true f g e = grind (arith, g)
    one false false f g e = absurd (false≢true e)

stop-some : (P : Relations) (more : Bool) (n : ℕ) (t : Position) (B : ℕ) → ((nat_lt 0 P.generators || more) ≡ true → 1 ≤ B) → stops P more n t B ≡ true → 1 ≤ B
stop-some P true n t B h e = h (or-true (nat_lt 0 P.generators))
  where
    or-true : (a : Bool) → (a || true) ≡ true
    or-true true = refl
    or-true false = refl
stop-some P false n t B h e = one (nat_lt 0 P.generators) refl
  where
    one : (a : Bool) → nat_lt 0 P.generators ≡ a → 1 ≤ B
    one true f = h (ap (λ (b : Bool). b || false) f)
    one false f =
        let none : length (live P n t) ≡ 0 = ap length (none-live alone P n t (grind (arith, f))) in
        let no : nat_lt B (length (live P n t)) ≡ false = grind (arith, none) in
        absurd (two (nat_le B (length (live P n t))) (sym (ap (λ (b : Bool). b || (nat_le B (length (live P n t)) && false)) no) ∙ e))
      where
        two : (b : Bool) → (b && false) ≡ true → ⊥
        two true e = false≢true e
        two false e = false≢true e

pub stop-proper : (P : Relations) (more : Bool) (n : ℕ) (t : Position) (B : ℕ) (p : Position) → n ≤ 8 → ((nat_lt 0 P.generators || more) ≡ true → 1 ≤ B) → Some p ≡ stop_at P more n t B → IsProper p.0 p.1
stop-proper P more n t B p l h e = one (stops P more n t B) refl e
  where
    one : (b : Bool) → stops P more n t B ≡ b → Some p ≡ (if b then Some (last_of t (take B (live P n t))) else None) → IsProper p.0 p.1
    one false f e = absurd (grind (arith, e))
    one true f e =
        let k : 1 ≤ B = stop-some P more n t B h f in
        let short : B ≤ length (live P n t) = stop-short P more n t B f in
        let j : suc (B - 1) ≡ B = omega (arith, k) in
        let last : last_of t (take B (live P n t)) ≡ get_or (live P n t) (B - 1) (0, []) = ap (λ (i : ℕ). last_of t (take i (live P n t))) (sym j) ∙ last-taken t (live P n t) (B - 1) (omega (arith, k, short)) in
        let same : p ≡ last_of t (take B (live P n t)) = cc in
        subst (λ (q : Position). IsProper q.0 q.1) (sym (same ∙ last)) (live-proper P n t (get_or (live P n t) (B - 1) (0, [])) l (at-In (live P n t) (B - 1) (0, []) (omega (arith, k, short))))

-- ---- the start

pub is-start : (s : ℕ) (p : List ℕ) → IsPosition s p → s ≡ 0 → ◌≡◌ {A = Position} (s, p) (0, [])
is-start s p (inl h) e = ap (λ (k : ℕ). (k, p)) h.0 ∙ ap (λ (q : List ℕ). (0, q)) h.1
is-start s p (inr h) e = absurd (omega (arith, h.some_sheet, e))

-- where no component is left, the position is the start
pub no-parts : (i s : ℕ) (p : List ℕ) (ps : List Presented) (t : Position) → IsSpot i s p → t ≡ (s, p) → ((length ps == 0) && not (s == 0)) ≡ false → map relations_of ps ≡ [] → ◌≡◌ {A = Position} t (0, [])
no-parts i s p (q ∷ ps) t spot is e f = absurd (grind (arith, ap length f))
no-parts i s p [] t spot is e f = is ∙ is-start s p spot.position (one (s == 0) refl e)
  where
    one : (a : Bool) → (s == 0) ≡ a → not a ≡ false → s ≡ 0
    one true g e = eqb-true s 0 g
    one false g e = absurd (false≢true (sym e))
