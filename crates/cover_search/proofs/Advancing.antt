-- The moves of a walk through live partial tables, from some cells to the next ones.
use Rattle.std.proofs.Common.{◌≡◌, ◌⊎◌, inl, inr, ℕ, zero, suc, ◌+◌, ◌-◌, ◌*◌, ◌<◌, ◌≤◌, List, [], ◌∷◌, ◌++◌, map, length, take, filter, get_or, refl, ap, arith, sym, ◌∙◌, Bool, true, false, ◌&&◌}
use Rattle.std.specs.Prelude.{nat_le, nat_lt}
use Rattle.std.specs.List.{flat_map}
use Rattle.std.proofs.lemmas.Bool.{cases_lt, lt-ltb, le-leb, false≢true, and_parts, ltb-true, leb-true}
use Rattle.std.proofs.lemmas.List.Elements.{filter-append}
use Rattle.std.proofs.lemmas.List.{length-append, take_more, length-take-le}
use Rattle.std.proofs.Math.Seq.{take-length}
use Rattle.sheet_laws.specs.Permutations.{InRange}
use Rattle.live_laws.specs.Trees.{from, beyond, down, sub, rest}
use Rattle.live_laws.specs.Live.{Relations, sound, is_live, comes_after, live_of, live}
use Rattle.live_laws.proofs.CallerLemmas.{live_is_left, live-sound, descend, sound_closed, steps_down, steps_on, steps_up, steps_out}
use Rattle.cover_search.specs.Courses.{Passage, left_of, ahead, IsPassage, Pending}
use Rattle.cover_search.proofs.Passages.{sound-empty, sound-ranged}

-- ---- what is left at the beginning of some number of sheets

down-is-rest : (live : List ℕ → Bool) (m n : ℕ) (s : List ℕ) → down live m n s ≡ rest live m n s [] 1
down-is-rest live m zero s = refl
down-is-rest live m (suc n) s = ap (λ (k : ℕ). flat_map (λ x. sub live m n (s ++ x ∷ [])) (from 1 k)) (less m)
  where
    less : (m : ℕ) → m ≡ suc m - 1
    less m = omega arith

live-of-rest : (P : Relations) (m : ℕ) → live_of P m ≡ map (λ q. (m, q)) (rest (sound P m) m (m * P.generators) [] [] 1)
live-of-rest P m =
    ap (map (λ q. (m, q)))
    (live-sound P m (m * P.generators) [] ∙ (descend (sound P m) (λ q z k. sound_closed P m q z k) m (m * P.generators) [] ∙ down-is-rest (sound P m) m (m * P.generators) []))

-- all live partial tables of so many sheets and more come after no cell of so many sheets
from-empty : (P : Relations) (n m k : ℕ) → InRange n m → suc n ≡ m + k → live P n (m, []) ≡ flat_map (live_of P) (from m k)
from-empty P n m k r e = by k e
  where
    by : (k : ℕ) → suc n ≡ m + k → live P n (m, []) ≡ flat_map (live_of P) (from m k)
    by zero e = absurd (omega (arith, e, r.1))
    by (suc k) e =
        live_is_left P n m [] r (omega arith) tt (sound-empty P m)
        ∙ (ap (λ (i : ℕ). map (λ q. (m, q)) (rest (sound P m) m (m * P.generators) [] [] 1) ++ flat_map (live_of P) (from (suc m) i)) (count e)
        ∙ ap (λ xs. xs ++ flat_map (live_of P) (from (suc m) k)) (sym (live-of-rest P m)))
      where
        count : suc n ≡ m + suc k → n - m ≡ k
        count e = omega (arith, e)

-- ---- the moves

module _ (p : Passage) where
  pub begins : IsPassage p → Pending p 1 ≡ left_of p
  begins h = sym (live_is_left p.relations p.most p.sheets p.cells h.sheets h.within h.ranged h.sound)

  module _ (h : IsPassage p) (v : ℕ) where
    pub goes-on : v ≤ p.sheets → length p.cells < p.sheets * p.relations.generators → sound p.relations p.sheets (p.cells ++ v ∷ []) ≡ false → Pending p (v + 1) ≡ Pending p v
    goes-on l r e =
        ap (λ (i : ℕ). Pending p i) (next v)
        ∙ ap (λ qs. map (λ q. (p.sheets, q)) qs ++ flat_map (live_of p.relations) (from (suc p.sheets) (p.most - p.sheets)))
        (sym (steps_on (sound p.relations p.sheets) p.sheets (p.sheets * p.relations.generators) [] p.cells v r l e))
      where
        next : (v : ℕ) → v + 1 ≡ suc v
        next v = omega arith

    pub finds : (new : Passage) → v ≤ p.sheets → length p.cells < p.sheets * p.relations.generators → sound p.relations p.sheets (p.cells ++ v ∷ []) ≡ true
        → new.relations ≡ p.relations → new.most ≡ p.most → new.sheets ≡ p.sheets → new.cells ≡ p.cells ++ v ∷ [] → Pending p v ≡ ahead new
    finds new l r e a b d f =
        ap (λ qs. map (λ q. (p.sheets, q)) qs ++ flat_map (live_of p.relations) (from (suc p.sheets) (p.most - p.sheets)))
        (steps_down (sound p.relations p.sheets) p.sheets (p.sheets * p.relations.generators) [] p.cells v r l e)
        ∙ (ap (λ qs. (p.sheets, p.cells ++ v ∷ []) ∷ qs)
        (sym (live_is_left p.relations p.most p.sheets (p.cells ++ v ∷ []) h.sheets longer (sound-ranged p.relations p.sheets (p.cells ++ v ∷ []) e) e))
        ∙ sym same)
      where
        longer : length (p.cells ++ v ∷ []) ≤ p.sheets * p.relations.generators
        longer = omega (arith, r, length-append p.cells (v ∷ []))

        same : ahead new ≡ (p.sheets, p.cells ++ v ∷ []) ∷ live p.relations p.most (p.sheets, p.cells ++ v ∷ [])
        same = rw (a, b, d, f) refl

    pub goes-up : (new : Passage) (y : ℕ) → 0 < length p.cells → (p.sheets < v) ⊎ (length p.cells ≡ p.sheets * p.relations.generators)
        → new ≡ record p { cells = take (length p.cells - 1) p.cells } → y ≡ get_or p.cells (length p.cells - 1) 0 → Pending new (y + 1) ≡ Pending p v
    goes-up new y l e f g =
        ap (λ (q : Passage). Pending q (y + 1)) f
        ∙ ap (λ qs. map (λ q. (p.sheets, q)) qs ++ flat_map (live_of p.relations) (from (suc p.sheets) (p.most - p.sheets)))
        (ap (rest (sound p.relations p.sheets) p.sheets (p.sheets * p.relations.generators) [] (take (length p.cells - 1) p.cells)) (next y ∙ ap suc g)
        ∙ (sym (steps_up (sound p.relations p.sheets) p.sheets (p.sheets * p.relations.generators) [] (take (length p.cells - 1) p.cells) (get_or p.cells (length p.cells - 1) 0) v shorter (either e))
        ∙ ap (λ q. rest (sound p.relations p.sheets) p.sheets (p.sheets * p.relations.generators) [] q v) whole))
      where
        next : (y : ℕ) → y + 1 ≡ suc y
        next y = omega arith

        size : length (take (length p.cells - 1) p.cells) ≡ length p.cells - 1
        size = length-take-le (length p.cells - 1) p.cells (omega arith)

        shorter : length (take (length p.cells - 1) p.cells) < p.sheets * p.relations.generators
        shorter = omega (arith, size, l, h.within)

        whole : take (length p.cells - 1) p.cells ++ get_or p.cells (length p.cells - 1) 0 ∷ [] ≡ p.cells
        whole = sym (take_more p.cells (length p.cells - 1) 0 (omega (arith, l))) ∙ (ap (λ (n : ℕ). take n p.cells) (omega (arith, l)) ∙ take-length p.cells)

        either : (p.sheets < v) ⊎ (length p.cells ≡ p.sheets * p.relations.generators) → (p.sheets < v) ⊎ (length (take (length p.cells - 1) p.cells) + 1 ≡ p.sheets * p.relations.generators)
        either (inl d) = inl d
        either (inr d) = inr (omega (arith, d, size, l))

    none-here : length p.cells ≡ 0 → (p.sheets < v) ⊎ (length p.cells ≡ p.sheets * p.relations.generators) → Pending p v ≡ flat_map (live_of p.relations) (from (suc p.sheets) (p.most - p.sheets))
    none-here l e =
        ap (λ qs. map (λ q. (p.sheets, q)) qs ++ flat_map (live_of p.relations) (from (suc p.sheets) (p.most - p.sheets)))
        (ap (λ q. rest (sound p.relations p.sheets) p.sheets (p.sheets * p.relations.generators) [] q v) (empty p.cells l)
        ∙ steps_out (sound p.relations p.sheets) p.sheets (p.sheets * p.relations.generators) [] v (either e))
      where
        empty : (xs : List ℕ) → length xs ≡ 0 → xs ≡ []
        empty [] l = refl
        empty (x ∷ xs) l = absurd (omega (arith, l))

        either : (p.sheets < v) ⊎ (length p.cells ≡ p.sheets * p.relations.generators) → (p.sheets < v) ⊎ (p.sheets * p.relations.generators ≡ 0)
        either (inl d) = inl d
        either (inr d) = inr (omega (arith, d, l))

    pub goes-out : (new : Passage) → length p.cells ≡ 0 → (p.sheets < v) ⊎ (length p.cells ≡ p.sheets * p.relations.generators) → p.sheets < p.most
        → new ≡ record p { sheets = p.sheets + 1; cells = [] } → Pending new 1 ≡ Pending p v
    goes-out new l e r f =
        ap (λ (q : Passage). Pending q 1) f
        ∙ (sym (live_is_left p.relations p.most (p.sheets + 1) [] (omega arith, omega (arith, r)) (omega arith) tt (sound-empty p.relations (p.sheets + 1)))
        ∙ (from-empty p.relations p.most (p.sheets + 1) (p.most - p.sheets) (omega arith, omega (arith, r)) (omega (arith, r))
        ∙ (ap (λ (i : ℕ). flat_map (live_of p.relations) (from i (p.most - p.sheets))) (next p.sheets) ∙ sym (none-here l e))))
      where
        next : (y : ℕ) → y + 1 ≡ suc y
        next y = omega arith

    pub ends : length p.cells ≡ 0 → (p.sheets < v) ⊎ (length p.cells ≡ p.sheets * p.relations.generators) → p.most ≤ p.sheets → Pending p v ≡ []
    ends l e r = none-here l e ∙ ap (λ (i : ℕ). flat_map (live_of p.relations) (from (suc p.sheets) i)) none
      where
        none : p.most - p.sheets ≡ 0
        none = omega (arith, r)

-- no room for a sheet: it is none, or no cell is left
pub no-room : (v m l n : ℕ) → l ≤ n → (nat_le v m && nat_lt l n) ≡ false → (m < v) ⊎ (l ≡ n)
no-room v m l n h e = by (cases_lt m v) (cases_lt l n)
  where
    by : (m < v) ⊎ (v ≤ m) → (l < n) ⊎ (n ≤ l) → (m < v) ⊎ (l ≡ n)
    by (inl a) b = inl a
    by (inr a) (inr b) = inr (omega (arith, h, b))
    by (inr a) (inl b) = absurd (false≢true (sym e ∙ both))
      where
        both : (nat_le v m && nat_lt l n) ≡ true
        both = rw (le-leb v m a, lt-ltb l n b) refl

pub room-parts : (v m l n : ℕ) → (nat_le v m && nat_lt l n) ≡ true → (v ≤ m) × (l < n)
room-parts v m l n e = let b = and_parts (nat_le v m) (nat_lt l n) e in (leb-true v m b.0, ltb-true l n b.1)

-- after the start come all live partial tables, as after no cell of one sheet
own-after : (a : ℕ) (qs : List (List ℕ)) → 1 ≤ a → filter (comes_after (0, [])) (map (λ q. (a, q)) qs) ≡ map (λ q. (a, q)) qs
own-after a [] l = refl
own-after a (q ∷ qs) l = rw (lt-ltb 0 a l) (ap (λ xs. (a, q) ∷ xs) (own-after a qs l))

all-after : (P : Relations) (a k : ℕ) → 1 ≤ a → filter (comes_after (0, [])) (flat_map (live_of P) (from a k)) ≡ flat_map (live_of P) (from a k)
all-after P a zero l = refl
all-after P a (suc k) l =
    filter-append (comes_after (0, [])) (live_of P a) (flat_map (live_of P) (from (suc a) k))
    ∙ (ap (λ xs. xs ++ filter (comes_after (0, [])) (flat_map (live_of P) (from (suc a) k))) (own-after a (filter (is_live P a) (beyond a (a * P.generators) [])) l)
    ∙ ap (λ xs. live_of P a ++ xs) (all-after P (suc a) k (omega arith)))

pub start-is-one : (P : Relations) (n : ℕ) → 1 ≤ n → live P n (0, []) ≡ live P n (1, [])
start-is-one P n l = all-after P 1 n (omega arith) ∙ sym (from-empty P n 1 n (omega arith, l) (omega arith))
