-- Sound cells, and what a walk through live partial tables shows of what it keeps.
use Rattle.std.proofs.Common.{◌≡◌, ℕ, ◌+◌, ◌-◌, ◌*◌, ◌^◌, ◌<◌, ◌≤◌, List, [], ◌∷◌, ◌++◌, length, take, drop, get_or, refl, ap, arith, sym, subst, ◌∙◌, Bool, true, false, ◌&&◌, All}
use Rattle.std.specs.Prelude.{◌==◌, nat_le, ℤ, Some, None}
use Rattle.std.specs.List.{AllByRecursion}
use Rattle.std.proofs.lemmas.Bool.{eq-eqb, and_parts, leb-true, false_from_ne_true, false≢true}
use Rattle.std.proofs.lemmas.List.{take-append-drop, take_more, length-append, length-take-le}
use Rattle.std.proofs.lemmas.List.Elements.{All-tail, All-cons, All-nil, All-get_or}
use Rattle.std.proofs.Math.Nat.{mul-le-mul_right}
use Rattle.number_lists.proofs.CallerLemmas.{and-left, and-right, In-all}
use Rattle.sheet_laws.specs.Permutations.{InRange}
use Rattle.live_laws.specs.Trees.{from}
use Rattle.live_laws.specs.Walks.{trace, never_fails}
use Rattle.live_laws.specs.Live.{Relations, may_follow, follows, sound}
use Rattle.live_laws.proofs.CallerLemmas.{sound_closed}
use Rattle.cover_search.specs.Columns.{Partial, IsPartial, IsWalker}
use Rattle.cover_search.specs.Courses.{IsCourse, IsPassage}
use Rattle.cover_search.proofs.Placing.{next_of}
use Rattle.cover_search.proofs.Raising.{led-none}

-- ---- elements

pub by-recursion : {X : Type 0} (P : X → Type 0) (xs : List X) → All P xs → AllByRecursion P xs
by-recursion P [] h = tt
by-recursion P (x ∷ xs) h = (h 0 x (omega arith), by-recursion P xs (All-tail P x xs h))

pub from-recursion : {X : Type 0} (P : X → Type 0) (xs : List X) → AllByRecursion P xs → All P xs
from-recursion P [] h = All-nil P
from-recursion P (x ∷ xs) h = All-cons P x xs h.0 (from-recursion P xs h.1)

-- ---- sound cells

-- cells that meet the rules are sheets
pub ranged-by-rules : (c m : ℕ) (q p : List ℕ) → follows c m q p ≡ true → AllByRecursion (InRange m) p
ranged-by-rules c m q [] e = tt
ranged-by-rules c m q (x ∷ p) e =
    let n = next_of c m q x (and-left (may_follow c m q x) _ e) in
    ((n.least, n.most), ranged-by-rules c m (q ++ x ∷ []) p (and-right (may_follow c m q x) _ e))

never-fails-empty : (c m : ℕ) (w : List ℤ) → never_fails c m [] w ≡ true
never-fails-empty c m w = In-all (λ s. elim (trace c m [] w s) [ None ↦ true | Some t ↦ t == s ]) (from 1 m) (λ s i. one w s)
  where
    one : (w : List ℤ) (s : ℕ) → elim (trace c m [] w s) [ None ↦ true | Some t ↦ t == s ] ≡ true
    one [] s = eq-eqb s s refl
    one (g ∷ w) s = rw (led-none c m g s) refl

pub sound-empty : (P : Relations) (m : ℕ) → sound P m [] ≡ true
sound-empty P m = In-all (never_fails P.generators m []) P.relators (λ w i. never-fails-empty P.generators m w)

pub sound-take : (P : Relations) (m n : ℕ) (p : List ℕ) → sound P m p ≡ true → sound P m (take n p) ≡ true
sound-take P m n p e = sound_closed P m (take n p) (drop n p) (ap (sound P m) (take-append-drop n p) ∙ e)

pub sound-ranged : (P : Relations) (m : ℕ) (p : List ℕ) → sound P m p ≡ true → AllByRecursion (InRange m) p
sound-ranged P m p e = ranged-by-rules P.generators m [] p (and-left (follows P.generators m [] p) _ e)

-- there are no more cells than places for them
follows-within : (c m : ℕ) (q p : List ℕ) → follows c m q p ≡ true → length q ≤ m * c → length q + length p ≤ m * c
follows-within c m q [] e l = omega (arith, l)
follows-within c m q (x ∷ p) e l =
    let n = next_of c m q x (and-left (may_follow c m q x) _ e) in
    let long : length (q ++ x ∷ []) ≡ length q + 1 = length-append q (x ∷ []) in
    let r = follows-within c m (q ++ x ∷ []) p (and-right (may_follow c m q x) _ e) (omega (arith, long, n.room)) in
    omega (arith, r, long)

pub sound-within : (P : Relations) (m : ℕ) (p : List ℕ) → sound P m p ≡ true → length p ≤ m * P.generators
sound-within P m p e = let r = follows-within P.generators m [] p (and-left (follows P.generators m [] p) _ e) (omega arith) in omega (arith, r)

-- sound cells find room where the most that there can be do
pub sound-fits : (P : Relations) (m n room : ℕ) (p : List ℕ) → (nat_le m n && sound P m p) ≡ true → n * P.generators ≤ room → length p ≤ room
sound-fits P m n room p e l =
    let b = and_parts (nat_le m n) (sound P m p) e in
    omega (arith, sound-within P m p b.1, mul-le-mul_right P.generators (leb-true m n b.0), l)

-- cells of which a beginning is not sound
pub refused-all : (P : Relations) (m n i : ℕ) (p : List ℕ) → i < length p → sound P m (take i p ++ get_or p i 0 ∷ []) ≡ false → false ≡ (nat_le m n && sound P m p)
refused-all P m n i p l e = sym (ap (λ b. nat_le m n && b) none ∙ nothing (nat_le m n))
  where
    nothing : (b : Bool) → (b && false) ≡ false
    nothing true = refl
    nothing false = refl

    none : sound P m p ≡ false
    none = false_from_ne_true (sound P m p) (λ k. false≢true (sym e ∙ (ap (sound P m) (sym (take_more p i 0 l)) ∙ sound-take P m (i + 1) p k)))

pub last-ranged : (m : ℕ) (p : List ℕ) → AllByRecursion (InRange m) p → 0 < length p → InRange m (get_or p (length p - 1) 0)
last-ranged m p h l = All-get_or (InRange m) p (length p - 1) 0 (omega (arith, l)) (from-recursion (InRange m) p h)

-- ---- what is seen

pub partial_of : (c m n at : ℕ) (cells seen : List ℕ) (forward backward : List (List ℕ)) → IsWalker c m n at cells seen forward backward
    → IsPartial (record { columns = c; sheets = m; room = n; cells = take at cells; written = cells })
partial_of c m n at cells seen forward backward w =
    let long : length (take at cells) ≡ at = length-take-le at cells (omega (arith, w.within, w.room)) in
    record {
      least = w.least;
      most = w.most;
      kept = w.kept;
      top = w.top;
      few = w.few;
      within = omega (arith, long, w.within);
      room = w.room;
      rules = w.rules;
      cells = ap (λ n. take n cells) (sym long);
    }

pub passage_of : (P : Relations) (index : List (List ℕ)) (w : Partial) → IsCourse P index w
    → IsPassage (record { relations = P; most = w.room; sheets = w.sheets; cells = w.cells; written = w.written })
passage_of P index w h = record {
  sheets = (h.partial.least, h.partial.kept);
  most = h.partial.top;
  few = subst (λ n. n < 2 ^ 32) h.columns h.partial.few;
  within = subst (λ n. length w.cells ≤ w.sheets * n) h.columns h.partial.within;
  ranged = sound-ranged P w.sheets w.cells h.sound;
  sound = h.sound;
  room = omega (arith, h.partial.within, h.partial.room);
  cells = h.partial.cells;
}
