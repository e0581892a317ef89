-- Letters and words, read off the columns.
use Rattle.std.proofs.Common.{◌≡◌, ◌≢◌, ℕ, zero, suc, ◌+◌, ◌-◌, ◌*◌, ◌<◌, ◌≤◌, ◌/◌, ◌%◌, zero-add, List, [], ◌∷◌, ◌++◌, length, refl, ap, arith, sym, ◌∙◌, subst, Bool, true, false, ◌&&◌, drop, take, get_or, drop-cons, ◌⊎◌, inl, inr}
use Rattle.std.specs.Prelude.{if◌then◌else◌}
use Rattle.std.specs.Prelude.{◌==◌, nat_lt, ℤ, pos, negsuc, Option, Some, None, find, slice_get}
use Rattle.std.proofs.lemmas.Bool.{lt-ltb, ltb-true, eqb-true, eq-eqb, le-leb}
use Rattle.std.proofs.lemmas.Option.{slice_get-get_or}
use Rattle.std.proofs.lemmas.List.{get_or-map, get_or_read, length-map, length-take-le}
use Rattle.std.proofs.lemmas.List.Elements.{All-get_or, All-from_get_or}
use Rattle.std.specs.Prelude.{All}
use Rattle.std.specs.List.{list_all}
use Rattle.std.proofs.Math.Nat.{eq-or-lt_of_le}
use Rattle.lane_rows.specs.Lanes.{composed}
use Rattle.number_lists.proofs.CallerLemmas.{and-left, and-right}
use Rattle.live_laws.specs.Trees.{from}
use Rattle.live_laws.specs.Walks.{is_entry, led, trace, never_fails, AreLetters}
use Rattle.live_laws.specs.Live.{appeared, taken, may_follow, follows}
use Rattle.live_laws.proofs.CallerLemmas.{taken-some}
use Rattle.cover_search.specs.Columns.{Partial, IsPartial, IsWalker, byte_of, step, bytes, behind, ended, no_other}
use Rattle.cover_search.proofs.Placing.{Next, next_of, bytes-length, bytes-at, Spot, spot, find-none, not_taken}

-- the sheets that entries and inverses name
cell-range : (c m : ℕ) (q p : List ℕ) (i t : ℕ) → follows c m q p ≡ true → slice_get p i ≡ Some t → (0 < t) × (t ≤ m)
cell-range c m q [] i t e h = absurd (grind (arith, h))
cell-range c m q (x ∷ p) zero t e h = let n : Next c m q x = next_of c m q x (and-left (may_follow c m q x) _ e) in (subst (λ v. 0 < v) (same x t h) n.least, subst (λ v. v ≤ m) (same x t h) n.most)
  where
    same : (a b : ℕ) → Some a ≡ Some b → a ≡ b
    same a b e = grind (arith, e)
cell-range c m q (x ∷ p) (suc i) t e h = cell-range c m (q ++ x ∷ []) p i t (and-right (may_follow c m q x) _ e) h

find-range : (f : ℕ → Bool) (a n t : ℕ) → find f (from a n) ≡ Some t → (a ≤ t) × (t < a + n)
find-range f a zero t e = absurd (grind (arith, e))
find-range f a (suc n) t e = one (f a) refl (λ h. find-range f (suc a) n t h)
  where
    same : (x y : ℕ) → Some x ≡ Some y → x ≡ y
    same x y e = grind (arith, e)

    one : (b : Bool) → f a ≡ b → (find f (from (suc a) n) ≡ Some t → (suc a ≤ t) × (t < suc a + n)) → (a ≤ t) × (t < a + suc n)
    one true k next = let i : a ≡ t = same a t (rw k at e) in (omega (arith, i), omega (arith, i))
    one false k next = let r = next (rw k at e) in (omega (arith, r.0), omega (arith, r.1))

led-range : (c m : ℕ) (p : List ℕ) (l : ℤ) (s t : ℕ) → follows c m [] p ≡ true → led c m p l s ≡ Some t → (0 < t) × (t ≤ m)
led-range c m p (pos g) s t e h = cell-range c m [] p (c * (s - 1) + (g - 1)) t e h
led-range c m p (negsuc g) s t e h = let r = find-range (λ u. is_entry c p u (suc g) s) 1 m t h in (r.0, omega (arith, r.1))

-- what the byte of a letter says
pub record Read (c m : ℕ) (p : List ℕ) (l : ℤ) (s x : ℕ) : Type 0 where
  pub missing : x ≡ 255 → None ≡ led c m p l (suc s)
  pub there : x ≢ 255 → Some (suc x) ≡ led c m p l (suc s)
  pub within : x ≢ 255 → x < m

pub read_of : (c m : ℕ) (p : List ℕ) (l : ℤ) (s x : ℕ) → follows c m [] p ≡ true → m ≤ 8 → s < m → x ≡ step c m p l s → Read c m p l s x
read_of c m p l s x e k h i = one (led c m p l (suc s)) refl (i ∙ plain (nat_lt s m) (lt-ltb s m h))
  where
    plain : (b : Bool) → b ≡ true → (if b then byte_of (led c m p l (suc s)) else s) ≡ byte_of (led c m p l (suc s))
    plain true z = refl
    plain false z = absurd (grind (arith, z))

    one : (o : Option ℕ) → led c m p l (suc s) ≡ o → x ≡ byte_of (led c m p l (suc s)) → Read c m p l s x
    one None z w = let y : x ≡ 255 = w ∙ ap byte_of z in record { missing = λ _. sym z; there = λ n. absurd (n y); within = λ n. absurd (n y) }
    one (Some t) z w =
        let r = led-range c m p l (suc s) t e z in
        let y : x ≡ t - 1 = w ∙ ap byte_of z in
        record { missing = λ n. absurd (clash t r.0 r.1 y n); there = λ _. ap Some (next t r.0 y) ∙ sym z; within = λ _. low t r.0 r.1 y }
      where
        clash : (t : ℕ) → 0 < t → t ≤ m → x ≡ t - 1 → x ≡ 255 → ⊥
        clash t a b y n = omega (arith, a, b, y, n, k)

        next : (t : ℕ) → 0 < t → x ≡ t - 1 → suc x ≡ t
        next t a y = omega (arith, a, y)

        low : (t : ℕ) → 0 < t → t ≤ m → x ≡ t - 1 → x < m
        low t a b y = omega (arith, a, b, y)

pub byte_read : (t : Partial) (l : ℤ) (s : ℕ) (row : List ℕ) → IsPartial t → s < t.sheets → row ≡ bytes t.columns t.sheets t.cells l → Read t.columns t.sheets t.cells l s (get_or row s 0)
byte_read t l s row v h e = read_of t.columns t.sheets t.cells l s (get_or row s 0) v.rules v.most h
    (ap (λ r. get_or r s 0) e ∙ bytes-at t.columns t.sheets t.cells l s (omega (arith, h, v.most)))

-- ---- all sheets at once

-- past the last sheet a letter stays
step-past : (c m : ℕ) (p : List ℕ) (l : ℤ) (s : ℕ) → nat_lt s m ≡ false → step c m p l s ≡ s
step-past c m p l s e = rw e refl

-- one letter of the word is walked
ended-more : (c m : ℕ) (p : List ℕ) (l : ℤ) (w : List ℤ) (s x : ℕ) → follows c m [] p ≡ true → m ≤ 8 → x ≡ step c m p l s → x < 8 → ended c m p (l ∷ w) s ≡ ended c m p w x
ended-more c m p l w s x e k i h = one (nat_lt s m) refl
  where
    far : x ≡ 255 → ⊥
    far j = omega (arith, j, h)

    one : (b : Bool) → nat_lt s m ≡ b → ended c m p (l ∷ w) s ≡ ended c m p w x
    one true z =
        let r : Read c m p l s x = read_of c m p l s x e k (ltb-true s m z) i in
        ap (λ b. (if b then trace c m p (l ∷ w) (suc s) else Some (suc s))) z
        ∙ (ap (λ o. elim o [ None ↦ None | Some t ↦ trace c m p w t ]) (sym (r.there far))
        ∙ sym (ap (λ b. (if b then trace c m p w (suc x) else Some (suc x))) (lt-ltb x m (r.within far))))
    one false z = let j : x ≡ s = i ∙ step-past c m p l s z in
        ap (λ b. (if b then trace c m p (l ∷ w) (suc s) else Some (suc s))) z
        ∙ sym (subst (λ v. ended c m p w v ≡ Some (suc s)) (sym j) (ap (λ b. (if b then trace c m p w (suc s) else Some (suc s))) z))

-- no letter is left
pub ended-done : (c m : ℕ) (p : List ℕ) (s : ℕ) → ended c m p [] s ≡ Some (suc s)
ended-done c m p s = one (nat_lt s m)
  where
    one : (b : Bool) → ◌≡◌ {A = Option ℕ} (if b then Some (suc s) else Some (suc s)) (Some (suc s))
    one true = refl
    one false = refl

-- the bytes stand for what has been walked of the word
pub record Walked (t : Partial) (word left : List ℤ) (row : List ℕ) : Type 0 where
  pub letters : AreLetters t.columns left
  pub long : length row ≡ 8
  pub below : All (λ s. s < 8) row
  pub same : (s : ℕ) → s < 8 → ended t.columns t.sheets t.cells left (get_or row s 0) ≡ ended t.columns t.sheets t.cells word s

pub walked-more : (t : Partial) (word w : List ℤ) (l : ℤ) (row column : List ℕ) → IsPartial t → Walked t word (l ∷ w) row → column ≡ bytes t.columns t.sheets t.cells l → All (λ s. s < 8) column → Walked t word w (composed row column)
walked-more t word w l row column v h e a = record {
  letters = h.letters.1;
  long = wide ∙ h.long;
  below = All-from_get_or (λ s. s < 8) (composed row column) 0 (λ i k. let j : i < length row = subst (λ n. i < n) wide k in
      subst (λ x. x < 8) (sym (get_or-map (λ s. get_or column s 0) row i 0 0 j)) (All-get_or (λ s. s < 8) column (get_or row i 0) 0 (subst (λ n. get_or row i 0 < n) (sym long) (All-get_or (λ s. s < 8) row i 0 j h.below)) a));
  same = λ s k. let j : s < length row = subst (λ n. s < n) (sym h.long) k in
      let b : get_or row s 0 < 8 = All-get_or (λ s. s < 8) row s 0 j h.below in
      ap (λ x. ended t.columns t.sheets t.cells w x) (get_or-map (λ s. get_or column s 0) row s 0 0 j)
      ∙ (sym (ended-more t.columns t.sheets t.cells l w (get_or row s 0) (get_or column (get_or row s 0) 0) v.rules v.most
      (ap (λ r. get_or r (get_or row s 0) 0) e ∙ bytes-at t.columns t.sheets t.cells l (get_or row s 0) b)
      (All-get_or (λ s. s < 8) column (get_or row s 0) 0 (subst (λ n. get_or row s 0 < n) (sym long) b) a))
      ∙ h.same s k);
}
  where
    wide : length (composed row column) ≡ length row
    wide = length-map row (λ s. get_or column s 0)

    long : length column ≡ 8
    long = ap length e ∙ bytes-length t.columns t.sheets t.cells l

pub walked-at : (t : Partial) (word : List ℤ) (i : ℕ) (d : ℤ) (row column : List ℕ) → IsPartial t → Walked t word (drop i word) row → i < length word → column ≡ bytes t.columns t.sheets t.cells (get_or word i d) → All (λ s. s < 8) column
    → Walked t word (drop (i + 1) word) (composed row column)
walked-at t word i d row column v h l e a = walked-more t word (drop (i + 1) word) (get_or word i d) row column v
    (subst (λ w. Walked t word w row) (drop-cons word i d l ∙ ap (λ n. get_or word i d ∷ drop n word) (plain i)) h) e a
  where
    plain : (i : ℕ) → suc i ≡ i + 1
    plain i = omega arith

-- ---- all sheets

pub all_hold : (f : ℕ → Bool) (a n : ℕ) → ((s : ℕ) → s < a + n → f s ≡ true) → list_all f (from a n) ≡ true
all_hold f a zero h = refl
all_hold f a (suc n) h = rw (h a (omega arith)) (all_hold f (suc a) n (λ s k. h s (omega (arith, k))))

pub one_fails : (f : ℕ → Bool) (a n s : ℕ) → a ≤ s → s < a + n → f s ≡ false → list_all f (from a n) ≡ false
one_fails f a zero s l h e = absurd (omega (arith, l, h))
one_fails f a (suc n) s l h e = one (eq-or-lt_of_le l) (λ j. one_fails f (suc a) n s (omega (arith, j)) (omega (arith, h)) e)
  where
    none : (b : Bool) → (b && false) ≡ false
    none true = refl
    none false = refl

    one : (a ≡ s) ⊎ (a < s) → (a < s → list_all f (from (suc a) n) ≡ false) → (f a && list_all f (from (suc a) n)) ≡ false
    one (inl j) next = rw (subst (λ v. f v ≡ false) (sym j) e) refl
    one (inr j) next = rw (next j) (none (f a))

-- sheets from 0 and from 1
pub one_up : (f g : ℕ → Bool) (a n : ℕ) → ((s : ℕ) → s < a + n → f s ≡ g (suc s)) → list_all f (from a n) ≡ list_all g (from (suc a) n)
one_up f g a zero h = refl
one_up f g a (suc n) h = rw (h a (omega arith)) (ap (λ b. g (suc a) && b) (one_up f g (suc a) n (λ s k. h s (omega (arith, k)))))

pub kept_by_all : (t : Partial) (w : List ℤ) → ((s : ℕ) → s < t.sheets → no_other (trace t.columns t.sheets t.cells w (suc s)) (suc s) ≡ true) → true ≡ never_fails t.columns t.sheets t.cells w
kept_by_all t w h = sym (sym (one_up (λ s. no_other (trace t.columns t.sheets t.cells w (suc s)) (suc s)) (λ s. no_other (trace t.columns t.sheets t.cells w s) s) 0 t.sheets (λ s _. refl)) ∙ all_hold (λ s. no_other (trace t.columns t.sheets t.cells w (suc s)) (suc s)) 0 t.sheets (λ s k. h s (omega (arith, k))))

pub lost_by_one : (t : Partial) (w : List ℤ) (s : ℕ) → s < t.sheets → no_other (trace t.columns t.sheets t.cells w (suc s)) (suc s) ≡ false → false ≡ never_fails t.columns t.sheets t.cells w
lost_by_one t w s l e = sym (sym (one_up (λ s. no_other (trace t.columns t.sheets t.cells w (suc s)) (suc s)) (λ s. no_other (trace t.columns t.sheets t.cells w s) s) 0 t.sheets (λ s _. refl)) ∙ one_fails (λ s. no_other (trace t.columns t.sheets t.cells w (suc s)) (suc s)) 0 t.sheets s (omega arith) (omega (arith, l)) e)

pub differ : (a b : ℕ) → a ≢ b → (a == b) ≡ false
differ a b h = one (a == b) refl
  where
    one : (v : Bool) → (a == b) ≡ v → v ≡ false
    one true e = absurd (h (eqb-true a b e))
    one false e = refl

-- what the bytes of the round say
pub kept_at_once : (t : Partial) (w : List ℤ) (ends : List ℕ) → IsPartial t → ((s : ℕ) → s < 8 → ended t.columns t.sheets t.cells w s ≡ Some (suc (get_or ends s 0)))
    → list_all (λ s. get_or ends s 0 == s) (from 0 t.sheets) ≡ never_fails t.columns t.sheets t.cells w
kept_at_once t w ends v h = one_up (λ s. get_or ends s 0 == s) (λ s. no_other (trace t.columns t.sheets t.cells w s) s) 0 t.sheets (λ s k. at s (omega (arith, k)))
  where
    same : (a b : ℕ) → (a == b) ≡ (suc a == suc b)
    same a b = grind arith

    at : (s : ℕ) → s < t.sheets → (get_or ends s 0 == s) ≡ no_other (trace t.columns t.sheets t.cells w (suc s)) (suc s)
    at s k = same (get_or ends s 0) s ∙ ap (λ o. no_other o (suc s)) (sym (h s (omega (arith, k, v.most))) ∙ ap (λ b. (if b then trace t.columns t.sheets t.cells w (suc s) else Some (suc s))) (lt-ltb s t.sheets k))

-- ---- whether a sheet may come next

find-none-at : (f : ℕ → Bool) (a n t : ℕ) → find f (from a n) ≡ None → a ≤ t → t < a + n → f t ≡ false
find-none-at f a zero t e l h = absurd (omega (arith, l, h))
find-none-at f a (suc n) t e l h = one (f a) refl (eq-or-lt_of_le l) (λ k j. find-none-at f (suc a) n t k (omega (arith, j)) (omega (arith, h)))
  where
    one : (b : Bool) → f a ≡ b → (a ≡ t) ⊎ (a < t) → (find f (from (suc a) n) ≡ None → a < t → f t ≡ false) → f t ≡ false
    one true k i next = absurd (grind (arith, rw k at e))
    one false k (inl j) next = subst (λ v. f v ≡ false) j k
    one false k (inr j) next = next (rw k at e) j

-- what no row leads to is not taken
untaken : (c m : ℕ) (p : List ℕ) (x : ℕ) → length p < m * c → led c m p (behind (length p % c)) x ≡ None → taken c (length p) x 0 p ≡ false
untaken c m p x l e = one (taken c (length p) x 0 p) refl
  where
    clash : {b : Bool} → b ≡ true → b ≡ false → ⊥
    clash x y = grind (arith, sym x ∙ y)

    less : (n : ℕ) → suc n - 1 ≡ n
    less n = omega arith

    one : (b : Bool) → taken c (length p) x 0 p ≡ b → b ≡ false
    one false h = refl
    one true h =
        let r = taken-some c (length p) x 0 p h in
        let q : Spot c m r.place (r.place / c) (r.place % c) = spot c m r.place (omega (arith, r.within, l)) in
        let k : r.place % c ≡ length p % c = ap (λ n. n % c) (sym (zero-add r.place)) ∙ r.same_column in
        let place : c * (suc (r.place / c) - 1) + (suc (length p % c) - 1) ≡ r.place = ap (λ n. c * n + (suc (length p % c) - 1)) (less (r.place / c)) ∙ (ap (λ n. c * (r.place / c) + n) (less (length p % c) ∙ sym k) ∙ sym q.place) in
        let is : slice_get p r.place ≡ Some x = slice_get-get_or p r.place 0 r.within ∙ ap (λ (n : ℕ). Some n) r.same in
        absurd (clash (ap (λ o. elim o [ None ↦ false | Some v ↦ v == x ]) (ap (slice_get p) place ∙ is) ∙ eq-eqb x x refl)
        (find-none-at (λ u. is_entry c p u (suc (length p % c)) x) 1 m (suc (r.place / c)) e (omega arith) (omega (arith, q.row))))

pub told : (c m : ℕ) (p : List ℕ) (x b : ℕ) → follows c m [] p ≡ true → m ≤ 8 → length p < m * c → 0 < x → x ≤ m → x ≤ suc (appeared 1 p) → suc (length p / c) ≤ appeared 1 p
    → b ≡ step c m p (behind (length p % c)) (x - 1) → (b == 255) ≡ may_follow c m p x
told c m p x b e k l h i f g w = one (b == 255) refl
  where
    r : Read c m p (behind (length p % c)) (x - 1) b
    r = read_of c m p (behind (length p % c)) (x - 1) b e k (omega (arith, h, i)) w

    next : suc (x - 1) ≡ x
    next = omega (arith, h)

    six : taken c (length p) x 0 p ≡ false → true ≡ may_follow c m p x
    six z = rw (lt-ltb (length p) (m * c) l, le-leb 1 x h, le-leb x m i, le-leb x (suc (appeared 1 p)) f, le-leb (suc (length p / c)) (appeared 1 p) g, z) refl

    clash : (o : Option ℕ) (t : ℕ) → o ≡ None → Some t ≡ o → ⊥
    clash o t x y = grind (arith, y ∙ x)

    refuse : b ≢ 255 → (v : Bool) → may_follow c m p x ≡ v → false ≡ v
    refuse y false z = refl
    refuse y true z = let n : Next c m p x = next_of c m p x z in
        let q : Spot c m (length p) (length p / c) (length p % c) = spot c m (length p) l in
        absurd (clash (led c m p (behind (length p % c)) x) (suc b)
        (find-none (λ u. is_entry c p u (suc (length p % c)) x) (from 1 m) (λ u. not_taken c p (length p % c) x u q.column refl n.free))
        (r.there y ∙ ap (led c m p (behind (length p % c))) next))

    one : (v : Bool) → (b == 255) ≡ v → v ≡ may_follow c m p x
    one true z = six (untaken c m p x l (sym (r.missing (eqb-true b 255 z) ∙ ap (led c m p (behind (length p % c))) next)))
    one false z = refuse (λ j. absurd (apart z (eq-eqb b 255 j))) (may_follow c m p x) refl
      where
        apart : {b : Bool} → b ≡ false → b ≡ true → ⊥
        apart x y = grind (arith, sym x ∙ y)

pub may_at : (c m n at : ℕ) (cells seen : List ℕ) (forward backward : List (List ℕ)) (x h : ℕ) (row : List ℕ) → IsWalker c m n at cells seen forward backward → at < m * c → 0 < x → x ≤ m
    → h ≡ get_or seen at h → x - 1 ≤ h → at / c < h → row ≡ get_or backward (at % c) row → (get_or row (x - 1) 0 == 255) ≡ may_follow c m (take at cells) x
may_at c m n at cells seen forward backward x h row w lt a b u f g v =
    let long : length (take at cells) ≡ at = length-take-le at cells (omega (arith, lt, w.room)) in
    let q : Spot c m at (at / c) (at % c) = spot c m at lt in
    let top : h ≡ appeared 1 (take at cells) = get_or_read seen at h (omega (arith, lt, w.seen_room)) u 0 ∙ w.seen_holds at (omega arith) in
    let e : row ≡ bytes c m (take at cells) (behind (at % c)) = get_or_read backward (at % c) row (omega (arith, q.column, w.backwards)) v [] ∙ w.backward_holds (at % c) q.column in
    let byte : get_or row (x - 1) 0 ≡ step c m (take at cells) (behind (at % c)) (x - 1) = ap (λ r. get_or r (x - 1) 0) e ∙ bytes-at c m (take at cells) (behind (at % c)) (x - 1) (omega (arith, a, b, w.most)) in
    told c m (take at cells) x (get_or row (x - 1) 0) w.rules w.most (omega (arith, long, lt)) a b (omega (arith, f, top))
    (subst (λ n. suc (n / c) ≤ appeared 1 (take at cells)) (sym long) (omega (arith, g, top)))
    (subst (λ n. get_or row (x - 1) 0 ≡ step c m (take at cells) (behind (n % c)) (x - 1)) (sym long) byte)
