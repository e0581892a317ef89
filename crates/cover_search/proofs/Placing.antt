-- One cell more, or one less, and what it does to the columns.
use Rattle.std.proofs.Common.{◌≡◌, ℕ, zero, suc, ◌+◌, ◌-◌, ◌*◌, ◌/◌, ◌%◌, ◌<◌, ◌≤◌, List, [], ◌∷◌, ◌++◌, length, refl, ap, arith, sym, ◌∙◌, subst, ◌⊎◌, inl, inr, Bool, true, false, ◌&&◌, ◌||◌, take, get_or, get_or-set_same, get_or-set_other, length-set}
use Rattle.std.specs.Prelude.{if◌then◌else◌}
use Rattle.std.specs.Prelude.{◌==◌, not, nat_lt, nat_le, ℤ, Option, Some, None, find, slice_get, slice_set, slice_index_or, max}
use Rattle.std.proofs.lemmas.Bool.{eqb-true, eq-eqb, ltb-true, leb-true, lt-ltb}
use Rattle.std.proofs.lemmas.List.{get_or-map, get_or_read, take_more, take_more_set, take-set-le, length-take-le}
use Rattle.number_lists.proofs.CallerLemmas.{and-left, and-right}
use Rattle.std.proofs.lemmas.Grind.{same_number_lists}
use Rattle.std.proofs.lemmas.Nat.{div-mul-add, mod-mul-add, div_below}
use Rattle.std.proofs.lemmas.Option.{slice_get_past}
use Rattle.std.proofs.Math.Nat.{eq-or-lt_of_le, mod-lt, div-add-mod, mul-zero}
use Rattle.live_laws.specs.Trees.{from}
use Rattle.live_laws.specs.Walks.{entry, is_entry}
use Rattle.live_laws.specs.Live.{appeared, taken, may_follow, follows}
use Rattle.live_laws.proofs.CallerLemmas.{follows-append, appeared-append}
use Rattle.cover_search.specs.Columns.{byte_of, step, bytes, ahead, behind, Holds, IsWalker}

-- ---- tests

or-right : (a b : Bool) → b ≡ true → (a || b) ≡ true
or-right true b e = refl
or-right false b e = e

-- ---- the rules over a list of two parts

pub follows-more : (c m : ℕ) (p : List ℕ) (x : ℕ) → follows c m [] p ≡ true → may_follow c m p x ≡ true → follows c m [] (p ++ x ∷ []) ≡ true
follows-more c m p x e h = follows-append c m [] p (x ∷ []) ∙ both (follows c m [] p) (may_follow c m p x) e h
  where
    both : (a b : Bool) → a ≡ true → b ≡ true → (a && (b && true)) ≡ true
    both true true e h = refl
    both true false e h = h
    both false b e h = e

pub follows-less : (c m : ℕ) (p : List ℕ) (x : ℕ) → follows c m [] (p ++ x ∷ []) ≡ true → (follows c m [] p ≡ true) × (may_follow c m p x ≡ true)
follows-less c m p x e = let h : (follows c m [] p && follows c m p (x ∷ [])) ≡ true = sym (follows-append c m [] p (x ∷ [])) ∙ e in
    (and-left (follows c m [] p) _ h, and-left (may_follow c m p x) _ (and-right (follows c m [] p) _ h))

-- ---- what may follow

pub record Next (c m : ℕ) (p : List ℕ) (x : ℕ) : Type 0 where
  pub room : length p < m * c
  pub least : 1 ≤ x
  pub most : x ≤ m
  pub fresh : x ≤ suc (appeared 1 p)
  pub reached : suc (length p / c) ≤ appeared 1 p
  pub free : taken c (length p) x 0 p ≡ false

pub next_of : (c m : ℕ) (p : List ℕ) (x : ℕ) → may_follow c m p x ≡ true → Next c m p x
next_of c m p x e =
    let a : nat_lt (length p) (m * c) ≡ true = and-left (nat_lt (length p) (m * c)) _ e in
    let r = and-right (nat_lt (length p) (m * c)) _ e in
    let b : (nat_le 1 x && nat_le x m) ≡ true = and-left (nat_le 1 x && nat_le x m) _ r in
    let f : nat_le x (suc (appeared 1 p)) ≡ true = and-left (nat_le x (suc (appeared 1 p))) _ (and-right (nat_le 1 x && nat_le x m) _ r) in
    let g : nat_le (suc (length p / c)) (appeared 1 p) ≡ true = and-left (nat_le (suc (length p / c)) (appeared 1 p)) _ (and-right (nat_le x (suc (appeared 1 p))) _ (and-right (nat_le 1 x && nat_le x m) _ r)) in
    let s = and-right (nat_le (suc (length p / c)) (appeared 1 p)) _ (and-right (nat_le x (suc (appeared 1 p))) _ (and-right (nat_le 1 x && nat_le x m) _ r)) in
    record { room = ltb-true (length p) (m * c) a; least = leb-true 1 x (and-left (nat_le 1 x) _ b); most = leb-true x m (and-right (nat_le 1 x) _ b); fresh = leb-true x (suc (appeared 1 p)) f; reached = leb-true (suc (length p / c)) (appeared 1 p) g; free = opposite (taken c (length p) x 0 p) s }
  where
    opposite : (b : Bool) → not b ≡ true → b ≡ false
    opposite true e = grind (arith, e)
    opposite false e = refl

-- ---- entries

get-more : (p : List ℕ) (x : ℕ) → slice_get (p ++ x ∷ []) (length p) ≡ Some x
get-more [] x = refl
get-more (y ∷ p) x = get-more p x

get-other : (p : List ℕ) (x i : ℕ) → (i ≡ length p → ⊥) → slice_get (p ++ x ∷ []) i ≡ slice_get p i
get-other [] x zero h = absurd (h refl)
get-other [] x (suc i) h = refl
get-other (y ∷ p) x zero h = refl
get-other (y ∷ p) x (suc i) h = get-other p x i (λ e. h (ap suc e))

-- a place is in one row and one column
place_row : (c r g s h : ℕ) → g < c → h < c → c * r + g ≡ c * s + h → r ≡ s
place_row c r g s h l k e = sym (div-mul-add r c g l) ∙ (ap (λ i. i / c) (turn c r g ∙ (e ∙ sym (turn c s h))) ∙ div-mul-add s c h k)
  where
    turn : (c r g : ℕ) → r * c + g ≡ c * r + g
    turn c r g = grind arith

place_column : (c r g s h : ℕ) → g < c → h < c → c * r + g ≡ c * s + h → g ≡ h
place_column c r g s h l k e = sym (mod-mul-add r c g l) ∙ (ap (λ i. i % c) (turn c r g ∙ (e ∙ sym (turn c s h))) ∙ mod-mul-add s c h k)
  where
    turn : (c r g : ℕ) → r * c + g ≡ c * r + g
    turn c r g = grind arith

-- a number that stands in these cells is taken
taken-there : (c j x i : ℕ) (ys : List ℕ) (k : ℕ) → slice_get ys k ≡ Some x → (i + k) % c ≡ j % c → taken c j x i ys ≡ true
taken-there c j x i [] k e h = absurd (grind (arith, e))
taken-there c j x i (y ∷ ys) zero e h = here (eq-eqb (i % c) (j % c) (ap (λ n. n % c) (plain i) ∙ h)) (eq-eqb x y (same y x e))
  where
    plain : (i : ℕ) → i ≡ i + 0
    plain i = omega arith

    same : (a b : ℕ) → Some a ≡ Some b → b ≡ a
    same a b e = grind (arith, e)

    here : (i % c == j % c) ≡ true → (x == y) ≡ true → (((i % c == j % c) && (x == y)) || taken c j x (suc i) ys) ≡ true
    here a b = rw a (rw b refl)
taken-there c j x i (y ∷ ys) (suc k) e h = or-right ((i % c == j % c) && (x == y)) (taken c j x (suc i) ys) (taken-there c j x (suc i) ys k e (ap (λ n. n % c) (plain i k) ∙ h))
  where
    plain : (i k : ℕ) → suc i + k ≡ i + suc k
    plain i k = omega arith

entry-is : (c : ℕ) (p : List ℕ) (t g x : ℕ) → is_entry c p t g x ≡ true → entry c p t g ≡ Some x
entry-is c p t g x e = one (entry c p t g) refl e
  where
    one : (o : Option ℕ) → entry c p t g ≡ o → elim o [ None ↦ false | Some u ↦ u == x ] ≡ true → entry c p t g ≡ Some x
    one None k h = absurd (grind (arith, h))
    one (Some u) k h = k ∙ ap Some (eqb-true u x h)

-- what is not taken is no entry of its column
pub not_taken : (c : ℕ) (p : List ℕ) (g x t : ℕ) → g < c → length p % c ≡ g → taken c (length p) x 0 p ≡ false → is_entry c p t (suc g) x ≡ false
not_taken c p g x t l k e = one (is_entry c p t (suc g) x) refl
  where
    plain : (g : ℕ) → 0 + (c * (t - 1) + (suc g - 1)) ≡ (t - 1) * c + g
    plain g = grind arith

    clash : taken c (length p) x 0 p ≡ true → taken c (length p) x 0 p ≡ false → ⊥
    clash a b = grind (arith, sym a ∙ b)

    one : (b : Bool) → is_entry c p t (suc g) x ≡ b → b ≡ false
    one false h = refl
    one true h = absurd (clash (taken-there c (length p) x 0 p (c * (t - 1) + (suc g - 1)) (entry-is c p t (suc g) x h) (ap (λ n. n % c) (plain g) ∙ (mod-mul-add (t - 1) c g l ∙ sym k))) e)

-- ---- letters

pub find-none : (f : ℕ → Bool) (xs : List ℕ) → ((u : ℕ) → f u ≡ false) → find f xs ≡ None
find-none f [] h = refl
find-none f (x ∷ xs) h = rw (h x) (find-none f xs h)

find-same : (f g : ℕ → Bool) → ((u : ℕ) → f u ≡ g u) → (xs : List ℕ) → find f xs ≡ find g xs
find-same f g e [] = refl
find-same f g e (x ∷ xs) = rw (e x, find-same f g e xs) refl

find-first : (f : ℕ → Bool) (a n k : ℕ) → f k ≡ true → a ≤ k → k < a + n → ((u : ℕ) → a ≤ u → u < k → f u ≡ false) → find f (from a n) ≡ Some k
find-first f a zero k e l h low = absurd (omega (arith, l, h))
find-first f a (suc n) k e l h low = one (near a k l) (λ j. find-first f (suc a) n k e (omega (arith, j)) (omega (arith, h)) (λ u w z. low u (omega (arith, w)) z))
  where
    near : (a k : ℕ) → a ≤ k → (a ≡ k) ⊎ (a < k)
    near a k l = eq-or-lt_of_le l

    one : (a ≡ k) ⊎ (a < k) → (a < k → find f (from (suc a) n) ≡ Some k) → (if f a then Some a else find f (from (suc a) n)) ≡ Some k
    one (inl j) next = rw (subst (λ v. f v ≡ true) (sym j) e) (ap Some j)
    one (inr j) next = rw (low a (omega arith) j) (next j)

-- the same entry as before, at each other place
entry-other : (c : ℕ) (p : List ℕ) (x r k t g : ℕ) → length p ≡ c * r + k → k < c → g < c → (g ≡ k → t - 1 ≡ r → ⊥) → entry c (p ++ x ∷ []) t (suc g) ≡ entry c p t (suc g)
entry-other c p x r k t g e l h away = get-other p x (c * (t - 1) + (suc g - 1))
    (λ i. away (place_column c (t - 1) g r k h l (plain g ∙ (i ∙ e))) (place_row c (t - 1) g r k h l (plain g ∙ (i ∙ e))))
  where
    plain : (g : ℕ) → c * (t - 1) + g ≡ c * (t - 1) + (suc g - 1)
    plain g = omega arith

cell_place : (c : ℕ) (p : List ℕ) (r k t g : ℕ) → length p ≡ c * r + k → g ≡ k → t - 1 ≡ r → c * (t - 1) + (suc g - 1) ≡ length p
cell_place c p r k t g e i j = ap (λ n. c * n + (suc g - 1)) j ∙ (ap (λ n. c * r + n) (less g ∙ i) ∙ sym e)
  where
    less : (n : ℕ) → suc n - 1 ≡ n
    less n = omega arith

-- the new cell is an entry, and nothing stood there
entry-here : (c : ℕ) (p : List ℕ) (x r k t g : ℕ) → length p ≡ c * r + k → g ≡ k → t - 1 ≡ r → entry c (p ++ x ∷ []) t (suc g) ≡ Some x
entry-here c p x r k t g e i j = ap (slice_get (p ++ x ∷ [])) (cell_place c p r k t g e i j) ∙ get-more p x

entry-past : (c : ℕ) (p : List ℕ) (r k t g : ℕ) → length p ≡ c * r + k → g ≡ k → t - 1 ≡ r → entry c p t (suc g) ≡ None
entry-past c p r k t g e i j = slice_get_past p (c * (t - 1) + (suc g - 1)) (same (cell_place c p r k t g e i j))
  where
    same : {a b : ℕ} → a ≡ b → b ≤ a
    same h = omega (arith, h)

-- ---- the bytes of a letter

pub from-at : (a n k d : ℕ) → k < n → get_or (from a n) k d ≡ a + k
from-at a zero k d l = absurd (omega (arith, l))
from-at a (suc n) zero d l = omega arith
from-at a (suc n) (suc k) d l = from-at (suc a) n k d (omega (arith, l)) ∙ omega arith

pub bytes-length : (c m : ℕ) (p : List ℕ) (letter : ℤ) → length (bytes c m p letter) ≡ 8
unfolding bytes
bytes-length c m p letter = refl

pub bytes-at : (c m : ℕ) (p : List ℕ) (letter : ℤ) (s : ℕ) → s < 8 → get_or (bytes c m p letter) s 0 ≡ step c m p letter s
unfolding bytes
bytes-at c m p letter s l = get_or-map (step c m p letter) (from 0 8) s 0 0 l ∙ ap (step c m p letter) (from-at 0 8 s 0 l ∙ omega arith)

-- one byte changes
pub bytes-put : (c m : ℕ) (p q : List ℕ) (letter : ℤ) (s x : ℕ) → s < 8 → step c m q letter s ≡ x
    → ((t : ℕ) → t < 8 → (t ≡ s → ⊥) → step c m q letter t ≡ step c m p letter t)
    → slice_set (bytes c m p letter) s x ≡ bytes c m q letter
bytes-put c m p q letter s x l here other = same_number_lists (slice_set (bytes c m p letter) s x) (bytes c m q letter)
    (length-set _ s x ∙ (bytes-length c m p letter ∙ sym (bytes-length c m q letter)))
    (λ t h. let k : t < 8 = subst (λ n. t < n) (length-set (bytes c m p letter) s x ∙ bytes-length c m p letter) h in at t k (t == s) refl ∙ sym (bytes-at c m q letter t k))
  where
    at : (t : ℕ) → t < 8 → (b : Bool) → (t == s) ≡ b → get_or (slice_set (bytes c m p letter) s x) t 0 ≡ step c m q letter t
    at t k true e = let j : t ≡ s = eqb-true t s e in subst (λ n. get_or (slice_set (bytes c m p letter) s x) n 0 ≡ step c m q letter n) (sym j)
        (get_or-set_same (bytes c m p letter) s x 0 (subst (λ n. s < n) (sym (bytes-length c m p letter)) l) ∙ sym here)
    at t k false e = let away : t ≡ s → ⊥ = λ j. clash (eq-eqb t s j) e in
        get_or-set_other (bytes c m p letter) s t x 0 away ∙ (bytes-at c m p letter t k ∙ sym (other t k away))
      where
        clash : {b : Bool} → b ≡ true → b ≡ false → ⊥
        clash x y = grind (arith, sym x ∙ y)

-- the columns after one byte of one column was written
pub holds-put : (c m : ℕ) (p q : List ℕ) (letter : ℕ → ℤ) (columns : List (List ℕ)) (k s x : ℕ) → length columns ≡ c → k < c → s < 8 → Holds c m p letter columns
    → step c m q (letter k) s ≡ x
    → ((g t : ℕ) → g < c → t < 8 → (g ≡ k → t ≡ s → ⊥) → step c m q (letter g) t ≡ step c m p (letter g) t)
    → Holds c m q letter (slice_set columns k (slice_set (slice_index_or columns k []) s x))
holds-put c m p q letter columns k s x e l h holds here other g i = one (g == k) refl
  where
    clash : {b : Bool} → b ≡ true → b ≡ false → ⊥
    clash x y = grind (arith, sym x ∙ y)

    one : (b : Bool) → (g == k) ≡ b → slice_index_or (slice_set columns k (slice_set (slice_index_or columns k []) s x)) g [] ≡ bytes c m q (letter g)
    one true y = let j : g ≡ k = eqb-true g k y in subst (λ n. slice_index_or (slice_set columns k (slice_set (slice_index_or columns k []) s x)) n [] ≡ bytes c m q (letter n)) (sym j)
        (get_or-set_same columns k _ [] (subst (λ n. k < n) (sym e) l)
        ∙ (ap (λ r. slice_set r s x) (holds k l) ∙ bytes-put c m p q (letter k) s x h here (λ t z away. other k t l z (λ _ w. away w))))
    one false y = let away : g ≡ k → ⊥ = λ j. clash (eq-eqb g k j) y in
        get_or-set_other columns k g _ [] away ∙ (holds g i ∙ same_number_lists (bytes c m p (letter g)) (bytes c m q (letter g))
        (bytes-length c m p (letter g) ∙ sym (bytes-length c m q (letter g)))
        (λ t z. let w : t < 8 = subst (λ n. t < n) (bytes-length c m p (letter g)) z in bytes-at c m p (letter g) t w ∙ (sym (other g t i w (λ j _. away j)) ∙ sym (bytes-at c m q (letter g) t w))))

-- ---- one cell more, in row r and column k, from 0

within-byte : (s m : ℕ) (o : Option ℕ) (x : ℕ) → s < m → byte_of o ≡ x → (if nat_lt s m then byte_of o else s) ≡ x
within-byte s m o x l e = rw (lt-ltb s m l) e

ahead-here : (c m : ℕ) (p : List ℕ) (x r k : ℕ) → length p ≡ c * r + k → r < m → step c m (p ++ x ∷ []) (ahead k) r ≡ x - 1
ahead-here c m p x r k e l = within-byte r m _ _ l (ap byte_of (entry-here c p x r k (suc r) k e refl (omega arith)))

ahead-gone : (c m : ℕ) (p : List ℕ) (r k : ℕ) → length p ≡ c * r + k → r < m → step c m p (ahead k) r ≡ 255
ahead-gone c m p r k e l = within-byte r m _ _ l (ap byte_of (entry-past c p r k (suc r) k e refl (omega arith)))

ahead-other : (c m : ℕ) (p : List ℕ) (x r k : ℕ) → length p ≡ c * r + k → k < c → (g t : ℕ) → g < c → (g ≡ k → t ≡ r → ⊥) → step c m (p ++ x ∷ []) (ahead g) t ≡ step c m p (ahead g) t
ahead-other c m p x r k e l g t h away = ap (λ o. (if nat_lt t m then byte_of o else t)) (entry-other c p x r k (suc t) g e l h (λ i j. away i (omega (arith, j))))

is_entry-other : (c : ℕ) (p : List ℕ) (x r k u g s : ℕ) → length p ≡ c * r + k → k < c → g < c → (g ≡ k → x ≡ s → ⊥) → is_entry c (p ++ x ∷ []) u (suc g) s ≡ is_entry c p u (suc g) s
is_entry-other c p x r k u g s e l h away = one ((g == k) && (u - 1 == r)) refl
  where
    clash : {b : Bool} → b ≡ true → b ≡ false → ⊥
    clash x y = grind (arith, sym x ∙ y)

    false_of : (b : Bool) → (b ≡ true → ⊥) → b ≡ false
    false_of true h = absurd (h refl)
    false_of false h = refl

    both : (a b : Bool) → a ≡ true → b ≡ true → (a && b) ≡ true
    both true b e h = h
    both false b e h = e

    one : (b : Bool) → ((g == k) && (u - 1 == r)) ≡ b → is_entry c (p ++ x ∷ []) u (suc g) s ≡ is_entry c p u (suc g) s
    one true z = let i : g ≡ k = eqb-true g k (and-left (g == k) (u - 1 == r) z) in let j : u - 1 ≡ r = eqb-true (u - 1) r (and-right (g == k) (u - 1 == r) z) in
        ap (λ o. elim o [ None ↦ false | Some v ↦ v == s ]) (entry-here c p x r k u g e i j) ∙ (false_of (x == s) (λ w. away i (eqb-true x s w)) ∙ sym (ap (λ o. elim o [ None ↦ false | Some v ↦ v == s ]) (entry-past c p r k u g e i j)))
    one false z = ap (λ o. elim o [ None ↦ false | Some v ↦ v == s ]) (entry-other c p x r k u g e l h (λ i j. clash (both (g == k) (u - 1 == r) (eq-eqb g k i) (eq-eqb (u - 1) r j)) z))

behind-other : (c m : ℕ) (p : List ℕ) (x y r k : ℕ) → x ≡ suc y → length p ≡ c * r + k → k < c → (g t : ℕ) → g < c → (g ≡ k → t ≡ y → ⊥) → step c m (p ++ x ∷ []) (behind g) t ≡ step c m p (behind g) t
behind-other c m p x y r k i e l g t h away = ap (λ o. (if nat_lt t m then byte_of o else t))
    (find-same (λ u. is_entry c (p ++ x ∷ []) u (suc g) (suc t)) (λ u. is_entry c p u (suc g) (suc t)) (λ u. is_entry-other c p x r k u g (suc t) e l h (λ a b. away a (omega (arith, b, i)))) (from 1 m))

behind-gone : (c m : ℕ) (p : List ℕ) (x y r k : ℕ) → x ≡ suc y → length p % c ≡ k → k < c → Next c m p x → step c m p (behind k) y ≡ 255
behind-gone c m p x y r k i e l n = within-byte y m _ _ (omega (arith, i, n.most))
    (ap byte_of (find-none (λ u. is_entry c p u (suc k) (suc y)) (from 1 m) (λ u. subst (λ v. is_entry c p u (suc k) v ≡ false) i (not_taken c p k x u l e n.free))))

behind-here : (c m : ℕ) (p : List ℕ) (x y r k : ℕ) → x ≡ suc y → length p ≡ c * r + k → length p % c ≡ k → k < c → r < m → Next c m p x → step c m (p ++ x ∷ []) (behind k) y ≡ r
behind-here c m p x y r k i e d l h n = within-byte y m _ _ (omega (arith, i, n.most))
    (ap byte_of (find-first (λ u. is_entry c (p ++ x ∷ []) u (suc k) (suc y)) 1 m (suc r)
    (ap (λ o. elim o [ None ↦ false | Some v ↦ v == suc y ]) (entry-here c p x r k (suc r) k e refl (omega arith)) ∙ eq-eqb x (suc y) i) (omega arith) (omega (arith, h))
    (λ u w z. ap (λ o. elim o [ None ↦ false | Some v ↦ v == suc y ]) (entry-other c p x r k u k e l l (λ _ j. absurd (below u w z j)))
    ∙ subst (λ v. is_entry c p u (suc k) v ≡ false) i (not_taken c p k x u l d n.free))) ∙ less r)
  where
    less : (a : ℕ) → suc a - 1 ≡ a
    less a = omega arith

    below : (u : ℕ) → 1 ≤ u → u < suc r → u - 1 ≡ r → ⊥
    below u w z j = omega (arith, w, z, j)

-- ---- the walker

-- the row and the column of a place
pub record Spot (c m at r k : ℕ) : Type 0 where
  pub row : r < m
  pub column : k < c
  pub place : at ≡ c * r + k
  pub rest : at % c ≡ k

pub spot : (c m at : ℕ) → at < m * c → Spot c m at (at / c) (at % c)
spot c m at l = record { row = div_below at c m (some c l) l; column = mod-lt at (some c l); place = sym (div-add-mod at c); rest = refl }
  where
    some : (c : ℕ) → at < m * c → 0 < c
    some zero l = absurd (omega (arith, mul-zero m, l))
    some (suc c) l = omega arith

-- the largest sheet so far, after one cell more
seen-more : (at : ℕ) (cells seen : List ℕ) (x : ℕ) → at < length cells → at + 1 < length seen → ((k : ℕ) → k ≤ at → get_or seen k 0 ≡ appeared 1 (take k cells))
    → (k : ℕ) → k ≤ at + 1 → get_or (slice_set seen (at + 1) (max (get_or seen at 0) x)) k 0 ≡ appeared 1 (take k (slice_set cells at x))
seen-more at cells seen x l s h k i = one (eq-or-lt_of_le i)
  where
    one : (k ≡ at + 1) ⊎ (k < at + 1) → get_or (slice_set seen (at + 1) (max (get_or seen at 0) x)) k 0 ≡ appeared 1 (take k (slice_set cells at x))
    one (inl j) = subst (λ n. get_or (slice_set seen (at + 1) (max (get_or seen at 0) x)) n 0 ≡ appeared 1 (take n (slice_set cells at x))) (sym j)
        (get_or-set_same seen (at + 1) _ 0 s ∙ (ap (λ n. max n x) (h at (omega arith)) ∙ (sym (appeared-append 1 (take at cells) (x ∷ [])) ∙ ap (λ p. appeared 1 p) (sym (take_more_set cells at x l)))))
    one (inr j) = get_or-set_other seen (at + 1) k _ 0 (λ e. far e j) ∙ (h k (omega (arith, j)) ∙ ap (λ p. appeared 1 p) (sym (take-set-le k cells at x (omega (arith, j)))))
      where
        far : k ≡ at + 1 → k < at + 1 → ⊥
        far e j = omega (arith, e, j)

pub placed : (c m n at : ℕ) (cells seen : List ℕ) (forward backward : List (List ℕ)) (x h r k : ℕ) → IsWalker c m n at cells seen forward backward → may_follow c m (take at cells) x ≡ true → h ≡ get_or seen at h → at / c ≡ r → at % c ≡ k
    → IsWalker c m n (at + 1) (slice_set cells at x) (slice_set seen (at + 1) (max h x)) (slice_set forward k (slice_set (slice_index_or forward k []) r (x - 1))) (slice_set backward k (slice_set (slice_index_or backward k []) (x - 1) r))
placed c m n at cells seen forward backward x h r k w e u i j =
    let e1 : Next c m (take at cells) x = next_of c m (take at cells) x e in
    let long : length (take at cells) ≡ at = length-take-le at cells (omega (arith, w.within, w.room)) in
    let lt : at < m * c = omega (arith, e1.room, long) in
    let s : Spot c m at r k = subst (λ v. Spot c m at v k) i (subst (λ v. Spot c m at (at / c) v) j (spot c m at lt)) in
    let place : length (take at cells) ≡ c * r + k = long ∙ s.place in
    let rest : length (take at cells) % c ≡ k = ap (λ v. v % c) long ∙ s.rest in
    let more : take (at + 1) (slice_set cells at x) ≡ take at cells ++ x ∷ [] = take_more_set cells at x (omega (arith, lt, w.room)) in
    let y : x ≡ suc (x - 1) = omega (arith, e1.least) in
    record {
      least = w.least;
      most = w.most;
      kept = w.kept;
      top = w.top;
      few = w.few;
      all_room = subst (λ v. n * c ≤ v) (sym (length-set cells at x)) w.all_room;
      all_seen = subst (λ v. n * c < v) (sym (length-set seen (at + 1) (max h x))) w.all_seen;
      room = subst (λ v. m * c ≤ v) (sym (length-set cells at x)) w.room;
      within = omega (arith, lt);
      seen_room = subst (λ v. m * c < v) (sym (length-set seen (at + 1) (max h x))) w.seen_room;
      seen_holds = subst (λ v. (k : ℕ) → k ≤ at + 1 → get_or (slice_set seen (at + 1) (max v x)) k 0 ≡ appeared 1 (take k (slice_set cells at x))) (sym (get_or_read seen at h (omega (arith, lt, w.seen_room)) u 0))
          (seen-more at cells seen x (omega (arith, lt, w.room)) (omega (arith, lt, w.seen_room)) w.seen_holds);
      rules = subst (λ v. follows c m [] v ≡ true) (sym more) (follows-more c m (take at cells) x w.rules e);
      forwards = length-set forward k _ ∙ w.forwards;
      backwards = length-set backward k _ ∙ w.backwards;
      forward_holds = subst (λ v. Holds c m v ahead (slice_set forward k (slice_set (slice_index_or forward k []) r (x - 1)))) (sym more)
          (holds-put c m (take at cells) (take at cells ++ x ∷ []) ahead forward k r (x - 1) w.forwards s.column (omega (arith, s.row, w.most)) w.forward_holds
          (ahead-here c m (take at cells) x r k place s.row) (λ g t h _ away. ahead-other c m (take at cells) x r k place s.column g t h away));
      backward_holds = subst (λ v. Holds c m v behind (slice_set backward k (slice_set (slice_index_or backward k []) (x - 1) r))) (sym more)
          (holds-put c m (take at cells) (take at cells ++ x ∷ []) behind backward k (x - 1) r w.backwards s.column (omega (arith, e1.most, e1.least, w.most)) w.backward_holds
          (behind-here c m (take at cells) x (x - 1) r k y place rest s.column s.row e1) (λ g t h _ away. behind-other c m (take at cells) x (x - 1) r k y place s.column g t h away));
    }

-- the last cell and the one before
pub record Last (c m at : ℕ) (cells : List ℕ) : Type 0 where
  pub more : take (at + 1) cells ≡ take at cells ++ get_or cells at 0 ∷ []
  pub rules : follows c m [] (take at cells) ≡ true
  pub next : Next c m (take at cells) (get_or cells at 0)

pub last_of : (c m at : ℕ) (cells : List ℕ) → at < length cells → follows c m [] (take (at + 1) cells) ≡ true → Last c m at cells
last_of c m at cells l e = let more = take_more cells at 0 l in
    let h = follows-less c m (take at cells) (get_or cells at 0) (subst (λ v. follows c m [] v ≡ true) more e) in
    record { more = more; rules = h.0; next = next_of c m (take at cells) (get_or cells at 0) h.1 }

pub unplaced : (c m n at b : ℕ) (cells seen : List ℕ) (forward backward : List (List ℕ)) (x r k : ℕ) → IsWalker c m n b cells seen forward backward → b ≡ at + 1 → get_or cells at 0 ≡ x → at / c ≡ r → at % c ≡ k
    → IsWalker c m n at cells seen (slice_set forward k (slice_set (slice_index_or forward k []) r 255)) (slice_set backward k (slice_set (slice_index_or backward k []) (x - 1) 255))
unplaced c m n at b cells seen forward backward x r k w a z i j =
    let lt : at < m * c = omega (arith, a, w.within) in
    let f : Last c m at cells = last_of c m at cells (omega (arith, lt, w.room)) (subst (λ v. follows c m [] (take v cells) ≡ true) a w.rules) in
    let e1 : Next c m (take at cells) x = subst (λ v. Next c m (take at cells) v) z f.next in
    let more : take b cells ≡ take at cells ++ x ∷ [] = ap (λ v. take v cells) a ∙ (f.more ∙ ap (λ v. take at cells ++ v ∷ []) z) in
    let long : length (take at cells) ≡ at = length-take-le at cells (omega (arith, lt, w.room)) in
    let s : Spot c m at r k = subst (λ v. Spot c m at v k) i (subst (λ v. Spot c m at (at / c) v) j (spot c m at lt)) in
    let place : length (take at cells) ≡ c * r + k = long ∙ s.place in
    let rest : length (take at cells) % c ≡ k = ap (λ v. v % c) long ∙ s.rest in
    let y : x ≡ suc (x - 1) = omega (arith, e1.least) in
    record {
      least = w.least;
      most = w.most;
      kept = w.kept;
      top = w.top;
      few = w.few;
      all_room = w.all_room;
      all_seen = w.all_seen;
      room = w.room;
      within = omega (arith, lt);
      seen_room = w.seen_room;
      seen_holds = λ k l. w.seen_holds k (omega (arith, l, a));
      rules = f.rules;
      forwards = length-set forward k _ ∙ w.forwards;
      backwards = length-set backward k _ ∙ w.backwards;
      forward_holds =
          holds-put c m (take at cells ++ x ∷ []) (take at cells) ahead forward k r 255 w.forwards s.column (omega (arith, s.row, w.most)) (subst (λ v. Holds c m v ahead forward) more w.forward_holds)
          (ahead-gone c m (take at cells) r k place s.row) (λ g t h _ away. sym (ahead-other c m (take at cells) x r k place s.column g t h away));
      backward_holds =
          holds-put c m (take at cells ++ x ∷ []) (take at cells) behind backward k (x - 1) 255 w.backwards s.column (omega (arith, e1.most, e1.least, w.most)) (subst (λ v. Holds c m v behind backward) more w.backward_holds)
          (behind-gone c m (take at cells) x (x - 1) r k y rest s.column e1) (λ g t h _ away. sym (behind-other c m (take at cells) x (x - 1) r k y place s.column g t h away));
    }

-- there is a last cell
pub some_cell : (at : ℕ) (cells : List ℕ) → 0 < length (take at cells) → 0 < at
some_cell zero cells h = h
some_cell (suc at) cells h = omega arith

-- what the last cell holds
pub last_sheet : (c m n b : ℕ) (cells seen : List ℕ) (forward backward : List (List ℕ)) (x : ℕ) → IsWalker c m n b cells seen forward backward → 0 < b → x ≡ get_or cells (b - 1) x → (0 < x) × (x ≤ m) × (get_or cells (b - 1) 0 ≡ x)
last_sheet c m n b cells seen forward backward x w l e =
    let lt : b - 1 < length cells = omega (arith, l, w.within, w.room) in
    let same : get_or cells (b - 1) 0 ≡ x = sym (get_or_read cells (b - 1) x lt e 0) in
    let next : b ≡ b - 1 + 1 = omega (arith, l) in
    let f : Last c m (b - 1) cells = last_of c m (b - 1) cells lt (subst (λ v. follows c m [] (take v cells) ≡ true) next w.rules) in
    (subst (λ v. 0 < v) same f.next.least, subst (λ v. v ≤ m) same f.next.most, same)
