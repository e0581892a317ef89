-- Beginnings of sound cells, and one cell more.
use Rattle.std.proofs.Common.{◌≡◌, ℕ, zero, suc, ◌+◌, ◌-◌, ◌*◌, ◌<◌, ◌≤◌, List, [], ◌∷◌, ◌++◌, length, refl, ap, arith, sym, subst, ◌∙◌, Bool, true, false, ◌&&◌}
use Rattle.std.specs.Prelude.{◌==◌, ℤ, pos, negsuc, Option, Some, None, find, slice_get}
use Rattle.std.specs.List.{list_all}
use Rattle.std.proofs.lemmas.List.{append_assoc, append-nil}
use Rattle.std.proofs.Math.Nat.{mul-le-mul_left}
use Rattle.number_lists.proofs.CallerLemmas.{and-left, and-right}
use Rattle.live_laws.specs.Trees.{from}
use Rattle.live_laws.specs.Walks.{is_entry, led, trace, never_fails, WalksStay}
use Rattle.live_laws.specs.Live.{Relations, may_follow, follows, sound, PrefixesAreSound}

get-stays : (xs z : List ℕ) (i u : ℕ) → slice_get xs i ≡ Some u → slice_get (xs ++ z) i ≡ Some u
get-stays [] z i u e = absurd (grind (arith, e))
get-stays (x ∷ xs) z zero u e = e
get-stays (x ∷ xs) z (suc i) u e = get-stays xs z i u e

get-same : (xs z : List ℕ) (i : ℕ) → i < length xs → slice_get (xs ++ z) i ≡ slice_get xs i
get-same [] z i l = absurd (omega (arith, l))
get-same (x ∷ xs) z zero l = refl
get-same (x ∷ xs) z (suc i) l = get-same xs z i (omega (arith, l))

-- an entry that is there stands within the list
place_within : (s : ℕ) (xs : List ℕ) (i : ℕ) → elim (slice_get xs i) [ None ↦ false | Some u ↦ u == s ] ≡ true → i < length xs
place_within s [] i e = absurd (grind (arith, e))
place_within s (x ∷ xs) zero e = omega arith
place_within s (x ∷ xs) (suc i) e = let k : i < length xs = place_within s xs i e in omega (arith, k)

pub find-from-ge : (f : ℕ → Bool) (a n t : ℕ) → find f (from a n) ≡ Some t → a ≤ t
find-from-ge f a zero t e = absurd (grind (arith, e))
find-from-ge f a (suc n) t e = one (f a) refl (λ h. find-from-ge f (suc a) n t h)
  where
    some-is : (x y : ℕ) → Some x ≡ Some y → x ≤ y
    some-is x y e = grind (arith, e)

    one : (b : Bool) → f a ≡ b → (find f (from (suc a) n) ≡ Some t → suc a ≤ t) → a ≤ t
    one true k next = some-is a t (rw k at e)
    one false k next = let r : suc a ≤ t = next (rw k at e) in omega (arith, r)

pub find-true : (f : ℕ → Bool) (xs : List ℕ) (t : ℕ) → find f xs ≡ Some t → f t ≡ true
find-true f [] t e = absurd (grind (arith, e))
find-true f (x ∷ xs) t e = one (f x) refl (λ h. find-true f xs t h)
  where
    some-is : (x y : ℕ) → Some x ≡ Some y → x ≡ y
    some-is x y e = grind (arith, e)

    one : (b : Bool) → f x ≡ b → (find f xs ≡ Some t → f t ≡ true) → f t ≡ true
    one true k next = rw (some-is x t (rw k at e)) at k
    one false k next = next (rw k at e)

-- two tests that agree up to what the first finds
find-to : (f g : ℕ → Bool) (a n t : ℕ) → find f (from a n) ≡ Some t → ((u : ℕ) → u ≤ t → g u ≡ f u) → find g (from a n) ≡ Some t
find-to f g a zero t e k = absurd (grind (arith, e))
find-to f g a (suc n) t e k = one (f a) refl (λ h. find-to f g (suc a) n t h k)
  where
    one : (b : Bool) → f a ≡ b → (find f (from (suc a) n) ≡ Some t → find g (from (suc a) n) ≡ Some t) → find g (from a (suc n)) ≡ Some t
    one true h next = rw (k a (find-from-ge f a (suc n) t e), h) (rw h at e)
    one false h next = rw (k a (find-from-ge f a (suc n) t e), h) (next (rw h at e))

led-stays : (c m : ℕ) (p z : List ℕ) (x : ℤ) (s t : ℕ) → led c m p x s ≡ Some t → led c m (p ++ z) x s ≡ Some t
led-stays c m p z (pos g) s t e = get-stays p z (c * (s - 1) + (g - 1)) t e
led-stays c m p z (negsuc g) s t e =
    let there_t : is_entry c p t (suc g) s ≡ true = find-true (λ u. is_entry c p u (suc g) s) (from 1 m) t e in
    let within : c * (t - 1) + (suc g - 1) < length p = place_within s p (c * (t - 1) + (suc g - 1)) there_t in
    find-to (λ u. is_entry c p u (suc g) s) (λ u. is_entry c (p ++ z) u (suc g) s) 1 m t e
    (λ u l. same u (get-same p z (c * (u - 1) + (suc g - 1)) (lower u t (suc g - 1) l within)))
  where
    lower : (u t a : ℕ) → u ≤ t → c * (t - 1) + a < length p → c * (u - 1) + a < length p
    lower u t a l k = let q : c * (u - 1) ≤ c * (t - 1) = mul-le-mul_left c (omega (arith, l)) in omega (arith, q, k)

    same : (u : ℕ) → slice_get (p ++ z) (c * (u - 1) + (suc g - 1)) ≡ slice_get p (c * (u - 1) + (suc g - 1)) → is_entry c (p ++ z) u (suc g) s ≡ is_entry c p u (suc g) s
    same u e = ap (λ o. elim o [ None ↦ false | Some v ↦ v == s ]) e

pub trace_stays : WalksStay
trace_stays c m p z [] s t e = e
trace_stays c m p z (x ∷ w) s t e = one (led c m p x s) refl e (λ u h. trace_stays c m p z w u t h)
  where
    one : (o : Option ℕ) → led c m p x s ≡ o → elim o [ None ↦ None | Some u ↦ trace c m p w u ] ≡ Some t
        → ((u : ℕ) → trace c m p w u ≡ Some t → trace c m (p ++ z) w u ≡ Some t) → trace c m (p ++ z) (x ∷ w) s ≡ Some t
    one None k e next = absurd (grind (arith, e))
    one (Some u) k e next = two (led c m (p ++ z) x s) (led-stays c m p z x s u k) (next u e)
      where
        two : (o : Option ℕ) → o ≡ Some u → trace c m (p ++ z) w u ≡ Some t → elim o [ None ↦ None | Some v ↦ trace c m (p ++ z) w v ] ≡ Some t
        two o e h = rw e h

list_all-from : {A : Type 0} (p q : A → Bool) (xs : List A) → ((x : A) → p x ≡ true → q x ≡ true) → list_all p xs ≡ true → list_all q xs ≡ true
list_all-from p q [] k e = refl
list_all-from p q (x ∷ xs) k e = both _ _ (k x (and-left (p x) _ e)) (list_all-from p q xs k (and-right (p x) _ e))
  where
    both : (a b : Bool) → a ≡ true → b ≡ true → (a && b) ≡ true
    both true b e h = h
    both false b e h = e

never_fails-closed : (c m : ℕ) (p z : List ℕ) (w : List ℤ) → never_fails c m (p ++ z) w ≡ true → never_fails c m p w ≡ true
never_fails-closed c m p z w e = list_all-from (λ s. elim (trace c m (p ++ z) w s) [ None ↦ true | Some t ↦ t == s ]) (λ s. elim (trace c m p w s) [ None ↦ true | Some t ↦ t == s ]) (from 1 m) (λ s h. one s (trace c m p w s) refl h) e
  where
    one : (s : ℕ) (o : Option ℕ) → trace c m p w s ≡ o → elim (trace c m (p ++ z) w s) [ None ↦ true | Some t ↦ t == s ] ≡ true → elim (trace c m p w s) [ None ↦ true | Some t ↦ t == s ] ≡ true
    one s None k h = subst (λ o. elim o [ None ↦ true | Some t ↦ t == s ] ≡ true) (sym k) refl
    one s (Some t) k h = subst (λ o. elim o [ None ↦ true | Some t ↦ t == s ] ≡ true) (sym k) (subst (λ o. elim o [ None ↦ true | Some t ↦ t == s ] ≡ true) (trace_stays c m p z w s t k) h)

and-assoc : (a b d : Bool) → (a && (b && d)) ≡ ((a && b) && d)
and-assoc true b d = refl
and-assoc false b d = refl

and-true : (a : Bool) → (a && true) ≡ a
and-true true = refl
and-true false = refl

-- the rules 1 to 4 over a list of two parts
pub follows-append : (c m : ℕ) (q p z : List ℕ) → follows c m q (p ++ z) ≡ (follows c m q p && follows c m (q ++ p) z)
follows-append c m q [] z = ap (λ r. follows c m r z) (sym (append-nil q))
follows-append c m q (x ∷ p) z =
    ap (λ b. may_follow c m q x && b) (follows-append c m (q ++ x ∷ []) p z ∙ ap (λ r. follows c m (q ++ x ∷ []) p && follows c m r z) (append_assoc q (x ∷ []) p))
    ∙ and-assoc (may_follow c m q x) (follows c m (q ++ x ∷ []) p) (follows c m (q ++ x ∷ p) z)

pub sound_closed : PrefixesAreSound
sound_closed P m p z e = both _ _
    (and-left (follows P.generators m [] p) _ (rw (follows-append P.generators m [] p z) at (and-left (follows P.generators m [] (p ++ z)) _ e)))
    (list_all-from (never_fails P.generators m (p ++ z)) (never_fails P.generators m p) P.relators (λ w h. never_fails-closed P.generators m p z w h) (and-right (follows P.generators m [] (p ++ z)) _ e))
  where
    both : (a b : Bool) → a ≡ true → b ≡ true → (a && b) ≡ true
    both true b e h = h
    both false b e h = e

-- one cell more, over sound cells
pub sound_more : (P : Relations) (m : ℕ) (p : List ℕ) (x : ℕ) → sound P m p ≡ true → sound P m (p ++ x ∷ []) ≡ (may_follow P.generators m p x && list_all (never_fails P.generators m (p ++ x ∷ [])) P.relators)
sound_more P m p x e = ap (λ b. b && list_all (never_fails P.generators m (p ++ x ∷ [])) P.relators)
    (follows-append P.generators m [] p (x ∷ []) ∙ (rw (and-left (follows P.generators m [] p) _ e) (and-true (may_follow P.generators m p x))))
