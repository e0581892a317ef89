-- Without generators nothing is live; with one the table of one sheet begins a live one.
use Rattle.std.proofs.Common.{◌≡◌, ◌⊎◌, inl, inr, ℕ, zero, suc, ◌+◌, ◌-◌, ◌*◌, ◌/◌, ◌≤◌, ℤ, pos, negsuc, List, [], ◌∷◌, length, refl, ap, arith, subst, ◌∙◌, Bool, true, false, ◌&&◌, Option, Some, None}
use Rattle.std.specs.Prelude.{◌==◌, nat_lt, nat_le, slice_get}
use Rattle.std.proofs.lemmas.Bool.{false≢true, and_from}
use Rattle.number_lists.specs.Members.{In, here}
use Rattle.number_lists.proofs.CallerLemmas.{and-left, and-right, In-all, In-filter, In-map, In-flat_map}
use Rattle.live_laws.specs.Trees.{from, beyond}
use Rattle.live_laws.specs.Walks.{is_entry, led, trace, never_fails}
use Rattle.live_laws.specs.Live.{Relations, may_follow, follows, sound, is_live, comes_after, live_of, live}

pub alone : (P : Relations) (m : ℕ) (p : List ℕ) → is_live P m p ≡ true → P.generators ≡ 0 → ⊥
alone P m [] h e = false≢true h
alone P m (x ∷ p) h e =
    let s : sound P m (x ∷ p) ≡ true = and-right (nat_lt 0 (length (x ∷ p))) (sound P m (x ∷ p)) h in
    let f : follows P.generators m [] (x ∷ p) ≡ true = and-left (follows P.generators m [] (x ∷ p)) _ s in
    let g : may_follow P.generators m [] x ≡ true = and-left (may_follow P.generators m [] x) _ f in
    let r : nat_lt 0 (m * P.generators) ≡ true = and-left (nat_lt 0 (m * P.generators)) _ g in
    let z : nat_lt 0 (m * 0) ≡ true = subst (λ (c : ℕ). nat_lt 0 (m * c) ≡ true) e r in
    grind (arith, z)

-- ---- walks through the one cell

one-cell : (k : ℕ) → (slice_get {X = ℕ} (1 ∷ []) k ≡ None) ⊎ (slice_get {X = ℕ} (1 ∷ []) k ≡ Some 1)
one-cell zero = inr refl
one-cell (suc k) = inl refl

led-one : (c : ℕ) (g : ℤ) → (led c 1 (1 ∷ []) g 1 ≡ None) ⊎ (led c 1 (1 ∷ []) g 1 ≡ Some 1)
led-one c (pos g) = one-cell (c * (1 - 1) + (g - 1))
led-one c (negsuc g) = one (is_entry c (1 ∷ []) 1 (suc g) 1) refl
  where
    one : (b : Bool) → is_entry c (1 ∷ []) 1 (suc g) 1 ≡ b → (led c 1 (1 ∷ []) (negsuc g) 1 ≡ None) ⊎ (led c 1 (1 ∷ []) (negsuc g) 1 ≡ Some 1)
    one true e = inr (rw e refl)
    one false e = inl (rw e refl)

trace-one : (c : ℕ) (w : List ℤ) → (trace c 1 (1 ∷ []) w 1 ≡ None) ⊎ (trace c 1 (1 ∷ []) w 1 ≡ Some 1)
trace-one c [] = inr refl
trace-one c (g ∷ w) = one (led-one c g) (trace-one c w)
  where
    one : (led c 1 (1 ∷ []) g 1 ≡ None) ⊎ (led c 1 (1 ∷ []) g 1 ≡ Some 1) → (trace c 1 (1 ∷ []) w 1 ≡ None) ⊎ (trace c 1 (1 ∷ []) w 1 ≡ Some 1)
        → (trace c 1 (1 ∷ []) (g ∷ w) 1 ≡ None) ⊎ (trace c 1 (1 ∷ []) (g ∷ w) 1 ≡ Some 1)
    one (inl e) h = inl (ap (λ (o : Option ℕ). elim o [ None ↦ None | Some t ↦ trace c 1 (1 ∷ []) w t ]) e)
    one (inr e) (inl h) = inl (ap (λ (o : Option ℕ). elim o [ None ↦ None | Some t ↦ trace c 1 (1 ∷ []) w t ]) e ∙ h)
    one (inr e) (inr h) = inr (ap (λ (o : Option ℕ). elim o [ None ↦ None | Some t ↦ trace c 1 (1 ∷ []) w t ]) e ∙ h)

one-closes : (c : ℕ) (w : List ℤ) → never_fails c 1 (1 ∷ []) w ≡ true
one-closes c w = one (trace c 1 (1 ∷ []) w 1) (trace-one c w)
  where
    one : (o : Option ℕ) → (o ≡ None) ⊎ (o ≡ Some 1) → (elim o [ None ↦ true | Some t ↦ t == 1 ] && true) ≡ true
    one o (inl e) = rw e refl
    one o (inr e) = rw e refl

one-follows : (c : ℕ) → 1 ≤ c → may_follow c 1 [] 1 ≡ true
one-follows c l =
    let a : nat_lt 0 (1 * c) ≡ true = grind (arith, l) in
    let z : 0 / c ≡ 0 = grind (arith, l) in
    let b : nat_le (suc (0 / c)) 1 ≡ true = ap (λ (k : ℕ). nat_le (suc k) 1) z in
    and_from (nat_lt 0 (1 * c)) _ a (and_from (nat_le (suc (0 / c)) 1) _ b refl)

one-live : (P : Relations) → 1 ≤ P.generators → is_live P 1 (1 ∷ []) ≡ true
one-live P l =
    and_from (follows P.generators 1 [] (1 ∷ [])) _ (and_from (may_follow P.generators 1 [] 1) true (one-follows P.generators l) refl)
    (In-all (never_fails P.generators 1 (1 ∷ [])) P.relators (λ w i. one-closes P.generators w))

one-beyond : (k : ℕ) → 1 ≤ k → In (1 ∷ []) (beyond 1 k [])
one-beyond zero l = absurd (omega (arith, l))
one-beyond (suc k) l = here

inhabited : {A : Type 0} (x : A) (xs : List A) → In x xs → 1 ≤ length xs
inhabited x [] h = elim h [ ]
inhabited x (y ∷ xs) h = omega arith

pub some-live : (P : Relations) (n : ℕ) → 1 ≤ n → 1 ≤ P.generators → 1 ≤ length (live P n (0, []))
some-live P zero l k = absurd (omega (arith, l))
some-live P (suc n) l k =
    inhabited (1, 1 ∷ []) (live P (suc n) (0, []))
    (In-filter (comes_after (0, []))
    (In-flat_map (live_of P) {xs = from 1 (suc n)} here
    (In-map (λ (p : List ℕ). (1, p)) (In-filter (is_live P 1) (one-beyond (1 * P.generators) (omega (arith, k))) (one-live P k)))) refl)
