-- Reduced words: a letter before a word, a word before a word, the inverse, a letter after a word, forced words, walks by letters.
use Rattle.std.proofs.Common.{◌≡◌, ℕ, zero, suc, List, [], ◌∷◌, ◌++◌, refl, ap, arith, sym, ◌∙◌, Bool, true, false, cond}
use Rattle.std.specs.Prelude.{ℤ, pos, negsuc}
use Rattle.std.proofs.lemmas.Bool.{eqb-true, eq-eqb}
use Rattle.number_lists.proofs.CallerLemmas.{and-left, and-right}
use Rattle.pair_laws.specs.Letters.{inverse, same_letter, before, reduced, is_letter, are_letters, begins_undone, is_reduced, Undo, ReducedIs, StaysReduced, ReducedAppend, follow, FollowReduced, inverted, ReducedInverted, last_undone, drop_last, after, AfterIs, ForcedUnique}

same_letter-true : (g h : ℤ) → same_letter g h ≡ true → g ≡ h
same_letter-true (pos m) (pos n) e = ap pos (eqb-true m n e)
same_letter-true (pos m) (negsuc n) e = absurd (grind arith)
same_letter-true (negsuc m) (pos n) e = absurd (grind arith)
same_letter-true (negsuc m) (negsuc n) e = ap negsuc (eqb-true m n e)

same_letter-refl : (g : ℤ) → same_letter g g ≡ true
same_letter-refl (pos m) = eq-eqb m m refl
same_letter-refl (negsuc m) = eq-eqb m m refl

pub inverse_twice : (g : ℤ) → inverse (inverse g) ≡ g
inverse_twice (pos zero) = refl
inverse_twice (pos (suc n)) = refl
inverse_twice (negsuc n) = refl

-- where the word begins with the inverse of g, and where not
before-undone : (g h : ℤ) (w : List ℤ) → same_letter h (inverse g) ≡ true → before g (h ∷ w) ≡ w
before-undone g h w e = rw e refl

before-put : (g : ℤ) (w : List ℤ) → begins_undone g w ≡ false → before g w ≡ g ∷ w
before-put g [] e = refl
before-put g (h ∷ w) e = rw e refl

head_free : (g : ℤ) (w : List ℤ) → is_reduced (g ∷ w) ≡ true → begins_undone g w ≡ false
head_free g w e = by (begins_undone g w) refl e
  where
    by : (b : Bool) → begins_undone g w ≡ b → cond b false (is_reduced w) ≡ true → begins_undone g w ≡ false
    by true k e = absurd (grind (arith, e))
    by false k e = k

tail_reduced : (g : ℤ) (w : List ℤ) → is_reduced (g ∷ w) ≡ true → is_reduced w ≡ true
tail_reduced g w e = rw (head_free g w e) at e

reduced_put : (g : ℤ) (w : List ℤ) → begins_undone g w ≡ false → is_reduced w ≡ true → is_reduced (g ∷ w) ≡ true
reduced_put g w e h = rw e h

pub letter_inverse : (g : ℤ) → is_letter g ≡ true → is_letter (inverse g) ≡ true
letter_inverse (pos zero) l = l
letter_inverse (pos (suc n)) l = refl
letter_inverse (negsuc n) l = refl

pub undo : Undo
undo g [] l r = before-undone (inverse g) g [] (rw (inverse_twice g) (same_letter-refl g))
undo g (h ∷ w) l r = by (same_letter h (inverse g)) refl
  where
    by : (b : Bool) → same_letter h (inverse g) ≡ b → before (inverse g) (before g (h ∷ w)) ≡ h ∷ w
    by true e = rw (before-undone g h w e) (rw (same_letter-true h (inverse g) e) (before-put (inverse g) w (rw (same_letter-true h (inverse g) e) at (head_free h w r))))
    by false e = rw (before-put g (h ∷ w) e) (before-undone (inverse g) g (h ∷ w) (rw (inverse_twice g) (same_letter-refl g)))

reduced-before : (g : ℤ) (w : List ℤ) → is_reduced w ≡ true → is_reduced (before g w) ≡ true
reduced-before g [] e = refl
reduced-before g (h ∷ w) e = by (same_letter h (inverse g)) refl
  where
    by : (b : Bool) → same_letter h (inverse g) ≡ b → is_reduced (before g (h ∷ w)) ≡ true
    by true k = rw (before-undone g h w k) (tail_reduced h w e)
    by false k = rw (before-put g (h ∷ w) k) (reduced_put g (h ∷ w) k e)

pub reduced_is : ReducedIs
reduced_is [] = refl
reduced_is (g ∷ w) = reduced-before g (reduced w) (reduced_is w)

pub stays_reduced : StaysReduced
stays_reduced [] e = refl
stays_reduced (g ∷ w) e = rw (stays_reduced w (tail_reduced g w e)) (before-put g w (head_free g w e))

-- the letters put before a word, one after the other
abbrev pub act : List ℤ → List ℤ → List ℤ
act [] x = x
act (g ∷ w) x = before g (act w x)

pub reduced-append_act : (u v : List ℤ) → reduced (u ++ v) ≡ act u (reduced v)
reduced-append_act [] v = refl
reduced-append_act (g ∷ u) v = ap (before g) (reduced-append_act u v)

pub act-reduced : (u x : List ℤ) → is_reduced x ≡ true → is_reduced (act u x) ≡ true
act-reduced [] x e = e
act-reduced (g ∷ u) x e = reduced-before g (act u x) (act-reduced u x e)

-- putting a letter before the word that acts, or before what it gives
act-before : (g : ℤ) (w x : List ℤ) → is_letter g ≡ true → is_reduced x ≡ true → act (before g w) x ≡ before g (act w x)
act-before g [] x l e = refl
act-before g (h ∷ w) x l e = by (same_letter h (inverse g)) refl
  where
    by : (b : Bool) → same_letter h (inverse g) ≡ b → act (before g (h ∷ w)) x ≡ before g (before h (act w x))
    by true k = rw (before-undone g h w k) (rw (same_letter-true h (inverse g) k) (sym (rw (inverse_twice g) at (undo (inverse g) (act w x) (letter_inverse g l) (act-reduced w x e)))))
    by false k = rw (before-put g (h ∷ w) k) refl

pub act-of_reduced : (u x : List ℤ) → are_letters u ≡ true → is_reduced x ≡ true → act (reduced u) x ≡ act u x
act-of_reduced [] x l e = refl
act-of_reduced (g ∷ u) x l e = act-before g (reduced u) x (and-left (is_letter g) _ l) e ∙ ap (before g) (act-of_reduced u x (and-right (is_letter g) _ l) e)

pub reduced_append : ReducedAppend
reduced_append u v l = reduced-append_act u v ∙ sym (reduced-append_act (reduced u) (reduced v) ∙ (ap (act (reduced u)) (stays_reduced (reduced v) (reduced_is v)) ∙ act-of_reduced u (reduced v) l (reduced_is v)))

module _ (at : ℤ → ℕ → ℕ) (is : ℕ → Bool) (keeps : (g : ℤ) (x : ℕ) → is x ≡ true → is (at g x) ≡ true) (undone : (g : ℤ) (x : ℕ) → is x ≡ true → at (inverse g) (at g x) ≡ x) where
  follow-before : (g : ℤ) (w : List ℤ) (x : ℕ) → is x ≡ true → follow at (before g w) x ≡ follow at w (at g x)
  follow-before g [] x e = refl
  follow-before g (h ∷ w) x e = by (same_letter h (inverse g)) refl
    where
      by : (b : Bool) → same_letter h (inverse g) ≡ b → follow at (before g (h ∷ w)) x ≡ follow at w (at h (at g x))
      by true k = rw (before-undone g h w k) (rw (same_letter-true h (inverse g) k) (ap (follow at w) (sym (undone g x e))))
      by false k = rw (before-put g (h ∷ w) k) refl

  follow-reduced : (w : List ℤ) (x : ℕ) → is x ≡ true → follow at (reduced w) x ≡ follow at w x
  follow-reduced [] x e = refl
  follow-reduced (g ∷ w) x e = follow-before g (reduced w) x e ∙ follow-reduced w (at g x) (keeps g x e)

pub follow_reduced : FollowReduced
follow_reduced at is keeps undone w x e = follow-reduced at is keeps undone w x e

pub act-append : (u v x : List ℤ) → act (u ++ v) x ≡ act u (act v x)
act-append [] v x = refl
act-append (g ∷ u) v x = ap (before g) (act-append u v x)

-- a word and its inverse undo each other
pub act-inverted : (w x : List ℤ) → are_letters w ≡ true → is_reduced x ≡ true → act (inverted w) (act w x) ≡ x
act-inverted [] x l e = refl
act-inverted (g ∷ w) x l e = act-append (inverted w) (inverse g ∷ []) (before g (act w x)) ∙ (ap (act (inverted w)) (undo g (act w x) (and-left (is_letter g) _ l) (act-reduced w x e)) ∙ act-inverted w x (and-right (is_letter g) _ l) e)

pub inverted-undone : (w x : List ℤ) → are_letters w ≡ true → is_reduced x ≡ true → act w (act (inverted w) x) ≡ x
inverted-undone [] x l e = refl
inverted-undone (g ∷ w) x l e = ap (λ y. before g (act w y)) (act-append (inverted w) (inverse g ∷ []) x) ∙ (ap (before g) (inverted-undone w (before (inverse g) x) (and-right (is_letter g) _ l) (reduced-before (inverse g) x e)) ∙ (rw (inverse_twice g) at (undo (inverse g) x (letter_inverse g (and-left (is_letter g) _ l)) e)))

pub after_is : AfterIs
after_is [] g e l = refl
after_is (h ∷ []) g e l = by (same_letter h (inverse g)) refl
  where
    by : (b : Bool) → same_letter h (inverse g) ≡ b → before h (g ∷ []) ≡ cond (same_letter h (inverse g)) [] (h ∷ g ∷ [])
    by true k = rw k (rw (same_letter-true h (inverse g) k) (before-undone (inverse g) g [] (rw (inverse_twice g) (same_letter-refl g))))
    by false k = rw k (before-put h (g ∷ []) (turned (same_letter g (inverse h)) refl k))
      where
        turned : (b : Bool) → same_letter g (inverse h) ≡ b → same_letter h (inverse g) ≡ false → same_letter g (inverse h) ≡ false
        turned true i j = absurd (grind (arith, rw (same_letter-true g (inverse h) i, inverse_twice h, same_letter-refl h) at j))
        turned false i j = i
after_is (h ∷ k ∷ w) g e l = ap (before h) (after_is (k ∷ w) g (tail_reduced h (k ∷ w) e) l) ∙ by (last_undone (k ∷ w) g) refl w refl
  where
    by : (b : Bool) → last_undone (k ∷ w) g ≡ b → (v : List ℤ) → v ≡ w → before h (after (k ∷ w) g) ≡ after (h ∷ k ∷ w) g
    by true i [] j = rw (i, ← j) refl
    by true i (x ∷ v) j = rw (i, ← j) (before-put h (k ∷ drop_last (x ∷ v)) (head_free h (k ∷ w) e))
    by false i v j = rw i (before-put h (k ∷ (w ++ g ∷ [])) (head_free h (k ∷ w) e))

last_undone-put : (u : List ℤ) (x g : ℤ) → last_undone (u ++ x ∷ []) g ≡ same_letter x (inverse g)
last_undone-put [] x g = refl
last_undone-put (h ∷ []) x g = refl
last_undone-put (h ∷ k ∷ u) x g = last_undone-put (k ∷ u) x g

reduced-put : (u : List ℤ) (g : ℤ) → is_reduced u ≡ true → last_undone u g ≡ false → is_reduced (u ++ g ∷ []) ≡ true
reduced-put [] g e k = refl
reduced-put (h ∷ []) g e k = reduced_put h (g ∷ []) (turn (same_letter g (inverse h)) refl) refl
  where
    turn : (b : Bool) → same_letter g (inverse h) ≡ b → same_letter g (inverse h) ≡ false
    turn true i = absurd (grind (arith, rw (same_letter-true g (inverse h) i, inverse_twice h, same_letter-refl h) at k))
    turn false i = i
reduced-put (h ∷ x ∷ u) g e k = reduced_put h (x ∷ (u ++ g ∷ [])) (head_free h (x ∷ u) e) (reduced-put (x ∷ u) g (tail_reduced h (x ∷ u) e) k)

reduced-inverted : (w : List ℤ) → is_reduced w ≡ true → is_reduced (inverted w) ≡ true
reduced-inverted [] e = refl
reduced-inverted (g ∷ []) e = refl
reduced-inverted (g ∷ h ∷ w) e = reduced-put (inverted (h ∷ w)) (inverse g) (reduced-inverted (h ∷ w) (tail_reduced g (h ∷ w) e)) (last_undone-put (inverted w) (inverse h) (inverse g) ∙ turn (same_letter (inverse h) (inverse (inverse g))) refl)
  where
    turn : (b : Bool) → same_letter (inverse h) (inverse (inverse g)) ≡ b → same_letter (inverse h) (inverse (inverse g)) ≡ false
    turn true i = absurd (grind (arith, rw (sym (inverse_twice h), same_letter-true (inverse h) (inverse (inverse g)) i, inverse_twice (inverse g), same_letter-refl (inverse g)) at (head_free g (h ∷ w) e)))
    turn false i = i

are_letters-before : (g : ℤ) (w : List ℤ) → is_letter g ≡ true → are_letters w ≡ true → are_letters (before g w) ≡ true
are_letters-before g [] l e = rw l refl
are_letters-before g (h ∷ w) l e = by (same_letter h (inverse g)) refl
  where
    by : (b : Bool) → same_letter h (inverse g) ≡ b → are_letters (before g (h ∷ w)) ≡ true
    by true k = rw (before-undone g h w k) (and-right (is_letter h) _ e)
    by false k = rw (before-put g (h ∷ w) k, l) e

pub are_letters-reduced : (w : List ℤ) → are_letters w ≡ true → are_letters (reduced w) ≡ true
are_letters-reduced [] e = refl
are_letters-reduced (g ∷ w) e = are_letters-before g (reduced w) (and-left (is_letter g) _ e) (are_letters-reduced w (and-right (is_letter g) _ e))

reduced-act : (u : List ℤ) → reduced u ≡ act u []
reduced-act [] = refl
reduced-act (g ∷ u) = ap (before g) (reduced-act u)

pub reduced_inverted : ReducedInverted
reduced_inverted w l =
    let r = reduced w in
    let m = are_letters-reduced w l in
    let y = act (inverted r) [] in
    let yr = act-reduced (inverted r) [] refl in
    reduced-act (inverted w) ∙ (ap (act (inverted w)) (sym (inverted-undone r [] m refl) ∙ act-of_reduced w y l yr) ∙ (act-inverted w y l yr ∙ (sym (reduced-act (inverted r)) ∙ stays_reduced (inverted r) (reduced-inverted r (reduced_is w)))))

-- ---- forced words

pub letters : (x y : List ℤ) → are_letters x ≡ true → are_letters y ≡ true → are_letters (x ++ y) ≡ true
letters [] y h k = k
letters (z ∷ x) y h k = rw (and-left (is_letter z) _ h) (letters x y (and-right (is_letter z) _ h) k)

pub letters_inverted : (x : List ℤ) → are_letters x ≡ true → are_letters (inverted x) ≡ true
letters_inverted [] h = refl
letters_inverted (z ∷ x) h = letters (inverted x) (inverse z ∷ []) (letters_inverted x (and-right (is_letter z) _ h)) (rw (letter_inverse z (and-left (is_letter z) _ h)) refl)

pub forced_unique : ForcedUnique
forced_unique u w v lu lw lv r e = go
  where
    y : List ℤ
    y = act (inverted v) []

    yr : is_reduced (act (inverted v) []) ≡ true
    yr = act-reduced (inverted v) [] refl

    one : act u (act w (reduced v)) ≡ []
    one = sym (reduced-append_act u (w ++ v) ∙ ap (act u) (reduced-append_act w v)) ∙ e

    two : reduced (w ++ v) ≡ reduced (inverted u)
    two = reduced-append_act w v ∙ (sym (act-inverted u (act w (reduced v)) lu (act-reduced w (reduced v) (reduced_is v))) ∙ (ap (act (inverted u)) one ∙ sym (reduced-act (inverted u))))

    left : w ≡ act (reduced (w ++ v)) (act (inverted v) [])
    left = sym (act-of_reduced (w ++ v) (act (inverted v) []) (letters w v lw lv) yr ∙ (act-append w v (act (inverted v) []) ∙ (ap (act w) (inverted-undone v [] lv refl) ∙ (sym (reduced-act w) ∙ stays_reduced w r))))

    right : act (reduced (inverted u)) (act (inverted v) []) ≡ reduced (inverted u ++ inverted v)
    right = act-of_reduced (inverted u) (act (inverted v) []) (letters_inverted u lu) yr ∙ sym (reduced-append_act (inverted u) (inverted v) ∙ ap (act (inverted u)) (reduced-act (inverted v)))

    go : w ≡ reduced (inverted u ++ inverted v)
    go = left ∙ (ap (λ z. act z (act (inverted v) [])) two ∙ right)
