-- Words in letters, and what is left of them where letters that undo each other are dropped. (Reduced words of a free group; textbook.)
-- A letter is g or -g, where g is a generator, counted from 1; 0 is no letter. u, v and w are words, lists of letters.
--   inverse g              the letter that undoes g
--   same_letter g h        whether two letters are the same
--   is_letter g            whether it is a generator or the inverse of one
--   are_letters w          whether all of the word are
--   before g w             g put before a word: dropped, with the first letter, where they undo each other
--   reduced w              the letters put before the empty word, from the last on: the reduced word
--   begins_undone g w      whether the word begins with the letter that undoes g
--   is_reduced w           whether no letter stands before one that undoes it
--   inverted w             the word backward, with its letters inverted
--   last_undone w g        whether the word ends with the letter that undoes g
--   drop_last w            the word without its last letter
--   after w g              g put after a word, in the same way
--   follow at w x          where a walk by the letters ends that begins at x: at g x is where the letter g leads from x
-- Laws:
--   Undo                   a letter put before a reduced word, and then the letter that undoes it, leave the word
--   ReducedIs              what `reduced` gives is reduced
--   StaysReduced           it leaves a reduced word as it is
--   ReducedAppend          a word may be reduced in parts
--   ReducedInverted        the inverse of a word reduces to the inverse of the reduced word
--   AfterIs                a letter put after a reduced word gives the reduced word with the letter at its end
--   ForcedUnique           a reduced word between two others with which it reduces to nothing is what these force
--   FollowReduced          by letters that undo each other a walk ends alike for a word and for the reduced word
use Rattle.std.specs.Prelude.{◌≡◌, ℕ, zero, suc, ℤ, pos, negsuc, List, [], ◌∷◌, ◌++◌, Bool, true, false, if◌then◌else◌, ◌==◌, ◌&&◌}

abbrev pub inverse : ℤ → ℤ
inverse (pos zero) = pos zero
inverse (pos (suc n)) = negsuc n
inverse (negsuc n) = pos (suc n)

abbrev pub same_letter : ℤ → ℤ → Bool
same_letter (pos m) (pos n) = m == n
same_letter (pos m) (negsuc n) = false
same_letter (negsuc m) (pos n) = false
same_letter (negsuc m) (negsuc n) = m == n

abbrev pub is_letter : ℤ → Bool
is_letter (pos zero) = false
is_letter (pos (suc n)) = true
is_letter (negsuc n) = true

abbrev pub are_letters : List ℤ → Bool
are_letters [] = true
are_letters (g ∷ w) = is_letter g && are_letters w

abbrev pub before : ℤ → List ℤ → List ℤ
before g [] = g ∷ []
before g (h ∷ w) = if same_letter h (inverse g) then w else (g ∷ h ∷ w)

abbrev pub reduced : List ℤ → List ℤ
reduced [] = []
reduced (g ∷ w) = before g (reduced w)

abbrev pub begins_undone : ℤ → List ℤ → Bool
begins_undone g [] = false
begins_undone g (h ∷ w) = same_letter h (inverse g)

abbrev pub is_reduced : List ℤ → Bool
is_reduced [] = true
is_reduced (g ∷ w) = if begins_undone g w then false else is_reduced w

abbrev pub inverted : List ℤ → List ℤ
inverted [] = []
inverted (g ∷ w) = inverted w ++ inverse g ∷ []

abbrev pub last_undone : List ℤ → ℤ → Bool
last_undone [] g = false
last_undone (h ∷ []) g = same_letter h (inverse g)
last_undone (h ∷ k ∷ w) g = last_undone (k ∷ w) g

abbrev pub drop_last : List ℤ → List ℤ
drop_last [] = []
drop_last (h ∷ []) = []
drop_last (h ∷ k ∷ w) = h ∷ drop_last (k ∷ w)

abbrev pub after : List ℤ → ℤ → List ℤ
after w g = if last_undone w g then drop_last w else (w ++ g ∷ [])

abbrev pub follow : (at : ℤ → ℕ → ℕ) → List ℤ → (x : ℕ) → ℕ
follow at [] x = x
follow at (g ∷ w) x = follow at w (at g x)

abbrev pub Undo : Type 0
Undo = (g : ℤ) (w : List ℤ) → is_letter g ≡ true → is_reduced w ≡ true → before (inverse g) (before g w) ≡ w

abbrev pub ReducedIs : Type 0
ReducedIs = (w : List ℤ) → is_reduced (reduced w) ≡ true

abbrev pub StaysReduced : Type 0
StaysReduced = (w : List ℤ) → is_reduced w ≡ true → reduced w ≡ w

abbrev pub ReducedAppend : Type 0
ReducedAppend = (u v : List ℤ) → are_letters u ≡ true → reduced (u ++ v) ≡ reduced (reduced u ++ reduced v)

abbrev pub ReducedInverted : Type 0
ReducedInverted = (w : List ℤ) → are_letters w ≡ true → reduced (inverted w) ≡ inverted (reduced w)

abbrev pub AfterIs : Type 0
AfterIs = (w : List ℤ) (g : ℤ) → is_reduced w ≡ true → is_letter g ≡ true → reduced (w ++ g ∷ []) ≡ after w g

abbrev pub ForcedUnique : Type 0
ForcedUnique =
    (u w v : List ℤ)
    → are_letters u ≡ true
    → are_letters w ≡ true
    → are_letters v ≡ true
    → is_reduced w ≡ true
    → reduced (u ++ (w ++ v)) ≡ []
    → w ≡ reduced (inverted u ++ inverted v)

abbrev pub FollowReduced : Type 0
FollowReduced =
    (at : ℤ → ℕ → ℕ) (is : ℕ → Bool)
    → ((g : ℤ) (x : ℕ) → is x ≡ true → is (at g x) ≡ true)
    → ((g : ℤ) (x : ℕ) → is x ≡ true → at (inverse g) (at g x) ≡ x)
    → (w : List ℤ) (x : ℕ)
    → is x ≡ true
    → follow at (reduced w) x ≡ follow at w x
