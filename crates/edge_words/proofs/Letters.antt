-- Letters in range, and words that are reduced part by part.
use Rattle.std.proofs.Common.{◌≡◌, ℕ, zero, suc, ◌+◌, ◌-◌, ◌<◌, ◌≤◌, List, [], ◌∷◌, ◌++◌, length, set, take, get_or, reverse, map, refl, ap, sym, ◌∙◌, arith, true, false, Some}
use Rattle.std.specs.Prelude.{ℤ, slice_get}
use Rattle.std.proofs.lemmas.List.{append-nil, append_assoc, map-append, reverse-append, length-map, length-reverse, take_more, get_or-map, get_or-reverse}
use Rattle.pair_laws.specs.Letters.{inverse, same_letter, reduced, inverted, is_letter, is_reduced, last_undone, drop_last}
use Rattle.pair_laws.proofs.CallerLemmas.{reduced_is, stays_reduced, after_is}
use Rattle.sheet_laws.specs.Permutations.{InRange}
use Rattle.live_laws.specs.Walks.{generator, AreLetters}
use Rattle.edge_words.specs.Reducing.{IsWord}
use Rattle.edge_words.proofs.LetterWalks.{letters-are, letters-append, letters-reduced}
use Rattle.edge_words.proofs.FreeWords.{reduced-left}

pub letters-wider : (c d : ℕ) (w : List ℤ) → c ≤ d → AreLetters c w → AreLetters d w
letters-wider c d [] l h = tt
letters-wider c d (g ∷ w) l h = ((h.0.0, omega (arith, h.0.1, l)), letters-wider c d w l h.1)

-- ---- reduced words

pub word-reduced : (w : List ℤ) → AreLetters 60000 w → IsWord (reduced w)
word-reduced w h = record { letters = letters-reduced 60000 w h; is = reduced_is w }

-- what comes, and what comes after it
pub reduced-then : (first xs ys w v : List ℤ) → AreLetters 60000 first → AreLetters 60000 xs → w ≡ reduced (first ++ xs) → v ≡ reduced (w ++ ys) → v ≡ reduced (first ++ (xs ++ ys))
reduced-then first xs ys w v f x e d =
    d
    ∙ (ap (λ (u : List ℤ). reduced (u ++ ys)) e
    ∙ (reduced-left (first ++ xs) ys (letters-are 60000 (first ++ xs) (letters-append 60000 first xs f x)) ∙ ap reduced (append_assoc first xs ys)))

pub word-then : (first xs w : List ℤ) → AreLetters 60000 first → AreLetters 60000 xs → w ≡ reduced (first ++ xs) → IsWord w
word-then first xs w f x e = rw e (word-reduced (first ++ xs) (letters-append 60000 first xs f x))

pub reduced-none : (w : List ℤ) → is_reduced w ≡ true → w ≡ reduced (w ++ [])
reduced-none w r = sym (ap reduced (append-nil w) ∙ stays_reduced w r)

pub letters-take : (c i : ℕ) (w : List ℤ) → AreLetters c w → AreLetters c (take i w)
letters-take c zero w h = tt
letters-take c (suc i) [] h = tt
letters-take c (suc i) (g ∷ w) h = (h.0, letters-take c i w h.1)

pub letter-at : (c i : ℕ) (w : List ℤ) (d : ℤ) → AreLetters c w → i < length w → InRange c (generator (get_or w i d))
letter-at c i [] d h l = absurd (omega (arith, l))
letter-at c zero (g ∷ w) d h l = h.0
letter-at c (suc i) (g ∷ w) d h l = letter-at c i w d h.1 (omega (arith, l))

pub letters-set : (c i : ℕ) (w : List ℤ) (g : ℤ) → AreLetters c w → InRange c (generator g) → AreLetters c (set w i g)
letters-set c i [] g h r = tt
letters-set c zero (x ∷ w) g h r = (r, h.1)
letters-set c (suc i) (x ∷ w) g h r = (h.0, letters-set c i w g h.1 r)

pub letters-reverse : (c : ℕ) (w : List ℤ) → AreLetters c w → AreLetters c (reverse w)
letters-reverse c [] h = tt
letters-reverse c (g ∷ w) h = rw (reverse-append (g ∷ []) w) (letters-append c (reverse w) (g ∷ []) (letters-reverse c w h.1) (h.0, tt))

-- ---- the inverse

pub inverted-is : (w : List ℤ) → inverted w ≡ map inverse (reverse w)
inverted-is [] = refl
inverted-is (g ∷ w) = ap (λ (u : List ℤ). u ++ inverse g ∷ []) (inverted-is w) ∙ (sym (map-append inverse (reverse w) (g ∷ [])) ∙ ap (map inverse) (sym (reverse-append (g ∷ []) w)))

pub length-inverted : (w : List ℤ) → length (inverted w) ≡ length w
length-inverted w = ap (λ (u : List ℤ). length u) (inverted-is w) ∙ (length-map (reverse w) inverse ∙ length-reverse w)

-- one letter more of the inverse
pub inverted-more : (w : List ℤ) (i : ℕ) (d : ℤ) → i < length w → take (i + 1) (inverted w) ≡ take i (inverted w) ++ inverse (get_or w (length w - 1 - i) d) ∷ []
inverted-more w i d l =
    take_more (inverted w) i (inverse d) (omega (arith, l, length-inverted w))
    ∙ ap (λ (g : ℤ). take i (inverted w) ++ g ∷ [])
    (ap (λ (u : List ℤ). get_or u i (inverse d)) (inverted-is w)
    ∙ (get_or-map inverse (reverse w) i d (inverse d) (omega (arith, l, length-reverse w)) ∙ ap inverse (get_or-reverse w i d l)))

-- ---- the last letter

pub last_undone-last : (w : List ℤ) (x g : ℤ) → Some x ≡ slice_get w (length w - 1) → last_undone w g ≡ same_letter x (inverse g)
last_undone-last [] x g e = absurd (grind (arith, e))
last_undone-last (h ∷ []) x g e = ap (λ (y : ℤ). same_letter y (inverse g)) (sym (some-same e))
  where
    some-same : Some x ≡ Some h → x ≡ h
    some-same q = grind (arith, q)
last_undone-last (h ∷ k ∷ w) x g e = last_undone-last (k ∷ w) x g (e ∙ ap (λ (n : ℕ). slice_get (h ∷ k ∷ w) n) one)
  where
    one : length (h ∷ k ∷ w) - 1 ≡ suc (length (k ∷ w) - 1)
    one = omega arith

drop_last-take : (w : List ℤ) → drop_last w ≡ take (length w - 1) w
drop_last-take [] = refl
drop_last-take (h ∷ []) = refl
drop_last-take (h ∷ k ∷ w) = ap (λ (u : List ℤ). h ∷ u) (drop_last-take (k ∷ w)) ∙ ap (λ (n : ℕ). take n (h ∷ k ∷ w)) one
  where
    one : suc (length (k ∷ w) - 1) ≡ length (h ∷ k ∷ w) - 1
    one = omega arith

-- a letter comes after a reduced word
pub letter-undone : (w : List ℤ) (g : ℤ) → is_reduced w ≡ true → is_letter g ≡ true → last_undone w g ≡ true → take (length w - 1) w ≡ reduced (w ++ g ∷ [])
letter-undone w g r l e = sym (after_is w g r l ∙ (rw e refl ∙ drop_last-take w))

pub letter-put : (w : List ℤ) (g : ℤ) → is_reduced w ≡ true → is_letter g ≡ true → last_undone w g ≡ false → w ++ g ∷ [] ≡ reduced (w ++ g ∷ [])
letter-put w g r l e = sym (after_is w g r l ∙ rw e refl)
