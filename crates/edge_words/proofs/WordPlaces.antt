-- Words among letters: as one more word comes, or takes the place of another.
use Rattle.std.proofs.Common.{◌≡◌, ℕ, suc, ◌-◌, ◌≤◌, List, [], ◌∷◌, ◌++◌, map, length, take, drop, set, All, refl, ap, ◌∙◌, arith}
use Rattle.std.specs.Prelude.{ℤ}
use Rattle.std.proofs.lemmas.List.{map-set, map-append, take-append-le, drop-append-le, length-drop}
use Rattle.std.proofs.Math.Seq.{drop-append_seam}
use Rattle.std.proofs.lemmas.Grind.{common_steps}
use Rattle.edge_words.specs.declared.word_list.Place.{Place}
use Rattle.edge_words.specs.Places.{word_in, IsPlace}

-- a word stays as letters come behind
word-grown : (letters more : List ℤ) (place : Place) → IsPlace (length letters) place → word_in (letters ++ more) place ≡ word_in letters place
word-grown letters more place h =
    ap (take place.length) (drop-append-le place.start letters more (omega (arith, h)))
    ∙ take-append-le place.length (drop place.start letters) more (fits (length-drop place.start letters))
  where
    fits : length (drop place.start letters) ≡ length letters - place.start → place.length ≤ length (drop place.start letters)
    fits e = omega (arith, h, e)

words-grown : (letters more : List ℤ) (places : List Place) → All (IsPlace (length letters)) places → map (word_in (letters ++ more)) places ≡ map (word_in letters) places
words-grown letters more [] h = refl
words-grown letters more (p ∷ ps) h =
    ap (λ (w : List ℤ). w ∷ map (word_in (letters ++ more)) ps) (word-grown letters more p (h 0 p (omega arith)))
    ∙ ap (λ (ws : List (List ℤ)). word_in letters p ∷ ws) (words-grown letters more ps (λ k d l. h (suc k) d (omega (arith, l))))

-- the word that came last
word-new : (letters word : List ℤ) (place : Place) → place.start ≡ length letters → place.length ≡ length word → word_in (letters ++ word) place ≡ word
word-new letters word place s l = grind (arith, common_steps, s, l, drop-append_seam letters word)

module _ (letters word all : List ℤ) (places : List Place) (place : Place) (is : all ≡ letters ++ word) (h : All (IsPlace (length letters)) places) (s : place.start ≡ length letters) (l : place.length ≡ length word) where
  pub words-pushed : (more : List Place) → more ≡ places ++ place ∷ [] → map (word_in all) more ≡ map (word_in letters) places ++ word ∷ []
  words-pushed more e =
      rw (e, is)
      (map-append (word_in (letters ++ word)) places (place ∷ [])
      ∙ (ap (λ (ws : List (List ℤ)). ws ++ word_in (letters ++ word) place ∷ []) (words-grown letters word places h)
      ∙ ap (λ (w : List ℤ). map (word_in letters) places ++ w ∷ []) (word-new letters word place s l)))

  pub words-replaced : (i : ℕ) → map (word_in all) (set places i place) ≡ set (map (word_in letters) places) i word
  words-replaced i =
      rw is
      (map-set (word_in (letters ++ word)) places i place
      ∙ (ap (λ (ws : List (List ℤ)). set ws i (word_in (letters ++ word) place)) (words-grown letters word places h)
      ∙ ap (λ (w : List ℤ). set (map (word_in letters) places) i w) (word-new letters word place s l)))
