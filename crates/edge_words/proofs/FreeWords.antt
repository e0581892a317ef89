-- Words up to letters that undo each other: what is left of a word and its inverse, and the word that stands at one place of a round.
use Rattle.std.proofs.Common.{◌≡◌, List, [], ◌∷◌, ◌++◌, refl, ap, sym, ◌∙◌, Bool, true, false, cond}
use Rattle.std.specs.Prelude.{ℤ, pos, negsuc}
use Rattle.std.proofs.lemmas.Bool.{eq-eqb, false≢true}
use Rattle.std.proofs.lemmas.List.{append_assoc, append-nil}
use Rattle.number_lists.proofs.CallerLemmas.{and-right}
use Rattle.pair_laws.specs.Letters.{inverse, same_letter, is_letter, are_letters, before, reduced, is_reduced, inverted}
use Rattle.pair_laws.proofs.CallerLemmas.{reduced_is, stays_reduced, reduced_append, reduced_inverted, forced_unique, inverse_twice, letters, letters_inverted, are_letters-reduced}

-- ---- inverses

same_letter-refl : (g : ℤ) → same_letter g g ≡ true
same_letter-refl (pos m) = eq-eqb m m refl
same_letter-refl (negsuc m) = eq-eqb m m refl

pub inverted-append : (u v : List ℤ) → inverted (u ++ v) ≡ inverted v ++ inverted u
inverted-append [] v = sym (append-nil (inverted v))
inverted-append (g ∷ u) v = ap (λ (w : List ℤ). w ++ inverse g ∷ []) (inverted-append u v) ∙ append_assoc (inverted v) (inverted u) (inverse g ∷ [])

pub inverted-twice : (w : List ℤ) → inverted (inverted w) ≡ w
inverted-twice [] = refl
inverted-twice (g ∷ w) =
    inverted-append (inverted w) (inverse g ∷ [])
    ∙ (ap (λ (h : ℤ). h ∷ inverted (inverted w)) (inverse_twice g) ∙ ap (λ (v : List ℤ). g ∷ v) (inverted-twice w))

pub is_reduced-inverted : (w : List ℤ) → are_letters w ≡ true → is_reduced w ≡ true → is_reduced (inverted w) ≡ true
is_reduced-inverted w l r = rw (reduced_inverted w l ∙ ap inverted (stays_reduced w r)) at (reduced_is (inverted w))

-- ---- words reduced in parts

pub reduced-left : (u v : List ℤ) → are_letters u ≡ true → reduced (reduced u ++ v) ≡ reduced (u ++ v)
reduced-left u v l =
    reduced_append (reduced u) v (are_letters-reduced u l)
    ∙ (ap (λ (w : List ℤ). reduced (w ++ reduced v)) (stays_reduced (reduced u) (reduced_is u)) ∙ sym (reduced_append u v l))

pub reduced-right : (u v : List ℤ) → are_letters u ≡ true → reduced (u ++ reduced v) ≡ reduced (u ++ v)
reduced-right u v l =
    reduced_append u (reduced v) l ∙ (ap (λ (w : List ℤ). reduced (reduced u ++ w)) (stays_reduced (reduced v) (reduced_is v)) ∙ sym (reduced_append u v l))

-- a word and its inverse leave nothing
pub reduced-undone : (w : List ℤ) → are_letters w ≡ true → reduced (w ++ inverted w) ≡ []
reduced-undone [] l = refl
reduced-undone (g ∷ w) l =
    let t = and-right (is_letter g) (are_letters w) l in
    ap (before g)
    (ap reduced (sym (append_assoc w (inverted w) (inverse g ∷ [])))
    ∙ (sym (reduced-left (w ++ inverted w) (inverse g ∷ []) (letters w (inverted w) t (letters_inverted w t)))
    ∙ ap (λ (v : List ℤ). reduced (v ++ inverse g ∷ [])) (reduced-undone w t)))
    ∙ last (same_letter (inverse g) (inverse g)) (same_letter-refl (inverse g))
  where
    last : (b : Bool) → b ≡ true → cond b [] (g ∷ inverse g ∷ []) ≡ []
    last true e = refl
    last false e = absurd (false≢true e)

pub reduced-undone_back : (w : List ℤ) → are_letters w ≡ true → reduced (inverted w ++ w) ≡ []
reduced-undone_back w l = rw (inverted-twice w) at (reduced-undone (inverted w) (letters_inverted w l))

-- ---- the word at one place of a round

-- the word that goes back along the rest of a round
pub round-closed : (u v : List ℤ) → are_letters u ≡ true → are_letters v ≡ true → reduced (u ++ (reduced (inverted (v ++ u)) ++ v)) ≡ []
round-closed u v lu lv =
    sym (reduced-right u (reduced (inverted (v ++ u)) ++ v) lu)
    ∙ (ap (λ (w : List ℤ). reduced (u ++ w)) (reduced-left (inverted (v ++ u)) v (letters_inverted (v ++ u) (letters v u lv lu)))
    ∙ (reduced-right u (inverted (v ++ u) ++ v) lu
    ∙ (ap (λ (w : List ℤ). reduced (u ++ w)) apart
    ∙ (ap reduced (sym (append_assoc u (inverted u) (inverted v ++ v)))
    ∙ (reduced_append (u ++ inverted u) (inverted v ++ v) (letters u (inverted u) lu (letters_inverted u lu))
    ∙ (ap (λ (w : List ℤ). reduced (w ++ reduced (inverted v ++ v))) (reduced-undone u lu)
    ∙ ap (λ (w : List ℤ). reduced w) (reduced-undone_back v lv)))))))
  where
    apart : inverted (v ++ u) ++ v ≡ inverted u ++ (inverted v ++ v)
    apart = ap (λ (w : List ℤ). w ++ v) (inverted-append v u) ∙ append_assoc (inverted u) (inverted v) v

-- no two reduced words close the same round
pub round-once : (u w x v : List ℤ) → are_letters u ≡ true → are_letters w ≡ true → are_letters x ≡ true → are_letters v ≡ true
    → is_reduced w ≡ true → is_reduced x ≡ true → reduced (u ++ (w ++ v)) ≡ [] → reduced (u ++ (x ++ v)) ≡ [] → w ≡ x
round-once u w x v lu lw lx lv rw_ rx e f = forced_unique u w v lu lw lv rw_ e ∙ sym (forced_unique u x v lu lx lv rx f)
