-- A word that is turned round in place.
use Rattle.std.proofs.Common.{◌≡◌, ℕ, ◌+◌, ◌<◌, ◌≤◌, List, ◌++◌, map, length, length-append, set, take, drop, get_or, reverse, ap, sym, ◌∙◌, arith}
use Rattle.std.specs.Prelude.{ℤ, pos, ◌-ℤ◌}
use Rattle.std.proofs.lemmas.List.{append-nil, length-map, length-take, length-drop, length-reverse, take_all, drop_all}
use Rattle.std.proofs.lemmas.List.Edits.{map_over_more}
use mir.Syntax.{w32}
use mir.Val.{of_z, to_z}
use Rattle.pair_laws.specs.Letters.{inverse, inverted}
use Rattle.live_laws.specs.Walks.{AreLetters}
use Rattle.edge_words.proofs.Bits.{handed, inverse-range}
use Rattle.edge_words.proofs.Letters.{letter-at, letters-set, inverted-is}

-- the letters before the place i are inverted
abbrev pub half : List ℤ → ℕ → List ℤ
half r i = map inverse (take i r) ++ drop i r

length-half : (r : List ℤ) (i : ℕ) → i ≤ length r → length (half r i) ≡ length r
length-half r i l =
    omega (arith, l, length-append (map inverse (take i r)) (drop i r), length-map (take i r) inverse, length-take i r, length-drop i r)

pub half-more : (r ys : List ℤ) (i : ℕ) (x : ℤ) → ys ≡ half r i → AreLetters 60000 ys → i < length r → x ≡ get_or ys i x
    → (set ys i (to_z w32 (of_z w32 (pos 0 -ℤ to_z w32 (of_z w32 x)))) ≡ half r (i + 1)) × AreLetters 60000 (set ys i (to_z w32 (of_z w32 (pos 0 -ℤ to_z w32 (of_z w32 x)))))
half-more r ys i x e h l read =
    let long : length ys ≡ length r = ap (λ (zs : List ℤ). length zs) e ∙ length-half r i (omega (arith, l)) in
    let q = rw (sym read) at (letter-at 60000 i ys x h (omega (arith, l, long))) in
    rw (handed x q) (map_over_more inverse r ys i x l e read, letters-set 60000 i ys (inverse x) h (inverse-range x q))

pub half-all : (w ys : List ℤ) (i : ℕ) → ys ≡ half (reverse w) i → length w ≤ i → ys ≡ inverted w
half-all w ys i e l =
    e
    ∙ (ap (λ (zs : List ℤ). map inverse zs ++ drop i (reverse w)) (take_all i (reverse w) (omega (arith, l, length-reverse w)))
    ∙ (ap (λ (zs : List ℤ). map inverse (reverse w) ++ zs) (drop_all i (reverse w) (omega (arith, l, length-reverse w)))
    ∙ (append-nil (map inverse (reverse w)) ∙ sym (inverted-is w))))
