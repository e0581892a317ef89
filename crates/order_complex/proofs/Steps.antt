-- One item more of a list that is made in a loop.
use Rattle.std.proofs.Common.{◌≡◌, ℕ, ◌+◌, ◌<◌, List, [], ◌∷◌, ◌++◌, map, length, take, get_or, ap, sym, ◌∙◌}
use Rattle.std.specs.List.{flat_map}
use Rattle.std.proofs.lemmas.List.{take_more, append-nil, map-append}
use Rattle.std.proofs.lemmas.List.Concat.{flat_map-append}

pub map_more : {A B : Type 0} (f : A → B) (xs : List A) (i : ℕ) (d x : A) (made now : List B) → i < length xs → x ≡ get_or xs i d
    → made ≡ map f (take i xs) → now ≡ made ++ f x ∷ [] → now ≡ map f (take (i + 1) xs)
map_more f xs i d x made now l e m n =
    n ∙ ap (λ ys. ys ++ f x ∷ []) m ∙ ap (λ y. map f (take i xs) ++ f y ∷ []) e ∙ sym (map-append f (take i xs) (get_or xs i d ∷ [])) ∙ ap (map f) (sym (take_more xs i d l))

pub flat_map_more : {A B : Type 0} (f : A → List B) (xs : List A) (i : ℕ) (d x : A) (made now : List B) → i < length xs → x ≡ get_or xs i d
    → made ≡ flat_map f (take i xs) → now ≡ made ++ f x → now ≡ flat_map f (take (i + 1) xs)
flat_map_more f xs i d x made now l e m n =
    n ∙ ap (λ ys. ys ++ f x) m ∙ ap (λ y. flat_map f (take i xs) ++ f y) e ∙ ap (λ ys. flat_map f (take i xs) ++ ys) (sym (append-nil (f (get_or xs i d))))
    ∙ sym (flat_map-append f (take i xs) (get_or xs i d ∷ [])) ∙ ap (flat_map f) (sym (take_more xs i d l))
