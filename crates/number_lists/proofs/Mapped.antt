-- Lemmas on maps, filters and joined lists that std does not have.
use Rattle.std.proofs.Common.{◌≡◌, ◌<◌, ◌+◌, ◌-◌, ◌++◌, ◌∷◌, [], ℕ, zero, suc, Bool, true, false, cond, ◌||◌, inl, inr, List, get_or, length, map, filter, refl, sym, ◌∙◌, ap, arith, subst, append_assoc, AllPairs, Some, slice_get, take, drop}
use Rattle.std.specs.List.{flat_map, list_any, range_with_len}
use Rattle.std.proofs.lemmas.Bool.{cases_lt}
use Rattle.std.proofs.lemmas.List.{append-nil, map-append, length-append, get_or_append_left, get_or-append_right, take_more, drop_more, take-append-drop}
use Rattle.std.proofs.lemmas.List.Concat.{flat_map-append}
use Rattle.std.proofs.lemmas.List.Elements.{filter-append}
use Rattle.std.proofs.lemmas.List.FromFn.{map-range_with_len_more}
use Rattle.std.proofs.lemmas.Option.{get_or_from_slice_get}

-- ---- two functions that agree at each element

pub map_agree : {A B : Type 0} (f g : A → B) (xs : List A) → ((x : A) → f x ≡ g x) → map f xs ≡ map g xs
map_agree f g [] h = refl
map_agree f g (x ∷ xs) h = ap (λ y. y ∷ map f xs) (h x) ∙ ap (λ ys. g x ∷ ys) (map_agree f g xs h)

pub flat_map_agree : {A B : Type 0} (f g : A → List B) (xs : List A) → ((x : A) → f x ≡ g x) → flat_map f xs ≡ flat_map g xs
flat_map_agree f g [] h = refl
flat_map_agree f g (x ∷ xs) h = ap (λ ys. ys ++ flat_map f xs) (h x) ∙ ap (λ ys. g x ++ ys) (flat_map_agree f g xs h)

-- ---- one after another

pub filter-map : {A B : Type 0} (p : B → Bool) (f : A → B) (xs : List A) → filter p (map f xs) ≡ map f (filter (λ x. p (f x)) xs)
filter-map p f [] = refl
filter-map p f (x ∷ xs) = ap (λ ys. cond (p (f x)) (f x ∷ ys) ys) (filter-map p f xs) ∙ taken (p (f x))
  where
    taken : (b : Bool) → cond b (f x ∷ map f (filter (λ y. p (f y)) xs)) (map f (filter (λ y. p (f y)) xs)) ≡ map f (cond b (x ∷ filter (λ y. p (f y)) xs) (filter (λ y. p (f y)) xs))
    taken true = refl
    taken false = refl

pub list_any-map : {A B : Type 0} (p : B → Bool) (f : A → B) (xs : List A) → list_any p (map f xs) ≡ list_any (λ x. p (f x)) xs
list_any-map p f [] = refl
list_any-map p f (x ∷ xs) = ap (λ (b : Bool). p (f x) || b) (list_any-map p f xs)

pub flat_map-flat_map : {A B C : Type 0} (g : B → List C) (f : A → List B) (xs : List A) → flat_map g (flat_map f xs) ≡ flat_map (λ x. flat_map g (f x)) xs
flat_map-flat_map g f [] = refl
flat_map-flat_map g f (x ∷ xs) = flat_map-append g (f x) (flat_map f xs) ∙ ap (λ ys. flat_map g (f x) ++ ys) (flat_map-flat_map g f xs)

pub map-flat_map : {A B C : Type 0} (g : B → C) (f : A → List B) (xs : List A) → map g (flat_map f xs) ≡ flat_map (λ x. map g (f x)) xs
map-flat_map g f [] = refl
map-flat_map g f (x ∷ xs) = map-append g (f x) (flat_map f xs) ∙ ap (λ ys. map g (f x) ++ ys) (map-flat_map g f xs)

pub filter-flat_map : {A B : Type 0} (p : B → Bool) (f : A → List B) (xs : List A) → filter p (flat_map f xs) ≡ flat_map (λ x. filter p (f x)) xs
filter-flat_map p f [] = refl
filter-flat_map p f (x ∷ xs) = filter-append p (f x) (flat_map f xs) ∙ ap (λ ys. filter p (f x) ++ ys) (filter-flat_map p f xs)

-- the numbers below a sum
pub map-range_with_len_add : {A : Type 0} (f : ℕ → A) (a b : ℕ) → map f (range_with_len 0 (a + b)) ≡ map f (range_with_len 0 a) ++ map (λ j. f (a + j)) (range_with_len 0 b)
map-range_with_len_add f a zero = let e : a + zero ≡ a = omega arith in ap (λ (n : ℕ). map f (range_with_len 0 n)) e ∙ sym (append-nil (map f (range_with_len 0 a)))
map-range_with_len_add f a (suc b) =
    let e : a + suc b ≡ a + b + 1 = omega arith in
    let s : suc b ≡ b + 1 = omega arith in
    ap (λ (n : ℕ). map f (range_with_len 0 n)) e
    ∙ (map-range_with_len_more f 0 (a + b) (a + b) (omega arith)
    ∙ (ap (λ ys. ys ++ f (a + b) ∷ []) (map-range_with_len_add f a b)
    ∙ (append_assoc (map f (range_with_len 0 a)) (map (λ j. f (a + j)) (range_with_len 0 b)) (f (a + b) ∷ [])
    ∙ ap (λ ys. map f (range_with_len 0 a) ++ ys) (sym (ap (λ (n : ℕ). map (λ j. f (a + j)) (range_with_len 0 n)) s ∙ map-range_with_len_more (λ j. f (a + j)) 0 b b (omega arith))))))

-- ---- pairs

pub AllPairs-append : {X : Type 0} (R : X → X → Type 0) (xs ys : List X) → AllPairs R xs → AllPairs R ys → ((i j : ℕ) (d : X) → i < length xs → j < length ys → R (get_or xs i d) (get_or ys j d)) → AllPairs R (xs ++ ys)
AllPairs-append R xs ys a b across i j d lt within =
    let long : length (xs ++ ys) ≡ length xs + length ys = length-append xs ys in
    elim (cases_lt j (length xs)) [
      | inl lj ↦ subst (λ (x : _). R x (get_or (xs ++ ys) j d)) (sym (get_or_append_left xs ys d i (omega arith))) (subst (λ (y : _). R (get_or xs i d) y) (sym (get_or_append_left xs ys d j lj)) (a i j d lt lj))
      | inr gj ↦
          let right : get_or (xs ++ ys) j d ≡ get_or ys (j - length xs) d = get_or-append_right xs ys (length xs) j d refl gj in
          elim (cases_lt i (length xs)) [
            | inl li ↦ subst (λ (x : _). R x (get_or (xs ++ ys) j d)) (sym (get_or_append_left xs ys d i li)) (subst (λ (y : _). R (get_or xs i d) y) (sym right) (across i (j - length xs) d li (omega arith)))
            | inr gi ↦
                subst (λ (x : _). R x (get_or (xs ++ ys) j d)) (sym (get_or-append_right xs ys (length xs) i d refl gi))
                (subst (λ (y : _). R (get_or ys (i - length xs) d) y) (sym right) (b (i - length xs) (j - length xs) d (omega arith) (omega arith)))
          ]
    ]

-- ---- a list that was read at a place

pub take-slice_get : {A : Type 0} (xs : List A) (i : ℕ) (x : A) → i < length xs → slice_get xs i ≡ Some x → take (i + 1) xs ≡ take i xs ++ x ∷ []
take-slice_get xs i x l e = take_more xs i x l ∙ ap (λ (y : _). take i xs ++ y ∷ []) (get_or_from_slice_get xs i x x e)

pub split-slice_get : {A : Type 0} (xs : List A) (i : ℕ) (x : A) → i < length xs → slice_get xs i ≡ Some x → take i xs ++ x ∷ drop (i + 1) xs ≡ xs
split-slice_get xs i x l e =
    ap (λ (y : _). take i xs ++ y ∷ drop (i + 1) xs) (sym (get_or_from_slice_get xs i x x e)) ∙ (ap (λ (ys : List _). take i xs ++ ys) (sym (drop_more xs i x l)) ∙ take-append-drop i xs)
