-- Texts of lists, element by element.
use Rattle.std.proofs.Common.{◌≡◌, ◌<◌, ◌+◌, ◌-◌, ◌++◌, ◌∷◌, [], ℕ, zero, suc, List, length, take, drop, get_or, refl, sym, ◌∙◌, ap, arith, append_assoc}
use Rattle.std.specs.List.{flat_map, join_with_byte, range_with_len}
use Rattle.std.proofs.lemmas.List.{append-nil, take-append-drop, drop_more, take_more}
use Rattle.std.proofs.lemmas.List.Concat.{flat_map-append}

-- the text of the elements up to an index, and of one more
pub flat-more : {A : Type 0} (f : A → List ℕ) (xs : List A) (i : ℕ) (d : A) → i < length xs → flat_map f (take i xs) ++ f (get_or xs i d) ≡ flat_map f (take (i + 1) xs)
flat-more f xs i d l =
    sym (ap (flat_map f) (take_more xs i d l) ∙ (flat_map-append f (take i xs) (get_or xs i d ∷ []) ∙ ap (λ (ys : List ℕ). flat_map f (take i xs) ++ ys) (append-nil (f (get_or xs i d)))))

-- the elements before one, that one, and those after it
pub flat-split : {A : Type 0} (f : A → List ℕ) (xs : List A) (i : ℕ) (d : A) → i < length xs → flat_map f (take i xs) ++ f (get_or xs i d) ++ flat_map f (drop (i + 1) xs) ≡ flat_map f xs
flat-split f xs i d l =
    append_assoc (flat_map f (take i xs)) (f (get_or xs i d)) (flat_map f (drop (i + 1) xs))
    ∙ (sym (flat_map-append f (take i xs) (get_or xs i d ∷ drop (i + 1) xs))
    ∙ ap (flat_map f) (ap (λ ys. take i xs ++ ys) (sym (drop_more xs i d l)) ∙ take-append-drop i xs))

-- the same, where the element was read
pub part-more : {A : Type 0} (f : A → List ℕ) (xs : List A) (i : ℕ) (x d : A) → i < length xs → x ≡ get_or xs i d → flat_map f (take i xs) ++ f x ≡ flat_map f (take (i + 1) xs)
part-more f xs i x d l e = ap (λ y. flat_map f (take i xs) ++ f y) e ∙ flat-more f xs i d l

pub part-split : {A : Type 0} (f : A → List ℕ) (xs : List A) (i : ℕ) (x d : A) → i < length xs → x ≡ get_or xs i d → flat_map f (take i xs) ++ f x ++ flat_map f (drop (i + 1) xs) ≡ flat_map f xs
part-split f xs i x d l e = ap (λ y. flat_map f (take i xs) ++ f y ++ flat_map f (drop (i + 1) xs)) e ∙ flat-split f xs i d l

-- the numbers from a on, so many and then so many more
range-append : (f : ℕ → List ℕ) (a m n b k : ℕ) → a + m ≡ b → m + n ≡ k → flat_map f (range_with_len a k) ≡ flat_map f (range_with_len a m) ++ flat_map f (range_with_len b n)
range-append f a zero n b k e h =
    let p : a ≡ b = omega (arith, e) in
    let q : k ≡ n = omega (arith, h) in
    λ i. flat_map f (range_with_len (p i) (q i))
range-append f a (suc m) n b k e h =
    let q : k ≡ suc (m + n) = omega (arith, h) in
    ap (λ (l : ℕ). flat_map f (range_with_len a l)) q
    ∙ (ap (λ (ys : List ℕ). f a ++ ys) (range-append f (a + 1) m n b (m + n) (omega (arith, e)) refl)
    ∙ sym (append_assoc (f a) (flat_map f (range_with_len (a + 1) m)) (flat_map f (range_with_len b n))))

pub range-more : (f : ℕ → List ℕ) (i : ℕ) → flat_map f (range_with_len 0 i) ++ f i ≡ flat_map f (range_with_len 0 (i + 1))
range-more f i = ap (λ (ys : List ℕ). flat_map f (range_with_len 0 i) ++ ys) (sym (append-nil (f i))) ∙ sym (range-append f 0 i 1 i (i + 1) (omega arith) refl)

-- the numbers after one of the first n
abbrev pub after : ℕ → ℕ → List ℕ
after i n = range_with_len (i + 1) (n - (i + 1))

pub range-split : (f : ℕ → List ℕ) (i n : ℕ) → i < n → flat_map f (range_with_len 0 i) ++ f i ++ flat_map f (after i n) ≡ flat_map f (range_with_len 0 n)
range-split f i n l =
    ap (λ (ys : List ℕ). ys ++ flat_map f (after i n)) (range-more f i)
    ∙ sym (range-append f 0 (i + 1) (n - (i + 1)) (i + 1) n (omega arith) (omega arith))

-- texts with a byte between them
pub joined : (c : ℕ) (w : List ℕ) (ws : List (List ℕ)) → w ++ flat_map (λ v. c ∷ v) ws ≡ join_with_byte c (w ∷ ws)
joined c w [] = append-nil w
joined c w (v ∷ ws) = ap (λ (ys : List ℕ). w ++ (c ∷ ys)) (joined c v ws)
