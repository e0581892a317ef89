-- Lists that are made by loops over numbers, one inside another.
use Rattle.std.proofs.Common.{◌≡◌, ℕ, zero, suc, ◌+◌, ◌*◌, ◌<◌, ◌≤◌, List, [], ◌∷◌, ◌++◌, Bool, true, false, cond, map, filter, refl, ap, sym, ◌∙◌, arith}
use Rattle.std.specs.List.{range_with_len, flat_map, list_all}
use Rattle.std.proofs.lemmas.List.{append-nil}
use Rattle.std.proofs.lemmas.List.Concat.{flat_map-append}
use Rattle.std.proofs.lemmas.List.Folds.{flat_map-map}
use Rattle.number_lists.proofs.CallerLemmas.{and-left, and-right, flat_map_agree, flat_map-flat_map}
use Rattle.std.proofs.lemmas.Bool.{and_from}
use Rattle.tuple_spaces.specs.Tuples.{boxed}

pub none_of : {A B : Type 0} (f : A → List B) (xs : List A) → ((x : A) → f x ≡ []) → flat_map f xs ≡ []
none_of f [] h = refl
none_of f (x ∷ xs) h = ap (λ ys. ys ++ flat_map f xs) (h x) ∙ none_of f xs h

-- ---- loops over ranges

pub same_loop : {A : Type 0} (f g : ℕ → List A) (a n : ℕ) → ((x : ℕ) → a ≤ x → x < a + n → f x ≡ g x) → flat_map f (range_with_len a n) ≡ flat_map g (range_with_len a n)
same_loop f g a zero h = refl
same_loop f g a (suc n) h =
    ap (λ ys. ys ++ flat_map f (range_with_len (a + 1) n)) (h a (omega arith) (omega arith))
    ∙ ap (λ ys. g a ++ ys) (same_loop f g (a + 1) n (λ x l m. h x (omega (arith, l)) (omega (arith, m))))

pub none_loop : {A : Type 0} (f : ℕ → List A) (a n : ℕ) → ((x : ℕ) → a ≤ x → x < a + n → f x ≡ []) → flat_map f (range_with_len a n) ≡ []
none_loop f a n h = same_loop f (λ x. []) a n h ∙ none_of (λ x. []) (range_with_len a n) (λ x. refl)

range-split : (s a b : ℕ) → range_with_len s (a + b) ≡ range_with_len s a ++ range_with_len (s + a) b
range-split s zero b =
    let e : zero + b ≡ b = omega arith in
    let f : s ≡ s + zero = omega arith in
    ap (range_with_len s) e ∙ ap (λ (t : ℕ). range_with_len t b) f
range-split s (suc a) b =
    let e : suc a + b ≡ suc (a + b) = omega arith in
    let f : (s + 1) + a ≡ s + suc a = omega arith in
    ap (range_with_len s) e ∙ ap (λ xs. s ∷ xs) (range-split (s + 1) a b ∙ ap (λ (t : ℕ). range_with_len (s + 1) a ++ range_with_len t b) f)

pub loop-last : {A : Type 0} (g : ℕ → List A) (n m : ℕ) → m ≡ n + 1 → flat_map g (range_with_len 0 m) ≡ flat_map g (range_with_len 0 n) ++ g n
loop-last g n m e =
    let z : 0 + n ≡ n = omega arith in
    ap (λ (k : ℕ). flat_map g (range_with_len 0 k)) e
    ∙ (ap (flat_map g) (range-split 0 n 1)
    ∙ (flat_map-append g (range_with_len 0 n) ((0 + n) ∷ [])
    ∙ ap (λ ys. flat_map g (range_with_len 0 n) ++ ys) (append-nil (g (0 + n)) ∙ ap g z)))

pub loop-drop : {A : Type 0} (g : ℕ → List A) (n m : ℕ) → m ≡ n + 1 → g n ≡ [] → flat_map g (range_with_len 0 m) ≡ flat_map g (range_with_len 0 n)
loop-drop g n m e h = loop-last g n m e ∙ (ap (λ ys. flat_map g (range_with_len 0 n) ++ ys) h ∙ append-nil (flat_map g (range_with_len 0 n)))

-- numbers from s on, in blocks
blocks : {A : Type 0} (f : ℕ → List A) (s a b : ℕ) → flat_map f (range_with_len s (a * b)) ≡ flat_map (λ x. flat_map f (range_with_len (s + x * b) b)) (range_with_len 0 a)
blocks f s zero b = let e : zero * b ≡ zero = omega arith in ap (λ (n : ℕ). flat_map f (range_with_len s n)) e
blocks f s (suc a) b =
    let e : suc a * b ≡ a * b + b = omega arith in
    let row : ℕ → List _ = λ x. flat_map f (range_with_len (s + x * b) b) in
    ap (λ (n : ℕ). flat_map f (range_with_len s n)) e
    ∙ (ap (flat_map f) (range-split s (a * b) b)
    ∙ (flat_map-append f (range_with_len s (a * b)) (range_with_len (s + a * b) b)
    ∙ (ap (λ ys. ys ++ row a) (blocks f s a b)
    ∙ sym (loop-last row a (suc a) (omega arith)))))

shift_from : {A : Type 0} (f : ℕ → List A) (s t n : ℕ) → flat_map f (range_with_len (s + t) n) ≡ flat_map (λ z. f (s + z)) (range_with_len t n)
shift_from f s t zero = refl
shift_from f s t (suc n) =
    let e : (s + t) + 1 ≡ s + (t + 1) = omega arith in
    ap (λ ys. f (s + t) ++ ys) (ap (λ (k : ℕ). flat_map f (range_with_len k n)) e ∙ shift_from f s (t + 1) n)

shift : {A : Type 0} (f : ℕ → List A) (s n : ℕ) → flat_map f (range_with_len s n) ≡ flat_map (λ z. f (s + z)) (range_with_len 0 n)
shift f s n = let e : s ≡ s + 0 = omega arith in ap (λ (k : ℕ). flat_map f (range_with_len k n)) e ∙ shift_from f s 0 n

-- three loops, one inside another
abbrev pub three : {A : Type 0} → (ℕ → ℕ → ℕ → List A) → (a b c : ℕ) → List A
three F a b c = flat_map (λ x. flat_map (λ y. flat_map (F x y) (range_with_len 0 c)) (range_with_len 0 b)) (range_with_len 0 a)

pub as_three : {A : Type 0} (f : ℕ → List A) (a b c : ℕ) → flat_map f (range_with_len 1 (a * (b * c))) ≡ three (λ x y z. f (1 + x * (b * c) + y * c + z)) a b c
as_three f a b c =
    blocks f 1 a (b * c)
    ∙ flat_map_agree (λ x. flat_map f (range_with_len (1 + x * (b * c)) (b * c))) (λ x. flat_map (λ y. flat_map (λ z. f (1 + x * (b * c) + y * c + z)) (range_with_len 0 c)) (range_with_len 0 b)) (range_with_len 0 a)
    (λ x.
    blocks f (1 + x * (b * c)) b c
    ∙ flat_map_agree (λ y. flat_map f (range_with_len (1 + x * (b * c) + y * c) c)) (λ y. flat_map (λ z. f (1 + x * (b * c) + y * c + z)) (range_with_len 0 c)) (range_with_len 0 b)
    (λ y. shift f (1 + x * (b * c) + y * c) c))

pub same_three : {A : Type 0} (F G : ℕ → ℕ → ℕ → List A) (a b c : ℕ) → ((x y z : ℕ) → x < a → y < b → z < c → F x y z ≡ G x y z) → three F a b c ≡ three G a b c
same_three F G a b c h =
    same_loop (λ x. flat_map (λ y. flat_map (F x y) (range_with_len 0 c)) (range_with_len 0 b)) (λ x. flat_map (λ y. flat_map (G x y) (range_with_len 0 c)) (range_with_len 0 b)) 0 a
    (λ x _ l.
    same_loop (λ y. flat_map (F x y) (range_with_len 0 c)) (λ y. flat_map (G x y) (range_with_len 0 c)) 0 b (λ y _ m. same_loop (F x y) (G x y) 0 c (λ z _ n. h x y z (omega (arith, l)) (omega (arith, m)) (omega (arith, n)))))

-- the last of two inner loops gives nothing
pub less_rows : {A : Type 0} (F : ℕ → ℕ → List A) (b c d e : ℕ) → d ≡ b + 1 → e ≡ c + 1 → ((y : ℕ) → y < d → F y c ≡ []) → ((z : ℕ) → z < c → F b z ≡ [])
    → flat_map (λ y. flat_map (F y) (range_with_len 0 e)) (range_with_len 0 d) ≡ flat_map (λ y. flat_map (F y) (range_with_len 0 c)) (range_with_len 0 b)
less_rows F b c d e p q h k =
    same_loop (λ y. flat_map (F y) (range_with_len 0 e)) (λ y. flat_map (F y) (range_with_len 0 c)) 0 d (λ y _ l. loop-drop (F y) c e q (h y (omega (arith, l))))
    ∙ loop-drop (λ y. flat_map (F y) (range_with_len 0 c)) b d p (none_loop (F b) 0 c (λ z _ l. k z (omega (arith, l))))

-- the last of each of three loops gives nothing
pub less_three : {A : Type 0} (F : ℕ → ℕ → ℕ → List A) (a b c s d e : ℕ) → s ≡ a + 1 → d ≡ b + 1 → e ≡ c + 1
    → ((x y : ℕ) → y < d → F x y c ≡ []) → ((x z : ℕ) → z < c → F x b z ≡ []) → ((y z : ℕ) → y < b → z < c → F a y z ≡ []) → three F s d e ≡ three F a b c
less_three F a b c s d e o p q h k m =
    flat_map_agree (λ x. flat_map (λ y. flat_map (F x y) (range_with_len 0 e)) (range_with_len 0 d)) (λ x. flat_map (λ y. flat_map (F x y) (range_with_len 0 c)) (range_with_len 0 b)) (range_with_len 0 s)
    (λ x. less_rows (F x) b c d e p q (h x) (k x))
    ∙ loop-drop (λ x. flat_map (λ y. flat_map (F x y) (range_with_len 0 c)) (range_with_len 0 b)) a s o
    (none_loop (λ y. flat_map (F a y) (range_with_len 0 c)) 0 b (λ y _ l. none_loop (F a y) 0 c (λ z _ n. m y z (omega (arith, l)) (omega (arith, n)))))

-- ---- boxes

pub boxed-loop : {A : Type 0} (g : List ℕ → List A) (limit : ℕ) (limits : List ℕ) → flat_map g (boxed (limit ∷ limits)) ≡ flat_map (λ c. flat_map (λ t. g (c ∷ t)) (boxed limits)) (range_with_len 0 limit)
boxed-loop g limit limits =
    flat_map-flat_map g (λ c. map (λ t. c ∷ t) (boxed limits)) (range_with_len 0 limit)
    ∙ flat_map_agree (λ c. flat_map g (map (λ t. c ∷ t) (boxed limits))) (λ c. flat_map (λ t. g (c ∷ t)) (boxed limits)) (range_with_len 0 limit) (λ c. flat_map-map g (λ t. c ∷ t) (boxed limits))

boxed_one : {A : Type 0} (g : List ℕ → List A) (a : ℕ) → flat_map g (boxed (a ∷ [])) ≡ flat_map (λ x. g (x ∷ [])) (range_with_len 0 a)
boxed_one g a = boxed-loop g a [] ∙ flat_map_agree (λ c. flat_map (λ t. g (c ∷ t)) (boxed [])) (λ c. g (c ∷ [])) (range_with_len 0 a) (λ c. append-nil (g (c ∷ [])))

pub boxed_two : {A : Type 0} (g : List ℕ → List A) (a b : ℕ) → flat_map g (boxed (a ∷ b ∷ [])) ≡ flat_map (λ x. flat_map (λ y. g (x ∷ y ∷ [])) (range_with_len 0 b)) (range_with_len 0 a)
boxed_two g a b =
    boxed-loop g a (b ∷ [])
    ∙ flat_map_agree (λ x. flat_map (λ t. g (x ∷ t)) (boxed (b ∷ []))) (λ x. flat_map (λ y. g (x ∷ y ∷ [])) (range_with_len 0 b)) (range_with_len 0 a) (λ x. boxed_one (λ t. g (x ∷ t)) b)

pub boxed_three : {A : Type 0} (g : List ℕ → List A) (a b c : ℕ) → flat_map g (boxed (a ∷ b ∷ c ∷ [])) ≡ three (λ x y z. g (x ∷ y ∷ z ∷ [])) a b c
boxed_three g a b c =
    boxed-loop g a (b ∷ c ∷ [])
    ∙ flat_map_agree (λ x. flat_map (λ t. g (x ∷ t)) (boxed (b ∷ c ∷ []))) (λ x. flat_map (λ y. flat_map (λ z. g (x ∷ y ∷ z ∷ [])) (range_with_len 0 c)) (range_with_len 0 b)) (range_with_len 0 a)
    (λ x. boxed_two (λ t. g (x ∷ t)) b c)

-- ---- what is true of all

all-append : {A : Type 0} (p : A → Bool) (xs ys : List A) → list_all p xs ≡ true → list_all p ys ≡ true → list_all p (xs ++ ys) ≡ true
all-append p [] ys h k = k
all-append p (x ∷ xs) ys h k = and_from (p x) (list_all p (xs ++ ys)) (and-left (p x) (list_all p xs) h) (all-append p xs ys (and-right (p x) (list_all p xs) h) k)

pub all-loop : {A : Type 0} (p : A → Bool) (f : ℕ → List A) (a n : ℕ) → ((x : ℕ) → x < a + n → list_all p (f x) ≡ true) → list_all p (flat_map f (range_with_len a n)) ≡ true
all-loop p f a zero h = refl
all-loop p f a (suc n) h = all-append p (f a) (flat_map f (range_with_len (a + 1) n)) (h a (omega arith)) (all-loop p f (a + 1) n (λ x l. h x (omega (arith, l))))

pub all-filter : {A : Type 0} (p q : A → Bool) (xs : List A) → list_all p xs ≡ true → list_all p (filter q xs) ≡ true
all-filter p q [] h = refl
all-filter p q (x ∷ xs) h = by_test (q x) (and-left (p x) (list_all p xs) h) (all-filter p q xs (and-right (p x) (list_all p xs) h))
  where
    by_test : (b : Bool) → p x ≡ true → list_all p (filter q xs) ≡ true → list_all p (cond b (x ∷ filter q xs) (filter q xs)) ≡ true
    by_test true e f = and_from (p x) (list_all p (filter q xs)) e f
    by_test false e f = f
