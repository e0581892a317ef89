use Rattle.std.proofs.Common.{ℕ, zero, suc, ◌<◌, List, [], ◌∷◌, ◌++◌, length, take, drop, get_or, set}
use Rattle.std.specs.List.{AllByRecursion}
use Rattle.std.proofs.lemmas.List.Elements.{All-from_recursion}

-- what holds of each element of two lists, of a list with one element more in the middle, and of fewer elements
pub all_append : {A : Type 0} (P : A → Type 0) (xs ys : List A) → AllByRecursion P xs → AllByRecursion P ys → AllByRecursion P (xs ++ ys)
all_append P [] ys h i = i
all_append P (x ∷ xs) ys h i = (h.0, all_append P xs ys h.1 i)

pub all_weaker : {A : Type 0} (P Q : A → Type 0) → ((x : A) → P x → Q x) → (xs : List A) → AllByRecursion P xs → AllByRecursion Q xs
all_weaker P Q w [] h = tt
all_weaker P Q w (x ∷ xs) h = (w x h.0, all_weaker P Q w xs h.1)

pub all_take : {A : Type 0} (P : A → Type 0) (n : ℕ) (xs : List A) → AllByRecursion P xs → AllByRecursion P (take n xs)
all_take P zero xs h = tt
all_take P (suc n) [] h = tt
all_take P (suc n) (x ∷ xs) h = (h.0, all_take P n xs h.1)

pub all_drop : {A : Type 0} (P : A → Type 0) (n : ℕ) (xs : List A) → AllByRecursion P xs → AllByRecursion P (drop n xs)
all_drop P zero xs h = h
all_drop P (suc n) [] h = tt
all_drop P (suc n) (x ∷ xs) h = all_drop P n xs h.1

pub all_both : {A : Type 0} (P Q : A → Type 0) (xs : List A) → AllByRecursion P xs → AllByRecursion Q xs → AllByRecursion (λ x. P x × Q x) xs
all_both P Q [] h i = tt
all_both P Q (x ∷ xs) h i = ((h.0, i.0), all_both P Q xs h.1 i.1)

pub insert_all : {A : Type 0} (P : A → Type 0) (before after : List A) (x : A) → P x → AllByRecursion P (before ++ after) → AllByRecursion P (before ++ x ∷ after)
insert_all P [] after x p h = (p, h)
insert_all P (y ∷ before) after x p h = (h.0, insert_all P before after x p h.1)

pub remove_all : {A : Type 0} (P : A → Type 0) (before after : List A) (x : A) → AllByRecursion P (before ++ x ∷ after) → P x × AllByRecursion P (before ++ after)
remove_all P [] after x h = h
remove_all P (y ∷ before) after x h = let t = remove_all P before after x h.1 in (t.0, (h.0, t.1))

-- at a place, and with another element at a place
pub all_set : {A : Type 0} (P : A → Type 0) (xs : List A) (i : ℕ) (x : A) → P x → AllByRecursion P xs → AllByRecursion P (set xs i x)
all_set P [] i x p h = h
all_set P (y ∷ ys) zero x p h = (p, h.1)
all_set P (y ∷ ys) (suc i) x p h = (h.0, all_set P ys i x p h.1)

pub all_at : {A : Type 0} (P : A → Type 0) (xs : List A) (i : ℕ) (d : A) → i < length xs → AllByRecursion P xs → P (get_or xs i d)
all_at P xs i d lt h = All-from_recursion P xs h i d lt
