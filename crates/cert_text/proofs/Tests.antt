-- Tests that hold, taken apart.
use Rattle.std.proofs.Common.{◌≡◌, ◌∷◌, [], ℕ, Bool, true, ◌&&◌, eqb, List, refl}
use Rattle.std.specs.List.{AllByRecursion, list_all}
use Rattle.std.proofs.lemmas.Bool.{eq-eqb, eqb-true}
use Rattle.cert_text.proofs.Passing.{and-parts, and-both}

pub all-test : {A : Type 0} (p : A → Bool) (xs : List A) → AllByRecursion (λ x. p x ≡ true) xs → list_all p xs ≡ true
all-test p [] h = refl
all-test p (x ∷ xs) h = and-both (p x) (list_all p xs) h.0 (all-test p xs h.1)

pub test-all : {A : Type 0} (p : A → Bool) (xs : List A) → list_all p xs ≡ true → AllByRecursion (λ x. p x ≡ true) xs
test-all p [] h = tt
test-all p (x ∷ xs) h = let q = and-parts (p x) (list_all p xs) h in (q.0, test-all p xs q.1)

pub all-weaker : {A : Type 0} (P Q : A → Type 0) (xs : List A) → ((x : A) → P x → Q x) → AllByRecursion P xs → AllByRecursion Q xs
all-weaker P Q [] f h = tt
all-weaker P Q (x ∷ xs) f h = (f x h.0, all-weaker P Q xs f h.1)

-- the number of a line
pub own-number : (n : ℕ) → (eqb n n && true) ≡ true
own-number n = and-both (eqb n n) true (eq-eqb n n refl) refl

pub same-number : (m n : ℕ) → (eqb m n && true) ≡ true → m ≡ n
same-number m n h = eqb-true m n (and-parts (eqb m n) true h).0
