-- The first element that fails a test.
use Rattle.std.proofs.Common.{◌≡◌, ℕ, zero, suc, ◌<◌, List, [], ◌∷◌, Bool, true, false, cond, not, length, get_or, take, Some, None, refl, ap, sym, ◌∙◌, subst, arith}
use Rattle.std.specs.List.{find, list_all}
use Rattle.std.proofs.lemmas.Bool.{and_parts, and_from}
use Rattle.std.proofs.lemmas.Option.{none-some, same_Some}
use Rattle.number_lists.specs.Members.{In, here, there}

module _ (p : ℕ → Bool) where
  -- where all pass, none fails
  pub none_fails : (xs : List ℕ) → list_all p xs ≡ true → find (λ x. not (p x)) xs ≡ None
  none_fails [] e = refl
  none_fails (x ∷ xs) e = let b = and_parts (p x) (list_all p xs) e in ap (λ (t : Bool). cond (not t) (Some x) (find (λ y. not (p y)) xs)) b.0 ∙ none_fails xs b.1

  -- where none fails, all pass
  pub all_pass : (xs : List ℕ) → find (λ x. not (p x)) xs ≡ None → list_all p xs ≡ true
  all_pass [] e = refl
  all_pass (x ∷ xs) e = by (λ h. all_pass xs h) (p x) refl
    where
      by : (find (λ y. not (p y)) xs ≡ None → list_all p xs ≡ true) → (b : Bool) → p x ≡ b → list_all p (x ∷ xs) ≡ true
      by k true f = and_from (p x) (list_all p xs) f (k (sym (ap (λ (t : Bool). cond (not t) (Some x) (find (λ y. not (p y)) xs)) f) ∙ e))
      by k false f = absurd (none-some x (sym (sym (ap (λ (t : Bool). cond (not t) (Some x) (find (λ y. not (p y)) xs)) f) ∙ e)))

  -- the first that fails, by its place
  pub first_fails : (xs : List ℕ) (i : ℕ) → i < length xs → list_all p (take i xs) ≡ true → p (get_or xs i 0) ≡ false → find (λ x. not (p x)) xs ≡ Some (get_or xs i 0)
  first_fails [] i l h e = absurd (omega (arith, l))
  first_fails (x ∷ xs) zero l h e = ap (λ (t : Bool). cond (not t) (Some x) (find (λ y. not (p y)) xs)) e
  first_fails (x ∷ xs) (suc i) l h e =
      let b = and_parts (p x) (list_all p (take i xs)) h in
      ap (λ (t : Bool). cond (not t) (Some x) (find (λ y. not (p y)) xs)) b.0 ∙ first_fails xs i (omega (arith, l)) b.1 e

  -- what is found is there, and fails
  pub failing : (xs : List ℕ) (x : ℕ) → find (λ y. not (p y)) xs ≡ Some x → (In x xs) × (p x ≡ false)
  failing [] x e = absurd (none-some x e)
  failing (y ∷ xs) x e = by (λ h. failing xs x h) (p y) refl
    where
      by : (find (λ z. not (p z)) xs ≡ Some x → (In x xs) × (p x ≡ false)) → (b : Bool) → p y ≡ b → (In x (y ∷ xs)) × (p x ≡ false)
      by k true f = let r = k (sym (ap (λ (t : Bool). cond (not t) (Some y) (find (λ z. not (p z)) xs)) f) ∙ e) in (there r.0, r.1)
      by k false f =
          let s : y ≡ x = same_Some y x (sym (ap (λ (t : Bool). cond (not t) (Some y) (find (λ z. not (p z)) xs)) f) ∙ e) in
          (subst (λ (z : ℕ). In z (y ∷ xs)) s here, subst (λ (z : ℕ). p z ≡ false) s f)
