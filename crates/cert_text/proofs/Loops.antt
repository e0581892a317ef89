-- Loops over lines: what was read stands before what is left to read.
use Rattle.std.proofs.Common.{◌≡◌, ◌≤◌, ◌+◌, ◌-◌, ◌++◌, ◌∷◌, [], ℕ, zero, suc, List, length, refl, sym, ◌∙◌, ap, arith, Ok, Err}
use Rattle.std.proofs.lemmas.List.{append-nil, append_assoc}
use Rattle.cert_lines.specs.declared.fault.CertFault.{CertFault}
use Rattle.cert_lines.specs.Readers.{Left, Answer, and_then, many}
use Rattle.cert_text.specs.Taking.{onto}

pub onto-nil : {A : Type 0} (a : Answer (List A)) → a ≡ onto [] a
onto-nil (Ok b) = refl
onto-nil (Err f) = refl

pub onto-over : {A : Type 0} (xs : List A) (l : Left) → onto xs (Ok ([], l)) ≡ Ok (xs, l)
onto-over {A} xs l = ap (λ (ys : List A). Ok (ys, l)) (append-nil xs)

pub onto-cons : {A : Type 0} (xs : List A) (x : A) (a : Answer (List A)) → onto xs (and_then a (λ b. Ok (x ∷ b.0, b.1))) ≡ onto (xs ++ x ∷ []) a
onto-cons xs x (Err f) = refl
onto-cons {A} xs x (Ok b) = ap (λ (ys : List A). Ok (ys, b.1)) (sym (append_assoc xs (x ∷ []) b.0))

pub many-more : {A : Type 0} (read : Left → Answer A) (xs : List A) (n : ℕ) (l m : Left) (x : A) → 1 ≤ n → read l ≡ Ok (x, m) → onto xs (many n read l) ≡ onto (xs ++ x ∷ []) (many (n - 1) read m)
many-more read xs zero l m x h e = absurd (omega arith)
many-more read xs (suc n) l m x h e =
    ap (λ a. onto xs (and_then a (λ a. and_then (many n read a.1) (λ b. Ok (a.0 ∷ b.0, b.1))))) e
    ∙ (onto-cons xs x (many n read m) ∙ ap (λ (k : ℕ). onto (xs ++ x ∷ []) (many k read m)) (let s : n ≡ suc n - 1 = omega arith in s))

pub many-broken : {A : Type 0} (read : Left → Answer A) (xs : List A) (n : ℕ) (l : Left) (f : CertFault) → 1 ≤ n → read l ≡ Err f → onto xs (many n read l) ≡ Err f
many-broken read xs zero l f h e = absurd (omega arith)
many-broken read xs (suc n) l f h e = ap (λ a. onto xs (and_then a (λ a. and_then (many n read a.1) (λ b. Ok (a.0 ∷ b.0, b.1))))) e

pub many-over : {A : Type 0} (read : Left → Answer A) (xs : List A) (n : ℕ) (l : Left) → n ≡ 0 → onto xs (many n read l) ≡ Ok (xs, l)
many-over read xs zero l e = onto-over xs l
many-over read xs (suc n) l e = absurd (omega (arith, e))

pub length-more : {A : Type 0} (xs : List A) (x : A) → length (xs ++ x ∷ []) ≡ length xs + 1
length-more [] x = refl
length-more (y ∷ xs) x = let e = length-more xs x in omega (arith, e)
