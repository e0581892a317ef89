-- Lemmas on answers one after another.
use Rattle.std.proofs.Common.{◌≡◌, ◌<◌, ◌+◌, ◌++◌, ◌∷◌, [], ℕ, suc, List, length, take, drop, refl, sym, ◌∙◌, ap, arith, Result, Ok, Err, Some, slice_get, append_assoc, append-nil}
use Rattle.std.proofs.lemmas.List.{length-take-le}
use Rattle.number_lists.proofs.CallerLemmas.{take-slice_get, split-slice_get}
use Rattle.array_values.specs.declared.fault.ArrayFault.{ArrayFault}
use Rattle.array_values.specs.Answers.{and_then, gather_from}

-- an answer that came has both parts
pub both_ok : {A B : Type 0} (r : Result A ArrayFault) (go : A → Result B ArrayFault) (b : B) → and_then r go ≡ Ok b → (a : A) × (r ≡ Ok a) × (go a ≡ Ok b)
both_ok (Ok a) go b h = (a, refl, h)
both_ok (Err f) go b h = cc

pub gather-push : {A B : Type 0} (n : ℕ) (f : ℕ → A → Result (List B) ArrayFault) (xs : List A) (x : A) (ys zs : List B) → gather_from n f xs ≡ Ok ys → f (n + length xs) x ≡ Ok zs → gather_from n f (xs ++ x ∷ []) ≡ Ok (ys ++ zs)
gather-push n f [] x ys zs h k =
    let e : ys ≡ [] = cc in
    let at : f n x ≡ Ok zs = ap (λ (m : ℕ). f m x) (let q : n ≡ n + 0 = omega arith in q) ∙ k in
    ap (λ (r : Result _ ArrayFault). and_then r (λ ws. and_then (Ok []) (λ us. Ok (ws ++ us)))) at
    ∙ (ap (λ (ws : List _). Ok ws) (append-nil zs) ∙ ap (λ (ws : List _). Ok (ws ++ zs)) (sym e))
gather-push n f (z ∷ xs) x ys zs h k =
    let (w, a, rest) = both_ok (f n z) (λ us. and_then (gather_from (suc n) f xs) (λ ws. Ok (us ++ ws))) ys h in
    let (ws, b, e) = both_ok (gather_from (suc n) f xs) (λ us. Ok (w ++ us)) ys rest in
    let is : w ++ ws ≡ ys = cc in
    let at : f (suc n + length xs) x ≡ Ok zs = ap (λ (m : ℕ). f m x) (let q : suc n + length xs ≡ n + suc (length xs) = omega arith in q) ∙ k in
    ap (λ (r : Result _ ArrayFault). and_then r (λ us. and_then (gather_from (suc n) f (xs ++ x ∷ [])) (λ vs. Ok (us ++ vs)))) a
    ∙ (ap (λ (r : Result _ ArrayFault). and_then r (λ us. Ok (w ++ us))) (gather-push (suc n) f xs x ws zs b at)
    ∙ (ap (λ (us : List _). Ok us) (sym (append_assoc w ws zs)) ∙ ap (λ (us : List _). Ok (us ++ zs)) is))

pub gather-stop : {A B : Type 0} (n : ℕ) (f : ℕ → A → Result (List B) ArrayFault) (xs : List A) (x : A) (more : List A) (ys : List B) (e : ArrayFault) → gather_from n f xs ≡ Ok ys → f (n + length xs) x ≡ Err e → gather_from n f (xs ++ x ∷ more) ≡ Err e
gather-stop n f [] x more ys e h k =
    let at : f n x ≡ Err e = ap (λ (m : ℕ). f m x) (let q : n ≡ n + 0 = omega arith in q) ∙ k in
    ap (λ (r : Result _ ArrayFault). and_then r (λ ws. and_then (gather_from (suc n) f more) (λ us. Ok (ws ++ us)))) at
gather-stop n f (z ∷ xs) x more ys e h k =
    let (w, a, rest) = both_ok (f n z) (λ us. and_then (gather_from (suc n) f xs) (λ ws. Ok (us ++ ws))) ys h in
    let (ws, b, _) = both_ok (gather_from (suc n) f xs) (λ us. Ok (w ++ us)) ys rest in
    let at : f (suc n + length xs) x ≡ Err e = ap (λ (m : ℕ). f m x) (let q : suc n + length xs ≡ n + suc (length xs) = omega arith in q) ∙ k in
    ap (λ (r : Result _ ArrayFault). and_then r (λ us. and_then (gather_from (suc n) f (xs ++ x ∷ more)) (λ vs. Ok (us ++ vs)))) a
    ∙ ap (λ (r : Result _ ArrayFault). and_then r (λ us. Ok (w ++ us))) (gather-stop (suc n) f xs x more ws e b at)

-- one step of a loop over a list
pub gather-more : {A B : Type 0} (n : ℕ) (f : ℕ → A → Result (List B) ArrayFault) (xs : List A) (i : ℕ) (x : A) (ys zs : List B) → i < length xs → slice_get xs i ≡ Some x
    → gather_from n f (take i xs) ≡ Ok ys → f (n + i) x ≡ Ok zs → gather_from n f (take (i + 1) xs) ≡ Ok (ys ++ zs)
gather-more n f xs i x ys zs l e h k =
    let short : length (take i xs) ≡ i = length-take-le i xs (omega arith) in
    let at : f (n + length (take i xs)) x ≡ Ok zs = ap (λ (m : ℕ). f (n + m) x) short ∙ k in
    ap (gather_from n f) (take-slice_get xs i x l e) ∙ gather-push n f (take i xs) x ys zs h at

-- the first fault
pub gather-fault : {A B : Type 0} (n : ℕ) (f : ℕ → A → Result (List B) ArrayFault) (xs : List A) (i : ℕ) (x : A) (ys : List B) (d : ArrayFault) → i < length xs → slice_get xs i ≡ Some x
    → gather_from n f (take i xs) ≡ Ok ys → f (n + i) x ≡ Err d → gather_from n f xs ≡ Err d
gather-fault n f xs i x ys d l e h k =
    let short : length (take i xs) ≡ i = length-take-le i xs (omega arith) in
    let at : f (n + length (take i xs)) x ≡ Err d = ap (λ (m : ℕ). f (n + m) x) short ∙ k in
    ap (gather_from n f) (sym (split-slice_get xs i x l e)) ∙ gather-stop n f (take i xs) x (drop (i + 1) xs) ys d h at
