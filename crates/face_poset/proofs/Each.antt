-- Lemmas on answers one after another.
use Rattle.std.proofs.Common.{◌≡◌, ◌<◌, ◌+◌, ◌++◌, ◌∷◌, [], ℕ, suc, List, length, take, drop, refl, sym, ◌∙◌, ap, arith, Result, Ok, Err, Some, slice_get}
use Rattle.std.proofs.lemmas.List.{length-take-le}
use Rattle.number_lists.proofs.CallerLemmas.{take-slice_get, split-slice_get}
use Rattle.face_poset.specs.declared.fault.SpaceFault.{SpaceFault}
use Rattle.face_poset.specs.Reader.{and_then, each_from}

-- an answer that came has both parts
pub both_ok : {A B : Type 0} (r : Result A SpaceFault) (go : A → Result B SpaceFault) (b : B) → and_then r go ≡ Ok b → (a : A) × (r ≡ Ok a) × (go a ≡ Ok b)
both_ok (Ok a) go b h = (a, refl, h)
both_ok (Err f) go b h = cc

pub each-push : {A B : Type 0} (n : ℕ) (f : ℕ → A → Result B SpaceFault) (xs : List A) (x : A) (ys : List B) (y : B) → each_from n f xs ≡ Ok ys → f (n + length xs) x ≡ Ok y → each_from n f (xs ++ x ∷ []) ≡ Ok (ys ++ y ∷ [])
each-push n f [] x ys y h k =
    let e : ys ≡ [] = cc in
    let at : f n x ≡ Ok y = ap (λ (m : ℕ). f m x) (let q : n ≡ n + 0 = omega arith in q) ∙ k in
    ap (λ (r : Result _ SpaceFault). and_then r (λ z. and_then (Ok []) (λ zs. Ok (z ∷ zs)))) at ∙ ap (λ (zs : List _). Ok (zs ++ y ∷ [])) (sym e)
each-push n f (z ∷ xs) x ys y h k =
    let (w, a, rest) = both_ok (f n z) (λ z. and_then (each_from (suc n) f xs) (λ zs. Ok (z ∷ zs))) ys h in
    let (ws, b, e) = both_ok (each_from (suc n) f xs) (λ zs. Ok (w ∷ zs)) ys rest in
    let is : w ∷ ws ≡ ys = cc in
    let at : f (suc n + length xs) x ≡ Ok y = ap (λ (m : ℕ). f m x) (let q : suc n + length xs ≡ n + suc (length xs) = omega arith in q) ∙ k in
    ap (λ (r : Result _ SpaceFault). and_then r (λ z. and_then (each_from (suc n) f (xs ++ x ∷ [])) (λ zs. Ok (z ∷ zs)))) a
    ∙ (ap (λ (r : Result _ SpaceFault). and_then r (λ zs. Ok (w ∷ zs))) (each-push (suc n) f xs x ws y b at) ∙ ap (λ (zs : List _). Ok (zs ++ y ∷ [])) is)

pub each-stop : {A B : Type 0} (n : ℕ) (f : ℕ → A → Result B SpaceFault) (xs : List A) (x : A) (more : List A) (ys : List B) (e : SpaceFault) → each_from n f xs ≡ Ok ys → f (n + length xs) x ≡ Err e → each_from n f (xs ++ x ∷ more) ≡ Err e
each-stop n f [] x more ys e h k =
    let at : f n x ≡ Err e = ap (λ (m : ℕ). f m x) (let q : n ≡ n + 0 = omega arith in q) ∙ k in
    ap (λ (r : Result _ SpaceFault). and_then r (λ z. and_then (each_from (suc n) f more) (λ zs. Ok (z ∷ zs)))) at
each-stop n f (z ∷ xs) x more ys e h k =
    let (w, a, rest) = both_ok (f n z) (λ z. and_then (each_from (suc n) f xs) (λ zs. Ok (z ∷ zs))) ys h in
    let (ws, b, _) = both_ok (each_from (suc n) f xs) (λ zs. Ok (w ∷ zs)) ys rest in
    let at : f (suc n + length xs) x ≡ Err e = ap (λ (m : ℕ). f m x) (let q : suc n + length xs ≡ n + suc (length xs) = omega arith in q) ∙ k in
    ap (λ (r : Result _ SpaceFault). and_then r (λ z. and_then (each_from (suc n) f (xs ++ x ∷ more)) (λ zs. Ok (z ∷ zs)))) a
    ∙ ap (λ (r : Result _ SpaceFault). and_then r (λ zs. Ok (w ∷ zs))) (each-stop (suc n) f xs x more ws e b at)

-- one step of a loop over a list
pub each-more : {A B : Type 0} (n : ℕ) (f : ℕ → A → Result B SpaceFault) (xs : List A) (i : ℕ) (x : A) (ys zs : List B) (y : B) → i < length xs → slice_get xs i ≡ Some x
    → each_from n f (take i xs) ≡ Ok ys → f (n + i) x ≡ Ok y → zs ≡ ys ++ y ∷ [] → each_from n f (take (i + 1) xs) ≡ Ok zs
each-more n f xs i x ys zs y l e h k push =
    let short : length (take i xs) ≡ i = length-take-le i xs (omega arith) in
    let at : f (n + length (take i xs)) x ≡ Ok y = ap (λ (m : ℕ). f (n + m) x) short ∙ k in
    ap (each_from n f) (take-slice_get xs i x l e) ∙ (each-push n f (take i xs) x ys y h at ∙ ap (λ (ws : List _). Ok ws) (sym push))

-- the first fault
pub each-fault : {A B : Type 0} (n : ℕ) (f : ℕ → A → Result B SpaceFault) (xs : List A) (i : ℕ) (x : A) (ys : List B) (d : SpaceFault) → i < length xs → slice_get xs i ≡ Some x
    → each_from n f (take i xs) ≡ Ok ys → f (n + i) x ≡ Err d → each_from n f xs ≡ Err d
each-fault n f xs i x ys d l e h k =
    let short : length (take i xs) ≡ i = length-take-le i xs (omega arith) in
    let at : f (n + length (take i xs)) x ≡ Err d = ap (λ (m : ℕ). f (n + m) x) short ∙ k in
    ap (each_from n f) (sym (split-slice_get xs i x l e)) ∙ each-stop n f (take i xs) x (drop (i + 1) xs) ys d h at
