-- One line for each of a list: what was read stands before what is left to read.
use Rattle.std.proofs.Common.{◌≡◌, ◌<◌, ◌+◌, ◌-◌, ◌++◌, ◌∷◌, [], ℕ, suc, List, map, sym, ◌∙◌, ap, arith, Ok, Err}
use Rattle.std.specs.List.{flat_map, range_with_len}
use Rattle.std.proofs.lemmas.List.{append-nil}
use Rattle.cert_lines.specs.declared.fault.CertFault.{CertFault}
use Rattle.cert_lines.specs.Readers.{Left, Answer, and_then, each}
use Rattle.cert_text.specs.Taking.{onto}
use Rattle.cert_text.proofs.Equivalents.{same_Ok}
use Rattle.cert_text.proofs.Loops.{onto-cons, onto-over}

abbrev later : {A B : Type 0} → (B → Left → Answer A) → List B → A × Left → Answer (List A)
later read ps a = and_then (each read ps a.1) (λ b. Ok (a.0 ∷ b.0, b.1))

each-more : {A B : Type 0} (read : B → Left → Answer A) (xs : List A) (p : B) (ps : List B) (l m : Left) (x : A) → read p l ≡ Ok (x, m) → onto xs (each read (p ∷ ps) l) ≡ onto (xs ++ x ∷ []) (each read ps m)
each-more read xs p ps l m x e = ap (λ r. onto xs (and_then r (later read ps))) e ∙ onto-cons xs x (each read ps m)

each-broken : {A B : Type 0} (read : B → Left → Answer A) (xs : List A) (p : B) (ps : List B) (l : Left) (f : CertFault) → read p l ≡ Err f → onto xs (each read (p ∷ ps) l) ≡ Err f
each-broken read xs p ps l f e = ap (λ r. onto xs (and_then r (later read ps))) e

pub each-after : {A B : Type 0} (read : B → Left → Answer A) (ps qs : List B) (xs : List A) (l m : Left) (ys : List A) → onto xs (each read ps l) ≡ Ok (ys, m) → onto xs (each read (ps ++ qs) l) ≡ onto ys (each read qs m)
each-after {A} read [] qs xs l m ys h =
    let pair : (xs, l) ≡ (ys, m) = (λ i. (sym (append-nil xs) i, l)) ∙ same_Ok (xs ++ [], l) (ys, m) h in
    ap (λ (q : List A × Left). onto q.0 (each read qs q.1)) pair
each-after {A} read (p ∷ ps) qs xs l m ys h = at (λ zs k. each-after read ps qs zs k m ys) (read p l) h
  where
    at : ((zs : List A) (k : Left) → onto zs (each read ps k) ≡ Ok (ys, m) → onto zs (each read (ps ++ qs) k) ≡ onto ys (each read qs m)) → (r : Answer A)
        → onto xs (and_then r (later read ps)) ≡ Ok (ys, m) → onto xs (and_then r (later read (ps ++ qs))) ≡ onto ys (each read qs m)
    at again (Err f) h = cc
    at again (Ok a) h = onto-cons xs a.0 (each read (ps ++ qs) a.1) ∙ again (xs ++ a.0 ∷ []) a.1 (sym (onto-cons xs a.0 (each read ps a.1)) ∙ h)

pub each-stops : {A B : Type 0} (read : B → Left → Answer A) (ps qs : List B) (xs : List A) (l : Left) (f : CertFault) → onto xs (each read ps l) ≡ Err f → onto xs (each read (ps ++ qs) l) ≡ Err f
each-stops read [] qs xs l f h = cc
each-stops {A} read (p ∷ ps) qs xs l f h = at (λ zs k. each-stops read ps qs zs k f) (read p l) h
  where
    at : ((zs : List A) (k : Left) → onto zs (each read ps k) ≡ Err f → onto zs (each read (ps ++ qs) k) ≡ Err f) → (r : Answer A)
        → onto xs (and_then r (later read ps)) ≡ Err f → onto xs (and_then r (later read (ps ++ qs))) ≡ Err f
    at again (Err g) h = h
    at again (Ok a) h = onto-cons xs a.0 (each read (ps ++ qs) a.1) ∙ again (xs ++ a.0 ∷ []) a.1 (sym (onto-cons xs a.0 (each read ps a.1)) ∙ h)

-- ---- the numbers from 1 on

numbers-left : (done count : ℕ) → done < count → range_with_len (done + 1) (count - done) ≡ (done + 1) ∷ range_with_len (done + 1 + 1) (count - (done + 1))
numbers-left done count l = ap (range_with_len (done + 1)) (let e : count - done ≡ suc (count - (done + 1)) = omega (arith, l) in e)

none-left : (done count : ℕ) → count - done ≡ 0 → range_with_len (done + 1) (count - done) ≡ []
none-left done count e = ap (range_with_len (done + 1)) e

-- ---- one place after another

pub place-more : {A B : Type 0} (read : B → Left → Answer A) (place : ℕ → B) (xs : List A) (done count : ℕ) (l m : Left) (x : A) → done < count → read (place (done + 1)) l ≡ Ok (x, m)
    → onto xs (each read (map place (range_with_len (done + 1) (count - done))) l) ≡ onto (xs ++ x ∷ []) (each read (map place (range_with_len (done + 1 + 1) (count - (done + 1)))) m)
place-more read place xs done count l m x h e =
    ap (λ (ns : List ℕ). onto xs (each read (map place ns) l)) (numbers-left done count h)
    ∙ each-more read xs (place (done + 1)) (map place (range_with_len (done + 1 + 1) (count - (done + 1)))) l m x e

pub place-broken : {A B : Type 0} (read : B → Left → Answer A) (place : ℕ → B) (xs : List A) (done count : ℕ) (l : Left) (f : CertFault) → done < count → read (place (done + 1)) l ≡ Err f
    → onto xs (each read (map place (range_with_len (done + 1) (count - done))) l) ≡ Err f
place-broken read place xs done count l f h e =
    ap (λ (ns : List ℕ). onto xs (each read (map place ns) l)) (numbers-left done count h)
    ∙ each-broken read xs (place (done + 1)) (map place (range_with_len (done + 1 + 1) (count - (done + 1)))) l f e

pub place-over : {A B : Type 0} (read : B → Left → Answer A) (place : ℕ → B) (xs : List A) (done count : ℕ) (l : Left) → count - done ≡ 0 → onto xs (each read (map place (range_with_len (done + 1) (count - done))) l) ≡ Ok (xs, l)
place-over read place xs done count l e = ap (λ (ns : List ℕ). onto xs (each read (map place ns) l)) (none-left done count e) ∙ onto-over xs l

-- ---- the places of one number after those of another

pub row-more : {A B : Type 0} (read : B → Left → Answer A) (row : ℕ → List B) (xs ys : List A) (done count : ℕ) (l m : Left) → done < count → onto xs (each read (row (done + 1)) l) ≡ Ok (ys, m)
    → onto xs (each read (flat_map row (range_with_len (done + 1) (count - done))) l) ≡ onto ys (each read (flat_map row (range_with_len (done + 1 + 1) (count - (done + 1)))) m)
row-more read row xs ys done count l m h e =
    ap (λ (ns : List ℕ). onto xs (each read (flat_map row ns) l)) (numbers-left done count h)
    ∙ each-after read (row (done + 1)) (flat_map row (range_with_len (done + 1 + 1) (count - (done + 1)))) xs l m ys e

pub row-broken : {A B : Type 0} (read : B → Left → Answer A) (row : ℕ → List B) (xs : List A) (done count : ℕ) (l : Left) (f : CertFault) → done < count → onto xs (each read (row (done + 1)) l) ≡ Err f
    → onto xs (each read (flat_map row (range_with_len (done + 1) (count - done))) l) ≡ Err f
row-broken read row xs done count l f h e =
    ap (λ (ns : List ℕ). onto xs (each read (flat_map row ns) l)) (numbers-left done count h)
    ∙ each-stops read (row (done + 1)) (flat_map row (range_with_len (done + 1 + 1) (count - (done + 1)))) xs l f e

pub row-over : {A B : Type 0} (read : B → Left → Answer A) (row : ℕ → List B) (xs : List A) (done count : ℕ) (l : Left) → count - done ≡ 0 → onto xs (each read (flat_map row (range_with_len (done + 1) (count - done))) l) ≡ Ok (xs, l)
row-over read row xs done count l e = ap (λ (ns : List ℕ). onto xs (each read (flat_map row ns) l)) (none-left done count e) ∙ onto-over xs l
