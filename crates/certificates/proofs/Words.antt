-- Words cut from a line and joined again; a word is a token exactly where it is that token's text.
use Rattle.std.proofs.Common.{◌≡◌, ◌++◌, ◌∷◌, [], ℕ, Bool, true, false, eqb, Option, Some, None, List, map, refl, sym, ◌∙◌, ap, arith, subst, decimal, All, bytes_eq}
use Rattle.std.specs.Option.{option_and_then}
use Rattle.std.specs.List.{slice_split, join_with_byte}
use Rattle.std.proofs.lemmas.Bool.{eq-eqb}
use Rattle.std.proofs.lemmas.Option.{same_Some}
use Rattle.std.proofs.lemmas.List.Splits.{slice_split_none, slice_split_at, join_with_byte-slice_split}
use Rattle.std.proofs.lemmas.List.Elements.{All-nil, All-cons, All-head, All-tail, All-append}
use Rattle.std.proofs.lemmas.Slice.Eq.{bytes_eq-Decides}
use Rattle.certificates.specs.Numbers.{number_of, HasTenDigits}
use Rattle.certificates.specs.declared.token.Token.{Token}
use Rattle.certificates.specs.declared.token.Token.TheVariants.{Number, Entry, Dash, Bar}
use Rattle.certificates.specs.Tokens.{token_text, IsProper, sign_of, number_or_sign, token_from, token_of, tokens_of}
use Rattle.certificates.proofs.Somes.{both_some}
use Rattle.certificates.proofs.NumberLemmas.{number-is, number-back, decimal-without, decimal-without_colon}

-- no byte c among these
abbrev pub Without : ℕ → List ℕ → Type 0
Without c bs = All (λ b. eqb b c ≡ false) bs

pub split-joined : (c : ℕ) (w : List ℕ) (ws : List (List ℕ)) → All (Without c) (w ∷ ws) → slice_split (λ b. eqb b c) (join_with_byte c (w ∷ ws)) ≡ w ∷ ws
split-joined c w [] h = slice_split_none (λ b. eqb b c) w (All-head (Without c) w [] h)
split-joined c w (v ∷ ws) h =
    slice_split_at (λ b. eqb b c) w c (join_with_byte c (v ∷ ws)) (All-head (Without c) w (v ∷ ws) h) (eq-eqb c c refl)
    ∙ ap (λ (l : List (List ℕ)). w ∷ l) (split-joined c v ws (All-tail (Without c) w (v ∷ ws) h))

-- ---- one word

-- `bytes_eq` is true only of equal texts
pub bytes-same : (a b : List ℕ) → bytes_eq a b ≡ true → a ≡ b
bytes-same a b e = (bytes_eq-Decides a b).0 e

sign-is : (w : List ℕ) (t : Token) → sign_of w ≡ Some t → IsProper t × (w ≡ token_text t)
sign-is w t h = at w t h (bytes_eq w (45 ∷ [])) refl (bytes_eq w (124 ∷ [])) refl
  where
    at : (w : List ℕ) (t : Token) → sign_of w ≡ Some t → (a : Bool) → bytes_eq w (45 ∷ []) ≡ a → (b : Bool) → bytes_eq w (124 ∷ []) ≡ b → IsProper t × (w ≡ token_text t)
    at w t h true e b f =
        let k : Some Dash ≡ Some t = cc in
        subst (λ (s : Token). IsProper s × (w ≡ token_text s)) (same_Some Dash t k) (tt, bytes-same w (45 ∷ []) e)
    at w t h false e true f =
        let k : Some Bar ≡ Some t = cc in
        subst (λ (s : Token). IsProper s × (w ≡ token_text s)) (same_Some Bar t k) (tt, bytes-same w (124 ∷ []) f)
    at w t h false e false f = cc

word-is : (w : List ℕ) (o : Option ℕ) (t : Token) → number_of w ≡ o → number_or_sign w o ≡ Some t → IsProper t × (w ≡ token_text t)
word-is w (Some n) t e h = subst (λ (s : Token). IsProper s × (w ≡ token_text s)) (same_Some (Number n) t h) (number-is w n e)
word-is w None t e h = sign-is w t h

parts-are : (ws : List (List ℕ)) (t : Token) → token_from ws ≡ Some t → IsProper t × (join_with_byte 58 ws ≡ token_text t)
parts-are [] t h = cc
parts-are (w ∷ []) t h = word-is w (number_of w) t refl h
parts-are (a ∷ b ∷ []) t h =
    let p : (x : ℕ) × (number_of a ≡ Some x) × (option_and_then (λ v. Some (Entry x v)) (number_of b) ≡ Some t) = both_some (λ p. option_and_then (λ v. Some (Entry p v)) (number_of b)) (number_of a) t h in
    let q : (y : ℕ) × (number_of b ≡ Some y) × (Some (Entry p.0 y) ≡ Some t) = both_some (λ v. Some (Entry p.0 v)) (number_of b) t p.2 in
    let left : HasTenDigits p.0 × (a ≡ decimal p.0) = number-is a p.0 p.1 in
    let right : HasTenDigits q.0 × (b ≡ decimal q.0) = number-is b q.0 q.1 in
    subst (λ (s : Token). IsProper s × (a ++ 58 ∷ b ≡ token_text s)) (same_Some (Entry p.0 q.0) t q.2)
    ((left.0, right.0), λ i. left.1 i ++ 58 ∷ right.1 i)
parts-are (a ∷ b ∷ c ∷ ws) t h = cc

pub token-is : (w : List ℕ) (t : Token) → token_of w ≡ Some t → IsProper t × (w ≡ token_text t)
token-is w t h =
    let p : IsProper t × (join_with_byte 58 (slice_split (λ b. eqb b 58) w) ≡ token_text t) = parts-are (slice_split (λ b. eqb b 58) w) t h in
    (p.0, sym (join_with_byte-slice_split 58 w) ∙ p.1)

two : (c : ℕ) (a b : List ℕ) → Without c a → Without c b → All (Without c) (a ∷ b ∷ [])
two c a b p q = All-cons (Without c) a (b ∷ []) p (All-cons (Without c) b [] q (All-nil (Without c)))

pub token-back : (t : Token) → IsProper t → token_of (token_text t) ≡ Some t
token-back (Number n) p =
    ap token_from (slice_split_none (λ b. eqb b 58) (decimal n) (decimal-without_colon n p))
    ∙ ap (number_or_sign (decimal n)) (number-back n p)
token-back (Entry x y) p =
    ap token_from (split-joined 58 (decimal x) (decimal y ∷ []) (two 58 (decimal x) (decimal y) (decimal-without_colon x p.0) (decimal-without_colon y p.1)))
    ∙ (ap (option_and_then (λ n. option_and_then (λ v. Some (Entry n v)) (number_of (decimal y)))) (number-back x p.0)
    ∙ ap (option_and_then (λ v. Some (Entry x v))) (number-back y p.1))
token-back Dash p = refl
token-back Bar p = refl

pub token-spaceless : (t : Token) → IsProper t → Without 32 (token_text t)
token-spaceless (Number n) p = decimal-without 32 n (omega arith) p
token-spaceless (Entry x y) p =
    All-append (λ b. eqb b 32 ≡ false) (decimal x) (58 ∷ decimal y) (decimal-without 32 x (omega arith) p.0)
    (All-cons (λ b. eqb b 32 ≡ false) 58 (decimal y) refl (decimal-without 32 y (omega arith) p.1))
token-spaceless Dash p = All-cons (λ b. eqb b 32 ≡ false) 45 [] refl (All-nil (λ b. eqb b 32 ≡ false))
token-spaceless Bar p = All-cons (λ b. eqb b 32 ≡ false) 124 [] refl (All-nil (λ b. eqb b 32 ≡ false))

-- ---- all words

pub tokens-are : (ws : List (List ℕ)) (ts : List Token) → tokens_of ws ≡ Some ts → All IsProper ts × (ws ≡ map token_text ts)
tokens-are [] ts h = subst (λ (us : List Token). All IsProper us × ([] ≡ map token_text us)) (same_Some [] ts h) (All-nil IsProper, refl)
tokens-are (w ∷ ws) ts h =
    let p : (t : Token) × (token_of w ≡ Some t) × (option_and_then (λ us. Some (t ∷ us)) (tokens_of ws) ≡ Some ts) = both_some (λ t. option_and_then (λ us. Some (t ∷ us)) (tokens_of ws)) (token_of w) ts h in
    let q : (us : List Token) × (tokens_of ws ≡ Some us) × (Some (p.0 ∷ us) ≡ Some ts) = both_some (λ us. Some (p.0 ∷ us)) (tokens_of ws) ts p.2 in
    let first : IsProper p.0 × (w ≡ token_text p.0) = token-is w p.0 p.1 in
    let more : All IsProper q.0 × (ws ≡ map token_text q.0) = tokens-are ws q.0 q.1 in
    subst (λ (us : List Token). All IsProper us × (w ∷ ws ≡ map token_text us)) (same_Some (p.0 ∷ q.0) ts q.2)
    (All-cons IsProper p.0 q.0 first.0 more.0, λ i. first.1 i ∷ more.1 i)

pub tokens-back : (ts : List Token) → All IsProper ts → tokens_of (map token_text ts) ≡ Some ts
tokens-back [] h = refl
tokens-back (t ∷ ts) h =
    ap (option_and_then (λ u. option_and_then (λ us. Some (u ∷ us)) (tokens_of (map token_text ts)))) (token-back t (All-head IsProper t ts h))
    ∙ ap (option_and_then (λ us. Some (t ∷ us))) (tokens-back ts (All-tail IsProper t ts h))
