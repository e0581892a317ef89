-- A text cut at the first such byte, and what the reading of one word rests on.
use Rattle.std.proofs.Common.{◌≡◌, ◌<◌, ◌≤◌, ◌+◌, ◌-◌, ◌∷◌, [], ℕ, Bool, true, false, cond, eqb, ltb, Option, Some, None, List, length, take, drop, position, refl, sym, ◌∙◌, ap, arith, subst}
use Rattle.std.specs.Option.{option_and_then}
use Rattle.std.specs.List.{slice_split, join_with_byte, position_or_len}
use Rattle.std.proofs.lemmas.Bool.{ltb-true, ltb-false}
use Rattle.std.proofs.lemmas.Option.{same_Some}
use Rattle.std.proofs.lemmas.List.{take_rest}
use Rattle.std.proofs.lemmas.List.Sums.{fails_before_first}
use Rattle.std.proofs.lemmas.List.Splits.{slice_split_none, slice_split_first, join_with_byte-slice_split, length-slice_split}
use Rattle.certificates.specs.declared.token.Token.{Token}
use Rattle.certificates.specs.declared.token.Token.TheVariants.{Entry}
use Rattle.certificates.specs.Numbers.{number_of}
use Rattle.certificates.specs.Tokens.{number_or_sign, token_from, token_of}
use Rattle.cert_lines.proofs.Digits.{colon-no_number}

-- ---- cutting at the first such byte

-- what stands behind the byte at i
abbrev pub behind : ℕ → List ℕ → List ℕ
behind i text = take (length text - (i + 1)) (drop (i + 1) text)

pub record IsCut (c : ℕ) (text : List ℕ) (i : ℕ) : Type 0 where
  pub within : i < length text
  pub cut : slice_split (λ b. eqb b c) text ≡ take i text ∷ slice_split (λ b. eqb b c) (behind i text)

cut-at : (c : ℕ) (text : List ℕ) (i : ℕ) → position_or_len (λ b. eqb b c) text ≡ i → i < length text → IsCut c text i
cut-at c text i e l = record {
  within = l;
  cut = subst (λ (k : ℕ). slice_split (λ b. eqb b c) text ≡ take k text ∷ slice_split (λ b. eqb b c) (drop (k + 1) text)) e (slice_split_first (λ b. eqb b c) text 0 (omega arith))
      ∙ ap (λ (l : List ℕ). take i text ∷ slice_split (λ b. eqb b c) l) (sym (take_rest text (i + 1)));
}

pub cut-some : (c : ℕ) (text : List ℕ) (i : ℕ) → position (λ b. eqb b c) text ≡ Some i → IsCut c text i
cut-some c text i h = at (position_or_len (λ b. eqb b c) text) refl (ltb (position_or_len (λ b. eqb b c) text) (length text)) refl h
  where
    at : (n : ℕ) → position_or_len (λ b. eqb b c) text ≡ n → (t : Bool) → ltb n (length text) ≡ t → cond t (Some n) None ≡ Some i → IsCut c text i
    at n e true l h = let s : n ≡ i = same_Some n i h in cut-at c text i (e ∙ s) (omega (arith, ltb-true n (length text) l))
    at n e false l h = cc

pub cut-none : (c : ℕ) (text : List ℕ) → position (λ b. eqb b c) text ≡ None → slice_split (λ b. eqb b c) text ≡ text ∷ []
cut-none c text h = at (position_or_len (λ b. eqb b c) text) refl (ltb (position_or_len (λ b. eqb b c) text) (length text)) refl h
  where
    at : (n : ℕ) → position_or_len (λ b. eqb b c) text ≡ n → (t : Bool) → ltb n (length text) ≡ t → cond t (Some n) None ≡ None → slice_split (λ b. eqb b c) text ≡ text ∷ []
    at n e true l h = cc
    at n e false l h = slice_split_none (λ b. eqb b c) text (λ k d m. fails_before_first (λ b. eqb b c) text k d (omega (arith, ltb-false n (length text) l)))

-- ---- one word

pub token-whole : (w : List ℕ) → position (λ b. eqb b 58) w ≡ None → token_of w ≡ number_or_sign w (number_of w)
token-whole w h = ap token_from (cut-none 58 w h)

abbrev pub entry_of : List ℕ → List ℕ → Option Token
entry_of a b = option_and_then (λ p. option_and_then (λ v. Some (Entry p v)) (number_of b)) (number_of a)

none_then : (o : Option ℕ) (b : List ℕ) → number_of b ≡ None → None ≡ option_and_then (λ p. option_and_then (λ v. Some (Entry p v)) (number_of b)) o
none_then None b e = refl
none_then (Some p) b e = sym (ap (option_and_then (λ v. Some (Entry p v))) e)

two_parts : (a b : List ℕ) (parts : List (List ℕ)) → join_with_byte 58 parts ≡ b → 1 ≤ length parts → token_from (a ∷ parts) ≡ entry_of a b
two_parts a b [] e l = absurd (omega arith)
two_parts a b (r ∷ []) e l = ap (entry_of a) e
two_parts a b (r ∷ s ∷ more) e l = none_then (number_of a) b (sym (ap number_of e) ∙ colon-no_number r (join_with_byte 58 (s ∷ more)))

pub token-cut : (w : List ℕ) (i : ℕ) → position (λ b. eqb b 58) w ≡ Some i → token_of w ≡ entry_of (take i w) (behind i w)
token-cut w i h =
    let rest : List ℕ = behind i w in
    ap token_from (cut-some 58 w i h).cut
    ∙ two_parts (take i w) rest (slice_split (λ b. eqb b 58) rest) (join_with_byte-slice_split 58 rest) (omega (arith, length-slice_split (λ b. eqb b 58) rest))
