-- The numbers and the lists of a line by its words are those of what it says.
use Rattle.std.proofs.Common.{◌≡◌, ◌++◌, ◌∷◌, [], ℕ, Bool, cond, Option, Some, None, List, map, length, drop, refl, subst, sym, ◌∙◌, ap, All, decimal}
use Rattle.std.proofs.lemmas.List.{append-nil}
use Rattle.std.proofs.lemmas.List.Elements.{All-head, All-tail}
use Rattle.certificates.specs.declared.token.Token.{Token}
use Rattle.certificates.specs.declared.token.Token.TheVariants.{Number, Bar}
use Rattle.certificates.specs.Tokens.{token_text, IsProper, words_of}
use Rattle.certificates.specs.Numbers.{number_of}
use Rattle.certificates.specs.Parts.{Sparse, entry, sparse_tokens, lists_tokens, rest_tokens, parts_words}
use Rattle.certificates.specs.Plain.{Plain, parts}
use Rattle.certificates.specs.Forms.{plain, form_of}
use Rattle.certificates.proofs.CallerLemmas.{plain-words, number-back, token-back}
use Rattle.cert_lines.specs.Listed.{put, numbers_of, behind_first, numbers_in, is_bar_token, behind_bar, put_entry, entries_of, list_in, list_behind}
use Rattle.cert_lines.proofs.Digits.{colon-no_number}

abbrev texts : List Token → List (List ℕ)
texts ts = map token_text ts

-- ---- numbers

numbers-back : (ns : List ℕ) (o : Option (Sparse × Sparse)) → All IsProper (map Number ns ++ lists_tokens o) → numbers_of (texts (map Number ns ++ lists_tokens o)) ≡ ns
numbers-back (n ∷ ns) o h =
    ap (λ (x : Option ℕ). put x (numbers_of (texts (map Number ns ++ lists_tokens o)))) (number-back n (All-head IsProper (Number n) (map Number ns ++ lists_tokens o) h))
    ∙ ap (λ (x : List ℕ). n ∷ x) (numbers-back ns o (All-tail IsProper (Number n) (map Number ns ++ lists_tokens o) h))
numbers-back [] None h = refl
numbers-back [] (Some s) h = at s.0 s.1
  where
    at : (l r : Sparse) → numbers_of (texts (lists_tokens (Some (l, r)))) ≡ []
    at [] r = refl
    at (e ∷ l) r = ap (λ (x : Option ℕ). put x (numbers_of (texts (map entry l ++ Bar ∷ sparse_tokens r)))) (colon-no_number (decimal e.0) (decimal e.1))

-- the numbers behind the first word are those of what the line says
pub numbers-told : (v : ℕ) (line : List ℕ) (f : Plain) → form_of v line ≡ Some (plain f) → numbers_in line ≡ (parts f).rest.numbers
numbers-told v line f h =
    let w : All IsProper (rest_tokens (parts f).rest) × (words_of line ≡ parts_words (parts f)) = plain-words v line f h in
    ap (λ (ws : List (List ℕ)). numbers_of (behind_first ws)) w.1 ∙ numbers-back (parts f).rest.numbers (parts f).rest.lists w.0

-- ---- behind the numbers

dropped : (ns : List ℕ) (ts : List Token) → drop (length ns) (texts (map Number ns ++ ts)) ≡ texts ts
dropped [] ts = refl
dropped (n ∷ ns) ts = dropped ns ts

-- ---- behind the bar

-- a token that is no bar is passed
passed : (t : Token) (ts : List Token) → is_bar_token (Some t) ≡ is_bar_token None → All IsProper (t ∷ ts) → behind_bar (texts (t ∷ ts)) ≡ behind_bar (texts ts)
passed t ts apart h = ap (λ (b : Bool). cond b (texts ts) (behind_bar (texts ts))) (ap is_bar_token (token-back t (All-head IsProper t ts h)) ∙ apart)

entries-passed : (l : Sparse) (ts : List Token) → All IsProper (map entry l ++ Bar ∷ ts) → behind_bar (texts (map entry l ++ Bar ∷ ts)) ≡ texts ts
entries-passed [] ts h = refl
entries-passed (e ∷ l) ts h = passed (entry e) (map entry l ++ Bar ∷ ts) refl h ∙ entries-passed l ts (All-tail IsProper (entry e) (map entry l ++ Bar ∷ ts) h)

list-passed : (l : Sparse) (ts : List Token) → All IsProper (sparse_tokens l ++ Bar ∷ ts) → behind_bar (texts (sparse_tokens l ++ Bar ∷ ts)) ≡ texts ts
list-passed [] ts h = refl
list-passed (e ∷ l) ts h = entries-passed (e ∷ l) ts h

bar-passed : (ns : List ℕ) (l r : Sparse) → All IsProper (map Number ns ++ lists_tokens (Some (l, r))) → behind_bar (texts (map Number ns ++ lists_tokens (Some (l, r)))) ≡ texts (sparse_tokens r)
bar-passed [] l r h = list-passed l (sparse_tokens r) h
bar-passed (n ∷ ns) l r h =
    let ts : List Token = map Number ns ++ lists_tokens (Some (l, r)) in
    passed (Number n) ts refl h ∙ bar-passed ns l r (All-tail IsProper (Number n) ts h)

-- ---- entries

entries-back : (l : Sparse) (ts : List Token) → entries_of (texts ts) ≡ [] → All IsProper (map entry l ++ ts) → entries_of (texts (map entry l ++ ts)) ≡ l
entries-back [] ts e h = e
entries-back (x ∷ l) ts e h =
    let us : List Token = map entry l ++ ts in
    ap (λ (o : Option Token). put_entry o (entries_of (texts us))) (token-back (entry x) (All-head IsProper (entry x) us h))
    ∙ ap (λ (es : Sparse). x ∷ es) (entries-back l ts e (All-tail IsProper (entry x) us h))

list-back : (l : Sparse) (ts : List Token) → entries_of (texts ts) ≡ [] → All IsProper (sparse_tokens l ++ ts) → entries_of (texts (sparse_tokens l ++ ts)) ≡ l
list-back [] ts e h = refl
list-back (x ∷ l) ts e h = entries-back (x ∷ l) ts e h

all_behind : (xs ys : List Token) → All IsProper (xs ++ ys) → All IsProper ys
all_behind [] ys h = h
all_behind (x ∷ xs) ys h = all_behind xs ys (All-tail IsProper x (xs ++ ys) h)

-- ---- both lists of a line

both_lists : (ns : List ℕ) (o : Option (Sparse × Sparse)) (s : Sparse × Sparse) → o ≡ Some s → All IsProper (map Number ns ++ lists_tokens o)
    → (entries_of (drop (length ns) (texts (map Number ns ++ lists_tokens o))) ≡ s.0) × (entries_of (behind_bar (texts (map Number ns ++ lists_tokens o))) ≡ s.1)
both_lists ns o s eo h =
    let all : All IsProper (map Number ns ++ lists_tokens (Some s)) = subst (λ (x : Option (Sparse × Sparse)). All IsProper (map Number ns ++ lists_tokens x)) eo h in
    let lists : All IsProper (sparse_tokens s.0 ++ Bar ∷ sparse_tokens s.1) = all_behind (map Number ns) (lists_tokens (Some s)) all in
    let right : All IsProper (sparse_tokens s.1) = All-tail IsProper Bar (sparse_tokens s.1) (all_behind (sparse_tokens s.0) (Bar ∷ sparse_tokens s.1) lists) in
    let nil : sparse_tokens s.1 ++ [] ≡ sparse_tokens s.1 = append-nil (sparse_tokens s.1) in (
      ap (λ (x : Option (Sparse × Sparse)). entries_of (drop (length ns) (texts (map Number ns ++ lists_tokens x)))) eo
          ∙ (ap entries_of (dropped ns (lists_tokens (Some s))) ∙ list-back s.0 (Bar ∷ sparse_tokens s.1) refl lists),
      ap (λ (x : Option (Sparse × Sparse)). entries_of (behind_bar (texts (map Number ns ++ lists_tokens x)))) eo
          ∙ (ap entries_of (bar-passed ns s.0 s.1 all)
          ∙ (ap (λ (ts : List Token). entries_of (texts ts)) (sym nil) ∙ list-back s.1 [] refl (subst (All IsProper) (sym nil) right))),
    )

-- the two lists of a line are those of what it says; the first stands behind its numbers
pub lists-told : (v : ℕ) (line : List ℕ) (f : Plain) (s : Sparse × Sparse) → form_of v line ≡ Some (plain f) → (parts f).rest.lists ≡ Some s
    → (list_in line (length (parts f).rest.numbers) ≡ s.0) × (list_behind line ≡ s.1)
lists-told v line f s h hs =
    let w : All IsProper (rest_tokens (parts f).rest) × (words_of line ≡ parts_words (parts f)) = plain-words v line f h in
    let b = both_lists (parts f).rest.numbers (parts f).rest.lists s hs w.0 in (
      ap (λ (ws : List (List ℕ)). entries_of (drop (length (parts f).rest.numbers) (behind_first ws))) w.1 ∙ b.0,
      ap (λ (ws : List (List ℕ)). entries_of (behind_bar (behind_first ws))) w.1 ∙ b.1,
    )

-- the numbers behind the first one
put_first : (o : Option ℕ) (ws : List (List ℕ)) (n : ℕ) (ns : List ℕ) → put o (numbers_of ws) ≡ n ∷ ns → numbers_of ws ≡ ns
put_first None ws n ns h = cc
put_first (Some m) ws n ns h = cc

pub numbers-rest : (ws : List (List ℕ)) (n : ℕ) (ns : List ℕ) → numbers_of ws ≡ n ∷ ns → numbers_of (drop 1 ws) ≡ ns
numbers-rest [] n ns h = cc
numbers-rest (w ∷ ws) n ns h = put_first (number_of w) ws n ns h
