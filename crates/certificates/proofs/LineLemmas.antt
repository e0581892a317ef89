-- The lines of numbers and sparse lists, word by word.
use Rattle.std.proofs.Common.{◌≡◌, ◌≢◌, ◌<◌, ◌+◌, take, drop, get_or, ◌++◌, ◌∷◌, [], ℕ, List, length, map, refl, sym, ◌∙◌, ap, arith, append_assoc, decimal, Some}
use Rattle.std.specs.List.{flat_map, join_with_byte}
use Rattle.std.proofs.lemmas.List.{append-nil}
use Rattle.std.proofs.lemmas.List.Concat.{flat_map-append}
use Rattle.std.proofs.lemmas.List.Folds.{flat_map-map}
use Rattle.certificates.specs.declared.kind.Kind.{Kind}
use Rattle.certificates.specs.declared.token.Token.{Token}
use Rattle.certificates.specs.declared.token.Token.TheVariants.{Number, Entry, Dash, Bar}
use Rattle.certificates.specs.Tokens.{token_text}
use Rattle.certificates.specs.Parts.{Sparse, kind_text, entry, sparse_tokens, lists_tokens, parts_text, numbered}
use Rattle.certificates.specs.Written.{words_text, numbers_text, head_text, sides_text, numbered_line, listed_line}
use Rattle.certificates.proofs.ListLemmas.{joined, part-more, part-split}

-- words behind the first
words-joined : (w : List ℕ) (ts : List Token) → w ++ words_text ts ≡ join_with_byte 32 (w ∷ map token_text ts)
words-joined w ts = ap (λ (ys : List ℕ). w ++ ys) (sym (flat_map-map (λ v. 32 ∷ v) token_text ts)) ∙ joined 32 w (map token_text ts)

numbers-words : (ns : List ℕ) → numbers_text ns ≡ words_text (map Number ns)
numbers-words ns = sym (flat_map-map (λ t. 32 ∷ token_text t) Number ns)

pub numbered-is : (k : Kind) (ns : List ℕ) → head_text k ns ≡ parts_text (numbered k ns)
numbered-is k ns =
    ap (λ (ys : List ℕ). kind_text k ++ ys) (numbers-words ns)
    ∙ (words-joined (kind_text k) (map Number ns) ∙ ap (λ (ts : List Token). join_with_byte 32 (kind_text k ∷ map token_text ts)) (sym (append-nil (map Number ns))))

pub numbered-whole : (k : Kind) (ns : List ℕ) → head_text k ns ++ 10 ∷ [] ≡ numbered_line k ns
numbered-whole k ns = ap (λ (ys : List ℕ). ys ++ 10 ∷ []) (numbered-is k ns)

pub longer-whole : (k : Kind) (n : ℕ) (ns : List ℕ) → (head_text k (n ∷ []) ++ numbers_text ns) ++ 10 ∷ [] ≡ numbered_line k (n ∷ ns)
longer-whole k n ns =
    ap (λ (ys : List ℕ). ys ++ 10 ∷ []) (append_assoc (kind_text k) (numbers_text (n ∷ [])) (numbers_text ns) ∙ ap (λ (ys : List ℕ). kind_text k ++ ys) (sym (flat_map-append (λ m. 32 ∷ decimal m) (n ∷ []) ns)))
    ∙ numbered-whole k (n ∷ ns)

sides-words : (left right : Sparse) → words_text (lists_tokens (Some (left, right))) ≡ sides_text left right
sides-words left right = flat_map-append (λ t. 32 ∷ token_text t) (sparse_tokens left) (Bar ∷ sparse_tokens right)

pub listed-whole : (k : Kind) (ns : List ℕ) (left right : Sparse) → (head_text k ns ++ sides_text left right) ++ 10 ∷ [] ≡ listed_line k ns left right
listed-whole k ns left right =
    let ts : List Token = lists_tokens (Some (left, right)) in
    ap (λ (ys : List ℕ). ys ++ 10 ∷ [])
    (append_assoc (kind_text k) (numbers_text ns) (sides_text left right)
    ∙ (ap (λ (ys : List ℕ). kind_text k ++ ys)
    (ap (λ (ys : List ℕ). ys ++ sides_text left right) (numbers-words ns)
    ∙ (ap (λ (ys : List ℕ). words_text (map Number ns) ++ ys) (sym (sides-words left right)) ∙ sym (flat_map-append (λ t. 32 ∷ token_text t) (map Number ns) ts)))
    ∙ words-joined (kind_text k) (map Number ns ++ ts)))

-- a sparse list without an entry, and one with some
pub side-none : (entries : Sparse) → length entries ≡ 0 → 32 ∷ token_text Dash ≡ words_text (sparse_tokens entries)
side-none [] e = refl
side-none (x ∷ xs) e = absurd (omega (arith, e))

pub side-some : (entries : Sparse) → length entries ≢ 0 → words_text (map entry entries) ≡ words_text (sparse_tokens entries)
side-some [] ne = absurd (ne refl)
side-some (x ∷ xs) ne = refl

-- ---- the entries of a sparse list, one by one

abbrev entry_text : ℕ × ℕ → List ℕ
entry_text e = 32 ∷ token_text (entry e)

entries-flat : (es : Sparse) → words_text (map entry es) ≡ flat_map entry_text es
entries-flat es = flat_map-map (λ t. 32 ∷ token_text t) entry es

pub entries-more : (es : Sparse) (i p v : ℕ) → i < length es → (p, v) ≡ get_or es i (0, 0) → words_text (map entry (take i es)) ++ 32 ∷ token_text (Entry p v) ≡ words_text (map entry (take (i + 1) es))
entries-more es i p v l e =
    ap (λ (ys : List ℕ). ys ++ entry_text (p, v)) (entries-flat (take i es)) ∙ (part-more entry_text es i (p, v) (0, 0) l e ∙ sym (entries-flat (take (i + 1) es)))

pub entries-split : (es : Sparse) (i p v : ℕ) → i < length es → (p, v) ≡ get_or es i (0, 0) → words_text (map entry (take i es)) ++ (32 ∷ token_text (Entry p v)) ++ words_text (map entry (drop (i + 1) es)) ≡ words_text (map entry es)
entries-split es i p v l e =
    (λ j. entries-flat (take i es) j ++ entry_text (p, v) ++ entries-flat (drop (i + 1) es) j) ∙ (part-split entry_text es i (p, v) (0, 0) l e ∙ sym (entries-flat es))
