-- A line has parts exactly where it is the text of those parts.
use Rattle.std.proofs.Common.{◌≡◌, ◌++◌, ◌∷◌, [], ℕ, Bool, true, false, cond, eqb, Option, Some, None, List, map, refl, sym, ◌∙◌, ap, subst, All, bytes_eq}
use Rattle.std.specs.Option.{option_and_then}
use Rattle.std.specs.List.{slice_split, join_with_byte}
use Rattle.std.proofs.lemmas.Option.{same_Some}
use Rattle.std.proofs.lemmas.List.Splits.{join_with_byte-slice_split}
use Rattle.std.proofs.lemmas.List.Elements.{All-nil, All-cons, All-map, All-weaker}
use Rattle.certificates.specs.declared.kind.Kind.{Kind}
use Rattle.certificates.specs.declared.kind.Kind.TheVariants as kind
use Rattle.certificates.specs.declared.token.Token.{Token}
use Rattle.certificates.specs.declared.token.Token.TheVariants.{Number, Entry, Dash, Bar}
use Rattle.certificates.specs.Tokens.{token_text, IsProper, tokens_of}
use Rattle.certificates.specs.Parts.{Sparse, Rest, Parts, kind_text, entry, sparse_tokens, lists_tokens, rest_tokens, parts_words, parts_text, kinds, kind_from, kind_of_word, entries_of, last_of, left_of, lists_of, rest_of, parts_from, parts_of}
use Rattle.certificates.proofs.Somes.{both_some}
use Rattle.certificates.proofs.Words.{Without, split-joined, bytes-same, token-spaceless, tokens-are, tokens-back}

-- ---- the first word

here : (l : Kind) (w : List ℕ) (k : Kind) (o : Option Kind) (t : Bool) → bytes_eq (kind_text l) w ≡ t → cond t (Some l) o ≡ Some k → (o ≡ Some k → w ≡ kind_text k) → w ≡ kind_text k
here l w k o true e h later = sym (bytes-same (kind_text l) w e) ∙ ap kind_text (same_Some l k h)
here l w k o false e h later = later h

kind-from : (ks : List Kind) (w : List ℕ) (k : Kind) → kind_from ks w ≡ Some k → w ≡ kind_text k
kind-from [] w k h = cc
kind-from (l ∷ ks) w k h = here l w k (kind_from ks w) (bytes_eq (kind_text l) w) refl h (kind-from ks w k)

pub kind-is : (w : List ℕ) (k : Kind) → kind_of_word w ≡ Some k → w ≡ kind_text k
kind-is w k h = kind-from kinds w k h

pub kind-back : (k : Kind) → kind_of_word (kind_text k) ≡ Some k
kind-back kind.Version = refl
kind-back kind.Modulus = refl
kind-back kind.Cells = refl
kind-back kind.Face = refl
kind-back kind.Chains = refl
kind-back kind.Rank = refl
kind-back kind.RankLine = refl
kind-back kind.Classes = refl
kind-back kind.ClassLine = refl
kind-back kind.Products = refl
kind-back kind.ProductLine = refl
kind-back kind.Pairs = refl
kind-back kind.PairLine = refl
kind-back kind.Critical = refl
kind-back kind.Components = refl
kind-back kind.Columns = refl
kind-back kind.Covers = refl
kind-back kind.Done = refl
kind-back kind.End = refl

abbrev pub is_spaceless : List ℕ → Bool
is_spaceless [] = true
is_spaceless (b ∷ bs) = cond (eqb b 32) false (is_spaceless bs)

pub spaceless : (w : List ℕ) → is_spaceless w ≡ true → Without 32 w
spaceless [] h = All-nil (λ b. eqb b 32 ≡ false)
spaceless (b ∷ bs) h = let p = parts (eqb b 32) (is_spaceless bs) h in All-cons (λ b. eqb b 32 ≡ false) b bs p.0 (spaceless bs p.1)
  where
    parts : (t u : Bool) → cond t false u ≡ true → (t ≡ false) × (u ≡ true)
    parts true u h = cc
    parts false u h = (refl, h)

-- the same for line feeds
abbrev is_feedless : List ℕ → Bool
is_feedless [] = true
is_feedless (b ∷ bs) = cond (eqb b 10) false (is_feedless bs)

pub feedless_text : (w : List ℕ) → is_feedless w ≡ true → Without 10 w
feedless_text [] h = All-nil (λ b. eqb b 10 ≡ false)
feedless_text (b ∷ bs) h = let p = parts (eqb b 10) (is_feedless bs) h in All-cons (λ b. eqb b 10 ≡ false) b bs p.0 (feedless_text bs p.1)
  where
    parts : (t u : Bool) → cond t false u ≡ true → (t ≡ false) × (u ≡ true)
    parts true u h = cc
    parts false u h = (refl, h)

kind-test : (k : Kind) → is_spaceless (kind_text k) ≡ true
kind-test kind.Version = refl
kind-test kind.Modulus = refl
kind-test kind.Cells = refl
kind-test kind.Face = refl
kind-test kind.Chains = refl
kind-test kind.Rank = refl
kind-test kind.RankLine = refl
kind-test kind.Classes = refl
kind-test kind.ClassLine = refl
kind-test kind.Products = refl
kind-test kind.ProductLine = refl
kind-test kind.Pairs = refl
kind-test kind.PairLine = refl
kind-test kind.Critical = refl
kind-test kind.Components = refl
kind-test kind.Columns = refl
kind-test kind.Covers = refl
kind-test kind.Done = refl
kind-test kind.End = refl

pub kind-feedless : (k : Kind) → Without 10 (kind_text k)
kind-feedless kind.Version = feedless_text (kind_text kind.Version) refl
kind-feedless kind.Modulus = feedless_text (kind_text kind.Modulus) refl
kind-feedless kind.Cells = feedless_text (kind_text kind.Cells) refl
kind-feedless kind.Face = feedless_text (kind_text kind.Face) refl
kind-feedless kind.Chains = feedless_text (kind_text kind.Chains) refl
kind-feedless kind.Rank = feedless_text (kind_text kind.Rank) refl
kind-feedless kind.RankLine = feedless_text (kind_text kind.RankLine) refl
kind-feedless kind.Classes = feedless_text (kind_text kind.Classes) refl
kind-feedless kind.ClassLine = feedless_text (kind_text kind.ClassLine) refl
kind-feedless kind.Products = feedless_text (kind_text kind.Products) refl
kind-feedless kind.ProductLine = feedless_text (kind_text kind.ProductLine) refl
kind-feedless kind.Pairs = feedless_text (kind_text kind.Pairs) refl
kind-feedless kind.PairLine = feedless_text (kind_text kind.PairLine) refl
kind-feedless kind.Critical = feedless_text (kind_text kind.Critical) refl
kind-feedless kind.Components = feedless_text (kind_text kind.Components) refl
kind-feedless kind.Columns = feedless_text (kind_text kind.Columns) refl
kind-feedless kind.Covers = feedless_text (kind_text kind.Covers) refl
kind-feedless kind.Done = feedless_text (kind_text kind.Done) refl
kind-feedless kind.End = feedless_text (kind_text kind.End) refl

-- ---- sparse lists

entries-are : (ts : List Token) (es : Sparse) → entries_of ts ≡ Some es → ts ≡ map entry es
entries-are [] es h = subst (λ (xs : Sparse). [] ≡ map entry xs) (same_Some [] es h) refl
entries-are (Entry p v ∷ ts) es h =
    let q : (xs : Sparse) × (entries_of ts ≡ Some xs) × (Some ((p, v) ∷ xs) ≡ Some es) = both_some (λ xs. Some ((p, v) ∷ xs)) (entries_of ts) es h in
    ap (λ (us : List Token). Entry p v ∷ us) (entries-are ts q.0 q.1) ∙ ap (map entry) (same_Some ((p, v) ∷ q.0) es q.2)
entries-are (Number n ∷ ts) es h = cc
entries-are (Dash ∷ ts) es h = cc
entries-are (Bar ∷ ts) es h = cc

entries-back : (es : Sparse) → entries_of (map entry es) ≡ Some es
entries-back [] = refl
entries-back (e ∷ es) = ap (option_and_then (λ xs. Some (e ∷ xs))) (entries-back es)

last-is : (ts : List Token) (es : Sparse) → last_of ts ≡ Some es → ts ≡ sparse_tokens es
last-is [] es h = cc
last-is (Dash ∷ []) es h = subst (λ (xs : Sparse). Dash ∷ [] ≡ sparse_tokens xs) (same_Some [] es h) refl
last-is (Dash ∷ t ∷ ts) es h = cc
last-is (Entry p v ∷ ts) es h =
    let q : (xs : Sparse) × (entries_of ts ≡ Some xs) × (Some ((p, v) ∷ xs) ≡ Some es) = both_some (λ xs. Some ((p, v) ∷ xs)) (entries_of ts) es h in
    ap (λ (us : List Token). Entry p v ∷ us) (entries-are ts q.0 q.1) ∙ ap sparse_tokens (same_Some ((p, v) ∷ q.0) es q.2)
last-is (Number n ∷ ts) es h = cc
last-is (Bar ∷ ts) es h = cc

last-back : (es : Sparse) → last_of (sparse_tokens es) ≡ Some es
last-back [] = refl
last-back (e ∷ es) = ap (option_and_then (λ xs. Some (e ∷ xs))) (entries-back es)

left-is : (ts : List Token) (s : Sparse × Sparse) → left_of ts ≡ Some s → ts ≡ map entry s.0 ++ Bar ∷ sparse_tokens s.1
left-is [] s h = cc
left-is (Entry p v ∷ ts) s h =
    let q : (x : Sparse × Sparse) × (left_of ts ≡ Some x) × (Some ((p, v) ∷ x.0, x.1) ≡ Some s) = both_some (λ x. Some ((p, v) ∷ x.0, x.1)) (left_of ts) s h in
    ap (λ (us : List Token). Entry p v ∷ us) (left-is ts q.0 q.1) ∙ ap (λ (x : Sparse × Sparse). map entry x.0 ++ Bar ∷ sparse_tokens x.1) (same_Some ((p, v) ∷ q.0.0, q.0.1) s q.2)
left-is (Bar ∷ ts) s h =
    let q : (x : Sparse) × (last_of ts ≡ Some x) × (Some ([], x) ≡ Some s) = both_some (λ x. Some ([], x)) (last_of ts) s h in
    ap (λ (us : List Token). Bar ∷ us) (last-is ts q.0 q.1) ∙ ap (λ (x : Sparse × Sparse). map entry x.0 ++ Bar ∷ sparse_tokens x.1) (same_Some ([], q.0) s q.2)
left-is (Number n ∷ ts) s h = cc
left-is (Dash ∷ ts) s h = cc

left-back : (l r : Sparse) → left_of (map entry l ++ Bar ∷ sparse_tokens r) ≡ Some (l, r)
left-back [] r = ap (option_and_then (λ x. Some ([], x))) (last-back r)
left-back (e ∷ l) r = ap (option_and_then (λ x. Some (e ∷ x.0, x.1))) (left-back l r)

lists-are : (ts : List Token) (s : Sparse × Sparse) → lists_of ts ≡ Some s → ts ≡ lists_tokens (Some s)
lists-are [] s h = cc
lists-are (Dash ∷ []) s h = cc
lists-are (Dash ∷ Bar ∷ ts) s h =
    let q : (x : Sparse) × (last_of ts ≡ Some x) × (Some ([], x) ≡ Some s) = both_some (λ x. Some ([], x)) (last_of ts) s h in
    ap (λ (us : List Token). Dash ∷ Bar ∷ us) (last-is ts q.0 q.1) ∙ ap (λ (x : Sparse × Sparse). lists_tokens (Some x)) (same_Some ([], q.0) s q.2)
lists-are (Dash ∷ Dash ∷ ts) s h = cc
lists-are (Dash ∷ Number n ∷ ts) s h = cc
lists-are (Dash ∷ Entry p v ∷ ts) s h = cc
lists-are (Entry p v ∷ ts) s h =
    let q : (x : Sparse × Sparse) × (left_of ts ≡ Some x) × (Some ((p, v) ∷ x.0, x.1) ≡ Some s) = both_some (λ x. Some ((p, v) ∷ x.0, x.1)) (left_of ts) s h in
    ap (λ (us : List Token). Entry p v ∷ us) (left-is ts q.0 q.1) ∙ ap (λ (x : Sparse × Sparse). lists_tokens (Some x)) (same_Some ((p, v) ∷ q.0.0, q.0.1) s q.2)
lists-are (Number n ∷ ts) s h = cc
lists-are (Bar ∷ ts) s h = cc

lists-back : (l r : Sparse) → lists_of (lists_tokens (Some (l, r))) ≡ Some (l, r)
lists-back [] r = ap (option_and_then (λ x. Some ([], x))) (last-back r)
lists-back (e ∷ l) r = ap (option_and_then (λ x. Some (e ∷ x.0, x.1))) (left-back l r)

-- ---- what stands after the first word

abbrev more : ℕ → Rest → Rest
more n r = record { numbers = n ∷ r.numbers; lists = r.lists }

abbrev ended : Option (Sparse × Sparse) → Rest
ended o = record { numbers = []; lists = o }

listed-is : (t : Token) (ts : List Token) (r : Rest) → option_and_then (λ s. Some (ended (Some s))) (lists_of (t ∷ ts)) ≡ Some r → t ∷ ts ≡ rest_tokens r
listed-is t ts r h =
    let q : (s : Sparse × Sparse) × (lists_of (t ∷ ts) ≡ Some s) × (Some (ended (Some s)) ≡ Some r) = both_some (λ s. Some (ended (Some s))) (lists_of (t ∷ ts)) r h in
    lists-are (t ∷ ts) q.0 q.1 ∙ ap rest_tokens (same_Some (ended (Some q.0)) r q.2)

pub rest-is : (ts : List Token) (r : Rest) → rest_of ts ≡ Some r → ts ≡ rest_tokens r
rest-is [] r h = ap rest_tokens (same_Some (ended None) r h)
rest-is (Number n ∷ ts) r h =
    let q : (x : Rest) × (rest_of ts ≡ Some x) × (Some (more n x) ≡ Some r) = both_some (λ x. Some (more n x)) (rest_of ts) r h in
    ap (λ (us : List Token). Number n ∷ us) (rest-is ts q.0 q.1) ∙ ap rest_tokens (same_Some (more n q.0) r q.2)
rest-is (Entry p v ∷ ts) r h = listed-is (Entry p v) ts r h
rest-is (Dash ∷ ts) r h = listed-is Dash ts r h
rest-is (Bar ∷ ts) r h = listed-is Bar ts r h

pub rest-back : (ns : List ℕ) (o : Option (Sparse × Sparse)) → rest_of (map Number ns ++ lists_tokens o) ≡ Some (record { numbers = ns; lists = o })
rest-back (n ∷ ns) o = ap (option_and_then (λ r. Some (more n r))) (rest-back ns o)
rest-back [] None = refl
rest-back [] (Some s) = at s.0 s.1
  where
    at : (l r : Sparse) → rest_of (lists_tokens (Some (l, r))) ≡ Some (ended (Some (l, r)))
    at [] r = ap (option_and_then (λ s. Some (ended (Some s)))) (lists-back [] r)
    at (e ∷ l) r = ap (option_and_then (λ s. Some (ended (Some s)))) (lists-back (e ∷ l) r)

-- ---- lines

pub from-is : (ws : List (List ℕ)) (p : Parts) → parts_from ws ≡ Some p → All IsProper (rest_tokens p.rest) × (ws ≡ parts_words p)
from-is [] p h = cc
from-is (w ∷ ws) p h =
    let a : (k : Kind) × (kind_of_word w ≡ Some k) × (option_and_then (λ ts. option_and_then (λ r. Some (record { kind = k; rest = r })) (rest_of ts)) (tokens_of ws) ≡ Some p) =
    both_some (λ k. option_and_then (λ ts. option_and_then (λ r. Some (record { kind = k; rest = r })) (rest_of ts)) (tokens_of ws)) (kind_of_word w) p h in
    let b : (ts : List Token) × (tokens_of ws ≡ Some ts) × (option_and_then (λ r. Some (record { kind = a.0; rest = r })) (rest_of ts) ≡ Some p) =
    both_some (λ ts. option_and_then (λ r. Some (record { kind = a.0; rest = r })) (rest_of ts)) (tokens_of ws) p a.2 in
    let c : (r : Rest) × (rest_of b.0 ≡ Some r) × (Some (record { kind = a.0; rest = r }) ≡ Some p) =
    both_some (λ r. Some (record { kind = a.0; rest = r })) (rest_of b.0) p b.2 in
    let words : All IsProper b.0 × (ws ≡ map token_text b.0) = tokens-are ws b.0 b.1 in
    let e : b.0 ≡ rest_tokens c.0 = rest-is b.0 c.0 c.1 in
    subst (λ (q : Parts). All IsProper (rest_tokens q.rest) × (w ∷ ws ≡ parts_words q)) (same_Some (record { kind = a.0; rest = c.0 }) p c.2)
    (subst (All IsProper) e words.0, λ i. kind-is w a.0 a.1 i ∷ (words.1 ∙ ap (map token_text) e) i)

pub parts-are : (line : List ℕ) (p : Parts) → parts_of line ≡ Some p → All IsProper (rest_tokens p.rest) × (line ≡ parts_text p)
parts-are line p h =
    let q : All IsProper (rest_tokens p.rest) × (slice_split (λ b. eqb b 32) line ≡ parts_words p) = from-is (slice_split (λ b. eqb b 32) line) p h in
    (q.0, sym (join_with_byte-slice_split 32 line) ∙ ap (join_with_byte 32) q.1)

pub parts-back : (p : Parts) → All IsProper (rest_tokens p.rest) → parts_of (parts_text p) ≡ Some p
parts-back p h =
    let ts : List Token = rest_tokens p.rest in
    let all : All (Without 32) (map token_text ts) = All-map (Without 32) token_text ts (All-weaker IsProper (λ t. Without 32 (token_text t)) token-spaceless ts h) in
    ap parts_from (split-joined 32 (kind_text p.kind) (map token_text ts) (All-cons (Without 32) (kind_text p.kind) (map token_text ts) (spaceless (kind_text p.kind) (kind-test p.kind)) all))
    ∙ (ap (option_and_then (λ k. option_and_then (λ us. option_and_then (λ r. Some (record { kind = k; rest = r })) (rest_of us)) (tokens_of (map token_text ts)))) (kind-back p.kind)
    ∙ (ap (option_and_then (λ us. option_and_then (λ r. Some (record { kind = p.kind; rest = r })) (rest_of us))) (tokens-back ts h)
    ∙ ap (option_and_then (λ r. Some (record { kind = p.kind; rest = r }))) (rest-back p.rest.numbers p.rest.lists)))
