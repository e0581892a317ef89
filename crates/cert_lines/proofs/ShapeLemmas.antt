-- The shape of a line tells which form it has.
use Rattle.std.proofs.Common.{◌≡◌, ◌+◌, ◌∷◌, [], ℕ, Bool, true, false, Option, Some, None, option_map, is_some, List, length, refl, ◌∙◌, ap, arith}
use Rattle.std.specs.Option.{option_and_then}
use Rattle.certificates.specs.declared.token.Token.{Token}
use Rattle.certificates.specs.declared.token.Token.TheVariants.{Number, Entry, Dash, Bar}
use Rattle.cert_lines.specs.declared.shape.Stage.{Stage}
use Rattle.cert_lines.specs.declared.shape.Stage.TheVariants as stage
use Rattle.certificates.specs.Tokens.{token_of, tokens_of}
use Rattle.certificates.specs.Parts.{Sparse, Rest, entries_of, last_of, left_of, lists_of, rest_of}
use Rattle.cert_lines.specs.Shapes.{stage_after, count_after, shape_at, shape_from}

-- the same over tokens
abbrev pub shape_in : Stage → ℕ → List Token → Option (ℕ × Bool)
shape_in s n [] = shape_at s n
shape_in s n (t ∷ ts) = option_and_then (λ u. shape_in u (count_after n t) ts) (stage_after s t)

onward : (n : ℕ) (o : Option Stage) (ws : List (List ℕ)) (us : Option (List Token)) (t : Token) → ((u : Stage) → shape_from u n ws ≡ option_and_then (shape_in u n) us)
    → option_and_then (λ u. shape_from u n ws) o ≡ option_and_then (λ ts. option_and_then (λ u. shape_in u n ts) o) us
onward n None ws None t h = refl
onward n None ws (Some ts) t h = refl
onward n (Some u) ws None t h = h u
onward n (Some u) ws (Some ts) t h = h u

taken : (s : Stage) (n : ℕ) (t : Token) (us : Option (List Token)) → option_and_then (λ ts. option_and_then (λ u. shape_in u (count_after n t) ts) (stage_after s t)) us ≡ option_and_then (shape_in s n) (option_and_then (λ ts. Some (t ∷ ts)) us)
taken s n t None = refl
taken s n t (Some ts) = refl

by_tokens : (s : Stage) (n : ℕ) (w : Option Token) (ws : List (List ℕ)) → ((u : Stage) (m : ℕ) → shape_from u m ws ≡ option_and_then (shape_in u m) (tokens_of ws))
    → option_and_then (λ t. option_and_then (λ u. shape_from u (count_after n t) ws) (stage_after s t)) w
    ≡ option_and_then (shape_in s n) (option_and_then (λ t. option_and_then (λ ts. Some (t ∷ ts)) (tokens_of ws)) w)
by_tokens s n None ws h = refl
by_tokens s n (Some t) ws h = onward (count_after n t) (stage_after s t) ws (tokens_of ws) t (λ u. h u (count_after n t)) ∙ taken s n t (tokens_of ws)

pub shape-tokens : (s : Stage) (n : ℕ) (ws : List (List ℕ)) → shape_from s n ws ≡ option_and_then (shape_in s n) (tokens_of ws)
shape-tokens s n [] = refl
shape-tokens s n (w ∷ ws) = by_tokens s n (token_of w) ws (λ u m. shape-tokens u m ws)

-- ---- stage by stage

abbrev known : {A : Type 0} → ℕ → Option A → Option (ℕ × Bool)
known n o = option_map (λ _. (n, true)) o

-- what is known stays so where an answer is changed and not refused
kept : {A B : Type 0} (n : ℕ) (f : A → B) (o : Option A) → known n o ≡ known n (option_and_then (λ x. Some (f x)) o)
kept n f None = refl
kept n f (Some x) = refl

at_right : (n : ℕ) (ts : List Token) → shape_in stage.Right n ts ≡ known n (entries_of ts)
at_right n [] = refl
at_right n (Entry p v ∷ ts) = at_right n ts ∙ kept n (λ es. (p, v) ∷ es) (entries_of ts)
at_right n (Number m ∷ ts) = refl
at_right n (Dash ∷ ts) = refl
at_right n (Bar ∷ ts) = refl

at_bar : (n : ℕ) (ts : List Token) → shape_in stage.Bar n ts ≡ known n (last_of ts)
at_bar n [] = refl
at_bar n (Dash ∷ []) = refl
at_bar n (Dash ∷ t ∷ ts) = refl
at_bar n (Entry p v ∷ ts) = at_right n ts ∙ kept n (λ es. (p, v) ∷ es) (entries_of ts)
at_bar n (Number m ∷ ts) = refl
at_bar n (Bar ∷ ts) = refl

at_left : (n : ℕ) (ts : List Token) → shape_in stage.Left n ts ≡ known n (left_of ts)
at_left n [] = refl
at_left n (Entry p v ∷ ts) = at_left n ts ∙ kept n (λ s. ((p, v) ∷ s.0, s.1)) (left_of ts)
at_left n (Bar ∷ ts) = at_bar n ts ∙ kept {B = Sparse × Sparse} n (λ r. ([], r)) (last_of ts)
at_left n (Number m ∷ ts) = refl
at_left n (Dash ∷ ts) = refl

at_lists : (n : ℕ) (t : Token) (ts : List Token) → ((m : ℕ) → t ≡ Number m → ⊥) → shape_in stage.Numbers n (t ∷ ts) ≡ known n (lists_of (t ∷ ts))
at_lists n Dash [] h = refl
at_lists n Dash (Bar ∷ ts) h = at_bar n ts ∙ kept {B = Sparse × Sparse} n (λ r. ([], r)) (last_of ts)
at_lists n Dash (Dash ∷ ts) h = refl
at_lists n Dash (Number m ∷ ts) h = refl
at_lists n Dash (Entry p v ∷ ts) h = refl
at_lists n (Entry p v) ts h = at_left n ts ∙ kept n (λ s. ((p, v) ∷ s.0, s.1)) (left_of ts)
at_lists n (Number m) ts h = absurd (h m refl)
at_lists n Bar ts h = refl

abbrev pub shape : ℕ → Rest → ℕ × Bool
shape n r = (n + length r.numbers, is_some r.lists)

with_lists : (n : ℕ) (o : Option (Sparse × Sparse)) → known n o ≡ option_map (shape n) (option_and_then (λ s. Some (record { numbers = []; lists = Some s })) o)
with_lists n None = refl
with_lists n (Some s) = ap (λ (m : ℕ). Some (m, true)) (let e : n ≡ n + 0 = omega arith in e)

one_more : (n m : ℕ) (o : Option Rest) → option_map (shape (n + 1)) o ≡ option_map (shape n) (option_and_then (λ r. Some (record { numbers = m ∷ r.numbers; lists = r.lists })) o)
one_more n m None = refl
one_more n m (Some r) = ap (λ (k : ℕ). Some (k, is_some r.lists)) (let e : n + 1 + length r.numbers ≡ n + length (m ∷ r.numbers) = omega arith in e)

pub at_numbers : (n : ℕ) (ts : List Token) → shape_in stage.Numbers n ts ≡ option_map (shape n) (rest_of ts)
at_numbers n [] = ap (λ (m : ℕ). Some (m, false)) (let e : n ≡ n + 0 = omega arith in e)
at_numbers n (Number m ∷ ts) = at_numbers (n + 1) ts ∙ one_more n m (rest_of ts)
at_numbers n (Entry p v ∷ ts) = at_lists n (Entry p v) ts (λ m e. cc) ∙ with_lists n (lists_of (Entry p v ∷ ts))
at_numbers n (Dash ∷ ts) = at_lists n Dash ts (λ m e. cc) ∙ with_lists n (lists_of (Dash ∷ ts))
at_numbers n (Bar ∷ ts) = at_lists n Bar ts (λ m e. cc) ∙ with_lists n (lists_of (Bar ∷ ts))
