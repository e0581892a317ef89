-- The text of a spot is ASCII.
use Rattle.std.proofs.Common.{◌≡◌, ◌≤◌, ◌<◌, ◌+◌, ◌++◌, ◌∷◌, [], ℕ, Bool, true, false, cond, eqb, Option, Some, None, List, refl, sym, ◌∙◌, ap, arith, subst, All, decimal, bytes_eq}
use Rattle.std.specs.Option.{option_and_then}
use Rattle.std.specs.Str.{IsAscii, IsUtf8}
use Rattle.std.proofs.lemmas.List.Elements.{All-nil, All-cons, All-head, All-tail}
use Rattle.std.proofs.lemmas.Str.{IsUtf8-from_ascii, IsAscii-append}
use Rattle.std.proofs.lemmas.Str.Ascii.{IsAscii-nil, IsAscii-from_all}
use Rattle.std.proofs.lemmas.Fmt.{IsAscii-decimal}
use Rattle.sheet_tables.specs.Positions.{IsProper, cells_text, position_text}
use Rattle.sheet_tables.specs.Spots.{spot_text, spot_from}
use Rattle.sheet_tables.proofs.CallerLemmas.{spot-is}
use Rattle.certificates.specs.Placed.{spot_or_start_of}

put_first : (b : ℕ) (bs : List ℕ) → b < 128 → IsAscii bs → IsAscii (b ∷ bs)
put_first b bs l h = IsAscii-append (b ∷ []) bs (IsAscii-from_all (b ∷ []) (All-cons (λ c. c < 128) b [] l (All-nil (λ c. c < 128)))) h

digit : (c : ℕ) → c ≤ 8 → 48 + c < 128
digit c l = omega (arith, l)

cells-ascii : (cells : List ℕ) → All (λ c. (1 ≤ c) × (c ≤ 8)) cells → IsAscii (cells_text cells)
cells-ascii [] h = IsAscii-nil
cells-ascii (c ∷ []) h = put_first (48 + c) [] (digit c (All-head (λ c. (1 ≤ c) × (c ≤ 8)) c [] h).1) IsAscii-nil
cells-ascii (c ∷ d ∷ cells) h =
    put_first (48 + c) (44 ∷ cells_text (d ∷ cells)) (digit c (All-head (λ c. (1 ≤ c) × (c ≤ 8)) c (d ∷ cells) h).1)
    (put_first 44 (cells_text (d ∷ cells)) (omega arith) (cells-ascii (d ∷ cells) (All-tail (λ c. (1 ≤ c) × (c ≤ 8)) c (d ∷ cells) h)))

position-ascii : (sheets : ℕ) (cells : List ℕ) → IsProper sheets cells → IsAscii (position_text sheets cells)
position-ascii sheets cells h =
    put_first (48 + sheets) (58 ∷ cells_text cells) (digit sheets h.most_sheets) (put_first 58 (cells_text cells) (omega arith) (cells-ascii cells h.within))

spot-ascii : (component sheets : ℕ) (cells : List ℕ) → component ≤ 60000 → IsProper sheets cells → IsAscii (spot_text component sheets cells)
spot-ascii component sheets cells l h = at (eqb component 1)
  where
    at : (t : Bool) → IsAscii (cond t (position_text sheets cells) (decimal component ++ 47 ∷ position_text sheets cells))
    at true = position-ascii sheets cells h
    at false =
        IsAscii-append (decimal component) (47 ∷ position_text sheets cells) (IsAscii-decimal component (omega (arith, l)))
        (put_first 47 (position_text sheets cells) (omega arith) (position-ascii sheets cells h))

spot-utf8 : (text : List ℕ) (s : ℕ × ℕ × List ℕ) → spot_from text ≡ Some s → IsUtf8 text
spot-utf8 text s h =
    let p = spot-is text s.0 s.1 s.2 h in
    IsUtf8-from_ascii text (subst IsAscii (sym p.3) (spot-ascii s.0 s.1 s.2 p.1 p.2))

no_spot : (text : List ℕ) → (IsUtf8 text → ⊥) → spot_from text ≡ None
no_spot text h = at (spot_from text) refl
  where
    at : (o : Option (ℕ × ℕ × List ℕ)) → spot_from text ≡ o → o ≡ None
    at None e = refl
    at (Some s) e = absurd (h (spot-utf8 text s e))

abbrev undashed : List ℕ → Option (Option (ℕ × ℕ × List ℕ))
undashed w = option_and_then (λ s. Some (Some s)) (spot_from w)

spot-undashed : (w : List ℕ) → bytes_eq w (45 ∷ []) ≡ false → option_and_then (λ s. Some (Some s)) (spot_from w) ≡ spot_or_start_of w
spot-undashed w e = sym (ap (λ (t : Bool). cond t (Some None) (undashed w)) e)

pub spot-none : (w : List ℕ) → bytes_eq w (45 ∷ []) ≡ false → (IsUtf8 w → ⊥) → None ≡ spot_or_start_of w
spot-none w e h = sym (ap (option_and_then (λ s. Some (Some s))) (no_spot w h)) ∙ spot-undashed w e
