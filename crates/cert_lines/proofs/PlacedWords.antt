-- The words behind the first of a line with a spot or a table.
use Rattle.std.proofs.Common.{◌≡◌, ◌≤◌, ◌∷◌, [], ℕ, false, eqb, List, length, arith, refl}
use Rattle.std.specs.List.{slice_split}
use Rattle.std.proofs.lemmas.List.Splits.{length-slice_split}
use Rattle.certificates.specs.Tokens.{words_of}
use Rattle.cert_lines.specs.Kinds.{spent_stands, cover_stands, sheets_stands}

spent_long : (v : ℕ) (w : List ℕ) (ws : List (List ℕ)) → 1 ≤ length ws → false ≡ spent_stands v (w ∷ ws)
spent_long v w [] l = absurd (omega arith)
spent_long v w (x ∷ ws) l = refl

pub spent-more : (v : ℕ) (w text : List ℕ) → false ≡ spent_stands v (w ∷ words_of text)
spent-more v w text = spent_long v w (slice_split (λ b. eqb b 32) text) (omega (arith, length-slice_split (λ b. eqb b 32) text))

cover_long : (n t : List ℕ) (ws : List (List ℕ)) → 1 ≤ length ws → false ≡ cover_stands (n ∷ t ∷ ws)
cover_long n t [] l = absurd (omega arith)
cover_long n t (x ∷ ws) l = refl

pub cover-more : (n t text : List ℕ) → false ≡ cover_stands (n ∷ t ∷ words_of text)
cover-more n t text = cover_long n t (slice_split (λ b. eqb b 32) text) (omega (arith, length-slice_split (λ b. eqb b 32) text))

sheets_long : (v : ℕ) (n f s : List ℕ) (ws : List (List ℕ)) → 1 ≤ length ws → false ≡ sheets_stands v (n ∷ f ∷ s ∷ ws)
sheets_long v n f s [] l = absurd (omega arith)
sheets_long v n f s (x ∷ ws) l = refl

pub sheets-more : (v : ℕ) (n f s text : List ℕ) → false ≡ sheets_stands v (n ∷ f ∷ s ∷ words_of text)
sheets-more v n f s text = sheets_long v n f s (slice_split (λ b. eqb b 32) text) (omega (arith, length-slice_split (λ b. eqb b 32) text))
