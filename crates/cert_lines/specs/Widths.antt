-- The widths of the rows of a table, by the pieces of its text.
--   width_of entries        how many numbers these words are, if each is one
--   are_wide width rows     each row has this width
use Rattle.std.specs.Prelude.{ℕ, ◌+◌, ◌==◌, List, [], ◌∷◌, Bool, true, false, ◌&&◌, Option, Some, None, option_and_then}
use Rattle.std.specs.List.{slice_split}
use Rattle.certificates.specs.Numbers.{number_of}

abbrev pub width_of : List (List ℕ) → Option ℕ
width_of [] = Some 0
width_of (w ∷ ws) = option_and_then (λ n. option_and_then (λ m. Some (m + 1)) (width_of ws)) (number_of w)

abbrev pub has_width : (width : ℕ) → Option ℕ → Bool
has_width width None = false
has_width width (Some other) = other == width

abbrev pub are_wide : (width : ℕ) → (rows : List (List ℕ)) → Bool
are_wide width [] = true
are_wide width (row ∷ rows) = has_width width (width_of (slice_split (λ b. b == 44) row)) && are_wide width rows
