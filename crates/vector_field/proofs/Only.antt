-- The one of some cells that is left.
use Rattle.std.proofs.Common.{◌≡◌, ℕ, List, Bool, true, false, Option, MatchOption}
use Rattle.number_lists.specs.Words.{holds}
use Rattle.vector_field.specs.Stages.{is_left, IsOnly}

-- none of these cells is left, or one alone
abbrev pub OnlySoFar : List Bool → List ℕ → Option ℕ → Type 0
OnlySoFar cells among only = MatchOption only ((c : ℕ) → holds among c ≡ true → is_left cells c ≡ false) (IsOnly cells among)
