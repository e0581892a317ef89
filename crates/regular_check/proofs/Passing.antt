-- Loops that end at the first element that fails a test.
use Rattle.std.proofs.Common.{◌≡◌, ℕ, ◌+◌, ◌<◌, ◌≤◌, List, Bool, true, false, length, take, get_or, ap, sym, ◌∙◌}
use Rattle.std.specs.List.{list_all}
use Rattle.std.proofs.lemmas.Bool.{false≢true, and_from}
use Rattle.std.proofs.lemmas.List.{take_all}
use Rattle.std.proofs.lemmas.List.Folds.{list_all_more}
use Rattle.number_lists.proofs.CallerLemmas.{at-In, all-In}

pub pass_more : (p : ℕ → Bool) (xs : List ℕ) (i : ℕ) → i < length xs → list_all p (take i xs) ≡ true → p (get_or xs i 0) ≡ true → list_all p (take (i + 1) xs) ≡ true
pass_more p xs i l h e = list_all_more p xs i 0 l ∙ and_from (list_all p (take i xs)) (p (get_or xs i 0)) h e

pub pass_all : (p : ℕ → Bool) (xs : List ℕ) (i : ℕ) → length xs ≤ i → list_all p (take i xs) ≡ true → list_all p xs ≡ true
pass_all p xs i l h = ap (list_all p) (sym (take_all i xs l)) ∙ h

pub fails_at : (p : ℕ → Bool) (xs : List ℕ) (i : ℕ) → i < length xs → p (get_or xs i 0) ≡ false → list_all p xs ≡ true → ⊥
fails_at p xs i l e h = false≢true (sym e ∙ all-In p h (at-In xs i 0 l))
