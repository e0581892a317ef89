-- Permutations of the numbers from 1 to m, as the lists of their values. f is a list of numbers, s a number, counted from 1.
--   InRange m s            s is one of the numbers from 1 to m
--   is_permutation m f     f has m numbers from 1 to m, no two of them equal
--   at f s                 the value at s
--   back f s               the place of s, counted from 1
--   values m g             the values of the function g at 1 to m
--   lists m n              all lists of n numbers from 1 to m, in order
use Rattle.std.specs.Prelude.{ℕ, zero, suc, ◌-◌, ◌≤◌, List, [], ◌∷◌, map, length, Bool, ◌&&◌, ◌==◌, nat_le, if◌then◌else◌, slice_index}
use Rattle.std.specs.List.{list_all, flat_map}
use Rattle.number_lists.specs.Words.{upto}
use Rattle.pair_laws.specs.Tree.{distinct}

abbrev pub InRange : (m s : ℕ) → Type 0
InRange m s = (1 ≤ s) × (s ≤ m)

abbrev pub is_permutation : (m : ℕ) → List ℕ → Bool
is_permutation m f = (length f == m) && (list_all (λ s. nat_le 1 s && nat_le s m) f && distinct f)

abbrev pub at : List ℕ → (s : ℕ) → ℕ
at f s = slice_index f (s - 1)

abbrev pub back : List ℕ → (s : ℕ) → ℕ
back [] s = 0
back (t ∷ f) s = if t == s then 1 else suc (back f s)

abbrev pub values : (m : ℕ) → (ℕ → ℕ) → List ℕ
values m g = map g (upto m)

abbrev pub lists : (m n : ℕ) → List (List ℕ)
lists m zero = [] ∷ []
lists m (suc n) = flat_map (λ x. map (λ r. x ∷ r) (lists m n)) (upto m)
