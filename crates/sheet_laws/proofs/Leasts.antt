-- All lists of numbers from 1 to m, and the test for least tables.
use Rattle.std.proofs.Common.{◌≡◌, ℕ, zero, suc, List, [], ◌∷◌, map, length, arith, true}
use Rattle.std.specs.Prelude.{not}
use Rattle.std.proofs.lemmas.Bool.{not-true, not_from_false}
use Rattle.number_lists.specs.Members.{In, here, there}
use Rattle.number_lists.proofs.CallerLemmas.{In-all, all-In, In-filter, filter-In, In-upto, In-map, In-flat_map}
use Rattle.sheet_laws.specs.Permutations.{InRange, is_permutation, lists}
use Rattle.sheet_laws.specs.Tables.{precedes, renumbered, renumberings, LeastIsExact}
use Rattle.sheet_laws.proofs.Permutations.{parts-of}

-- each list of n numbers from 1 to m is among them
pub In-lists : (m n : ℕ) (xs : List ℕ) → length xs ≡ n → ((x : ℕ) → In x xs → InRange m x) → In xs (lists m n)
In-lists m zero [] l r = here
In-lists m zero (x ∷ xs) l r = absurd (omega (arith, l))
In-lists m (suc n) [] l r = absurd (omega (arith, l))
In-lists m (suc n) (x ∷ xs) l r =
    In-flat_map (λ x. map (λ r. x ∷ r) (lists m n)) (In-upto m x (r x here).0 (r x here).1) (In-map (λ r. x ∷ r) (In-lists m n xs (omega (arith, l)) (λ y i. r y (there i))))

pub In-renumberings : (m : ℕ) (f : List ℕ) → is_permutation m f ≡ true → In f (renumberings m)
In-renumberings m f e = let h = parts-of m f e in In-filter (is_permutation m) (In-lists m m f h.long h.ranged) e

pub least_is_exact : LeastIsExact
least_is_exact c m cells = (
  λ e f p. not-true (precedes (renumbered c m f cells) cells) (all-In (λ f. not (precedes (renumbered c m f cells) cells)) e (In-renumberings m f p)),
  λ h. In-all (λ f. not (precedes (renumbered c m f cells) cells)) (renumberings m) (λ f i. not_from_false (precedes (renumbered c m f cells) cells) (h f (filter-In (is_permutation m) (lists m m) i))),
)
