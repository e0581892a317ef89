-- Walks by words through the first cells of a table, as far as these are there. cells are cells of m sheets and c columns row by row, w is a
-- word: a letter g leads along column g, a letter -g back along it; s and t are sheets. Sheets and columns are counted from 1.
--   entry c cells s g               the cell in row s and column g, if it is there
--   is_entry c cells s g t          whether it is there and is t
--   led c m cells g s               where a letter leads from s: -g to the first row whose entry in column g is s
--   trace c m cells w s             where the word leads from s, if each of its cells is there
--   never_fails c m cells w         whether it leads from each sheet back to it, as far as its cells are there
--   generator g                     the number of the generator of a letter
--   mentions g w                    whether the word has a letter of this generator
--   AreLetters c w                  the letters of the word are those of the generators 1 to c
--   move c m cells g x              where a letter leads from x in a whole table
-- Laws:
--   WalksStay                       a walk whose cells are there leads to the same sheet when more cells come
--   FullWalksFollow                 in a table of permutations the cells of each walk are there, and it leads where `follow` does
use Rattle.std.specs.Prelude.{◌≡◌, ℕ, suc, ◌+◌, ◌-◌, ◌*◌, ℤ, pos, negsuc, List, [], ◌∷◌, ◌++◌, Bool, true, false, ◌==◌, Option, Some, None, find, slice_get}
use Rattle.std.specs.List.{list_all, list_any, AllByRecursion}
use Rattle.pair_laws.specs.Letters.{follow}
use Rattle.sheet_laws.specs.Permutations.{InRange, at, back}
use Rattle.sheet_laws.specs.Tables.{column, is_table}
use Rattle.live_laws.specs.Trees.{from}

abbrev pub entry : (c : ℕ) → List ℕ → (s g : ℕ) → Option ℕ
entry c cells s g = slice_get cells (c * (s - 1) + (g - 1))

abbrev pub is_entry : (c : ℕ) → List ℕ → (s g t : ℕ) → Bool
is_entry c cells s g t = elim (entry c cells s g) [ None ↦ false | Some u ↦ u == t ]

abbrev pub led : (c m : ℕ) → List ℕ → ℤ → (s : ℕ) → Option ℕ
led c m cells (pos g) s = entry c cells s g
led c m cells (negsuc g) s = find (λ t. is_entry c cells t (suc g) s) (from 1 m)

abbrev pub trace : (c m : ℕ) → List ℕ → List ℤ → (s : ℕ) → Option ℕ
trace c m cells [] s = Some s
trace c m cells (g ∷ w) s = elim (led c m cells g s) [ None ↦ None | Some t ↦ trace c m cells w t ]

abbrev pub never_fails : (c m : ℕ) → List ℕ → List ℤ → Bool
never_fails c m cells w = list_all (λ s. elim (trace c m cells w s) [ None ↦ true | Some t ↦ t == s ]) (from 1 m)

abbrev pub generator : ℤ → ℕ
generator (pos g) = g
generator (negsuc g) = suc g

abbrev pub mentions : (g : ℕ) → List ℤ → Bool
mentions g w = list_any (λ x. generator x == g) w

abbrev pub AreLetters : (c : ℕ) → List ℤ → Type 0
AreLetters c w = AllByRecursion (λ x. InRange c (generator x)) w

abbrev pub move : (c m : ℕ) → List ℕ → ℤ → (x : ℕ) → ℕ
move c m cells (pos g) x = at (column c m cells g) x
move c m cells (negsuc g) x = back (column c m cells (suc g)) x

abbrev pub WalksStay : Type 0
WalksStay =
    (c m : ℕ) (p z : List ℕ) (w : List ℤ) (s t : ℕ)
    → trace c m p w s ≡ Some t
    → trace c m (p ++ z) w s ≡ Some t

abbrev pub FullWalksFollow : Type 0
FullWalksFollow =
    (c m : ℕ) (cells : List ℕ) (w : List ℤ) (s : ℕ)
    → is_table c m cells ≡ true
    → AreLetters c w
    → InRange m s
    → trace c m cells w s ≡ Some (follow (move c m cells) w s)
