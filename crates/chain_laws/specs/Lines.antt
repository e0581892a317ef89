-- The equations of a certificate of homology, line by line. F is the arithmetic of a field. `chains` are those of the degree
-- of the line, `below` those of one degree less (none below degree 0) and `next` those of one degree more. A side of a line is
-- a list of entries: the number of a chain, counted from 1, and an element that is not 0, by increasing numbers.
--   element_at entries number                       the element at a number, or 0
--   cochain_of count entries                        the cochain on so many chains with these entries
--   AreEntries F count entries                      the entries have numbers from 1 to the count, and elements that are not 0
--   all_zero xs                                     each element is 0
--   value_on F cochain entries                      the value of a cochain on a chain with coefficients
--   rank_holds F chains next before left right      a rank line, where `before` are the right sides of the lines before
--   cocycle_holds F chains next left                a class line: its left side is a cocycle
--   cycle_holds F below chains right                a class line: its right side is a cycle
--   pairing_holds F chains rights place left        a class line at a place from 0 on: 1 on its own right side, 0 on the others
--   class_holds F below chains lefts coefficients bound x
--                                                   the cochain x is a combination of the left sides plus the coboundary of the bound
--   product_holds F i chains_i a chains_j b below chains lefts coefficients bound
--                                                   a product line: of a and b, of degrees i and j, in the left sides of degree i + j
--   count_holds chains rank_last rank_next classes  a degree: how many rank lines and class lines it has
--   chains_below space degree                       the chains of one degree less
--   cochain_in space degree entries                 the cochain of a degree with these entries
use Rattle.std.specs.Prelude.{ℕ, zero, suc, ◌+◌, ◌<◌, ◌≤◌, ◌==◌, ◌&&◌, List, [], ◌∷◌, Bool, not, cond, map, length, All}
use Rattle.std.specs.List.{list_all}
use Rattle.std.specs.Str.{bytes_eq}
use Rattle.face_poset.specs.Poset.{Layers}
use Rattle.small_field.specs.Field.{Ops}
use Rattle.small_field.specs.Sparse.{IsSparse}
use Rattle.linear_laws.specs.Marks.{mark}
use Rattle.linear_laws.specs.Vectors.{combination, plus_scaled}
use Rattle.face_poset.specs.Words.{upto}
use Rattle.order_complex.specs.Chains.{chains_of}
use Rattle.order_complex.specs.Cochains.{coboundary_on, boundary_on, evaluation}
use Rattle.order_complex.specs.Cup.{cup_at}

-- ---- entries

-- the element at a number, or 0 where no entry has the number
abbrev pub element_at : (entries : List (ℕ × ℕ)) → (number : ℕ) → ℕ
element_at [] number = 0
element_at (e ∷ entries) number = cond (e.0 == number) e.1 (element_at entries number)

-- the cochain on so many chains, or the chain with so many coefficients, that has these entries
abbrev pub cochain_of : (count : ℕ) → List (ℕ × ℕ) → List ℕ
cochain_of count entries = map (element_at entries) (upto count)

-- entries with numbers from 1 to `count` and elements that are not 0
pub record AreEntries (F : Ops) (count : ℕ) (entries : List (ℕ × ℕ)) : Type 0 where
  pub sparse : IsSparse entries
  pub numbers : All (λ e. (1 ≤ e.0) × (e.0 ≤ count)) entries
  pub elements : All (λ e. e.1 < F.size) entries

-- ---- what a line says

abbrev pub all_zero : List ℕ → Bool
all_zero xs = list_all (λ x. x == 0) xs

-- the value of a cochain on a chain with coefficients that has these entries
abbrev pub value_on : Ops → (cochain : List ℕ) → List (ℕ × ℕ) → ℕ
value_on F xs entries = evaluation F xs (cochain_of (length xs) entries)

-- a rank line: the coboundary of its left side is not zero on its right side, and is zero on the right side of each line before
abbrev pub rank_holds : Ops → (chains next : List (List ℕ)) → (before : List (List (ℕ × ℕ))) → (left right : List (ℕ × ℕ)) → Bool
rank_holds F chains next before left right =
    let d : List ℕ = coboundary_on F chains next (cochain_of (length chains) left) in
    not (value_on F d right == 0) && list_all (λ earlier. value_on F d earlier == 0) before

-- a class line: the coboundary of its left side is zero
abbrev pub cocycle_holds : Ops → (chains next : List (List ℕ)) → (left : List (ℕ × ℕ)) → Bool
cocycle_holds F chains next left = all_zero (coboundary_on F chains next (cochain_of (length chains) left))

-- a class line: the boundary of its right side is zero
abbrev pub cycle_holds : Ops → (below chains : List (List ℕ)) → (right : List (ℕ × ℕ)) → Bool
cycle_holds F below chains right = all_zero (boundary_on F below chains (cochain_of (length chains) right))

-- a class line at a place, counted from 0, among those of its degree: its left side is 1 on the right side of its own line
-- and 0 on that of each other line
abbrev pub pairing_holds : Ops → (chains : List (List ℕ)) → (rights : List (List (ℕ × ℕ))) → (place : ℕ) → (left : List (ℕ × ℕ)) → Bool
pairing_holds F chains rights place left = bytes_eq (map (value_on F (cochain_of (length chains) left)) rights) (mark (length rights) place)

-- on all chains, the cochain x is the combination of the left sides of its degree plus the coboundary of the bounding cochain
abbrev pub class_holds : Ops → (below chains : List (List ℕ)) → (lefts : List (List (ℕ × ℕ))) → (coefficients bound : List (ℕ × ℕ)) → (x : List ℕ) → Bool
class_holds F below chains lefts coefficients bound x =
    let n : ℕ = length chains in
    let classes : List ℕ = combination F n (cochain_of (length lefts) coefficients) (map (cochain_of n) lefts) in
    bytes_eq x (plus_scaled F 1 (coboundary_on F below chains (cochain_of (length below) bound)) classes)

-- a product line: on all chains, the product of the left sides a and b, of degrees i and j, is the combination of the left
-- sides of degree i + j plus the coboundary of the bounding cochain
abbrev pub product_holds : Ops → (i : ℕ) → (chains_i : List (List ℕ)) → (a : List (ℕ × ℕ)) → (chains_j : List (List ℕ)) → (b : List (ℕ × ℕ))
    → (below chains : List (List ℕ)) → (lefts : List (List (ℕ × ℕ))) → (coefficients bound : List (ℕ × ℕ)) → Bool
product_holds F i chains_i a chains_j b below chains lefts coefficients bound =
    class_holds F below chains lefts coefficients bound (map (cup_at F i chains_i (cochain_of (length chains_i) a) chains_j (cochain_of (length chains_j) b)) chains)

-- a degree: its chains are as many as the rank lines of the degree, those of one degree less and the class lines of the degree
abbrev pub count_holds : (chains : List (List ℕ)) → (rank_last rank_next classes : ℕ) → Bool
count_holds chains rank_last rank_next classes = length chains == rank_last + rank_next + classes

-- ---- over a space

-- the chains of one degree less
abbrev pub chains_below : Layers → (degree : ℕ) → List (List ℕ)
chains_below space zero = []
chains_below space (suc degree) = chains_of space degree

-- the cochain of a degree with these entries
abbrev pub cochain_in : Layers → (degree : ℕ) → List (ℕ × ℕ) → List ℕ
cochain_in space degree entries = cochain_of (length (chains_of space degree)) entries
