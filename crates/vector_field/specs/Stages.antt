-- How a maximal field is found, dimension by dimension from above. space is the lists of a graded set, pairs a list of pairs.
--   IsAbove space dim field                 a field on the graded set with pairs of this dimension and above it alone
--   Keeps old new                           all pairs stay
--   AreSettled space pairs dim first        each of the first cells, so many, is in a pair, or all its cofaces are settled
-- Pairs are added that no gradient path forbids:
--   led space pairs dim last                the cells from which the pairs lead to `last`: it and lowers
--   first_open space pairs dim lower        the first coface of a cell that is not settled, if there is one
--   put_open space dim pairs lower open     the pairs with one of the lower and the open coface, if there is one: before those pairs of the
--                                           dimension whose lowers lead to its lower, and after all others
--   filled_at space dim pairs lower         so with the first open coface of a cell, if the cell is in no pair
--   filled_upto space dim pairs first       so for the first cells, so many, by number
--   filled space dim pairs                  so for all cells of a dimension
-- While free faces are paired:
--   Left                                    for each cell whether it is left, and how many facets there are
--   is_left cells cell                      whether the cell is left
--   IsOnly cells among cell                 of these cells this one alone is left
use Rattle.std.specs.Prelude.{◌≡◌, ℕ, zero, suc, ◌-◌, ◌≤◌, ◌||◌, List, ◌∷◌, filter, not, slice_index_or, Bool, true, false, if◌then◌else◌, Option, Some, None}
use Rattle.std.specs.List.{find, list_all}
use Rattle.number_lists.specs.Members.{In}
use Rattle.face_poset.specs.declared.cells.Pair.{Pair}
use Rattle.number_lists.specs.Words.{holds}
use Rattle.face_poset.specs.Poset.{Layers, count, cofaces_of}
use Rattle.vector_field.specs.Pairs.{pair, Field, counts_of, is_used, IsValid}
use Rattle.vector_field.specs.Pairings.{inserted}
use Rattle.vector_field.specs.Paths.{lowers_of, leads_to}
use Rattle.vector_field.specs.Maximal.{is_settled}

pub record IsAbove (space : Layers) (dim : ℕ) (field : Field) : Type 0 where
  pub counts : field.counts ≡ counts_of space
  pub valid : IsValid space field.pairs
  pub above : (p : Pair) → In p field.pairs → dim ≤ p.dim

abbrev pub Keeps : (old new : List Pair) → Type 0
Keeps old new = (p : Pair) → In p old → In p new

abbrev pub AreSettled : Layers → List Pair → (dim first : ℕ) → Type 0
AreSettled space pairs dim first = (lower : ℕ) → 1 ≤ lower → lower ≤ first → (is_used pairs dim lower || list_all (is_settled space pairs dim lower) (cofaces_of space dim lower)) ≡ true

abbrev pub led : Layers → List Pair → (dim last : ℕ) → List ℕ
led space pairs dim last = filter (leads_to space pairs dim last) (last ∷ lowers_of pairs dim)

abbrev pub first_open : Layers → List Pair → (dim lower : ℕ) → Option ℕ
first_open space pairs dim lower = find (λ upper. not (is_settled space pairs dim lower upper)) (cofaces_of space dim lower)

abbrev pub put_open : Layers → (dim : ℕ) → List Pair → (lower : ℕ) → Option ℕ → List Pair
put_open space dim pairs lower None = pairs
put_open space dim pairs lower (Some upper) = inserted pairs (pair dim lower upper) (led space pairs dim lower)

abbrev pub filled_at : Layers → (dim : ℕ) → List Pair → (lower : ℕ) → List Pair
filled_at space dim pairs lower = if is_used pairs dim lower then pairs else put_open space dim pairs lower (first_open space pairs dim lower)

abbrev pub filled_upto : Layers → (dim : ℕ) → List Pair → (first : ℕ) → List Pair
filled_upto space dim pairs zero = pairs
filled_upto space dim pairs (suc first) = filled_at space dim (filled_upto space dim pairs first) (suc first)

abbrev pub filled : Layers → (dim : ℕ) → List Pair → List Pair
filled space dim pairs = filled_upto space dim pairs (count space dim)

pub record Left : Type 0 where
  pub cells : List Bool
  pub most : ℕ

abbrev pub is_left : List Bool → (cell : ℕ) → Bool
is_left cells cell = slice_index_or cells (cell - 1) false

pub record IsOnly (cells : List Bool) (among : List ℕ) (cell : ℕ) : Type 0 where
  pub member : holds among cell ≡ true
  pub left : is_left cells cell ≡ true
  pub only : (c : ℕ) → holds among c ≡ true → is_left cells c ≡ true → c ≡ cell
