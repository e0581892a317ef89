-- Counting the cells above a facet while cells are taken away. F gives the facets of each cell, f is a facet, rest the cells that are left;
-- all cells are numbers.
--   with_facet F rest f    those that have the facet
--   left_out b rest        the cells but for b
--   CountFalls             the law: without b, a facet of b has one cell less that has it, any other facet as many as before
use Rattle.std.specs.Prelude.{◌≡◌, ℕ, ◌+◌, List, length, true, if◌then◌else◌, not, ◌==◌, filter}
use Rattle.number_lists.specs.Members.{In}
use Rattle.number_lists.specs.Words.{holds}
use Rattle.pair_laws.specs.Tree.{distinct}

abbrev pub with_facet : (F : ℕ → List ℕ) → (rest : List ℕ) → (f : ℕ) → List ℕ
with_facet F rest f = filter (λ b. holds (F b) f) rest

abbrev pub left_out : (b : ℕ) → (rest : List ℕ) → List ℕ
left_out b rest = filter (λ c. not (c == b)) rest

abbrev pub CountFalls : Type 0
CountFalls =
    (F : ℕ → List ℕ) (f b : ℕ) (rest : List ℕ)
    → distinct rest ≡ true
    → In b rest
    → length (with_facet F (left_out b rest) f) + (if holds (F b) f then 1 else 0) ≡ length (with_facet F rest f)
