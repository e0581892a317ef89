-- Values: numbers and lists of values, each with the place of its first byte in the text, counted from 0.
--   Value          number place n, or list place vs
--   Values         the values of a list: none, or more v vs
--   items vs       the values as a list
--   values vs      a list as values
--   depth v        how many lists are nested in one another: 0 for a number, 1 for a list of numbers
--   deepest vs     the greatest depth among the values
--   levels vs      the same of a list of values
use Rattle.std.specs.Prelude.{ℕ, ◌+◌, max, List, [], ◌∷◌}

mutual
  pub data Value : Type 0 where
    number : (place value : ℕ) → Value
    list : (place : ℕ) → Values → Value

  pub data Values : Type 0 where
    none : Values
    more : Value → Values → Values

abbrev pub items : Values → List Value
items none = []
items (more v vs) = v ∷ items vs

abbrev pub values : List Value → Values
values [] = none
values (v ∷ vs) = more v (values vs)

abbrev mutual
  pub depth : Value → ℕ
  depth (number place value) = 0
  depth (list place vs) = 1 + deepest vs

  pub deepest : Values → ℕ
  deepest none = 0
  deepest (more v vs) = max (depth v) (deepest vs)

abbrev pub levels : List Value → ℕ
levels vs = deepest (values vs)
