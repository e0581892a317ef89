-- Members of lists: one word for membership. A is a type, x an element, xs a list.
--   In x xs      x is an element of xs
--   here         the first element is one
--   there h      an element of what follows is one
-- On numbers, `holds` of specs/Words is the test for it.
use Rattle.std.specs.Prelude.{List, ◌∷◌}

pub data In {A : Type 0} (x : A) : List A → Type 0 where
  here : {xs : List A} → In x (x ∷ xs)
  there : {y : A} {xs : List A} → In x xs → In x (y ∷ xs)
