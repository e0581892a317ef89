use Rattle.std.proofs.Common.{◌≡◌, ◌<◌, ℕ, List, Contains, length, get_or, subst}
use Rattle.std.proofs.lemmas.List.{get_or_default}
use Rattle.tests_covers.proofs.signs.signs.Goals as goal

-- an element of a list is in it
element : (xs ys : List ℕ) (i : ℕ) → xs ≡ ys → i < length xs → Contains ys (get_or xs i 0)
element xs ys i e l = subst (λ zs. Contains zs (get_or xs i 0)) e (i, l, get_or_default xs i _ 0 l)

pub sign-requires-clause-facet : goal.sign-requires-clause-facet
sign-requires-clause-facet c = element _ _ c.loop-facet.facet-index c.facets-list.ensures.facets c.loop-facet-test.true
