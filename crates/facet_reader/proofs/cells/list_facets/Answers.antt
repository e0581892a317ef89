use Rattle.std.proofs.Common.{◌≡◌, ◌+◌, ◌*◌, ◌^◌, ◌++◌, ℕ, List, length, map, ap, ◌∙◌, subst, arith, Contains}
use Rattle.number_lists.specs.Members.{here}
use Rattle.number_lists.proofs.CallerLemmas.{In-Contains}
use Rattle.facet_reader.specs.SetSpaces.{leave_one}
use Rattle.facet_reader.specs.Simplices.{number_in}
use Rattle.facet_reader.specs.Places.{place_of, members}
use Rattle.facet_reader.proofs.Powers.{power-most}
use Rattle.facet_reader.proofs.FacetNumbers.{facets-sorted}
use Rattle.facet_reader.proofs.cells.list_facets.Goals as goal

none_before : (w p : ℕ) → p ≡ 0 * w + p
none_before w p = grind arith

pub push_facets-requires-clause-fits : goal.push_facets-requires-clause-fits
push_facets-requires-clause-fits c = c.requires.held.fit c.args.place here

pub push_facets-requires-clause-room : goal.push_facets-requires-clause-room
push_facets-requires-clause-room c = power-most c.args.size c.requires.high

pub push_facets-requires-clause-held : goal.push_facets-requires-clause-held
push_facets-requires-clause-held c =
    λ u i. subst (Contains c.args.below.now) (none_before (65536 ^ length u) (place_of u)) (In-Contains (c.requires.held.held c.args.place here u i))

pub returns : goal.returns
returns c =
    let f : List ℕ → ℕ = λ u. number_in c.args.below.now (0 * 65536 ^ length u + place_of u) in
    facets-sorted c.args.size c.args.place c.args.below.now (omega (arith, c.requires.low)) c.requires.rises c.requires.held c.push_facets.new.facets.items c.sort_once.new.numbers.items
    (c.in_ok-push_facets.ensures ∙ ap (λ (xs : List ℕ). xs ++ map f (leave_one (members c.args.size c.args.place))) c.clear.ensures.items)
    c.sort_once.ensures.rises c.sort_once.ensures.keeps c.sort_once.ensures.adds_none
