use Rattle.std.proofs.Common.{◌≡◌, ◌+◌, ◌-◌, ℕ, List, [], ◌∷◌, ◌++◌, map, take, get_or, ap, sym, ◌∙◌}
use Rattle.std.proofs.lemmas.List.{take_more, map-append}
use Rattle.number_lists.specs.Found.{inserted, inserted_all}
use Rattle.regular_check.specs.Tally.{other, tally_at}
use Rattle.number_lists.proofs.CallerLemmas.{inserted_all-push}
use Rattle.regular_check.proofs.search.find_across.Goals as goal

pub loop-facet-preserved : goal.loop-facet-preserved
loop-facet-preserved c =
    let facets : List ℕ = c.args.facets.now in
    let i : ℕ = c.loop-facet.facet-index in
    let f : ℕ → ℕ = other c.args.tallies.now c.args.cell in
    let before : List ℕ = c.args.found.now.found in
    let more : map f (take (i + 1) facets) ≡ map f (take i facets) ++ f (get_or facets i 0) ∷ [] = ap (map f) (take_more facets i 0 c.loop-facet-test.true) ∙ map-append f (take i facets) (get_or facets i 0 ∷ []) in (
      c.insert.ensures.most ∙ c.loop-facet.invariant.0,
      c.in_ok-insert.ensures.found
          ∙ (ap (λ (ns : List ℕ). inserted ns ((tally_at c.args.tallies.now (get_or facets i 0 - 1)).sum - c.from.result)) c.loop-facet.invariant.1
          ∙ (ap (λ (n : ℕ). inserted (inserted_all before (map f (take i facets))) ((tally_at c.args.tallies.now (get_or facets i 0 - 1)).sum - n)) c.from.ensures
          ∙ sym (ap (inserted_all before) more ∙ inserted_all-push before (map f (take i facets)) (f (get_or facets i 0))))),
    )
