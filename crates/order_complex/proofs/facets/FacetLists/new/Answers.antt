use Rattle.std.proofs.Common.{lit<, ◌≡◌, ◌≤◌, suc, ℕ, List, [], length, get_or, ap, sym, ◌∙◌, subst, arith}
use Rattle.std.specs.List.{flat_map}
use Rattle.order_complex.specs.Chains.{chains_of}
use Rattle.order_complex.specs.Listing.{extensions, uppers_of, AreWalks}
use Rattle.order_complex.proofs.ChainBounds.{chains-walk}
use Rattle.order_complex.proofs.Extended.{chains_of-next}
use Rattle.order_complex.proofs.facets.FacetLists.new.Goals as goal

walking : (space : List (List (List ℕ))) (chains : List (List ℕ)) (degree : ℕ) → chains ≡ chains_of space degree → AreWalks (uppers_of space) chains
walking space chains degree e = subst (AreWalks (uppers_of space)) (sym e) (chains-walk space degree)

next-few : (space : List (List (List ℕ))) (chains : List (List ℕ)) (degree : ℕ) → chains ≡ chains_of space degree → length (chains_of space (suc degree)) ≤ 4294967295 → length (flat_map (extensions (uppers_of space)) chains) ≤ 4294967295
next-few space chains degree e l =
    subst (λ (xs : List (List ℕ)). length xs ≤ 4294967295) (sym (ap (flat_map (extensions (uppers_of space))) e ∙ chains_of-next space degree)) l

pub first_places-requires : goal.first_places-requires
first_places-requires c =
    let e : c.points.result.now ≡ chains_of c.args.uppers.now 0 = c.points.ensures ∙ ap (λ (ls : List (List (List ℕ))). get_or ls 0 []) c.requires.chains in
    (lit< tt, (walking c.args.uppers.now c.points.result.now 0 e, next-few c.args.uppers.now c.points.result.now 0 e (omega (arith, c.requires.few))))

pub first_places-requires-2 : goal.first_places-requires-2
first_places-requires-2 c =
    let e : c.edges-2.result.now ≡ chains_of c.args.uppers.now 1 = c.edges-2.ensures ∙ ap (λ (ls : List (List (List ℕ))). get_or ls 1 []) c.requires.chains in
    (lit< tt, (walking c.args.uppers.now c.edges-2.result.now 1 e, next-few c.args.uppers.now c.edges-2.result.now 1 e (omega (arith, c.requires.few))))
