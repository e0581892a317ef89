use Rattle.std.proofs.Common.{◌≡◌, ◌<◌, ◌+◌, ◌-◌, ◌++◌, ◌∷◌, [], ℕ, List, length, take, get_or, sym, ◌∙◌, ap, arith}
use Rattle.std.specs.List.{flat_map}
use Rattle.std.proofs.lemmas.List.{take_more, take_all, append-nil, get_or_default}
use Rattle.std.proofs.lemmas.List.Concat.{flat_map-append}
use Rattle.face_poset.specs.Poset.{layer, facets_of}
use Rattle.face_poset.proofs.BelowLemmas.{sorted_facets}
use Rattle.face_poset.proofs.below.lower_faces.Goals as goal

-- the facets of one cell more
more : (space : List (List (List ℕ))) (dim i : ℕ) (cells before now facets : List ℕ) (layer : List (List ℕ)) → length space ≡ 4 → dim < 4 → i < length cells
    → before ≡ flat_map (λ c. facets_of space dim c) (take i cells) → facets ≡ get_or (get_or space dim layer) (get_or cells i 0 - 1) [] → now ≡ before ++ facets
    → now ≡ flat_map (λ c. facets_of space dim c) (take (i + 1) cells)
more space dim i cells before now facets layer four lt l e read push =
    let F : ℕ → List ℕ = λ c. facets_of space dim c in
    let is : facets ≡ F (get_or cells i 0) = read ∙ ap (λ (cs : List (List ℕ)). get_or cs (get_or cells i 0 - 1) []) (get_or_default space dim layer [] (omega arith)) in
    push
    ∙ (ap (λ (xs : List ℕ). xs ++ facets) e
    ∙ (ap (λ (xs : List ℕ). flat_map F (take i cells) ++ xs) (is ∙ sym (append-nil (F (get_or cells i 0))))
    ∙ (sym (flat_map-append F (take i cells) (get_or cells i 0 ∷ [])) ∙ ap (flat_map F) (sym (take_more cells i 0 l)))))

pub loop-cell-preserved : goal.loop-cell-preserved
loop-cell-preserved c =
    more c.args.layers.now (c.args.dim + 1) c.loop-cell.cell-index c.args.cells.now c.loop-cell.facets.items c.extend_from_slice.new.self.items c.get.result.now c.index-layers-dim.result
    c.requires.valid.layers (omega (arith, c.requires.dim)) c.loop-cell-test.true c.loop-cell.invariant c.get.ensures c.in_ok-extend_from_slice.ensures.items

pub returns : goal.returns
returns c =
    sorted_facets c.args.layers.now c.args.dim c.args.cells.now c.loop-cell.facets.items c.sort_once.new.numbers.items c.requires.valid c.requires.within
    (c.loop-cell.invariant ∙ ap (flat_map (λ n. facets_of c.args.layers.now (c.args.dim + 1) n)) (take_all c.loop-cell.cell-index c.args.cells.now c.loop-cell-test.false))
    c.sort_once.ensures.rises c.sort_once.ensures.keeps c.sort_once.ensures.adds_none
