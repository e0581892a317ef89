use Rattle.std.proofs.Common.{◌≡◌, ◌+◌, ℕ, List, map, length, ap, sym, ◌∙◌, arith}
use Rattle.std.proofs.lemmas.List.{length-map}
use Rattle.face_poset.specs.Poset.{count, facets_of}
use Rattle.pair_stages.specs.Signed.{sign_element}
use Rattle.pair_stages.proofs.SignedLemmas.{map_more, columns_final, rows_final, cols_final}
use Rattle.pair_stages.proofs.columns.Columns.of_signed.Goals as goal

pub push-requires : goal.push-requires
push-requires g c =
    let facets : List ℕ = facets_of (g.G.Graded.space c.args.graded.now) (c.args.dim + 1) (c.loop-index.index + 1) in
    let f : ℕ → ℕ = λ facet. sign_element g.F.Field.ops (g.G.Signed.negative c.args.graded.now (c.args.dim + 1) (c.loop-index.index + 1) facet) in
    ap (λ (xs : List ℕ). length xs) (c.deref.ensures.value ∙ c.in_ok-put_signs.ensures) ∙ (length-map facets f ∙ ap (λ (xs : List ℕ). length xs) (sym c.facets.ensures.facets))

pub loop-index-preserved : goal.loop-index-preserved
loop-index-preserved g c =
    let i : ℕ = c.loop-index.index in
    record {
      cells = map_more (facets_of (g.G.Graded.space c.args.graded.now) (c.args.dim + 1)) i c.loop-index.parts.cells c.push.new.self.cells c.facets.result.now c.loop-index.invariant.cells c.in_ok-push.ensures.cells c.facets.ensures.facets;
      values = map_more (λ cell. map (λ facet. sign_element g.F.Field.ops (g.G.Signed.negative c.args.graded.now (c.args.dim + 1) cell facet)) (facets_of (g.G.Graded.space c.args.graded.now) (c.args.dim + 1) cell)) i c.loop-index.parts.values c.push.new.self.values c.deref.result.now
          c.loop-index.invariant.values c.in_ok-push.ensures.values (c.deref.ensures.value ∙ c.in_ok-put_signs.ensures);
    }

pub invariant_of-result : goal.invariant_of-result
invariant_of-result g c =
    columns_final g.F.Field.ops g.met.F.Field.laws (g.G.Graded.space c.args.graded.now) (g.G.Signed.negative c.args.graded.now) c.args.dim c.cells-below.result c.loop-index.index c.loop-index.parts.cells c.loop-index.parts.values c.cells-below.ensures.valid c.cells-below.ensures.cells
    (let e : c.cells-count.result ≡ count (g.G.Graded.space c.args.graded.now) (c.args.dim + 1) = c.cells-count.ensures.cells in omega arith) c.loop-index.invariant.cells c.loop-index.invariant.values

pub returns-clause-cols : goal.returns-clause-cols
returns-clause-cols g c =
    cols_final (g.G.Graded.space c.args.graded.now) c.args.dim c.loop-index.index c.loop-index.parts.cells
    (let e : c.cells-count.result ≡ count (g.G.Graded.space c.args.graded.now) (c.args.dim + 1) = c.cells-count.ensures.cells in omega arith) c.loop-index.invariant.cells

pub returns-clause-rows : goal.returns-clause-rows
returns-clause-rows g c =
    rows_final g.F.Field.ops g.met.F.Field.laws (g.G.Graded.space c.args.graded.now) (g.G.Signed.negative c.args.graded.now) c.args.dim c.cells-below.result c.loop-index.index c.loop-index.parts.cells c.loop-index.parts.values c.cells-below.ensures.cells
    (let e : c.cells-count.result ≡ count (g.G.Graded.space c.args.graded.now) (c.args.dim + 1) = c.cells-count.ensures.cells in omega arith) c.loop-index.invariant.cells c.loop-index.invariant.values

pub returns-clause-few : goal.returns-clause-few
returns-clause-few g c =
    let e : length c.loop-index.parts.cells ≡ count (g.G.Graded.space c.args.graded.now) (c.args.dim + 1) =
    cols_final (g.G.Graded.space c.args.graded.now) c.args.dim c.loop-index.index c.loop-index.parts.cells
    (let e : c.cells-count.result ≡ count (g.G.Graded.space c.args.graded.now) (c.args.dim + 1) = c.cells-count.ensures.cells in omega arith) c.loop-index.invariant.cells in
    omega (arith, c.cells-count.ensures.cells, c.cells-count.type_inv)
