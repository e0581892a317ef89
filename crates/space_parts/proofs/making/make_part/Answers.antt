use Rattle.std.proofs.Common.{◌≡◌, ℕ, ◌+◌, ◌≤◌, List, [], ◌∷◌, ◌++◌, map, ap, sym, ◌∙◌, subst, arith}
use Rattle.std.specs.List.{range_with_len}
use Rattle.std.proofs.lemmas.List.FromFn.{map-range_with_len_more}
use Rattle.face_poset.specs.Poset.{count}
use Rattle.space_parts.specs.Parts.{cells_in, part_of}
use Rattle.space_parts.specs.Making.{HasCells}
use Rattle.space_parts.proofs.Given.{room, own_cells, some_vertex, stage_whole, has_cells, piece_is}
use Rattle.space_parts.proofs.making.make_part.Goals as goal

pub cells-own-requires-clause-last : goal.cells-own-requires-clause-last
cells-own-requires-clause-last c = room c.args.space.now c.args.listing.now.cells c.args.listing.now.places c.args.component c.loop-dim.dim c.requires.listing c.loop-dim-test.true c.requires.last

pub add_cells-requires-clause-own : goal.add_cells-requires-clause-own
add_cells-requires-clause-own c = own_cells c.args.space.now c.args.listing.now.cells c.args.listing.now.places c.args.component c.loop-dim.dim c.cells-own.result.now c.requires.listing c.loop-dim-test.true c.requires.first c.requires.last c.cells-own.ensures

-- the lists of cells with one more
more : (f : ℕ → List ℕ) (dim : ℕ) (cells new : List (List ℕ)) (own : List ℕ) → cells ≡ map f (range_with_len 0 dim) → new ≡ cells ++ own ∷ [] → own ≡ f dim → new ≡ map f (range_with_len 0 (dim + 1))
more f dim cells new own e p q =
    p ∙ (ap (λ (cs : List (List ℕ)). cs ++ own ∷ []) e ∙ (ap (λ (o : List ℕ). map f (range_with_len 0 dim) ++ o ∷ []) q ∙ sym (map-range_with_len_more f 0 dim dim (omega arith))))

pub loop-dim-preserved : goal.loop-dim-preserved
loop-dim-preserved c = (
  c.in_ok-add_cells.ensures,
  more (cells_in c.args.space.now c.args.component) c.loop-dim.dim c.loop-dim.cells c.push.new.self c.cells-own.result.now c.loop-dim.invariant.1 c.in_ok-push.ensures.ok
      (own_cells c.args.space.now c.args.listing.now.cells c.args.listing.now.places c.args.component c.loop-dim.dim c.cells-own.result.now c.requires.listing c.loop-dim-test.true c.requires.first c.requires.last c.cells-own.ensures),
)

pub finish-requires : goal.finish-requires
finish-requires c =
    let w = stage_whole c.args.space.now c.args.component c.loop-dim.dim c.loop-dim.builder (omega (arith, c.loop-dim-test.false, c.loop-dim.auto.dim-end)) c.loop-dim.invariant.0 in
    subst (λ (b : List (List (List ℕ))). 1 ≤ count b 0) (sym w)
    (some_vertex (part_of c.args.space.now c.args.component) (c.parts_are_regular.ensures c.args.space.now c.args.component c.requires.valid c.requires.regular c.requires.first c.requires.last))

-- all lists of cells
all_cells : (space : List (List (List ℕ))) (number dim : ℕ) (cells : List (List ℕ)) → dim ≡ 4 → cells ≡ map (cells_in space number) (range_with_len 0 dim)
    → cells ≡ cells_in space number 0 ∷ cells_in space number 1 ∷ cells_in space number 2 ∷ cells_in space number 3 ∷ []
all_cells space number dim cells e f = f ∙ ap (λ (d : ℕ). map (cells_in space number) (range_with_len 0 d)) e

pub new-requires-clause-cells : goal.new-requires-clause-cells
new-requires-clause-cells c =
    let four : c.loop-dim.dim ≡ 4 = omega (arith, c.loop-dim-test.false, c.loop-dim.auto.dim-end) in
    let w : c.in_ok-part.part ≡ part_of c.args.space.now c.args.component = c.in_ok-part.ensures ∙ stage_whole c.args.space.now c.args.component c.loop-dim.dim c.loop-dim.builder four c.loop-dim.invariant.0 in
    subst (λ (p : List (List (List ℕ))). HasCells p c.loop-dim.cells) (sym w)
    (subst (HasCells (part_of c.args.space.now c.args.component)) (sym (all_cells c.args.space.now c.args.component c.loop-dim.dim c.loop-dim.cells four c.loop-dim.invariant.1)) (has_cells c.args.space.now c.args.component))

pub returns : goal.returns
returns c =
    let four : c.loop-dim.dim ≡ 4 = omega (arith, c.loop-dim-test.false, c.loop-dim.auto.dim-end) in
    piece_is c.args.space.now c.args.component c.new.result
    (c.new.ensures.space ∙ (c.in_ok-part.ensures ∙ stage_whole c.args.space.now c.args.component c.loop-dim.dim c.loop-dim.builder four c.loop-dim.invariant.0))
    (c.new.ensures.cells ∙ all_cells c.args.space.now c.args.component c.loop-dim.dim c.loop-dim.cells four c.loop-dim.invariant.1)
