use Rattle.std.proofs.Common.{◌-◌, ◌≤◌, [], ℕ, List, Bool, filter, length, get_or, ap, ◌∙◌, arith}
use Rattle.std.proofs.lemmas.List.{take_all}
use Rattle.std.proofs.lemmas.List.FromFn.{length-map-range_with_len}
use Rattle.face_poset.specs.Poset.{IsCell}
use Rattle.number_lists.specs.Cofaces.{cells_with}
use Rattle.permutahedral_arrays.specs.Places.{holds_all}
use Rattle.permutahedral_arrays.proofs.Growing.{facets_among, listed-below}
use Rattle.permutahedral_arrays.proofs.spaces.list_facets.Goals as goal

-- the first point of a cell
first-within : (most : ℕ) (cell : List ℕ) → IsCell most cell → (1 ≤ get_or cell 0 0) × (get_or cell 0 0 ≤ most)
first-within most cell is = is.within 0 0 is.some

pub get-listed-requires : goal.get-listed-requires
get-listed-requires c =
    let w = first-within c.args.most c.args.cell.now c.requires.cell in
    omega (arith, ap length c.requires.holders, length-map-range_with_len (cells_with c.args.above.now) 1 c.args.most, w.0, w.1)

pub overflow_sub-number : goal.overflow_sub-number
overflow_sub-number c =
    let v : ℕ = get_or c.args.cell.now 0 0 in
    let w = first-within c.args.most c.args.cell.now c.requires.cell in
    (listed-below c.args.above.now c.get-listed.result.now c.args.most v c.loop-number.number-index w.0 w.1 (c.get-listed.ensures ∙ ap (λ (ls : List (List ℕ)). get_or ls (v - 1) []) c.requires.holders) c.loop-number-test.true).0

pub get-requires : goal.get-requires
get-requires c =
    let v : ℕ = get_or c.args.cell.now 0 0 in
    let w = first-within c.args.most c.args.cell.now c.requires.cell in
    let below = listed-below c.args.above.now c.get-listed.result.now c.args.most v c.loop-number.number-index w.0 w.1 (c.get-listed.ensures ∙ ap (λ (ls : List (List ℕ)). get_or ls (v - 1) []) c.requires.holders) c.loop-number-test.true in
    omega (arith, below.0, below.1)

pub returns : goal.returns
returns c =
    let v : ℕ = get_or c.args.cell.now 0 0 in
    let w = first-within c.args.most c.args.cell.now c.requires.cell in
    let p : ℕ → Bool = λ n. holds_all (get_or c.args.above.now (n - 1) []) c.args.cell.now in
    c.loop-number.invariant
    ∙ (ap (filter p) (take_all c.loop-number.number-index c.get-listed.result.now (omega (arith, c.loop-number-test.false)))
    ∙ facets_among c.args.above.now c.args.cell.now c.get-listed.result.now c.args.most c.requires.cell.some w.0 w.1 (c.get-listed.ensures ∙ ap (λ (ls : List (List ℕ)). get_or ls (v - 1) []) c.requires.holders))
