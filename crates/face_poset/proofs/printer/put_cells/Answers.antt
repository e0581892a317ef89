use Rattle.std.proofs.Common.{◌≡◌, ◌++◌, [], ℕ, List, map, take, drop, get_or, ◌+◌, ap, ◌∙◌, arith}
use Rattle.face_poset.specs.Text.{cell_text, commas, lead}
use Rattle.hap_outside.proofs.CallerLemmas.{gathers_next, gathers_break}
use Rattle.face_poset.proofs.TextLemmas.{tails, cells-more, cells-split}
use Rattle.face_poset.proofs.printer.put_cells.Goals as goal

-- the text of one cell with its lead
piece : (dim i : ℕ) (cells : List (List ℕ)) (before facets : List ℕ) → before ≡ lead i → facets ≡ get_or cells i [] → before ++ cell_text dim facets ≡ lead i ++ cell_text dim (get_or cells i [])
piece dim i cells before facets e h = ap (λ (xs : List ℕ). xs ++ cell_text dim facets) e ∙ ap (λ (fs : List ℕ). lead i ++ cell_text dim fs) h

pub returns-in_err-put_cell-clause-bytes : goal.returns-in_err-put_cell-clause-bytes
returns-in_err-put_cell-clause-bytes g c =
    let i : ℕ = c.loop-index.index in
    let cells : List (List ℕ) = c.args.cells.now in
    let done : List ℕ = commas (map (cell_text c.args.dim) (take i cells)) in
    let rest : List ℕ = tails (drop (i + 1) (map (cell_text c.args.dim) cells)) in
    gathers_break _ _ _ _ _ _ done (c.lead_at.result.now ++ cell_text c.args.dim c.get.result.now) rest (commas (map (cell_text c.args.dim) cells)) _ _ c.from_residual.result
    c.loop-index.invariant.bytes c.from_residual.ensures.0 c.in_err-put_cell.ensures.bytes
    (ap (λ (xs : List ℕ). done ++ xs ++ rest) (piece c.args.dim i cells c.lead_at.result.now c.get.result.now c.lead_at.ensures c.get.ensures)
    ∙ cells-split c.args.dim i cells (omega (arith, c.len-index-end.ensures)))

pub loop-index-preserved : goal.loop-index-preserved
loop-index-preserved g c =
    let i : ℕ = c.loop-index.index in
    let cells : List (List ℕ) = c.args.cells.now in
    let done : List ℕ = commas (map (cell_text c.args.dim) (take i cells)) in
    let more : done ++ (c.lead_at.result.now ++ cell_text c.args.dim c.get.result.now) ≡ commas (map (cell_text c.args.dim) (take (i + 1) cells)) =
    ap (λ (xs : List ℕ). done ++ xs) (piece c.args.dim i cells c.lead_at.result.now c.get.result.now c.lead_at.ensures c.get.ensures)
    ∙ cells-more c.args.dim i cells (omega (arith, c.len-index-end.ensures)) in
    record {
      bytes = gathers_next _ _ _ _ _ _ _ _ _ _ _ more c.loop-index.invariant.bytes c.in_ok-put_cell.ensures.bytes;
      still = c.in_ok-put_cell.ensures.cause.kept ∙ c.loop-index.invariant.still;
    }
