use Rattle.std.proofs.Common.{◌≡◌, ◌∷◌, [], ◌+◌, ◌-◌, List, ℕ, length, take, drop, get_or, ap, ◌∙◌, sym, subst, ◌≤◌}
use Rattle.std.specs.List.{All}
use Rattle.sheet_tables.specs.Positions.{position_text, cells_text}
use Rattle.hap_ends.specs.Refusals.{later_cells}
use Rattle.hap_outside.proofs.CallerLemmas.{gathers_next, gathers_fail}
use Rattle.hap_ends.proofs.Spotting.{cells_at, few_at, cells_few}
use Rattle.hap_ends.proofs.spent.put_position.Goals as goal

pub returns-in_err-put-clause-bytes : goal.returns-in_err-put-clause-bytes
returns-in_err-put-clause-bytes g c =
    gathers_fail _ _ _ _ ((48 + c.sheets.result) ∷ 58 ∷ []) (cells_text c.args.position.now.cells) (position_text c.args.position.now.sheets c.args.position.now.cells) _ c.from_residual.result c.from_residual.ensures.0 c.in_err-put.ensures.bytes
    (ap (λ s. (48 + s) ∷ 58 ∷ cells_text c.args.position.now.cells) c.sheets.ensures.sheets)

pub put_cells-requires-clause-rest : goal.put_cells-requires-clause-rest
put_cells-requires-clause-rest g c =
    few_at c.cells.result.now (subst (All (λ c. c ≤ 8)) (sym c.cells.ensures.cells) (cells_few c.args.position.now.sheets c.args.position.now.cells c.cells.ensures.valid))

pub returns-in-len1-up-clause-bytes : goal.returns-in-len1-up-clause-bytes
returns-in-len1-up-clause-bytes g c =
    let cells : List ℕ = c.cells.result.now in
    let later : List ℕ = (48 + get_or cells 0 0) ∷ later_cells (take (length cells - 1) (drop 1 cells)) in
    let whole : (48 + c.sheets.result) ∷ 58 ∷ later ≡ position_text c.args.position.now.sheets c.args.position.now.cells =
    ap (λ s. (48 + s) ∷ 58 ∷ later) c.sheets.ensures.sheets
    ∙ ap (λ (l : List ℕ). (48 + c.args.position.now.sheets) ∷ 58 ∷ l) (cells_at cells c.in-len1-up.len_at_least ∙ ap cells_text c.cells.ensures.cells) in
    gathers_next _ _ _ _ _ _ ((48 + c.sheets.result) ∷ 58 ∷ []) later (position_text c.args.position.now.sheets c.args.position.now.cells) _ c.put_cells.result whole c.in_ok-put.ensures.bytes c.put_cells.ensures.bytes
