use Rattle.std.proofs.Common.{◌≡◌, ◌≤◌, ◌+◌, ◌-◌, ℕ, List, length, take, drop, get_or, inr, sym, ◌∙◌, arith, All}
use Rattle.sheet_tables.specs.Positions.{cells_text}
use Rattle.sheet_tables.proofs.PositionLemmas.{digit-is, cells-are}
use Rattle.sheet_tables.proofs.position.Position.parse_bytes.Goals as goal

pub invariant_of-result : goal.invariant_of-result
invariant_of-result c =
    let bytes : List ℕ = c.args.text.now in
    let cells : List ℕ = c.in_ok-cells.cells.items in
    let w : (1 ≤ c.in_ok-sheets.sheets) × (c.in_ok-sheets.sheets ≤ 8) × (get_or bytes 0 0 ≡ 48 + c.in_ok-sheets.sheets) = digit-is (get_or bytes 0 0) c.in_ok-sheets.sheets (sym c.digit.ensures ∙ c.in_ok-sheets.ensures.ok_part) in
    let r : (1 ≤ length cells) × All (λ d. (1 ≤ d) × (d ≤ 8)) cells × (take (length bytes - 2) (drop 2 bytes) ≡ cells_text cells) = cells-are (take (length bytes - 2) (drop 2 bytes)) cells c.in_ok-cells.ensures.cells in
    (inr (record { some_sheet = w.0; most_sheets = w.1; some_cell = r.0; within = r.1 }), omega (arith, c.len-room.ensures, c.in_ok-cells.cells.ok.1))

pub returns-clause-proper : goal.returns-clause-proper
returns-clause-proper c =
    let cells : List ℕ = c.in_ok-cells.cells.items in
    let w = digit-is (get_or c.args.text.now 0 0) c.in_ok-sheets.sheets (sym c.digit.ensures ∙ c.in_ok-sheets.ensures.ok_part) in
    let r = cells-are (take (length c.args.text.now - 2) (drop 2 c.args.text.now)) cells c.in_ok-cells.ensures.cells in
    record { some_sheet = w.0; most_sheets = w.1; some_cell = r.0; within = r.1 }
