use Rattle.std.proofs.Common.{◌≡◌, ◌∙◌, sym, subst, IfOk, option_map, Option, List, ℕ}
use Rattle.cert_lines.proofs.CellLemmas.{table-none, table-cells}
use Rattle.cert_lines.proofs.table.read_cells.Goals as goal

pub returns-then-columns-eq0 : goal.returns-then-columns-eq0
returns-then-columns-eq0 c = table-none c.args.columns c.args.sheets c.args.word.now (sym c.is_same.ensures ∙ c.if-is_same.false) c.if-columns-eq0.true

pub returns : goal.returns
returns c =
    subst (λ (o : Option (List ℕ)). IfOk c.read_rows.result (λ cells. option_map (λ v. v.items) cells ≡ o)) (table-cells c.args.columns c.args.sheets c.args.word.now (sym c.is_same.ensures ∙ c.if-is_same.false) c.if-columns-eq0.false) c.read_rows.ensures
