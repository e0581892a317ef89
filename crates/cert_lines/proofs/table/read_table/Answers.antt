use Rattle.std.proofs.Common.{◌∙◌, ℕ, List, sym, ap, subst, option_map}
use Rattle.sheet_tables.specs.Tables.{IsTable}
use Rattle.certificates.specs.Placed.{table_of}
use Rattle.cert_lines.proofs.CellLemmas.{fit-table}
use Rattle.cert_lines.proofs.table.read_table.Goals as goal

pub from_cells-requires : goal.from_cells-requires
from_cells-requires c =
    subst (λ (cells : List ℕ). IsTable c.args.sheets c.args.columns cells) (sym c.deref.ensures.value)
    (fit-table c.args.columns c.args.sheets c.in-Some.cells.items (table_of c.args.word.now) c.requires.some c.requires.most (sym (ap (λ o. option_map (λ v. v.items) o) c.in-Some.is) ∙ c.in_ok-read_cells.ensures))
