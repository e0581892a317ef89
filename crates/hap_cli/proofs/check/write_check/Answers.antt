use Rattle.std.proofs.Common.{◌++◌, codes, ap, refl}
use Rattle.std.specs.Prelude.{decimal}
use Rattle.hap_outside.proofs.CallerLemmas.{writes_last, writes_stop}
use Rattle.hap_cli.specs.Answers.{cells_text, components_text}
use Rattle.hap_cli.proofs.check.write_check.Goals as goal

pub returns-in_err-write_cells-clause-bytes : goal.returns-in_err-write_cells-clause-bytes
returns-in_err-write_cells-clause-bytes g c =
    writes_stop _ _ (cells_text c.args.space.now) (codes "regular\ncomponents " ++ (decimal c.args.components ++ codes "\n")) (components_text c.args.space.now c.args.components) _ c.from_residual.result c.from_residual.ensures.0 c.in_err-write_cells.ensures.bytes refl

pub returns-clause-bytes : goal.returns-clause-bytes
returns-clause-bytes g c =
    writes_last _ _ _ (cells_text c.args.space.now) (codes "regular\ncomponents " ++ (decimal c.from.result ++ codes "\n")) (components_text c.args.space.now c.args.components) c.write_pieces.result c.in_ok-write_cells.ensures.bytes.whole c.write_pieces.ensures.bytes
    (ap (λ n. cells_text c.args.space.now ++ (codes "regular\ncomponents " ++ (decimal n ++ codes "\n"))) c.from.ensures)
