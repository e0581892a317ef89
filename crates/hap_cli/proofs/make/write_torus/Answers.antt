use Rattle.std.proofs.Common.{◌++◌, codes, ap}
use Rattle.std.specs.Prelude.{decimal}
use Rattle.hap_outside.proofs.CallerLemmas.{writes_last, writes_stop}
use Rattle.hap_cli.specs.Answers.{cells_text, torus_text}
use Rattle.hap_cli.proofs.make.write_torus.Goals as goal

pub returns-in_err-write_pieces-clause-bytes : goal.returns-in_err-write_pieces-clause-bytes
returns-in_err-write_pieces-clause-bytes g c =
    writes_stop _ _ (codes "torus " ++ (decimal c.from.result ++ codes "\n")) (cells_text c.args.space.now) (torus_text c.args.size ++ cells_text c.args.space.now) _ c.from_residual.result c.from_residual.ensures.0 c.in_err-write_pieces.ensures.bytes
    (ap (λ n. (codes "torus " ++ (decimal n ++ codes "\n")) ++ cells_text c.args.space.now) c.from.ensures)

pub returns-clause-bytes : goal.returns-clause-bytes
returns-clause-bytes g c =
    writes_last _ _ _ (codes "torus " ++ (decimal c.from.result ++ codes "\n")) (cells_text c.args.space.now) (torus_text c.args.size ++ cells_text c.args.space.now) c.write_cells.result c.in_ok-write_pieces.ensures.bytes.whole c.write_cells.ensures.bytes
    (ap (λ n. (codes "torus " ++ (decimal n ++ codes "\n")) ++ cells_text c.args.space.now) c.from.ensures)
