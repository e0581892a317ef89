use Rattle.std.proofs.Common.{◌∷◌, [], refl, length}
use Rattle.hap_outside.proofs.CallerLemmas.{gathers_next, gathers_fail}
use Rattle.std.specs.List.{flat_map}
use Rattle.certificates.specs.Degrees.{at}
use Rattle.certificates.specs.Written.{numbered_line, side_line, block_text}
use Rattle.certificates.proofs.front.put_block.Goals as goal

pub returns-in_err-put_block_head-clause-bytes : goal.returns-in_err-put_block_head-clause-bytes
returns-in_err-put_block_head-clause-bytes g c =
    gathers_fail _ _ _ _ (numbered_line c.args.head (c.args.degree ∷ length (at c.args.lines.now c.args.degree) ∷ [])) (flat_map (side_line c.args.each) (at c.args.lines.now c.args.degree)) (block_text c.args.head c.args.each c.args.lines.now c.args.degree) _ c.from_residual.result c.from_residual.ensures.0 c.in_err-put_block_head.ensures.bytes (refl)

pub returns-clause-bytes : goal.returns-clause-bytes
returns-clause-bytes g c =
    gathers_next _ _ _ _ _ _ (numbered_line c.args.head (c.args.degree ∷ length (at c.args.lines.now c.args.degree) ∷ [])) (flat_map (side_line c.args.each) (at c.args.lines.now c.args.degree)) (block_text c.args.head c.args.each c.args.lines.now c.args.degree) _ c.put_degree.result (refl) c.in_ok-put_block_head.ensures.bytes c.put_degree.ensures.bytes
