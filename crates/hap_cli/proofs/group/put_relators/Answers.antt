use Rattle.std.proofs.Common.{◌++◌, ℕ, codes, ap}
use Rattle.std.specs.List.{flat_map}
use Rattle.hap_outside.proofs.CallerLemmas.{gathers_next, gathers_fail}
use Rattle.hap_cli.specs.GroupTexts.{relators_text, relator_line, counted_line}
use Rattle.hap_cli.proofs.group.put_relators.Goals as goal

pub returns-in_err-put_count-clause-bytes : goal.returns-in_err-put_count-clause-bytes
returns-in_err-put_count-clause-bytes g c =
    gathers_fail _ _ _ _ (counted_line (codes "relators ") c.relators.result) (flat_map relator_line c.args.group.now.relators) (relators_text c.args.group.now.relators) _ c.from_residual.result c.from_residual.ensures.0 c.in_err-put_count.ensures.bytes
    (ap (λ (n : ℕ). counted_line (codes "relators ") n ++ flat_map relator_line c.args.group.now.relators) c.relators.ensures)

pub returns-clause-bytes : goal.returns-clause-bytes
returns-clause-bytes g c =
    gathers_next _ _ _ _ _ _ (counted_line (codes "relators ") c.relators.result) (flat_map relator_line c.args.group.now.relators) (relators_text c.args.group.now.relators) _ c.put_each_relator.result
    (ap (λ (n : ℕ). counted_line (codes "relators ") n ++ flat_map relator_line c.args.group.now.relators) c.relators.ensures) c.in_ok-put_count.ensures.bytes c.put_each_relator.ensures.bytes
