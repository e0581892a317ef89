use Rattle.std.proofs.Common.{◌++◌, ℕ, List, ap}
use Rattle.hap_outside.proofs.CallerLemmas.{gathers_next, gathers_fail}
use Rattle.hap_cli.specs.GroupTexts.{group_lines, generators_text, relators_text}
use Rattle.hap_cli.proofs.group.put_group.Goals as goal

pub returns-in_err-put_generators-clause-bytes : goal.returns-in_err-put_generators-clause-bytes
returns-in_err-put_generators-clause-bytes g c =
    gathers_fail _ _ _ _ (generators_text c.edges.result.now) (relators_text c.args.group.now.relators) (group_lines c.args.group.now) _ c.from_residual.result c.from_residual.ensures.0 c.in_err-put_generators.ensures.bytes
    (ap (λ (es : List ℕ). generators_text es ++ relators_text c.args.group.now.relators) c.edges.ensures)

pub returns-clause-bytes : goal.returns-clause-bytes
returns-clause-bytes g c =
    gathers_next _ _ _ _ _ _ (generators_text c.edges.result.now) (relators_text c.args.group.now.relators) (group_lines c.args.group.now) _ c.put_relators.result
    (ap (λ (es : List ℕ). generators_text es ++ relators_text c.args.group.now.relators) c.edges.ensures) c.in_ok-put_generators.ensures.bytes c.put_relators.ensures.bytes
