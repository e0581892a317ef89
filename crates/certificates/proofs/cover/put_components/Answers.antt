use Rattle.std.proofs.Common.{◌∷◌, [], length}
use Rattle.hap_outside.proofs.CallerLemmas.{gathers_next, gathers_fail}
use Rattle.certificates.specs.declared.kind.Kind.TheVariants as kind
use Rattle.certificates.proofs.TextLemmas.{components-some}
use Rattle.certificates.specs.Written.{numbered_line, columns_text, components_text}
use Rattle.certificates.proofs.cover.put_components.Goals as goal

pub returns-in_err-put_components_head-clause-bytes : goal.returns-in_err-put_components_head-clause-bytes
returns-in_err-put_components_head-clause-bytes g c =
    gathers_fail _ _ _ _ (numbered_line kind.Components (length c.args.columns.now ∷ [])) (columns_text 1 c.args.columns.now) (components_text c.args.version c.args.columns.now) _ c.from_residual.result c.from_residual.ensures.0 c.in_err-put_components_head.ensures.bytes (components-some c.args.version c.args.columns.now c.if-version-eq1.false)

pub returns-clause-bytes : goal.returns-clause-bytes
returns-clause-bytes g c =
    gathers_next _ _ _ _ _ _ (numbered_line kind.Components (length c.args.columns.now ∷ [])) (columns_text 1 c.args.columns.now) (components_text c.args.version c.args.columns.now) _ c.put_columns.result (components-some c.args.version c.args.columns.now c.if-version-eq1.false) c.in_ok-put_components_head.ensures.bytes c.put_columns.ensures.bytes
