use Rattle.std.proofs.Common.{codes, refl}
use Rattle.hap_outside.proofs.CallerLemmas.{gathers_next, gathers_fail}
use Rattle.cover_listing.specs.Events.{Begins}
use Rattle.hap_cli.specs.GroupTexts.{counted_line}
use Rattle.hap_cli.specs.CoverTexts.{event_text, component_front}
use Rattle.hap_cli.proofs.covers.CoverLinesTaker.begin.Goals as goal

pub returns-in_err-put_component-clause-bytes : goal.returns-in_err-put_component-clause-bytes
returns-in_err-put_component-clause-bytes g c =
    gathers_fail _ _ _ _ (component_front c.args.self.now.several c.args.component) (counted_line (codes "columns ") c.args.columns) (event_text c.args.self.now.several (Begins c.args.component c.args.columns)) _ c.from_residual.result c.from_residual.ensures.0 c.in_err-put_component.ensures.bytes refl

pub returns-clause-bytes : goal.returns-clause-bytes
returns-clause-bytes g c =
    gathers_next _ _ _ _ _ _ (component_front c.args.self.now.several c.args.component) (counted_line (codes "columns ") c.args.columns) (event_text c.args.self.now.several (Begins c.args.component c.args.columns)) _ c.put_count.result refl c.in_ok-put_component.ensures.bytes c.put_count.ensures.bytes
