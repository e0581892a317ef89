use Rattle.std.proofs.Common.{rules, refl}
use Rattle.hap_outside.specs.declared.source.Failed.{Failed}
use Rattle.hap_inputs.proofs.Long.{long_input}
use Rattle.hap_inputs.proofs.input.read_named.Goals as goal

pub returns-in-Err-TooLong-clause-unread : goal.returns-in-Err-TooLong-clause-unread
returns-in-Err-TooLong-clause-unread g c =
    let long = c.in-Err-TooLong.ensures.too_long (search rules) in
    (refl, long_input _ Failed (g.S.Source.store c.args.source.now) _ _ _ c.args.limit long.0 c.in-Ok.field-0 c.in-Ok.ensures.opens long.1 long.2)
