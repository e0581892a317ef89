use Rattle.std.proofs.Common.{rules, ◌≡◌}
use Rattle.hap_outside.proofs.OpenEntry.{takes_front, left_at-more}
use Rattle.hap_outside.proofs.bytes.BytesSource.read.Goals as goal

pub returns-clause-takes : goal.returns-clause-takes
returns-clause-takes c =
    let rest : c.args.self.now.rest ≡ c.rest_at-rest.result.now = search rules in
    takes_front c.args.self.now.rest c.args.buf.now c.copy_front-count.new.buf _ c.copy_front-count.result (search rules) (search rules) (search (rules, left_at-more))
