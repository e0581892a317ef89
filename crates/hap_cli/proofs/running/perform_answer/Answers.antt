use Rattle.std.proofs.Common.{sym, subst}
use Rattle.hap_outside.specs.Causes.{Rose}
use Rattle.hap_words.specs.Asked.{asked_of}
use Rattle.hap_ends.specs.declared.outcome.Outcome.{Outcome}
use Rattle.hap_cli.specs.Ends.{EndsOn}
use Rattle.hap_cli.proofs.Ends.{answered_end}
use Rattle.hap_cli.proofs.running.perform_answer.Goals as goal

pub returns-in-Ok-clause-cause : goal.returns-in-Ok-clause-cause
returns-in-Ok-clause-cause g c =
    let old = g.K.Sink.written c.args.out.now in
    let new = g.K.Sink.written c.write_answer-answered.new.out in
    let before = g.K.Sink.faults c.args.out.now in
    let now = g.K.Sink.faults c.write_answer-answered.new.out in
    subst (λ (x : Outcome). EndsOn (asked_of c.args.command.now) c.args.bytes.now (Rose before now) old new x) (sym c.written.ensures)
    (answered_end (asked_of c.args.command.now) c.args.bytes.now old new before now c.in-Ok.answer c.write_answer-answered.result
    c.requires.few c.requires.before c.in-Ok.ensures.answer c.write_answer-answered.ensures.bytes c.write_answer-answered.ensures.cause)
