use Rattle.hap_cli.proofs.Ends.{exact_end, usage_end, read_fault, write_fault}
use Rattle.hap_cli.proofs.running.run.Goals as goal

pub returns-clause-ended : goal.returns-clause-ended
returns-clause-ended g c =
    (c.perform_words-outcome.result, c.end_with-status.ensures.status, c.end_with-status.ensures.line, c.perform_words-outcome.ensures.cause)

pub returns-clause-apart : goal.returns-clause-apart
returns-clause-apart g c = (c.perform_words-outcome.result, c.end_with-status.ensures.status, c.perform_words-outcome.ensures.cause)

pub returns-clause-usage : goal.returns-clause-usage
returns-clause-usage g c =
    usage_end _ (g.S.Source.store c.args.source.now) _ _ (g.K.Sink.written c.args.out.now) (g.K.Sink.written c.perform_words-outcome.new.out) c.perform_words-outcome.result c.end_with-status.result
    c.end_with-status.ensures.status c.perform_words-outcome.ensures.cause

pub returns-clause-exact : goal.returns-clause-exact
returns-clause-exact g c =
    exact_end _ (g.S.Source.store c.args.source.now) _ _ (g.K.Sink.written c.args.out.now) (g.K.Sink.written c.perform_words-outcome.new.out) c.perform_words-outcome.result c.end_with-status.result
    c.end_with-status.ensures.status c.perform_words-outcome.ensures.cause

pub returns-clause-read : goal.returns-clause-read
returns-clause-read g c =
    read_fault _ (g.S.Source.store c.args.source.now) _ _ (g.K.Sink.written c.args.out.now) (g.K.Sink.written c.perform_words-outcome.new.out) c.perform_words-outcome.result c.end_with-status.result
    c.end_with-status.ensures.status c.perform_words-outcome.ensures.cause

pub returns-clause-write : goal.returns-clause-write
returns-clause-write g c =
    write_fault _ (g.S.Source.store c.args.source.now) _ _ (g.K.Sink.written c.args.out.now) (g.K.Sink.written c.perform_words-outcome.new.out) c.perform_words-outcome.result c.end_with-status.result
    c.end_with-status.ensures.status c.perform_words-outcome.ensures.cause
