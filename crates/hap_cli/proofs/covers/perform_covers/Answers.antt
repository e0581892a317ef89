use Rattle.hap_outside.specs.Causes.{Rose}
use Rattle.hap_words.specs.Asked.{covers_of}
use Rattle.hap_cli.proofs.CoverEnds.{listed_end}
use Rattle.hap_cli.proofs.covers.perform_covers.Goals as goal

pub returns-in-Ok-clause-cause : goal.returns-in-Ok-clause-cause
returns-in-Ok-clause-cause g c =
    listed_end (covers_of c.args.options.now) c.args.bytes.now (Rose (g.K.Sink.faults c.args.out.now) (g.K.Sink.faults c.list_covers-outcome.new.out)) (g.K.Sink.written c.args.out.now) (g.K.Sink.written c.list_covers-outcome.new.out) c.in-Ok.plan c.list_covers-outcome.result
    c.requires.few c.in-Ok.ensures c.list_covers-outcome.ensures.lists
