use Rattle.hap_cli.proofs.Stages.{made_answer}
use Rattle.hap_cli.proofs.make.answer_make.Goals as goal

pub returns-in_ok-summarize-in-Some-clause-answer : goal.returns-in_ok-summarize-in-Some-clause-answer
returns-in_ok-summarize-in-Some-clause-answer g c =
    made_answer c.args.options.now.size c.args.options.now.modulus c.in-Some.modulus c.in_ok-summarize-in-Some.field-0 c.in-Some.is
    c.in_ok-summarize-in-Some.ensures.summary.0 c.in_ok-summarize-in-Some.ensures.summary.1
