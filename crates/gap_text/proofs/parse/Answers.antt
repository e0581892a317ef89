use Rattle.std.proofs.lemmas.Result.{err_from_is_err_and}
use Rattle.gap_text.proofs.Run.{rest-drop-ok, rest-drop-err}
use Rattle.gap_text.proofs.parse.Goals as goal

pub returns-in_err-feed-clause-fault : goal.returns-in_err-feed-clause-fault
returns-in_err-feed-clause-fault c =
    let p = err_from_is_err_and c.from_residual.result c.from_residual.ensures.1 in
    rw (p.1, p.2) (λ h. rest-drop-err _ _ c.loop-place.place c.args.text.now _ _ c.loop-place-test.true c.of.ensures c.loop-place.invariant (c.in_err-feed.ensures h))

pub loop-place-preserved : goal.loop-place-preserved
loop-place-preserved c =
    rest-drop-ok _ _ c.loop-place.place c.args.text.now _ _ c.loop-place-test.true c.of.ensures c.loop-place.invariant c.in_ok-feed.ensures
