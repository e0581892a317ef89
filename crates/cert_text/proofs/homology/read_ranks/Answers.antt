use Rattle.std.proofs.Common.{◌∙◌, ap, Ok, List, rules}
use Rattle.std.specs.Prelude.{slice_set}
use Rattle.certificates.specs.declared.lines.Line.{Line}
use Rattle.certificates.specs.Degrees.{at}
use Rattle.cert_text.proofs.Equivalents.{then_ok}
use Rattle.cert_text.proofs.SideLemmas.{ranks-whole}
use Rattle.cert_text.proofs.TakingLemmas.{breaks, then_err}
use Rattle.cert_text.proofs.homology.read_ranks.Goals as goal

pub returns-in_err-read_rank : goal.returns-in_err-read_rank
returns-in_err-read_rank c =
    breaks _ _ _ c.from_residual.result c.in_err-read_rank.field-0.0 (search rules) (λ h. then_err _ _ _ (c.in_err-read_rank.ensures.read h))

pub returns-in_err-read_rank-2 : goal.returns-in_err-read_rank-2
returns-in_err-read_rank-2 c =
    breaks _ _ _ c.from_residual-in_err-read_rank-2.result c.in_err-read_rank-2.field-0.0 (search rules) (λ h. then_ok _ _ _ c.in_ok-read_rank.ensures.read ∙ (then_err _ _ _ (c.in_err-read_rank-2.ensures.read h)))

pub returns-in_err-read_rank-3 : goal.returns-in_err-read_rank-3
returns-in_err-read_rank-3 c =
    breaks _ _ _ c.from_residual-in_err-read_rank-3.result c.in_err-read_rank-3.field-0.0 (search rules) (λ h. then_ok _ _ _ c.in_ok-read_rank.ensures.read ∙ (then_ok _ _ _ c.in_ok-read_rank-2.ensures.read ∙ (then_err _ _ _ (c.in_err-read_rank-3.ensures.read h))))

pub returns : goal.returns
returns c = then_ok _ _ _ c.in_ok-read_rank.ensures.read ∙ (then_ok _ _ _ c.in_ok-read_rank-2.ensures.read ∙ (then_ok _ _ _ c.in_ok-read_rank-3.ensures.read ∙ (ap (λ (x : List (List Line)). Ok (x, c.read_rank-3.new.lines)) (ranks-whole c.read_rank.new.ranks c.read_rank-2.new.ranks c.read_rank-3.new.ranks (c.in_ok-read_rank.ensures.lists ∙ ap (λ (x : List (List Line)). slice_set x 0 (at c.read_rank.new.ranks 0)) c.new-ranks.ensures) c.in_ok-read_rank-2.ensures.lists c.in_ok-read_rank-3.ensures.lists))))
