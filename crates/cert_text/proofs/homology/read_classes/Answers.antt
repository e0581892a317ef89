use Rattle.std.proofs.Common.{◌∙◌, ap, Ok, List, rules}
use Rattle.std.specs.Prelude.{slice_set}
use Rattle.certificates.specs.declared.lines.Line.{Line}
use Rattle.certificates.specs.Degrees.{at}
use Rattle.cert_text.proofs.Equivalents.{then_ok}
use Rattle.cert_text.proofs.SideLemmas.{classes-whole}
use Rattle.cert_text.proofs.TakingLemmas.{breaks, then_err}
use Rattle.cert_text.proofs.homology.read_classes.Goals as goal

pub returns-in_err-read_class : goal.returns-in_err-read_class
returns-in_err-read_class c =
    breaks _ _ _ c.from_residual.result c.in_err-read_class.field-0.0 (search rules) (λ h. then_err _ _ _ (c.in_err-read_class.ensures.read h))

pub returns-in_err-read_class-2 : goal.returns-in_err-read_class-2
returns-in_err-read_class-2 c =
    breaks _ _ _ c.from_residual-in_err-read_class-2.result c.in_err-read_class-2.field-0.0 (search rules) (λ h. then_ok _ _ _ c.in_ok-read_class.ensures.read ∙ (then_err _ _ _ (c.in_err-read_class-2.ensures.read h)))

pub returns-in_err-read_class-3 : goal.returns-in_err-read_class-3
returns-in_err-read_class-3 c =
    breaks _ _ _ c.from_residual-in_err-read_class-3.result c.in_err-read_class-3.field-0.0 (search rules) (λ h. then_ok _ _ _ c.in_ok-read_class.ensures.read ∙ (then_ok _ _ _ c.in_ok-read_class-2.ensures.read ∙ (then_err _ _ _ (c.in_err-read_class-3.ensures.read h))))

pub returns-in_err-read_class-4 : goal.returns-in_err-read_class-4
returns-in_err-read_class-4 c =
    breaks _ _ _ c.from_residual-in_err-read_class-4.result c.in_err-read_class-4.field-0.0 (search rules) (λ h. then_ok _ _ _ c.in_ok-read_class.ensures.read ∙ (then_ok _ _ _ c.in_ok-read_class-2.ensures.read ∙ (then_ok _ _ _ c.in_ok-read_class-3.ensures.read ∙ (then_err _ _ _ (c.in_err-read_class-4.ensures.read h)))))

pub returns : goal.returns
returns c = then_ok _ _ _ c.in_ok-read_class.ensures.read ∙ (then_ok _ _ _ c.in_ok-read_class-2.ensures.read ∙ (then_ok _ _ _ c.in_ok-read_class-3.ensures.read ∙ (then_ok _ _ _ c.in_ok-read_class-4.ensures.read ∙ (ap (λ (x : List (List Line)). Ok (x, c.read_class-4.new.lines)) (classes-whole c.read_class.new.classes c.read_class-2.new.classes c.read_class-3.new.classes c.read_class-4.new.classes (c.in_ok-read_class.ensures.lists ∙ ap (λ (x : List (List Line)). slice_set x 0 (at c.read_class.new.classes 0)) c.new-classes.ensures) c.in_ok-read_class-2.ensures.lists c.in_ok-read_class-3.ensures.lists c.in_ok-read_class-4.ensures.lists)))))
