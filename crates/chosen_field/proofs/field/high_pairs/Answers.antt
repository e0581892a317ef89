use Rattle.std.proofs.Common.{◌≡◌, ℕ, List, ◌∙◌, ap}
use Rattle.std.proofs.lemmas.Result.{IfOk-weaker}
use Rattle.face_poset.specs.declared.cells.Pair.{Pair}
use Rattle.vector_field.specs.Pairs.{Field}
use Rattle.chosen_field.specs.Chosen.{stage, high}
use Rattle.chosen_field.proofs.field.high_pairs.Goals as goal

pub returns-clause-pairs : goal.returns-clause-pairs
returns-clause-pairs g c =
    let space : List (List (List ℕ)) = g.G.Graded.space c.args.graded.now in
    IfOk-weaker c.stage-2.result (λ (f : Field). f.pairs ≡ stage space 1 c.in_ok-disks.disks.pairs) (λ (f : Field). f.pairs ≡ high space)
    (λ f e. e ∙ ap (λ (ps : List Pair). stage space 1 ps) (c.in_ok-disks.ensures.pairs ∙ ap (λ (ps : List Pair). stage space 2 ps) c.in_ok-none.ensures.pairs)) c.stage-2.ensures.pairs
