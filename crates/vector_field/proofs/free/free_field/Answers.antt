use Rattle.std.proofs.Common.{◌≡◌, ℕ, List, sym, subst}
use Rattle.face_poset.specs.Poset.{count}
use Rattle.vector_field.specs.Pairs.{Field}
use Rattle.vector_field.specs.Maximal.{IsMaximal}
use Rattle.vector_field.specs.Stages.{Keeps, AreSettled}
use Rattle.vector_field.proofs.Settled.{are-settled-more, maximal-from}
use Rattle.vector_field.proofs.free.free_field.Goals as goal

-- what each dimension settles stays settled
three : (space : List (List (List ℕ))) (high middle all field : Field) → field ≡ all → Keeps high.pairs middle.pairs → Keeps middle.pairs all.pairs
    → AreSettled space high.pairs 2 (count space 2) → AreSettled space middle.pairs 1 (count space 1) → AreSettled space all.pairs 0 (count space 0) → IsMaximal space field.pairs
three space high middle all field e k l a b d =
    subst (λ (f : Field). IsMaximal space f.pairs) (sym e)
    (maximal-from space all.pairs d (are-settled-more space middle.pairs all.pairs l 1 (count space 1) b)
    (are-settled-more space middle.pairs all.pairs l 2 (count space 2) (are-settled-more space high.pairs middle.pairs k 2 (count space 2) a)))

pub returns-clause-maximal : goal.returns-clause-maximal
returns-clause-maximal g c =
    three (g.G.Graded.space c.args.graded.now) c.pair_dimension.new.pairing c.pair_dimension-2.new.pairing c.pair_dimension-3.new.pairing c.in_ok-field.field c.in_ok-field.ensures
    c.in_ok-pair_dimension-2.ensures.keeps c.in_ok-pair_dimension-3.ensures.keeps c.in_ok-pair_dimension.ensures.settled c.in_ok-pair_dimension-2.ensures.settled c.in_ok-pair_dimension-3.ensures.settled
