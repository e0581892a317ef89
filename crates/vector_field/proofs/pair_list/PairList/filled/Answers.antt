use Rattle.std.proofs.Common.{ℕ, List, sym, subst, arith}
use Rattle.face_poset.specs.Poset.{count}
use Rattle.vector_field.specs.Pairs.{IsFieldOf}
use Rattle.vector_field.proofs.Filled.{upto-field}
use Rattle.vector_field.proofs.pair_list.PairList.filled.Goals as goal

pub returns-clause-valid : goal.returns-clause-valid
returns-clause-valid g c =
    let space : List (List (List ℕ)) = g.G.Graded.space c.args.graded.now in
    subst (IsFieldOf space) (sym c.in_ok-field.ensures)
    (upto-field space c.args.dim c.requires.dim c.self.inside.pairing c.fill.new.pairing (count space c.args.dim) (omega arith) (subst (IsFieldOf space) (sym c.self.view_is) c.requires.field) c.fill.ensures.counts c.in_ok-fill.ensures.pairs)
