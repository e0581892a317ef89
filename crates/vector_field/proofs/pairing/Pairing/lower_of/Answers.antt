use Rattle.std.proofs.Common.{◌≡◌, List, false, ap, subst, MatchOption}
use Rattle.std.specs.List.{list_any}
use Rattle.number_lists.specs.Members.{In}
use Rattle.face_poset.specs.declared.cells.Pair.{Pair}
use Rattle.vector_field.specs.Pairs.{pair, Field}
use Rattle.vector_field.specs.Pairings.{has_upper}
use Rattle.vector_field.proofs.Noted.{lower_tells}
use Rattle.vector_field.proofs.pairing.Pairing.lower_of.Goals as goal

pub returns : goal.returns
returns c =
    subst (λ (ps : List Pair). MatchOption c.get.result (list_any (has_upper c.args.dim c.args.cell) ps ≡ false) (λ lower. In (pair c.args.dim lower c.args.cell) ps)) (ap (λ (f : Field). f.pairs) c.self.view_is)
    (lower_tells c.self.inside.pairs.items c.self.inside.uppers c.self.inside.lowers c.self.invariant c.args.dim c.args.cell c.get.result c.requires.cell.0 c.get.ensures)
