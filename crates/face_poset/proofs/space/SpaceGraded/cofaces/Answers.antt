use Rattle.std.proofs.Common.{◌≡◌, ◌-◌, [], length, get_or, arith, ap, ◌∙◌, sym}
use Rattle.face_poset.specs.Poset.{cofaces_of, count, coface_layers}
use Rattle.face_poset.proofs.SpaceLemmas.{cofaces_at}
use Rattle.face_poset.proofs.space.SpaceGraded.cofaces.Goals as goal

pub get-requires : goal.get-requires
get-requires c =
    let r : (length (get_or c.self.inside.cofaces c.args.dim c.index-self-dim.result) ≡ count c.args.self.now c.args.dim) × (get_or (get_or c.self.inside.cofaces c.args.dim c.index-self-dim.result) (c.args.cell - 1) [] ≡ cofaces_of c.args.self.now c.args.dim c.args.cell) =
    cofaces_at c.args.self.now c.self.inside.cofaces c.args.dim c.args.cell c.index-self-dim.result (ap length (sym c.self.view_is) ∙ c.self.invariant.0.layers) (c.self.invariant.2 ∙ ap coface_layers c.self.view_is) c.requires.first c.requires.last in
    omega arith

pub returns-clause-cofaces : goal.returns-clause-cofaces
returns-clause-cofaces c =
    let r : (length (get_or c.self.inside.cofaces c.args.dim c.index-self-dim.result) ≡ count c.args.self.now c.args.dim) × (get_or (get_or c.self.inside.cofaces c.args.dim c.index-self-dim.result) (c.args.cell - 1) [] ≡ cofaces_of c.args.self.now c.args.dim c.args.cell) =
    cofaces_at c.args.self.now c.self.inside.cofaces c.args.dim c.args.cell c.index-self-dim.result (ap length (sym c.self.view_is) ∙ c.self.invariant.0.layers) (c.self.invariant.2 ∙ ap coface_layers c.self.view_is) c.requires.first c.requires.last in
    c.get.ensures ∙ r.1
