use Rattle.std.proofs.Common.{◌≡◌, ◌-◌, [], length, get_or, arith, ap, ◌∙◌, sym}
use Rattle.face_poset.specs.Poset.{cofaces_of, count, coface_layers}
use Rattle.face_poset.proofs.CallerLemmas.{cofaces_at}
use Rattle.local_field.specs.Flags.{FlagCells}
use Rattle.local_field.proofs.flags.FlagsGraded.cofaces.Goals as goal

pub get-requires : goal.get-requires
get-requires c =
    let r : (length (get_or c.self.inside.cofaces c.args.dim c.index-self-dim.result) ≡ count c.args.self.now.space c.args.dim) × (get_or (get_or c.self.inside.cofaces c.args.dim c.index-self-dim.result) (c.args.cell - 1) [] ≡ cofaces_of c.args.self.now.space c.args.dim c.args.cell) =
    cofaces_at c.args.self.now.space c.self.inside.cofaces c.args.dim c.args.cell c.index-self-dim.result (ap (λ (f : FlagCells). length f.space) (sym c.self.view_is) ∙ c.self.invariant.valid.layers) (c.self.invariant.cofaces_are ∙ ap (λ (f : FlagCells). coface_layers f.space) c.self.view_is) c.requires.first c.requires.last in
    omega arith

pub returns-clause-cofaces : goal.returns-clause-cofaces
returns-clause-cofaces c =
    let r : (length (get_or c.self.inside.cofaces c.args.dim c.index-self-dim.result) ≡ count c.args.self.now.space c.args.dim) × (get_or (get_or c.self.inside.cofaces c.args.dim c.index-self-dim.result) (c.args.cell - 1) [] ≡ cofaces_of c.args.self.now.space c.args.dim c.args.cell) =
    cofaces_at c.args.self.now.space c.self.inside.cofaces c.args.dim c.args.cell c.index-self-dim.result (ap (λ (f : FlagCells). length f.space) (sym c.self.view_is) ∙ c.self.invariant.valid.layers) (c.self.invariant.cofaces_are ∙ ap (λ (f : FlagCells). coface_layers f.space) c.self.view_is) c.requires.first c.requires.last in
    c.get.ensures ∙ r.1
