use Rattle.std.proofs.Common.{◌≡◌, ◌-◌, ℕ, List, [], length, get_or, ap, sym, ◌∙◌, subst, arith}
use Rattle.std.specs.List.Sorted.{IsStrictlyIncreasing}
use Rattle.std.proofs.lemmas.List.{get_or_default}
use Rattle.face_poset.specs.Poset.{facets_of}
use Rattle.local_field.specs.Flags.{FlagCells}
use Rattle.local_field.proofs.FlagSigns.{small}
use Rattle.local_field.proofs.flags.Flags.minus.Goals as goal

pub returns-then-cell-len-clause-rises : goal.returns-then-cell-len-clause-rises
returns-then-cell-len-clause-rises c =
    let l = small c.args.self.now.space c.args.dim c.args.cell (ap (λ (f : FlagCells). length f.space) (sym c.self.view_is) ∙ c.self.invariant.valid.layers) c.requires.first c.requires.last in
    let layer = get_or_default c.self.inside.minus c.args.dim [] c.index-self-dim.result (omega (arith, l, c.self.invariant.four)) in
    let is : c.get.result.now ≡ facets_of c.self.inside.minus c.args.dim c.args.cell = c.get.ensures ∙ ap (λ (ls : List (List ℕ)). get_or ls (c.args.cell - 1) []) (sym layer) in
    subst IsStrictlyIncreasing (sym is) (c.self.invariant.rise c.args.dim c.args.cell)
