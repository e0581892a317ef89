use Rattle.std.proofs.Common.{◌≡◌, List, ℕ, length, arith, ap, ◌∙◌, sym, subst}
use Rattle.number_lists.specs.Cuts.{IsCut}
use Rattle.pair_stages.specs.Columns.{Parts}
use Rattle.pair_stages.proofs.Cuts.{length-cut}
use Rattle.pair_stages.proofs.parts.Parts.cells.Goals as goal

pub part_of_cells-requires : goal.part_of_cells-requires
part_of_cells-requires c =
    let e : length c.args.self.now.cells ≡ length c.self.inside.ends.items = sym (ap (λ (v : Parts). length v.cells) c.self.view_is) ∙ length-cut 0 c.self.inside.ends.items c.self.inside.cells.items in
    record {
      index = omega (arith, e, c.requires, ap (λ (xs : List ℕ). length xs) c.deref.ensures.value);
      cut =
          subst (λ (es : List ℕ). IsCut 0 es (length c.deref-2.result.now)) (sym c.deref.ensures.value)
          (subst (λ (zs : List ℕ). IsCut 0 c.self.inside.ends.items (length zs)) (sym c.deref-2.ensures.value) c.self.invariant.0);
    }
