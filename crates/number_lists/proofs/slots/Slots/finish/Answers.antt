use Rattle.std.proofs.Common.{◌≡◌, List, ℕ, length, map, ap, sym, ◌∙◌, subst}
use Rattle.number_lists.specs.Rooms.{Filling, filled, widths, IsFilled}
use Rattle.number_lists.specs.Cuts.{cut}
use Rattle.number_lists.proofs.Rooms.{IsCut-filled, filled-full}
use Rattle.number_lists.proofs.slots.Slots.finish.Goals as goal

parts_are : (f : Filling) (ends nexts xs : List ℕ) → (let g : Filling = record { rooms = widths 0 ends; parts = filled 0 ends nexts xs } in g ≡ f)
    → IsFilled 0 ends nexts (length xs) → map (λ part. length part) f.parts ≡ f.rooms → cut 0 ends xs ≡ f.parts
parts_are f ends nexts xs e h full =
    let same : map (λ part. length part) (filled 0 ends nexts xs) ≡ widths 0 ends = subst (λ (g : Filling). map (λ part. length part) g.parts ≡ g.rooms) (sym e) full in
    filled-full 0 ends nexts xs h same ∙ ap (λ (g : Filling). g.parts) e

pub from_parts-requires : goal.from_parts-requires
from_parts-requires c = IsCut-filled 0 c.self.inside.ends.items c.self.inside.nexts.items (length c.self.inside.entries.items) c.self.invariant.0

pub returns : goal.returns
returns c = c.from_parts.ensures ∙ parts_are c.args.self c.self.inside.ends.items c.self.inside.nexts.items c.self.inside.entries.items c.self.view_is c.self.invariant.0 c.requires
