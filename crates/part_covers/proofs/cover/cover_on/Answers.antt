use Rattle.std.proofs.Common.{◌≡◌, Ok, subst}
use Rattle.space_parts.specs.Laws.{IsWhole}
use Rattle.edge_words.specs.Words.{Presented, relations_of}
use Rattle.live_laws.specs.Live.{Position}
use Rattle.part_covers.specs.Covered.{table_stage}
use Rattle.part_covers.proofs.Stages.{found_is_cover}
use Rattle.part_covers.proofs.cover.cover_on.Goals as goal

pub labels_on-requires-clause-cover : goal.labels_on-requires-clause-cover
labels_on-requires-clause-cover c =
    let t : Position = (c.in_ok-table.table.sheets, c.in_ok-table.table.cells) in
    (found_is_cover c.listed_are_covers.ensures c.chosen_is_good.ensures c.args.part.now.space c.args.wanted t
    (subst IsWhole c.space-space.ensures.same c.space-space.ensures.whole) c.requires.wanted
    (subst (λ (p : Presented). table_stage (relations_of p) c.args.wanted ≡ Ok t) c.requires.presentation c.in_ok-table.ensures.0)).is
