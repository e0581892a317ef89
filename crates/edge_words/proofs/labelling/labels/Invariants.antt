use Rattle.std.proofs.Common.{◌≡◌, map, take}
use Rattle.edge_words.specs.Labels.{label_of}
use Rattle.edge_words.proofs.labelling.labels.Given as goal

abbrev pub invariant-loop-index : goal.invariant-loop-index
invariant-loop-index l = l.labels ≡ map (label_of l.table.columns l.table.sheets l.table.cells) (take l.index l.presentation.words)
