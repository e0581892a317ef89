use Rattle.std.proofs.Common.{◌≡◌, ℕ, take, None, [], nat_cmp}
use Rattle.std.specs.BTreeSet.{contains}
use Rattle.number_lists.specs.Words.{holds}
use Rattle.facet_reader.specs.Labels.{labels_fault, labels_in}
use Rattle.facet_reader.proofs.labels.read_row.Given as goal

abbrev pub invariant-loop-index : goal.invariant-loop-index
invariant-loop-index l = record {
  sound : labels_fault [] (take l.index l.items) ≡ None;
  row : l.row.items ≡ labels_in (take l.index l.items);
  seen : (q : ℕ) → contains nat_cmp l.seen q ≡ holds (labels_in (take l.index l.items)) q;
}
