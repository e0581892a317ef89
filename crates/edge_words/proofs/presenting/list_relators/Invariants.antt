use Rattle.std.proofs.Common.{◌≡◌, take, map}
use Rattle.edge_words.specs.Words.{cycle_word, critical_disks}
use Rattle.edge_words.specs.Limits.{disk_word}
use Rattle.edge_words.specs.Counting.{IsCounted}
use Rattle.edge_words.proofs.presenting.list_relators.Given as goal

abbrev pub invariant-loop-disk : goal.invariant-loop-disk
invariant-loop-disk l =
    (l.relators ≡ map (cycle_word l.regular l.made) (take l.disk-index (critical_disks l.regular l.field.pairs)))
    × IsCounted l.fn.sum (map (disk_word l.regular l.made) (take l.disk-index (critical_disks l.regular l.field.pairs))) l.sum
