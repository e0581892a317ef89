use Rattle.std.proofs.Common.{◌≤◌, option_map}
use Rattle.cert_lines.specs.Pieces.{room}
use Rattle.cert_lines.proofs.lists.count_entries.Given as goal

abbrev pub invariant-words : goal.invariant-words
invariant-words l = l.count ≤ l.most

abbrev pub decreases-words : goal.decreases-words
decreases-words l = room (option_map (λ s. s.now) l.rest)
