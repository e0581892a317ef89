use Rattle.std.proofs.Common.{◌≡◌, option_map}
use Rattle.cert_lines.specs.Pieces.{words_left, room}
use Rattle.cert_lines.specs.Listed as listed
use Rattle.cert_lines.proofs.lists.behind_bar.Given as goal

abbrev pub invariant-words : goal.invariant-words
invariant-words l = listed.behind_bar (words_left (option_map (λ s. s.now) l.rest)) ≡ listed.behind_bar (words_left (option_map (λ s. s.now) l.fn.words))

abbrev pub decreases-words : goal.decreases-words
decreases-words l = room (option_map (λ s. s.now) l.rest)
