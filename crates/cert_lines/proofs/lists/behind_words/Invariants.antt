use Rattle.std.proofs.Common.{◌≡◌, drop, option_map}
use Rattle.cert_lines.specs.Pieces.{words_left, room}
use Rattle.cert_lines.proofs.lists.behind_words.Given as goal

abbrev pub invariant-words : goal.invariant-words
invariant-words l = drop l.left (words_left (option_map (λ s. s.now) l.rest)) ≡ drop l.fn.count (words_left (option_map (λ s. s.now) l.fn.words))

abbrev pub decreases-words : goal.decreases-words
decreases-words l = room (option_map (λ s. s.now) l.rest)
