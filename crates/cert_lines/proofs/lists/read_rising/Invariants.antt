use Rattle.std.proofs.Common.{◌≡◌, ◌++◌, option_map}
use Rattle.cert_lines.specs.Pieces.{words_left, room}
use Rattle.cert_lines.specs.Listed as listed
use Rattle.cert_lines.proofs.lists.read_rising.Given as goal

abbrev pub invariant-words : goal.invariant-words
invariant-words l =
    record {
      whole : l.numbers.items ++ listed.numbers_of (words_left (option_map (λ s. s.now) l.rest)) ≡ listed.numbers_of (words_left (option_map (λ s. s.now) l.fn.words));
      rises : listed.rise_from l.last l.most (listed.numbers_of (words_left (option_map (λ s. s.now) l.rest)))
          ≡ listed.rise_from 0 l.most (listed.numbers_of (words_left (option_map (λ s. s.now) l.fn.words)));
    }

abbrev pub decreases-words : goal.decreases-words
decreases-words l = room (option_map (λ s. s.now) l.rest)
