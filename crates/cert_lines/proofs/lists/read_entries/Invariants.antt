use Rattle.std.proofs.Common.{◌≡◌, ◌≤◌, ◌++◌, All, option_map}
use Rattle.cert_lines.specs.Pieces.{words_left, room}
use Rattle.certificates.specs.WellFormed.{entries_after}
use Rattle.cert_lines.specs.Listed as listed
use Rattle.cert_lines.proofs.lists.read_entries.Given as goal

abbrev pub invariant-words : goal.invariant-words
invariant-words l =
    record {
      whole : l.entries ++ listed.entries_of (words_left (option_map (λ s. s.now) l.rest)) ≡ listed.entries_of (words_left (option_map (λ s. s.now) l.fn.words));
      fits : entries_after l.modulus l.most l.last (listed.entries_of (words_left (option_map (λ s. s.now) l.rest)))
          ≡ entries_after l.modulus l.most 0 (listed.entries_of (words_left (option_map (λ s. s.now) l.fn.words)));
      below : All (λ e. e.0 ≤ l.last) l.entries;
    }

abbrev pub decreases-words : goal.decreases-words
decreases-words l = room (option_map (λ s. s.now) l.rest)
