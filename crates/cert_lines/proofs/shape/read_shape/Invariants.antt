use Rattle.std.proofs.Common.{◌≡◌, ◌≤◌, ◌+◌, option_map}
use Rattle.cert_lines.specs.declared.shape.Stage.TheVariants as stage
use Rattle.cert_lines.specs.Shapes.{shape_from}
use Rattle.cert_lines.specs.Pieces.{words_left, room}
use Rattle.cert_lines.proofs.shape.read_shape.Given as goal

abbrev pub invariant-words : goal.invariant-words
invariant-words l =
    record {
      shape : shape_from l.stage l.count (words_left (option_map (λ s. s.now) l.rest)) ≡ shape_from stage.Numbers 0 (words_left (option_map (λ s. s.now) l.fn.words));
      within : l.count + room (option_map (λ s. s.now) l.rest) ≤ room (option_map (λ s. s.now) l.fn.words);
    }

abbrev pub decreases-words : goal.decreases-words
decreases-words l = room (option_map (λ s. s.now) l.rest)
