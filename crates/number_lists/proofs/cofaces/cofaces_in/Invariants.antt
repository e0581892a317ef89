use Rattle.std.proofs.Common.{◌≡◌, take, map}
use Rattle.std.specs.List.{concat}
use Rattle.number_lists.specs.Words.{upto}
use Rattle.number_lists.specs.Cofaces.{coface_lists}
use Rattle.number_lists.proofs.Counting.{times}
use Rattle.number_lists.proofs.cofaces.cofaces_in.Given as goal

abbrev pub invariant-loop-index : goal.invariant-loop-index
invariant-loop-index l = record {
  rooms : l.slots.rooms ≡ map (λ n. times n (concat l.cells)) (upto l.most);
  parts : l.slots.parts ≡ coface_lists l.most (take l.index l.cells);
}
