use Rattle.std.proofs.Common.{◌≡◌, take}
use Rattle.number_lists.specs.Found.{inserted_all}
use Rattle.number_lists.proofs.found_numbers.FoundNumbers.insert_all.Given as goal

abbrev pub invariant-loop-number : goal.invariant-loop-number
invariant-loop-number l = (l.self.most ≡ l.fn.self.most) × (l.self.found ≡ inserted_all l.fn.self.found (take l.number-index l.numbers))
