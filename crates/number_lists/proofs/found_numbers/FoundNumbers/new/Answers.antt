use Rattle.std.proofs.Common.{List, Bool, false, sym, subst, replicate}
use Rattle.number_lists.specs.Found.{IsMarked}
use Rattle.number_lists.proofs.Marked.{marked-none}
use Rattle.number_lists.proofs.found_numbers.FoundNumbers.new.Goals as goal

pub invariant_of-result : goal.invariant_of-result
invariant_of-result c =
    subst (λ (m : List Bool). IsMarked m c.new.result.items) (sym (c.in_ok-marks.ensures.items_if_clones_equal (λ y e. e)))
    (subst (λ found. IsMarked (replicate {A = Bool} c.args.most false) found) (sym c.new.ensures.items) (marked-none c.args.most))
