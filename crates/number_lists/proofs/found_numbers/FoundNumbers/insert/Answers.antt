use Rattle.std.proofs.Common.{◌-◌, ℕ, List, true, set, sym, ap, subst, arith}
use Rattle.number_lists.specs.Found.{IsMarked, Numbers}
use Rattle.number_lists.proofs.Marked.{marked-insert, fresh_mark}
use Rattle.number_lists.proofs.found_numbers.FoundNumbers.insert.Goals as goal

pub invariant_of-self-then-not-index : goal.invariant_of-self-then-not-index
invariant_of-self-then-not-index c =
    subst (λ (found : List ℕ). IsMarked (set c.self.inside.marks.items (c.args.number - 1) true) found) (sym c.in_ok-push.ensures.items)
    (marked-insert c.self.inside.marks.items c.self.inside.numbers.items c.args.number c.requires.first (omega (arith, ap (λ (f : Numbers). f.most) c.self.view_is))
    (fresh_mark c.self.inside.marks.items (c.args.number - 1) c.index.result.now (omega (arith, c.requires.first, c.requires.last, ap (λ (f : Numbers). f.most) c.self.view_is)) c.index.ensures c.if-not-index.true)
    c.self.invariant)
