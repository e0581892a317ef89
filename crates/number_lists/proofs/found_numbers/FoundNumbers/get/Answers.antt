use Rattle.std.proofs.Common.{◌≡◌, ◌<◌, length, get_or, ap, ◌∙◌, arith}
use Rattle.std.proofs.lemmas.List.{get_or_default}
use Rattle.number_lists.specs.Found.{Numbers}
use Rattle.number_lists.proofs.Marked.{marked-at}
use Rattle.number_lists.proofs.found_numbers.FoundNumbers.get.Goals as goal

pub returns-clause-first : goal.returns-clause-first
returns-clause-first c =
    let lt : c.args.index < length c.self.inside.numbers.items = omega (arith, c.requires, ap (λ (n : Numbers). length n.found) c.self.view_is) in
    let e : c.index.result.now ≡ get_or c.self.inside.numbers.items c.args.index 0 = c.index.ensures ∙ get_or_default c.self.inside.numbers.items c.args.index c.index.result.now 0 lt in
    let w = marked-at c.self.inside.marks.items c.self.inside.numbers.items c.args.index 0 c.self.invariant lt in
    omega (arith, e, w.0)

pub returns-clause-last : goal.returns-clause-last
returns-clause-last c =
    let lt : c.args.index < length c.self.inside.numbers.items = omega (arith, c.requires, ap (λ (n : Numbers). length n.found) c.self.view_is) in
    let e : c.index.result.now ≡ get_or c.self.inside.numbers.items c.args.index 0 = c.index.ensures ∙ get_or_default c.self.inside.numbers.items c.args.index c.index.result.now 0 lt in
    let w = marked-at c.self.inside.marks.items c.self.inside.numbers.items c.args.index 0 c.self.invariant lt in
    omega (arith, e, w.1, ap (λ (n : Numbers). n.most) c.self.view_is)
