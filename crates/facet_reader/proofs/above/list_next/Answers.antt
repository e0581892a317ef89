use Rattle.std.proofs.Common.{◌-◌, ◌++◌, [], ℕ, List, length, take, get_or, ap, sym, ◌∙◌, arith}
use Rattle.std.specs.List.{flat_map}
use Rattle.std.proofs.lemmas.List.{take_all}
use Rattle.facet_reader.specs.Chains.{second_of}
use Rattle.facet_reader.proofs.AboveLemmas.{next_of, next-more, number-in, next-are}
use Rattle.facet_reader.proofs.above.list_next.Goals as goal

pub overflow_sub-number : goal.overflow_sub-number
overflow_sub-number c = (number-in c.args.pairs.now c.args.point c.args.numbers.now c.loop-number.number-index c.requires.numbers c.loop-number-test.true).0

pub get-requires : goal.get-requires
get-requires c =
    let r = number-in c.args.pairs.now c.args.point c.args.numbers.now c.loop-number.number-index c.requires.numbers c.loop-number-test.true in
    omega (arith, r.0, r.1)

pub push_second-requires : goal.push_second-requires
push_second-requires c =
    let r = number-in c.args.pairs.now c.args.point c.args.numbers.now c.loop-number.number-index c.requires.numbers c.loop-number-test.true in
    ap (λ (row : List ℕ). length row) c.get.ensures ∙ c.requires.pairs (get_or c.args.numbers.now c.loop-number.number-index 0 - 1) [] (omega (arith, r.0, r.1))

pub loop-number-preserved : goal.loop-number-preserved
loop-number-preserved c =
    c.in_ok-push_second.ensures
    ∙ (ap (λ (xs : List ℕ). xs ++ second_of c.args.point c.get.result.now) c.loop-number.invariant
    ∙ (ap (λ (row : List ℕ). flat_map (next_of c.args.pairs.now c.args.point) (take c.loop-number.number-index c.args.numbers.now) ++ second_of c.args.point row) c.get.ensures
    ∙ sym (next-more c.args.pairs.now c.args.point c.args.numbers.now c.loop-number.number-index c.loop-number-test.true)))

pub returns : goal.returns
returns c =
    next-are c.args.pairs.now c.args.point c.args.numbers.now c.loop-number.next.items c.sort_once.new.numbers.items c.requires.pairs c.requires.numbers
    (c.loop-number.invariant ∙ ap (flat_map (next_of c.args.pairs.now c.args.point)) (take_all c.loop-number.number-index c.args.numbers.now (omega (arith, c.loop-number-test.false))))
    c.sort_once.ensures.keeps c.sort_once.ensures.adds_none
