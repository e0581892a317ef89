use Rattle.std.proofs.Common.{◌≡◌, ◌+◌, ◌-◌, ◌<◌, ℕ, List, length, map, get_or, refl, ap, sym, ◌∙◌, arith}
use Rattle.linear_laws.specs.Vectors.{plus_scaled}
use Rattle.linear_laws.proofs.CallerLemmas.{plus_scaled-long}
use Rattle.chain_laws.specs.Lines.{cochain_of}
use Rattle.chain_laws.specs.AllLines.{left_sides}
use Rattle.cohomology.proofs.Writing.{length-cochain, sides_matrix, taken, taken_all, taken_more}
use Rattle.cohomology.proofs.written.without_classes.Goals as goal

pub loop-index-init : goal.loop-index-init
loop-index-init g c = record {
  long = ap (λ xs. length xs) c.in_ok-rest.ensures;
  is = ap (taken g.F.Field.ops g.met.F.Field.laws c.args.values.now (map (cochain_of (length c.args.x.now)) (left_sides c.args.lines.now))) c.in_ok-rest.ensures;
}

pub loop-index-preserved : goal.loop-index-preserved
loop-index-preserved g c =
    let i : ℕ = c.loop-index.index in
    let x : List ℕ = c.loop-index.rest in
    let n : ℕ = length c.args.x.now in
    let s : ℕ = g.F.Field.ops.neg (g.F.Field.number_of c.get.result) in
    let z : i + 1 - 1 ≡ i = omega arith in
    let same : c.add_multiple_of.new.x ≡ plus_scaled g.F.Field.ops s x (cochain_of n c.index-lines-index.result.left) =
    c.add_multiple_of.ensures
    ∙ ap (λ k. plus_scaled g.F.Field.ops k x (cochain_of (length x) c.left.result.now)) c.neg-factor.ensures
    ∙ ap (λ k. plus_scaled g.F.Field.ops s x (cochain_of k c.left.result.now)) c.loop-index.invariant.long
    ∙ ap (λ es. plus_scaled g.F.Field.ops s x (cochain_of n es)) c.left.ensures in
    let li : i < length c.args.values.now = omega (arith, c.loop-index-test.true, c.len-index-end.ensures.len) in
    record {
      long =
          ap (λ xs. length xs) same
          ∙ plus_scaled-long g.F.Field.ops g.met.F.Field.laws s x (cochain_of n c.index-lines-index.result.left) (c.loop-index.invariant.long ∙ sym (length-cochain n c.index-lines-index.result.left))
          ∙ c.loop-index.invariant.long;
      is =
          taken_more g.F.Field.ops g.met.F.Field.laws n i (g.F.Field.number_of c.get.result) c.args.values.now c.args.lines.now c.index-lines-index.result x c.add_multiple_of.new.x li (omega (arith, li, c.requires.count)) c.index-lines-index.is
          (c.get.ensures ∙ ap (λ k. get_or c.args.values.now k 0) z) same
          ∙ c.loop-index.invariant.is;
    }

pub returns-clause-long : goal.returns-clause-long
returns-clause-long g c = c.loop-index.invariant.long

pub returns-clause-sum : goal.returns-clause-sum
returns-clause-sum g c =
    taken_all g.F.Field.ops g.met.F.Field.laws (length c.args.x.now) c.loop-index.index c.args.values.now c.args.lines.now c.args.x.now c.loop-index.rest (sides_matrix g.F.Field.ops c.entries_are_cochains.ensures (length c.args.x.now) c.args.lines.now c.requires.sides)
    c.len-index-end.ensures.elements c.requires.count (record { long = refl; elements = c.len-elements.ensures.elements }) (omega (arith, c.loop-index-test.false, c.len-index-end.ensures.len)) c.loop-index.invariant.is
