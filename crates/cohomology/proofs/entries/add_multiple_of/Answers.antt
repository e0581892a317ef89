use Rattle.std.proofs.Common.{◌≡◌, ◌-◌, ℕ, List, get_or, length, length-set, set, refl, ap, sym, ◌∙◌, arith}
use Rattle.std.proofs.Math.ListN.{drop_of_length-le}
use Rattle.cohomology.proofs.Entered.{added, added_more, multiple_is}
use Rattle.cohomology.proofs.entries.add_multiple_of.Goals as goal

pub loop-index-init : goal.loop-index-init
loop-index-init g c = record { is = refl; long = refl }

pub get-requires-clause-last : goal.get-requires-clause-last
get-requires-clause-last g c =
    omega (
      arith,
      c.loop-index.invariant.long,
      (c.requires.numbers c.loop-index.index (0, 0) (omega (arith, c.loop-index-test.true, c.len-index-end.ensures.len))).1,
      ap (λ e. e.0) c.get-entry.ensures,
    )

pub set-requires-clause-last : goal.set-requires-clause-last
set-requires-clause-last g c =
    omega (
      arith,
      c.loop-index.invariant.long,
      (c.requires.numbers c.loop-index.index (0, 0) (omega (arith, c.loop-index-test.true, c.len-index-end.ensures.len))).1,
      ap (λ e. e.0) c.get-entry.ensures,
    )

pub loop-index-preserved : goal.loop-index-preserved
loop-index-preserved g c =
    let s : ℕ = g.F.Field.number_of c.args.factor in
    let p : ℕ = c.get-entry.result.position in
    let v : ℕ = c.get-entry.result.value in
    let x : List ℕ = c.loop-index.x in
    let at : c.set.new.self ≡ set x (p - 1) (g.F.Field.ops.add (get_or x (p - 1) 0) (g.F.Field.ops.mul s v)) =
    c.set.ensures
    ∙ ap (set x (p - 1))
    (c.add-sum.ensures ∙ ap (λ k. g.F.Field.ops.add k (g.F.Field.number_of c.mul.result)) c.get.ensures
    ∙ ap (g.F.Field.ops.add (get_or x (p - 1) 0)) (c.mul.ensures ∙ ap (g.F.Field.ops.mul s) c.from_number-value.ensures)) in
    record {
      is =
          added_more g.F.Field.ops g.met.F.Field.laws s c.args.entries.now (added g.F.Field.ops g.met.F.Field.laws s c.args.x.now c.args.entries.now) x c.set.new.self c.loop-index.index (p, v)
          (omega (arith, c.loop-index-test.true, c.len-index-end.ensures.len)) c.get-entry.ensures c.loop-index.invariant.is at;
      long = ap (λ ys. length ys) c.set.ensures ∙ length-set x (p - 1) (g.F.Field.number_of c.add-sum.result) ∙ c.loop-index.invariant.long;
    }

pub returns : goal.returns
returns g c =
    ap (added g.F.Field.ops g.met.F.Field.laws (g.F.Field.number_of c.args.factor) c.loop-index.x) (sym (drop_of_length-le c.args.entries.now (omega (arith, c.loop-index-test.false, c.len-index-end.ensures.len))))
    ∙ c.loop-index.invariant.is
    ∙ multiple_is g.F.Field.ops g.met.F.Field.laws (g.F.Field.number_of c.args.factor) c.args.x.now c.args.entries.now c.len-elements.ensures.elements c.requires
