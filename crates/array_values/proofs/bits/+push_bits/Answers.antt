use Rattle.std.proofs.Common.{◌<◌, ◌+◌, ◌++◌, ◌∙◌, ap, List, ℕ, length, arith, Bool, drop, append_assoc}
use Rattle.std.proofs.lemmas.Result.{err_from_is_err_and}
use Rattle.gap_text.specs.Nest.{view}
use Rattle.gap_text.specs.Value.{Value}
use Rattle.array_values.specs.Bits.{bits_of}
use Rattle.array_values.proofs.Gather.{gather-more, gather-fault}
use Rattle.array_values.proofs.Levels.{bits_of-level}
use Rattle.array_values.proofs.bits.+push_bits.Goals as goal

pub returns-in_err-push_bits-clause-err : goal.returns-in_err-push_bits-clause-err
returns-in_err-push_bits-clause-err t c =
    let p = err_from_is_err_and c.from_residual-in_err-push_bits.result c.from_residual-in_err-push_bits.ensures.1 in
    let (bs, read, _) = c.loop-index.invariant in
    let i : ℕ = c.loop-index.index in
    let items : List Value = c.in_ok-items.items.now in
    let lt : i < length items = omega (arith, c.len-index-end.ensures, c.loop-index-test.true) in
    let below : c.args.level < length c.args.sizes.now = omega (arith, c.requires, c.if-level-sizes.false) in
    rw (p.1, p.2) (λ ne. bits_of-level c.args.sizes.now c.args.level (view c.args.nest.now) items below c.in_ok-items.ensures.ok
    ∙ gather-fault 0 (λ _ w. bits_of (drop (c.args.level + 1) c.args.sizes.now) w) items i (view c.get.result.now) bs c.in_err-push_bits.field-0.0 lt c.get.ensures read (c.in_err-push_bits.ensures.err ne))

pub loop-index-preserved : goal.loop-index-preserved
loop-index-preserved t c =
    let (bs, read, old) = c.loop-index.invariant in
    let (cs, next, new) = c.in_ok-push_bits.ensures.ok in
    let i : ℕ = c.loop-index.index in
    let items : List Value = c.in_ok-items.items.now in
    let lt : i < length items = omega (arith, c.len-index-end.ensures, c.loop-index-test.true) in (
      bs ++ cs,
      gather-more 0 (λ _ w. bits_of (drop (c.args.level + 1) c.args.sizes.now) w) items i (view c.get.result.now) bs cs lt c.get.ensures read next,
      new ∙ (ap (λ (ds : List Bool). ds ++ cs) old ∙ append_assoc c.args.bits.now.items bs cs),
    )
