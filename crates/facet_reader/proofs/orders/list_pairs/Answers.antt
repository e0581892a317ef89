use Rattle.std.proofs.Common.{◌<◌, ◌++◌, ℕ, List, length, take, ap, sym, ◌∙◌, arith, append-nil}
use Rattle.std.specs.List.{flat_map}
use Rattle.std.proofs.lemmas.Result.{err_from_is_err_and}
use Rattle.gap_text.specs.Nest.{view}
use Rattle.gap_text.specs.declared.nest.Nest.{Nest}
use Rattle.facet_reader.specs.Orders.{pair_fault, pair_in, two_in}
use Rattle.facet_reader.proofs.RowLemmas.{first-more, first-at, joined-more}
use Rattle.facet_reader.proofs.OrderLemmas.{pair-fault-list, pair-in-list}
use Rattle.facet_reader.proofs.orders.list_pairs.Goals as goal

pub loop-index-preserved-in_default : goal.loop-index-preserved-in_default
loop-index-preserved-in_default c =
    let i : ℕ = c.loop-index.index in
    let lt : i < length c.args.items.now = omega (arith, c.len-index-end.ensures, c.loop-index-test.true) in
    record {
      sound = first-more (pair_fault c.args.points) c.args.items.now i (view c.get.result.now) lt c.get.ensures c.loop-index.invariant.sound (ap (λ (n : Nest). pair_fault c.args.points (view n)) c.in_default.is);
      pairs = c.loop-index.invariant.pairs
          ∙ sym (joined-more pair_in c.args.items.now i (view c.get.result.now) lt c.get.ensures
          ∙ (ap (λ (n : Nest). flat_map pair_in (take i c.args.items.now) ++ pair_in (view n)) c.in_default.is ∙ append-nil (flat_map pair_in (take i c.args.items.now))));
      rising = c.loop-index.invariant.rising;
    }

pub push_pair-requires : goal.push_pair-requires
push_pair-requires c = c.loop-index.invariant.rising

pub returns-in_err-push_pair-clause-err : goal.returns-in_err-push_pair-clause-err
returns-in_err-push_pair-clause-err c =
    let p = err_from_is_err_and c.from_residual.result c.from_residual.ensures.1 in
    let i : ℕ = c.loop-index.index in
    let lt : i < length c.args.items.now = omega (arith, c.len-index-end.ensures, c.loop-index-test.true) in
    rw (p.1, p.2) (λ ne. first-at (pair_fault c.args.points) c.args.items.now i (view c.get.result.now) c.in_err-push_pair.field-0.0 lt c.get.ensures c.loop-index.invariant.sound
    (pair-fault-list c.args.points (view c.get.result.now) c.in-List.place c.in-List.pair (ap view c.in-List.is) ∙ c.in_err-push_pair.ensures.err ne))

pub loop-index-preserved : goal.loop-index-preserved
loop-index-preserved c =
    let i : ℕ = c.loop-index.index in
    let lt : i < length c.args.items.now = omega (arith, c.len-index-end.ensures, c.loop-index-test.true) in
    let is = ap view c.in-List.is in
    record {
      sound = first-more (pair_fault c.args.points) c.args.items.now i (view c.get.result.now) lt c.get.ensures c.loop-index.invariant.sound
          (pair-fault-list c.args.points (view c.get.result.now) c.in-List.place c.in-List.pair is ∙ c.in_ok-push_pair.ensures.ok);
      pairs = c.in_ok-push_pair.ensures.pairs
          ∙ (ap (λ (rs : List (ℕ × ℕ)). rs ++ two_in c.in-List.pair) c.loop-index.invariant.pairs
          ∙ sym (joined-more pair_in c.args.items.now i (view c.get.result.now) lt c.get.ensures
          ∙ ap (λ (rs : List (ℕ × ℕ)). flat_map pair_in (take i c.args.items.now) ++ rs) (pair-in-list (view c.get.result.now) c.in-List.place c.in-List.pair is)));
      rising = c.in_ok-push_pair.ensures.rising;
    }
