use Rattle.std.proofs.Common.{◌<◌, ℕ, length, ap, sym, ◌∙◌, arith}
use Rattle.gap_text.specs.Nest.{view}
use Rattle.gap_text.specs.declared.nest.Nest.{Nest}
use Rattle.facet_reader.specs.Labels.{list_place}
use Rattle.facet_reader.proofs.RowLemmas.{first-more, first-at, unless-first}
use Rattle.facet_reader.proofs.labels.find_list.Goals as goal

pub returns-in-List : goal.returns-in-List
returns-in-List c =
    let i : ℕ = c.loop-index.index in
    let lt : i < length c.args.items.now = omega (arith, c.len-index-end.ensures, c.loop-index-test.true) in
    sym (unless-first c.args.place c.args.items.now i lt
    ∙ first-at list_place c.args.items.now i (view c.get.result.now) c.in-List.inner lt c.get.ensures c.loop-index.invariant (ap (λ (n : Nest). list_place (view n)) c.in-List.is))

pub loop-index-preserved : goal.loop-index-preserved
loop-index-preserved c =
    let i : ℕ = c.loop-index.index in
    let lt : i < length c.args.items.now = omega (arith, c.len-index-end.ensures, c.loop-index-test.true) in
    first-more list_place c.args.items.now i (view c.get.result.now) lt c.get.ensures c.loop-index.invariant (ap (λ (n : Nest). list_place (view n)) c.in_default.is)
