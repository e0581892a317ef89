use Rattle.std.proofs.Common.{◌≡◌, ◌<◌, ◌+◌, ◌++◌, ◌∷◌, [], ℕ, length, take, ap, sym, ◌∙◌, arith, true, false, append-nil}
use Rattle.std.proofs.lemmas.Grind.{common_steps}
use Rattle.gap_text.specs.Nest.{view}
use Rattle.gap_text.specs.declared.nest.Nest.{Nest}
use Rattle.number_lists.specs.Words.{holds}
use Rattle.number_lists.proofs.CallerLemmas.{holds-push}
use Rattle.facet_reader.specs.declared.fault.FacetFault.TheVariants.{BadLabel, Repeated}
use Rattle.facet_reader.specs.Labels.{label_in, label_fault, labels_in}
use Rattle.facet_reader.proofs.RowLemmas.{labels-more, labels-at, label-zero, label-at, joined-more}
use Rattle.facet_reader.proofs.labels.read_row.Goals as goal

pub loop-index-preserved-in_default : goal.loop-index-preserved-in_default
loop-index-preserved-in_default c =
    let i : ℕ = c.loop-index.index in
    let lt : i < length c.args.items.now = omega (arith, c.len-index-end.ensures, c.loop-index-test.true) in
    let more : labels_in (take (i + 1) c.args.items.now) ≡ labels_in (take i c.args.items.now) =
    joined-more label_in c.args.items.now i (view c.get.result.now) lt c.get.ensures
    ∙ (ap (λ (n : Nest). labels_in (take i c.args.items.now) ++ label_in (view n)) c.in_default.is ∙ append-nil (labels_in (take i c.args.items.now))) in
    record {
      sound = labels-more c.args.items.now i (view c.get.result.now) lt c.get.ensures c.loop-index.invariant.sound (ap (λ (n : Nest). label_fault (labels_in (take i c.args.items.now)) (view n)) c.in_default.is);
      row = c.loop-index.invariant.row ∙ sym more;
      seen = λ q. c.loop-index.invariant.seen q ∙ ap (λ xs. holds xs q) (sym more);
    }

pub returns-then-value-eq0-clause-err : goal.returns-then-value-eq0-clause-err
returns-then-value-eq0-clause-err c =
    let i : ℕ = c.loop-index.index in
    let lt : i < length c.args.items.now = omega (arith, c.len-index-end.ensures, c.loop-index-test.true) in
    λ _. labels-at c.args.items.now i (view c.get.result.now) (BadLabel c.in-Number.place) lt c.get.ensures c.loop-index.invariant.sound
    (ap (λ (n : Nest). label_fault (labels_in (take i c.args.items.now)) (view n)) c.in-Number.is ∙ label-zero (labels_in (take i c.args.items.now)) c.in-Number.place c.in-Number.value c.if-value-eq0.true)

pub returns-then-not-branch-clause-err : goal.returns-then-not-branch-clause-err
returns-then-not-branch-clause-err c =
    let i : ℕ = c.loop-index.index in
    let lt : i < length c.args.items.now = omega (arith, c.len-index-end.ensures, c.loop-index-test.true) in
    let stands : holds (labels_in (take i c.args.items.now)) c.in-Number.value ≡ true = sym (c.loop-index.invariant.seen c.in-Number.value) ∙ grind (arith, common_steps, c.in_ok-insert.ensures.added, c.if-not-branch.true) in
    λ _. labels-at c.args.items.now i (view c.get.result.now) (Repeated c.in-Number.place) lt c.get.ensures c.loop-index.invariant.sound
    (ap (λ (n : Nest). label_fault (labels_in (take i c.args.items.now)) (view n)) c.in-Number.is ∙ label-at (labels_in (take i c.args.items.now)) c.in-Number.place c.in-Number.value true c.if-value-eq0.false stands)

pub loop-index-preserved : goal.loop-index-preserved
loop-index-preserved c =
    let i : ℕ = c.loop-index.index in
    let lt : i < length c.args.items.now = omega (arith, c.len-index-end.ensures, c.loop-index-test.true) in
    let new : holds (labels_in (take i c.args.items.now)) c.in-Number.value ≡ false = sym (c.loop-index.invariant.seen c.in-Number.value) ∙ grind (arith, common_steps, c.in_ok-insert.ensures.added, c.if-not-branch.false) in
    let more : labels_in (take (i + 1) c.args.items.now) ≡ labels_in (take i c.args.items.now) ++ c.in-Number.value ∷ [] =
    joined-more label_in c.args.items.now i (view c.get.result.now) lt c.get.ensures ∙ ap (λ (n : Nest). labels_in (take i c.args.items.now) ++ label_in (view n)) c.in-Number.is in
    record {
      sound = labels-more c.args.items.now i (view c.get.result.now) lt c.get.ensures c.loop-index.invariant.sound
          (ap (λ (n : Nest). label_fault (labels_in (take i c.args.items.now)) (view n)) c.in-Number.is ∙ label-at (labels_in (take i c.args.items.now)) c.in-Number.place c.in-Number.value false c.if-value-eq0.false new);
      row = c.in_ok-push.ensures.items ∙ (ap (λ xs. xs ++ c.in-Number.value ∷ []) c.loop-index.invariant.row ∙ sym more);
      seen = λ q. grind (arith, common_steps, c.in_ok-insert.ensures.updates.0 q, c.loop-index.invariant.seen q, holds-push (labels_in (take i c.args.items.now)) c.in-Number.value q, ap (λ xs. holds xs q) more);
    }
