use Rattle.std.proofs.Common.{◌≡◌, ◌<◌, ◌+◌, ◌++◌, ◌∷◌, [], ◌∙◌, ℕ, length, ap, sym, subst, arith}
use Rattle.std.specs.Prelude.{slice_index_or}
use Rattle.std.proofs.lemmas.List.{length-append}
use Rattle.edge_words.specs.Words.{relations_of}
use Rattle.cover_search.specs.Indexes.{IsNaming, IsIndex}
use Rattle.cover_search.proofs.Indexing.{rising-names, naming-more, indexed}
use Rattle.number_lists.specs.Cofaces.{coface_lists}
use Rattle.cover_search.proofs.index.index_of.Goals as goal

pub loop-number-preserved : goal.loop-number-preserved
loop-number-preserved c =
    let e : c.push.new.self ≡ c.loop-number.named ++ c.in_ok-generators_of.field-0.items ∷ [] = c.in_ok-push.ensures.ok ∙ ap (λ xs. c.loop-number.named ++ xs ∷ []) c.deref.ensures.value in
    let n : IsNaming (length c.generators-most.result.now) (slice_index_or c.args.presentation.now.relators c.loop-number.number []) c.in_ok-generators_of.field-0.items =
    subst (λ w. IsNaming (length c.generators-most.result.now) w c.in_ok-generators_of.field-0.items) c.relator.ensures.word c.in_ok-generators_of.ensures in
    record {
      long = ap (λ xs. length xs) e ∙ (length-append c.loop-number.named (c.in_ok-generators_of.field-0.items ∷ []) ∙ ap (λ n. n + 1) c.loop-number.invariant.long);
      each =
          subst (λ xs. (k : ℕ) → k < length xs → IsNaming (length c.generators-most.result.now) (slice_index_or c.args.presentation.now.relators k []) (slice_index_or xs k [])) (sym e)
          (naming-more (length c.generators-most.result.now) c.loop-number.number c.args.presentation.now.relators c.loop-number.named c.in_ok-generators_of.field-0.items c.loop-number.invariant.long c.loop-number.invariant.each n);
    }

pub cofaces_in-requires-clause-cells : goal.cofaces_in-requires-clause-cells
cofaces_in-requires-clause-cells c = rising-names (length c.generators-most.result.now) c.args.presentation.now.relators c.loop-number.named c.loop-number.invariant.each

pub returns-clause-index : goal.returns-clause-index
returns-clause-index c =
    let same : length c.generators-most.result.now ≡ length c.args.presentation.now.generators = ap (λ xs. length xs) c.generators-most.ensures.generators in
    let all : length c.loop-number.named ≡ length c.args.presentation.now.relators = omega (arith, c.loop-number.invariant.long, c.loop-number-test.false, c.loop-number.auto.number-end, c.relators-number-end.ensures.count) in
    subst (λ xs. IsIndex (relations_of c.args.presentation.now) xs) (sym (c.in_ok-index.ensures ∙ ap (λ n. coface_lists n c.loop-number.named) same))
    (indexed (relations_of c.args.presentation.now) c.loop-number.named all
    (subst (λ n. (k : ℕ) → k < length c.loop-number.named → IsNaming n (slice_index_or c.args.presentation.now.relators k []) (slice_index_or c.loop-number.named k [])) same c.loop-number.invariant.each))
