use Rattle.std.proofs.Common.{◌≡◌, ◌<◌, ◌++◌, ◌∷◌, [], ◌+◌, ℕ, List, length, take, map, sum_by, sym, ◌∙◌, ap, Some, slice_get, arith}
use Rattle.std.proofs.lemmas.List.{take-map, map-append}
use Rattle.std.proofs.lemmas.List.Sums.{sum_by-append}
use Rattle.number_lists.proofs.CallerLemmas.{take-slice_get}
use Rattle.gap_text.specs.Nest.{view}
use Rattle.gap_text.specs.Value.{Value}
use Rattle.face_poset.specs.Tops.{inner}
use Rattle.face_poset.proofs.reader.count_cells.Goals as goal

more : (tops : List Value) (i m n : ℕ) (v : Value) → i < length tops → slice_get tops i ≡ Some v → m ≡ sum_by (λ cells. length cells) (take i (map inner tops)) → n ≡ length (inner v) → m + n ≡ sum_by (λ cells. length cells) (take (i + 1) (map inner tops))
more tops i m n v l e h k =
    let front : take (i + 1) (map inner tops) ≡ take i (map inner tops) ++ inner v ∷ [] =
    take-map inner (i + 1) tops ∙ (ap (map inner) (take-slice_get tops i v l e) ∙ (map-append inner (take i tops) (v ∷ []) ∙ ap (λ (ls : List (List Value)). ls ++ inner v ∷ []) (sym (take-map inner i tops)))) in
    let sum : sum_by (λ cells. length cells) (take (i + 1) (map inner tops)) ≡ sum_by (λ cells. length cells) (take i (map inner tops)) + (0 + length (inner v)) =
    ap (sum_by (λ cells. length cells)) front ∙ sum_by-append (λ cells. length cells) (take i (map inner tops)) (inner v ∷ []) in
    omega arith

pub loop-index-preserved : goal.loop-index-preserved
loop-index-preserved c =
    let lt : c.loop-index.index < length c.args.tops.now = omega (arith, c.requires, c.loop-index-test.true) in
    record {
      sum = more c.args.tops.now c.loop-index.index c.loop-index.cells c.size_of.result (view c.get.result.now) lt c.get.ensures c.loop-index.invariant.sum c.size_of.ensures;
      bound = let b = c.loop-index.invariant.bound in omega (arith, c.size_of.ensures);
    }
