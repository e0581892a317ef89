use Rattle.std.proofs.Common.{◌≡◌, ◌<◌, ◌+◌, ℕ, List, length, take, sym, ◌∙◌, ap, Some, slice_get, arith}
use Rattle.std.proofs.lemmas.List.{length-take-le}
use Rattle.number_lists.proofs.CallerLemmas.{take-slice_get}
use Rattle.gap_text.specs.Nest.{view}
use Rattle.gap_text.specs.Value.{Value}
use Rattle.face_poset.specs.Tops.{inner, kept}
use Rattle.face_poset.proofs.LayerLemmas.{kept-empty, kept-some}
use Rattle.face_poset.proofs.reader.count_layers.Goals as goal
use Rattle.face_poset.proofs.reader.count_layers.Goals.{then-is_kept, else-is_kept}

more-some : (tops : List Value) (i n : ℕ) (v : Value) → i < length tops → slice_get tops i ≡ Some v → 0 < length (inner v) → n ≡ i + 1 → n ≡ length (kept (take (i + 1) tops))
more-some tops i n v l e some is =
    let short : length (take i tops) ≡ i = length-take-le i tops (omega arith) in
    is ∙ sym (ap (λ (ts : List Value). length (kept ts)) (take-slice_get tops i v l e) ∙ (kept-some (take i tops) v some ∙ ap (λ (m : ℕ). m + 1) short))

more-empty : (tops : List Value) (i n m : ℕ) (v : Value) → i < length tops → slice_get tops i ≡ Some v → length (inner v) ≡ 0 → n ≡ m → m ≡ length (kept (take i tops)) → n ≡ length (kept (take (i + 1) tops))
more-empty tops i n m v l e none is h = is ∙ (h ∙ sym (ap (λ (ts : List Value). length (kept ts)) (take-slice_get tops i v l e) ∙ kept-empty (take i tops) v none))

pub loop-index-preserved : goal.loop-index-preserved
loop-index-preserved c =
    let lt : c.loop-index.index < length c.args.tops.now = omega (arith, c.len-index-end.ensures, c.loop-index-test.true) in
    elim c.if-is_kept.branch [
      | then-is_kept w ↦ more-some c.args.tops.now c.loop-index.index c.if-is_kept.layers (view c.get.result.now) lt c.get.ensures (omega (arith, c.size_of-is_kept.ensures, w.if-is_kept)) w.layers-is
      | else-is_kept w ↦ more-empty c.args.tops.now c.loop-index.index c.if-is_kept.layers c.loop-index.layers (view c.get.result.now) lt c.get.ensures (omega (arith, c.size_of-is_kept.ensures, w.if-is_kept)) w.layers-is c.loop-index.invariant
    ]
