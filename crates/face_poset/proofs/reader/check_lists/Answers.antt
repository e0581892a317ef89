use Rattle.std.proofs.Common.{◌≡◌, ◌<◌, ◌++◌, ◌∷◌, [], ◌+◌, ℕ, List, length, take, map, sym, ◌∙◌, ap, Ok, Some, slice_get, arith}
use Rattle.std.proofs.lemmas.List.{map-append}
use Rattle.std.proofs.lemmas.Result.{err_from_is_err_and}
use Rattle.number_lists.proofs.CallerLemmas.{take-slice_get}
use Rattle.gap_text.specs.Nest.{view}
use Rattle.gap_text.specs.Value.{Value, number, list}
use Rattle.face_poset.specs.Reader.{each_from, as_list}
use Rattle.face_poset.specs.Tops.{inner}
use Rattle.face_poset.proofs.Each.{each-more, each-fault}
use Rattle.face_poset.proofs.reader.check_lists.Goals as goal

pub returns-in_err-list_of-clause-fault : goal.returns-in_err-list_of-clause-fault
returns-in_err-list_of-clause-fault c =
    let p = err_from_is_err_and c.from_residual.result c.from_residual.ensures.1 in
    let i : ℕ = c.loop-index.index in
    let lt : i < length c.args.tops.now = omega (arith, c.len-index-end.ensures, c.loop-index-test.true) in
    rw (p.1, p.2) (each-fault 0 (λ _ w. as_list w) c.args.tops.now i (view c.get.result.now) (map inner (take i c.args.tops.now)) c.in_err-list_of.field-0.0 lt c.get.ensures c.loop-index.invariant c.in_err-list_of.ensures.fault)

-- a list is what its items are
items-are : (v : Value) (ys : List Value) → as_list v ≡ Ok ys → ys ≡ inner v
items-are (number place n) ys h = cc
items-are (list place vs) ys h = cc

more : (tops : List Value) (i : ℕ) (v : Value) (ys : List Value) → i < length tops → slice_get tops i ≡ Some v → each_from 0 (λ _ w. as_list w) (take i tops) ≡ Ok (map inner (take i tops)) → as_list v ≡ Ok ys
    → each_from 0 (λ _ w. as_list w) (take (i + 1) tops) ≡ Ok (map inner (take (i + 1) tops))
more tops i v ys l e h k =
    each-more 0 (λ _ w. as_list w) tops i v (map inner (take i tops)) (map inner (take (i + 1) tops)) ys l e h k
    (ap (map inner) (take-slice_get tops i v l e) ∙ (map-append inner (take i tops) (v ∷ []) ∙ ap (λ (ws : List Value). map inner (take i tops) ++ ws ∷ []) (sym (items-are v ys k))))

pub loop-index-preserved : goal.loop-index-preserved
loop-index-preserved c =
    more c.args.tops.now c.loop-index.index (view c.get.result.now) c.in_ok-list_of.field-0.now (omega (arith, c.len-index-end.ensures, c.loop-index-test.true)) c.get.ensures c.loop-index.invariant c.in_ok-list_of.ensures.items
