use Rattle.std.proofs.Common.{◌≡◌, ◌<◌, ◌+◌, ◌++◌, ◌∷◌, [], ℕ, List, Bool, true, false, cond, length, take, get_or, ap, sym, ◌∙◌}
use Rattle.std.proofs.lemmas.List.{append-nil}
use Rattle.std.specs.List.{range_with_len, items_where_true}
use Rattle.voxel_spaces.proofs.Ones.{where-more}
use Rattle.voxel_spaces.proofs.cubes.list_ones.Goals as goal
use Rattle.voxel_spaces.proofs.cubes.list_ones.Goals.{then-bit+in_ok-push, else-bit}

one_more : (bits : List Bool) (i : ℕ) (old now new : List ℕ) → i < length bits → get_or bits i false ≡ true → old ≡ items_where_true (take i bits) (range_with_len 0 i) → now ≡ new → new ≡ old ++ i ∷ [] → now ≡ items_where_true (take (i + 1) bits) (range_with_len 0 (i + 1))
one_more bits i old now new l e h is pushed =
    is ∙ (pushed ∙ (ap (λ (xs : List ℕ). xs ++ i ∷ []) h
    ∙ sym (where-more bits i false l ∙ ap (λ (b : Bool). items_where_true (take i bits) (range_with_len 0 i) ++ cond b (i ∷ []) []) e)))

none_more : (bits : List Bool) (i : ℕ) (old now : List ℕ) → i < length bits → get_or bits i false ≡ false → old ≡ items_where_true (take i bits) (range_with_len 0 i) → now ≡ old → now ≡ items_where_true (take (i + 1) bits) (range_with_len 0 (i + 1))
none_more bits i old now l e h is =
    is ∙ (h ∙ sym (where-more bits i false l ∙ (ap (λ (b : Bool). items_where_true (take i bits) (range_with_len 0 i) ++ cond b (i ∷ []) []) e ∙ append-nil (items_where_true (take i bits) (range_with_len 0 i)))))

pub loop-place-preserved : goal.loop-place-preserved
loop-place-preserved c =
    let i : ℕ = c.loop-place.place in
    elim c.if-bit.branch [
      | then-bit+in_ok-push w ↦ one_more c.args.bits.now i c.loop-place.ones.items c.if-bit.ones.items w.push.new.self.items c.loop-place-test.true w.if-bit.true c.loop-place.invariant (ap (λ v. v.items) w.ones-is) w.in_ok-push.ensures.items
      | else-bit w ↦ none_more c.args.bits.now i c.loop-place.ones.items c.if-bit.ones.items c.loop-place-test.true w.if-bit.false c.loop-place.invariant (ap (λ v. v.items) w.ones-is)
    ]
