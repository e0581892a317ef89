use Rattle.std.proofs.Common.{◌≡◌, ◌++◌, ◌∷◌, [], ℕ, List, Bool, ap, sym, ◌∙◌}
use Rattle.permutahedral_arrays.specs.Places.{is_below, last_of}
use Rattle.permutahedral_arrays.proofs.Growing.{made_with, made_without}
use Rattle.permutahedral_arrays.proofs.shapes.push_longer.Goals as goal
use Rattle.permutahedral_arrays.proofs.shapes.push_longer.Goals.{then-is_below+in_ok-extend_from_slice+in_ok-push+in_ok-push-2, else-is_below}

pub loop-vector-preserved : goal.loop-vector-preserved
loop-vector-preserved c =
    let shape : List ℕ = c.args.shape.now in
    let v : ℕ = c.loop-vector.vector in
    let p : ℕ → Bool = is_below (last_of shape) in
    let g : ℕ → List ℕ = λ n. shape ++ n ∷ [] in
    let e : c.is_below.result ≡ p v = c.is_below.ensures ∙ ap (λ (n : ℕ). is_below n v) c.last_of.ensures in
    elim c.if-is_below.branch [
      | then-is_below+in_ok-extend_from_slice+in_ok-push+in_ok-push-2 w ↦
          let made : w.deref.result.now ≡ g v = w.deref.ensures.value ∙ (w.in_ok-push.ensures.items ∙ ap (λ (xs : List ℕ). xs ++ v ∷ []) (w.in_ok-extend_from_slice.ensures.items ∙ ap (λ (xs : List ℕ). xs ++ shape) w.new-next.ensures.items)) in
          made_with g p c.args.shapes.now c.loop-vector.shapes c.if-is_below.shapes v c.loop-vector.invariant
          (w.shapes-is ∙ (w.in_ok-push-2.ensures.ok ∙ ap (λ (xs : List ℕ). c.loop-vector.shapes ++ xs ∷ []) made)) (sym e ∙ w.if-is_below.true)
      | else-is_below w ↦
          made_without g p c.args.shapes.now c.loop-vector.shapes c.if-is_below.shapes v c.loop-vector.invariant w.shapes-is (sym e ∙ w.if-is_below.false)
    ]
