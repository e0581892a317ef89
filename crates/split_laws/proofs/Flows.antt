-- Boundaries and flows are linear.
use Rattle.std.proofs.Common.{◌≡◌, ℕ, List, [], ◌∷◌, length, replicate, refl, ap, sym, ◌∙◌, subst}
use Rattle.small_field.specs.Field.{Ops, IsField}
use Rattle.linear_laws.specs.Vectors.{boundary, dot, IsVector, IsMatrix, combination, plus_scaled}
use Rattle.linear_laws.proofs.CallerLemmas.{dot_added, dot_comm, dot_zeros, plus_scaled-vector}
use Rattle.split_laws.specs.Kinds.{Kind, criticals, part, ZeroOnLowers}
use Rattle.split_laws.specs.Split.{IsSplit}
use Rattle.split_laws.specs.Solutions.{IsFlow, AreFlows}
use Rattle.split_laws.specs.Laws.{SolutionsCombine}
use Rattle.split_laws.proofs.Parts.{part-zeros, none_low-zeros, part-plus, none_low_less}
use Rattle.split_laws.proofs.Linear.{zeros-vector, extension-combination}

module _ (k : Ops) (f : IsField k) where
  pub boundary-zeros : (m : ℕ) (rows : List (List ℕ)) → boundary k rows (replicate m 0) ≡ replicate (length rows) 0
  boundary-zeros m [] = refl
  boundary-zeros m (r ∷ rows) = ap (λ (x : ℕ). x ∷ boundary k rows (replicate m 0)) (dot_zeros k f r m) ∙ ap (λ (xs : List ℕ). 0 ∷ xs) (boundary-zeros m rows)

  dot_right : (m c : ℕ) (r x y : List ℕ) → IsVector k m r → IsVector k m x → IsVector k m y → dot k r (plus_scaled k c x y) ≡ k.add (dot k r x) (k.mul c (dot k r y))
  dot_right m c r x y vr vx vy =
      dot_comm k f r (plus_scaled k c x y)
      ∙ (dot_added k f c x y r (vx.long ∙ sym vy.long) (vy.long ∙ sym vr.long)
      ∙ (ap (λ (d : ℕ). k.add d (k.mul c (dot k y r))) (dot_comm k f x r) ∙ ap (λ (d : ℕ). k.add (dot k r x) (k.mul c d)) (dot_comm k f y r)))

  pub boundary-plus : (m c : ℕ) (rows : List (List ℕ)) (x y : List ℕ) → IsMatrix k m rows → IsVector k m x → IsVector k m y → boundary k rows (plus_scaled k c x y) ≡ plus_scaled k c (boundary k rows x) (boundary k rows y)
  boundary-plus m c [] x y a vx vy = refl
  boundary-plus m c (r ∷ rows) x y a vx vy =
      ap (λ (d : ℕ). d ∷ boundary k rows (plus_scaled k c x y)) (dot_right m c r x y a.0 vx vy)
      ∙ ap (λ (ds : List ℕ). k.add (dot k r x) (k.mul c (dot k r y)) ∷ ds) (boundary-plus m c rows x y a.1 vx vy)

  module _ (n m : ℕ) (rows : List (List ℕ)) (ts us : List Kind) (s : IsSplit k n m rows ts us) where
    flow-zeros : IsFlow k n m rows ts us (replicate (criticals us) 0) (replicate m 0)
    flow-zeros = record {
      vector = zeros-vector k f m;
      own = part-zeros us m s.above;
      none = none_low-zeros us m s.above;
      closed = subst (ZeroOnLowers ts) (sym (boundary-zeros m rows ∙ ap (λ (j : ℕ). replicate {A = ℕ} j 0) s.long)) (none_low-zeros ts n s.below);
    }

    flow-plus : (c : ℕ) (v w x y : List ℕ) → IsFlow k n m rows ts us v x → IsFlow k n m rows ts us w y → IsFlow k n m rows ts us (plus_scaled k c v w) (plus_scaled k c x y)
    flow-plus c v w x y p q = record {
      vector = plus_scaled-vector k f m c x y p.vector q.vector;
      own = part-plus k f us c x y (p.vector.long ∙ sym q.vector.long) ∙ (ap (λ (r : List ℕ). plus_scaled k c r (part us y)) p.own ∙ ap (plus_scaled k c v) q.own);
      none = none_low_less k f us c x y p.none q.none;
      closed = subst (ZeroOnLowers ts) (sym (boundary-plus m c rows x y s.matrix p.vector q.vector)) (none_low_less k f ts c (boundary k rows x) (boundary k rows y) p.closed q.closed);
    }

    pub flow-combination : (cs : List ℕ) (ws zs : List (List ℕ)) → AreFlows k n m rows ts us ws zs → IsFlow k n m rows ts us (combination k (criticals us) cs ws) (combination k m cs zs)
    flow-combination [] [] [] h = flow-zeros
    flow-combination [] [] (z ∷ zs) h = absurd h
    flow-combination [] (w ∷ ws) [] h = absurd h
    flow-combination [] (w ∷ ws) (z ∷ zs) h = flow-zeros
    flow-combination (c ∷ cs) [] [] h = flow-zeros
    flow-combination (c ∷ cs) [] (z ∷ zs) h = absurd h
    flow-combination (c ∷ cs) (w ∷ ws) [] h = absurd h
    flow-combination (c ∷ cs) (w ∷ ws) (z ∷ zs) h = flow-plus c (combination k (criticals us) cs ws) w (combination k m cs zs) z (flow-combination cs ws zs h.1) h.0

  pub solutions_combine : SolutionsCombine k
  solutions_combine = record { extension = extension-combination k f; flow = flow-combination }
