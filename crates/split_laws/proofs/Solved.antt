-- From a split: exactly one extension, one flow and one clearing.
use Rattle.std.proofs.Common.{◌≡◌, ℕ, suc, List, [], ◌∷◌, length, replicate, refl, ap, sym, ◌∙◌, subst}
use Rattle.small_field.specs.Field.{Ops, IsField}
use Rattle.linear_laws.specs.Vectors.{dot, boundary, IsVector, IsMatrix, combination, plus_scaled}
use Rattle.small_field.specs.Values.{AreElements}
use Rattle.linear_laws.proofs.CallerLemmas.{dot_added, dot_comm, dot_below, adjoint, killed, combination-vector, combination-plus, plus_scaled-vector}
use Rattle.split_laws.specs.Kinds.{Kind, criticals, part, spread, ZeroOnUppers, ZeroOnLowers, ZeroOffLowers, ZeroOffUppers}
use Rattle.split_laws.specs.Split.{IsSplit}
use Rattle.split_laws.specs.Solutions.{IsExtension, IsFlow, IsCleared, without}
use Rattle.split_laws.proofs.Parts

-- ---- boundaries

pub boundary_long : (k : Ops) (rows : List (List ℕ)) (c : List ℕ) → length (boundary k rows c) ≡ length rows
boundary_long k [] c = refl
boundary_long k (r ∷ rows) c = ap suc (boundary_long k rows c)

module _ (k : Ops) (f : IsField k) where
  boundary_elements : (rows : List (List ℕ)) (c : List ℕ) → AreElements k (boundary k rows c)
  boundary_elements [] c = tt
  boundary_elements (r ∷ rows) c = (dot_below k f r c, boundary_elements rows c)

  pub boundary-vector : (n : ℕ) (rows : List (List ℕ)) (c : List ℕ) → length rows ≡ n → IsVector k n (boundary k rows c)
  boundary-vector n rows c l = record { long = boundary_long k rows c ∙ l; elements = boundary_elements rows c }

  pub boundary_sum : (m s : ℕ) (rows : List (List ℕ)) (x y : List ℕ) → IsMatrix k m rows → IsVector k m x → IsVector k m y → boundary k rows (plus_scaled k s x y) ≡ plus_scaled k s (boundary k rows x) (boundary k rows y)
  boundary_sum m s [] x y a v w = refl
  boundary_sum m s (r ∷ rows) x y a v w =
      ap (λ (n : ℕ). n ∷ boundary k rows (plus_scaled k s x y))
      (dot_comm k f r (plus_scaled k s x y) ∙ (dot_added k f s x y r (v.long ∙ sym w.long) (w.long ∙ sym a.0.long) ∙ (ap (λ (n : ℕ). k.add n (k.mul s (dot k y r))) (dot_comm k f x r) ∙ ap (λ (n : ℕ). k.add (dot k r x) (k.mul s n)) (dot_comm k f y r))))
      ∙ ap (λ (u : List ℕ). k.add (dot k r x) (k.mul s (dot k r y)) ∷ u) (boundary_sum m s rows x y a.1 v w)

  -- ---- one split
  module _ (n m : ℕ) (rows : List (List ℕ)) (ts us : List Kind) (s : IsSplit k n m rows ts us) where
    -- a cochain on lowers with no coboundary on uppers is zero
    unique : (x : List ℕ) → IsVector k n x → ZeroOffLowers ts x → ZeroOnUppers us (combination k m x rows) → x ≡ replicate n 0
    unique x v off on =
        killed k f n x v
        (λ t w.
        let c = s.carries t w in
        sym (Parts.sees_lowers k f ts x (boundary k rows c.0) t off c.3) ∙ (sym (adjoint k f m x c.0 rows s.matrix (v.long ∙ sym s.long) c.1.long) ∙ Parts.apart k f us (combination k m x rows) c.0 on c.2))

    -- a chain on uppers with no boundary on lowers is zero
    flow_unique : (z : List ℕ) → IsVector k m z → ZeroOffUppers us z → ZeroOnLowers ts (boundary k rows z) → z ≡ replicate m 0
    flow_unique z v off on =
        killed k f m z v
        (λ t w.
        let c = s.settles t w in
        sym (Parts.sees_uppers k f us z (combination k m c.0 rows) t off c.3)
        ∙ (dot_comm k f z (combination k m c.0 rows) ∙ (adjoint k f m c.0 z rows s.matrix (c.1.long ∙ sym s.long) v.long ∙ (dot_comm k f c.0 (boundary k rows z) ∙ Parts.apart_lowers k f ts (boundary k rows z) c.0 on c.2))))

    coboundary_less : (t : ℕ) (x y : List ℕ) → IsVector k n x → IsVector k n y → combination k m (plus_scaled k t x y) rows ≡ plus_scaled k t (combination k m x rows) (combination k m y rows)
    coboundary_less t x y v w = sym (combination-plus k f m t x y rows s.matrix (v.long ∙ sym s.long) (w.long ∙ sym s.long))

    pub extension : (w : List ℕ) → IsVector k (criticals ts) w → (x : List ℕ) × IsExtension k n m rows ts us w x
    extension w v =
        let e : List ℕ = spread ts w in
        let ve : IsVector k n e = record { long = Parts.spread_long ts w ∙ s.below; elements = Parts.spread_elements k f ts w v.elements } in
        let de : List ℕ = combination k m e rows in
        let vde : IsVector k m de = combination-vector k f m e rows s.matrix in
        let y = s.settles de vde in
        let x : List ℕ = plus_scaled k (k.neg 1) e y.0 in (
          x,
          record {
            vector = plus_scaled-vector k f n (k.neg 1) e y.0 ve y.1;
            own = Parts.part_kept k f ts (k.neg 1) e y.0 ve.elements (ve.long ∙ sym s.below) y.2 ∙ Parts.spread_own ts w v.long;
            none = Parts.none_kept k f ts (k.neg 1) e y.0 (Parts.spread_none ts w) y.2;
            closed = subst (ZeroOnUppers us) (sym (coboundary_less (k.neg 1) e y.0 ve y.1)) (Parts.agreed k f us de (combination k m y.0 rows) vde.elements (vde.long ∙ sym s.above) y.3);
          },
        )

    pub extension_is_one : (w x y : List ℕ) → IsExtension k n m rows ts us w x → IsExtension k n m rows ts us w y → x ≡ y
    extension_is_one w x y p q =
        let d : List ℕ = plus_scaled k (k.neg 1) x y in
        Parts.same k f n x y p.vector q.vector
        (unique d (plus_scaled-vector k f n (k.neg 1) x y p.vector q.vector) (Parts.off_less k f ts x y p.vector.elements p.none q.none (q.own ∙ sym p.own))
        (subst (ZeroOnUppers us) (sym (coboundary_less (k.neg 1) x y p.vector q.vector)) (Parts.none_less k f us (k.neg 1) (combination k m x rows) (combination k m y rows) p.closed q.closed)))

    pub flow : (c : List ℕ) → IsVector k (criticals us) c → (z : List ℕ) × IsFlow k n m rows ts us c z
    flow c v =
        let e : List ℕ = spread us c in
        let ve : IsVector k m e = record { long = Parts.spread_long us c ∙ s.above; elements = Parts.spread_elements k f us c v.elements } in
        let be : List ℕ = boundary k rows e in
        let vbe : IsVector k n be = boundary-vector n rows e s.long in
        let z = s.carries be vbe in
        let x : List ℕ = plus_scaled k (k.neg 1) e z.0 in (
          x,
          record {
            vector = plus_scaled-vector k f m (k.neg 1) e z.0 ve z.1;
            own = Parts.part_kept_up k f us (k.neg 1) e z.0 ve.elements (ve.long ∙ sym s.above) z.2 ∙ Parts.spread_own us c v.long;
            none = Parts.none_low_kept k f us (k.neg 1) e z.0 (Parts.spread_none_low us c) z.2;
            closed = subst (ZeroOnLowers ts) (sym (boundary_sum m (k.neg 1) rows e z.0 s.matrix ve z.1)) (Parts.agreed_low k f ts be (boundary k rows z.0) vbe.elements (vbe.long ∙ sym s.below) z.3);
          },
        )

    pub flow_is_one : (c x y : List ℕ) → IsFlow k n m rows ts us c x → IsFlow k n m rows ts us c y → x ≡ y
    flow_is_one c x y p q =
        let d : List ℕ = plus_scaled k (k.neg 1) x y in
        Parts.same k f m x y p.vector q.vector
        (flow_unique d (plus_scaled-vector k f m (k.neg 1) x y p.vector q.vector) (Parts.off_less_up k f us x y p.vector.elements p.none q.none (q.own ∙ sym p.own))
        (subst (ZeroOnLowers ts) (sym (boundary_sum m (k.neg 1) rows x y s.matrix p.vector q.vector)) (Parts.none_low_less k f ts (k.neg 1) (boundary k rows x) (boundary k rows y) p.closed q.closed)))

    pub clearing : (x : List ℕ) → IsVector k m x → (w : List ℕ) × (y : List ℕ) × IsCleared k n m rows ts us x w y
    clearing x v =
        let y = s.settles x v in (
          part us (without k m rows x y.0),
          y.0,
          record {
            vector = y.1;
            only = y.2;
            none = Parts.agreed k f us x (combination k m y.0 rows) v.elements (v.long ∙ sym s.above) y.3;
            rest = refl;
          },
        )

    pub clearing_is_one : (x w v y z : List ℕ) → IsVector k m x → IsCleared k n m rows ts us x w y → IsCleared k n m rows ts us x v z → (v ≡ w) × (z ≡ y)
    clearing_is_one x w v y z vx p q =
        let dy : List ℕ = combination k m y rows in
        let dz : List ℕ = combination k m z rows in
        let vy : IsVector k m dy = combination-vector k f m y rows s.matrix in
        let vz : IsVector k m dz = combination-vector k f m z rows s.matrix in
        let e : z ≡ y =
        Parts.same k f n z y q.vector p.vector
        (unique (plus_scaled k (k.neg 1) z y) (plus_scaled-vector k f n (k.neg 1) z y q.vector p.vector) (Parts.off_plus k f ts (k.neg 1) z y q.only p.only)
        (subst (ZeroOnUppers us) (sym (coboundary_less (k.neg 1) z y q.vector p.vector))
        (Parts.both_clear k f us x dz dy vx.elements vz.elements vy.elements q.none p.none (vz.long ∙ sym s.above) (vy.long ∙ sym s.above)))) in
        (sym q.rest ∙ (ap (λ (r : List ℕ). part us (without k m rows x r)) e ∙ p.rest), e)
