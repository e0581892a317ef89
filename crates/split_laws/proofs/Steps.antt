-- Two steps of a complex with a split.
use Rattle.std.proofs.Common.{◌≡◌, ℕ, suc, ◌<◌, List, [], ◌∷◌, length, replicate, refl, ap, sym, ◌∙◌, arith, subst}
use Rattle.std.specs.List.{AllByRecursion}
use Rattle.std.proofs.lemmas.List.{ext_get_or}
use Rattle.small_field.specs.Field.{Ops, IsField}
use Rattle.linear_laws.specs.Marks.{mark}
use Rattle.linear_laws.specs.Vectors.{dot, boundary, IsVector, IsMatrix, combination, plus_scaled, row_at, IsInKernel}
use Rattle.linear_laws.proofs.CallerLemmas.{adjoint, zeros_dot, dot_mark, zeros_plus, combination-vector, combination-plus, combination-zeros, plus_scaled-vector}
use Rattle.split_laws.specs.Kinds.{Kind, criticals, part, ZeroOnUppers, ZeroOnLowers}
use Rattle.split_laws.specs.Solutions.{IsExtension, IsFlow, IsCleared, without}
use Rattle.split_laws.specs.Complex.{IsSplitComplex, AreReduced}
use Rattle.split_laws.specs.Laws.{ExtensionsPair, CocyclesClear}
use Rattle.split_laws.proofs.Parts.{part-zeros, part-vector, none-zeros, none_low-zeros, pairing}
use Rattle.split_laws.proofs.Solved.{boundary_long, boundary-vector}
use Rattle.split_laws.proofs.Fields.{boundary_at}
use Rattle.split_laws.proofs.Linear

pub all_from : (P : List ℕ → Type 0) (rows : List (List ℕ)) → ((i : ℕ) → i < length rows → P (row_at rows i)) → AllByRecursion P rows
all_from P [] h = tt
all_from P (r ∷ rows) h = (h 0 (omega arith), all_from P rows (λ i lt. h (suc i) (omega arith)))

module _ (F : Ops) (L : IsField F) where
  pub extensions_pair : ExtensionsPair F
  extensions_pair n m l last next ts us vs w x c z e g =
      pairing F L us x z e.none g.none ∙ (ap (λ (v : List ℕ). dot F v (part us z)) e.own ∙ ap (dot F w) g.own)

  -- ---- two steps are zero

  pub coboundary_twice : (n m : ℕ) (x : List ℕ) (rows next : List (List ℕ)) → IsMatrix F n rows → IsMatrix F m next → length next ≡ n
      → AllByRecursion (λ r. combination F m r next ≡ replicate m 0) rows → combination F m (combination F n x rows) next ≡ replicate m 0
  coboundary_twice n m [] rows next a b l h = combination-zeros F L m n next b
  coboundary_twice n m (x ∷ xs) [] next a b l h = combination-zeros F L m n next b
  coboundary_twice n m (x ∷ xs) (r ∷ rows) next a b l h =
      sym (combination-plus F L m x (combination F n xs rows) r next b ((combination-vector F L n xs rows a.1).long ∙ sym l) (a.0.long ∙ sym l))
      ∙ (ap (λ (v : List ℕ). plus_scaled F x v (combination F m r next)) (coboundary_twice n m xs rows next a.1 b l h.1)
      ∙ (ap (plus_scaled F x (replicate m 0)) h.0 ∙ zeros_plus F L m x))

  boundary_twice : (n m : ℕ) (z : List ℕ) (rows next : List (List ℕ)) → IsMatrix F n rows → IsMatrix F m next → length next ≡ n → IsVector F m z
      → AllByRecursion (λ r. combination F m r next ≡ replicate m 0) rows → boundary F rows (boundary F next z) ≡ replicate (length rows) 0
  boundary_twice n m z [] next a b l v h = refl
  boundary_twice n m z (r ∷ rows) next a b l v h =
      let zero_here : dot F r (boundary F next z) ≡ 0 =
      sym (adjoint F L m r z next b (a.0.long ∙ sym l) v.long) ∙ (ap (λ (u : List ℕ). dot F u z) h.0 ∙ zeros_dot F L m z) in
      ap (λ (x : ℕ). x ∷ boundary F rows (boundary F next z)) zero_here ∙ ap (λ (xs : List ℕ). 0 ∷ xs) (boundary_twice n m z rows next a.1 b l v h.1)

  module _ (N : ℕ → ℕ) (rows : ℕ → List (List ℕ)) (kinds : ℕ → List Kind) (reduced : ℕ → List (List ℕ)) (S : IsSplitComplex F N rows kinds) (R : AreReduced F N rows kinds reduced) where
    pub twice : (k : ℕ) (x : List ℕ) → combination F (N (suc (suc k))) (combination F (N (suc k)) x (rows k)) (rows (suc k)) ≡ replicate (N (suc (suc k))) 0
    twice k x = coboundary_twice (N (suc k)) (N (suc (suc k))) x (rows k) (rows (suc k)) (S.splits k).matrix (S.splits (suc k)).matrix (S.splits (suc k)).long (S.closed k)

    -- ---- extensions

    pub reduced_of : (k : ℕ) (w x : List ℕ) → IsExtension F (N k) (N (suc k)) (rows k) (kinds k) (kinds (suc k)) w x
        → part (kinds (suc k)) (combination F (N (suc k)) x (rows k)) ≡ combination F (criticals (kinds (suc k))) w (reduced k)
    reduced_of k w x e = Linear.reduced_coboundary F L (N k) (N (suc k)) (rows k) (kinds k) (kinds (suc k)) (S.splits k) (reduced k) (R k) w x e

    -- the coboundary of an extension is an extension
    pub commutes_to : (k : ℕ) (w x v : List ℕ) → IsExtension F (N k) (N (suc k)) (rows k) (kinds k) (kinds (suc k)) w x → part (kinds (suc k)) (combination F (N (suc k)) x (rows k)) ≡ v
        → IsExtension F (N (suc k)) (N (suc (suc k))) (rows (suc k)) (kinds (suc k)) (kinds (suc (suc k))) v (combination F (N (suc k)) x (rows k))
    commutes_to k w x v e is = record {
      vector = combination-vector F L (N (suc k)) x (rows k) (S.splits k).matrix;
      own = is;
      none = e.closed;
      closed = subst (ZeroOnUppers (kinds (suc (suc k)))) (sym (twice k x)) (none-zeros (kinds (suc (suc k))) (N (suc (suc k))) (S.splits (suc k)).above);
    }

    pub commutes : (k : ℕ) (w x : List ℕ) → IsExtension F (N k) (N (suc k)) (rows k) (kinds k) (kinds (suc k)) w x
        → IsExtension F (N (suc k)) (N (suc (suc k))) (rows (suc k)) (kinds (suc k)) (kinds (suc (suc k))) (combination F (criticals (kinds (suc k))) w (reduced k)) (combination F (N (suc k)) x (rows k))
    commutes k w x e = commutes_to k w x (combination F (criticals (kinds (suc k))) w (reduced k)) e (reduced_of k w x e)

    -- the extension of the mark of a critical cell, whose coboundary has a reduced row at the critical cells
    mark_extension : (k : ℕ) → ℕ → List ℕ
    mark_extension k i = row_at (Linear.marks F L (N k) (N (suc k)) (rows k) (kinds k) (kinds (suc k)) (S.splits k) (reduced k) (R k)).0 i

    mark_is : (k i : ℕ) → i < criticals (kinds k) → IsExtension F (N k) (N (suc k)) (rows k) (kinds k) (kinds (suc k)) (mark (criticals (kinds k)) i) (mark_extension k i)
    unfolding mark_extension
    mark_is k i lt = Linear.mark_at F L (N k) (N (suc k)) (rows k) (kinds k) (kinds (suc k)) (S.splits k) (reduced k) (R k) i lt

    row_is : (k i : ℕ) → i < criticals (kinds k) → part (kinds (suc k)) (combination F (N (suc k)) (mark_extension k i) (rows k)) ≡ row_at (reduced k) i
    unfolding mark_extension
    row_is k i lt = sym (Linear.row_is F L (N k) (N (suc k)) (rows k) (kinds k) (kinds (suc k)) (S.splits k) (reduced k) (R k) i lt)

    pub reduced_closed : (k : ℕ) → AllByRecursion (λ r. combination F (criticals (kinds (suc (suc k)))) r (reduced (suc k)) ≡ replicate (criticals (kinds (suc (suc k)))) 0) (reduced k)
    reduced_closed k =
        all_from (λ r. combination F (criticals (kinds (suc (suc k)))) r (reduced (suc k)) ≡ replicate (criticals (kinds (suc (suc k)))) 0) (reduced k)
        (λ i lt.
        let li : i < criticals (kinds k) = subst (λ (x : ℕ). i < x) (R k).long lt in
        let e : List ℕ = mark_extension k i in
        let d : List ℕ = combination F (N (suc k)) e (rows k) in
        let g = commutes_to k (mark (criticals (kinds k)) i) e (row_at (reduced k) i) (mark_is k i li) (row_is k i li) in
        sym (reduced_of (suc k) (row_at (reduced k) i) d g) ∙ (ap (part (kinds (suc (suc k)))) (twice k e) ∙ part-zeros (kinds (suc (suc k))) (N (suc (suc k))) (S.splits (suc k)).above))

    -- ---- flows

    pub flow_commutes : (k : ℕ) (c z : List ℕ) → IsFlow F (N (suc k)) (N (suc (suc k))) (rows (suc k)) (kinds (suc k)) (kinds (suc (suc k))) c z
        → IsFlow F (N k) (N (suc k)) (rows k) (kinds k) (kinds (suc k)) (boundary F (reduced (suc k)) c) (boundary F (rows (suc k)) z)
    flow_commutes k c z g =
        let n : ℕ = N (suc k) in
        let m : ℕ = N (suc (suc k)) in
        let us : List Kind = kinds (suc k) in
        let b : List ℕ = boundary F (rows (suc k)) z in
        let s = S.splits (suc k) in
        let vb : IsVector F n b = boundary-vector F L n (rows (suc k)) z s.long in
        let vp : IsVector F (criticals us) (part us b) = part-vector F L us n b s.below vb in
        record {
          vector = vb;
          own =
              ext_get_or 0 (part us b) (boundary F (reduced (suc k)) c) (vp.long ∙ sym (boundary_long F (reduced (suc k)) c ∙ (R (suc k)).long))
              (λ i lt.
              let li : i < criticals us = subst (λ (x : ℕ). i < x) vp.long lt in
              let e : List ℕ = mark_extension (suc k) i in
              let x = mark_is (suc k) i li in
              let de : List ℕ = combination F m e (rows (suc k)) in
              sym (dot_mark F L (criticals us) i (part us b) vp li)
              ∙ (ap (λ (u : List ℕ). dot F u (part us b)) (sym x.own)
              ∙ (sym (pairing F L us e b x.none g.closed)
              ∙ (sym (adjoint F L m e z (rows (suc k)) s.matrix (x.vector.long ∙ sym s.long) g.vector.long)
              ∙ (pairing F L (kinds (suc (suc k))) de z x.closed g.none
              ∙ (ap (λ (u : List ℕ). dot F u (part (kinds (suc (suc k))) z)) (row_is (suc k) i li)
              ∙ (ap (dot F (row_at (reduced (suc k)) i)) g.own
              ∙ sym (boundary_at F (reduced (suc k)) c i (subst (λ (y : ℕ). i < y) (sym (R (suc k)).long) li)))))))));
          none = g.closed;
          closed =
              subst (ZeroOnLowers (kinds k)) (sym (boundary_twice n m z (rows k) (rows (suc k)) (S.splits k).matrix s.matrix s.long g.vector (S.closed k) ∙ ap (λ (l : ℕ). replicate l 0) (S.splits k).long))
              (none_low-zeros (kinds k) (N k) (S.splits k).below);
        }

    -- ---- cocycles

    pub cleared : (k : ℕ) (x w y : List ℕ) → IsInKernel F (N (suc (suc k))) (rows (suc k)) x → IsCleared F (N k) (N (suc k)) (rows k) (kinds k) (kinds (suc k)) x w y → CocyclesClear F N rows kinds reduced k x w y
    cleared k x w y h c =
        let n : ℕ = N (suc k) in
        let m : ℕ = N (suc (suc k)) in
        let s = S.splits (suc k) in
        let dy : List ℕ = combination F n y (rows k) in
        let vy : IsVector F n dy = combination-vector F L n y (rows k) (S.splits k).matrix in
        let vx : IsVector F n x = subst (λ (l : ℕ). IsVector F l x) s.long h.vector in
        let r : List ℕ = without F n (rows k) x y in
        let closed : combination F m r (rows (suc k)) ≡ replicate m 0 =
        sym (combination-plus F L m (F.neg 1) x dy (rows (suc k)) s.matrix h.vector.long (vy.long ∙ sym s.long))
        ∙ (ap (λ (u : List ℕ). plus_scaled F (F.neg 1) u (combination F m dy (rows (suc k)))) h.zero
        ∙ (ap (plus_scaled F (F.neg 1) (replicate m 0)) (twice k y) ∙ zeros_plus F L m (F.neg 1))) in
        let e : IsExtension F n m (rows (suc k)) (kinds (suc k)) (kinds (suc (suc k))) w r = record {
          vector = plus_scaled-vector F L n (F.neg 1) x dy vx vy;
          own = c.rest;
          none = c.none;
          closed = subst (ZeroOnUppers (kinds (suc (suc k)))) (sym closed) (none-zeros (kinds (suc (suc k))) m s.above);
        } in
        record {
          extension = e;
          cocycle = record {
            vector = subst (λ (l : ℕ). IsVector F l w) (sym (R (suc k)).long) (Linear.extension-part F L n m (rows (suc k)) (kinds (suc k)) (kinds (suc (suc k))) s w r e);
            zero = sym (reduced_of (suc k) w r e) ∙ (ap (part (kinds (suc (suc k)))) closed ∙ part-zeros (kinds (suc (suc k))) m s.above);
          };
        }
