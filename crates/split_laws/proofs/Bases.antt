-- The cohomology of the reduced rows is the cohomology of the whole.
use Rattle.std.proofs.Common.{◌≡◌, ℕ, zero, suc, ◌+◌, List, [], ◌∷◌, length, replicate, refl, ap, sym, ◌∙◌, arith, subst}
use Rattle.std.specs.List.{AllByRecursion}
use Rattle.small_field.specs.Field.{Ops, IsField}
use Rattle.linear_laws.specs.Vectors.{IsVector, IsMatrix, combination, plus_scaled, InSpan, IsInKernel}
use Rattle.small_field.specs.Values.{AreElements}
use Rattle.linear_laws.specs.Echelon.{IsReducedTo}
use Rattle.linear_laws.specs.Betti.{IsCohomologyBasis}
use Rattle.linear_laws.proofs.CallerLemmas.{basis_by_ranks, regroup, taken_back, combination-vector, combination-plus, plus_scaled-vector}
use Rattle.small_field.proofs.CallerLemmas.{neg_neg}
use Rattle.split_laws.specs.Kinds.{Kind, Critical, Lower, Upper, criticals, part, ZeroOnUppers, HasNoUpper}
use Rattle.split_laws.specs.Solutions.{IsExtension, AreExtensions, without}
use Rattle.split_laws.specs.Complex.{IsSplitComplex, AreReduced}
use Rattle.split_laws.specs.Laws.{CocyclesClear}
use Rattle.split_laws.proofs.Parts.{plus_none}
use Rattle.split_laws.proofs.Solved.{extension, extension_is_one, clearing}
use Rattle.split_laws.proofs.Linear
use Rattle.split_laws.proofs.Steps.{commutes, twice, cleared, reduced_closed, reduced_of}

none_upper : (ts : List Kind) (x : List ℕ) → HasNoUpper ts → length x ≡ length ts → ZeroOnUppers ts x
none_upper [] [] h l = refl
none_upper [] (x ∷ xs) h l = absurd (omega (arith, l))
none_upper (t ∷ ts) [] h l = absurd (omega (arith, l))
none_upper (Critical ∷ ts) (x ∷ xs) h l = none_upper ts xs h (omega (arith, l))
none_upper (Lower ∷ ts) (x ∷ xs) h l = none_upper ts xs h (omega (arith, l))
none_upper (Upper ∷ ts) (x ∷ xs) h l = absurd h

module _ (F : Ops) (L : IsField F) where
  sum_turned : (x y : List ℕ) → length x ≡ length y → AreElements F x → AreElements F y → plus_scaled F 1 x y ≡ plus_scaled F 1 y x
  sum_turned [] [] l a b = refl
  sum_turned [] (y ∷ ys) l a b = absurd (omega (arith, l))
  sum_turned (x ∷ xs) [] l a b = absurd (omega (arith, l))
  sum_turned (x ∷ xs) (y ∷ ys) l a b =
      let here : F.add x (F.mul 1 y) ≡ F.add y (F.mul 1 x) = ap (F.add x) (L.one_mul y b.0) ∙ (L.add_comm x y ∙ ap (F.add y) (sym (L.one_mul x a.0))) in
      ap (λ (n : ℕ). n ∷ plus_scaled F 1 xs ys) here ∙ ap (λ (r : List ℕ). F.add y (F.mul 1 x) ∷ r) (sum_turned xs ys (omega (arith, l)) a.1 b.1)

  zeros_added : (s m : ℕ) (x : List ℕ) → IsVector F m x → plus_scaled F s x (replicate m 0) ≡ x
  zeros_added s zero [] v = refl
  zeros_added s zero (x ∷ xs) v = absurd (omega (arith, v.long))
  zeros_added s (suc m) [] v = absurd (omega (arith, v.long))
  zeros_added s (suc m) (x ∷ xs) v =
      let l : length xs ≡ m = let h : length (x ∷ xs) ≡ suc m = v.long in omega arith in
      ap (λ (n : ℕ). n ∷ plus_scaled F s xs (replicate m 0)) (plus_none F L x s 0 refl v.elements.0)
      ∙ ap (λ (r : List ℕ). x ∷ r) (zeros_added s m xs (record { long = l; elements = v.elements.1 }))

  -- x is what is left of it and what was taken
  added_back : (n : ℕ) (x d : List ℕ) → IsVector F n x → IsVector F n d → plus_scaled F 1 (plus_scaled F (F.neg 1) x d) d ≡ x
  added_back n x d v w =
      ap (λ (s : ℕ). plus_scaled F s (plus_scaled F (F.neg 1) x d) d) (sym (neg_neg F L 1 L.one_below)) ∙ taken_back F L (F.neg 1) x d (v.long ∙ sym w.long) v.elements

  -- (p + q) + d is (d + p) + q
  rearranged : (n : ℕ) (p q d : List ℕ) → IsVector F n p → IsVector F n q → IsVector F n d → plus_scaled F 1 (plus_scaled F 1 p q) d ≡ plus_scaled F 1 (plus_scaled F 1 d p) q
  rearranged n p q d vp vq vd =
      let vpq = plus_scaled-vector F L n 1 p q vp vq in
      sum_turned (plus_scaled F 1 p q) d (vpq.long ∙ sym vd.long) vpq.elements vd.elements
      ∙ sym (regroup F L 1 d p q (vd.long ∙ sym vq.long) (vp.long ∙ sym vq.long))

  module _ (N : ℕ → ℕ) (rows : ℕ → List (List ℕ)) (kinds : ℕ → List Kind) (reduced : ℕ → List (List ℕ)) (S : IsSplitComplex F N rows kinds) (R : AreReduced F N rows kinds reduced) where
    -- y, of degree k, is an extension up to a cocycle, where its coboundary is zero on uppers
    record Lifted (k : ℕ) (y : List ℕ) : Type 0 where
      u : List ℕ
      e : List ℕ
      is : IsExtension F (N k) (N (suc k)) (rows k) (kinds k) (kinds (suc k)) u e
      same : combination F (N (suc k)) e (rows k) ≡ combination F (N (suc k)) y (rows k)

    lifted : (k : ℕ) (y : List ℕ) → IsVector F (N k) y → ZeroOnUppers (kinds (suc k)) (combination F (N (suc k)) y (rows k)) → Lifted k y
    lifted zero y v z = record {
      u = part (kinds 0) y;
      e = y;
      is = record { vector = v; own = refl; none = none_upper (kinds 0) y S.bottom (v.long ∙ sym (S.splits 0).below); closed = z };
      same = refl;
    }
    lifted (suc k) y v z =
        let n : ℕ = N (suc k) in
        let m : ℕ = N (suc (suc k)) in
        let s = S.splits (suc k) in
        let c = clearing F L (N k) n (rows k) (kinds k) (kinds (suc k)) (S.splits k) y v in
        let d : List ℕ = combination F n c.1 (rows k) in
        let vd : IsVector F n d = combination-vector F L n c.1 (rows k) (S.splits k).matrix in
        let vy : IsVector F m (combination F m y (rows (suc k))) = combination-vector F L m y (rows (suc k)) s.matrix in
        let e : List ℕ = without F n (rows k) y c.1 in
        let same : combination F m e (rows (suc k)) ≡ combination F m y (rows (suc k)) =
        sym (combination-plus F L m (F.neg 1) y d (rows (suc k)) s.matrix (v.long ∙ sym s.long) (vd.long ∙ sym s.long))
        ∙ (ap (plus_scaled F (F.neg 1) (combination F m y (rows (suc k)))) (twice F L N rows kinds reduced S R k c.1) ∙ zeros_added (F.neg 1) m (combination F m y (rows (suc k))) vy) in
        record {
          u = c.0;
          e = e;
          is = record { vector = plus_scaled-vector F L n (F.neg 1) y d v vd; own = c.2.rest; none = c.2.none; closed = subst (ZeroOnUppers (kinds (suc (suc k)))) (sym same) z };
          same = same;
        }

    -- the extension of a reduced cocycle is a cocycle
    extension_cocycle : (k : ℕ) (w x : List ℕ) → IsExtension F (N (suc k)) (N (suc (suc k))) (rows (suc k)) (kinds (suc k)) (kinds (suc (suc k))) w x
        → IsInKernel F (criticals (kinds (suc (suc k)))) (reduced (suc k)) w → IsInKernel F (N (suc (suc k))) (rows (suc k)) x
    extension_cocycle k w x e h =
        let m : ℕ = N (suc (suc k)) in
        let d : List ℕ = combination F m x (rows (suc k)) in
        let s = S.splits (suc (suc k)) in
        let g = commutes F L N rows kinds reduced S R (suc k) w x e in
        let gz : IsExtension F m (N (suc (suc (suc k)))) (rows (suc (suc k))) (kinds (suc (suc k))) (kinds (suc (suc (suc k)))) (replicate (criticals (kinds (suc (suc k)))) 0) d =
        subst (λ (v : List ℕ). IsExtension F m (N (suc (suc (suc k)))) (rows (suc (suc k))) (kinds (suc (suc k))) (kinds (suc (suc (suc k)))) v d) h.zero g in
        record {
          vector = subst (λ (l : ℕ). IsVector F l x) (sym (S.splits (suc k)).long) e.vector;
          zero = extension_is_one F L m (N (suc (suc (suc k)))) (rows (suc (suc k))) (kinds (suc (suc k))) (kinds (suc (suc (suc k)))) s (replicate (criticals (kinds (suc (suc k)))) 0) d (replicate m 0) gz
              (Linear.extension-zeros F L m (N (suc (suc (suc k)))) (rows (suc (suc k))) (kinds (suc (suc k))) (kinds (suc (suc (suc k)))) s);
        }

    extension_cocycles : (k : ℕ) (ws xs : List (List ℕ)) → AreExtensions F (N (suc k)) (N (suc (suc k))) (rows (suc k)) (kinds (suc k)) (kinds (suc (suc k))) ws xs
        → AllByRecursion (IsInKernel F (criticals (kinds (suc (suc k)))) (reduced (suc k))) ws → AllByRecursion (IsInKernel F (N (suc (suc k))) (rows (suc k))) xs
    extension_cocycles k [] [] e h = tt
    extension_cocycles k [] (x ∷ xs) e h = absurd e
    extension_cocycles k (w ∷ ws) [] e h = absurd e
    extension_cocycles k (w ∷ ws) (x ∷ xs) e h = (extension_cocycle k w x e.0 h.0, extension_cocycles k ws xs e.1 h.1)

    kernels-matrix : (k : ℕ) (ws : List (List ℕ)) → AllByRecursion (IsInKernel F (criticals (kinds (suc (suc k)))) (reduced (suc k))) ws → IsMatrix F (criticals (kinds (suc k))) ws
    kernels-matrix k [] h = tt
    kernels-matrix k (w ∷ ws) h = (subst (λ (l : ℕ). IsVector F l w) (R (suc k)).long h.0.vector, kernels-matrix k ws h.1)

    -- a cocycle is a combination of the extensions plus a coboundary
    spanned : (k : ℕ) (ws xs : List (List ℕ)) → IsCohomologyBasis F (criticals (kinds (suc (suc k)))) (reduced k) (reduced (suc k)) ws
        → AreExtensions F (N (suc k)) (N (suc (suc k))) (rows (suc k)) (kinds (suc k)) (kinds (suc (suc k))) ws xs → (z : List ℕ) → IsInKernel F (N (suc (suc k))) (rows (suc k)) z
        → (cs : List ℕ) × (b : List ℕ) × IsVector F (length xs) cs × InSpan F (N (suc k)) (rows k) b × (z ≡ plus_scaled F 1 b (combination F (N (suc k)) cs xs))
    spanned k ws xs B E z h =
        let n0 : ℕ = N k in
        let n : ℕ = N (suc k) in
        let m : ℕ = N (suc (suc k)) in
        let ts : List Kind = kinds (suc k) in
        let us : List Kind = kinds (suc (suc k)) in
        let c : ℕ = criticals ts in
        let s0 = S.splits k in
        let s = S.splits (suc k) in
        let vz : IsVector F n z = subst (λ (l : ℕ). IsVector F l z) s.long h.vector in
        let cl = clearing F L n0 n (rows k) (kinds k) ts s0 z vz in
        let w : List ℕ = cl.0 in
        let y : List ℕ = cl.1 in
        let dy : List ℕ = combination F n y (rows k) in
        let vdy : IsVector F n dy = combination-vector F L n y (rows k) s0.matrix in
        let left : CocyclesClear F N rows kinds reduced k z w y = cleared F L N rows kinds reduced S R k z w y h cl.2 in
        let t = B.spans w left.cocycle in
        let cs : List ℕ = t.0 in
        let b : List ℕ = t.1 in
        let u : List ℕ = t.3.coefficients in
        let vu : IsVector F (criticals (kinds k)) u = subst (λ (l : ℕ). IsVector F l u) (R k).long t.3.vector in
        let eu = extension F L n0 n (rows k) (kinds k) ts s0 u vu in
        let du : List ℕ = combination F n eu.0 (rows k) in
        let is_b : combination F c u (reduced k) ≡ b = subst (λ (l : ℕ). combination F l u (reduced k) ≡ b) (R (suc k)).long t.3.is in
        let gu : IsExtension F n m (rows (suc k)) ts us b du = subst (λ (v : List ℕ). IsExtension F n m (rows (suc k)) ts us v du) is_b (commutes F L N rows kinds reduced S R k u eu.0 eu.1) in
        let q : List ℕ = combination F n cs xs in
        let gq : IsExtension F n m (rows (suc k)) ts us (combination F c cs ws) q = Linear.extension-combination F L n m (rows (suc k)) ts us s cs ws xs E in
        let is_w : plus_scaled F 1 b (combination F c cs ws) ≡ w = sym (subst (λ (l : ℕ). w ≡ plus_scaled F 1 b (combination F l cs ws)) (R (suc k)).long t.4) in
        let gs : IsExtension F n m (rows (suc k)) ts us w (plus_scaled F 1 du q) =
        subst (λ (v : List ℕ). IsExtension F n m (rows (suc k)) ts us v (plus_scaled F 1 du q)) is_w (Linear.extension-plus F L n m (rows (suc k)) ts us s 1 b (combination F c cs ws) du q gu gq) in
        let same : without F n (rows k) z y ≡ plus_scaled F 1 du q = extension_is_one F L n m (rows (suc k)) ts us s w (without F n (rows k) z y) (plus_scaled F 1 du q) left.extension gs in (
          cs,
          plus_scaled F 1 dy du,
          subst (λ (l : ℕ). IsVector F l cs) (sym (Linear.extensions-long F L n m (rows (suc k)) ts us s ws xs E)) t.2,
          record {
            coefficients = plus_scaled F 1 y eu.0;
            vector = subst (λ (l : ℕ). IsVector F l (plus_scaled F 1 y eu.0)) (sym s0.long) (plus_scaled-vector F L n0 1 y eu.0 cl.2.vector eu.1.vector);
            is = sym (combination-plus F L n 1 y eu.0 (rows k) s0.matrix (cl.2.vector.long ∙ sym s0.long) (eu.1.vector.long ∙ sym s0.long));
          },
          sym (added_back n z dy vz vdy) ∙ (ap (λ (r : List ℕ). plus_scaled F 1 r dy) same ∙ rearranged n du q dy gu.vector gq.vector vdy),
        )

    -- only the zero coefficients give a coboundary
    independent : (k : ℕ) (ws xs : List (List ℕ)) → IsCohomologyBasis F (criticals (kinds (suc (suc k)))) (reduced k) (reduced (suc k)) ws
        → AreExtensions F (N (suc k)) (N (suc (suc k))) (rows (suc k)) (kinds (suc k)) (kinds (suc (suc k))) ws xs
        → (cs : List ℕ) → IsVector F (length xs) cs → InSpan F (N (suc k)) (rows k) (combination F (N (suc k)) cs xs) → cs ≡ replicate (length xs) 0
    independent k ws xs B E cs v h =
        let n : ℕ = N (suc k) in
        let m : ℕ = N (suc (suc k)) in
        let ts : List Kind = kinds (suc k) in
        let us : List Kind = kinds (suc (suc k)) in
        let c : ℕ = criticals ts in
        let s = S.splits (suc k) in
        let long : length xs ≡ length ws = Linear.extensions-long F L n m (rows (suc k)) ts us s ws xs E in
        let x : List ℕ = combination F n cs xs in
        let g : IsExtension F n m (rows (suc k)) ts us (combination F c cs ws) x = Linear.extension-combination F L n m (rows (suc k)) ts us s cs ws xs E in
        let y : List ℕ = h.coefficients in
        let vy : IsVector F (N k) y = subst (λ (l : ℕ). IsVector F l y) (S.splits k).long h.vector in
        let f : Lifted k y = lifted k y vy (subst (ZeroOnUppers ts) (sym h.is) g.none) in
        let is : combination F c f.u (reduced k) ≡ combination F c cs ws =
        sym (reduced_of F L N rows kinds reduced S R k f.u f.e f.is) ∙ (ap (part ts) (f.same ∙ h.is) ∙ g.own) in
        let vu : IsVector F (criticals (kinds k)) f.u = Linear.extension-part F L (N k) n (rows k) (kinds k) ts (S.splits k) f.u f.e f.is in
        B.unique cs (subst (λ (l : ℕ). IsVector F l cs) long v)
        (subst (λ (l : ℕ). InSpan F l (reduced k) (combination F l cs ws)) (sym (R (suc k)).long)
        (record { coefficients = f.u; vector = subst (λ (l : ℕ). IsVector F l f.u) (sym (R k).long) vu; is = is }))
        ∙ ap (λ (l : ℕ). replicate l 0) (sym long)

    pub bases_extend : (k : ℕ) (ws xs : List (List ℕ)) → IsCohomologyBasis F (criticals (kinds (suc (suc k)))) (reduced k) (reduced (suc k)) ws
        → AreExtensions F (N (suc k)) (N (suc (suc k))) (rows (suc k)) (kinds (suc k)) (kinds (suc (suc k))) ws xs → IsCohomologyBasis F (N (suc (suc k))) (rows k) (rows (suc k)) xs
    bases_extend k ws xs B E =
        let l : length (rows (suc k)) ≡ N (suc k) = (S.splits (suc k)).long in
        record {
          cocycles = extension_cocycles k ws xs E B.cocycles;
          spans = λ z h.
              subst (λ (n : ℕ). (cs : List ℕ) × (b : List ℕ) × IsVector F (length xs) cs × InSpan F n (rows k) b × (z ≡ plus_scaled F 1 b (combination F n cs xs))) (sym l) (spanned k ws xs B E z h);
          unique = λ cs v h. independent k ws xs B E cs v (subst (λ (n : ℕ). InSpan F n (rows k) (combination F n cs xs)) l h);
        }

    pub betti_by_reduced_ranks : (k betti rank_last rank_next : ℕ) (last next : List (List ℕ)) → IsReducedTo F (criticals (kinds (suc k))) rank_last (criticals (kinds (suc k))) (reduced k) last
        → IsReducedTo F (criticals (kinds (suc (suc k)))) rank_next (criticals (kinds (suc (suc k)))) (reduced (suc k)) next → betti + rank_last + rank_next ≡ criticals (kinds (suc k))
        → (zs : List (List ℕ)) × IsCohomologyBasis F (N (suc (suc k))) (rows k) (rows (suc k)) zs × (length zs ≡ betti)
    betti_by_reduced_ranks k betti rank_last rank_next last next h g e =
        let ts : List Kind = kinds (suc k) in
        let us : List Kind = kinds (suc (suc k)) in
        let s = S.splits (suc k) in
        let b =
        basis_by_ranks F L (criticals ts) (criticals us) rank_last rank_next (reduced k) (reduced (suc k)) last next (R k).matrix (R (suc k)).matrix (R (suc k)).long (reduced_closed F L N rows kinds reduced S R k) h g in
        let xs = Linear.extend_all F L (N (suc k)) (N (suc (suc k))) (rows (suc k)) ts us s b.zs (kernels-matrix k b.zs b.basis.cocycles) in
        let long : length xs.0 ≡ length b.zs = Linear.extensions-long F L (N (suc k)) (N (suc (suc k))) (rows (suc k)) ts us s b.zs xs.0 xs.1 in
        (xs.0, bases_extend k b.zs xs.0 b.basis xs.1, omega (arith, long, b.count, e, (R (suc k)).long))
