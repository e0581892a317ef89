-- Bases of kernels by the history of a reduction, and bases modulo coboundaries by kernels.
use Rattle.std.proofs.Common.{◌≡◌, ℕ, ◌+◌, ◌-◌, ◌<◌, ◌≤◌, List, [], ◌∷◌, ◌++◌, length, length-append, length-drop, map, take, drop, replicate, get_or, refl, ap, sym, ◌∙◌, arith, subst}
use Rattle.std.specs.List.{AllByRecursion}
use Rattle.std.proofs.lemmas.Simd.{length-replicate, get_or-replicate}
use Rattle.std.proofs.lemmas.List.{length-map, length-take-le, take-append-drop, get_or-drop, get_or-map, get_or_default, ext_get_or, drop_at}
use Rattle.std.proofs.lemmas.List.Elements.{recursion_from_All}
use Rattle.small_field.specs.Field.{Ops, IsField}
use Rattle.small_field.specs.Values.{AreElements}
use Rattle.small_field.proofs.CallerLemmas.{neg_neg}
use Rattle.linear_laws.specs.Vectors.{IsVector, IsMatrix, IsBasis, plus_scaled, combination, InSpan, IsIndependent, IsInKernel, IsKernelBasis, IsHistory, row_at}
use Rattle.linear_laws.specs.Echelon.{IsReducedTo}
use Rattle.linear_laws.specs.Laws.{HistoryGivesKernel, KernelsComplete, IndependentSpan, TrianglesCertify}
use Rattle.linear_laws.proofs.Span.{combination-vector, combination-zeros, combination-plus, plus_scaled-vector, zeros-elements, one_times, taken_back, span_rows}
use Rattle.linear_laws.proofs.Dimension.{combination_twice}
use Rattle.linear_laws.proofs.Betti.{in_span_trans, combination-append, plus_zeros, pivots_independent, few}
use Rattle.linear_laws.proofs.Halves.{drop_zeros, combination_of_zeros}
use Rattle.linear_laws.proofs.Triangles.{full_spans, certified}
use Rattle.linear_laws.proofs.Alls.{all_append, all_weaker, all_take, all_drop, all_at}

-- what holds of each element of two lists joined
all_front : {A : Type 0} (P : A → Type 0) (xs ys : List A) → AllByRecursion P (xs ++ ys) → AllByRecursion P xs
all_front P [] ys h = tt
all_front P (x ∷ xs) ys h = (h.0, all_front P xs ys h.1)

all_back : {A : Type 0} (P : A → Type 0) (xs ys : List A) → AllByRecursion P (xs ++ ys) → AllByRecursion P ys
all_back P [] ys h = h
all_back P (x ∷ xs) ys h = all_back P xs ys h.1

module _ (k : Ops) (f : IsField k) where
  -- a combination, before and from a row on
  in_parts : (n r : ℕ) (cs : List ℕ) (rows : List (List ℕ)) → IsMatrix k n rows → length cs ≡ length rows → r ≤ length rows
      → combination k n cs rows ≡ plus_scaled k 1 (combination k n (drop r cs) (drop r rows)) (combination k n (take r cs) (take r rows))
  in_parts n r cs rows a l le =
      ap (λ (ds : List ℕ). combination k n ds rows) (sym (take-append-drop r cs))
      ∙ (ap (combination k n (take r cs ++ drop r cs)) (sym (take-append-drop r rows))
      ∙ combination-append k f n (take r cs) (drop r cs) (take r rows) (drop r rows) (all_take (IsVector k n) r rows a) (all_drop (IsVector k n) r rows a)
      (length-take-le r cs (omega (arith, l, le)) ∙ sym (length-take-le r rows le)))

  -- the later ones of independent vectors are independent
  later_independent : (n : ℕ) (xs ys : List (List ℕ)) → IsMatrix k n (xs ++ ys) → IsIndependent k n (xs ++ ys) → IsIndependent k n ys
  later_independent n xs ys a ind cs v z =
      let x : IsMatrix k n xs = all_front (IsVector k n) xs ys a in
      let y : IsMatrix k n ys = all_back (IsVector k n) xs ys a in
      let zs : List ℕ = replicate (length xs) 0 in
      let lz : length zs ≡ length xs = length-replicate (length xs) 0 in
      let C : List ℕ = combination k n cs ys in
      let whole : combination k n (zs ++ cs) (xs ++ ys) ≡ replicate n 0 =
      combination-append k f n zs cs xs ys x y lz ∙ (ap (plus_scaled k 1 C) (combination-zeros k f n (length xs) xs x) ∙ (plus_zeros k f n C (combination-vector k f n cs ys y) ∙ z)) in
      let vector : IsVector k (length (xs ++ ys)) (zs ++ cs) = record {
        long = length-append zs cs ∙ (ap (λ (j : ℕ). j + length cs) lz ∙ (ap (λ (j : ℕ). length xs + j) v.long ∙ sym (length-append xs ys)));
        elements = all_append (λ x. x < k.size) zs cs (zeros-elements k f (length xs)) v.elements;
      } in
      let none : zs ++ cs ≡ replicate (length (xs ++ ys)) 0 = ind (zs ++ cs) vector whole in
      sym (drop_at zs cs (length xs) lz) ∙ (ap (drop (length xs)) (none ∙ ap (λ (j : ℕ). replicate {A = ℕ} j 0) (length-append xs ys)) ∙ drop_zeros (length xs) (length ys))

  -- ---- the kernel, by a history

  module _ (n rank : ℕ) (rows after history : List (List ℕ)) (a : IsMatrix k n rows) (h : IsReducedTo k n rank n rows after) (w : IsHistory k n rows after history) where
    long_history : length history ≡ length after
    long_history = sym (length-map history (λ cs. combination k n cs rows)) ∙ ap (λ (ws : List (List ℕ)). length ws) w.gives

    rank_few : rank ≤ length history
    rank_few = let l : rank ≤ length after = few k f n rank rows after h in omega (arith, l, long_history)

    zeros_after : (i : ℕ) → rank ≤ i → i < length after → row_at after i ≡ replicate n 0
    zeros_after i le lt =
        let v : IsVector k n (row_at after i) = all_at (IsVector k n) after i [] lt h.matrix in
        let e : length h.pivots ≡ rank = h.rank_is in
        ext_get_or 0 (row_at after i) (replicate n 0) (v.long ∙ sym (length-replicate n 0))
        (λ j lj. let l : j < n = omega (arith, lj, v.long) in h.reduced.zero i j (omega arith) lt l ∙ sym (get_or-replicate n j 0 0 l))

    gives_at : (i : ℕ) → i < length history → combination k n (row_at history i) rows ≡ row_at after i
    gives_at i lt = sym (get_or-map (λ cs. combination k n cs rows) history i [] [] lt) ∙ ap (λ (ws : List (List ℕ)). row_at ws i) w.gives

    later_zeros : AllByRecursion (λ r. r ≡ replicate n 0) (drop rank after)
    later_zeros =
        recursion_from_All (λ (r : List ℕ). r ≡ replicate n 0) (drop rank after)
        (λ i d lt.
        let l : length (drop rank after) ≡ length after - rank = length-drop rank after in
        let li : rank + i < length after = omega (arith, lt, l) in
        sym (get_or_default (drop rank after) i [] d lt) ∙ (get_or-drop rank after i [] ∙ zeros_after (rank + i) (omega arith) li))

    inside : AllByRecursion (IsInKernel k n rows) (drop rank history)
    inside =
        recursion_from_All (IsInKernel k n rows) (drop rank history)
        (λ i d lt.
        let l : length (drop rank history) ≡ length history - rank = length-drop rank history in
        let li : rank + i < length history = omega (arith, lt, l) in
        let is : get_or (drop rank history) i d ≡ row_at history (rank + i) = get_or_default (drop rank history) i d [] lt ∙ get_or-drop rank history i [] in
        subst (IsInKernel k n rows) (sym is)
        (record {
          vector = all_at (IsVector k (length rows)) history (rank + i) [] li w.matrix;
          zero = gives_at (rank + i) li ∙ zeros_after (rank + i) (omega arith) (subst (λ (j : ℕ). rank + i < j) long_history li);
        }))

    complete : (x : List ℕ) → IsInKernel k n rows x → InSpan k (length rows) (drop rank history) x
    complete x q =
        let N : ℕ = length rows in
        let p : InSpan k N history x = full_spans k f N history x w.matrix q.vector w.independent (long_history ∙ h.long) in
        let e : List ℕ = p.coefficients in
        let none : combination k n e after ≡ replicate n 0 =
        ap (combination k n e) (sym w.gives) ∙ (combination_twice k f n e history rows a w.matrix ∙ (ap (λ (y : List ℕ). combination k n y rows) p.is ∙ q.zero)) in
        let le : rank ≤ length after = few k f n rank rows after h in
        let lh : length e ≡ length history = p.vector.long in
        let la : length e ≡ length after = p.vector.long ∙ long_history in
        let lt : length (take rank after) ≡ rank = length-take-le rank after le in
        let F : List ℕ = combination k n (take rank e) (take rank after) in
        let vF : IsVector k n F = combination-vector k f n (take rank e) (take rank after) (all_take (IsVector k n) rank after h.matrix) in
        let front : F ≡ replicate n 0 =
        sym (one_times k f n F vF.long vF.elements) ∙ (ap (λ (y : List ℕ). plus_scaled k 1 y F) (sym (combination_of_zeros k f n (drop rank e) (drop rank after) later_zeros)) ∙ (sym (in_parts n rank e after h.matrix la le) ∙ none)) in
        let vt : IsVector k (length (take rank after)) (take rank e) = record { long = length-take-le rank e (omega (arith, la, le)) ∙ sym lt; elements = all_take (λ x. x < k.size) rank e p.vector.elements } in
        let zs : take rank e ≡ replicate rank 0 = pivots_independent k f n rank rows after h (take rank e) vt front ∙ ap (λ (j : ℕ). replicate {A = ℕ} j 0) lt in
        let B : List ℕ = combination k N (drop rank e) (drop rank history) in
        let mT : IsMatrix k N (take rank history) = all_take (IsVector k N) rank history w.matrix in
        let vB : IsVector k N B = combination-vector k f N (drop rank e) (drop rank history) (all_drop (IsVector k N) rank history w.matrix) in
        let is : x ≡ B =
        sym p.is ∙ (in_parts N rank e history w.matrix lh rank_few
        ∙ (ap (plus_scaled k 1 B) (ap (λ (cs : List ℕ). combination k N cs (take rank history)) zs ∙ combination-zeros k f N rank (take rank history) mT) ∙ plus_zeros k f N B vB)) in
        record {
          coefficients = drop rank e;
          vector = record { long = length-drop rank e ∙ (ap (λ (j : ℕ). j - rank) lh ∙ sym (length-drop rank history)); elements = all_drop (λ x. x < k.size) rank e p.vector.elements };
          is = sym is;
        }

  pub history_gives_kernel : HistoryGivesKernel k
  history_gives_kernel n rank rows after history a h w =
      let parts : take rank history ++ drop rank history ≡ history = take-append-drop rank history in
      record {
        matrix = all_drop (IsVector k (length rows)) rank history w.matrix;
        inside = inside n rank rows after history a h w;
        independent = later_independent (length rows) (take rank history) (drop rank history) (subst (IsMatrix k (length rows)) (sym parts) w.matrix) (subst (IsIndependent k (length rows)) (sym parts) w.independent);
        complete = complete n rank rows after history a h w;
      }

  -- ---- a kernel and what completes a basis of the coboundaries to one of both

  plus_turned : (x y : List ℕ) → length x ≡ length y → AreElements k x → AreElements k y → plus_scaled k 1 x y ≡ plus_scaled k 1 y x
  plus_turned [] [] l a b = refl
  plus_turned [] (y ∷ ys) l a b = absurd (omega (arith, l))
  plus_turned (x ∷ xs) [] l a b = absurd (omega (arith, l))
  plus_turned (x ∷ xs) (y ∷ ys) l a b =
      let here : k.add x (k.mul 1 y) ≡ k.add y (k.mul 1 x) = ap (k.add x) (f.one_mul y b.0) ∙ (f.add_comm x y ∙ ap (k.add y) (sym (f.one_mul x a.0))) in
      ap (λ (n : ℕ). n ∷ plus_scaled k 1 xs ys) here ∙ ap (λ (r : List ℕ). k.add y (k.mul 1 x) ∷ r) (plus_turned xs ys (omega (arith, l)) a.1 b.1)

  all_mapped : (m : ℕ) (next vs : List (List ℕ)) → AllByRecursion (IsInKernel k m next) vs → AllByRecursion (λ r. r ≡ replicate m 0) (map (λ d. combination k m d next) vs)
  all_mapped m next [] h = tt
  all_mapped m next (v ∷ vs) h = (h.0.zero, all_mapped m next vs h.1)

  all_vectors : (m : ℕ) (next vs : List (List ℕ)) → AllByRecursion (IsInKernel k m next) vs → IsMatrix k (length next) vs
  all_vectors m next [] h = tt
  all_vectors m next (v ∷ vs) h = (h.0.vector, all_vectors m next vs h.1)

  -- a combination of vectors of the kernel
  kernel_span : (m : ℕ) (next vs : List (List ℕ)) (v : List ℕ) → IsMatrix k m next → AllByRecursion (IsInKernel k m next) vs → InSpan k (length next) vs v → IsInKernel k m next v
  kernel_span m next vs v b h p =
      let a : IsMatrix k (length next) vs = all_vectors m next vs h in
      subst (IsInKernel k m next) p.is
      (record {
        vector = combination-vector k f (length next) p.coefficients vs a;
        zero = sym (combination_twice k f m p.coefficients vs next b a) ∙ combination_of_zeros k f m p.coefficients (map (λ d. combination k m d next) vs) (all_mapped m next vs h);
      })

  coboundaries_in : (m : ℕ) (next last : List (List ℕ)) → IsMatrix k (length next) last → AllByRecursion (λ b. combination k m b next ≡ replicate m 0) last → AllByRecursion (IsInKernel k m next) last
  coboundaries_in m next [] a h = tt
  coboundaries_in m next (b ∷ last) a h = (record { vector = a.0; zero = h.0 }, coboundaries_in m next last a.1 h.1)

  module _ (m : ℕ) (last next zs bs ws : List (List ℕ)) (al : IsMatrix k (length next) last) (an : IsMatrix k m next) (closed : AllByRecursion (λ b. combination k m b next ≡ replicate m 0) last) (kernel : IsKernelBasis k m next zs)
      (basis : IsBasis k (length next) last bs) (both : IsBasis k (length next) (last ++ zs) (bs ++ ws)) where
    abbrev N : ℕ
    N = length next

    bs_matrix : IsMatrix k N bs
    bs_matrix = all_front (IsVector k N) bs ws both.matrix

    ws_matrix : IsMatrix k N ws
    ws_matrix = all_back (IsVector k N) bs ws both.matrix

    all_cocycles : AllByRecursion (IsInKernel k m next) (bs ++ ws)
    all_cocycles =
        all_weaker (InSpan k N (bs ++ ws)) (IsInKernel k m next)
        (λ v p. kernel_span m next (last ++ zs) v an (all_append (IsInKernel k m next) last zs (coboundaries_in m next last al closed) kernel.inside) (both.span.back v p)) (bs ++ ws) (span_rows k f N (bs ++ ws) both.matrix)

    spans : (z : List ℕ) → IsInKernel k m next z → (cs : List ℕ) × (b : List ℕ) × IsVector k (length ws) cs × InSpan k N last b × (z ≡ plus_scaled k 1 b (combination k N cs ws))
    spans z h =
        let wide : IsMatrix k N (last ++ zs) = all_append (IsVector k N) last zs al kernel.matrix in
        let inside : InSpan k N (last ++ zs) z = in_span_trans k f N zs (last ++ zs) z wide (all_back (InSpan k N (last ++ zs)) last zs (span_rows k f N (last ++ zs) wide)) (kernel.complete z h) in
        let p : InSpan k N (bs ++ ws) z = both.span.there z inside in
        let q : ℕ = length bs in
        let gs : List ℕ = take q p.coefficients in
        let cs : List ℕ = drop q p.coefficients in
        let lp : length p.coefficients ≡ length (bs ++ ws) = p.vector.long in
        let app : length (bs ++ ws) ≡ length bs + length ws = length-append bs ws in
        let lg : length gs ≡ q = length-take-le q p.coefficients (omega arith) in
        let lc : length cs ≡ length ws = length-drop q p.coefficients ∙ omega arith in
        let b : List ℕ = combination k N gs bs in
        let W : List ℕ = combination k N cs ws in
        let vb : IsVector k N b = combination-vector k f N gs bs bs_matrix in
        let vW : IsVector k N W = combination-vector k f N cs ws ws_matrix in
        let vg : IsVector k (length bs) gs = record { long = lg; elements = all_take (λ x. x < k.size) q p.coefficients p.vector.elements } in (
          cs,
          b,
          record { long = lc; elements = all_drop (λ x. x < k.size) q p.coefficients p.vector.elements },
          basis.span.back b (record { coefficients = gs; vector = vg; is = refl }),
          sym p.is
              ∙ (ap (λ (c : List ℕ). combination k N c (bs ++ ws)) (sym (take-append-drop q p.coefficients))
              ∙ (combination-append k f N gs cs bs ws bs_matrix ws_matrix lg ∙ plus_turned W b (vW.long ∙ sym vb.long) vW.elements vb.elements)),
        )

    unique : (cs : List ℕ) → IsVector k (length ws) cs → InSpan k N last (combination k N cs ws) → cs ≡ replicate (length ws) 0
    unique cs v h =
        let W : List ℕ = combination k N cs ws in
        let vW : IsVector k N W = combination-vector k f N cs ws ws_matrix in
        let p : InSpan k N bs W = basis.span.there W h in
        let none : List ℕ = replicate (length bs) 0 in
        let gs : List ℕ = plus_scaled k (k.neg 1) none p.coefficients in
        let vz : IsVector k (length bs) none = record { long = length-replicate (length bs) 0; elements = zeros-elements k f (length bs) } in
        let vg : IsVector k (length bs) gs = plus_scaled-vector k f (length bs) (k.neg 1) none p.coefficients vz p.vector in
        let Z : List ℕ = replicate N 0 in
        let vZ : IsVector k N Z = record { long = length-replicate N 0; elements = zeros-elements k f N } in
        let G : combination k N gs bs ≡ plus_scaled k (k.neg 1) Z W =
        sym (combination-plus k f N (k.neg 1) none p.coefficients bs bs_matrix vz.long p.vector.long)
        ∙ (ap (λ (y : List ℕ). plus_scaled k (k.neg 1) y (combination k N p.coefficients bs)) (combination-zeros k f N (length bs) bs bs_matrix) ∙ ap (plus_scaled k (k.neg 1) Z) p.is) in
        let vG : IsVector k N (plus_scaled k (k.neg 1) Z W) = plus_scaled-vector k f N (k.neg 1) Z W vZ vW in
        let one : 1 ≡ k.neg (k.neg 1) = sym (neg_neg k f 1 f.one_below) in
        let z : combination k N (gs ++ cs) (bs ++ ws) ≡ Z =
        combination-append k f N gs cs bs ws bs_matrix ws_matrix vg.long
        ∙ (ap (plus_scaled k 1 W) G ∙ (plus_turned W (plus_scaled k (k.neg 1) Z W) (vW.long ∙ sym vG.long) vW.elements vG.elements
        ∙ (ap (λ (c : ℕ). plus_scaled k c (plus_scaled k (k.neg 1) Z W) W) one ∙ taken_back k f (k.neg 1) Z W (vZ.long ∙ sym vW.long) vZ.elements))) in
        let vall : IsVector k (length (bs ++ ws)) (gs ++ cs) = record {
          long = length-append gs cs ∙ (ap (λ (j : ℕ). j + length cs) vg.long ∙ (ap (λ (j : ℕ). length bs + j) v.long ∙ sym (length-append bs ws)));
          elements = all_append (λ x. x < k.size) gs cs vg.elements v.elements;
        } in
        let all : gs ++ cs ≡ replicate (length (bs ++ ws)) 0 = both.independent (gs ++ cs) vall z in
        sym (drop_at gs cs (length bs) vg.long) ∙ (ap (drop (length bs)) (all ∙ ap (λ (j : ℕ). replicate {A = ℕ} j 0) (length-append bs ws)) ∙ drop_zeros (length bs) (length ws))

  pub kernels_complete : KernelsComplete k
  kernels_complete m last next zs bs ws al an closed kernel basis both = record {
    cocycles = all_back (IsInKernel k m next) bs ws (all_cocycles m last next zs bs ws al an closed kernel basis both);
    spans = spans m last next zs bs ws al an closed kernel basis both;
    unique = unique m last next zs bs ws al an closed kernel basis both;
  }

  pub independent_span : IndependentSpan k
  independent_span = full_spans k f

  pub triangles_certify : TrianglesCertify k
  triangles_certify n xs ws es us z a b h g l v killed = certified k f n xs ws es us z a b (all_front (IsVector k n) ws us b) h g l v killed
