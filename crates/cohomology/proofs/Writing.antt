-- A cocycle written by the classes of its degree.
use Rattle.std.proofs.Common.{◌≡◌, ℕ, zero, suc, ◌+◌, ◌<◌, ◌≤◌, inl, inr, List, [], ◌∷◌, Option, Some, None, true, length, map, drop, get_or, replicate, refl, ap, sym, ◌∙◌, subst, arith}
use Rattle.std.specs.List.{AllByRecursion}
use Rattle.std.proofs.Math.ListN.{drop_of_length-le}
use Rattle.std.proofs.lemmas.Grind.{same_number_lists}
use Rattle.std.proofs.lemmas.List.{get_or-map, get_or-set_other, length-map}
use Rattle.std.proofs.lemmas.List.FromFn.{length-map-range_with_len}
use Rattle.std.proofs.lemmas.Simd.{length-replicate, get_or-replicate}
use Rattle.face_poset.specs.Poset.{Layers}
use Rattle.small_field.specs.Field.{Ops, IsField}
use Rattle.small_field.specs.Values.{AreElements}
use Rattle.small_field.proofs.CallerLemmas.{add_cancel, add_zero, mul_zero, neg_neg, zero_below}
use Rattle.linear_laws.specs.Betti.{IsCohomologyBasis}
use Rattle.linear_laws.specs.Linear.{IsLinear}
use Rattle.linear_laws.specs.Marks.{mark}
use Rattle.linear_laws.specs.Vectors.{boundary, combination, dot, plus_scaled, row_at, InSpan, IsHistory, IsInKernel, IsMatrix, IsVector}
use Rattle.linear_laws.proofs.CallerLemmas.{adjoint, all_nonzero, combination-plus, combination-vector, combination-zeros, dot_added, dot_below, dot_comm, dot_mark, dot_zeros, functional_of_combination, in_span_trans, length-mark, plus_scaled-long, plus_scaled-vector, plus_zeros, regroup, same_or_not, span_rows, taken_back, zeros_dot, zeros_plus}
use Rattle.order_complex.specs.Chains.{chains_of}
use Rattle.order_complex.specs.Cochains.{coboundary_on}
use Rattle.order_complex.specs.Homology.{IsCocycle}
use Rattle.order_complex.specs.Ranks.{rows_into}
use Rattle.split_laws.specs.declared.kind.Kind.{Kind}
use Rattle.split_laws.specs.Kinds.{criticals, part, ZeroOnUppers}
use Rattle.split_laws.specs.Laws.{CocyclesAreExtensions, CocyclesClear, ExtensionsCommute, ExtensionsPair, FlowsCommute, SolutionsAreOne}
use Rattle.split_laws.specs.Split.{IsSplit}
use Rattle.split_laws.specs.Solutions.{IsCleared, IsExtension, IsFlow, IsReducedBy, without}
use Rattle.split_laws.proofs.CallerLemmas.{none-zeros, part-long, part-vector, part-zeros}
use Rattle.critical_complex.specs.Levels.{Level, cells_at, kinds_at, rows_at, IsClearedAt, IsExtensionAt, IsReducedAt}
use Rattle.critical_complex.specs.Complex.{IsReducedComplex}
use Rattle.chain_laws.specs.Laws.{EntriesAreCochains, EquationsAreTests, ValuesFitEntries}
use Rattle.chain_laws.specs.Lines.{chains_below, class_holds, cochain_in, cochain_of, element_at, AreEntries}
use Rattle.chain_laws.specs.AllLines.{Line, left_sides, lines_of, right_sides, ArePaired, IsClassLine}
use Rattle.cohomology.specs.Bases.{cells_with, kinds_with, rows_with, HaveSides, HomologyLines, IsReducedFrom}
use Rattle.cohomology.specs.Echelons.{rank_in, AreRowsOf, IsEchelon}
use Rattle.cohomology.specs.RankLines.{HaveRows, IsSpread}
use Rattle.field_matrix.specs.Solutions.{IsAnswer, IsElimination}
use Rattle.linear_laws.specs.Echelon.{rank_of, IsReducedTo}
use Rattle.linear_laws.specs.ZeroRows.{nonzero_rows}
use Rattle.std.specs.Option.{IsSome}
use Rattle.field_matrix.specs.declared.history.Elimination.{Elimination}
use Rattle.cohomology.proofs.ClassLemmas.{extension_index, reduced_index}
use Rattle.cohomology.specs.declared.written.Written.{Written}
use Rattle.cohomology.specs.Written.{AreBasesOf, AreValuesOn, IsBoundFor, IsInto, IsWritten}
use Rattle.cohomology.proofs.BasesLemmas.{extension_at, flow_at}
use Rattle.cohomology.proofs.Cohomology.{some, are_some}
use Rattle.cohomology.proofs.Complexes.{cells_are, into_rows}
use Rattle.cohomology.proofs.ReducedRows.{reduced_is_one, with_vectors}

-- ---- products with combinations

module _ (F : Ops) (L : IsField F) where
  on_test : (n : ℕ) (v : List ℕ) → length v ≡ n → IsLinear F n (λ r. dot F r v)
  on_test n v l = record { zero = zeros_dot F L n v; plus = λ s a b va vb. dot_added F L s a b v (va.long ∙ sym vb.long) (vb.long ∙ sym l) }

  -- where the products of the rows with a vector are those of a mark, the product of a combination is the coefficient there
  at_coefficient : (n i : ℕ) (cs v : List ℕ) (rows : List (List ℕ)) → IsMatrix F n rows → IsVector F (length rows) cs → length v ≡ n → i < length rows → map (λ r. dot F r v) rows ≡ mark (length rows) i → dot F (combination F n cs rows) v ≡ get_or cs i 0
  at_coefficient n i cs v rows m c l li e =
      functional_of_combination F L n (λ r. dot F r v) cs rows (on_test n v l) m c.long
      ∙ ap (dot F cs) e
      ∙ dot_comm F L cs (mark (length rows) i)
      ∙ dot_mark F L (length rows) i cs c li

  -- what was taken away is added again
  abbrev pub taken : (cs : List ℕ) (zs : List (List ℕ)) (x : List ℕ) → List ℕ
  taken [] zs x = x
  taken (c ∷ cs) [] x = x
  taken (c ∷ cs) (z ∷ zs) x = taken cs zs (plus_scaled F (F.neg c) x z)

  pub taken_vector : (n : ℕ) (cs : List ℕ) (zs : List (List ℕ)) (x : List ℕ) → IsMatrix F n zs → IsVector F n x → IsVector F n (taken cs zs x)
  taken_vector n [] zs x m v = v
  taken_vector n (c ∷ cs) [] x m v = v
  taken_vector n (c ∷ cs) (z ∷ zs) x m v = taken_vector n cs zs (plus_scaled F (F.neg c) x z) m.1 (plus_scaled-vector F L n (F.neg c) x z v m.0)

  pub taken_is : (n : ℕ) (cs : List ℕ) (zs : List (List ℕ)) (x : List ℕ) → IsMatrix F n zs → AreElements F cs → length cs ≡ length zs → IsVector F n x → x ≡ plus_scaled F 1 (taken cs zs x) (combination F n cs zs)
  taken_is n [] zs x m e l v = sym (plus_zeros F L n x v)
  taken_is n (c ∷ cs) [] x m e l v = absurd (omega (arith, l))
  taken_is n (c ∷ cs) (z ∷ zs) x m e l v =
      let y : List ℕ = plus_scaled F (F.neg c) x z in
      let vy : IsVector F n y = plus_scaled-vector F L n (F.neg c) x z v m.0 in
      let T : List ℕ = taken cs zs y in
      let C : List ℕ = combination F n cs zs in
      let vT : IsVector F n T = taken_vector n cs zs y m.1 vy in
      let vC : IsVector F n C = combination-vector F L n cs zs m.1 in
      sym (taken_back F L (F.neg c) x z (v.long ∙ sym m.0.long) v.elements)
      ∙ ap (λ k. plus_scaled F k y z) (neg_neg F L c e.0)
      ∙ ap (λ u. plus_scaled F c u z) (taken_is n cs zs y m.1 e.1 (omega (arith, l)) vy)
      ∙ regroup F L c T C z (vT.long ∙ sym m.0.long) (vC.long ∙ sym m.0.long)

  -- the kernel holds the combinations of what it holds
  kernel_combines : (n m : ℕ) (rows : List (List ℕ)) (cs : List ℕ) (zs : List (List ℕ)) → IsMatrix F m rows → length rows ≡ n → IsMatrix F n zs → AllByRecursion (λ z. combination F m z rows ≡ replicate m 0) zs → combination F m (combination F n cs zs) rows ≡ replicate m 0
  kernel_combines n m rows [] zs a l b h = combination-zeros F L m n rows a
  kernel_combines n m rows (c ∷ cs) [] a l b h = combination-zeros F L m n rows a
  kernel_combines n m rows (c ∷ cs) (z ∷ zs) a l b h =
      let C : List ℕ = combination F n cs zs in
      let vC : IsVector F n C = combination-vector F L n cs zs b.1 in
      sym (combination-plus F L m c C z rows a (vC.long ∙ sym l) (b.0.long ∙ sym l))
      ∙ ap (λ u. plus_scaled F c u (combination F m z rows)) (kernel_combines n m rows cs zs a l b.1 h.1)
      ∙ ap (plus_scaled F c (replicate m 0)) h.0
      ∙ zeros_plus F L m c

module _ (F : Ops) where
  paired_row : (space : Layers) (degree : ℕ) (rights : List (List (ℕ × ℕ))) (place : ℕ) (lefts : List (List (ℕ × ℕ))) → ArePaired F space degree rights place lefts → (i : ℕ) → i < length lefts
      → map (λ right. dot F (cochain_in space degree (get_or lefts i [])) (cochain_in space degree right)) rights ≡ mark (length rights) (place + i)
  paired_row space degree rights place [] p i l = absurd (omega (arith, l))
  paired_row space degree rights place (left ∷ lefts) p zero l = p.0 ∙ ap (mark (length rights)) (let z : place ≡ place + 0 = omega arith in z)
  paired_row space degree rights place (left ∷ lefts) p (suc i) l = paired_row space degree rights (suc place) lefts p.1 i (omega (arith, l)) ∙ ap (mark (length rights)) (let z : suc place + i ≡ place + suc i = omega arith in z)

cleared_index : (F : Ops) (levels : List Level) (d : ℕ) (x w y : List ℕ) → IsClearedAt F levels d x w y → IsCleared F (cells_with levels d) (cells_at levels d) (rows_with levels d) (kinds_with levels d) (kinds_at levels d) x w y
cleared_index F levels zero x w y h = h
cleared_index F levels (suc d) x w y h = h

module _ (F : Ops) (L : IsField F) (one : SolutionsAreOne F) (commute : ExtensionsCommute F) (pair : ExtensionsPair F) (flows : FlowsCommute F) (clear : CocyclesAreExtensions F) (fit : ValuesFitEntries F) (levels : List Level) (R : IsReducedComplex F levels) (space : Layers)
    (rows_are : AreRowsOf F levels space) (b : HomologyLines) (B : AreBasesOf F space levels b) (k : ℕ) (small : k ≤ 3) where
  abbrev n : ℕ
  n = cells_at levels k

  abbrev m : ℕ
  m = cells_at levels (suc k)

  abbrev rows : List (List ℕ)
  rows = rows_at levels k

  abbrev us : List Kind
  us = kinds_at levels k

  abbrev lines : List Line
  lines = lines_of b.classes k

  abbrev Z : List (List ℕ)
  Z = map (cochain_of n) (left_sides lines)

  abbrev D : List (List ℕ)
  D = map (cochain_of n) (right_sides lines)

  n_is : n ≡ length (chains_of space k)
  n_is = cells_are F L space levels R rows_are k (omega (arith, small))

  m_is : m ≡ length (chains_of space (suc k))
  m_is = cells_are F L space levels R rows_are (suc k) (omega (arith, small))

  split : IsSplit F n m rows us (kinds_at levels (suc k))
  split = R.complex.splits (suc k)

  -- the coboundary of a cochain is a combination of the rows
  kernel_of : (z : List ℕ) → IsCocycle F space k z → combination F m z rows ≡ replicate m 0
  kernel_of z c =
      ap (λ j. combination F j z rows) m_is
      ∙ ap (combination F (length (chains_of space (suc k))) z) (rows_are k small)
      ∙ sym (fit.coboundary_by space k z c.cochain)
      ∙ c.closed
      ∙ ap (λ j. replicate j 0) (sym m_is)

  cocycle_vector : (z : List ℕ) → IsCocycle F space k z → IsVector F n z
  cocycle_vector z c = subst (λ j. IsVector F j z) (sym n_is) c.cochain

  Z_cocycles : AllByRecursion (IsCocycle F space k) Z
  Z_cocycles = subst (λ j. AllByRecursion (IsCocycle F space k) (map (cochain_of j) (left_sides lines))) (sym n_is) (B.basis k small).cocycles

  each : (P Q : List ℕ → Type 0) → ((z : List ℕ) → P z → Q z) → (zs : List (List ℕ)) → AllByRecursion P zs → AllByRecursion Q zs
  each P Q f [] h = tt
  each P Q f (z ∷ zs) h = (f z h.0, each P Q f zs h.1)

  pub Z_matrix : IsMatrix F n Z
  Z_matrix = each (IsCocycle F space k) (IsVector F n) cocycle_vector Z Z_cocycles

  Z_kernel : AllByRecursion (λ z. combination F m z rows ≡ replicate m 0) Z
  Z_kernel = each (IsCocycle F space k) (λ z. combination F m z rows ≡ replicate m 0) kernel_of Z Z_cocycles

  -- ---- pairing

  Z_long : length Z ≡ length lines
  Z_long = length-map (left_sides lines) (cochain_of n) ∙ length-map lines (λ line. line.left)

  D_long : length D ≡ length lines
  D_long = length-map (right_sides lines) (cochain_of n) ∙ length-map lines (λ line. line.right)

  abbrev d_at : ℕ → List ℕ
  d_at i = row_at D i

  mark_sym : (count i j : ℕ) → i < count → j < count → get_or (mark count i) j 0 ≡ get_or (mark count j) i 0
  mark_sym count i j li lj =
      elim (same_or_not i j) [
        | inl same ↦ ap (λ h. get_or (mark count h) j 0) same ∙ ap (λ h. get_or (mark count j) h 0) (sym same)
        | inr apart ↦
            get_or-set_other (replicate count 0) i j 1 0 (λ e. apart (sym e)) ∙ get_or-replicate count j 0 0 lj
            ∙ sym (get_or-set_other (replicate count 0) j i 1 0 apart ∙ get_or-replicate count i 0 0 li)
      ]

  product : (i j : ℕ) → i < length lines → j < length lines → dot F (row_at Z i) (d_at j) ≡ get_or (mark (length lines) i) j 0
  product i j li lj =
      let lefts : List (List (ℕ × ℕ)) = left_sides lines in
      let rights : List (List (ℕ × ℕ)) = right_sides lines in
      let ll : length lefts ≡ length lines = length-map lines (λ line. line.left) in
      let lr : length rights ≡ length lines = length-map lines (λ line. line.right) in
      let row = subst (λ h. map (λ right. dot F (cochain_of h (get_or lefts i [])) (cochain_of h right)) rights ≡ mark (length rights) (0 + i)) (sym n_is) (paired_row F space k rights 0 lefts (B.duals k small).pairing i (omega (arith, li, ll))) in
      ap (λ z. dot F z (d_at j)) (get_or-map (cochain_of n) lefts i [] [] (omega (arith, li, ll)))
      ∙ ap (dot F (cochain_of n (get_or lefts i []))) (get_or-map (cochain_of n) rights j [] [] (omega (arith, lj, lr)))
      ∙ sym (get_or-map (λ right. dot F (cochain_of n (get_or lefts i [])) (cochain_of n right)) rights j [] 0 (omega (arith, lj, lr)))
      ∙ ap (λ xs. get_or xs j 0) row
      ∙ ap (λ h. get_or (mark h (0 + i)) j 0) lr
      ∙ ap (λ h. get_or (mark (length lines) h) j 0) (let z : 0 + i ≡ i = omega arith in z)

  column : (j : ℕ) → j < length lines → (v : List ℕ) → (zs : List (List ℕ)) → length zs ≡ length lines → ((i : ℕ) → i < length lines → dot F (row_at zs i) v ≡ get_or (mark (length lines) i) j 0)
      → map (λ r. dot F r v) zs ≡ mark (length zs) j
  column j lj v zs l h =
      same_number_lists (map (λ r. dot F r v) zs) (mark (length zs) j) (length-map zs (λ r. dot F r v) ∙ sym (length-mark (length zs) j))
      (λ i li.
      let lz : i < length zs = omega (arith, li, length-map zs (λ r. dot F r v)) in
      let ll : i < length lines = omega (arith, lz, l) in
      get_or-map (λ r. dot F r v) zs i [] 0 lz ∙ h i ll ∙ mark_sym (length lines) i j ll lj ∙ ap (λ h. get_or (mark h j) i 0) (sym l))

  -- ---- dual cycles on the critical cells

  D_flow : (j : ℕ) → j < length lines → IsFlow F (cells_with levels k) n (rows_with levels k) (kinds_with levels k) us (row_at (map (part us) D) j) (d_at j)
  D_flow j l = flow_at F (cells_with levels k) n (rows_with levels k) (kinds_with levels k) us (map (part us) D) D j (B.flows k small) (omega (arith, l, D_long))

  abbrev v_at : ℕ → List ℕ
  v_at j = row_at (map (part us) D) j

  v_long : (j : ℕ) → j < length lines → length (v_at j) ≡ criticals us
  v_long j l = let f = D_flow j l in ap (λ xs. length xs) (sym f.own) ∙ part-long us (d_at j) f.vector.long

  all_rights : (P : List (ℕ × ℕ) → Type 0) (rights : List (List (ℕ × ℕ))) (j : ℕ) → AllByRecursion P rights → j < length rights → P (get_or rights j [])
  all_rights P [] j h l = absurd (omega (arith, l))
  all_rights P (r ∷ rights) zero h l = h.0
  all_rights P (r ∷ rights) (suc j) h l = all_rights P rights j h.1 (omega (arith, l))

  -- their boundaries are zero
  D_cycle : (j : ℕ) → j < length lines → boundary F (rows_with levels k) (d_at j) ≡ replicate (length (rows_with levels k)) 0
  D_cycle j l =
      let rights : List (List (ℕ × ℕ)) = right_sides lines in
      let lr : length rights ≡ length lines = length-map lines (λ line. line.right) in
      let on : boundary F (rows_into F space k) (cochain_in space k (get_or rights j [])) ≡ replicate (length (rows_into F space k)) 0 =
      all_rights (λ right. boundary F (rows_into F space k) (cochain_in space k right) ≡ replicate (length (rows_into F space k)) 0) rights j (B.duals k small).cycles (omega (arith, l, lr)) in
      ap (boundary F (rows_with levels k)) (get_or-map (cochain_of n) rights j [] [] (omega (arith, l, lr)) ∙ ap (λ h. cochain_of h (get_or rights j [])) n_is)
      ∙ subst (λ (ws : List (List ℕ)). boundary F ws (cochain_in space k (get_or rights j [])) ≡ replicate (length ws) 0) (sym (into_rows F L space levels R rows_are k small)) on

  -- and so are those of their values on the critical cells
  v_cycle : (degree : ℕ) (v z : List ℕ) → IsFlow F (cells_with levels degree) (cells_with levels (suc degree)) (rows_with levels degree) (kinds_with levels degree) (kinds_with levels (suc degree)) v z
      → boundary F (rows_with levels degree) z ≡ replicate (length (rows_with levels degree)) 0 → boundary F (some F L one levels R degree) v ≡ replicate (length (some F L one levels R degree)) 0
  v_cycle zero v z f e = no_rows (some F L one levels R 0) ((are_some F L one levels R 0).long)
    where
      no_rows : (ws : List (List ℕ)) → length ws ≡ 0 → boundary F ws v ≡ replicate (length ws) 0
      no_rows [] l = refl
      no_rows (w ∷ ws) l = absurd (omega (arith, l))
  v_cycle (suc d) v z f e =
      let ts : List Kind = kinds_with levels (suc d) in
      let moved = flows (cells_with levels) (rows_with levels) (kinds_with levels) (some F L one levels R) R.complex (are_some F L one levels R) d v z f in
      let s : IsSplit F (cells_with levels (suc d)) (cells_with levels (suc (suc d))) (rows_with levels (suc d)) ts (kinds_with levels (suc (suc d))) = R.complex.splits (suc d) in
      sym moved.own ∙ ap (part ts) e ∙ part-zeros ts (length (rows_with levels (suc d))) (s.below ∙ sym s.long) ∙ ap (λ h. replicate h 0) (sym (are_some F L one levels R (suc d)).long)

  v_cycle_at : (j : ℕ) → j < length lines → (last : List (List ℕ)) → IsReducedFrom F levels k last → boundary F last (v_at j) ≡ replicate (length last) 0
  v_cycle_at j l last is =
      let low = R.complex.splits k in
      subst (λ (ws : List (List ℕ)). boundary F ws (v_at j) ≡ replicate (length ws) 0)
      (reduced_is_one F L one (cells_with levels k) (cells_with levels (suc k)) (rows_with levels k) (kinds_with levels k) (kinds_with levels (suc k)) low (some F L one levels R k) last (are_some F L one levels R k) is)
      (v_cycle k (v_at j) (d_at j) (D_flow j l) (D_cycle j l))

  parts_matrix : (zs : List (List ℕ)) → IsMatrix F n zs → IsMatrix F (criticals us) (map (part us) zs)
  parts_matrix [] h = tt
  parts_matrix (z ∷ zs) h = (part-vector F L us n z refl h.0, parts_matrix zs h.1)

  part_product : (i j : ℕ) → i < length lines → j < length lines → dot F (row_at (map (part us) Z) i) (v_at j) ≡ get_or (mark (length lines) i) j 0
  part_product i j li lj =
      sym
      (pair (cells_with levels k) n m (rows_with levels k) rows (kinds_with levels k) us (kinds_at levels (suc k)) (row_at (map (part us) Z) i) (row_at Z i) (v_at j) (d_at j)
      (extension_at F n m rows us (kinds_at levels (suc k)) (map (part us) Z) Z i (B.extensions k small) (omega (arith, li, Z_long))) (D_flow j lj))
      ∙ product i j li lj

  -- ---- the cocycle

  module _ (x : List ℕ) (cocycle : IsCocycle F space k x) (values : List ℕ) (are : AreValuesOn F n lines x values) (elements : AreElements F values) (rest : List ℕ) (rest_is : x ≡ plus_scaled F 1 rest (combination F n values Z)) (rest_vector : IsVector F n rest) where
    abbrev S : List ℕ
    S = combination F n values Z

    values_long : length values ≡ length lines
    values_long = ap (λ xs. length xs) are ∙ length-map (right_sides lines) (λ right. dot F x (cochain_of n right)) ∙ length-map lines (λ line. line.right)

    S_vector : IsVector F n S
    S_vector = combination-vector F L n values Z Z_matrix

    rest_kernel : IsInKernel F m rows rest
    rest_kernel = record {
      vector = subst (λ h. IsVector F h rest) (sym split.long) rest_vector;
      zero =
          sym (plus_zeros F L m (combination F m rest rows) (combination-vector F L m rest rows split.matrix))
          ∙ ap (plus_scaled F 1 (combination F m rest rows)) (sym (kernel_combines F L n m rows values Z split.matrix split.long Z_matrix Z_kernel))
          ∙ combination-plus F L m 1 rest S rows split.matrix (rest_vector.long ∙ sym split.long) (S_vector.long ∙ sym split.long)
          ∙ ap (λ y. combination F m y rows) (sym rest_is)
          ∙ kernel_of x cocycle;
    }

    d_long : (j : ℕ) → j < length lines → length (d_at j) ≡ n
    d_long j l = (D_flow j l).vector.long

    value_at : (j : ℕ) → j < length lines → dot F x (d_at j) ≡ get_or values j 0
    value_at j l =
        let rights : List (List (ℕ × ℕ)) = right_sides lines in
        let lr : length rights ≡ length lines = length-map lines (λ line. line.right) in
        ap (dot F x) (get_or-map (cochain_of n) rights j [] [] (omega (arith, l, lr)))
        ∙ sym (get_or-map (λ right. dot F x (cochain_of n right)) rights j [] 0 (omega (arith, l, lr)))
        ∙ ap (λ xs. get_or xs j 0) (sym are)

    -- what is left is zero on each dual cycle
    rest_on : (j : ℕ) → j < length lines → dot F rest (d_at j) ≡ 0
    rest_on j l =
        let c : ℕ = get_or values j 0 in
        let there : dot F S (d_at j) ≡ c =
        at_coefficient F L n j values (d_at j) Z Z_matrix (record { long = values_long ∙ sym Z_long; elements = elements }) (d_long j l) (omega (arith, l, Z_long)) (column j l (d_at j) Z Z_long (λ i li. product i j li l)) in
        let below : c < F.size = subst (λ h. h < F.size) there (dot_below F L S (d_at j)) in
        let sum : F.add (dot F rest (d_at j)) c ≡ c =
        ap (F.add (dot F rest (d_at j))) (sym (L.one_mul c below) ∙ ap (F.mul 1) (sym there))
        ∙ sym (dot_added F L 1 rest S (d_at j) (rest_vector.long ∙ sym S_vector.long) (S_vector.long ∙ sym (d_long j l)))
        ∙ ap (λ y. dot F y (d_at j)) (sym rest_is)
        ∙ value_at j l in
        add_cancel F L c (dot F rest (d_at j)) 0 (dot_below F L rest (d_at j)) (zero_below F L) (L.add_comm c (dot F rest (d_at j)) ∙ sum ∙ sym (add_zero F L c below))

    module _ (w y : List ℕ) (cleared : IsClearedAt F levels k rest w y) where
      abbrev Y : List ℕ
      Y = combination F n y (rows_with levels k)

      abbrev E : List ℕ
      E = without F n (rows_with levels k) rest y

      here : IsCleared F (cells_with levels k) n (rows_with levels k) (kinds_with levels k) us rest w y
      here = cleared_index F levels k rest w y cleared

      lower : IsSplit F (cells_with levels k) n (rows_with levels k) (kinds_with levels k) us
      lower = R.complex.splits k

      Y_vector : IsVector F n Y
      Y_vector = combination-vector F L n y (rows_with levels k) lower.matrix

      clears : CocyclesClear F (cells_with levels) (rows_with levels) (kinds_with levels) (some F L one levels R) k rest w y
      clears = clear (cells_with levels) (rows_with levels) (kinds_with levels) (some F L one levels R) R.complex (are_some F L one levels R) k rest w y rest_kernel here

      w_on : (j : ℕ) → j < length lines → dot F w (v_at j) ≡ 0
      w_on j l =
          let d : List ℕ = d_at j in
          let none : dot F Y d ≡ 0 =
          adjoint F L n y d (rows_with levels k) lower.matrix (here.vector.long ∙ sym lower.long) (d_long j l) ∙ ap (dot F y) (D_cycle j l) ∙ dot_zeros F L y (length (rows_with levels k)) in
          let extended : dot F E d ≡ 0 =
          dot_added F L (F.neg 1) rest Y d (rest_vector.long ∙ sym Y_vector.long) (Y_vector.long ∙ sym (d_long j l))
          ∙ ap (F.add (dot F rest d)) (ap (F.mul (F.neg 1)) none ∙ mul_zero F L (F.neg 1))
          ∙ ap (λ h. F.add h 0) (rest_on j l)
          ∙ L.zero_add 0 (zero_below F L) in
          sym (pair (cells_with levels k) n m (rows_with levels k) rows (kinds_with levels k) us (kinds_at levels (suc k)) w E (v_at j) d clears.extension (D_flow j l)) ∙ extended

      -- so it is a combination of the reduced rows into the degree
      pub into : IsInto F levels k w
      into last is =
          let next : List (List ℕ) = some F L one levels R (suc k) in
          let parts : List (List ℕ) = map (part us) Z in
          let c : ℕ = criticals us in
          let basis : IsCohomologyBasis F (criticals (kinds_at levels (suc k))) last next parts = B.critical k small last next is (are_some F L one levels R (suc k)) in
          let s = basis.spans w clears.cocycle in
          let ds : List ℕ = s.0 in
          let r : List ℕ = s.1 in
          let c_is : length next ≡ c = (are_some F L one levels R (suc k)).long in
          let span : InSpan F c last r = subst (λ h. InSpan F h last r) c_is s.3 in
          let w_is : w ≡ plus_scaled F 1 r (combination F c ds parts) = subst (λ h. w ≡ plus_scaled F 1 r (combination F h ds parts)) c_is s.4 in
          let long : length parts ≡ length lines = length-map Z (part us) ∙ Z_long in
          let matrix : IsMatrix F c parts = parts_matrix Z Z_matrix in
          let last_matrix : IsMatrix F c last = is.matrix in
          let r_vector : IsVector F c r = subst (IsVector F c) span.is (combination-vector F L c span.coefficients last last_matrix) in
          let zeros : ds ≡ replicate (length parts) 0 =
          same_number_lists ds (replicate (length parts) 0) (s.2.long ∙ sym (length-replicate (length parts) 0))
          (λ j lj.
          let lp : j < length parts = omega (arith, lj, s.2.long) in
          let l : j < length lines = omega (arith, lp, long) in
          let v : List ℕ = v_at j in
          let lv : length v ≡ c = v_long j l in
          let none : dot F r v ≡ 0 =
          ap (λ u. dot F u v) (sym span.is) ∙ adjoint F L c span.coefficients v last last_matrix span.vector.long lv ∙ ap (dot F span.coefficients) (v_cycle_at j l last is) ∙ dot_zeros F L span.coefficients (length last) in
          let coefficient : dot F (combination F c ds parts) v ≡ get_or ds j 0 = at_coefficient F L c j ds v parts matrix s.2 lv lp (column j l v parts long (λ i li. part_product i j li l)) in
          let below : get_or ds j 0 < F.size = subst (λ h. h < F.size) coefficient (dot_below F L (combination F c ds parts) v) in
          sym (L.zero_add (get_or ds j 0) below) ∙ ap (F.add 0) (sym (L.one_mul (get_or ds j 0) below))
          ∙ ap (λ h. F.add h (F.mul 1 (get_or ds j 0))) (sym none)
          ∙ ap (λ h. F.add (dot F r v) (F.mul 1 h)) (sym coefficient)
          ∙ sym (dot_added F L 1 r (combination F c ds parts) v (r_vector.long ∙ sym (combination-vector F L c ds parts matrix).long) ((combination-vector F L c ds parts matrix).long ∙ sym lv))
          ∙ ap (λ u. dot F u v) (sym w_is)
          ∙ w_on j l
          ∙ sym (get_or-replicate (length parts) j 0 0 lp)) in
          subst (InSpan F c last)
          (sym
          (w_is ∙ ap (λ es. plus_scaled F 1 r (combination F c es parts)) zeros ∙ ap (plus_scaled F 1 r) (combination-zeros F L c (length parts) parts matrix) ∙ plus_zeros F L c r r_vector))
          span

      -- ---- the bound

      module _ (bound : List ℕ) (h : IsBoundFor F levels k w y bound) where
        abbrev low : List (List ℕ)
        low = rows_with levels k

        moved : IsExtension F n m rows us (kinds_at levels (suc k)) w (combination F n h.extended low)
        moved =
            subst (λ u. IsExtension F n m rows us (kinds_at levels (suc k)) u (combination F n h.extended low)) (h.same (some F L one levels R k) (are_some F L one levels R k))
            (commute (cells_with levels) (rows_with levels) (kinds_with levels) (some F L one levels R) R.complex (are_some F L one levels R) k h.values h.extended h.extension)

        w_vector : IsVector F (criticals us) w
        w_vector = subst (λ j. IsVector F j w) (are_some F L one levels R (suc k)).long clears.cocycle.vector

        E_is : E ≡ combination F n h.extended low
        E_is = let only = one.extension n m rows us (kinds_at levels (suc k)) split w w_vector in only.2 E clears.extension ∙ sym (only.2 (combination F n h.extended low) moved)

        rest_bounds : rest ≡ combination F n bound low
        rest_bounds =
            sym (taken_back F L (F.neg 1) rest Y (rest_vector.long ∙ sym Y_vector.long) rest_vector.elements)
            ∙ ap (λ s. plus_scaled F s E Y) (neg_neg F L 1 L.one_below)
            ∙ ap (λ u. plus_scaled F 1 u Y) E_is
            ∙ combination-plus F L n 1 h.extended y low lower.matrix (h.extension.vector.long ∙ sym lower.long) (here.vector.long ∙ sym lower.long)
            ∙ ap (λ u. combination F n u low) (sym h.is)

        x_is : x ≡ plus_scaled F 1 (combination F n bound low) S
        x_is = rest_is ∙ ap (λ u. plus_scaled F 1 u S) rest_bounds

        bound_long : length bound ≡ cells_with levels k
        bound_long = ap (λ u. length u) h.is ∙ plus_scaled-long F L 1 h.extended y (h.extension.vector.long ∙ sym here.vector.long) ∙ h.extension.vector.long

        below_is : (d : ℕ) → d ≤ 3 → cells_with levels d ≡ length (chains_below space d)
        below_is zero l = refl
        below_is (suc d) l = cells_are F L space levels R rows_are d (omega (arith, l))

        -- in entries
        module _ (tests : EquationsAreTests F) (coefficients bounding : List (ℕ × ℕ)) (ce : AreEntries F (length values) coefficients) (cc : cochain_of (length values) coefficients ≡ values) (be : AreEntries F (length bound) bounding) (bc : cochain_of (length bound) bounding ≡ bound) where
          long_below : length bound ≡ length (chains_below space k)
          long_below = bound_long ∙ below_is k small

          pub bound_entries : AreEntries F (length (chains_below space k)) bounding
          bound_entries = subst (λ j. AreEntries F j bounding) long_below be

          pub coefficient_entries : AreEntries F (length lines) coefficients
          coefficient_entries = subst (λ j. AreEntries F j coefficients) values_long ce

          lefts_long : length values ≡ length (left_sides lines)
          lefts_long = values_long ∙ sym (length-map lines (λ line. line.left))

          pub holds : class_holds F (chains_below space k) (chains_of space k) (left_sides lines) coefficients bounding x ≡ true
          holds =
              (tests.class (chains_below space k) (chains_of space k) (left_sides lines) coefficients bounding x).1
              (x_is
              ∙ ap (λ u. plus_scaled F 1 u S)
              (ap (λ u. combination F n u low) (sym bc ∙ ap (λ j. cochain_of j bounding) long_below)
              ∙ ap (λ j. combination F j (cochain_of (length (chains_below space k)) bounding) low) n_is
              ∙ ap (combination F (length (chains_of space k)) (cochain_of (length (chains_below space k)) bounding)) (into_rows F L space levels R rows_are k small)
              ∙ sym (fit.coboundary_into space k bounding bound_entries))
              ∙ ap (plus_scaled F 1 (coboundary_on F (chains_below space k) (chains_of space k) (cochain_of (length (chains_below space k)) bounding)))
              (ap (λ cs. combination F n cs Z) (sym cc ∙ ap (λ j. cochain_of j coefficients) lefts_long)
              ∙ ap (λ j. combination F j (cochain_of (length (left_sides lines)) coefficients) (map (cochain_of j) (left_sides lines))) n_is))

-- ---- steps of the code

abbrev pub values_on : (F : Ops) (n : ℕ) → List Line → List ℕ → List ℕ
values_on F n lines x = map (λ right. dot F x (cochain_of n right)) (right_sides lines)

pub length-cochain : (n : ℕ) (entries : List (ℕ × ℕ)) → length (cochain_of n entries) ≡ n
length-cochain n entries = length-map-range_with_len (element_at entries) 1 n

pub value_source : (F : Ops) (n : ℕ) (x : List ℕ) (lines : List Line) (i : ℕ) (line : Line) → i < length lines → line ≡ get_or lines i line → get_or (values_on F n lines x) i 0 ≡ dot F x (cochain_of n line.right)
value_source F n x lines i line l e =
    get_or-map (λ right. dot F x (cochain_of n right)) (right_sides lines) i [] 0 (omega (arith, l, length-map lines (λ z. z.right)))
    ∙ ap (λ right. dot F x (cochain_of n right)) (get_or-map (λ z. z.right) lines i line [] l ∙ ap (λ z. z.right) (sym e))

drop_next : {A : Type 0} (d : A) (xs : List A) (i : ℕ) → i < length xs → drop i xs ≡ get_or xs i d ∷ drop (i + 1) xs
drop_next d [] i l = absurd (omega (arith, l))
drop_next d (x ∷ xs) zero l = refl
drop_next d (x ∷ xs) (suc i) l = drop_next d xs i (omega (arith, l)) ∙ ap (λ j. get_or xs i d ∷ drop j (x ∷ xs)) (let z : suc (i + 1) ≡ suc i + 1 = omega arith in z)

pub sides_matrix : (F : Ops) → EntriesAreCochains F → (n : ℕ) (lines : List Line) → AllByRecursion (HaveSides F n) lines → IsMatrix F n (map (cochain_of n) (left_sides lines))
sides_matrix F e n [] h = tt
sides_matrix F e n (line ∷ lines) h = (e.vector n line.left h.0.left, sides_matrix F e n lines h.1)

module _ (F : Ops) (L : IsField F) where
  pub taken_more : (n i c : ℕ) (values : List ℕ) (lines : List Line) (line : Line) (rest next : List ℕ) → i < length values → i < length lines → line ≡ get_or lines i line → c ≡ get_or values i 0 → next ≡ plus_scaled F (F.neg c) rest (cochain_of n line.left)
      → taken F L (drop (i + 1) values) (map (cochain_of n) (left_sides (drop (i + 1) lines))) next ≡ taken F L (drop i values) (map (cochain_of n) (left_sides (drop i lines))) rest
  taken_more n i c values lines line rest next lv ll e v s =
      let V : List ℕ = drop (i + 1) values in
      let M : List Line = drop (i + 1) lines in
      ap (taken F L V (map (cochain_of n) (left_sides M))) (s ∙ ap (λ k. plus_scaled F (F.neg k) rest (cochain_of n line.left)) v ∙ ap (λ z. plus_scaled F (F.neg (get_or values i 0)) rest (cochain_of n z.left)) e)
      ∙ ap (λ vs. taken F L vs (map (cochain_of n) (left_sides (get_or lines i line ∷ M))) rest) (sym (drop_next 0 values i lv))
      ∙ ap (λ ls. taken F L (drop i values) (map (cochain_of n) (left_sides ls)) rest) (sym (drop_next line lines i ll))

  pub taken_all : (n i : ℕ) (values : List ℕ) (lines : List Line) (x rest : List ℕ) → IsMatrix F n (map (cochain_of n) (left_sides lines)) → AreElements F values → length values ≡ length lines → IsVector F n x → length values ≤ i
      → taken F L (drop i values) (map (cochain_of n) (left_sides (drop i lines))) rest ≡ taken F L values (map (cochain_of n) (left_sides lines)) x → x ≡ plus_scaled F 1 rest (combination F n values (map (cochain_of n) (left_sides lines)))
  taken_all n i values lines x rest m e long v l h =
      let Z : List (List ℕ) = map (cochain_of n) (left_sides lines) in
      let same : rest ≡ taken F L values Z x = ap (λ vs. taken F L vs (map (cochain_of n) (left_sides (drop i lines))) rest) (sym (drop_of_length-le values l)) ∙ h in
      taken_is F L n values Z x m e (long ∙ sym (length-map (left_sides lines) (cochain_of n) ∙ length-map lines (λ z. z.left))) v ∙ ap (λ r. plus_scaled F 1 r (combination F n values Z)) (sym same)

  -- ---- bounds

  -- in degree 0
  pub no_bound : (levels : List Level) (degree : ℕ) → degree ≡ 0 → (w y bound : List ℕ) → IsInto F levels degree w → length y ≡ cells_with levels degree → bound ≡ y → IsBoundFor F levels degree w y bound
  no_bound levels degree zeroth w y bound into l e =
      subst (λ d. IsBoundFor F levels d w y bound) (sym zeroth) (at_zero (subst (λ d. IsInto F levels d w) zeroth into) (subst (λ d. length y ≡ cells_with levels d) zeroth l))
    where
      nil : (xs : List ℕ) → length xs ≡ 0 → xs ≡ []
      nil [] z = refl
      nil (a ∷ xs) z = absurd (omega (arith, z))

      at_zero : IsInto F levels 0 w → length y ≡ 0 → IsBoundFor F levels 0 w y bound
      at_zero i z = record {
        values = [];
        extended = [];
        extension = record { vector = record { long = refl; elements = tt }; own = refl; none = refl; closed = none_closed (kinds_at levels 0) };
        same = λ last is. zero_values last is.long (i last is);
        is = e ∙ nil y z;
      }
        where
          none_closed : (us : List Kind) → ZeroOnUppers us (replicate (length us) 0)
          none_closed us = none-zeros us (length us) refl

          zero_values : (last : List (List ℕ)) → length last ≡ 0 → InSpan F (criticals (kinds_at levels 0)) last w → replicate (criticals (kinds_at levels 0)) 0 ≡ w
          zero_values [] l p = no_row p.coefficients p.is
            where
              no_row : (cs : List ℕ) → combination F (criticals (kinds_at levels 0)) cs [] ≡ w → replicate (criticals (kinds_at levels 0)) 0 ≡ w
              no_row [] q = q
              no_row (a ∷ cs) q = q
          zero_values (r ∷ last) l p = absurd (omega (arith, l))

  module _ {G : Type 0} (levels : List Level) (d : ℕ) (e : Elimination G) (h : IsEchelon F levels d e) where
    c_is : criticals (kinds_at levels (d + 1)) ≡ criticals (kinds_at levels (suc d))
    c_is = ap (λ k. criticals (kinds_at levels k)) (let z : d + 1 ≡ suc d = omega arith in z)

    all_from : IsReducedFrom F levels (d + 1) h.filled.all
    all_from = subst (λ k. IsReducedFrom F levels k h.filled.all) (let z : suc d ≡ d + 1 = omega arith in z) (reduced_index F levels d h.filled.all h.filled.reduced)

    in_all : (w : List ℕ) → IsInto F levels (d + 1) w → InSpan F (criticals (kinds_at levels (d + 1))) h.filled.all w
    in_all w within = within h.filled.all all_from

    pub into_long : (w : List ℕ) → IsInto F levels (d + 1) w → length w ≡ e.reduced.cols
    into_long w within =
        let p = in_all w within in
        ap (λ xs. length xs) (sym p.is) ∙ (combination-vector F L (criticals (kinds_at levels (d + 1))) p.coefficients h.filled.all h.filled.reduced.matrix).long ∙ sym h.cols

    matrix_here : IsMatrix F e.reduced.cols h.rows
    matrix_here = subst (IsMatrix F e.reduced.cols) (sym h.filled.are) (subst (λ n. IsMatrix F n (nonzero_rows h.filled.all)) (sym h.cols) (all_nonzero F L (IsVector F (criticals (kinds_at levels (d + 1)))) h.filled.all h.filled.reduced.matrix))

    elimination : IsElimination F e.reduced.cols h.rows e.reduced.rows e.history.rows
    elimination = record {
      is_matrix = matrix_here;
      is_reduced = subst (λ n. IsReducedTo F n (rank_of e.reduced.rows) n h.rows e.reduced.rows) (sym h.cols) h.form;
      is_history = subst (λ n. IsHistory F n h.rows e.reduced.rows e.history.rows) (sym h.cols) h.history;
    }

    abbrev Answers : List ℕ → Option (List ℕ) → Type 0
    Answers w answer = (rows : List (List ℕ)) → IsElimination F e.reduced.cols rows e.reduced.rows e.history.rows → IsAnswer F e.reduced.cols rows w answer

    in_rows : (w : List ℕ) → IsInto F levels (d + 1) w → InSpan F e.reduced.cols h.rows w
    in_rows w within =
        let n : ℕ = criticals (kinds_at levels (d + 1)) in
        let all : List (List ℕ) = h.filled.all in
        let nonzero : IsReducedTo F n (rank_in e) n (nonzero_rows all) e.reduced.rows = subst (λ ws. IsReducedTo F n (rank_in e) n ws e.reduced.rows) h.filled.are h.form in
        let matrix : IsMatrix F n (nonzero_rows all) = all_nonzero F L (IsVector F n) all h.filled.reduced.matrix in
        let inside : AllByRecursion (InSpan F n (nonzero_rows all)) all =
        with_vectors F L n (rank_in e) all e.reduced.rows h.filled.reduced.matrix nonzero (nonzero_rows all) matrix all h.filled.reduced.matrix (span_rows F L n (nonzero_rows all) matrix) in
        subst (λ k. InSpan F k h.rows w) (sym h.cols) (subst (λ ws. InSpan F n ws w) (sym h.filled.are) (in_span_trans F L n all (nonzero_rows all) w matrix inside (in_all w within)))

    pub is_some : (w : List ℕ) → IsInto F levels (d + 1) w → (answer : Option (List ℕ)) → Answers w answer → IsSome answer
    is_some w within (Some cs) a = refl
    is_some w within None a = absurd (a h.rows elimination (in_rows w within))

    pub coefficients_fit : (w : List ℕ) (answer : Option (List ℕ)) (cs : List ℕ) → Answers w answer → answer ≡ Some cs → HaveRows F levels d (length cs)
    coefficients_fit w answer cs a s = let p : IsAnswer F e.reduced.cols h.rows w (Some cs) = subst (IsAnswer F e.reduced.cols h.rows w) s (a h.rows elimination) in record { rows = h.rows; filled = h.filled; many = sym p.0.long }

    pub bound_is : (w : List ℕ) (answer : Option (List ℕ)) (cs : List ℕ) → Answers w answer → answer ≡ Some cs → SolutionsAreOne F → IsReducedComplex F levels → (values : List ℕ) → IsSpread F levels d cs values → (extended : List ℕ) → IsExtensionAt F levels d values extended
        → (y bound : List ℕ) → bound ≡ plus_scaled F 1 extended y → IsBoundFor F levels (d + 1) w y bound
    bound_is w answer cs a s law R values spread extended ext y bound sum =
        let p : IsAnswer F e.reduced.cols h.rows w (Some cs) = subst (IsAnswer F e.reduced.cols h.rows w) s (a h.rows elimination) in
        let k : ℕ = suc d in
        subst (λ j. IsBoundFor F levels j w y bound) (let z : suc d ≡ d + 1 = omega arith in z)
        (record {
          values = values;
          extended = extended;
          extension = extension_index F levels d values extended ext;
          same = λ last is.
              let at : IsReducedAt F levels d last = subst (λ j. IsReducedBy F (cells_at levels d) (cells_at levels j) (rows_at levels d) (kinds_at levels d) (kinds_at levels j) last) (let z : suc d ≡ d + 1 = omega arith in z) is in
              let same : h.filled.all ≡ last =
              reduced_is_one F L law (cells_with levels k) (cells_with levels (suc k)) (rows_with levels k) (kinds_with levels k) (kinds_with levels (suc k)) (R.complex.splits k) h.filled.all last (reduced_index F levels d h.filled.all h.filled.reduced) is in
              ap (λ n. combination F n values last) (sym c_is)
              ∙ spread.same last at
              ∙ ap (λ ws. combination F (criticals (kinds_at levels (d + 1))) cs (nonzero_rows ws)) (sym same)
              ∙ ap (combination F (criticals (kinds_at levels (d + 1))) cs) (sym h.filled.are)
              ∙ ap (λ n. combination F n cs h.rows) (sym h.cols)
              ∙ p.1;
          is = sum;
        })

-- ---- the requirements of the parts

pub sides_of : (F : Ops) (space : Layers) (degree n : ℕ) → n ≡ length (chains_of space degree) → (lines : List Line) → AllByRecursion (IsClassLine F space degree) lines → AllByRecursion (HaveSides F n) lines
sides_of F space degree n e [] h = tt
sides_of F space degree n e (line ∷ lines) h = (
  record { left = subst (λ k. AreEntries F k line.left) (sym e) h.0.left; right = subst (λ k. AreEntries F k line.right) (sym e) h.0.right },
  sides_of F space degree n e lines h.1,
)

module _ (F : Ops) (L : IsField F) (one : SolutionsAreOne F) (commute : ExtensionsCommute F) (pair : ExtensionsPair F) (flows : FlowsCommute F) (clear : CocyclesAreExtensions F) (fit : ValuesFitEntries F) (levels : List Level) (R : IsReducedComplex F levels) (space : Layers)
    (rows_are : AreRowsOf F levels space) (b : HomologyLines) (B : AreBasesOf F space levels b) (k : ℕ) (small : k ≤ 3) (x : List ℕ) (cocycle : IsCocycle F space k x) (lines : List Line) (lines_are : lines ≡ lines_of b.classes k) where
  pub chains_long : length x ≡ length (chains_of space k)
  chains_long = cocycle.cochain.long

  pub cells_long : length x ≡ cells_at levels k
  cells_long = chains_long ∙ sym (cells_are F L space levels R rows_are k (omega (arith, small)))

  pub sides_here : AllByRecursion (HaveSides F (length x)) lines
  sides_here = subst (AllByRecursion (HaveSides F (length x))) (sym lines_are) (sides_of F space k (length x) chains_long (lines_of b.classes k) (B.entries.class_lines k small))

  pub values_many : (values : List ℕ) → AreValuesOn F (length x) lines x values → length values ≡ length lines
  values_many values a = ap (λ xs. length xs) a ∙ length-map (right_sides lines) (λ right. dot F x (cochain_of (length x) right)) ∙ length-map lines (λ line. line.right)

  module _ (values rest : List ℕ) (a : AreValuesOn F (length x) lines x values) (elements : AreElements F values) (long : length rest ≡ length x) (rest_elements : AreElements F rest)
      (sum : x ≡ plus_scaled F 1 rest (combination F (length x) values (map (cochain_of (length x)) (left_sides lines)))) where
    are_here : AreValuesOn F (cells_at levels k) (lines_of b.classes k) x values
    are_here = subst (λ j. AreValuesOn F j (lines_of b.classes k) x values) cells_long (subst (λ ls. AreValuesOn F (length x) ls x values) lines_are a)

    sum_here : x ≡ plus_scaled F 1 rest (combination F (cells_at levels k) values (map (cochain_of (cells_at levels k)) (left_sides (lines_of b.classes k))))
    sum_here =
        subst (λ j. x ≡ plus_scaled F 1 rest (combination F j values (map (cochain_of j) (left_sides (lines_of b.classes k))))) cells_long
        (subst (λ ls. x ≡ plus_scaled F 1 rest (combination F (length x) values (map (cochain_of (length x)) (left_sides ls)))) lines_are sum)

    vector_here : IsVector F (cells_at levels k) rest
    vector_here = record { long = long ∙ cells_long; elements = rest_elements }

    module _ (w y : List ℕ) (cleared : IsClearedAt F levels k rest w y) where
      pub into_here : IsInto F levels k w
      into_here = into F L one commute pair flows clear fit levels R space rows_are b B k small x cocycle values are_here elements rest sum_here vector_here w y cleared

      pub below_here : length y ≡ cells_with levels k
      below_here = (cleared_index F levels k rest w y cleared).vector.long

      pub written : EquationsAreTests F → (bound : List ℕ) → IsBoundFor F levels k w y bound → (out : Written) → AreEntries F (length values) out.coefficients → cochain_of (length values) out.coefficients ≡ values
          → AreEntries F (length bound) out.bound → cochain_of (length bound) out.bound ≡ bound → IsWritten F space k b x out
      written tests bound h out ce cc be bc = record {
        class =
            holds F L one commute pair flows clear fit levels R space rows_are b B k small x cocycle values are_here elements rest sum_here vector_here w y cleared bound h tests out.coefficients out.bound ce cc be bc;
        coefficients =
            coefficient_entries F L one commute pair flows clear fit levels R space rows_are b B k small x cocycle values are_here elements rest sum_here vector_here w y cleared bound h tests out.coefficients out.bound ce cc be bc;
        bound =
            bound_entries F L one commute pair flows clear fit levels R space rows_are b B k small x cocycle values are_here elements rest sum_here vector_here w y cleared bound h tests out.coefficients out.bound ce cc be bc;
      }
