-- The cells with their signs have the Betti numbers of the order complex.
use Rattle.std.proofs.Common.{◌≡◌, ℕ, zero, suc, ◌+◌, ◌<◌, ◌≤◌, List, [], ◌∷◌, Bool, true, false, cond, map, length, get_or, Contains, refl, ap, sym, ◌∙◌, subst, arith}
use Rattle.std.specs.List.{AllByRecursion}
use Rattle.std.proofs.lemmas.List.{length-map, get_or_past}
use Rattle.std.proofs.lemmas.List.Kept.{IsStrictlyIncreasing-filter}
use Rattle.small_field.specs.Field.{Ops, IsField}
use Rattle.small_field.proofs.CallerLemmas.{zero_below, mul_zero, zero_mul}
use Rattle.linear_laws.specs.Vectors.{IsMatrix, IsInKernel, IsVector}
use Rattle.linear_laws.specs.Betti.{IsCohomologyBasis}
use Rattle.number_lists.specs.Words.{upto, holds}
use Rattle.number_lists.specs.Members.{In}
use Rattle.number_lists.proofs.CallerLemmas.{In-map, map-In, In-upto, upto-In, In-filter, filter-In, In-holds, holds-In, In-Contains, Contains-In, none, increasing-upto}
use Rattle.face_poset.specs.Poset.{IsSpace, count, facets_of}
use Rattle.regular_check.specs.Rules.{IsRegular}
use Rattle.regular_check.specs.Cycle.{CyclesGoRound}
use Rattle.sphere_collapses.specs.Laws.{BoundariesCollapse}
use Rattle.order_complex.specs.Chains.{chains_of}
use Rattle.order_complex.specs.Homology.{IsBetti}
use Rattle.order_complex.specs.Laws.{FacesAreBelow, ChainsAreSequences, ChainsAreOrdered}
use Rattle.order_complex.specs.Ranks.{rows_of, rows_into}
use Rattle.order_complex.proofs.CallerLemmas.{basis_of}
use Rattle.cell_signs.specs.Oriented.{IsOriented}
use Rattle.vector_field.specs.Pairs.{Field}
use Rattle.split_laws.specs.declared.kind.Kind.{Kind}
use Rattle.split_laws.specs.Kinds.{criticals}
use Rattle.split_laws.specs.Split.{IsSplit}
use Rattle.split_laws.specs.Solutions.{IsReducedBy, AreExtensions}
use Rattle.split_laws.specs.Complex.{before, AreReduced}
use Rattle.split_laws.specs.Laws.{BasesExtend, SolutionsAreOne}
use Rattle.pair_stages.specs.Signed.{signed_entry, signed_rows}
use Rattle.local_field.specs.Buildings.{flag_of}
use Rattle.local_field.specs.Numbered.{number_of, flag_numbers, local_field_of, IsLocalField, LocalPairsAreFields}
use Rattle.local_field.specs.Flags.{other_sign, is_odd, flag_negative, flag_cells, flags_in_order, top_number, negative_in}
use Rattle.local_field.proofs.CallerLemmas.{number, top-number, many, some-collapse}
use Rattle.flag_laws.specs.Laws.{flag_rows, cell_rows_into, CellsHaveTheBettiNumbers}
use Rattle.flag_laws.proofs.Sums.{sign, sign-below, sign-times}
use Rattle.flag_laws.proofs.Criticals.{cells-distinct, cell-there, many-critical}
use Rattle.flag_laws.proofs.Entries.{sp, minus, count-flags, entry-is}
use Rattle.flag_laws.proofs.ReducedRows.{every-degree}
use Rattle.flag_laws.proofs.Split.{size_at, rows_at, kinds_at, sizes, rows-are, kinds-are, is-complex}
use Rattle.flag_laws.proofs.Coordinates.{IsOrder, turned, back, turned-vector, back-vector, turned-back, back-turned, turned-zeros, turned-plus, turned-combination, table, table-matrix, table-long, commute}
use Rattle.flag_laws.proofs.Moved.{IsChange, SpansMove, RowsMove, spans-move, no-spans-move, basis-to, basis-from, basis-moved}

-- the signs that the new order puts on the cells give those of the rows
five : (t o m s z : Bool) → other_sign (other_sign t z) (other_sign m (other_sign (other_sign o t) s)) ≡ other_sign o (other_sign m (other_sign s z))
five true true true true true = refl
five true true true true false = refl
five true true true false true = refl
five true true true false false = refl
five true true false true true = refl
five true true false true false = refl
five true true false false true = refl
five true true false false false = refl
five true false true true true = refl
five true false true true false = refl
five true false true false true = refl
five true false true false false = refl
five true false false true true = refl
five true false false true false = refl
five true false false false true = refl
five true false false false false = refl
five false true true true true = refl
five false true true true false = refl
five false true true false true = refl
five false true true false false = refl
five false true false true true = refl
five false true false true false = refl
five false true false false true = refl
five false true false false false = refl
five false false true true true = refl
five false false true true false = refl
five false false true false true = refl
five false false true false false = refl
five false false false true true = refl
five false false false true false = refl
five false false false false true = refl
five false false false false false = refl

abbrev twist : ℕ → Bool
twist zero = false
twist (suc d) = other_sign (is_odd (suc d)) (twist d)

module _ (rounds : CyclesGoRound) (collapses : BoundariesCollapse) (faces : FacesAreBelow) (sequences : ChainsAreSequences) (ordered : ChainsAreOrdered) (locals : LocalPairsAreFields) (space : List (List (List ℕ))) (valid : IsSpace space) (regular : IsRegular space) where
  -- ---- the cells by dimension in the order of their flags; none from dimension 4 on

  abbrev cells_of : ℕ → List ℕ
  cells_of zero = flag_cells space 0
  cells_of (suc zero) = flag_cells space 1
  cells_of (suc (suc zero)) = flag_cells space 2
  cells_of (suc (suc (suc zero))) = flag_cells space 3
  cells_of (suc (suc (suc (suc d)))) = []

  cells-are : (d : ℕ) → d ≤ 3 → cells_of d ≡ flag_cells space d
  cells-are zero small = refl
  cells-are (suc zero) small = refl
  cells-are (suc (suc zero)) small = refl
  cells-are (suc (suc (suc zero))) small = refl
  cells-are (suc (suc (suc (suc d)))) small = absurd (omega (arith, small))

  no-cells : count space 4 ≡ 0
  no-cells = ap (λ (l : List (List ℕ)). length l) (get_or_past space 4 [] (let l : length space ≡ 4 = valid.layers in omega (arith, l)))

  module _ (F : Ops) (L : IsField F) where
    flags-order : (d : ℕ) → d ≤ 3 → IsOrder F L (count space d) (flag_cells space d)
    flags-order d small = record {
      distinct = cells-distinct space valid faces sequences d small;
      many =
          length-map (flags_in_order space d) (top_number space d)
          ∙ many space valid faces sequences d small (flags_in_order space d) (IsStrictlyIncreasing-filter (holds (flag_numbers space d)) (upto C) (increasing-upto C)) keeps adds;
      within = cell-there space valid faces sequences d small;
      all = λ c low high. subst (λ (x : ℕ). In x (flag_cells space d)) (top-number space valid faces sequences d small c low high) (In-map (top_number space d) (Contains-In (keeps (number_of space (flag_of space d c)) (In-Contains (In-map (λ n. number_of space (flag_of space d n)) (In-upto (count space d) c low high))))));
    }
      where
        C : ℕ
        C = length (chains_of space d)

        keeps : (n : ℕ) → Contains (flag_numbers space d) n → Contains (flags_in_order space d) n
        keeps n i =
            let r = map-In (λ n. number_of space (flag_of space d n)) (upto (count space d)) (Contains-In i) in
            let w = upto-In (count space d) r.0 r.1 in
            let k = number space valid faces sequences d small r.0 w.0 w.1 in
            In-Contains (In-filter (holds (flag_numbers space d)) (subst (λ (x : ℕ). In x (upto C)) (sym r.2) (In-upto C (number_of space (flag_of space d r.0)) k.low k.high)) (In-holds (Contains-In i)))

        adds : (n : ℕ) → Contains (flags_in_order space d) n → Contains (flag_numbers space d) n
        adds n i = In-Contains (holds-In (flag_numbers space d) (filter-In (holds (flag_numbers space d)) (upto C) (Contains-In i)))

    order-of : (d : ℕ) → d ≤ 4 → IsOrder F L (count space d) (cells_of d)
    order-of zero small = flags-order 0 (omega arith)
    order-of (suc zero) small = flags-order 1 (omega arith)
    order-of (suc (suc zero)) small = flags-order 2 (omega arith)
    order-of (suc (suc (suc zero))) small = flags-order 3 (omega arith)
    order-of (suc (suc (suc (suc zero)))) small =
        subst (λ (n : ℕ). IsOrder F L n []) (sym no-cells) (record { distinct = none; many = refl; within = λ c i. elim i [ ]; all = λ c a b. absurd (omega (arith, a, b)) })
    order-of (suc (suc (suc (suc (suc d))))) small = absurd (omega (arith, small))

    module _ (negative : ℕ → ℕ → ℕ → Bool) where
      abbrev e : (d c : ℕ) → Bool
      e d c = other_sign (twist d) (flag_negative space negative d c)

      abbrev to : ℕ → List ℕ → List ℕ
      to d = turned F L (cells_of d) (e d)

      abbrev from : ℕ → List ℕ → List ℕ
      from d = back F L (count space d) (cells_of d) (e d)

      change : (d : ℕ) → d ≤ 4 → IsChange F L (count space d) (to d) (from d)
      change d small =
          let n : ℕ = count space d in
          let o = order-of d small in
          record {
            to_vector = turned-vector F L n (cells_of d) o (e d);
            from_vector = back-vector F L n (cells_of d) o (e d);
            to_from = turned-back F L n (cells_of d) o (e d);
            from_to = back-turned F L n (cells_of d) o (e d);
            zeros = turned-zeros F L n (cells_of d) o (e d);
            plus = turned-plus F L n (cells_of d) o (e d);
            combined = turned-combination F L n (cells_of d) o (e d);
          }

      -- ---- rows

      abbrev R : (d c k : ℕ) → ℕ
      R d = signed_entry F space negative d

      abbrev S : (d c k : ℕ) → ℕ
      S d = signed_entry F (sp space negative) (negative_in (minus space negative)) d

      below-size : (a b : Bool) → cond a (sign F L b) 0 < F.size
      below-size true b = sign-below F L b
      below-size false b = zero_below F L

      R-below : (d c k : ℕ) → R d c k < F.size
      R-below d c k = below-size (holds (facets_of space (d + 1) k) c) (negative (d + 1) k c)

      S-below : (d c k : ℕ) → S d c k < F.size
      S-below d c k = below-size (holds (facets_of (sp space negative) (d + 1) k) c) (negative_in (minus space negative) (d + 1) k c)

      cell-table : (d : ℕ) → signed_rows F space negative d ≡ table F L (count space d) (count space (suc d)) (R d)
      cell-table d = let one : d + 1 ≡ suc d = omega arith in ap (λ (k : ℕ). map (λ c. map (R d c) (upto (count space k))) (upto (count space d))) one

      flag-count : (d : ℕ) → d ≤ 3 → count (sp space negative) d ≡ count space d
      flag-count d small = count-flags space negative d small ∙ (flags-order d small).many

      next-count : (d : ℕ) → d ≤ 3 → count (sp space negative) (d + 1) ≡ count space (suc d)
      next-count zero small = flag-count 1 (omega arith)
      next-count (suc zero) small = flag-count 2 (omega arith)
      next-count (suc (suc zero)) small = flag-count 3 (omega arith)
      next-count (suc (suc (suc zero))) small = sym no-cells
      next-count (suc (suc (suc (suc d)))) small = absurd (omega (arith, small))

      flag-table : (d : ℕ) → d ≤ 3 → flag_rows F space negative d ≡ table F L (count space d) (count space (suc d)) (S d)
      flag-table d small =
          ap (λ (k : ℕ). map (λ c. map (S d c) (upto k)) (upto (count (sp space negative) d))) (next-count d small)
          ∙ ap (λ (k : ℕ). map (λ c. map (S d c) (upto (count space (suc d)))) (upto k)) (flag-count d small)

      signs-move : (h t o m s z : Bool) → cond h (sign F L (other_sign o (other_sign m (other_sign s z)))) 0 ≡ F.mul (sign F L (other_sign t z)) (F.mul (cond h (sign F L m) 0) (sign F L (other_sign (other_sign o t) s)))
      signs-move false t o m s z = sym (ap (F.mul (sign F L (other_sign t z))) (zero_mul F L (sign F L (other_sign (other_sign o t) s))) ∙ mul_zero F L (sign F L (other_sign t z)))
      signs-move true t o m s z =
          sym
          (ap (F.mul (sign F L (other_sign t z))) (sign-times F L m (other_sign (other_sign o t) s))
          ∙ (sign-times F L (other_sign t z) (other_sign m (other_sign (other_sign o t) s)) ∙ ap (sign F L) (five t o m s z)))

      same-entry : (d i j : ℕ) → suc d ≤ 3 → i < length (flag_cells space d) → j < length (flag_cells space (suc d))
          → S d (i + 1) (j + 1) ≡ F.mul (sign F L (e d (get_or (flag_cells space d) i 0))) (F.mul (R d (get_or (flag_cells space d) i 0) (get_or (flag_cells space (suc d)) j 0)) (sign F L (e (suc d) (get_or (flag_cells space (suc d)) j 0))))
      same-entry d i j small li lj =
          let f : ℕ = get_or (flag_cells space d) i 0 in
          let g : ℕ = get_or (flag_cells space (suc d)) j 0 in
          let one : suc d ≡ d + 1 = omega arith in
          entry-is space negative F d i j small li lj
          ∙ (signs-move (holds (facets_of space (suc d) g) f) (twist d) (is_odd (suc d)) (negative (suc d) g f) (flag_negative space negative (suc d) g) (flag_negative space negative d f)
          ∙ ap (λ (k : ℕ). F.mul (sign F L (e d f)) (F.mul (cond (holds (facets_of space k g) f) (sign F L (negative k g f)) 0) (sign F L (e (suc d) g)))) one)

      tables-move : (d : ℕ) → d ≤ 3 → RowsMove F L (count space d) (count space (suc d)) (to d) (to (suc d)) (table F L (count space d) (count space (suc d)) (R d)) (table F L (count space d) (count space (suc d)) (S d))
      tables-move d small =
          commute F L (count space d) (count space (suc d)) (cells_of d) (cells_of (suc d)) (order-of d (omega (arith, small))) (order-of (suc d) (omega (arith, small))) (e d) (e (suc d)) (R d) (S d) (R-below d) (S-below d) (same d small)
        where
          with-cells : (d i j : ℕ) → suc d ≤ 3 → i < count space d → j < count space (suc d)
              → S d (i + 1) (j + 1) ≡ F.mul (sign F L (e d (get_or (flag_cells space d) i 0))) (F.mul (R d (get_or (flag_cells space d) i 0) (get_or (flag_cells space (suc d)) j 0)) (sign F L (e (suc d) (get_or (flag_cells space (suc d)) j 0))))
          with-cells d i j small li lj = same-entry d i j small (omega (arith, li, (flags-order d (omega (arith, small))).many)) (omega (arith, lj, (flags-order (suc d) small).many))

          same : (d : ℕ) → d ≤ 3 → (i j : ℕ) → i < count space d → j < count space (suc d)
              → S d (i + 1) (j + 1) ≡ F.mul (sign F L (e d (get_or (cells_of d) i 0))) (F.mul (R d (get_or (cells_of d) i 0) (get_or (cells_of (suc d)) j 0)) (sign F L (e (suc d) (get_or (cells_of (suc d)) j 0))))
          same zero small i j li lj = with-cells 0 i j (omega arith) li lj
          same (suc zero) small i j li lj = with-cells 1 i j (omega arith) li lj
          same (suc (suc zero)) small i j li lj = with-cells 2 i j (omega arith) li lj
          same (suc (suc (suc zero))) small i j li lj = absurd (omega (arith, lj, no-cells))
          same (suc (suc (suc (suc d)))) small i j li lj = absurd (omega (arith, small))

      rows-move : (d : ℕ) → d ≤ 3 → RowsMove F L (count space d) (count space (suc d)) (to d) (to (suc d)) (signed_rows F space negative d) (flag_rows F space negative d)
      rows-move d small =
          subst (λ (rs : List (List ℕ)). RowsMove F L (count space d) (count space (suc d)) (to d) (to (suc d)) rs (flag_rows F space negative d)) (sym (cell-table d))
          (subst (λ (rs : List (List ℕ)). RowsMove F L (count space d) (count space (suc d)) (to d) (to (suc d)) (table F L (count space d) (count space (suc d)) (R d)) rs) (sym (flag-table d small)) (tables-move d small))

      cell-matrix : (d : ℕ) → IsMatrix F (count space (suc d)) (signed_rows F space negative d)
      cell-matrix d = subst (IsMatrix F (count space (suc d))) (sym (cell-table d)) (table-matrix F L (count space d) (count space (suc d)) (R d) (R-below d))

      cell-long : (d : ℕ) → length (signed_rows F space negative d) ≡ count space d
      cell-long d = ap (λ (rs : List (List ℕ)). length rs) (cell-table d) ∙ table-long F L (count space d) (count space (suc d)) (R d)

      flag-long : (d : ℕ) → d ≤ 3 → length (flag_rows F space negative d) ≡ count space d
      flag-long d small = ap (λ (rs : List (List ℕ)). length rs) (flag-table d small) ∙ table-long F L (count space d) (count space (suc d)) (S d)

      abbrev flag_into : ℕ → List (List ℕ)
      flag_into zero = []
      flag_into (suc d) = flag_rows F space negative d

      into-move : (d : ℕ) → d ≤ 3 → SpansMove F L (count space d) (to d) (from d) (cell_rows_into F space negative d) (flag_into d)
      into-move zero small = no-spans-move F L (count space 0) (to 0) (from 0) (change 0 (omega arith))
      into-move (suc d) small =
          spans-move F L (count space d) (count space (suc d)) (to d) (from d) (to (suc d)) (from (suc d)) (signed_rows F space negative d) (flag_rows F space negative d) (change d (omega (arith, small))) (change (suc d) (omega (arith, small))) (rows-move d (omega (arith, small)))
          (cell-matrix d) (cell-long d) (flag-long d (omega (arith, small)))

      into-matrix : (d : ℕ) → IsMatrix F (count space d) (cell_rows_into F space negative d)
      into-matrix zero = tt
      into-matrix (suc d) = cell-matrix d

      -- a basis over the cells is one over the flags
      flags-basis : (d : ℕ) (zs : List (List ℕ)) → d ≤ 3 → IsCohomologyBasis F (count space (d + 1)) (cell_rows_into F space negative d) (signed_rows F space negative d) zs
          → IsCohomologyBasis F (count space (suc d)) (flag_into d) (flag_rows F space negative d) (map (to d) zs)
      flags-basis d zs small b =
          let one : d + 1 ≡ suc d = omega arith in
          let n : ℕ = count space d in
          let m : ℕ = count space (suc d) in
          let last : List (List ℕ) = cell_rows_into F space negative d in
          let next : List (List ℕ) = signed_rows F space negative d in
          basis-from F L n m (flag_into d) (flag_rows F space negative d) (map (to d) zs) (flag-long d small)
          (basis-moved F L n m (to d) (from d) (to (suc d)) (from (suc d)) last next (flag_into d) (flag_rows F space negative d) (change d (omega (arith, small))) (change (suc d) (omega (arith, small))) (into-move d small) (rows-move d small) (cell-matrix d) (into-matrix d) zs
          (basis-to F L n m last next zs (cell-long d) (subst (λ (k : ℕ). IsCohomologyBasis F (count space k) last next zs) one b)))

      -- ---- the order complex

      module _ (oriented : IsOriented space negative) (field : Field) (local : IsLocalField space field) where
        abbrev flag_at : ℕ → List (List ℕ)
        flag_at zero = flag_rows F space negative 0
        flag_at (suc zero) = flag_rows F space negative 1
        flag_at (suc (suc zero)) = flag_rows F space negative 2
        flag_at (suc (suc (suc zero))) = flag_rows F space negative 3
        flag_at (suc (suc (suc (suc d)))) = []

        flag-at-is : (d : ℕ) → d ≤ 3 → flag_at d ≡ flag_rows F space negative d
        flag-at-is zero small = refl
        flag-at-is (suc zero) small = refl
        flag-at-is (suc (suc zero)) small = refl
        flag-at-is (suc (suc (suc zero))) small = refl
        flag-at-is (suc (suc (suc (suc d)))) small = absurd (omega (arith, small))

        abbrev N : ℕ → ℕ
        N = before 0 (size_at F L space field local.valid)

        abbrev rows : ℕ → List (List ℕ)
        rows = before [] (rows_at F L space field local.valid)

        abbrev kinds : ℕ → List Kind
        kinds = before [] (kinds_at F L space field local.valid)

        abbrev reduced : ℕ → List (List ℕ)
        reduced = before [] flag_at

        reduced-at : (d : ℕ) → d ≤ 3 → IsReducedBy F (N (suc d)) (N (suc (suc d))) (rows (suc d)) (kinds (suc d)) (kinds (suc (suc d))) (flag_at d)
        reduced-at d small =
            let ts : List Kind = kinds (suc d) in
            let us : List Kind = kinds (suc (suc d)) in
            let r = every-degree rounds faces sequences ordered space valid regular field local F L negative oriented d ts us small (kinds-are F L space field local.valid d (omega (arith, small))) (kinds-are F L space field local.valid (suc d) (omega (arith, small))) in
            subst (λ (n : ℕ). IsReducedBy F n (N (suc (suc d))) (rows (suc d)) ts us (flag_at d)) (sym (sizes F L space field local.valid d (omega (arith, small))))
            (subst (λ (n : ℕ). IsReducedBy F (length (chains_of space d)) n (rows (suc d)) ts us (flag_at d)) (sym (sizes F L space field local.valid (suc d) (omega (arith, small))))
            (subst (λ (rs : List (List ℕ)). IsReducedBy F (length (chains_of space d)) (length (chains_of space (suc d))) rs ts us (flag_at d)) (sym (rows-are F L space field local.valid d small))
            (subst (λ (rs : List (List ℕ)). IsReducedBy F (length (chains_of space d)) (length (chains_of space (suc d))) (rows_of F space d) ts us rs) (sym (flag-at-is d small)) r)))

        are-reduced : AreReduced F N rows kinds reduced
        are-reduced zero = record { matrix = tt; long = refl; each = λ i x l h. absurd (omega (arith, l)) }
        are-reduced (suc zero) = reduced-at 0 (omega arith)
        are-reduced (suc (suc zero)) = reduced-at 1 (omega arith)
        are-reduced (suc (suc (suc zero))) = reduced-at 2 (omega arith)
        are-reduced (suc (suc (suc (suc zero)))) = reduced-at 3 (omega arith)
        are-reduced (suc (suc (suc (suc (suc d))))) = record { matrix = tt; long = refl; each = λ i x l h. absurd (omega (arith, l)) }

        critical-count : (d : ℕ) → d ≤ 4 → criticals (kinds (suc d)) ≡ count space d
        critical-count zero small = many-critical space valid faces sequences 0 (omega arith) field local (kinds 1) (kinds-are F L space field local.valid 0 (omega arith)) ∙ (flags-order 0 (omega arith)).many
        critical-count (suc zero) small = many-critical space valid faces sequences 1 (omega arith) field local (kinds 2) (kinds-are F L space field local.valid 1 (omega arith)) ∙ (flags-order 1 (omega arith)).many
        critical-count (suc (suc zero)) small = many-critical space valid faces sequences 2 (omega arith) field local (kinds 3) (kinds-are F L space field local.valid 2 (omega arith)) ∙ (flags-order 2 (omega arith)).many
        critical-count (suc (suc (suc zero))) small = many-critical space valid faces sequences 3 (omega arith) field local (kinds 4) (kinds-are F L space field local.valid 3 (omega arith)) ∙ (flags-order 3 (omega arith)).many
        critical-count (suc (suc (suc (suc zero)))) small = sym no-cells
        critical-count (suc (suc (suc (suc (suc d))))) small = absurd (omega (arith, small))

        -- each cocycle has its extension
        extended : (n m : ℕ) (rs : List (List ℕ)) (ts us : List Kind) → SolutionsAreOne F → IsSplit F n m rs ts us → (ws : List (List ℕ)) → IsMatrix F (criticals ts) ws
            → (xs : List (List ℕ)) × AreExtensions F n m rs ts us ws xs × (length xs ≡ length ws)
        extended n m rs ts us one split [] h = ([], tt, refl)
        extended n m rs ts us one split (w ∷ ws) h =
            let x = one.extension n m rs ts us split w h.0 in
            let r = extended n m rs ts us one split ws h.1 in
            (x.0 ∷ r.0, (x.1, r.1), ap suc r.2)

        vectors-of : (n m : ℕ) (next : List (List ℕ)) (ws : List (List ℕ)) → length next ≡ n → AllByRecursion (IsInKernel F m next) ws → IsMatrix F n ws
        vectors-of n m next [] l h = tt
        vectors-of n m next (w ∷ ws) l h = (subst (λ (k : ℕ). IsVector F k w) l h.0.vector, vectors-of n m next ws l h.1)

        rows-into : (d : ℕ) → d ≤ 3 → rows d ≡ rows_into F space d
        rows-into zero small = refl
        rows-into (suc d) small = rows-are F L space field local.valid d (omega (arith, small))

        into-is : (d : ℕ) → d ≤ 3 → flag_into d ≡ reduced d
        into-is zero small = refl
        into-is (suc d) small = sym (flag-at-is d (omega (arith, small)))

        pub betti-of : BasesExtend F → SolutionsAreOne F → (d : ℕ) (zs : List (List ℕ)) → d ≤ 3 → IsCohomologyBasis F (count space (d + 1)) (cell_rows_into F space negative d) (signed_rows F space negative d) zs → IsBetti F space d (length zs)
        betti-of extend one d zs small b =
            let ws : List (List ℕ) = map (to d) zs in
            let complex = is-complex F L space field local.valid in
            let f = flags-basis d zs small b in
            let ts : List Kind = kinds (suc d) in
            let us : List Kind = kinds (suc (suc d)) in
            let g : IsCohomologyBasis F (criticals us) (reduced d) (flag_at d) ws =
            subst (λ (n : ℕ). IsCohomologyBasis F n (reduced d) (flag_at d) ws) (sym (critical-count (suc d) (omega (arith, small))))
            (subst (λ (rs : List (List ℕ)). IsCohomologyBasis F (count space (suc d)) rs (flag_at d) ws) (into-is d small)
            (subst (λ (rs : List (List ℕ)). IsCohomologyBasis F (count space (suc d)) (flag_into d) rs ws) (sym (flag-at-is d small)) f)) in
            let long : length (flag_rows F space negative d) ≡ criticals ts = flag-long d small ∙ sym (critical-count d (omega (arith, small))) in
            let x = extended (N (suc d)) (N (suc (suc d))) (rows (suc d)) ts us one (complex.splits (suc d)) ws (vectors-of (criticals ts) (count space (suc d)) (flag_rows F space negative d) ws long f.cocycles) in
            let found : IsCohomologyBasis F (N (suc (suc d))) (rows d) (rows (suc d)) x.0 = extend N rows kinds reduced complex are-reduced d ws x.0 g x.1 in (
              x.0,
              basis_of F L space d x.0
                  (subst (λ (n : ℕ). IsCohomologyBasis F n (rows_into F space d) (rows_of F space d) x.0) (sizes F L space field local.valid (suc d) (omega (arith, small)))
                  (subst (λ (rs : List (List ℕ)). IsCohomologyBasis F (N (suc (suc d))) rs (rows_of F space d) x.0) (rows-into d small)
                  (subst (λ (rs : List (List ℕ)). IsCohomologyBasis F (N (suc (suc d))) (rows d) rs x.0) (rows-are F L space field local.valid d small) found))),
              x.2 ∙ length-map zs (to d),
            )

pub cells_have : CyclesGoRound → BoundariesCollapse → FacesAreBelow → ChainsAreSequences → ChainsAreOrdered → LocalPairsAreFields → (F : Ops) → IsField F → BasesExtend F → SolutionsAreOne F → CellsHaveTheBettiNumbers F
cells_have rounds collapses faces sequences ordered locals F L extend one space negative degree zs valid regular oriented small b =
    let c = some-collapse collapses space valid regular in
    betti-of rounds collapses faces sequences ordered locals space valid regular F L negative oriented (local_field_of space c.0) (locals space c.0 valid regular c.1) extend one degree zs small b
