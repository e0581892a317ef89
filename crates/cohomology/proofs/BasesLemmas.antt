-- Class lines of a reduced complex over the chains of a space: bases of cocycles, and dual cycles.
use Rattle.std.proofs.Common.{◌≡◌, ◌≢◌, ℕ, zero, suc, ◌+◌, ◌<◌, ◌≤◌, inl, inr, List, [], ◌∷◌, length, map, get_or, replicate, refl, ap, sym, ◌∙◌, subst, arith}
use Rattle.std.specs.List.{AllByRecursion}
use Rattle.std.proofs.lemmas.Grind.{same_number_lists}
use Rattle.std.proofs.lemmas.List.{get_or-map, get_or-set_other, get_or-set_same, length-map}
use Rattle.std.proofs.lemmas.Simd.{length-replicate, get_or-replicate}
use Rattle.face_poset.specs.Poset.{Layers}
use Rattle.small_field.specs.Field.{Ops, IsField}
use Rattle.linear_laws.specs.Betti.{IsCohomologyBasis}
use Rattle.linear_laws.specs.Echelon.{rank_of, IsReducedTo}
use Rattle.linear_laws.specs.Marks.{mark}
use Rattle.linear_laws.specs.Vectors.{boundary, combination, dot, row_at, IsInKernel}
use Rattle.linear_laws.proofs.CallerLemmas.{length-mark, same_or_not, zeros-elements}
use Rattle.field_matrix.specs.Rows.{Rows}
use Rattle.field_matrix.specs.declared.history.Elimination.{Elimination}
use Rattle.order_complex.specs.Chains.{chains_of}
use Rattle.order_complex.specs.Homology.{IsBasis}
use Rattle.order_complex.specs.Ranks.{rows_into}
use Rattle.split_laws.specs.declared.kind.Kind.{Kind}
use Rattle.split_laws.specs.Kinds.{criticals, part}
use Rattle.split_laws.specs.Laws.{BasesExtend, ExtensionsPair, FlowsCommute, SolutionsAreOne, SolutionsCombine}
use Rattle.split_laws.specs.Solutions.{AreExtensions, AreFlows, IsExtension, IsFlow}
use Rattle.critical_complex.specs.Levels.{Level, cells_at, kinds_at, rows_at}
use Rattle.critical_complex.specs.Complex.{IsReducedComplex}
use Rattle.chain_laws.specs.Lines.{cochain_in, cochain_of, AreEntries}
use Rattle.chain_laws.specs.AllLines.{Line, left_sides, right_sides, coboundary_in, lines_of, ArePaired, IsClassLine}
use Rattle.cohomology.specs.Bases.{cells_with, rows_with, kinds_with, AreClasses, HaveSides, IsFormInto, IsReducedFrom}
use Rattle.cohomology.specs.Echelons.{AreRowsOf, IsEchelon}
use Rattle.cohomology.proofs.ClassLemmas.{reduced_index}
use Rattle.cohomology.proofs.Cohomology.{some, are_some}
use Rattle.cohomology.proofs.Complexes.{basis_on_chains, cells_are, into_rows, no_pivots, none_reduced}

-- ---- forms of what leads into a degree

pub first_form : (F : Ops) (L : IsField F) (levels : List Level) (m : Rows) (cols : ℕ) → m.cols ≡ cols → cols ≡ criticals (kinds_at levels 0) → m.rows ≡ replicate 0 (replicate cols 0) → IsFormInto F levels 0 m
first_form F L levels m cols e f r = record {
  all = [];
  reduced = none_reduced F L 0 (cells_at levels 0) [] [] (kinds_at levels 0) refl;
  cols = e ∙ f;
  form = subst (λ (rows : List (List ℕ)). IsReducedTo F m.cols (rank_of rows) m.cols [] rows) (sym r) (no_pivots F L m.cols [] tt (λ i j l k. absurd (omega (arith, l))));
}

pub next_form : {G : Type 0} (F : Ops) (levels : List Level) (d : ℕ) (e : Elimination G) → IsEchelon F levels d e → IsFormInto F levels (suc d) e.reduced
next_form F levels d e h =
    let up : d + 1 ≡ suc d = omega arith in
    let cols : e.reduced.cols ≡ criticals (kinds_at levels (d + 1)) = h.cols in
    record {
      all = h.filled.all;
      reduced = reduced_index F levels d h.filled.all h.filled.reduced;
      cols = cols ∙ ap (λ k. criticals (kinds_at levels k)) up;
      form =
          subst (λ (rows : List (List ℕ)). IsReducedTo F e.reduced.cols (rank_of e.reduced.rows) e.reduced.cols rows e.reduced.rows) h.filled.are
          (subst (λ n. IsReducedTo F n (rank_of e.reduced.rows) n h.rows e.reduced.rows) (sym cols) h.form);
    }

module _ (F : Ops) where
  -- ---- extensions and flows by their places

  extensions_long : (n m : ℕ) (rows : List (List ℕ)) (ts us : List Kind) (ws xs : List (List ℕ)) → AreExtensions F n m rows ts us ws xs → length ws ≡ length xs
  extensions_long n m rows ts us [] [] h = refl
  extensions_long n m rows ts us [] (x ∷ xs) h = absurd h
  extensions_long n m rows ts us (w ∷ ws) [] h = absurd h
  extensions_long n m rows ts us (w ∷ ws) (x ∷ xs) h = ap suc (extensions_long n m rows ts us ws xs h.1)

  pub extension_at : (n m : ℕ) (rows : List (List ℕ)) (ts us : List Kind) (ws xs : List (List ℕ)) (i : ℕ) → AreExtensions F n m rows ts us ws xs → i < length xs → IsExtension F n m rows ts us (row_at ws i) (row_at xs i)
  extension_at n m rows ts us [] [] i h l = absurd (omega (arith, l))
  extension_at n m rows ts us [] (x ∷ xs) i h l = absurd h
  extension_at n m rows ts us (w ∷ ws) [] i h l = absurd h
  extension_at n m rows ts us (w ∷ ws) (x ∷ xs) zero h l = h.0
  extension_at n m rows ts us (w ∷ ws) (x ∷ xs) (suc i) h l = extension_at n m rows ts us ws xs i h.1 (omega (arith, l))

  pub extensions_own : (n m : ℕ) (rows : List (List ℕ)) (ts us : List Kind) (ws xs : List (List ℕ)) → AreExtensions F n m rows ts us ws xs → ws ≡ map (part ts) xs
  extensions_own n m rows ts us [] [] h = refl
  extensions_own n m rows ts us [] (x ∷ xs) h = absurd h
  extensions_own n m rows ts us (w ∷ ws) [] h = absurd h
  extensions_own n m rows ts us (w ∷ ws) (x ∷ xs) h = ap (λ y. y ∷ ws) (sym h.0.own) ∙ ap (λ ys. part ts x ∷ ys) (extensions_own n m rows ts us ws xs h.1)

  flows_long : (n m : ℕ) (rows : List (List ℕ)) (ts us : List Kind) (ws xs : List (List ℕ)) → AreFlows F n m rows ts us ws xs → length ws ≡ length xs
  flows_long n m rows ts us [] [] h = refl
  flows_long n m rows ts us [] (x ∷ xs) h = absurd h
  flows_long n m rows ts us (w ∷ ws) [] h = absurd h
  flows_long n m rows ts us (w ∷ ws) (x ∷ xs) h = ap suc (flows_long n m rows ts us ws xs h.1)

  pub flow_at : (n m : ℕ) (rows : List (List ℕ)) (ts us : List Kind) (ws xs : List (List ℕ)) (i : ℕ) → AreFlows F n m rows ts us ws xs → i < length xs → IsFlow F n m rows ts us (row_at ws i) (row_at xs i)
  flow_at n m rows ts us [] [] i h l = absurd (omega (arith, l))
  flow_at n m rows ts us [] (x ∷ xs) i h l = absurd h
  flow_at n m rows ts us (w ∷ ws) [] i h l = absurd h
  flow_at n m rows ts us (w ∷ ws) (x ∷ xs) zero h l = h.0
  flow_at n m rows ts us (w ∷ ws) (x ∷ xs) (suc i) h l = flow_at n m rows ts us ws xs i h.1 (omega (arith, l))

  pub flows_own : (n m : ℕ) (rows : List (List ℕ)) (ts us : List Kind) (ws xs : List (List ℕ)) → AreFlows F n m rows ts us ws xs → ws ≡ map (part us) xs
  flows_own n m rows ts us [] [] h = refl
  flows_own n m rows ts us [] (x ∷ xs) h = absurd h
  flows_own n m rows ts us (w ∷ ws) [] h = absurd h
  flows_own n m rows ts us (w ∷ ws) (x ∷ xs) h = ap (λ y. y ∷ ws) (sym h.0.own) ∙ ap (λ ys. part us x ∷ ys) (flows_own n m rows ts us ws xs h.1)

  paired_from : (space : Layers) (degree : ℕ) (rights : List (List (ℕ × ℕ))) (place : ℕ) (lefts : List (List (ℕ × ℕ)))
      → ((i : ℕ) → i < length lefts → map (λ right. dot F (cochain_in space degree (get_or lefts i [])) (cochain_in space degree right)) rights ≡ mark (length rights) (place + i)) → ArePaired F space degree rights place lefts
  paired_from space degree rights place [] f = tt
  paired_from space degree rights place (left ∷ lefts) f = (
    f 0 (omega arith) ∙ ap (mark (length rights)) (let z : place + 0 ≡ place = omega arith in z),
    paired_from space degree rights (suc place) lefts (λ i l. f (suc i) (omega (arith, l)) ∙ ap (mark (length rights)) (let z : place + suc i ≡ suc place + i = omega arith in z)),
  )

module _ (F : Ops) (L : IsField F) (one : SolutionsAreOne F) (combine : SolutionsCombine F) (extend : BasesExtend F) (pair : ExtensionsPair F) (commute : FlowsCommute F) (levels : List Level) (R : IsReducedComplex F levels) (space : Layers)
    (rows_are : AreRowsOf F levels space) where
  -- a chain whose boundary at critical cells is zero is a cycle
  flow_is_cycle : (d : ℕ) (v z : List ℕ) → IsFlow F (cells_with levels d) (cells_at levels d) (rows_with levels d) (kinds_with levels d) (kinds_at levels d) v z
      → boundary F (some F L one levels R d) v ≡ replicate (length (some F L one levels R d)) 0 → boundary F (rows_with levels d) z ≡ replicate (length (rows_with levels d)) 0
  flow_is_cycle zero v z h e = refl
  flow_is_cycle (suc k) v z h e =
      let n : ℕ = cells_with levels k in
      let m : ℕ = cells_with levels (suc k) in
      let rows : List (List ℕ) = rows_with levels k in
      let ts : List Kind = kinds_with levels k in
      let us : List Kind = kinds_with levels (suc k) in
      let c : ℕ = criticals us in
      let split = R.complex.splits k in
      let next = R.complex.splits (suc k) in
      let moved : IsFlow F n m rows ts us (boundary F (some F L one levels R (suc k)) v) (boundary F (rows_with levels (suc k)) z) =
      commute (cells_with levels) (rows_with levels) (kinds_with levels) (some F L one levels R) R.complex (are_some F L one levels R) k v z h in
      let count : length (some F L one levels R (suc k)) ≡ c = (are_some F L one levels R (suc k)).long in
      let zero_values : IsFlow F n m rows ts us (replicate c 0) (boundary F (rows_with levels (suc k)) z) =
      subst (λ y. IsFlow F n m rows ts us y (boundary F (rows_with levels (suc k)) z)) (e ∙ ap (λ j. replicate j 0) count) moved in
      let nothing : IsFlow F n m rows ts us (replicate c 0) (replicate m 0) = combine.flow n m rows ts us split [] [] [] tt in
      let only = one.flow n m rows ts us split (replicate c 0) (record { long = length-replicate c 0; elements = zeros-elements F L c }) in
      only.2 (boundary F (rows_with levels (suc k)) z) zero_values ∙ sym (only.2 (replicate m 0) nothing) ∙ ap (λ j. replicate j 0) (sym next.long)

  module _ (degree : ℕ) (small : degree ≤ 3) (lines : List Line) (h : AreClasses F levels degree lines) where
    abbrev n : ℕ
    n = cells_at levels degree

    n_is : n ≡ length (chains_of space degree)
    n_is = cells_are F L space levels R rows_are degree (omega (arith, small))

    abbrev xs : List (List ℕ)
    xs = map (cochain_of n) (left_sides lines)

    abbrev zs : List (List ℕ)
    zs = map (cochain_of n) (right_sides lines)

    on_rows : IsCohomologyBasis F (cells_at levels (suc degree)) (rows_with levels degree) (rows_at levels degree) xs
    on_rows =
        extend (cells_with levels) (rows_with levels) (kinds_with levels) (some F L one levels R) R.complex (are_some F L one levels R) degree h.zs xs
        (h.basis (some F L one levels R degree) (some F L one levels R (suc degree)) (are_some F L one levels R degree) (are_some F L one levels R (suc degree))) h.are.extensions

    pub basis : IsBasis F space degree (map (cochain_in space degree) (left_sides lines))
    basis =
        subst (λ k. IsBasis F space degree (map (cochain_of k) (left_sides lines))) n_is
        (basis_on_chains F L space levels R rows_are degree small xs on_rows)

    -- ---- cocycles

    cocycles_from : (lefts : List (List (ℕ × ℕ))) → AllByRecursion (IsInKernel F (cells_at levels (suc degree)) (rows_at levels degree)) (map (cochain_of n) lefts)
        → AllByRecursion (λ left. coboundary_in F space degree left ≡ replicate (length (chains_of space (suc degree))) 0) lefts
    cocycles_from [] h = tt
    cocycles_from (left ∷ lefts) h = (
      sym
          (ap (λ k. combination F k (cochain_of n left) (rows_at levels degree)) (cells_are F L space levels R rows_are (suc degree) (omega (arith, small)))
          ∙ ap (λ k. combination F (length (chains_of space (suc degree))) (cochain_of k left) (rows_at levels degree)) n_is
          ∙ ap (combination F (length (chains_of space (suc degree))) (cochain_in space degree left)) (rows_are degree small))
          ∙ h.0.zero ∙ ap (λ k. replicate k 0) (cells_are F L space levels R rows_are (suc degree) (omega (arith, small))),
      cocycles_from lefts h.1,
    )

    pub cocycles : AllByRecursion (λ left. coboundary_in F space degree left ≡ replicate (length (chains_of space (suc degree))) 0) (left_sides lines)
    cocycles = cocycles_from (left_sides lines) on_rows.cocycles

    -- ---- cycles

    cycles_from : (vs : List (List ℕ)) (rights : List (List (ℕ × ℕ))) → AreFlows F (cells_with levels degree) n (rows_with levels degree) (kinds_with levels degree) (kinds_at levels degree) vs (map (cochain_of n) rights)
        → AllByRecursion (λ v. boundary F (some F L one levels R degree) v ≡ replicate (length (some F L one levels R degree)) 0) vs
        → AllByRecursion (λ right. boundary F (rows_with levels degree) (cochain_of n right) ≡ replicate (length (rows_with levels degree)) 0) rights
    cycles_from vs [] f c = tt
    cycles_from [] (r ∷ rights) f c = absurd f
    cycles_from (v ∷ vs) (r ∷ rights) f c = (flow_is_cycle degree v (cochain_of n r) f.0 c.0, cycles_from vs rights f.1 c.1)

    pub cycles : AllByRecursion (λ right. boundary F (rows_into F space degree) (cochain_in space degree right) ≡ replicate (length (rows_into F space degree)) 0) (right_sides lines)
    cycles =
        subst (λ (rows : List (List ℕ)). AllByRecursion (λ right. boundary F rows (cochain_in space degree right) ≡ replicate (length rows) 0) (right_sides lines)) (into_rows F L space levels R rows_are degree small)
        (subst (λ k. AllByRecursion (λ right. boundary F (rows_with levels degree) (cochain_of k right) ≡ replicate (length (rows_with levels degree)) 0) (right_sides lines)) n_is
        (cycles_from h.vs (right_sides lines) h.are.flows (h.cycles (some F L one levels R degree) (are_some F L one levels R degree))))

    -- ---- pairing

    lefts_long : length h.zs ≡ length lines
    lefts_long =
        extensions_long F n (cells_at levels (suc degree)) (rows_at levels degree) (kinds_at levels degree) (kinds_at levels (suc degree)) h.zs xs h.are.extensions
        ∙ length-map (left_sides lines) (cochain_of n)
        ∙ length-map lines (λ line. line.left)

    product : (i j : ℕ) → i < length lines → j < length lines → dot F (row_at xs i) (row_at zs j) ≡ dot F (row_at h.zs i) (row_at h.vs j)
    product i j li lj =
        let lx : i < length xs = omega (arith, li, length-map (left_sides lines) (cochain_of n), length-map lines (λ line. line.left)) in
        let lz : j < length zs = omega (arith, lj, length-map (right_sides lines) (cochain_of n), length-map lines (λ line. line.right)) in
        pair (cells_with levels degree) n (cells_at levels (suc degree)) (rows_with levels degree) (rows_at levels degree) (kinds_with levels degree) (kinds_at levels degree) (kinds_at levels (suc degree)) (row_at h.zs i) (row_at xs i) (row_at h.vs j) (row_at zs j)
        (extension_at F n (cells_at levels (suc degree)) (rows_at levels degree) (kinds_at levels degree) (kinds_at levels (suc degree)) h.zs xs i h.are.extensions lx)
        (flow_at F (cells_with levels degree) n (rows_with levels degree) (kinds_with levels degree) (kinds_at levels degree) h.vs zs j h.are.flows lz)

    mark_at : (count i j : ℕ) → j < count → (j ≡ i → get_or (mark count i) j 0 ≡ 1) × (j ≢ i → get_or (mark count i) j 0 ≡ 0)
    mark_at count i j l = (
      λ e. ap (λ k. get_or (mark count k) j 0) (sym e) ∙ get_or-set_same (replicate count 0) j 1 0 (omega (arith, l, length-replicate {A = ℕ} count 0)),
      λ ne. get_or-set_other (replicate count 0) i j 1 0 ne ∙ get_or-replicate count j 0 0 l,
    )

    entry_is : (i j : ℕ) → i < length lines → j < length lines → dot F (row_at xs i) (row_at zs j) ≡ get_or (mark (length lines) i) j 0
    entry_is i j li lj =
        product i j li lj
        ∙ elim (same_or_not i j) [
          | inl same ↦
              ap (λ k. dot F (row_at h.zs k) (row_at h.vs j)) same ∙ h.own j (omega (arith, lj, lefts_long)) ∙ sym ((mark_at (length lines) i j lj).0 (sym same))
          | inr apart ↦
              h.apart j i (omega (arith, lj, lefts_long)) (omega (arith, li, lefts_long)) apart ∙ sym ((mark_at (length lines) i j lj).1 (λ e. apart (sym e)))
        ]

    abbrev rights : List (List (ℕ × ℕ))
    rights = right_sides lines

    abbrev lefts : List (List (ℕ × ℕ))
    lefts = left_sides lines

    row_is : (i : ℕ) → i < length lefts → map (λ right. dot F (cochain_of n (get_or lefts i [])) (cochain_of n right)) rights ≡ mark (length rights) i
    row_is i l =
        let ll : length lefts ≡ length lines = length-map lines (λ line. line.left) in
        let lr : length rights ≡ length lines = length-map lines (λ line. line.right) in
        let f : List (ℕ × ℕ) → ℕ = λ right. dot F (cochain_of n (get_or lefts i [])) (cochain_of n right) in
        same_number_lists (map f rights) (mark (length rights) i) (length-map rights f ∙ sym (length-mark (length rights) i))
        (λ j lj.
        let lm : j < length rights = omega (arith, lj, length-map rights f) in
        get_or-map f rights j [] 0 lm
        ∙ ap (λ u. dot F u (cochain_of n (get_or rights j []))) (sym (get_or-map (cochain_of n) lefts i [] [] l))
        ∙ ap (dot F (row_at xs i)) (sym (get_or-map (cochain_of n) rights j [] [] lm))
        ∙ entry_is i j (omega (arith, l, ll)) (omega (arith, lm, lr))
        ∙ ap (λ k. get_or (mark k i) j 0) (sym lr))

    pub pairing : ArePaired F space degree (right_sides lines) 0 (left_sides lines)
    pairing =
        paired_from F space degree rights 0 lefts
        (λ i l.
        subst (λ k. map (λ right. dot F (cochain_of k (get_or lefts i [])) (cochain_of k right)) rights ≡ mark (length rights) (0 + i)) n_is
        (row_is i l ∙ ap (mark (length rights)) (let z : i ≡ 0 + i = omega arith in z)))

    sides_from : (some_lines : List Line) → AllByRecursion (HaveSides F n) some_lines → AllByRecursion (IsClassLine F space degree) some_lines
    sides_from [] a = tt
    sides_from (line ∷ some_lines) a = (
      record { left = subst (λ k. AreEntries F k line.left) n_is a.0.left; right = subst (λ k. AreEntries F k line.right) n_is a.0.right },
      sides_from some_lines a.1,
    )

    pub sides : AllByRecursion (IsClassLine F space degree) lines
    sides = sides_from lines h.are.sides

    pub extended : AreExtensions F n (cells_at levels (suc degree)) (rows_at levels degree) (kinds_at levels degree) (kinds_at levels (suc degree)) (map (part (kinds_at levels degree)) xs) xs
    extended =
        subst (λ ws. AreExtensions F n (cells_at levels (suc degree)) (rows_at levels degree) (kinds_at levels degree) (kinds_at levels (suc degree)) ws xs)
        (extensions_own F n (cells_at levels (suc degree)) (rows_at levels degree) (kinds_at levels degree) (kinds_at levels (suc degree)) h.zs xs h.are.extensions) h.are.extensions

    pub flowed : AreFlows F (cells_with levels degree) n (rows_with levels degree) (kinds_with levels degree) (kinds_at levels degree) (map (part (kinds_at levels degree)) zs) zs
    flowed =
        subst (λ ws. AreFlows F (cells_with levels degree) n (rows_with levels degree) (kinds_with levels degree) (kinds_at levels degree) ws zs)
        (flows_own F (cells_with levels degree) n (rows_with levels degree) (kinds_with levels degree) (kinds_at levels degree) h.vs zs h.are.flows) h.are.flows

    pub of_critical : (last next : List (List ℕ)) → IsReducedFrom F levels degree last → IsReducedFrom F levels (suc degree) next → IsCohomologyBasis F (criticals (kinds_at levels (suc degree))) last next (map (part (kinds_at levels degree)) xs)
    of_critical last next a b =
        subst (IsCohomologyBasis F (criticals (kinds_at levels (suc degree))) last next)
        (extensions_own F n (cells_at levels (suc degree)) (rows_at levels degree) (kinds_at levels degree) (kinds_at levels (suc degree)) h.zs xs h.are.extensions) (h.basis last next a b)

-- the lines of all degrees
pub all_classes : (F : Ops) (levels : List Level) (zero_lines one_lines two_lines three_lines : List Line) → AreClasses F levels 0 zero_lines → AreClasses F levels 1 one_lines → AreClasses F levels 2 two_lines → AreClasses F levels 3 three_lines
    → (degree : ℕ) → degree ≤ 3 → AreClasses F levels degree (lines_of (zero_lines ∷ one_lines ∷ two_lines ∷ three_lines ∷ []) degree)
all_classes F levels p q r s a b c d zero l = a
all_classes F levels p q r s a b c d (suc zero) l = b
all_classes F levels p q r s a b c d (suc (suc zero)) l = c
all_classes F levels p q r s a b c d (suc (suc (suc zero))) l = d
all_classes F levels p q r s a b c d (suc (suc (suc (suc degree)))) l = absurd (omega (arith, l))
