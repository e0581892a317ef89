-- The coboundaries of the left sides of rank lines have a triangle of tests, their right sides.
use Rattle.std.proofs.Common.{◌≡◌, ◌≢◌, ℕ, zero, suc, ◌+◌, ◌-◌, ◌<◌, ◌≤◌, List, [], ◌∷◌, ◌++◌, All, length, map, get_or, replicate, set, refl, ap, sym, ◌∙◌, subst, arith}
use Rattle.std.specs.List.{AllByRecursion}
use Rattle.std.proofs.lemmas.List.Elements.{All-cons, All-nil}
use Rattle.face_poset.specs.Poset.{Layers}
use Rattle.small_field.specs.Field.{Ops, IsField}
use Rattle.small_field.specs.Sparse.{IsSparse}
use Rattle.linear_laws.specs.Echelon.{IsReducedBelow}
use Rattle.linear_laws.specs.Marks.{mark}
use Rattle.linear_laws.specs.Triangle.{Triangle}
use Rattle.linear_laws.specs.Vectors.{combination, dot, entry, row_at, IsVector}
use Rattle.linear_laws.proofs.CallerLemmas.{all_append, combination-vector, dot_comm, dot_mark}
use Rattle.order_complex.specs.Chains.{chains_of}
use Rattle.split_laws.specs.declared.kind.Kind.{Kind}
use Rattle.split_laws.specs.declared.kind.Kind.TheVariants.{Critical, Lower, Upper}
use Rattle.split_laws.specs.Kinds.{criticals, part, ZeroOnUppers}
use Rattle.split_laws.specs.Laws.{ExtensionsCommute, SolutionsAreOne}
use Rattle.split_laws.specs.Pairs.{kind_at}
use Rattle.split_laws.specs.Solutions.{IsExtension, IsReducedBy}
use Rattle.field_matrix.specs.declared.history.Elimination.{Elimination}
use Rattle.pair_stages.specs.declared.unit.Unit.{Unit}
use Rattle.pair_stages.specs.Stages.{critical_from, place_of}
use Rattle.pair_stages.specs.Units.{filled}
use Rattle.critical_complex.specs.Levels.{Level, level_at, cells_at, kinds_at, rows_at, units_at, IsReducedAt}
use Rattle.critical_complex.specs.Complex.{IsLeft, IsReducedComplex, IsUnits}
use Rattle.critical_complex.proofs.CallerLemmas.{critical_at, part_at, place_below}
use Rattle.chain_laws.specs.Lines.{cochain_in, cochain_of, AreEntries}
use Rattle.chain_laws.specs.AllLines.{Line, left_sides, right_sides, coboundary_in, IsRankLine}
use Rattle.cohomology.specs.Bases.{cells_with, rows_with, kinds_with, no_line}
use Rattle.cohomology.specs.Echelons.{rank_in, AreRowsOf, IsEchelon}
use Rattle.cohomology.specs.RankLines.{unit_line, unit_lines, AreRankLines, IsReducedLine}
use Rattle.cohomology.specs.Swept.{ArePivots}
use Rattle.cohomology.proofs.ClassLemmas.{extension_index}
use Rattle.cohomology.proofs.Cohomology.{some, are_some}
use Rattle.cohomology.proofs.Complexes.{cells_are}
use Rattle.cohomology.proofs.Fitting.{filled_fits}

-- ---- triangles

-- vectors that are zero on all tests of a triangle, with a triangle of their own
on_top : (F : Ops) (ds ts es us : List (List ℕ)) → Triangle F ds ts → AllByRecursion (λ t. AllByRecursion (λ e. dot F e t ≡ 0) es) ts → Triangle F es us → Triangle F (ds ++ es) (ts ++ us)
on_top F [] [] es us h z g = g
on_top F [] (t ∷ ts) es us h z g = absurd h
on_top F (d ∷ ds) [] es us h z g = absurd h
on_top F (d ∷ ds) (t ∷ ts) es us h z g = (h.0, all_append (λ e. dot F e t ≡ 0) ds es h.1 z.0, on_top F ds ts es us h.2 z.1 g)

zero_on_upper : (ts : List Kind) (xs : List ℕ) (i : ℕ) → i < length ts → kind_at ts i ≡ Upper → ZeroOnUppers ts xs → get_or xs i 0 ≡ 0
zero_on_upper [] xs i l k z = absurd (omega (arith, l))
zero_on_upper (t ∷ ts) [] i l k z = absurd z
zero_on_upper (Critical ∷ ts) (x ∷ xs) zero l k z = absurd (none k)
  where
    none : Critical ≡ Upper → ⊥
    none e = cc
zero_on_upper (Lower ∷ ts) (x ∷ xs) zero l k z = absurd (none k)
  where
    none : Lower ≡ Upper → ⊥
    none e = cc
zero_on_upper (Upper ∷ ts) (x ∷ xs) zero l k z = z.0
zero_on_upper (Critical ∷ ts) (x ∷ xs) (suc i) l k z = zero_on_upper ts xs i (omega (arith, l)) k z
zero_on_upper (Lower ∷ ts) (x ∷ xs) (suc i) l k z = zero_on_upper ts xs i (omega (arith, l)) k z
zero_on_upper (Upper ∷ ts) (x ∷ xs) (suc i) l k z = zero_on_upper ts xs i (omega (arith, l)) k z.1

-- ---- one entry

pub one_is_sparse : (position value : ℕ) → value ≢ 0 → IsSparse ((position, value) ∷ [])
one_is_sparse position value ne = record {
  increasing = λ k l. absurd (omega (arith, l));
  nonzero = All-cons (λ x. x.1 ≢ 0) (position, value) [] ne (All-nil (λ x. x.1 ≢ 0));
  few = omega arith;
}

module _ (F : Ops) (L : IsField F) where
  pub one_entry : (n position : ℕ) → 1 ≤ position → position ≤ n → AreEntries F n ((position, 1) ∷ [])
  one_entry n position low high = record {
    sparse = one_is_sparse position 1 (λ z. absurd (omega (arith, z)));
    numbers = All-cons (λ x. (1 ≤ x.0) × (x.0 ≤ n)) (position, 1) [] (low, high) (All-nil (λ x. (1 ≤ x.0) × (x.0 ≤ n)));
    elements = All-cons (λ x. x.1 < F.size) (position, 1) [] L.one_below (All-nil (λ x. x.1 < F.size));
  }

  one_is_mark : (n place : ℕ) → place < n → cochain_of n ((place + 1, 1) ∷ []) ≡ mark n place
  one_is_mark n place l =
      sym (filled_fits n ((place + 1, 1) ∷ []) (one_entry n (place + 1) (omega arith) (omega (arith, l))).numbers)
      ∙ ap (λ i. set (replicate n 0) i 1) (let e : place + 1 - 1 ≡ place = omega arith in e)

  -- the value of a cochain on one cell
  value_at : (n place : ℕ) (x : List ℕ) → IsVector F n x → place < n → dot F x (cochain_of n ((place + 1, 1) ∷ [])) ≡ get_or x place 0
  value_at n place x v l = ap (dot F x) (one_is_mark n place l) ∙ dot_comm F L x (mark n place) ∙ dot_mark F L n place x v l

module _ (F : Ops) (L : IsField F) (one : SolutionsAreOne F) (commute : ExtensionsCommute F) (levels : List Level) (R : IsReducedComplex F levels) (space : Layers) (rows_are : AreRowsOf F levels space) (degree : ℕ) (small : degree ≤ 2) where
  abbrev n : ℕ
  n = cells_at levels degree

  abbrev m : ℕ
  m = cells_at levels (suc degree)

  abbrev us : List Kind
  us = kinds_at levels (suc degree)

  abbrev D : List (ℕ × ℕ) → List ℕ
  D left = coboundary_in F space degree left

  abbrev T : List (ℕ × ℕ) → List ℕ
  T right = cochain_in space (suc degree) right

  n_is : n ≡ length (chains_of space degree)
  n_is = cells_are F L space levels R rows_are degree (omega (arith, small))

  m_is : m ≡ length (chains_of space (suc degree))
  m_is = cells_are F L space levels R rows_are (suc degree) (omega (arith, small))

  up : degree + 1 ≡ suc degree
  up = omega arith

  -- coboundaries and tests by the rows of the complex
  D_is : (left : List (ℕ × ℕ)) → combination F m (cochain_of n left) (rows_at levels degree) ≡ D left
  D_is left =
      ap (λ k. combination F k (cochain_of n left) (rows_at levels degree)) m_is
      ∙ ap (λ k. combination F (length (chains_of space (suc degree))) (cochain_of k left) (rows_at levels degree)) n_is
      ∙ ap (combination F (length (chains_of space (suc degree))) (cochain_in space degree left)) (rows_are degree (omega (arith, small)))

  T_is : (right : List (ℕ × ℕ)) → cochain_of m right ≡ T right
  T_is right = ap (λ k. cochain_of k right) m_is

  D_vector : (left : List (ℕ × ℕ)) → IsVector F m (combination F m (cochain_of n left) (rows_at levels degree))
  D_vector left = combination-vector F L m (cochain_of n left) (rows_at levels degree) (R.complex.splits (suc degree)).matrix

  -- the value of a coboundary on one cell
  value_of : (left : List (ℕ × ℕ)) (place : ℕ) → place < m → dot F (D left) (T ((place + 1, 1) ∷ [])) ≡ get_or (combination F m (cochain_of n left) (rows_at levels degree)) place 0
  value_of left place l =
      ap (λ x. dot F x (T ((place + 1, 1) ∷ []))) (sym (D_is left))
      ∙ ap (dot F (combination F m (cochain_of n left) (rows_at levels degree))) (sym (T_is ((place + 1, 1) ∷ [])))
      ∙ value_at F L m place (combination F m (cochain_of n left) (rows_at levels degree)) (D_vector left) l

  -- ---- units

  units : IsUnits F (level_at levels degree) (level_at levels (suc degree))
  units = subst (λ k. IsUnits F (level_at levels degree) (level_at levels k)) up (R.units degree (omega (arith, small)))

  pub record IsUpper (right : List (ℕ × ℕ)) : Type 0 where
    pub place : ℕ
    pub within : place < m
    pub upper : kind_at us place ≡ Upper
    pub is : right ≡ (place + 1, 1) ∷ []

  all_from : {A : Type 0} (P : A → Type 0) (d : A) (xs : List A) → ((i : ℕ) → i < length xs → P (get_or xs i d)) → AllByRecursion P xs
  all_from P d [] f = tt
  all_from P d (x ∷ xs) f = (f 0 (omega arith), all_from P d xs (λ i l. f (suc i) (omega (arith, l))))

  rights_are : AllByRecursion (λ u. IsUpper u.right) (units_at levels degree)
  rights_are =
      all_from (λ u. IsUpper u.right) (record { left = []; right = [] }) (units_at levels degree)
      (λ i l. let h = units.rights.upper i l in record { place = h.0; within = h.1; upper = h.2; is = h.3 })

  same_D : (u : Unit) → IsLeft F (level_at levels degree) u → combination F m (filled n u.left) (rows_at levels degree) ≡ D u.left
  same_D u h = ap (λ x. combination F m x (rows_at levels degree)) (filled_fits n u.left h.numbers) ∙ D_is u.left

  same_T : (u : Unit) → IsUpper u.right → filled m u.right ≡ T u.right
  same_T u h =
      filled_fits m u.right
      (subst (All (λ e. (1 ≤ e.0) × (e.0 ≤ m))) (sym h.is) (one_entry F L m (h.place + 1) (omega arith) (let w : h.place < m = h.within in omega (arith, w))).numbers)
      ∙ T_is u.right

  Ds_are : (vs : List Unit) → AllByRecursion (IsLeft F (level_at levels degree)) vs → map (λ u. combination F m (filled n u.left) (rows_at levels degree)) vs ≡ map D (left_sides (map unit_line vs))
  Ds_are [] h = refl
  Ds_are (v ∷ vs) h = ap (λ x. x ∷ map (λ u. combination F m (filled n u.left) (rows_at levels degree)) vs) (same_D v h.0) ∙ ap (λ xs. D v.left ∷ xs) (Ds_are vs h.1)

  Ts_are : (vs : List Unit) → AllByRecursion (λ u. IsUpper u.right) vs → map (λ u. filled m u.right) vs ≡ map T (right_sides (map unit_line vs))
  Ts_are [] h = refl
  Ts_are (v ∷ vs) h = ap (λ x. x ∷ map (λ u. filled m u.right) vs) (same_T v h.0) ∙ ap (λ xs. T v.right ∷ xs) (Ts_are vs h.1)

  units_triangle : Triangle F (map D (left_sides (unit_lines levels degree))) (map T (right_sides (unit_lines levels degree)))
  units_triangle =
      subst (λ ts. Triangle F (map D (left_sides (unit_lines levels degree))) ts) (Ts_are (units_at levels degree) rights_are)
      (subst (λ ds. Triangle F ds (map (λ u. filled m u.right) (units_at levels degree))) (Ds_are (units_at levels degree) units.lefts) units.triangle)

  -- ---- reduced lines

  module _ {G : Type 0} (e : Elimination G) (is : IsEchelon F levels degree e) where
    abbrev rank : ℕ
    rank = rank_in e

    abbrev pivots : List ℕ
    pivots = is.form.pivots

    abbrev c : ℕ
    c = criticals us

    c_is : criticals (kinds_at levels (degree + 1)) ≡ c
    c_is = ap (λ k. criticals (kinds_at levels k)) up

    are_pivots : ArePivots e.reduced.cols e.reduced.rows pivots
    are_pivots = record { reduced = subst (λ k. IsReducedBelow k e.reduced.rows pivots) (sym is.cols) is.form.reduced; many = is.form.rank_is }

    pivot_small : (j : ℕ) → j < rank → get_or pivots j 0 < c
    pivot_small j l = let w : get_or pivots j 0 < criticals (kinds_at levels (degree + 1)) = is.form.reduced.within j (omega (arith, l, is.form.rank_is)) in omega (arith, w, c_is)

    -- the place of the critical cell at a pivot
    abbrev place : ℕ → ℕ
    place j = place_of us (get_or pivots j 0)

    right_is : (j : ℕ) → j < rank → (right : List (ℕ × ℕ)) → right ≡ (get_or (critical_from 1 (kinds_at levels (degree + 1))) (get_or pivots j 0) 0, 1) ∷ [] → right ≡ (place j + 1, 1) ∷ []
    right_is j l right h =
        h ∙ ap (λ k. (get_or (critical_from 1 (kinds_at levels k)) (get_or pivots j 0) 0, 1) ∷ []) up
        ∙ ap (λ k. (k, 1) ∷ []) (critical_at 1 us (get_or pivots j 0) (pivot_small j l) ∙ (let z : 1 + place j ≡ place j + 1 = omega arith in z))

    place_small : (j : ℕ) → j < rank → place j < m
    place_small j l = place_below us (get_or pivots j 0) (pivot_small j l)

    module _ (index : ℕ) (line : Line) (h : IsReducedLine F levels degree e index line) where
      abbrev x : List ℕ
      x = combination F m (cochain_of n line.left) (rows_at levels degree)

      abbrev all : List (List ℕ)
      all = some F L one levels R (suc degree)

      all_reduced : IsReducedAt F levels degree all
      all_reduced = subst (λ k. IsReducedBy F n (cells_at levels k) (rows_at levels degree) (kinds_at levels degree) (kinds_at levels k) all) (sym up) (are_some F L one levels R (suc degree))

      moved : IsExtension F m (cells_at levels (suc (suc degree))) (rows_at levels (suc degree)) us (kinds_at levels (suc (suc degree))) (combination F c h.values all) x
      moved =
          commute (cells_with levels) (rows_with levels) (kinds_with levels) (some F L one levels R) R.complex (are_some F L one levels R) (suc degree) h.values (cochain_of n line.left)
          (extension_index F levels degree h.values (cochain_of n line.left) h.extension)

      own : part us x ≡ row_at e.reduced.rows index
      own = moved.own ∙ ap (λ k. combination F k h.values all) (sym c_is) ∙ h.row all all_reduced

      on_pivot : (j : ℕ) → j < rank → get_or x (place j) 0 ≡ entry e.reduced.rows index (get_or pivots j 0)
      on_pivot j l = part_at us x (get_or pivots j 0) (moved.vector.long) (pivot_small j l) ∙ ap (λ w. get_or w (get_or pivots j 0) 0) own

      on_upper : (right : List (ℕ × ℕ)) → IsUpper right → dot F (D line.left) (T right) ≡ 0
      on_upper right u =
          ap (λ t. dot F (D line.left) (T t)) u.is
          ∙ value_of line.left u.place u.within
          ∙ zero_on_upper us x u.place u.within u.upper moved.none

      on_right : (j : ℕ) → j < rank → (right : List (ℕ × ℕ)) → right ≡ (place j + 1, 1) ∷ [] → dot F (D line.left) (T right) ≡ entry e.reduced.rows index (get_or pivots j 0)
      on_right j l right r = ap (λ t. dot F (D line.left) (T t)) r ∙ value_of line.left (place j) (place_small j l) ∙ on_pivot j l

      pub is_rank_line : index < rank → IsRankLine F space degree line
      is_rank_line l = record {
        left = subst (λ k. AreEntries F k line.left) n_is h.left;
        right =
            subst (λ r. AreEntries F (length (chains_of space (suc degree))) r) (sym (right_is index l line.right (h.right pivots are_pivots)))
            (subst (λ k. AreEntries F k ((place index + 1, 1) ∷ [])) m_is (one_entry F L m (place index + 1) (omega arith) (omega (arith, place_small index l))));
      }

    -- lines from an index on
    abbrev AreFrom : (first : ℕ) → List Line → Type 0
    AreFrom first lines = (i : ℕ) → i < length lines → (first + i < rank) × IsReducedLine F levels degree e (first + i) (get_or lines i no_line)

    tail_from : (first : ℕ) (line : Line) (lines : List Line) → AreFrom first (line ∷ lines) → AreFrom (suc first) lines
    tail_from first line lines h i l =
        let z : first + suc i ≡ suc first + i = omega arith in
        subst (λ k. (k < rank) × IsReducedLine F levels degree e k (get_or lines i no_line)) z (h (suc i) (omega (arith, l)))

    zero_later : (first : ℕ) (right : List (ℕ × ℕ)) → first < rank → right ≡ (place first + 1, 1) ∷ [] → (next : ℕ) → first < next → (lines : List Line) → AreFrom next lines → AllByRecursion (λ d. dot F d (T right) ≡ 0) (map D (left_sides lines))
    zero_later first right l r next after [] h = tt
    zero_later first right l r next after (line ∷ lines) h =
        let here = h 0 (omega arith) in
        let z : next + 0 ≡ next = omega arith in
        let low : next < rank = omega (arith, here.0) in
        let few : length pivots ≤ length e.reduced.rows = is.form.reduced.few in (
          on_right (next + 0) line here.1 first l right r ∙ ap (λ k. entry e.reduced.rows k (get_or pivots first 0)) z
              ∙ is.form.reduced.alone first next (omega (arith, l, is.form.rank_is)) (omega (arith, low, few, is.form.rank_is)) (λ same. absurd (omega (arith, same, after))),
          zero_later first right l r (suc next) (omega (arith, after)) lines (tail_from next line lines h),
        )

    reduced_triangle : (first : ℕ) (lines : List Line) → AreFrom first lines → Triangle F (map D (left_sides lines)) (map T (right_sides lines))
    reduced_triangle first [] h = tt
    reduced_triangle first (line ∷ lines) h =
        let z : first + 0 ≡ first = omega arith in
        let here : (first < rank) × IsReducedLine F levels degree e first line = subst (λ k. (k < rank) × IsReducedLine F levels degree e k line) z (h 0 (omega arith)) in
        let right : line.right ≡ (place first + 1, 1) ∷ [] = right_is first here.0 line.right (here.1.right pivots are_pivots) in (
          λ none. absurd (omega (arith, sym none ∙ on_right first line here.1 first here.0 line.right right ∙ is.form.reduced.one first (omega (arith, here.0, is.form.rank_is)))),
          zero_later first line.right here.0 right (suc first) (omega arith) lines (tail_from first line lines h),
          reduced_triangle (suc first) lines (tail_from first line lines h),
        )

    zero_on_units : (first : ℕ) (lines : List Line) → AreFrom first lines → (right : List (ℕ × ℕ)) → IsUpper right → AllByRecursion (λ d. dot F d (T right) ≡ 0) (map D (left_sides lines))
    zero_on_units first [] h right u = tt
    zero_on_units first (line ∷ lines) h right u = (on_upper (first + 0) line (h 0 (omega arith)).1 right u, zero_on_units (suc first) lines (tail_from first line lines h) right u)

    zero_on_all : (lines : List Line) → AreFrom 0 lines → (vs : List Unit) → AllByRecursion (λ u. IsUpper u.right) vs → AllByRecursion (λ t. AllByRecursion (λ d. dot F d t ≡ 0) (map D (left_sides lines))) (map T (right_sides (map unit_line vs)))
    zero_on_all lines h [] u = tt
    zero_on_all lines h (v ∷ vs) u = (zero_on_units 0 lines h v.right u.0, zero_on_all lines h vs u.1)

    module _ (lines : List Line) (h : AreRankLines F levels degree e lines) where
      each_from : AreFrom 0 h.rest
      each_from i l =
          let li : i < rank = omega (arith, l, h.long) in
          let z : i ≡ 0 + i = omega arith in
          subst (λ k. (k < rank) × IsReducedLine F levels degree e k (get_or h.rest i no_line)) z (li, h.each i li)

      sides_append : {A : Type 0} (f : List (ℕ × ℕ) → A) (side : Line → List (ℕ × ℕ)) (xs ys : List Line) → map f (map side (xs ++ ys)) ≡ map f (map side xs) ++ map f (map side ys)
      sides_append f side [] ys = refl
      sides_append f side (x ∷ xs) ys = ap (λ zs. f (side x) ∷ zs) (sides_append f side xs ys)

      pub triangle : Triangle F (map D (left_sides lines)) (map T (right_sides lines))
      triangle =
          let U : List Line = unit_lines levels degree in
          subst (λ xs. Triangle F (map D (left_sides xs)) (map T (right_sides xs))) (sym h.are)
          (subst (λ ts. Triangle F (map D (left_sides (U ++ h.rest))) ts) (sym (sides_append T (λ line. line.right) U h.rest))
          (subst (λ ds. Triangle F ds (map T (right_sides U) ++ map T (right_sides h.rest))) (sym (sides_append D (λ line. line.left) U h.rest))
          (on_top F (map D (left_sides U)) (map T (right_sides U)) (map D (left_sides h.rest)) (map T (right_sides h.rest)) units_triangle (zero_on_all h.rest each_from (units_at levels degree) rights_are)
          (reduced_triangle 0 h.rest each_from))))

      -- ---- entries

      unit_entries : (vs : List Unit) → AllByRecursion (IsLeft F (level_at levels degree)) vs → AllByRecursion (λ u. IsUpper u.right) vs → AllByRecursion (IsRankLine F space degree) (map unit_line vs)
      unit_entries [] a b = tt
      unit_entries (v ∷ vs) a b = (
        record {
          left = subst (λ k. AreEntries F k v.left) n_is (record { sparse = a.0.sparse; numbers = a.0.numbers; elements = a.0.elements });
          right =
              subst (λ r. AreEntries F (length (chains_of space (suc degree))) r) (sym b.0.is)
              (subst (λ k. AreEntries F k ((b.0.place + 1, 1) ∷ [])) m_is (one_entry F L m (b.0.place + 1) (omega arith) (let w : b.0.place < m = b.0.within in omega (arith, w))));
        },
        unit_entries vs a.1 b.1,
      )

      rest_entries : (first : ℕ) (some_lines : List Line) → AreFrom first some_lines → AllByRecursion (IsRankLine F space degree) some_lines
      rest_entries first [] f = tt
      rest_entries first (line ∷ some_lines) f = (is_rank_line (first + 0) line (f 0 (omega arith)).1 (f 0 (omega arith)).0, rest_entries (suc first) some_lines (tail_from first line some_lines f))

      pub rank_entries : AllByRecursion (IsRankLine F space degree) lines
      rank_entries =
          subst (AllByRecursion (IsRankLine F space degree)) (sym h.are)
          (all_append (IsRankLine F space degree) (unit_lines levels degree) h.rest (unit_entries (units_at levels degree) units.lefts rights_are) (rest_entries 0 h.rest each_from))
