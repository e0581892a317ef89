-- The tests of all lines, and their equations by rows.
use Rattle.std.proofs.Common.{◌≡◌, ◌≢◌, ℕ, zero, suc, ◌+◌, ◌≤◌, List, [], ◌∷◌, ◌++◌, Bool, true, false, ◌&&◌, map, length, replicate, refl, ap, sym, ◌∙◌, arith, eq-eqb}
use Rattle.std.specs.List.{AllByRecursion, list_all}
use Rattle.std.proofs.lemmas.Bool.{eqb-true}
use Rattle.std.proofs.lemmas.List.{length-map}
use Rattle.std.proofs.lemmas.Slice.Eq.{bytes_eq-Decides}
use Rattle.face_poset.specs.Poset.{Layers}
use Rattle.small_field.specs.Field.{Ops, IsField}
use Rattle.linear_laws.specs.Marks.{mark}
use Rattle.linear_laws.specs.Triangle.{Triangle}
use Rattle.linear_laws.specs.Vectors.{combination, dot, plus_scaled}
use Rattle.linear_laws.specs.Vectors.{boundary as boundary_by}
use Rattle.linear_laws.proofs.CallerLemmas.{all_append, all_weaker}
use Rattle.number_lists.proofs.CallerLemmas.{length-upto}
use Rattle.face_poset.specs.Words.{upto}
use Rattle.order_complex.specs.Chains.{chains_of}
use Rattle.order_complex.specs.Cochains.{coboundary, coboundary_at, coboundary_on}
use Rattle.order_complex.specs.Laws.{CoboundaryIsAdjoint}
use Rattle.order_complex.specs.Ranks.{rows_into}
use Rattle.order_complex.proofs.CallerLemmas.{length-rows_of}
use Rattle.chain_laws.specs.Lines.{AreEntries, chains_below, cochain_of, cochain_in, element_at, value_on, rank_holds, cocycle_holds, cycle_holds, pairing_holds, count_holds}
use Rattle.chain_laws.specs.AllLines.{Line, left_sides, right_sides, lines_of, lines_before, ranks_hold, classes_hold, degree_holds, homology_holds, coboundary_in, IsRankLine, IsClassLine, HaveEntries, ArePaired, HaveEquations, AreHomology}
use Rattle.chain_laws.specs.Laws.{EquationsAreTests}
use Rattle.chain_laws.proofs.LineLemmas.{cochain-vector, tests_are_equations}
use Rattle.chain_laws.proofs.RowLemmas.{coboundary_rows, boundary_of}

two : (a b : Bool) → (a && b) ≡ true → (a ≡ true) × (b ≡ true)
two true b h = (refl, h)
two false b h = absurd (cc)

from_two : (a b : Bool) → a ≡ true → b ≡ true → (a && b) ≡ true
from_two a b h k = ap (λ x. x && b) h ∙ k

-- what holds of each of a list with one element more at its end
last_of_all : {A : Type 0} (P : A → Type 0) (xs : List A) (x : A) → AllByRecursion P (xs ++ x ∷ []) → AllByRecursion P xs × P x
last_of_all P [] x h = (tt, h.0)
last_of_all P (y ∷ xs) x h = let r = last_of_all P xs x h.1 in ((h.0, r.0), r.1)

-- two properties of each, as a property more at the front of each list
in_front : {A : Type 0} (P Q : A → Type 0) (xs : List A) → AllByRecursion P xs → AllByRecursion Q xs → AllByRecursion (λ x. P x × Q x) xs
in_front P Q [] h i = tt
in_front P Q (x ∷ xs) h i = ((h.0, i.0), in_front P Q xs h.1 i.1)

fronts : {A : Type 0} (P Q : A → Type 0) (xs : List A) → AllByRecursion (λ x. P x × Q x) xs → AllByRecursion P xs × AllByRecursion Q xs
fronts P Q [] h = (tt, tt)
fronts P Q (x ∷ xs) h = let r = fronts P Q xs h.1 in ((h.0.0, r.0), (h.0.1, r.1))

module _ (F : Ops) (L : IsField F) (A : CoboundaryIsAdjoint F) (space : Layers) (degree : ℕ) where
  abbrev chains : List (List ℕ)
  chains = chains_of space degree

  abbrev next : List (List ℕ)
  next = chains_of space (suc degree)

  abbrev below : List (List ℕ)
  below = chains_below space degree

  abbrev d_of : List (ℕ × ℕ) → List ℕ
  d_of left = coboundary_in F space degree left

  abbrev test_of : List (ℕ × ℕ) → List ℕ
  test_of right = cochain_in space (suc degree) right

  d_is : (left : List (ℕ × ℕ)) → AreEntries F (length chains) left → coboundary F space degree (cochain_in space degree left) ≡ d_of left
  d_is left h = coboundary_rows F L A space degree (cochain_in space degree left) (cochain-vector F L (length chains) left h)

  value_is : (left right : List (ℕ × ℕ)) → AreEntries F (length chains) left → value_on F (coboundary F space degree (cochain_in space degree left)) right ≡ dot F (d_of left) (test_of right)
  value_is left right h =
      let x : List ℕ = cochain_in space degree left in
      ap (λ n. dot F (coboundary F space degree x) (cochain_of n right)) (length-map next (coboundary_at F chains x)) ∙ ap (λ d. dot F d (test_of right)) (d_is left h)

  -- ---- rank lines

  rank_there : (before : List (List (ℕ × ℕ))) (left right : List (ℕ × ℕ)) → AreEntries F (length chains) left → rank_holds F chains next before left right ≡ true
      → (dot F (d_of left) (test_of right) ≢ 0) × AllByRecursion (λ earlier. dot F (d_of left) (test_of earlier) ≡ 0) before
  rank_there before left right h t =
      let r = ((tests_are_equations F L).rank chains next before left right).0 t in (
        λ z. r.0 (value_is left right h ∙ z),
        all_weaker (λ earlier. value_on F (coboundary F space degree (cochain_in space degree left)) earlier ≡ 0) (λ earlier. dot F (d_of left) (test_of earlier) ≡ 0)
            (λ earlier z. sym (value_is left earlier h) ∙ z) before r.1,
      )

  rank_back : (before : List (List (ℕ × ℕ))) (left right : List (ℕ × ℕ)) → AreEntries F (length chains) left → dot F (d_of left) (test_of right) ≢ 0
      → AllByRecursion (λ earlier. dot F (d_of left) (test_of earlier) ≡ 0) before → rank_holds F chains next before left right ≡ true
  rank_back before left right h own zero_before =
      ((tests_are_equations F L).rank chains next before left right).1 (
        λ z. own (sym (value_is left right h) ∙ z),
        all_weaker (λ earlier. dot F (d_of left) (test_of earlier) ≡ 0) (λ earlier. value_on F (coboundary F space degree (cochain_in space degree left)) earlier ≡ 0)
            (λ earlier z. value_is left earlier h ∙ z) before zero_before,
      )

  -- the coboundaries of the left sides of some lines are zero on a right side
  abbrev ZeroOn : List Line → List (ℕ × ℕ) → Type 0
  ZeroOn lines earlier = AllByRecursion (λ d. dot F d (test_of earlier) ≡ 0) (map d_of (left_sides lines))

  abbrev AreTriangle : List Line → Type 0
  AreTriangle lines = Triangle F (map d_of (left_sides lines)) (map test_of (right_sides lines))

  none_before : (before : List (List (ℕ × ℕ))) → AllByRecursion (ZeroOn []) before
  none_before [] = tt
  none_before (e ∷ before) = (tt, none_before before)

  ranks_there : (before : List (List (ℕ × ℕ))) (lines : List Line) → AllByRecursion (IsRankLine F space degree) lines → ranks_hold F chains next before lines ≡ true → AllByRecursion (ZeroOn lines) before × AreTriangle lines
  ranks_there before [] a t = (none_before before, tt)
  ranks_there before (line ∷ lines) a t =
      let b = two (rank_holds F chains next before line.left line.right) (ranks_hold F chains next (before ++ line.right ∷ []) lines) t in
      let r = rank_there before line.left line.right a.0.left b.0 in
      let i = ranks_there (before ++ line.right ∷ []) lines a.1 b.1 in
      let s = last_of_all (ZeroOn lines) before line.right i.0 in (
        in_front (λ earlier. dot F (d_of line.left) (test_of earlier) ≡ 0) (ZeroOn lines) before r.1 s.0,
        (r.0, s.1, i.1),
      )

  ranks_back : (before : List (List (ℕ × ℕ))) (lines : List Line) → AllByRecursion (IsRankLine F space degree) lines → AllByRecursion (ZeroOn lines) before → AreTriangle lines → ranks_hold F chains next before lines ≡ true
  ranks_back before [] a z t = refl
  ranks_back before (line ∷ lines) a z t =
      let s = fronts (λ earlier. dot F (d_of line.left) (test_of earlier) ≡ 0) (ZeroOn lines) before z in
      from_two (rank_holds F chains next before line.left line.right) (ranks_hold F chains next (before ++ line.right ∷ []) lines)
      (rank_back before line.left line.right a.0.left t.0 s.0)
      (ranks_back (before ++ line.right ∷ []) lines a.1 (all_append (ZeroOn lines) before (line.right ∷ []) s.1 (t.1, tt)) t.2)

  -- ---- class lines

  abbrev IsZero : List (ℕ × ℕ) → Type 0
  IsZero left = d_of left ≡ replicate (length next) 0

  abbrev IsCycle : List (ℕ × ℕ) → Type 0
  IsCycle right = boundary_by F (rows_into F space degree) (cochain_in space degree right) ≡ replicate (length (rows_into F space degree)) 0

  cocycle_there : (left : List (ℕ × ℕ)) → AreEntries F (length chains) left → cocycle_holds F chains next left ≡ true → IsZero left
  cocycle_there left h t = sym (d_is left h) ∙ ((tests_are_equations F L).cocycle chains next left).0 t

  cocycle_back : (left : List (ℕ × ℕ)) → AreEntries F (length chains) left → IsZero left → cocycle_holds F chains next left ≡ true
  cocycle_back left h z = ((tests_are_equations F L).cocycle chains next left).1 (d_is left h ∙ z)

  rows_below : length below ≡ length (rows_into F space degree)
  rows_below = long degree
    where
      long : (k : ℕ) → length (chains_below space k) ≡ length (rows_into F space k)
      long zero = refl
      long (suc k) = sym (length-rows_of F L space k)

  cycle_there : (right : List (ℕ × ℕ)) → cycle_holds F below chains right ≡ true → IsCycle right
  cycle_there right t =
      sym (boundary_of F L space degree (cochain_in space degree right)) ∙ ((tests_are_equations F L).cycle below chains right).0 t ∙ ap (λ n. replicate n 0) rows_below

  cycle_back : (right : List (ℕ × ℕ)) → IsCycle right → cycle_holds F below chains right ≡ true
  cycle_back right z =
      ((tests_are_equations F L).cycle below chains right).1 (boundary_of F L space degree (cochain_in space degree right) ∙ z ∙ ap (λ n. replicate n 0) (sym rows_below))

  pairs_are : (rights : List (List (ℕ × ℕ))) (left : List (ℕ × ℕ)) → map (value_on F (cochain_in space degree left)) rights ≡ map (λ right. dot F (cochain_in space degree left) (cochain_in space degree right)) rights
  pairs_are rights left =
      ap (λ n. map (λ right. dot F (cochain_in space degree left) (cochain_of n right)) rights) (length-map (upto (length chains)) (element_at left) ∙ length-upto (length chains))

  pairing_there : (rights : List (List (ℕ × ℕ))) (place : ℕ) (left : List (ℕ × ℕ)) → pairing_holds F chains rights place left ≡ true
      → map (λ right. dot F (cochain_in space degree left) (cochain_in space degree right)) rights ≡ mark (length rights) place
  pairing_there rights place left t = sym (pairs_are rights left) ∙ ((tests_are_equations F L).pairing chains rights place left).0 t

  pairing_back : (rights : List (List (ℕ × ℕ))) (place : ℕ) (left : List (ℕ × ℕ)) → map (λ right. dot F (cochain_in space degree left) (cochain_in space degree right)) rights ≡ mark (length rights) place
      → pairing_holds F chains rights place left ≡ true
  pairing_back rights place left e = ((tests_are_equations F L).pairing chains rights place left).1 (pairs_are rights left ∙ e)

  record AreClasses (rights : List (List (ℕ × ℕ))) (place : ℕ) (lines : List Line) : Type 0 where
    cocycles : AllByRecursion IsZero (left_sides lines)
    cycles : AllByRecursion IsCycle (right_sides lines)
    pairing : ArePaired F space degree rights place (left_sides lines)

  classes_there : (rights : List (List (ℕ × ℕ))) (place : ℕ) (lines : List Line) → AllByRecursion (IsClassLine F space degree) lines → classes_hold F below chains next rights place lines ≡ true → AreClasses rights place lines
  classes_there rights place [] a t = record { cocycles = tt; cycles = tt; pairing = tt }
  classes_there rights place (line ∷ lines) a t =
      let later : Bool = classes_hold F below chains next rights (suc place) lines in
      let p = two (cocycle_holds F chains next line.left) (cycle_holds F below chains line.right && (pairing_holds F chains rights place line.left && later)) t in
      let q = two (cycle_holds F below chains line.right) (pairing_holds F chains rights place line.left && later) p.1 in
      let r = two (pairing_holds F chains rights place line.left) later q.1 in
      let i = classes_there rights (suc place) lines a.1 r.1 in
      record {
        cocycles = (cocycle_there line.left a.0.left p.0, i.cocycles);
        cycles = (cycle_there line.right q.0, i.cycles);
        pairing = (pairing_there rights place line.left r.0, i.pairing);
      }

  classes_back : (rights : List (List (ℕ × ℕ))) (place : ℕ) (lines : List Line) → AllByRecursion (IsClassLine F space degree) lines → AreClasses rights place lines → classes_hold F below chains next rights place lines ≡ true
  classes_back rights place [] a c = refl
  classes_back rights place (line ∷ lines) a c =
      let later : Bool = classes_hold F below chains next rights (suc place) lines in
      from_two (cocycle_holds F chains next line.left) (cycle_holds F below chains line.right && (pairing_holds F chains rights place line.left && later)) (cocycle_back line.left a.0.left c.cocycles.0)
      (from_two (cycle_holds F below chains line.right) (pairing_holds F chains rights place line.left && later) (cycle_back line.right c.cycles.0)
      (from_two (pairing_holds F chains rights place line.left) later (pairing_back rights place line.left c.pairing.0)
      (classes_back rights (suc place) lines a.1 (record { cocycles = c.cocycles.1; cycles = c.cycles.1; pairing = c.pairing.1 }))))

  -- ---- a degree

  module _ (ranks classes : List (List Line)) (h : HaveEntries F space ranks classes) (small : degree ≤ 3) where
    abbrev last : List Line
    last = lines_before ranks degree

    abbrev here : List Line
    here = lines_of ranks degree

    abbrev lines : List Line
    lines = lines_of classes degree

    abbrev counted : Bool
    counted = count_holds chains (length last) (length here) (length lines)

    abbrev ranked : Bool
    ranked = ranks_hold F chains next [] here

    abbrev classed : Bool
    classed = classes_hold F below chains next (right_sides lines) 0 lines

    degree_there : degree_holds F space degree ranks classes ≡ true → HaveEquations F space degree last here lines
    degree_there t =
        let p = two counted (ranked && classed) t in
        let q = two ranked classed p.1 in
        let r = ranks_there [] here (h.rank_lines degree small) q.0 in
        let c = classes_there (right_sides lines) 0 lines (h.class_lines degree small) q.1 in
        record { count = eqb-true (length chains) (length last + length here + length lines) p.0; triangle = r.1; cocycles = c.cocycles; cycles = c.cycles; pairing = c.pairing }

    degree_back : HaveEquations F space degree last here lines → degree_holds F space degree ranks classes ≡ true
    degree_back e =
        from_two counted (ranked && classed) (eq-eqb (length chains) (length last + length here + length lines) e.count)
        (from_two ranked classed (ranks_back [] here (h.rank_lines degree small) tt e.triangle)
        (classes_back (right_sides lines) 0 lines (h.class_lines degree small) (record { cocycles = e.cocycles; cycles = e.cycles; pairing = e.pairing })))

module _ (F : Ops) (L : IsField F) (A : CoboundaryIsAdjoint F) where
  module _ (space : Layers) (ranks classes : List (List Line)) (h : HaveEntries F space ranks classes) where
    abbrev holds_at : ℕ → Bool
    holds_at degree = degree_holds F space degree ranks classes

    all_there : homology_holds F space ranks classes ≡ true → AreHomology F space ranks classes
    all_there t zero l = let p = two (holds_at 0) (list_all holds_at (1 ∷ 2 ∷ 3 ∷ [])) t in degree_there F L A space 0 ranks classes h l p.0
    all_there t (suc zero) l =
        let p = two (holds_at 0) (list_all holds_at (1 ∷ 2 ∷ 3 ∷ [])) t in
        let q = two (holds_at 1) (list_all holds_at (2 ∷ 3 ∷ [])) p.1 in
        degree_there F L A space 1 ranks classes h l q.0
    all_there t (suc (suc zero)) l =
        let p = two (holds_at 0) (list_all holds_at (1 ∷ 2 ∷ 3 ∷ [])) t in
        let q = two (holds_at 1) (list_all holds_at (2 ∷ 3 ∷ [])) p.1 in
        let r = two (holds_at 2) (list_all holds_at (3 ∷ [])) q.1 in
        degree_there F L A space 2 ranks classes h l r.0
    all_there t (suc (suc (suc zero))) l =
        let p = two (holds_at 0) (list_all holds_at (1 ∷ 2 ∷ 3 ∷ [])) t in
        let q = two (holds_at 1) (list_all holds_at (2 ∷ 3 ∷ [])) p.1 in
        let r = two (holds_at 2) (list_all holds_at (3 ∷ [])) q.1 in
        let s = two (holds_at 3) true r.1 in
        degree_there F L A space 3 ranks classes h l s.0
    all_there t (suc (suc (suc (suc degree)))) l = absurd (omega (arith, l))

    all_back : AreHomology F space ranks classes → homology_holds F space ranks classes ≡ true
    all_back e =
        from_two (holds_at 0) (list_all holds_at (1 ∷ 2 ∷ 3 ∷ [])) (degree_back F L A space 0 ranks classes h (omega arith) (e 0 (omega arith)))
        (from_two (holds_at 1) (list_all holds_at (2 ∷ 3 ∷ [])) (degree_back F L A space 1 ranks classes h (omega arith) (e 1 (omega arith)))
        (from_two (holds_at 2) (list_all holds_at (3 ∷ [])) (degree_back F L A space 2 ranks classes h (omega arith) (e 2 (omega arith)))
        (from_two (holds_at 3) true (degree_back F L A space 3 ranks classes h (omega arith) (e 3 (omega arith))) refl)))

  pub equations_are_tests : EquationsAreTests F
  equations_are_tests = record {
    homology = λ space ranks classes h. (all_there space ranks classes h, all_back space ranks classes h);
    class = λ below chains lefts coefficients bound x.
        bytes_eq-Decides x
        (plus_scaled F 1 (coboundary_on F below chains (cochain_of (length below) bound)) (combination F (length chains) (cochain_of (length lefts) coefficients) (map (cochain_of (length chains)) lefts)));
  }
