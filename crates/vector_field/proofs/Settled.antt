-- What is settled stays settled when pairs are added.
use Rattle.std.proofs.Common.{◌≡◌, inl, inr, ℕ, zero, suc, ◌+◌, List, true, false, ◌||◌, subst, arith}
use Rattle.std.specs.List.{list_all}
use Rattle.std.proofs.lemmas.Bool.{or_cases, or_left, or_right, both_ways, cases_lt}
use Rattle.face_poset.specs.declared.cells.Pair.{Pair}
use Rattle.face_poset.specs.Poset.{count, cofaces_of}
use Rattle.vector_field.specs.Pairs.{pair, is_used, Field, IsFieldOf}
use Rattle.vector_field.specs.Paths.{GradientPath, has_path}
use Rattle.vector_field.specs.Maximal.{IsMaximal, is_settled}
use Rattle.vector_field.specs.Stages.{IsAbove, Keeps, AreSettled}
use Rattle.number_lists.specs.Members.{In}
use Rattle.number_lists.proofs.CallerLemmas.{In-all, all-In}
use Rattle.vector_field.proofs.Valid.{used-more}
use Rattle.vector_field.proofs.Paths.{path_is_exact, path-more}
use Rattle.vector_field.proofs.MaximalTest.{Incident, incident-true, In-cofaces}

module _ (space : List (List (List ℕ))) (ps qs : List Pair) (keeps : Keeps ps qs) where
  kept : (p : Pair) → In p ps → In p qs
  kept p m = keeps p m

  settled-more : (dim lower upper : ℕ) → is_settled space ps dim lower upper ≡ true → is_settled space qs dim lower upper ≡ true
  settled-more dim lower upper e = elim (or_cases (is_used ps (dim + 1) upper) (has_path space ps dim upper lower) e) [
    | inl k ↦ or_left (is_used qs (dim + 1) upper) (has_path space qs dim upper lower) (used-more ps qs (dim + 1) upper kept k)
    | inr k ↦ or_right (is_used qs (dim + 1) upper) (has_path space qs dim upper lower) ((path_is_exact space qs dim upper lower).1 (path-more space ps qs dim upper lower kept ((path_is_exact space ps dim upper lower).0 k)))
  ]

  pub row-more : (dim lower : ℕ) → (is_used ps dim lower || list_all (is_settled space ps dim lower) (cofaces_of space dim lower)) ≡ true → (is_used qs dim lower || list_all (is_settled space qs dim lower) (cofaces_of space dim lower)) ≡ true
  row-more dim lower e = elim (or_cases (is_used ps dim lower) (list_all (is_settled space ps dim lower) (cofaces_of space dim lower)) e) [
    | inl k ↦ or_left (is_used qs dim lower) (list_all (is_settled space qs dim lower) (cofaces_of space dim lower)) (used-more ps qs dim lower kept k)
    | inr k ↦ or_right (is_used qs dim lower) (list_all (is_settled space qs dim lower) (cofaces_of space dim lower)) (In-all (is_settled space qs dim lower) (cofaces_of space dim lower) (λ u m. settled-more dim lower u (all-In (is_settled space ps dim lower) k m)))
  ]

  pub are-settled-more : (dim first : ℕ) → AreSettled space ps dim first → AreSettled space qs dim first
  are-settled-more dim first h lower a b = row-more dim lower (h lower a b)

-- one cell more
pub settled-next : (space : List (List (List ℕ))) (ps : List Pair) (dim first : ℕ) → AreSettled space ps dim first → (is_used ps dim (first + 1) || list_all (is_settled space ps dim (first + 1)) (cofaces_of space dim (first + 1))) ≡ true → AreSettled space ps dim (first + 1)
settled-next space ps dim first h e lower a b = elim (cases_lt lower (first + 1)) [
  | inl l ↦ h lower a (omega arith)
  | inr l ↦ subst (λ (n : ℕ). (is_used ps dim n || list_all (is_settled space ps dim n) (cofaces_of space dim n)) ≡ true) (let s : first + 1 ≡ lower = omega arith in s) e
]

-- all cells of all dimensions are settled: the pairs are maximal
pub maximal-from : (space : List (List (List ℕ))) (ps : List Pair) → AreSettled space ps 0 (count space 0) → AreSettled space ps 1 (count space 1) → AreSettled space ps 2 (count space 2) → IsMaximal space ps
maximal-from space ps h0 h1 h2 dim lower upper i a b = by dim (incident-true space (pair dim lower upper) i) a b
  where
    at : (d : ℕ) → AreSettled space ps d (count space d) → Incident space (pair d lower upper) → is_used ps d lower ≡ false → is_used ps (d + 1) upper ≡ false → GradientPath space ps d upper lower
    at d h k x y = elim (or_cases (is_used ps d lower) (list_all (is_settled space ps d lower) (cofaces_of space d lower)) (h lower k.first k.last)) [
      | inl e ↦ absurd (both_ways (is_used ps d lower) x e)
      | inr e ↦ elim (or_cases (is_used ps (d + 1) upper) (has_path space ps d upper lower) (all-In (is_settled space ps d lower) e (In-cofaces space d lower upper k.upper_first k.upper_last k.facet))) [
        | inl f ↦ absurd (both_ways (is_used ps (d + 1) upper) y f)
        | inr f ↦ (path_is_exact space ps d upper lower).0 f
      ]
    ]

    by : (d : ℕ) → Incident space (pair d lower upper) → is_used ps d lower ≡ false → is_used ps (d + 1) upper ≡ false → GradientPath space ps d upper lower
    by zero k x y = at 0 h0 k x y
    by (suc zero) k x y = at 1 h1 k x y
    by (suc (suc zero)) k x y = at 2 h2 k x y
    by (suc (suc (suc d))) k x y = absurd (omega (arith, k.low))

-- ---- fields of a dimension and above

pub field-of : (space : List (List (List ℕ))) (dim : ℕ) (field : Field) → IsAbove space dim field → IsFieldOf space field
field-of space dim field h = record { counts = h.counts; valid = h.valid }
