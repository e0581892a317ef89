-- The numbers of components are 1 to the number of components.
use Rattle.std.proofs.Common.{◌≡◌, inl, inr, ℕ, zero, suc, ◌+◌, ◌-◌, ◌<◌, ◌≤◌, List, Bool, true, false, cond, refl, ap, sym, ◌∙◌, subst, arith}
use Rattle.std.proofs.lemmas.Bool.{eqb-true, cases_lt}
use Rattle.face_poset.specs.Poset.{count}
use Rattle.regular_check.specs.Components.{vertices, share_edge, least_of, is_least, leasts_upto, component_of, component_count, IsLeastVertex, ComponentsAreNumbered}
use Rattle.number_lists.specs.Members.{In}
use Rattle.number_lists.proofs.CallerLemmas.{holds-In, In-holds, In-upto, upto-In}
use Rattle.regular_check.proofs.Leasts.{passing, passing-more, passing-le, passing-lt, path_in, path_back, path_least, shared, is_least_of, component_low, least_passes}

passing-rises : (p : ℕ → Bool) (a b : ℕ) → a ≤ b → passing p a ≤ passing p b
passing-rises p a b l = let e : a + (b - a) ≡ b = omega arith in subst (λ (n : ℕ). passing p a ≤ passing p n) e (passing-le p a (b - a))

-- one that passes, up to which so many pass
record IsReached (p : ℕ → Bool) (n most x : ℕ) : Type 0 where
  pub low : 1 ≤ x
  pub high : x ≤ most
  pub passes : p x ≡ true
  pub so_many : passing p x ≡ n

-- each number up to the count is reached
reached : (p : ℕ → Bool) (n most : ℕ) → 1 ≤ n → n ≤ passing p most → (x : ℕ) × IsReached p n most x
reached p n zero low high = let z : passing p 0 ≡ 0 = refl in absurd (omega (arith, low, high, z))
reached p n (suc most) low high =
    let s : suc most ≡ most + 1 = omega arith in
    elim (cases_lt (passing p most) n) [
      | inl l ↦ by_test (p (most + 1)) refl (sym (ap (passing p) s ∙ passing-more p most)) l
      | inr l ↦ let r = reached p n most low l in (r.0, record { low = r.1.low; high = omega (arith, r.1.high); passes = r.1.passes; so_many = r.1.so_many })
    ]
  where
    by_test : (b : Bool) → p (most + 1) ≡ b → passing p most + cond (p (most + 1)) 1 0 ≡ passing p (suc most) → passing p most < n → (x : ℕ) × IsReached p n (suc most) x
    by_test true e more l =
        let more2 : passing p most + 1 ≡ passing p (suc most) = ap (λ (c : Bool). passing p most + cond c 1 0) (sym e) ∙ more in
        let s : most + 1 ≡ suc most = omega arith in
        (most + 1, record { low = omega arith; high = omega arith; passes = e; so_many = ap (passing p) s ∙ omega (arith, more2, l, high) })
    by_test false e more l =
        let more2 : passing p most + 0 ≡ passing p (suc most) = ap (λ (c : Bool). passing p most + cond c 1 0) (sym e) ∙ more in
        absurd (omega (arith, more2, l, high))

module _ (space : List (List (List ℕ))) where
  is_vertex : (x : ℕ) → 1 ≤ x → x ≤ count space 0 → In x (vertices space)
  is_vertex x low high = In-upto (count space 0) x low high

  within : (x : ℕ) → In x (vertices space) → (1 ≤ component_of space x) × (component_of space x ≤ component_count space)
  within x m = (
    component_low space x m,
    passing-rises (is_least space) (least_of space x) (count space 0) (upto-In (count space 0) (least_of space x) (is_least_of space x m).vertex).1,
  )

  taken : (n : ℕ) → 1 ≤ n → n ≤ component_count space → (x : ℕ) × (1 ≤ x) × (x ≤ count space 0) × (component_of space x ≡ n)
  taken n low high =
      let r = reached (is_least space) n (count space 0) low high in
      (r.0, r.1.low, r.1.high, ap (leasts_upto space) (eqb-true (least_of space r.0) r.0 r.1.passes) ∙ r.1.so_many)

  least : (x : ℕ) → In x (vertices space) → IsLeastVertex space x (least_of space x)
  least x m =
      let w = is_least_of space x m in
      record {
        there = path_back (share_edge space) (vertices space) (shared space) (In-holds w.vertex) w.path;
        low = λ y p. omega (arith, path_least space x y m p, (is_least_of space y (holds-In (vertices space) (path_in (share_edge space) (vertices space) (In-holds m) p))).low);
      }

  ordered_up : (x y : ℕ) → In y (vertices space) → least_of space x < least_of space y → component_of space x < component_of space y
  ordered_up x y m l = passing-lt (is_least space) (least_of space x) (least_of space y) l (least_passes space y m)

  ordered_down : (x y : ℕ) → component_of space x < component_of space y → least_of space x < least_of space y
  ordered_down x y l =
      elim (cases_lt (least_of space x) (least_of space y)) [
        | inl q ↦ q
        | inr q ↦ absurd (let r : component_of space y ≤ component_of space x = passing-rises (is_least space) (least_of space y) (least_of space x) q in omega (arith, l, r))
      ]

pub components_are_numbered : ComponentsAreNumbered
components_are_numbered space =
    record {
      within = λ x low high. within space x (is_vertex space x low high);
      taken = taken space;
      least = λ x low high. least space x (is_vertex space x low high);
      ordered = λ x y low high low2 high2. (ordered_down space x y, ordered_up space x y (is_vertex space y low2 high2));
    }
