-- The least vertices of components, and the numbers of components.
use Rattle.std.proofs.Common.{◌≡◌, ◌↔◌, inl, inr, ℕ, zero, suc, ◌+◌, ◌-◌, ◌<◌, ◌≤◌, List, [], ◌∷◌, Bool, true, false, cond, ◌&&◌, ◌||◌, filter, length, get_or, refl, ap, sym, ◌∙◌, subst, arith}
use Rattle.std.specs.List.{list_any}
use Rattle.std.specs.Cmp.{both_ways}
use Rattle.std.proofs.lemmas.Bool.{eq-eqb, cases_lt}
use Rattle.std.proofs.lemmas.List.{length-append}
use Rattle.std.proofs.lemmas.List.Elements.{filter-append}
use Rattle.std.proofs.lemmas.List.Kept.{IsStrictlyIncreasing-filter}
use Rattle.number_lists.specs.Words.{upto, holds}
use Rattle.face_poset.specs.Poset.{count, facets_of}
use Rattle.number_lists.proofs.CallerLemmas.{upto_more, increasing-upto, filter_same, In-filter, In-inside, filter-In, In-holds, at-In, In-at, reaches_is, In-upto, upto-In}
use Rattle.number_lists.specs.Reach.{Reaches, at_start, on}
use Rattle.regular_check.specs.Components.{vertices, share_edge, are_joined, least_of, is_least, leasts_upto, component_of, SameComponentIsAPath}
use Rattle.number_lists.specs.Members.{In}
use Rattle.regular_check.proofs.Walking.{low_least}

-- ---- paths

pub path_on : (step : ℕ → ℕ → Bool) (all : List ℕ) {x y z : ℕ} → Reaches step all x y → Reaches step all y z → Reaches step all x z
path_on step all p at_start = p
path_on step all p (on q e g) = on (path_on step all p q) e g

pub path_in : (step : ℕ → ℕ → Bool) (all : List ℕ) {x y : ℕ} → holds all x ≡ true → Reaches step all x y → holds all y ≡ true
path_in step all m at_start = m
path_in step all m (on q e g) = g

pub path_back : (step : ℕ → ℕ → Bool) (all : List ℕ) → ((a b : ℕ) → step a b ≡ step b a) → {x y : ℕ} → holds all x ≡ true → Reaches step all x y → Reaches step all y x
path_back step all s m at_start = at_start
path_back step all s m (on {y} {z} q e g) = path_on step all (on at_start (s z y ∙ e) (path_in step all m q)) (path_back step all s m q)

-- ---- how many numbers up to one pass a test

abbrev pub passing : (ℕ → Bool) → ℕ → ℕ
passing p n = length (filter p (upto n))

pub passing-more : (p : ℕ → Bool) (n : ℕ) → passing p (n + 1) ≡ passing p n + cond (p (n + 1)) 1 0
passing-more p n =
    ap (λ (xs : List ℕ). length (filter p xs)) (upto_more n)
    ∙ (ap length (filter-append p (upto n) ((n + 1) ∷ []))
    ∙ (length-append (filter p (upto n)) (filter p ((n + 1) ∷ []))
    ∙ ap (λ (k : ℕ). passing p n + k) (by_test (p (n + 1)))))
  where
    by_test : (b : Bool) → length (cond b ((n + 1) ∷ []) []) ≡ cond b 1 0
    by_test true = refl
    by_test false = refl

pub passing-le : (p : ℕ → Bool) (a d : ℕ) → passing p a ≤ passing p (a + d)
passing-le p a zero = let e : a + zero ≡ a = omega arith in subst (λ (n : ℕ). passing p a ≤ passing p n) (sym e) (omega arith)
passing-le p a (suc d) =
    let e : a + suc d ≡ a + d + 1 = omega arith in
    subst (λ (n : ℕ). passing p a ≤ passing p n) (sym e) (omega (arith, passing-le p a d, passing-more p (a + d)))

-- one that passes is counted beyond those below it
pub passing-lt : (p : ℕ → Bool) (a b : ℕ) → a < b → p b ≡ true → passing p a < passing p b
passing-lt p a b l e =
    let n : b ≡ b - 1 + 1 = omega arith in
    let below : passing p a ≤ passing p (b - 1) = let q : a + (b - 1 - a) ≡ b - 1 = omega arith in subst (λ (m : ℕ). passing p a ≤ passing p m) q (passing-le p a (b - 1 - a)) in
    let more : passing p (b - 1 + 1) ≡ passing p (b - 1) + 1 = passing-more p (b - 1) ∙ ap (λ (c : Bool). passing p (b - 1) + cond c 1 0) (ap p (sym n) ∙ e) in
    subst (λ (m : ℕ). passing p a < passing p m) (sym n) (omega (arith, below, more))

-- ---- the least vertex

module _ (space : List (List (List ℕ))) where
  pub shared : (a b : ℕ) → share_edge space a b ≡ share_edge space b a
  shared a b = same (upto (count space 1))
    where
      and_swap : (x y : Bool) → (x && y) ≡ (y && x)
      and_swap true true = refl
      and_swap true false = refl
      and_swap false true = refl
      and_swap false false = refl

      same : (es : List ℕ) → list_any (λ e. holds (facets_of space 1 e) a && holds (facets_of space 1 e) b) es ≡ list_any (λ e. holds (facets_of space 1 e) b && holds (facets_of space 1 e) a) es
      same [] = refl
      same (e ∷ es) = ap (λ (t : Bool). t || list_any (λ d. holds (facets_of space 1 d) a && holds (facets_of space 1 d) b) es) (and_swap (holds (facets_of space 1 e) a) (holds (facets_of space 1 e) b)) ∙ ap (λ (t : Bool). (holds (facets_of space 1 e) b && holds (facets_of space 1 e) a) || t) (same es)

  pub joined_path : (x y : ℕ) → In x (vertices space) → are_joined space x y ≡ true → Reaches (share_edge space) (vertices space) x y
  joined_path x y m e = (reaches_is (share_edge space) (vertices space) x y (In-holds m)).0 e

  pub path_joined : (x y : ℕ) → In x (vertices space) → Reaches (share_edge space) (vertices space) x y → are_joined space x y ≡ true
  path_joined x y m p = (reaches_is (share_edge space) (vertices space) x y (In-holds m)).1 p

  -- what is joined to one of two joined vertices is joined to the other
  joined_same : (x y z : ℕ) → In x (vertices space) → In z (vertices space) → Reaches (share_edge space) (vertices space) x y → are_joined space z x ≡ are_joined space z y
  joined_same x y z m n p =
      both_ways (are_joined space z x) (are_joined space z y)
      (λ e. path_joined z y n (path_on (share_edge space) (vertices space) (joined_path z x n e) p))
      (λ e. path_joined z x n (path_on (share_edge space) (vertices space) (joined_path z y n e) (path_back (share_edge space) (vertices space) shared (In-holds m) p)))

  pub path_least : (x y : ℕ) → In x (vertices space) → Reaches (share_edge space) (vertices space) x y → least_of space x ≡ least_of space y
  path_least x y m p =
      ap (λ (xs : List ℕ). get_or xs 0 0)
      (filter_same (λ z. are_joined space z x) (λ z. are_joined space z y) (vertices space) (λ k d l. joined_same x y (get_or (vertices space) k d) m (at-In (vertices space) k d l) p))

  -- the least vertex is a vertex, and a path leads from it
  pub record IsLeast (v least : ℕ) : Type 0 where
    pub vertex : In least (vertices space)
    pub path : Reaches (share_edge space) (vertices space) least v
    pub low : least ≤ v

  pub is_least_of : (v : ℕ) → In v (vertices space) → IsLeast v (least_of space v)
  is_least_of v m =
      let p : ℕ → Bool = λ x. are_joined space x v in
      let xs : List ℕ = filter (λ x. are_joined space x v) (vertices space) in
      let self : In v xs = In-filter p m (path_joined v v m at_start) in
      let a = In-at self in
      let first : In (get_or xs 0 0) xs = at-In xs 0 0 (omega (arith, a.1)) in
      let inside : In (get_or xs 0 0) (vertices space) = In-inside p (vertices space) first in
      record {
        vertex = inside;
        path = joined_path (get_or xs 0 0) v inside (filter-In p (vertices space) first);
        low = low_least xs v (IsStrictlyIncreasing-filter p (vertices space) (increasing-upto (count space 0))) self;
      }

  pub least_again : (v : ℕ) → In v (vertices space) → least_of space (least_of space v) ≡ least_of space v
  least_again v m = let w = is_least_of v m in path_least (least_of space v) v w.vertex w.path

  pub least_passes : (v : ℕ) → In v (vertices space) → is_least space (least_of space v) ≡ true
  least_passes v m = eq-eqb (least_of space (least_of space v)) (least_of space v) (least_again v m)

  pub same_least : (x y : ℕ) → In x (vertices space) → In y (vertices space) → least_of space x ≡ least_of space y → Reaches (share_edge space) (vertices space) x y
  same_least x y m n e =
      let a = is_least_of x m in
      let b = is_least_of y n in
      path_on (share_edge space) (vertices space) (path_back (share_edge space) (vertices space) shared (In-holds a.vertex) a.path) (subst (λ (l : ℕ). Reaches (share_edge space) (vertices space) l y) (sym e) b.path)

  -- of two least vertices the greater has the greater number
  number_least : (x y : ℕ) → In x (vertices space) → In y (vertices space) → component_of space x ≡ component_of space y → least_of space x ≡ least_of space y
  number_least x y m n e =
      elim (cases_lt (least_of space x) (least_of space y)) [
        | inl l ↦ absurd (let q : leasts_upto space (least_of space x) < leasts_upto space (least_of space y) = passing-lt (is_least space) (least_of space x) (least_of space y) l (least_passes y n) in omega (arith, q, e))
        | inr l ↦
            elim (cases_lt (least_of space y) (least_of space x)) [
              | inl k ↦ absurd (let q : leasts_upto space (least_of space y) < leasts_upto space (least_of space x) = passing-lt (is_least space) (least_of space y) (least_of space x) k (least_passes x m) in omega (arith, q, e))
              | inr k ↦ omega (arith, l, k)
            ]
      ]

  pub component_low : (v : ℕ) → In v (vertices space) → 1 ≤ component_of space v
  component_low v m =
      let w = upto-In (count space 0) (least_of space v) (is_least_of v m).vertex in
      let l : passing (is_least space) 0 < passing (is_least space) (least_of space v) = passing-lt (is_least space) 0 (least_of space v) (omega (arith, w.0)) (least_passes v m) in
      omega (arith, l)

  pub same_component : (x y : ℕ) → In x (vertices space) → In y (vertices space) → (component_of space x ≡ component_of space y) ↔ Reaches (share_edge space) (vertices space) x y
  same_component x y m n = (
    λ e. same_least x y m n (number_least x y m n e),
    λ p. ap (leasts_upto space) (path_least x y m p),
  )

pub same_component_is_a_path : SameComponentIsAPath
same_component_is_a_path space x y low high low2 high2 = same_component space x y (In-upto (count space 0) x low high) (In-upto (count space 0) y low2 high2)
