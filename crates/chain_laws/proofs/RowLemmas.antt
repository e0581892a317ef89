-- Coboundaries, boundaries and values of what has given entries, by the rows of the coboundaries.
use Rattle.std.proofs.Common.{◌≡◌, ℕ, zero, suc, ◌+◌, ◌<◌, ◌≤◌, List, [], ◌∷◌, ◌++◌, Bool, true, false, cond, eqb, map, length, replicate, refl, ap, sym, ◌∙◌, subst, arith}
use Rattle.std.proofs.lemmas.List.{length-map}
use Rattle.std.proofs.lemmas.Grind.{same_number_lists}
use Rattle.std.proofs.lemmas.List.Elements.{All-from_recursion}
use Rattle.std.proofs.lemmas.Simd.{map-map}
use Rattle.std.specs.List.{AllByRecursion}
use Rattle.std.proofs.lemmas.Slice.Eq.{bytes_eq-Decides}
use Rattle.face_poset.specs.Poset.{Layers}
use Rattle.small_field.specs.Field.{Ops, IsField}
use Rattle.small_field.specs.Sparse.{IsSparse}
use Rattle.small_field.specs.Values.{AreElements, entries_from}
use Rattle.small_field.proofs.CallerLemmas.{zero_below, neg_zero}
use Rattle.linear_laws.specs.Marks.{mark}
use Rattle.linear_laws.specs.Vectors.{combination, dot, IsVector, plus_scaled}
use Rattle.linear_laws.specs.Vectors.{boundary as boundary_by}
use Rattle.linear_laws.proofs.CallerLemmas.{adjoint, combination-vector, dot_comm, dot_mark, mark_vector}
use Rattle.order_complex.specs.Chains.{chains_of}
use Rattle.order_complex.specs.Cochains.{alternating, boundary_on, coboundary, coboundary_at, coboundary_on, leave_out, value}
use Rattle.order_complex.specs.Cochains.{mark as mark_of}
use Rattle.order_complex.specs.Homology.{IsCoboundary}
use Rattle.order_complex.specs.Laws.{CoboundaryIsAdjoint}
use Rattle.order_complex.specs.Ranks.{rows_on, rows_of, rows_into}
use Rattle.order_complex.proofs.CallerLemmas.{rows_on-matrix, length-rows_of}
use Rattle.chain_laws.specs.Lines.{AreEntries, chains_below, cochain_of, cochain_in}
use Rattle.chain_laws.specs.Laws.{ValuesFitEntries, ClassTestsAreClasses}
use Rattle.chain_laws.proofs.LineLemmas.{cochain-vector}

module _ (F : Ops) (L : IsField F) where
  -- vectors with the same products are the same
  same_products : (n : ℕ) (x y : List ℕ) → IsVector F n x → IsVector F n y → ((t : List ℕ) → IsVector F n t → dot F x t ≡ dot F y t) → x ≡ y
  same_products n x y v w h =
      same_number_lists x y (v.long ∙ sym w.long)
      (λ j l.
      let lj : j < n = omega (arith, v.long) in
      sym (dot_mark F L n j x v lj)
      ∙ dot_comm F L (mark n j) x
      ∙ h (mark n j) (mark_vector F L n j)
      ∙ dot_comm F L y (mark n j)
      ∙ dot_mark F L n j y w lj)

  alternating_below : (xs : List ℕ) → alternating F xs < F.size
  alternating_below [] = zero_below F L
  alternating_below (x ∷ xs) = L.add_below x (F.neg (alternating F xs))

  coboundary_elements : (chains : List (List ℕ)) (x : List ℕ) (next : List (List ℕ)) → AreElements F (coboundary_on F chains next x)
  coboundary_elements chains x [] = tt
  coboundary_elements chains x (c ∷ next) = (alternating_below (map (value chains x) (leave_out c)), coboundary_elements chains x next)

  coboundary_vector : (chains next : List (List ℕ)) (x : List ℕ) → IsVector F (length next) (coboundary_on F chains next x)
  coboundary_vector chains next x = record { long = length-map next (coboundary_at F chains x); elements = coboundary_elements chains x next }

  -- ---- entries

  Fits : ℕ → (ℕ × ℕ) → Type 0
  Fits end e = (1 ≤ e.0) × (e.0 < end) × (e.1 < F.size)

  fit_from : (n end : ℕ) (xs : List ℕ) → AreElements F xs → n + length xs ≡ end → 1 ≤ n → AllByRecursion (Fits end) (entries_from n xs)
  unfolding Fits
  fit_from n end [] a e l = tt
  fit_from n end (x ∷ xs) a e l = by_test (eqb x 0) (fit_from (n + 1) end xs a.1 (omega (arith, e)) (omega arith))
    where
      by_test : (b : Bool) → AllByRecursion (Fits end) (entries_from (n + 1) xs) → AllByRecursion (Fits end) (cond b [] ((n, x) ∷ []) ++ entries_from (n + 1) xs)
      by_test true h = h
      by_test false h = ((l, omega (arith, e), a.0), h)

  entries_of : (xs : List ℕ) → AreElements F xs → IsSparse (entries_from 1 xs) → AreEntries F (length xs) (entries_from 1 xs)
  unfolding Fits
  entries_of xs a s =
      let h : AllByRecursion (Fits (1 + length xs)) (entries_from 1 xs) = fit_from 1 (1 + length xs) xs a refl (omega arith) in
      record {
        sparse = s;
        numbers = λ k d l. let r = All-from_recursion (Fits (1 + length xs)) (entries_from 1 xs) h k d l in (r.0, omega (arith, r.1));
        elements = λ k d l. (All-from_recursion (Fits (1 + length xs)) (entries_from 1 xs) h k d l).2;
      }

  -- ---- boundaries

  boundary_rows : (chains next : List (List ℕ)) (c : List ℕ) → boundary_on F chains next c ≡ boundary_by F (rows_on F chains next) c
  boundary_rows chains next c = sym (map-map (λ r. dot F r c) (λ b. coboundary_on F chains next (mark_of chains b)) chains)

  pub boundary_of : (space : Layers) (degree : ℕ) (c : List ℕ) → boundary_on F (chains_below space degree) (chains_of space degree) c ≡ boundary_by F (rows_into F space degree) c
  boundary_of space zero c = refl
  boundary_of space (suc degree) c = boundary_rows (chains_of space degree) (chains_of space (suc degree)) c

  module _ (A : CoboundaryIsAdjoint F) (space : Layers) where
    -- the coboundary of a cochain is the combination of the rows
    pub coboundary_rows : (degree : ℕ) (x : List ℕ) → IsVector F (length (chains_of space degree)) x → coboundary F space degree x ≡ combination F (length (chains_of space (suc degree))) x (rows_of F space degree)
    coboundary_rows degree x v =
        let n : ℕ = length (chains_of space (suc degree)) in
        let rows : List (List ℕ) = rows_of F space degree in
        let matrix = rows_on-matrix F L (chains_of space degree) (chains_of space (suc degree)) in
        same_products n (coboundary F space degree x) (combination F n x rows) (coboundary_vector (chains_of space degree) (chains_of space (suc degree)) x) (combination-vector F L n x rows matrix)
        (λ t w.
        A space degree x t v w
        ∙ ap (dot F x) (boundary_rows (chains_of space degree) (chains_of space (suc degree)) t)
        ∙ sym (adjoint F L n x t rows matrix (v.long ∙ sym (length-rows_of F L space degree)) w.long))

  -- ---- degree 0

  zero_value : (c : List ℕ) → value [] [] c ≡ 0
  zero_value c = refl

  no_sum : (ts : List (List ℕ)) → alternating F (map (value [] []) ts) ≡ 0
  no_sum [] = refl
  no_sum (t ∷ ts) = ap (λ y. F.add 0 (F.neg y)) (no_sum ts) ∙ ap (F.add 0) (neg_zero F L) ∙ L.zero_add 0 (zero_below F L)

  no_coboundary : (next : List (List ℕ)) → coboundary_on F [] next [] ≡ replicate (length next) 0
  no_coboundary [] = refl
  no_coboundary (c ∷ next) = ap (λ y. y ∷ coboundary_on F [] next []) (no_sum (leave_out c)) ∙ ap (λ ys. 0 ∷ ys) (no_coboundary next)

  module _ (A : CoboundaryIsAdjoint F) where
    coboundary_into : (space : Layers) (degree : ℕ) (entries : List (ℕ × ℕ)) → AreEntries F (length (chains_below space degree)) entries
        → coboundary_on F (chains_below space degree) (chains_of space degree) (cochain_of (length (chains_below space degree)) entries)
        ≡ combination F (length (chains_of space degree)) (cochain_of (length (chains_below space degree)) entries) (rows_into F space degree)
    coboundary_into space zero entries h = no_coboundary (chains_of space 0)
    coboundary_into space (suc degree) entries h = coboundary_rows A space degree (cochain_in space degree entries) (cochain-vector F L (length (chains_of space degree)) entries h)

    pub values_fit_entries : ValuesFitEntries F
    values_fit_entries = record {
      entries_of = entries_of;
      coboundary_by = λ space degree x v. coboundary_rows A space degree x v;
      coboundary_of = λ space degree entries h. coboundary_rows A space degree (cochain_in space degree entries) (cochain-vector F L (length (chains_of space degree)) entries h);
      coboundary_into = coboundary_into;
      boundary_of = boundary_of;
      value_of = λ count x entries l. ap (λ n. dot F x (cochain_of n entries)) l;
    }

  -- ---- classes

  is_coboundary : (space : Layers) (degree : ℕ) (bound : List (ℕ × ℕ)) → AreEntries F (length (chains_below space degree)) bound
      → IsCoboundary F space degree (coboundary_on F (chains_below space degree) (chains_of space degree) (cochain_of (length (chains_below space degree)) bound))
  is_coboundary space zero bound h = no_coboundary (chains_of space 0)
  is_coboundary space (suc degree) bound h = (cochain_in space degree bound, cochain-vector F L (length (chains_of space degree)) bound h, refl)

  pub class_tests_are_classes : ClassTestsAreClasses F
  class_tests_are_classes space degree lefts coefficients bound x hc hb t =
      let n : ℕ = length (chains_of space degree) in
      let zs : List (List ℕ) = map (cochain_of n) lefts in
      let cs : List ℕ = cochain_of (length lefts) coefficients in
      let d : List ℕ = coboundary_on F (chains_below space degree) (chains_of space degree) (cochain_of (length (chains_below space degree)) bound) in
      record {
        elements = subst (λ k. IsVector F k cs) (sym (length-map lefts (cochain_of n))) (cochain-vector F L (length lefts) coefficients hc);
        rest = d;
        coboundary = is_coboundary space degree bound hb;
        is_sum = (bytes_eq-Decides x (plus_scaled F 1 d (combination F n cs zs))).0 t;
      }
