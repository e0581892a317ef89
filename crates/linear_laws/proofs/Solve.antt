use Rattle.std.proofs.Common.{◌≡◌, ◌≢◌, ℕ, zero, suc, ◌<◌, ◌⊎◌, inl, inr, List, [], ◌∷◌, ◌++◌, length, length-append, map, replicate, refl, ap, sym, ◌∙◌, arith, subst}
use Rattle.std.specs.List.{AllByRecursion}
use Rattle.std.proofs.lemmas.Grind.{common_steps}
use Rattle.std.proofs.lemmas.Simd.{length-zip2, length-replicate}
use native.Mathlib.Decide.{dec_lt}
use Prim.{yes, no}
use Rattle.small_field.specs.Lanes.{zip2}
use Rattle.small_field.specs.Field.{Ops, IsField}
use Rattle.linear_laws.specs.Vectors.{dot, column, IsVector, IsMatrix, IsNonzero, IsDependent}
use Rattle.small_field.specs.Values.{AreElements}
use Rattle.linear_laws.proofs.Dot.{dot_below, dot_zeros, dot_added, dot_comm}
use Rattle.small_field.proofs.CallerLemmas.{zero_below, zero_mul, mul_neg}
use Rattle.linear_laws.proofs.Alls.{insert_all, remove_all}
use Rattle.linear_laws.proofs.Span.{list_below}

abbrev pub first : List ℕ → ℕ
first [] = 0
first (x ∷ xs) = x

abbrev pub rest : List ℕ → List ℕ
rest [] = []
rest (x ∷ xs) = xs

pub length-column : (rows : List (List ℕ)) (j : ℕ) → length (column j rows) ≡ length rows
length-column [] j = refl
length-column (r ∷ rows) j = ap suc (length-column rows j)

pub record Pivot (rows : List (List ℕ)) : Type 0 where
  pub before : List (List ℕ)
  pub row : List ℕ
  pub after : List (List ℕ)
  pub split : rows ≡ before ++ row ∷ after
  pub nonzero : first row ≢ 0

pub find_pivot : (rows : List (List ℕ)) → AllByRecursion (λ r. first r ≡ 0) rows ⊎ Pivot rows
find_pivot [] = inl tt
find_pivot (r ∷ rows) =
    elim (dec_lt 0 (first r)) [
      | no m ↦ let z : first r ≡ 0 = omega arith in
          elim (find_pivot rows) [
            | inl all ↦ inl (z, all)
            | inr p ↦ inr (record { before = r ∷ p.before; row = p.row; after = p.after; split = ap (λ rs. r ∷ rs) p.split; nonzero = p.nonzero })
          ]
      | yes l ↦ let n : first r ≢ 0 = omega arith in inr (record { before = []; row = r; after = rows; split = refl; nonzero = n })
    ]

pub record Solution (k : Ops) (m : ℕ) (rows : List (List ℕ)) : Type 0 where
  pub unknowns : List ℕ
  pub vector : IsVector k m unknowns
  pub nonzero : IsNonzero unknowns
  pub solves : AllByRecursion (λ r. dot k r unknowns ≡ 0) rows

-- what is left of r when the first unknown is eliminated by e
abbrev pub reduced : Ops → List ℕ → List ℕ → List ℕ
reduced k e r = zip2 (λ x y. k.add x (k.mul (k.neg (k.mul (first r) (k.inv (first e)))) y)) (rest r) (rest e)

-- the first unknown, from the others
abbrev pub first_unknown : Ops → List ℕ → List ℕ → ℕ
first_unknown k e xs = k.neg (k.mul (k.inv (first e)) (dot k (rest e) xs))

module _ (k : Ops) (f : IsField k) where
  pub rest_long : (m : ℕ) (r : List ℕ) → length r ≡ suc m → length (rest r) ≡ m
  rest_long m [] h = absurd (omega arith)
  rest_long m (x ∷ xs) h = omega arith

  pub first_below : (r : List ℕ) → AreElements k r → first r < k.size
  first_below [] h = zero_below k f
  first_below (x ∷ xs) h = h.0

  pub zip2_below : (s : ℕ) (xs ys : List ℕ) → AreElements k (zip2 (λ x y. k.add x (k.mul s y)) xs ys)
  zip2_below s [] ys = tt
  zip2_below s (x ∷ xs) [] = tt
  zip2_below s (x ∷ xs) (y ∷ ys) = (f.add_below x (k.mul s y), zip2_below s xs ys)

  pub dot_first : (r : List ℕ) (m x : ℕ) (xs : List ℕ) → length r ≡ suc m → dot k r (x ∷ xs) ≡ k.add (k.mul (first r) x) (dot k (rest r) xs)
  dot_first [] m x xs h = absurd (omega arith)
  dot_first (y ∷ ys) m x xs h = refl

  pub reduced_vector : (m : ℕ) (e r : List ℕ) → length e ≡ suc m → length r ≡ suc m → IsVector k m (reduced k e r)
  reduced_vector m e r h i = record {
    long =
        length-zip2 (λ x y. k.add x (k.mul (k.neg (k.mul (first r) (k.inv (first e)))) y)) (rest r) (rest e) (rest_long m r i ∙ sym (rest_long m e h))
        ∙ rest_long m r i;
    elements = zip2_below (k.neg (k.mul (first r) (k.inv (first e)))) (rest r) (rest e);
  }

  pub reduced_matrix : (m : ℕ) (e : List ℕ) → length e ≡ suc m → (rows : List (List ℕ)) → IsMatrix k (suc m) rows → IsMatrix k m (map (reduced k e) rows)
  reduced_matrix m e h [] a = tt
  reduced_matrix m e h (r ∷ rows) a = (reduced_vector m e r h a.0.long, reduced_matrix m e h rows a.1)

  -- r holds at the first unknown and the others, where what is left of it holds at the others
  pub lift : (m : ℕ) (e r xs : List ℕ) → length e ≡ suc m → length r ≡ suc m → length xs ≡ m → dot k (reduced k e r) xs ≡ 0 → dot k r (first_unknown k e xs ∷ xs) ≡ 0
  lift m e r xs he hr hx z =
      let D : ℕ = dot k (rest e) xs in
      let c : ℕ = k.mul (first r) (k.inv (first e)) in
      let left : k.mul (first r) (first_unknown k e xs) ≡ k.neg (k.mul c D) =
      mul_neg k f (first r) (k.mul (k.inv (first e)) D) ∙ ap k.neg (sym (f.mul_assoc (first r) (k.inv (first e)) D)) in
      let right : k.mul (k.neg c) D ≡ k.neg (k.mul c D) =
      f.mul_comm (k.neg c) D ∙ (mul_neg k f D c ∙ ap k.neg (f.mul_comm D c)) in
      let sum : dot k (reduced k e r) xs ≡ k.add (dot k (rest r) xs) (k.mul (k.neg c) D) =
      dot_added k f (k.neg c) (rest r) (rest e) xs (rest_long m r hr ∙ sym (rest_long m e he)) (rest_long m e he ∙ sym hx) in
      dot_first r m (first_unknown k e xs) xs hr
      ∙ (ap (λ n. k.add n (dot k (rest r) xs)) (left ∙ sym right) ∙ (f.add_comm (k.mul (k.neg c) D) (dot k (rest r) xs) ∙ (sym sum ∙ z)))

  pub lift_all : (m : ℕ) (e xs : List ℕ) → length e ≡ suc m → length xs ≡ m → (rows : List (List ℕ)) → IsMatrix k (suc m) rows → AllByRecursion (λ r. dot k r xs ≡ 0) (map (reduced k e) rows) → AllByRecursion (λ r. dot k r (first_unknown k e xs ∷ xs) ≡ 0) rows
  lift_all m e xs he hx [] a h = tt
  lift_all m e xs he hx (r ∷ rows) a h = (lift m e r xs he a.0.long hx h.0, lift_all m e xs he hx rows a.1 h.1)

  -- the row itself
  pub pivot_holds : (m : ℕ) (e xs : List ℕ) → length e ≡ suc m → AreElements k e → first e ≢ 0 → dot k e (first_unknown k e xs ∷ xs) ≡ 0
  pivot_holds m e xs h els ne =
      let D : ℕ = dot k (rest e) xs in
      let one : k.mul (first e) (k.inv (first e)) ≡ 1 = f.mul_inv (first e) (first_below e els) ne in
      let back : k.mul (first e) (first_unknown k e xs) ≡ k.neg D =
      mul_neg k f (first e) (k.mul (k.inv (first e)) D)
      ∙ ap k.neg (sym (f.mul_assoc (first e) (k.inv (first e)) D) ∙ (ap (λ n. k.mul n D) one ∙ f.one_mul D (dot_below k f (rest e) xs))) in
      dot_first e m (first_unknown k e xs) xs h ∙ (ap (λ n. k.add n D) back ∙ (f.add_comm (k.neg D) D ∙ f.add_neg D))

  pub replicate_below : (n : ℕ) → AreElements k (replicate n 0)
  replicate_below zero = tt
  replicate_below (suc n) = (zero_below k f, replicate_below n)

  -- the first unknown alone, where no row has it
  pub unit_holds : (m : ℕ) (rows : List (List ℕ)) → IsMatrix k (suc m) rows → AllByRecursion (λ r. first r ≡ 0) rows → AllByRecursion (λ r. dot k r (1 ∷ replicate m 0) ≡ 0) rows
  unit_holds m [] a h = tt
  unit_holds m (r ∷ rows) a h = (
    dot_first r m 1 (replicate m 0) a.0.long
        ∙ (ap (λ n. k.add (k.mul n 1) (dot k (rest r) (replicate m 0))) h.0
        ∙ (ap (λ n. k.add n (dot k (rest r) (replicate m 0))) (zero_mul k f 1) ∙ (ap (λ n. k.add 0 n) (dot_zeros k f (rest r) m) ∙ f.zero_add 0 (zero_below k f)))),
    unit_holds m rows a.1 h.1,
  )

  solve : (m : ℕ) (rows : List (List ℕ)) → IsMatrix k m rows → length rows < m → Solution k m rows
  solve zero rows a lt = absurd (omega arith)
  solve (suc m) rows a lt =
      elim (find_pivot rows) [
        | inl none ↦
            record {
              unknowns = 1 ∷ replicate m 0;
              vector = record { long = ap suc (length-replicate m 0); elements = (f.one_below, replicate_below m) };
              nonzero = (0, λ e. cc);
              solves = unit_holds m rows a none;
            }
        | inr p ↦
            let b : IsMatrix k (suc m) (p.before ++ p.row ∷ p.after) = subst (IsMatrix k (suc m)) p.split a in
            let parts : IsVector k (suc m) p.row × IsMatrix k (suc m) (p.before ++ p.after) = remove_all (IsVector k (suc m)) p.before p.after p.row b in
            let few : length (map (reduced k p.row) (p.before ++ p.after)) < m = grind (arith, common_steps, ap length p.split, length-append p.before p.after, length-append p.before (p.row ∷ p.after)) in
            let s : Solution k m (map (reduced k p.row) (p.before ++ p.after)) =
            solve m (map (reduced k p.row) (p.before ++ p.after)) (reduced_matrix m p.row parts.0.long (p.before ++ p.after) parts.1) few in
            let x : ℕ = first_unknown k p.row s.unknowns in
            record {
              unknowns = x ∷ s.unknowns;
              vector = record { long = ap suc s.vector.long; elements = (f.neg_below (k.mul (k.inv (first p.row)) (dot k (rest p.row) s.unknowns)), s.vector.elements) };
              nonzero = (suc s.nonzero.0, s.nonzero.1);
              solves =
                  subst (AllByRecursion (λ r. dot k r (x ∷ s.unknowns) ≡ 0)) (sym p.split)
                  (insert_all (λ r. dot k r (x ∷ s.unknowns) ≡ 0) p.before p.after p.row (pivot_holds m p.row s.unknowns parts.0.long parts.0.elements p.nonzero)
                  (lift_all m p.row s.unknowns parts.0.long s.vector.long (p.before ++ p.after) parts.1 s.solves));
            }
      ]

  -- the columns of the rows
  abbrev pub columns : ℕ → List (List ℕ) → List (List ℕ)
  columns zero rows = []
  columns (suc n) rows = column n rows ∷ columns n rows

  pub column_below : (n j : ℕ) (rows : List (List ℕ)) → IsMatrix k n rows → AreElements k (column j rows)
  column_below n j [] a = tt
  column_below n j (r ∷ rows) a = (list_below k f r j a.0.elements, column_below n j rows a.1)

  pub columns_matrix : (n m : ℕ) (rows : List (List ℕ)) → IsMatrix k n rows → IsMatrix k (length rows) (columns m rows)
  columns_matrix n zero rows a = tt
  columns_matrix n (suc m) rows a = (record { long = length-column rows m; elements = column_below n m rows a }, columns_matrix n m rows a)

  pub columns_long : (m : ℕ) (rows : List (List ℕ)) → length (columns m rows) ≡ m
  columns_long zero rows = refl
  columns_long (suc m) rows = ap suc (columns_long m rows)

  pub at_column : (P : List ℕ → Type 0) (m j : ℕ) (rows : List (List ℕ)) → j < m → AllByRecursion P (columns m rows) → P (column j rows)
  at_column P zero j rows lt h = absurd (omega arith)
  at_column P (suc m) j rows lt h =
      elim (dec_lt j m) [
        | yes l ↦ at_column P m j rows l h.1
        | no n ↦ let e : m ≡ j = omega arith in subst (λ i. P (column i rows)) e h.0
      ]

  -- more than n vectors of n coordinates are dependent
  pub more_are_dependent : (n : ℕ) (rows : List (List ℕ)) → IsMatrix k n rows → n < length rows → IsDependent k n rows
  more_are_dependent n rows a lt =
      let s : Solution k (length rows) (columns n rows) = solve (length rows) (columns n rows) (columns_matrix n n rows a) (subst (λ i. i < length rows) (sym (columns_long n rows)) lt) in
      record {
        coefficients = s.unknowns;
        vector = s.vector;
        nonzero = s.nonzero;
        zero = λ j h. dot_comm k f s.unknowns (column j rows) ∙ at_column (λ r. dot k r s.unknowns ≡ 0) n j rows h s.solves;
      }
