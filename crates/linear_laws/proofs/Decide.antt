use Rattle.std.proofs.Common.{◌≡◌, ◌≢◌, ℕ, zero, suc, ◌<◌, ◌⊎◌, inl, inr, List, [], ◌∷◌, ◌++◌, length, map, replicate, get_or, ap, sym, ◌∙◌, arith, subst}
use Rattle.std.specs.List.{AllByRecursion}
use Rattle.std.proofs.lemmas.List.{ext_get_or, nil_from_length}
use Rattle.std.proofs.lemmas.Simd.{length-replicate, get_or-replicate, get_or-zip2}
use Rattle.small_field.specs.Field.{Ops, IsField}
use Rattle.linear_laws.specs.Vectors.{dot, column, IsVector, IsMatrix, combination, IsIndependent, IsNonzero}
use Rattle.small_field.specs.Values.{AreElements}
use Rattle.linear_laws.proofs.Dot.{dot_below, dot_zeros, dot_added, dot_comm}
use Rattle.small_field.proofs.CallerLemmas.{add_zero, neg_unique, mul_neg, neg_neg, factor_zero}
use Rattle.linear_laws.proofs.Solve.{first, rest, find_pivot, Solution, reduced, first_unknown, rest_long, first_below, dot_first, reduced_matrix, lift_all, pivot_holds, replicate_below, unit_holds, columns, columns_matrix, at_column}
use Rattle.linear_laws.proofs.Span.{combination-vector}
use Rattle.linear_laws.proofs.Alls.{insert_all, remove_all}

-- only zero solves the equations
abbrev pub OnlyZero : Ops → ℕ → List (List ℕ) → Type 0
OnlyZero k m rows = (xs : List ℕ) → IsVector k m xs → AllByRecursion (λ r. dot k r xs ≡ 0) rows → xs ≡ replicate m 0

-- coefficients, not all zero, that give the zero vector
pub record IsRelated (k : Ops) (n : ℕ) (vs : List (List ℕ)) : Type 0 where
  pub coefficients : List ℕ
  pub vector : IsVector k (length vs) coefficients
  pub nonzero : IsNonzero coefficients
  pub zero : combination k n coefficients vs ≡ replicate n 0

module _ (k : Ops) (f : IsField k) where
  -- what holds of two rows holds of what is left of the second
  lower : (m : ℕ) (e r : List ℕ) (x : ℕ) (xs : List ℕ) → length e ≡ suc m → length r ≡ suc m → length xs ≡ m → AreElements k e → AreElements k r → first e ≢ 0 → dot k e (x ∷ xs) ≡ 0 → dot k r (x ∷ xs) ≡ 0 → dot k (reduced k e r) xs ≡ 0
  lower m e r x xs he hr hx els elr ne ze zr =
      let a : ℕ = first e in
      let c : ℕ = k.mul (first r) (k.inv a) in
      let E : ℕ = dot k (rest e) xs in
      let R : ℕ = dot k (rest r) xs in
      let eE : E ≡ k.neg (k.mul a x) = neg_unique k f (k.mul a x) E (dot_below k f (rest e) xs) (sym (dot_first k f e m x xs he) ∙ ze) in
      let one : k.mul (k.inv a) a ≡ 1 = f.mul_comm (k.inv a) a ∙ f.mul_inv a (first_below k f e els) ne in
      let cax : k.mul c (k.mul a x) ≡ k.mul (first r) x =
      f.mul_assoc (first r) (k.inv a) (k.mul a x)
      ∙ (ap (k.mul (first r)) (sym (f.mul_assoc (k.inv a) a x) ∙ ap (λ (n : ℕ). k.mul n x) one)
      ∙ (sym (f.mul_assoc (first r) 1 x) ∙ ap (λ (n : ℕ). k.mul n x) (f.mul_comm (first r) 1 ∙ f.one_mul (first r) (first_below k f r elr)))) in
      let turn : k.mul (k.neg c) (k.neg (k.mul a x)) ≡ k.mul (first r) x =
      mul_neg k f (k.neg c) (k.mul a x)
      ∙ (ap k.neg (f.mul_comm (k.neg c) (k.mul a x) ∙ (mul_neg k f (k.mul a x) c ∙ ap k.neg (f.mul_comm (k.mul a x) c)))
      ∙ (neg_neg k f (k.mul c (k.mul a x)) (f.mul_below c (k.mul a x)) ∙ cax)) in
      let sum : dot k (reduced k e r) xs ≡ k.add R (k.mul (k.neg c) E) =
      dot_added k f (k.neg c) (rest r) (rest e) xs (rest_long k f m r hr ∙ sym (rest_long k f m e he)) (rest_long k f m e he ∙ sym hx) in
      sum ∙ (ap (λ (n : ℕ). k.add R (k.mul (k.neg c) n)) eE ∙ (ap (k.add R) turn ∙ (f.add_comm R (k.mul (first r) x) ∙ (sym (dot_first k f r m x xs hr) ∙ zr))))

  lower_all : (m : ℕ) (e : List ℕ) (x : ℕ) (xs : List ℕ) → length e ≡ suc m → length xs ≡ m → AreElements k e → first e ≢ 0 → dot k e (x ∷ xs) ≡ 0 → (rows : List (List ℕ)) → IsMatrix k (suc m) rows → AllByRecursion (λ r. dot k r (x ∷ xs) ≡ 0) rows → AllByRecursion (λ r. dot k r xs ≡ 0) (map (reduced k e) rows)
  lower_all m e x xs he hx els ne ze [] a h = tt
  lower_all m e x xs he hx els ne ze (r ∷ rows) a h = (lower m e r x xs he a.0.long hx els a.0.elements ne ze h.0, lower_all m e x xs he hx els ne ze rows a.1 h.1)

  only_zero_up : (m : ℕ) (before after : List (List ℕ)) (e : List ℕ) → IsVector k (suc m) e → first e ≢ 0 → IsMatrix k (suc m) (before ++ after) → OnlyZero k m (map (reduced k e) (before ++ after)) → OnlyZero k (suc m) (before ++ e ∷ after)
  only_zero_up m before after e v ne a only [] w h = absurd (omega (arith, w.long))
  only_zero_up m before after e v ne a only (x ∷ ys) w h =
      let hy : length ys ≡ m = let l : length (x ∷ ys) ≡ suc m = w.long in omega arith in
      let t : (dot k e (x ∷ ys) ≡ 0) × AllByRecursion (λ r. dot k r (x ∷ ys) ≡ 0) (before ++ after) = remove_all (λ r. dot k r (x ∷ ys) ≡ 0) before after e h in
      let z : ys ≡ replicate m 0 = only ys (record { long = hy; elements = w.elements.1 }) (lower_all m e x ys v.long hy v.elements ne t.0 (before ++ after) a t.1) in
      let none : dot k (rest e) ys ≡ 0 = ap (dot k (rest e)) z ∙ dot_zeros k f (rest e) m in
      let prod : k.mul (first e) x ≡ 0 =
      sym (add_zero k f (k.mul (first e) x) (f.mul_below (first e) x)) ∙ (ap (k.add (k.mul (first e) x)) (sym none) ∙ (sym (dot_first k f e m x ys v.long) ∙ t.0)) in
      let x0 : x ≡ 0 = factor_zero k f (first e) x (first_below k f e v.elements) ne w.elements.0 prod in
      ap (λ (n : ℕ). n ∷ ys) x0 ∙ ap (λ (r : List ℕ). 0 ∷ r) z

  pub solve_or_zero : (m : ℕ) (rows : List (List ℕ)) → IsMatrix k m rows → Solution k m rows ⊎ OnlyZero k m rows
  solve_or_zero zero rows a = inr (λ xs v h. nil_from_length xs v.long)
  solve_or_zero (suc m) rows a =
      elim (find_pivot rows) [
        | inl none ↦
            inl (record {
              unknowns = 1 ∷ replicate m 0;
              vector = record { long = ap suc (length-replicate m 0); elements = (f.one_below, replicate_below k f m) };
              nonzero = (0, λ e. cc);
              solves = unit_holds k f m rows a none;
            })
        | inr p ↦
            let b : IsMatrix k (suc m) (p.before ++ p.row ∷ p.after) = subst (IsMatrix k (suc m)) p.split a in
            let parts : IsVector k (suc m) p.row × IsMatrix k (suc m) (p.before ++ p.after) = remove_all (IsVector k (suc m)) p.before p.after p.row b in
            elim (solve_or_zero m (map (reduced k p.row) (p.before ++ p.after)) (reduced_matrix k f m p.row parts.0.long (p.before ++ p.after) parts.1)) [
              | inl s ↦
                  let x : ℕ = first_unknown k p.row s.unknowns in
                  inl (record {
                    unknowns = x ∷ s.unknowns;
                    vector = record { long = ap suc s.vector.long; elements = (f.neg_below (k.mul (k.inv (first p.row)) (dot k (rest p.row) s.unknowns)), s.vector.elements) };
                    nonzero = (suc s.nonzero.0, s.nonzero.1);
                    solves =
                        subst (AllByRecursion (λ r. dot k r (x ∷ s.unknowns) ≡ 0)) (sym p.split)
                        (insert_all (λ r. dot k r (x ∷ s.unknowns) ≡ 0) p.before p.after p.row (pivot_holds k f m p.row s.unknowns parts.0.long parts.0.elements p.nonzero)
                        (lift_all k f m p.row s.unknowns parts.0.long s.vector.long (p.before ++ p.after) parts.1 s.solves));
                  })
              | inr only ↦ inr (subst (OnlyZero k (suc m)) (sym p.split) (only_zero_up m p.before p.after p.row parts.0 p.nonzero parts.1 only))
            ]
      ]

  -- coordinates of a combination
  pub entry_combination : (n j : ℕ) (cs : List ℕ) (rows : List (List ℕ)) → IsMatrix k n rows → j < n → get_or (combination k n cs rows) j 0 ≡ dot k cs (column j rows)
  entry_combination n j [] rows a lt = get_or-replicate n j 0 0 lt
  entry_combination n j (c ∷ cs) [] a lt = get_or-replicate n j 0 0 lt
  entry_combination n j (c ∷ cs) (r ∷ rows) a lt =
      let C : List ℕ = combination k n cs rows in
      let lc : length C ≡ n = (combination-vector k f n cs rows a.1).long in
      let lr : length r ≡ n = a.0.long in
      get_or-zip2 (λ x y. k.add x (k.mul c y)) C r j 0 0 0 (omega arith) (omega arith)
      ∙ (ap (λ (x : ℕ). k.add x (k.mul c (get_or r j 0))) (entry_combination n j cs rows a.1 lt) ∙ f.add_comm (dot k cs (column j rows)) (k.mul c (get_or r j 0)))

  pub zeros_of_dots : (n : ℕ) (cs : List ℕ) (rows : List (List ℕ)) → IsMatrix k n rows → ((j : ℕ) → j < n → dot k cs (column j rows) ≡ 0) → combination k n cs rows ≡ replicate n 0
  zeros_of_dots n cs rows a h =
      let l : length (combination k n cs rows) ≡ n = (combination-vector k f n cs rows a).long in
      ext_get_or 0 (combination k n cs rows) (replicate n 0) (l ∙ sym (length-replicate n 0))
      (λ j lt. let lj : j < n = omega arith in entry_combination n j cs rows a lj ∙ (h j lj ∙ sym (get_or-replicate n j 0 0 lj)))

  all_columns : (P : List ℕ → Type 0) (m : ℕ) (rows : List (List ℕ)) → ((j : ℕ) → j < m → P (column j rows)) → AllByRecursion P (columns k f m rows)
  all_columns P zero rows h = tt
  all_columns P (suc m) rows h = (h m (omega arith), all_columns P m rows (λ j lt. h j (omega arith)))

  pub decide : (n : ℕ) (vs : List (List ℕ)) → IsMatrix k n vs → IsIndependent k n vs ⊎ IsRelated k n vs
  decide n vs a =
      elim (solve_or_zero (length vs) (columns k f n vs) (columns_matrix k f n n vs a)) [
        | inl s ↦
            inr (record {
              coefficients = s.unknowns;
              vector = s.vector;
              nonzero = s.nonzero;
              zero = zeros_of_dots n s.unknowns vs a (λ j lt. dot_comm k f s.unknowns (column j vs) ∙ at_column k f (λ r. dot k r s.unknowns ≡ 0) n j vs lt s.solves);
            })
        | inr only ↦
            inl (λ cs v e. only cs v
            (all_columns (λ r. dot k r cs ≡ 0) n vs (λ j lt. dot_comm k f (column j vs) cs ∙ (sym (entry_combination n j cs vs a lt) ∙ (ap (λ (u : List ℕ). get_or u j 0) e ∙ get_or-replicate n j 0 0 lt)))))
      ]
