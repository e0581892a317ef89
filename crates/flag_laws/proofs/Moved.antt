-- A basis of the cocycles modulo coboundaries in another order of the coordinates, with signs.
use Rattle.std.proofs.Common.{◌≡◌, ℕ, List, [], ◌∷◌, map, length, replicate, refl, ap, sym, ◌∙◌, subst}
use Rattle.std.specs.List.{AllByRecursion}
use Rattle.std.proofs.lemmas.List.{length-map}
use Rattle.small_field.specs.Field.{Ops, IsField}
use Rattle.linear_laws.specs.Vectors.{combination, plus_scaled, IsVector, IsMatrix, InSpan, IsInKernel}
use Rattle.linear_laws.specs.Betti.{IsCohomologyBasis}
use Rattle.linear_laws.proofs.CallerLemmas.{combination-vector}

module _ (F : Ops) (L : IsField F) where
  -- the same with the number of coordinates for itself
  pub record IsKernel (n m : ℕ) (next : List (List ℕ)) (x : List ℕ) : Type 0 where
    pub vector : IsVector F n x
    pub zero : combination F m x next ≡ replicate m 0

  pub record IsBasisOf (n m : ℕ) (last next zs : List (List ℕ)) : Type 0 where
    pub cocycles : AllByRecursion (IsKernel n m next) zs
    pub spans : (z : List ℕ) → IsKernel n m next z → (cs : List ℕ) × (b : List ℕ) × IsVector F (length zs) cs × InSpan F n last b × (z ≡ plus_scaled F 1 b (combination F n cs zs))
    pub unique : (cs : List ℕ) → IsVector F (length zs) cs → InSpan F n last (combination F n cs zs) → cs ≡ replicate (length zs) 0

  each-to : (P Q : List ℕ → Type 0) → ((x : List ℕ) → P x → Q x) → (xs : List (List ℕ)) → AllByRecursion P xs → AllByRecursion Q xs
  each-to P Q h [] a = tt
  each-to P Q h (x ∷ xs) a = (h x a.0, each-to P Q h xs a.1)

  pub basis-to : (n m : ℕ) (last next zs : List (List ℕ)) → length next ≡ n → IsCohomologyBasis F m last next zs → IsBasisOf n m last next zs
  basis-to n m last next zs e b =
      subst (λ (k : ℕ). IsBasisOf k m last next zs) e
      (record {
        cocycles = each-to (IsInKernel F m next) (IsKernel (length next) m next) (λ x h. record { vector = h.vector; zero = h.zero }) zs b.cocycles;
        spans = λ z h. b.spans z (record { vector = h.vector; zero = h.zero });
        unique = b.unique;
      })

  pub basis-from : (n m : ℕ) (last next zs : List (List ℕ)) → length next ≡ n → IsBasisOf n m last next zs → IsCohomologyBasis F m last next zs
  basis-from n m last next zs e b =
      let c : IsBasisOf (length next) m last next zs = subst (λ (k : ℕ). IsBasisOf k m last next zs) (sym e) b in
      record {
        cocycles = each-to (IsKernel (length next) m next) (IsInKernel F m next) (λ x h. record { vector = h.vector; zero = h.zero }) zs c.cocycles;
        spans = λ z h. c.spans z (record { vector = h.vector; zero = h.zero });
        unique = c.unique;
      }

  -- a change of coordinates, with what it does to combinations
  pub record IsChange (n : ℕ) (to from : List ℕ → List ℕ) : Type 0 where
    pub to_vector : (x : List ℕ) → IsVector F n (to x)
    pub from_vector : (x : List ℕ) → IsVector F n (from x)
    pub to_from : (x : List ℕ) → IsVector F n x → to (from x) ≡ x
    pub from_to : (x : List ℕ) → IsVector F n x → from (to x) ≡ x
    pub zeros : to (replicate n 0) ≡ replicate n 0
    pub plus : (s : ℕ) (u v : List ℕ) → length u ≡ n → length v ≡ n → to (plus_scaled F s u v) ≡ plus_scaled F s (to u) (to v)
    pub combined : (cs : List ℕ) (rows : List (List ℕ)) → IsMatrix F n rows → to (combination F n cs rows) ≡ combination F n cs (map to rows)

  -- spans that go with it
  pub record SpansMove (n : ℕ) (to from : List ℕ → List ℕ) (last moved : List (List ℕ)) : Type 0 where
    pub there : (b : List ℕ) → InSpan F n last b → InSpan F n moved (to b)
    pub back : (b : List ℕ) → InSpan F n moved b → InSpan F n last (from b)

  -- two changes that go with rows
  abbrev pub RowsMove : (n m : ℕ) → (to above : List ℕ → List ℕ) → (next moved : List (List ℕ)) → Type 0
  RowsMove n m to above next moved = (x : List ℕ) → IsVector F n x → above (combination F m x next) ≡ combination F m (to x) moved

  -- spans of rows that move
  pub spans-move : (n m : ℕ) (to from above below : List ℕ → List ℕ) (next moved : List (List ℕ)) → IsChange n to from → IsChange m above below → RowsMove n m to above next moved → IsMatrix F m next → length next ≡ n → length moved ≡ n
      → SpansMove m above below next moved
  spans-move n m to from above below next moved c d r matrix long also = record {
    there = λ b h. (
        let v : IsVector F n h.coefficients = subst (λ (k : ℕ). IsVector F k h.coefficients) long h.vector in
        record { coefficients = to h.coefficients; vector = subst (λ (k : ℕ). IsVector F k (to h.coefficients)) (sym also) (c.to_vector h.coefficients); is = sym (r h.coefficients v) ∙ ap above h.is });
    back = λ b h. (
        let v : IsVector F n h.coefficients = subst (λ (k : ℕ). IsVector F k h.coefficients) also h.vector in
        let x : List ℕ = from h.coefficients in
        let e : above (combination F m x next) ≡ b = r x (c.from_vector h.coefficients) ∙ (ap (λ (y : List ℕ). combination F m y moved) (c.to_from h.coefficients v) ∙ h.is) in
        record {
          coefficients = x;
          vector = subst (λ (k : ℕ). IsVector F k x) (sym long) (c.from_vector h.coefficients);
          is = sym (d.from_to (combination F m x next) (combination-vector F L m x next matrix)) ∙ ap below e;
        });
  }

  -- no rows span only zero
  none-is : (n : ℕ) (cs : List ℕ) → combination F n cs [] ≡ replicate n 0
  none-is n [] = refl
  none-is n (c ∷ cs) = refl

  pub no-spans-move : (n : ℕ) (to from : List ℕ → List ℕ) → IsChange n to from → SpansMove n to from [] []
  no-spans-move n to from c = record {
    there = λ b h. record { coefficients = []; vector = record { long = refl; elements = tt }; is = sym c.zeros ∙ ap to (sym (none-is n h.coefficients) ∙ h.is) };
    back = λ b h. record {
      coefficients = [];
      vector = record { long = refl; elements = tt };
      is = sym (c.from_to (replicate n 0) (combination-vector F L n [] [] tt)) ∙ ap from (c.zeros ∙ (sym (none-is n h.coefficients) ∙ h.is));
    };
  }

  module _ (n m : ℕ) (to from above below : List ℕ → List ℕ) (last next last_moved next_moved : List (List ℕ)) (c : IsChange n to from) (d : IsChange m above below) (s : SpansMove n to from last last_moved) (r : RowsMove n m to above next next_moved) (matrix : IsMatrix F m next) (from_matrix : IsMatrix F n last) where
    kernel-to : (x : List ℕ) → IsKernel n m next x → IsKernel n m next_moved (to x)
    kernel-to x h = record { vector = c.to_vector x; zero = sym (r x h.vector) ∙ (ap above h.zero ∙ d.zeros) }

    kernel-from : (x : List ℕ) → IsKernel n m next_moved x → IsKernel n m next (from x)
    kernel-from x h =
        let y : List ℕ = from x in
        let e : above (combination F m y next) ≡ above (replicate m 0) = r y (c.from_vector x) ∙ (ap (λ (z : List ℕ). combination F m z next_moved) (c.to_from x h.vector) ∙ (h.zero ∙ sym d.zeros)) in
        record {
          vector = c.from_vector x;
          zero = sym (d.from_to (combination F m y next) (combination-vector F L m y next matrix)) ∙ (ap below e ∙ d.from_to (replicate m 0) (combination-vector F L m [] next matrix));
        }

    all-moved : (zs : List (List ℕ)) → AllByRecursion (IsKernel n m next) zs → AllByRecursion (IsKernel n m next_moved) (map to zs)
    all-moved [] h = tt
    all-moved (z ∷ zs) h = (kernel-to z h.0, all-moved zs h.1)

    vectors : (zs : List (List ℕ)) → AllByRecursion (IsKernel n m next) zs → IsMatrix F n zs
    vectors zs h = each-to (IsKernel n m next) (IsVector F n) (λ x k. k.vector) zs h

    pub basis-moved : (zs : List (List ℕ)) → IsBasisOf n m last next zs → IsBasisOf n m last_moved next_moved (map to zs)
    basis-moved zs b =
        let rows : IsMatrix F n zs = vectors zs b.cocycles in
        let many : length (map to zs) ≡ length zs = length-map zs to in
        record {
          cocycles = all-moved zs b.cocycles;
          spans = λ z h. (
              let g = b.spans (from z) (kernel-from z h) in
              let span = g.3 in
              let sum : List ℕ = combination F n g.0 zs in (
                g.0,
                to g.1,
                subst (λ (k : ℕ). IsVector F k g.0) (sym many) g.2,
                s.there g.1 span,
                sym (c.to_from z h.vector)
                    ∙ (ap to g.4 ∙ (c.plus 1 g.1 sum (span-long g.1 span) (combination-vector F L n g.0 zs rows).long ∙ ap (λ (y : List ℕ). plus_scaled F 1 (to g.1) y) (c.combined g.0 zs rows))),
              ));
          unique = λ cs v h. (
              let w : IsVector F (length zs) cs = subst (λ (k : ℕ). IsVector F k cs) many v in
              let sum : List ℕ = combination F n cs zs in
              let e : combination F n cs (map to zs) ≡ to sum = sym (c.combined cs zs rows) in
              let back : InSpan F n last sum = subst (InSpan F n last) (c.from_to sum (combination-vector F L n cs zs rows)) (s.back (to sum) (subst (InSpan F n last_moved) e h)) in
              b.unique cs w back ∙ ap (λ (k : ℕ). replicate {A = ℕ} k 0) (sym many));
        }
      where
        span-long : (b : List ℕ) → InSpan F n last b → length b ≡ n
        span-long b h = ap (λ (y : List ℕ). length y) (sym h.is) ∙ (combination-vector F L n h.coefficients last from_matrix).long
