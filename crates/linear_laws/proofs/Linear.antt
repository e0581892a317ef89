use Rattle.std.proofs.Common.{◌≡◌, ℕ, List, [], ◌∷◌, length, map, ap, ◌∙◌, arith}
use Rattle.small_field.specs.Field.{Ops, IsField}
use Rattle.linear_laws.specs.Vectors.{dot, IsMatrix, combination}
use Rattle.linear_laws.specs.Linear.{IsLinear}
use Rattle.linear_laws.proofs.Span.{combination-vector}

module _ (k : Ops) (f : IsField k) where
  -- a linear function of a combination
  pub functional_of_combination : (n : ℕ) (g : List ℕ → ℕ) (cs : List ℕ) (rows : List (List ℕ)) → IsLinear k n g → IsMatrix k n rows → length cs ≡ length rows → g (combination k n cs rows) ≡ dot k cs (map g rows)
  functional_of_combination n g [] rows l a same = l.zero
  functional_of_combination n g (c ∷ cs) [] l a same = l.zero
  functional_of_combination n g (c ∷ cs) (r ∷ rows) l a same =
      l.plus c (combination k n cs rows) r (combination-vector k f n cs rows a.1) a.0
      ∙ (ap (λ (x : ℕ). k.add x (k.mul c (g r))) (functional_of_combination n g cs rows l a.1 (omega arith)) ∙ f.add_comm (dot k cs (map g rows)) (k.mul c (g r)))
