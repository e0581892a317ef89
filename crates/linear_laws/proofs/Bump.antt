use Rattle.std.proofs.Common.{◌≡◌, ℕ, zero, suc, ◌<◌, List, [], ◌∷◌, length, get_or, refl, ap, sym, ◌∙◌, arith}
use Rattle.small_field.specs.Field.{Ops, IsField}
use Rattle.linear_laws.specs.Vectors.{dot, column, entry, bump}
use Rattle.small_field.proofs.CallerLemmas.{add_mul}

pub column_entry : (rows : List (List ℕ)) (j i : ℕ) → i < length rows → get_or (column j rows) i 0 ≡ entry rows i j
column_entry [] j i lt = absurd (omega arith)
column_entry (r ∷ rows) j zero lt = refl
column_entry (r ∷ rows) j (suc i) lt = column_entry rows j i (omega arith)

module _ (k : Ops) (f : IsField k) where
  -- something added at one place
  pub dot_bumped : (y col : List ℕ) (i c : ℕ) → i < length y → length col ≡ length y → dot k (bump k y i c) col ≡ k.add (dot k y col) (k.mul c (get_or col i 0))
  dot_bumped [] col i c lt l = absurd (omega arith)
  dot_bumped (y ∷ ys) [] i c lt l = absurd (omega arith)
  dot_bumped (y ∷ ys) (z ∷ zs) zero c lt l =
      let D : ℕ = dot k ys zs in
      ap (λ (n : ℕ). k.add n D) (add_mul k f y c z)
      ∙ (f.add_assoc (k.mul y z) (k.mul c z) D ∙ (ap (k.add (k.mul y z)) (f.add_comm (k.mul c z) D) ∙ sym (f.add_assoc (k.mul y z) D (k.mul c z))))
  dot_bumped (y ∷ ys) (z ∷ zs) (suc i) c lt l =
      ap (k.add (k.mul y z)) (dot_bumped ys zs i c (omega arith) (omega arith)) ∙ sym (f.add_assoc (k.mul y z) (dot k ys zs) (k.mul c (get_or zs i 0)))
