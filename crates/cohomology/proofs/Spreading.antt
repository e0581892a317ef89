-- Values put at the places of the rows that are not zero.
use Rattle.std.proofs.Common.{◌≡◌, ℕ, suc, ◌+◌, ◌<◌, List, [], ◌∷◌, ◌++◌, Bool, true, false, cond, length, length-append, take, replicate, set, get_or, append_assoc, refl, ap, sym, ◌∙◌, arith}
use Rattle.std.proofs.lemmas.List.{length-set, length-take-le, take_more}
use Rattle.std.proofs.Math.Seq.{set-append_seam}
use Rattle.small_field.specs.Field.{Ops, IsField}
use Rattle.linear_laws.specs.Echelon.{is_nonzero}
use Rattle.linear_laws.specs.Vectors.{combination, plus_scaled, IsMatrix, IsVector}
use Rattle.linear_laws.specs.ZeroRows.{nonzero_rows, places_from}
use Rattle.linear_laws.proofs.CallerLemmas.{combination-vector}
use Rattle.small_field.specs.Values.{AreElements}
use Rattle.small_field.proofs.CallerLemmas.{add_zero, zero_mul}

-- values at places, one after the other
abbrev pub put : (places xs old : List ℕ) → List ℕ
put [] xs old = old
put (p ∷ places) [] old = old
put (p ∷ places) (x ∷ xs) old = put places xs (set old p x)

pub put_long : (places xs old : List ℕ) → length (put places xs old) ≡ length old
put_long [] xs old = refl
put_long (p ∷ places) [] old = refl
put_long (p ∷ places) (x ∷ xs) old = put_long places xs (set old p x) ∙ length-set old p x

put_more : (places xs old : List ℕ) (p x : ℕ) → length places ≡ length xs → put (places ++ p ∷ []) (xs ++ x ∷ []) old ≡ set (put places xs old) p x
put_more [] [] old p x e = refl
put_more [] (y ∷ xs) old p x e = absurd (omega (arith, e))
put_more (q ∷ places) [] old p x e = absurd (omega (arith, e))
put_more (q ∷ places) (y ∷ xs) old p x e = put_more places xs (set old q y) p x (omega (arith, e))

-- one place more
pub put_step : (places xs old : List ℕ) (i : ℕ) → i < length places → i < length xs → set (put (take i places) (take i xs) old) (get_or places i 0) (get_or xs i 0) ≡ put (take (i + 1) places) (take (i + 1) xs) old
put_step places xs old i lp lx =
    let same : length (take i places) ≡ length (take i xs) = length-take-le i places (omega (arith, lp)) ∙ sym (length-take-le i xs (omega (arith, lx))) in
    sym (put_more (take i places) (take i xs) old (get_or places i 0) (get_or xs i 0) same)
    ∙ ap (λ ps. put ps (take i xs ++ get_or xs i 0 ∷ []) old) (sym (take_more places i 0 lp))
    ∙ ap (λ ys. put (take (i + 1) places) ys old) (sym (take_more xs i 0 lx))

-- a value for each row: the given ones for those that are not zero, in their order
abbrev pub widen : (rows : List (List ℕ)) → (xs : List ℕ) → List ℕ
widen [] xs = []
widen (w ∷ rows) [] = 0 ∷ widen rows []
widen (w ∷ rows) (x ∷ xs) = cond (is_nonzero w) (x ∷ widen rows xs) (0 ∷ widen rows (x ∷ xs))

-- put at the places of the rows that are not zero they are these
put_is : (rows : List (List ℕ)) (xs front : List ℕ) (p : ℕ) → p ≡ length front → length xs ≡ length (nonzero_rows rows) → put (places_from p rows) xs (front ++ replicate (length rows) 0) ≡ front ++ widen rows xs
put_is [] xs front p at e = refl
put_is (w ∷ rows) xs front p at e = by_test (λ zs f q a l. put_is rows zs f q a l) (is_nonzero w) refl xs e
  where
    next : (x : ℕ) → p + 1 ≡ length (front ++ x ∷ [])
    next x = omega (arith, at, length-append front (x ∷ []))

    none : (ys : List ℕ) → is_nonzero w ≡ false → 0 ∷ widen rows ys ≡ widen (w ∷ rows) ys
    none [] t = refl
    none (y ∷ ys) t = sym (ap (λ b. cond b (y ∷ widen rows ys) (0 ∷ widen rows (y ∷ ys))) t)

    by_test : ((zs f : List ℕ) (q : ℕ) → q ≡ length f → length zs ≡ length (nonzero_rows rows) → put (places_from q rows) zs (f ++ replicate (length rows) 0) ≡ f ++ widen rows zs) → (b : Bool) → is_nonzero w ≡ b → (ys : List ℕ) → length ys ≡ length (nonzero_rows (w ∷ rows)) → put (places_from p (w ∷ rows)) ys (front ++ 0 ∷ replicate (length rows) 0) ≡ front ++ widen (w ∷ rows) ys
    by_test more true t [] l = absurd (omega (arith, l, ap (λ b. length (cond b (w ∷ nonzero_rows rows) (nonzero_rows rows))) t))
    by_test more true t (y ∷ ys) l =
        let m : length (y ∷ ys) ≡ suc (length (nonzero_rows rows)) = l ∙ ap (λ b. length (cond b (w ∷ nonzero_rows rows) (nonzero_rows rows))) t in
        ap (λ b. put (cond b (p ∷ []) [] ++ places_from (p + 1) rows) (y ∷ ys) (front ++ 0 ∷ replicate (length rows) 0)) t
        ∙ ap (λ k. put (places_from (p + 1) rows) ys (set (front ++ 0 ∷ replicate (length rows) 0) k y)) at
        ∙ ap (put (places_from (p + 1) rows) ys) (set-append_seam front 0 (replicate (length rows) 0) y ∙ sym (append_assoc front (y ∷ []) (replicate (length rows) 0)))
        ∙ more ys (front ++ y ∷ []) (p + 1) (next y) (omega (arith, m))
        ∙ append_assoc front (y ∷ []) (widen rows ys)
        ∙ ap (λ zs. front ++ zs) (sym (ap (λ b. cond b (y ∷ widen rows ys) (0 ∷ widen rows (y ∷ ys))) t))
    by_test more false t ys l =
        let m : length ys ≡ length (nonzero_rows rows) = l ∙ ap (λ b. length (cond b (w ∷ nonzero_rows rows) (nonzero_rows rows))) t in
        ap (λ b. put (cond b (p ∷ []) [] ++ places_from (p + 1) rows) ys (front ++ 0 ∷ replicate (length rows) 0)) t
        ∙ ap (put (places_from (p + 1) rows) ys) (sym (append_assoc front (0 ∷ []) (replicate (length rows) 0)))
        ∙ more ys (front ++ 0 ∷ []) (p + 1) (next 0) m
        ∙ append_assoc front (0 ∷ []) (widen rows ys)
        ∙ ap (λ zs. front ++ zs) (none ys t)

pub put_widens : (rows : List (List ℕ)) (xs : List ℕ) → length xs ≡ length (nonzero_rows rows) → put (places_from 0 rows) xs (replicate (length rows) 0) ≡ widen rows xs
put_widens rows xs e = put_is rows xs [] 0 refl e

module _ (F : Ops) (L : IsField F) where
  zero_times : (xs ys : List ℕ) → length xs ≡ length ys → AreElements F xs → plus_scaled F 0 xs ys ≡ xs
  zero_times [] ys e h = refl
  zero_times (x ∷ xs) [] e h = absurd (omega (arith, e))
  zero_times (x ∷ xs) (y ∷ ys) e h =
      ap (λ k. k ∷ plus_scaled F 0 xs ys) (ap (F.add x) (zero_mul F L y) ∙ add_zero F L x h.0) ∙ ap (λ zs. x ∷ zs) (zero_times xs ys (omega (arith, e)) h.1)

  without_row : (n : ℕ) (cs w : List ℕ) (rows : List (List ℕ)) → IsVector F n w → IsMatrix F n rows → combination F n (0 ∷ cs) (w ∷ rows) ≡ combination F n cs rows
  without_row n cs w rows v m = let c : IsVector F n (combination F n cs rows) = combination-vector F L n cs rows m in zero_times (combination F n cs rows) w (c.long ∙ sym v.long) c.elements

  -- the combination of all rows by them is that of the rows that are not zero
  pub widened : (n : ℕ) (rows : List (List ℕ)) (xs : List ℕ) → IsMatrix F n rows → length xs ≡ length (nonzero_rows rows) → combination F n (widen rows xs) rows ≡ combination F n xs (nonzero_rows rows)
  widened n [] [] m e = refl
  widened n [] (x ∷ xs) m e = refl
  widened n (w ∷ rows) [] m e = without_row n (widen rows []) w rows m.0 m.1 ∙ widened n rows [] m.1 (none_left (is_nonzero w) e)
    where
      none_left : (b : Bool) → 0 ≡ length (cond b (w ∷ nonzero_rows rows) (nonzero_rows rows)) → 0 ≡ length (nonzero_rows rows)
      none_left true l = absurd (omega (arith, l))
      none_left false l = l
  widened n (w ∷ rows) (x ∷ xs) m e = by_test (is_nonzero w) e (widened n rows xs m.1) (widened n rows (x ∷ xs) m.1)
    where
      by_test : (b : Bool) → suc (length xs) ≡ length (cond b (w ∷ nonzero_rows rows) (nonzero_rows rows))
          → (length xs ≡ length (nonzero_rows rows) → combination F n (widen rows xs) rows ≡ combination F n xs (nonzero_rows rows))
          → (suc (length xs) ≡ length (nonzero_rows rows) → combination F n (widen rows (x ∷ xs)) rows ≡ combination F n (x ∷ xs) (nonzero_rows rows))
          → combination F n (cond b (x ∷ widen rows xs) (0 ∷ widen rows (x ∷ xs))) (w ∷ rows) ≡ combination F n (x ∷ xs) (cond b (w ∷ nonzero_rows rows) (nonzero_rows rows))
      by_test true l here more = ap (λ v. plus_scaled F x v w) (here (omega (arith, l)))
      by_test false l here more = without_row n (widen rows (x ∷ xs)) w rows m.0 m.1 ∙ more l
