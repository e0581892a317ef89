-- Columns by cells, and the rows that they are of.
use Rattle.std.proofs.Common.{◌≡◌, ◌≢◌, ℕ, zero, suc, ◌+◌, ◌-◌, ◌≤◌, ◌<◌, List, [], ◌∷◌, Bool, true, false, cond, ◌||◌, eqb, length, map, drop, replicate, get_or, set, refl, ap, sym, ◌∙◌, arith, subst}
use Rattle.std.specs.List.{range_with_len}
use Rattle.std.proofs.lemmas.Bool.{eq-eqb, ne_eqb}
use Rattle.std.proofs.lemmas.List.FromFn.{length-map-range_with_len, get_or-map-range_with_len}
use Rattle.small_field.specs.Field.{Ops, IsField}
use Rattle.linear_laws.specs.Vectors.{dot, column, entry, bump, IsVector, IsMatrix}
use Rattle.linear_laws.proofs.CallerLemmas.{dot_zeros, dot_comm, dot_bumped}
use Rattle.small_field.proofs.CallerLemmas.{zero_below, add_zero}
use Rattle.face_poset.specs.Words.{upto, holds}
use Rattle.number_lists.proofs.CallerLemmas.{set-map-upto, map_agree}
use Rattle.pair_stages.specs.Columns.{coefficient, row_from, rows_from, sum_on, IsColumn, AreColumns}

pub column_map : (g : ℕ → List ℕ) (j : ℕ) (xs : List ℕ) → column j (map g xs) ≡ map (λ a. get_or (g a) j 0) xs
column_map g j [] = refl
column_map g j (x ∷ xs) = ap (λ (r : List ℕ). get_or (g x) j 0 ∷ r) (column_map g j xs)

pub map_zeros : (a n : ℕ) → map {B = ℕ} (λ (x : ℕ). 0) (range_with_len a n) ≡ replicate n 0
map_zeros a zero = refl
map_zeros a (suc n) = ap (λ (r : List ℕ). 0 ∷ r) (map_zeros (a + 1) n)

module _ (F : Ops) where
  pub column_long : (below : ℕ) (cs vs : List ℕ) → IsColumn F below cs vs → length vs ≡ length cs
  column_long below [] [] h = refl
  column_long below [] (v ∷ vs) h = absurd h
  column_long below (c ∷ cs) [] h = absurd h
  column_long below (c ∷ cs) (v ∷ vs) h = ap suc (column_long below cs vs h.4)

  pub columns_long : (below : ℕ) (css vss : List (List ℕ)) → AreColumns F below css vss → length vss ≡ length css
  columns_long below [] [] h = refl
  columns_long below [] (v ∷ vs) h = absurd h
  columns_long below (c ∷ cs) [] h = absurd h
  columns_long below (c ∷ cs) (v ∷ vs) h = ap suc (columns_long below cs vs h.1)

  pub column_at : (below : ℕ) (css vss : List (List ℕ)) (j : ℕ) → AreColumns F below css vss → j < length css → IsColumn F below (get_or css j []) (get_or vss j [])
  column_at below [] vss j h lt = absurd (omega arith)
  column_at below (cs ∷ css) [] j h lt = absurd h
  column_at below (cs ∷ css) (vs ∷ vss) zero h lt = h.0
  column_at below (cs ∷ css) (vs ∷ vss) (suc j) h lt = column_at below css vss j h.1 (omega arith)

  row_from_at : (below : ℕ) (css vss : List (List ℕ)) (j a : ℕ) → AreColumns F below css vss → j < length css → get_or (row_from css vss a) j 0 ≡ coefficient (get_or css j []) (get_or vss j []) a
  row_from_at below [] vss j a h lt = absurd (omega arith)
  row_from_at below (cs ∷ css) [] j a h lt = absurd h
  row_from_at below (cs ∷ css) (vs ∷ vss) zero a h lt = refl
  row_from_at below (cs ∷ css) (vs ∷ vss) (suc j) a h lt = row_from_at below css vss j a h.1 (omega arith)

  pub column_is : (below : ℕ) (css vss : List (List ℕ)) (j : ℕ) → AreColumns F below css vss → j < length css → column j (rows_from below css vss) ≡ map (coefficient (get_or css j []) (get_or vss j [])) (upto below)
  column_is below css vss j h lt =
      column_map (row_from css vss) j (upto below) ∙ map_agree (λ a. get_or (row_from css vss a) j 0) (coefficient (get_or css j []) (get_or vss j [])) (upto below) (λ a. row_from_at below css vss j a h lt)

  pub entry_is : (below : ℕ) (css vss : List (List ℕ)) (i j : ℕ) → AreColumns F below css vss → i < below → j < length css → entry (rows_from below css vss) i j ≡ coefficient (get_or css j []) (get_or vss j []) (i + 1)
  entry_is below css vss i j h li lj =
      ap (λ (r : List ℕ). get_or r j 0) (get_or-map-range_with_len (row_from css vss) 1 below i (i + 1) [] li (omega arith)) ∙ row_from_at below css vss j (i + 1) h lj

  pub rows_long : (below : ℕ) (css vss : List (List ℕ)) → length (rows_from below css vss) ≡ below
  rows_long below css vss = length-map-range_with_len (row_from css vss) 1 below

  -- a cell that is not in a column
  coefficient_none : (cs vs : List ℕ) (c : ℕ) → holds cs c ≡ false → coefficient cs vs c ≡ 0
  coefficient_none [] vs c h = refl
  coefficient_none (d ∷ cs) [] c h = refl
  coefficient_none (d ∷ cs) (v ∷ vs) c h = none_of (eqb d c) h (coefficient_none cs vs c)
    where
      none_of : (b : Bool) → (b || holds cs c) ≡ false → (holds cs c ≡ false → coefficient cs vs c ≡ 0) → cond b v (coefficient cs vs c) ≡ 0
      none_of true e k = cc
      none_of false e k = k e

  module _ (L : IsField F) where
    pub coefficient_below : (below : ℕ) (cs vs : List ℕ) (c : ℕ) → IsColumn F below cs vs → coefficient cs vs c < F.size
    coefficient_below below [] vs c h = zero_below F L
    coefficient_below below (d ∷ cs) [] c h = zero_below F L
    coefficient_below below (d ∷ cs) (v ∷ vs) c h = cond_below (eqb d c) v (coefficient cs vs c) h.2 (coefficient_below below cs vs c h.4)
      where
        cond_below : (b : Bool) (x y : ℕ) → x < F.size → y < F.size → cond b x y < F.size
        cond_below true x y p q = p
        cond_below false x y p q = q

    pub sum_below : (cs vs y : List ℕ) → sum_on F cs vs y < F.size
    sum_below [] vs y = zero_below F L
    sum_below (c ∷ cs) [] y = zero_below F L
    sum_below (c ∷ cs) (v ∷ vs) y = L.add_below (F.mul v (get_or y (c - 1) 0)) (sum_on F cs vs y)

    -- a cell more in a column
    pub more : (n : ℕ) (c v : ℕ) (cs vs : List ℕ) → 1 ≤ c → c ≤ n → v < F.size → holds cs c ≡ false → bump F (map (coefficient cs vs) (upto n)) (c - 1) v ≡ map (coefficient (c ∷ cs) (v ∷ vs)) (upto n)
    more n c v cs vs low high lv fresh =
        let D : List ℕ = map (coefficient cs vs) (upto n) in
        let at : get_or D (c - 1) 0 ≡ 0 = get_or-map-range_with_len (coefficient cs vs) 1 n (c - 1) c 0 (omega arith) (omega arith) ∙ coefficient_none cs vs c fresh in
        ap (set D (c - 1)) (ap (λ (x : ℕ). F.add x v) at ∙ L.zero_add v lv)
        ∙ set-map-upto (coefficient cs vs) (coefficient (c ∷ cs) (v ∷ vs)) n c v low high (ap (λ (b : Bool). cond b v (coefficient cs vs c)) (eq-eqb c c refl))
        (λ f ne. sym (ap (λ (b : Bool). cond b v (coefficient cs vs f)) (ne_eqb c f (λ e. ne (sym e)))))

    pub dot_dense : (n : ℕ) (cs vs y : List ℕ) → IsColumn F n cs vs → length y ≡ n → dot F y (map (coefficient cs vs) (upto n)) ≡ sum_on F cs vs y
    dot_dense n [] [] y h l = ap (dot F y) (map_zeros 1 n) ∙ dot_zeros F L y n
    dot_dense n [] (v ∷ vs) y h l = absurd h
    dot_dense n (c ∷ cs) [] y h l = absurd h
    dot_dense n (c ∷ cs) (v ∷ vs) y h l =
        let D : List ℕ = map (coefficient cs vs) (upto n) in
        let lD : length D ≡ n = length-map-range_with_len (coefficient cs vs) 1 n in
        let at : c - 1 < length D = subst (λ (x : ℕ). c - 1 < x) (sym lD) (let low : 1 ≤ c = h.0 in let high : c ≤ n = h.1 in omega arith) in
        ap (dot F y) (sym (more n c v cs vs h.0 h.1 h.2 h.3))
        ∙ (dot_comm F L y (bump F D (c - 1) v)
        ∙ (dot_bumped F L D y (c - 1) v at (l ∙ sym lD)
        ∙ (ap (λ (x : ℕ). F.add x (F.mul v (get_or y (c - 1) 0))) (dot_comm F L D y ∙ dot_dense n cs vs y h.4 l)
        ∙ L.add_comm (sum_on F cs vs y) (F.mul v (get_or y (c - 1) 0)))))

    pub dot_column : (below : ℕ) (css vss : List (List ℕ)) (j : ℕ) (y : List ℕ) → AreColumns F below css vss → j < length css → length y ≡ below → dot F y (column j (rows_from below css vss)) ≡ sum_on F (get_or css j []) (get_or vss j []) y
    dot_column below css vss j y h lt l =
        ap (dot F y) (column_is below css vss j h lt) ∙ dot_dense below (get_or css j []) (get_or vss j []) y (column_at below css vss j h lt) l

    row_elements : (below : ℕ) (css vss : List (List ℕ)) (a : ℕ) → AreColumns F below css vss → IsVector F (length css) (row_from css vss a)
    row_elements below [] [] a h = record { long = refl; elements = tt }
    row_elements below [] (vs ∷ vss) a h = absurd h
    row_elements below (cs ∷ css) [] a h = absurd h
    row_elements below (cs ∷ css) (vs ∷ vss) a h =
        let r = row_elements below css vss a h.1 in
        record { long = ap suc r.long; elements = (coefficient_below below cs vs a h.0, r.elements) }

    map_matrix : (m : ℕ) (g : ℕ → List ℕ) → ((a : ℕ) → IsVector F m (g a)) → (xs : List ℕ) → IsMatrix F m (map g xs)
    map_matrix m g h [] = tt
    map_matrix m g h (x ∷ xs) = (h x, map_matrix m g h xs)

    pub rows_matrix : (below : ℕ) (css vss : List (List ℕ)) → AreColumns F below css vss → IsMatrix F (length css) (rows_from below css vss)
    rows_matrix below css vss h = map_matrix (length css) (row_from css vss) (λ a. row_elements below css vss a h) (upto below)

-- ---- one entry after the other

pub coefficient_step : (cs vs : List ℕ) (i cell : ℕ) → i < length cs → length vs ≡ length cs → coefficient (drop i cs) (drop i vs) cell ≡ cond (eqb (get_or cs i 0) cell) (get_or vs i 0) (coefficient (drop (suc i) cs) (drop (suc i) vs) cell)
coefficient_step [] vs i cell lt l = absurd (omega arith)
coefficient_step (c ∷ cs) [] i cell lt l = absurd (omega arith)
coefficient_step (c ∷ cs) (v ∷ vs) zero cell lt l = refl
coefficient_step (c ∷ cs) (v ∷ vs) (suc i) cell lt l = coefficient_step cs vs i cell (omega arith) (omega arith)

pub coefficient_more : (cs vs : List ℕ) (i cell : ℕ) → i < length cs → length vs ≡ length cs → get_or cs i 0 ≢ cell → coefficient (drop (i + 1) cs) (drop (i + 1) vs) cell ≡ coefficient (drop i cs) (drop i vs) cell
coefficient_more cs vs i cell lt l ne =
    ap (λ (j : ℕ). coefficient (drop j cs) (drop j vs) cell) (let e : i + 1 ≡ suc i = omega arith in e)
    ∙ sym (coefficient_step cs vs i cell lt l ∙ ap (λ (b : Bool). cond b (get_or vs i 0) (coefficient (drop (suc i) cs) (drop (suc i) vs) cell)) (ne_eqb (get_or cs i 0) cell ne))

pub coefficient_found : (cs vs : List ℕ) (i cell : ℕ) → i < length cs → length vs ≡ length cs → get_or cs i 0 ≡ cell → coefficient (drop i cs) (drop i vs) cell ≡ get_or vs i 0
coefficient_found cs vs i cell lt l e =
    coefficient_step cs vs i cell lt l ∙ ap (λ (b : Bool). cond b (get_or vs i 0) (coefficient (drop (suc i) cs) (drop (suc i) vs) cell)) (eq-eqb (get_or cs i 0) cell e)

pub sum_step : (F : Ops) (cs vs y : List ℕ) (i : ℕ) → i < length cs → length vs ≡ length cs → sum_on F (drop i cs) (drop i vs) y ≡ F.add (F.mul (get_or vs i 0) (get_or y (get_or cs i 0 - 1) 0)) (sum_on F (drop (suc i) cs) (drop (suc i) vs) y)
sum_step F [] vs y i lt l = absurd (omega arith)
sum_step F (c ∷ cs) [] y i lt l = absurd (omega arith)
sum_step F (c ∷ cs) (v ∷ vs) y zero lt l = refl
sum_step F (c ∷ cs) (v ∷ vs) y (suc i) lt l = sum_step F cs vs y i (omega arith) (omega arith)

pub sum_more : (F : Ops) (L : IsField F) (cs vs y : List ℕ) (i total now : ℕ) → i < length cs → length vs ≡ length cs → F.add total (sum_on F (drop i cs) (drop i vs) y) ≡ sum_on F cs vs y
    → now ≡ F.add total (F.mul (get_or vs i 0) (get_or y (get_or cs i 0 - 1) 0)) → F.add now (sum_on F (drop (i + 1) cs) (drop (i + 1) vs) y) ≡ sum_on F cs vs y
sum_more F L cs vs y i total now lt l h e =
    let p : ℕ = F.mul (get_or vs i 0) (get_or y (get_or cs i 0 - 1) 0) in
    let rest : ℕ = sum_on F (drop (suc i) cs) (drop (suc i) vs) y in
    ap (λ (j : ℕ). F.add now (sum_on F (drop j cs) (drop j vs) y)) (let g : i + 1 ≡ suc i = omega arith in g)
    ∙ (ap (λ (x : ℕ). F.add x rest) e ∙ (L.add_assoc total p rest ∙ (ap (F.add total) (sym (sum_step F cs vs y i lt l)) ∙ h)))

pub column_entry_is : (F : Ops) (below : ℕ) (cs vs : List ℕ) (i : ℕ) → IsColumn F below cs vs → i < length cs → (1 ≤ get_or cs i 0) × (get_or cs i 0 ≤ below) × (get_or vs i 0 < F.size)
column_entry_is F below [] vs i h lt = absurd (omega arith)
column_entry_is F below (c ∷ cs) [] i h lt = absurd h
column_entry_is F below (c ∷ cs) (v ∷ vs) zero h lt = (h.0, h.1, h.2)
column_entry_is F below (c ∷ cs) (v ∷ vs) (suc i) h lt = column_entry_is F below cs vs i h.4 (omega arith)

past_end : (xs : List ℕ) (i : ℕ) → length xs ≤ i → drop i xs ≡ []
past_end [] zero h = refl
past_end [] (suc i) h = refl
past_end (x ∷ xs) zero h = absurd (omega arith)
past_end (x ∷ xs) (suc i) h = past_end xs i (omega arith)

pub sum_end : (F : Ops) (L : IsField F) (cs vs y : List ℕ) (i total : ℕ) → length cs ≤ i → total < F.size → F.add total (sum_on F (drop i cs) (drop i vs) y) ≡ sum_on F cs vs y → total ≡ sum_on F cs vs y
sum_end F L cs vs y i total le lt h = sym (add_zero F L total lt) ∙ (ap (λ (d : List ℕ). F.add total (sum_on F d (drop i vs) y)) (sym (past_end cs i le)) ∙ h)
