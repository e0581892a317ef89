-- The coboundary of a signed set by its columns.
use Rattle.std.proofs.Common.{◌≡◌, ℕ, suc, ◌+◌, ◌-◌, ◌≤◌, ◌<◌, List, [], ◌∷◌, ◌++◌, Bool, true, false, cond, ◌||◌, eqb, length, map, take, get_or, refl, ap, sym, ◌∙◌, arith, subst, All}
use Rattle.std.proofs.lemmas.Bool.{eqb-true}
use Rattle.std.proofs.lemmas.List.{take_more, length-take-le, length-map}
use Rattle.std.proofs.lemmas.List.FromFn.{map-range_with_len_more, get_or-range_with_len, length-range_with_len}
use Rattle.small_field.specs.Field.{Ops, IsField}
use Rattle.face_poset.specs.Words.{upto, holds}
use Rattle.face_poset.specs.Poset.{Layers, count, facets_of, IsSpace, IsCell}
use Rattle.number_lists.proofs.CallerLemmas.{increasing_head, increasing_tail, holds-none, map_agree}
use Rattle.std.specs.List.Sorted.{IsStrictlyIncreasing}
use Rattle.split_laws.specs.declared.kind.Kind.{Kind}
use Rattle.split_laws.specs.declared.kind.Kind.TheVariants.{Critical, Lower, Upper}
use Rattle.pair_stages.specs.Stages.{critical_from}
use Rattle.pair_stages.specs.Columns.{coefficient, row_from, rows_from, IsColumn, AreColumns}
use Rattle.pair_stages.specs.Signed.{sign_element, signed_entry, signed_rows}

-- one more
pub map_more : {X : Type 0} (f : ℕ → X) (i : ℕ) (xs now : List X) (y : X) → xs ≡ map f (upto i) → now ≡ xs ++ y ∷ [] → y ≡ f (i + 1) → now ≡ map f (upto (i + 1))
map_more {X} f i xs now y h e g =
    e ∙ (ap (λ (z : List X). z ++ y ∷ []) h ∙ (ap (λ (z : X). map f (upto i) ++ z ∷ []) g ∙ sym (map-range_with_len_more f 1 i (i + 1) (let k : 1 + i ≡ i + 1 = omega arith in k))))

-- the coefficient of a cell where each cell has its own
coefficient_map : (h : ℕ → ℕ) (fs : List ℕ) (a : ℕ) → coefficient fs (map h fs) a ≡ cond (holds fs a) (h a) 0
coefficient_map h [] a = refl
coefficient_map h (f ∷ fs) a = by_cases (eqb f a) refl (coefficient_map h fs a)
  where
    by_cases : (b : Bool) → eqb f a ≡ b → coefficient fs (map h fs) a ≡ cond (holds fs a) (h a) 0 → cond (eqb f a) (h f) (coefficient fs (map h fs) a) ≡ cond (eqb f a || holds fs a) (h a) 0
    by_cases true e r =
        ap (λ (c : Bool). cond c (h f) (coefficient fs (map h fs) a)) e ∙ (ap h (eqb-true f a e) ∙ sym (ap (λ (c : Bool). cond (c || holds fs a) (h a) 0) e))
    by_cases false e r =
        ap (λ (c : Bool). cond c (h f) (coefficient fs (map h fs) a)) e ∙ (r ∙ sym (ap (λ (c : Bool). cond (c || holds fs a) (h a) 0) e))

-- the columns of lists of cells with a number for each
row_map : (fac : ℕ → List ℕ) (h : ℕ → ℕ → ℕ) (a : ℕ) (xs : List ℕ) → row_from (map fac xs) (map (λ b. map (h b) (fac b)) xs) a ≡ map (λ b. cond (holds (fac b) a) (h b a) 0) xs
row_map fac h a [] = refl
row_map fac h a (b ∷ xs) =
    ap (λ (y : ℕ). y ∷ row_from (map fac xs) (map (λ c. map (h c) (fac c)) xs) a) (coefficient_map (h b) (fac b) a) ∙ ap (λ (r : List ℕ). cond (holds (fac b) a) (h b a) 0 ∷ r) (row_map fac h a xs)

module _ (F : Ops) (L : IsField F) where
  pub sign_below : (b : Bool) → sign_element F b < F.size
  sign_below true = L.neg_below 1
  sign_below false = L.one_below

  pub column_from : (n : ℕ) (h : ℕ → ℕ) → ((f : ℕ) → h f < F.size) → (fs : List ℕ) → IsStrictlyIncreasing fs → All (λ f. (1 ≤ f) × (f ≤ n)) fs → IsColumn F n fs (map h fs)
  column_from n h small [] r w = tt
  column_from n h small (f ∷ fs) r w =
      let first = w 0 0 (omega arith) in (
        first.0,
        first.1,
        small f,
        holds-none fs f (λ k d lt e. let g : f < get_or fs k d = increasing_head f fs r k d lt in omega arith),
        column_from n h small fs (increasing_tail f fs r) (λ k d lt. w (suc k) d (omega arith)),
      )

  columns_from : (n : ℕ) (fac : ℕ → List ℕ) (h : ℕ → ℕ → ℕ) (xs : List ℕ) → ((k : ℕ) → k < length xs → IsColumn F n (fac (get_or xs k 0)) (map (h (get_or xs k 0)) (fac (get_or xs k 0)))) → AreColumns F n (map fac xs) (map (λ b. map (h b) (fac b)) xs)
  columns_from n fac h [] k = tt
  columns_from n fac h (x ∷ xs) k = (k 0 (omega arith), columns_from n fac h xs (λ i lt. k (suc i) (omega arith)))

  module _ (space : Layers) (negative : ℕ → ℕ → ℕ → Bool) (dim : ℕ) where
    pub rows_signed : rows_from (count space dim) (map (facets_of space (dim + 1)) (upto (count space (dim + 1)))) (map (λ cell. map (λ facet. sign_element F (negative (dim + 1) cell facet)) (facets_of space (dim + 1) cell)) (upto (count space (dim + 1)))) ≡ signed_rows F space negative dim
    rows_signed =
        map_agree (row_from (map (facets_of space (dim + 1)) (upto (count space (dim + 1)))) (map (λ cell. map (λ facet. sign_element F (negative (dim + 1) cell facet)) (facets_of space (dim + 1) cell)) (upto (count space (dim + 1)))))
        (λ lower. map (signed_entry F space negative dim lower) (upto (count space (dim + 1)))) (upto (count space dim))
        (λ a. row_map (facets_of space (dim + 1)) (λ cell facet. sign_element F (negative (dim + 1) cell facet)) a (upto (count space (dim + 1))))

    pub facet_cell : IsSpace space → (b : ℕ) → 1 ≤ b → b ≤ count space (dim + 1) → IsCell (count space dim) (facets_of space (dim + 1) b)
    facet_cell s b low high = subst (λ (k : ℕ). IsCell (count space k) (facets_of space (dim + 1) b)) (let e : dim + 1 - 1 ≡ dim = omega arith in e) (s.cells (dim + 1) (omega arith) (b - 1) [] (omega arith))

    pub columns_signed : IsSpace space → AreColumns F (count space dim) (map (facets_of space (dim + 1)) (upto (count space (dim + 1)))) (map (λ cell. map (λ facet. sign_element F (negative (dim + 1) cell facet)) (facets_of space (dim + 1) cell)) (upto (count space (dim + 1))))
    columns_signed s =
        columns_from (count space dim) (facets_of space (dim + 1)) (λ cell facet. sign_element F (negative (dim + 1) cell facet)) (upto (count space (dim + 1)))
        (λ k lt.
        let m : ℕ = count space (dim + 1) in
        let lk : k < m = subst (λ (x : ℕ). k < x) (length-range_with_len 1 m) lt in
        let b : ℕ = get_or (upto m) k 0 in
        let e : b ≡ 1 + k = get_or-range_with_len 1 m k 0 lk in
        let c : IsCell (count space dim) (facets_of space (dim + 1) b) = facet_cell s b (omega arith) (omega arith) in
        column_from (count space dim) (λ facet. sign_element F (negative (dim + 1) b facet)) (λ f. sign_below (negative (dim + 1) b f)) (facets_of space (dim + 1) b) c.rises c.within)

    -- with what was listed
    pub columns_final : (below m : ℕ) (cells values : List (List ℕ)) → IsSpace space → below ≡ count space dim → m ≡ count space (dim + 1) → cells ≡ map (facets_of space (dim + 1)) (upto m)
        → values ≡ map (λ cell. map (λ facet. sign_element F (negative (dim + 1) cell facet)) (facets_of space (dim + 1) cell)) (upto m) → AreColumns F below cells values
    columns_final below m cells values s b e p q =
        subst (λ (n : ℕ). AreColumns F n cells values) (sym b)
        (subst (λ (x : List (List ℕ)). AreColumns F (count space dim) x values) (sym (p ∙ ap (λ (n : ℕ). map (facets_of space (dim + 1)) (upto n)) e))
        (subst (λ (x : List (List ℕ)). AreColumns F (count space dim) (map (facets_of space (dim + 1)) (upto (count space (dim + 1)))) x)
        (sym (q ∙ ap (λ (n : ℕ). map (λ cell. map (λ facet. sign_element F (negative (dim + 1) cell facet)) (facets_of space (dim + 1) cell)) (upto n)) e))
        (columns_signed s)))

    pub rows_final : (below m : ℕ) (cells values : List (List ℕ)) → below ≡ count space dim → m ≡ count space (dim + 1) → cells ≡ map (facets_of space (dim + 1)) (upto m)
        → values ≡ map (λ cell. map (λ facet. sign_element F (negative (dim + 1) cell facet)) (facets_of space (dim + 1) cell)) (upto m) → rows_from below cells values ≡ signed_rows F space negative dim
    rows_final below m cells values b e p q =
        ap (λ (n : ℕ). rows_from n cells values) b
        ∙ (ap (λ (x : List (List ℕ)). rows_from (count space dim) x values) (p ∙ ap (λ (n : ℕ). map (facets_of space (dim + 1)) (upto n)) e)
        ∙ (ap (λ (x : List (List ℕ)). rows_from (count space dim) (map (facets_of space (dim + 1)) (upto (count space (dim + 1)))) x)
        (q ∙ ap (λ (n : ℕ). map (λ cell. map (λ facet. sign_element F (negative (dim + 1) cell facet)) (facets_of space (dim + 1) cell)) (upto n)) e)
        ∙ rows_signed))

pub cols_final : (space : Layers) (dim m : ℕ) (cells : List (List ℕ)) → m ≡ count space (dim + 1) → cells ≡ map (facets_of space (dim + 1)) (upto m) → length cells ≡ count space (dim + 1)
cols_final space dim m cells e p = ap (λ (x : List (List ℕ)). length x) p ∙ (length-map (upto m) (facets_of space (dim + 1)) ∙ (length-range_with_len 1 m ∙ e))

-- one kind more
critical_snoc : (n m : ℕ) (ts : List Kind) (t : Kind) → m ≡ n + length ts → critical_from n (ts ++ t ∷ []) ≡ critical_from n ts ++ critical_from m (t ∷ [])
critical_snoc n m [] t e = ap (λ (k : ℕ). critical_from k (t ∷ [])) (let g : n ≡ m = omega arith in g)
critical_snoc n m (Critical ∷ ts) t e = ap (λ (r : List ℕ). n ∷ r) (critical_snoc (n + 1) m ts t (omega arith))
critical_snoc n m (Lower ∷ ts) t e = critical_snoc (n + 1) m ts t (omega arith)
critical_snoc n m (Upper ∷ ts) t e = critical_snoc (n + 1) m ts t (omega arith)

pub critical_more : (ts : List Kind) (i : ℕ) (d : Kind) (xs now : List ℕ) → i < length ts → xs ≡ critical_from 1 (take i ts) → now ≡ xs ++ critical_from (i + 1) (get_or ts i d ∷ []) → now ≡ critical_from 1 (take (i + 1) ts)
critical_more ts i d xs now lt h e =
    e ∙ (ap (λ (z : List ℕ). z ++ critical_from (i + 1) (get_or ts i d ∷ [])) h
    ∙ (sym (critical_snoc 1 (i + 1) (take i ts) (get_or ts i d) (let l : length (take i ts) ≡ i = length-take-le i ts (omega arith) in omega arith)) ∙ ap (critical_from 1) (sym (take_more ts i d lt))))
