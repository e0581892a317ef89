-- Vectors in another order of the coordinates and with signs, and rows that change with them.
use Rattle.std.proofs.Common.{◌≡◌, ◌≢◌, inl, inr, ℕ, zero, suc, ◌+◌, ◌-◌, ◌<◌, ◌≤◌, List, [], ◌∷◌, Bool, true, false, cond, eqb, map, length, replicate, get_or, refl, ap, sym, ◌∙◌, arith}
use Rattle.std.proofs.lemmas.Bool.{eq-eqb, ne_eqb, eqb-true}
use Rattle.std.proofs.lemmas.List.{length-map, get_or-map, same_lists}
use Rattle.std.proofs.lemmas.List.FromFn.{length-map-range_with_len, get_or-map-range_with_len}
use Rattle.small_field.specs.Field.{Ops, IsField}
use Rattle.small_field.specs.Values.{AreElements}
use Rattle.small_field.proofs.CallerLemmas.{zero_below, mul_zero}
use Rattle.linear_laws.specs.Vectors.{dot, column, combination, plus_scaled, IsVector, IsMatrix}
use Rattle.linear_laws.proofs.CallerLemmas.{combination-vector, entry_combination, list_below}
use Rattle.number_lists.specs.Words.{upto}
use Rattle.number_lists.specs.Members.{In, here, there}
use Rattle.number_lists.proofs.CallerLemmas.{In-cases, at-In, In-upto, upto-In, AreDistinct, distinct-at, distinct-range}
use Rattle.flag_laws.proofs.Sums.{summed, sum-same, sum-times, sum-swap, sum-one, dot-maps, mul_out, sign, sign-twice}

-- the place of a number in a list, counted from 0
abbrev pub index : (c : ℕ) → List ℕ → ℕ
index c [] = 0
index c (y ∷ ys) = cond (eqb y c) 0 (suc (index c ys))

index-by : (c y : ℕ) (ys : List ℕ) (b : Bool) → eqb y c ≡ b → (y ≢ c → (index c ys < length ys) × (get_or ys (index c ys) 0 ≡ c)) → (cond b 0 (suc (index c ys)) < suc (length ys)) × (get_or (y ∷ ys) (cond b 0 (suc (index c ys))) 0 ≡ c)
index-by c y ys true e again = (omega arith, eqb-true y c e)
index-by c y ys false e again =
    let r = again (λ q. absurd (let p : true ≡ false = sym (eq-eqb y c q) ∙ e in cc)) in
    (omega (arith, r.0), r.1)

pub index-at : (c : ℕ) (xs : List ℕ) → In c xs → (index c xs < length xs) × (get_or xs (index c xs) 0 ≡ c)
index-at c [] i = elim i [ ]
index-at c (y ∷ ys) i = index-by c y ys (eqb y c) refl (λ ne. elim (In-cases i) [ inl e ↦ absurd (ne (sym e)) | inr j ↦ index-at c ys j ])

map-zeros : {A : Type 0} (h : A → ℕ) (xs : List A) → ((x : A) → h x ≡ 0) → map h xs ≡ replicate (length xs) 0
map-zeros h [] e = refl
map-zeros h (x ∷ xs) e = ap (λ (n : ℕ). n ∷ map h xs) (e x) ∙ ap (λ (ns : List ℕ). 0 ∷ ns) (map-zeros h xs e)

module _ (F : Ops) (L : IsField F) where
  elements-map : {A : Type 0} (h : A → ℕ) (xs : List A) → ((x : A) → h x < F.size) → AreElements F (map h xs)
  elements-map h [] b = tt
  elements-map h (x ∷ xs) b = (b x, elements-map h xs b)

  -- lists of different numbers with the same members
  pub sum-members : (h : ℕ → ℕ) (xs ys : List ℕ) → AreDistinct xs → AreDistinct ys → ((x : ℕ) → In x xs → In x ys) → ((y : ℕ) → In y ys → In y xs) → ((x : ℕ) → h x < F.size) → summed F h xs ≡ summed F h ys
  sum-members h xs ys dx dy to from b =
      sum-same F L h (λ c. summed F (λ k. D c k) ys) xs
      (λ c i. sym (sum-one F L (λ k. D c k) ys c dy (to c i) (D-below c c) (λ k j ne. ap (λ (t : Bool). cond t (h k) 0) (ne_eqb c k (λ q. ne (sym q)))) ∙ ap (λ (t : Bool). cond t (h c) 0) (eq-eqb c c refl)))
      ∙ (sum-swap F L (λ c k. D c k) xs ys
      ∙ sum-same F L (λ k. summed F (λ c. D c k) xs) h ys
      (λ k i. sum-one F L (λ c. D c k) xs k dx (from k i) (D-below k k) (λ c j ne. ap (λ (t : Bool). cond t (h k) 0) (ne_eqb c k ne)) ∙ ap (λ (t : Bool). cond t (h k) 0) (eq-eqb k k refl)))
    where
      D : ℕ → ℕ → ℕ
      D c k = cond (eqb c k) (h k) 0

      D-below : (c k : ℕ) → D c k < F.size
      D-below c k = by (eqb c k)
        where
          by : (t : Bool) → cond t (h k) 0 < F.size
          by true = b k
          by false = zero_below F L

  plus-at : (s : ℕ) (u v : List ℕ) (i : ℕ) → i < length u → length v ≡ length u → get_or (plus_scaled F s u v) i 0 ≡ F.add (get_or u i 0) (F.mul s (get_or v i 0))
  plus-at s [] v i l e = absurd (omega (arith, l))
  plus-at s (x ∷ u) [] i l e = absurd (omega (arith, e))
  plus-at s (x ∷ u) (y ∷ v) zero l e = refl
  plus-at s (x ∷ u) (y ∷ v) (suc i) l e = plus-at s u v i (omega (arith, l)) (omega (arith, e))

  abbrev sg : Bool → ℕ
  sg b = sign F L b

  twice : (b : Bool) (x : ℕ) → x < F.size → F.mul (sg b) (F.mul (sg b) x) ≡ x
  twice b x l = sym (L.mul_assoc (sg b) (sg b) x) ∙ (ap (λ (v : ℕ). F.mul v x) (sign-twice F L b) ∙ L.one_mul x l)

  -- n coordinates, their order, and signs
  pub record IsOrder (n : ℕ) (cells : List ℕ) : Type 0 where
    pub distinct : AreDistinct cells
    pub many : length cells ≡ n
    pub within : (c : ℕ) → In c cells → (1 ≤ c) × (c ≤ n)
    pub all : (c : ℕ) → 1 ≤ c → c ≤ n → In c cells

  -- into the new order, and back
  abbrev pub turned : (cells : List ℕ) → (e : ℕ → Bool) → List ℕ → List ℕ
  turned cells e x = map (λ c. F.mul (sg (e c)) (get_or x (c - 1) 0)) cells

  abbrev pub back : (n : ℕ) → (cells : List ℕ) → (e : ℕ → Bool) → List ℕ → List ℕ
  back n cells e y = map (λ c. F.mul (sg (e c)) (get_or y (index c cells) 0)) (upto n)

  module _ (n : ℕ) (cells : List ℕ) (o : IsOrder n cells) (e : ℕ → Bool) where
    abbrev P : List ℕ → List ℕ
    P x = turned cells e x

    abbrev Q : List ℕ → List ℕ
    Q y = back n cells e y

    pub turned-vector : (x : List ℕ) → IsVector F n (P x)
    turned-vector x = record { long = length-map cells (λ c. F.mul (sg (e c)) (get_or x (c - 1) 0)) ∙ o.many; elements = elements-map (λ c. F.mul (sg (e c)) (get_or x (c - 1) 0)) cells (λ c. L.mul_below (sg (e c)) (get_or x (c - 1) 0)) }

    pub back-vector : (y : List ℕ) → IsVector F n (Q y)
    back-vector y = record { long = length-map-range_with_len (λ c. F.mul (sg (e c)) (get_or y (index c cells) 0)) 1 n; elements = elements-map (λ c. F.mul (sg (e c)) (get_or y (index c cells) 0)) (upto n) (λ c. L.mul_below (sg (e c)) (get_or y (index c cells) 0)) }

    turned-at : (x : List ℕ) (i d : ℕ) → i < n → get_or (P x) i d ≡ F.mul (sg (e (get_or cells i 0))) (get_or x (get_or cells i 0 - 1) 0)
    turned-at x i d l = get_or-map (λ c. F.mul (sg (e c)) (get_or x (c - 1) 0)) cells i 0 d (omega (arith, l, o.many))

    back-at : (y : List ℕ) (i d : ℕ) → i < n → get_or (Q y) i d ≡ F.mul (sg (e (i + 1))) (get_or y (index (i + 1) cells) 0)
    back-at y i d l = get_or-map-range_with_len (λ c. F.mul (sg (e c)) (get_or y (index c cells) 0)) 1 n i (i + 1) d l (omega arith)

    default-of : (x : List ℕ) (i d : ℕ) → i < length x → get_or x i 0 ≡ get_or x i d
    default-of [] i d l = absurd (omega (arith, l))
    default-of (a ∷ x) zero d l = refl
    default-of (a ∷ x) (suc i) d l = default-of x i d (omega (arith, l))

    pub turned-back : (y : List ℕ) → IsVector F n y → P (Q y) ≡ y
    turned-back y v =
        same_lists (P (Q y)) y ((turned-vector (Q y)).long ∙ sym v.long)
        (λ i d l. (let li : i < n = omega (arith, l, (turned-vector (Q y)).long) in
        let c : ℕ = get_or cells i 0 in
        let ic = at-In cells i 0 (omega (arith, li, o.many)) in
        let w = o.within c ic in
        let k = index-at c cells ic in
        let same : index c cells ≡ i = distinct-at (index c cells) i 0 o.distinct k.0 (omega (arith, li, o.many)) k.1 in
        let one : c - 1 + 1 ≡ c = omega (arith, w.0) in
        turned-at (Q y) i d li
        ∙ (ap (F.mul (sg (e c))) (back-at y (c - 1) 0 (omega (arith, w.0, w.1)) ∙ ap (λ (b : ℕ). F.mul (sg (e b)) (get_or y (index b cells) 0)) one)
        ∙ (ap (λ (j : ℕ). F.mul (sg (e c)) (F.mul (sg (e c)) (get_or y j 0))) same
        ∙ (twice (e c) (get_or y i 0) (list_below F L y i v.elements) ∙ default-of y i d (omega (arith, li, v.long)))))))

    pub back-turned : (x : List ℕ) → IsVector F n x → Q (P x) ≡ x
    back-turned x v =
        same_lists (Q (P x)) x ((back-vector (P x)).long ∙ sym v.long)
        (λ i d l. (let li : i < n = omega (arith, l, (back-vector (P x)).long) in
        let c : ℕ = i + 1 in
        let k = index-at c cells (o.all c (omega arith) (omega (arith, li))) in
        let one : c - 1 ≡ i = omega arith in
        back-at (P x) i d li
        ∙ (ap (F.mul (sg (e c))) (turned-at x (index c cells) 0 (omega (arith, k.0, o.many)) ∙ ap (λ (b : ℕ). F.mul (sg (e b)) (get_or x (b - 1) 0)) k.1)
        ∙ (ap (λ (j : ℕ). F.mul (sg (e c)) (F.mul (sg (e c)) (get_or x j 0))) one
        ∙ (twice (e c) (get_or x i 0) (list_below F L x i v.elements) ∙ default-of x i d (omega (arith, li, v.long)))))))

    pub turned-zeros : P (replicate n 0) ≡ replicate n 0
    turned-zeros =
        map-zeros (λ c. F.mul (sg (e c)) (get_or (replicate n 0) (c - 1) 0)) cells (λ c. ap (F.mul (sg (e c))) (zero-at n (c - 1)) ∙ mul_zero F L (sg (e c))) ∙ ap (λ (m : ℕ). replicate {A = ℕ} m 0) o.many
      where
        zero-at : (m i : ℕ) → ◌≡◌ {A = ℕ} (get_or (replicate m 0) i 0) 0
        zero-at zero i = refl
        zero-at (suc m) zero = refl
        zero-at (suc m) (suc i) = zero-at m i

    pub turned-plus : (s : ℕ) (u v : List ℕ) → length u ≡ n → length v ≡ n → P (plus_scaled F s u v) ≡ plus_scaled F s (P u) (P v)
    turned-plus s u v lu lv = on cells o.within
      where
        one : (c : ℕ) → 1 ≤ c → c ≤ n → F.mul (sg (e c)) (get_or (plus_scaled F s u v) (c - 1) 0) ≡ F.add (F.mul (sg (e c)) (get_or u (c - 1) 0)) (F.mul s (F.mul (sg (e c)) (get_or v (c - 1) 0)))
        one c a b =
            ap (F.mul (sg (e c))) (plus-at s u v (c - 1) (omega (arith, a, b, lu)) (lv ∙ sym lu))
            ∙ (L.mul_add (sg (e c)) (get_or u (c - 1) 0) (F.mul s (get_or v (c - 1) 0)) ∙ ap (F.add (F.mul (sg (e c)) (get_or u (c - 1) 0))) (mul_out F L (sg (e c)) s (get_or v (c - 1) 0)))

        on : (cs : List ℕ) → ((c : ℕ) → In c cs → (1 ≤ c) × (c ≤ n)) → turned cs e (plus_scaled F s u v) ≡ plus_scaled F s (turned cs e u) (turned cs e v)
        on [] h = refl
        on (c ∷ cs) h =
            let w = h c here in
            ap (λ (x : ℕ). x ∷ turned cs e (plus_scaled F s u v)) (one c w.0 w.1)
            ∙ ap (λ (xs : List ℕ). F.add (F.mul (sg (e c)) (get_or u (c - 1) 0)) (F.mul s (F.mul (sg (e c)) (get_or v (c - 1) 0))) ∷ xs) (on cs (λ b i. h b (there i)))

    pub turned-combination : (cs : List ℕ) (rows : List (List ℕ)) → IsMatrix F n rows → P (combination F n cs rows) ≡ combination F n cs (map P rows)
    turned-combination [] rows m = turned-zeros
    turned-combination (c ∷ cs) [] m = turned-zeros
    turned-combination (c ∷ cs) (r ∷ rows) m =
        turned-plus c (combination F n cs rows) r (combination-vector F L n cs rows m.1).long m.0.long
        ∙ ap (λ (x : List ℕ). plus_scaled F c x (P r)) (turned-combination cs rows m.1)

  -- ---- rows

  abbrev pub table : (n m : ℕ) → (R : ℕ → ℕ → ℕ) → List (List ℕ)
  table n m R = map (λ c. map (R c) (upto m)) (upto n)

  table-vectors : (m : ℕ) (R : ℕ → ℕ → ℕ) (xs : List ℕ) → ((c k : ℕ) → R c k < F.size) → IsMatrix F m (map (λ c. map (R c) (upto m)) xs)
  table-vectors m R [] b = tt
  table-vectors m R (x ∷ xs) b = (record { long = length-map-range_with_len (R x) 1 m; elements = elements-map (R x) (upto m) (b x) }, table-vectors m R xs b)

  pub table-matrix : (n m : ℕ) (R : ℕ → ℕ → ℕ) → ((c k : ℕ) → R c k < F.size) → IsMatrix F m (table n m R)
  table-matrix n m R b = table-vectors m R (upto n) b

  pub table-long : (n m : ℕ) (R : ℕ → ℕ → ℕ) → length (table n m R) ≡ n
  table-long n m R = length-map-range_with_len (λ c. map (R c) (upto m)) 1 n

  column-table : (m : ℕ) (R : ℕ → ℕ → ℕ) (j : ℕ) (xs : List ℕ) → j < m → column j (map (λ c. map (R c) (upto m)) xs) ≡ map (λ c. R c (j + 1)) xs
  column-table m R j [] l = refl
  column-table m R j (x ∷ xs) l =
      ap (λ (v : ℕ). v ∷ column j (map (λ c. map (R c) (upto m)) xs)) (get_or-map-range_with_len (R x) 1 m j (j + 1) 0 l (omega arith))
      ∙ ap (λ (vs : List ℕ). R x (j + 1) ∷ vs) (column-table m R j xs l)

  by-places : (x : List ℕ) (n : ℕ) → length x ≡ n → x ≡ map (λ c. get_or x (c - 1) 0) (upto n)
  by-places x n l =
      same_lists x (map (λ c. get_or x (c - 1) 0) (upto n)) (l ∙ sym (length-map-range_with_len (λ c. get_or x (c - 1) 0) 1 n))
      (λ i d k. (let one : i + 1 - 1 ≡ i = omega arith in
      default x i d k ∙ (ap (λ (j : ℕ). get_or x j 0) (sym one) ∙ sym (get_or-map-range_with_len (λ c. get_or x (c - 1) 0) 1 n i (i + 1) d (omega (arith, k, l)) (omega arith)))))
    where
      default : (x : List ℕ) (i d : ℕ) → i < length x → get_or x i d ≡ get_or x i 0
      default [] i d l = absurd (omega (arith, l))
      default (a ∷ x) zero d l = refl
      default (a ∷ x) (suc i) d l = default x i d (omega (arith, l))

  -- rows in both orders, each entry with the signs of both
  module _ (n m : ℕ) (cells above : List ℕ) (o : IsOrder n cells) (p : IsOrder m above) (e f : ℕ → Bool) (R S : ℕ → ℕ → ℕ) (below : (c k : ℕ) → R c k < F.size) (also : (c k : ℕ) → S c k < F.size)
      (same : (i j : ℕ) → i < n → j < m → S (i + 1) (j + 1) ≡ F.mul (sg (e (get_or cells i 0))) (F.mul (R (get_or cells i 0) (get_or above j 0)) (sg (f (get_or above j 0))))) where
    -- one product, with the signs
    one : (a b x r : ℕ) → F.mul a (F.mul a x) ≡ x → F.mul (F.mul a x) (F.mul a (F.mul r b)) ≡ F.mul b (F.mul x r)
    one a b x r t =
        mul_out F L (F.mul a x) a (F.mul r b)
        ∙ (sym (L.mul_assoc a (F.mul a x) (F.mul r b))
        ∙ (ap (λ (v : ℕ). F.mul v (F.mul r b)) t ∙ (ap (F.mul x) (L.mul_comm r b) ∙ mul_out F L x b r)))

    pub commute : (x : List ℕ) → IsVector F n x → turned above f (combination F m x (table n m R)) ≡ combination F m (turned cells e x) (table n m S)
    commute x v =
        same_lists (turned above f dx) (combination F m (turned cells e x) (table n m S)) ((turned-vector m above p f dx).long ∙ sym (combination-vector F L m (turned cells e x) (table n m S) (table-matrix n m S also)).long)
        (λ j d l. (let lj : j < m = omega (arith, l, (turned-vector m above p f dx).long) in
        turned-at m above p f dx j d lj
        ∙ (ap (F.mul (sg (f (get_or above j 0)))) (old j lj)
        ∙ (sym (new j lj) ∙ (sym (entry_combination F L m j (turned cells e x) (table n m S) (table-matrix n m S also) lj) ∙ default-of m above p f (combination F m (turned cells e x) (table n m S)) j d (omega (arith, lj, (combination-vector F L m (turned cells e x) (table n m S) (table-matrix n m S also)).long)))))))
      where
        dx : List ℕ
        dx = combination F m x (table n m R)

        H : ℕ → ℕ → ℕ
        H g c = F.mul (get_or x (c - 1) 0) (R c g)

        old : (j : ℕ) → j < m → get_or dx (get_or above j 0 - 1) 0 ≡ summed F (H (get_or above j 0)) (upto n)
        old j lj =
            let g : ℕ = get_or above j 0 in
            let w = p.within g (at-In above j 0 (omega (arith, lj, p.many))) in
            let k : g - 1 < m = omega (arith, w.0, w.1) in
            let back : g - 1 + 1 ≡ g = omega (arith, w.0) in
            entry_combination F L m (g - 1) x (table n m R) (table-matrix n m R below) k
            ∙ (ap (dot F x) (column-table m R (g - 1) (upto n) k)
            ∙ (ap (λ (y : List ℕ). dot F y (map (λ c. R c (g - 1 + 1)) (upto n))) (by-places x n v.long)
            ∙ (dot-maps F L (λ c. get_or x (c - 1) 0) (λ c. R c (g - 1 + 1)) (upto n) ∙ ap (λ (b : ℕ). summed F (H b) (upto n)) back)))

        new : (j : ℕ) → j < m → dot F (turned cells e x) (column j (table n m S)) ≡ F.mul (sg (f (get_or above j 0))) (summed F (H (get_or above j 0)) (upto n))
        new j lj =
            let g : ℕ = get_or above j 0 in
            let entry : ℕ → ℕ = λ c. F.mul (sg (e c)) (F.mul (R c g) (sg (f g))) in
            let columns : map (λ c. S c (j + 1)) (upto n) ≡ map entry cells =
            same_lists (map (λ c. S c (j + 1)) (upto n)) (map entry cells) (length-map-range_with_len (λ c. S c (j + 1)) 1 n ∙ (sym o.many ∙ sym (length-map cells entry)))
            (λ i d l. (let li : i < n = omega (arith, l, length-map-range_with_len (λ c. S c (j + 1)) 1 n) in
            get_or-map-range_with_len (λ c. S c (j + 1)) 1 n i (i + 1) d li (omega arith) ∙ (same i j li lj ∙ sym (get_or-map entry cells i 0 d (omega (arith, li, o.many)))))) in
            ap (dot F (turned cells e x)) (column-table m S j (upto n) lj ∙ columns)
            ∙ (dot-maps F L (λ c. F.mul (sg (e c)) (get_or x (c - 1) 0)) entry cells
            ∙ (sum-same F L (λ c. F.mul (F.mul (sg (e c)) (get_or x (c - 1) 0)) (entry c)) (λ c. F.mul (sg (f g)) (H g c)) cells
            (λ c i. (let w = o.within c i in one (sg (e c)) (sg (f g)) (get_or x (c - 1) 0) (R c g) (twice (e c) (get_or x (c - 1) 0) (list_below F L x (c - 1) v.elements))))
            ∙ (sum-times F L (sg (f g)) (H g) cells
            ∙ ap (F.mul (sg (f g)))
            (sum-members (H g) cells (upto n) o.distinct (distinct-range 1 n) (λ c i. (let w = o.within c i in In-upto n c w.0 w.1)) (λ c i. (let w = upto-In n c i in o.all c w.0 w.1)) (λ c. L.mul_below (get_or x (c - 1) 0) (R c g))))))
