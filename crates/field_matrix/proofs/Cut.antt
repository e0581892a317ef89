use Rattle.std.proofs.Common.{◌≡◌, ℕ, zero, suc, ◌+◌, ◌*◌, ◌<◌, ◌≤◌, List, [], ◌∷◌, ◌++◌, length, length-drop, take, drop, set, All, refl, ap, sym, ◌∙◌, arith, subst}
use Rattle.std.proofs.lemmas.List.{take_at, take-append-le, drop-append-le, take-append-drop, length-take-le, drop_at}
use Rattle.std.proofs.lemmas.List.Elements.{All-from_recursion}
use Rattle.small_field.specs.Field.{Ops}
use Rattle.linear_laws.specs.Vectors.{IsMatrix, row_at}
use Rattle.small_field.specs.Values.{AreElements}
use Rattle.linear_laws.proofs.CallerLemmas.{all_append, all_take, all_drop}
use Rattle.field_matrix.specs.Rows.{cut}

pub length-cut : (n c : ℕ) (xs : List ℕ) → length (cut n c xs) ≡ n
length-cut zero c xs = refl
length-cut (suc n) c xs = ap suc (length-cut n c (drop c xs))

shorter : (c i : ℕ) (front : List ℕ) → length front ≡ suc i * c → (c ≤ length front) × (length (drop c front) ≡ i * c)
shorter c i front long = (omega arith, length-drop c front ∙ omega arith)

-- a row that stands between others
pub cut-middle : (n c i : ℕ) (front mid back : List ℕ) → length front ≡ i * c → length mid ≡ c → i < n → row_at (cut n c (front ++ (mid ++ back))) i ≡ mid
cut-middle zero c i front mid back lf lm lt = absurd (omega arith)
cut-middle (suc n) c zero [] mid back lf lm lt = take_at mid back c lm
cut-middle (suc n) c zero (x ∷ front) mid back lf lm lt = absurd (omega arith)
cut-middle (suc n) c (suc i) front mid back lf lm lt =
    let s = shorter c i front lf in
    ap (λ (w : List ℕ). row_at (cut n c w) i) (drop-append-le c front (mid ++ back) s.0) ∙ cut-middle n c i (drop c front) mid back s.1 lm (omega arith)

-- another row in its place
pub cut-replaced : (n c i : ℕ) (front mid back new : List ℕ) → length front ≡ i * c → length mid ≡ c → length new ≡ c → i < n → cut n c (front ++ (new ++ back)) ≡ set (cut n c (front ++ (mid ++ back))) i new
cut-replaced zero c i front mid back new lf lm ln lt = absurd (omega arith)
cut-replaced (suc n) c zero [] mid back new lf lm ln lt =
    ap (λ (r : List ℕ). r ∷ cut n c (drop c (new ++ back))) (take_at new back c ln) ∙ ap (λ (w : List ℕ). new ∷ cut n c w) (drop_at new back c ln ∙ sym (drop_at mid back c lm))
cut-replaced (suc n) c zero (x ∷ front) mid back new lf lm ln lt = absurd (omega arith)
cut-replaced (suc n) c (suc i) front mid back new lf lm ln lt =
    let s = shorter c i front lf in
    let f : List ℕ = drop c front in
    let head : take c (front ++ (new ++ back)) ≡ take c (front ++ (mid ++ back)) = take-append-le c front (new ++ back) s.0 ∙ sym (take-append-le c front (mid ++ back) s.0) in
    let tail : cut n c (drop c (front ++ (new ++ back))) ≡ set (cut n c (drop c (front ++ (mid ++ back)))) i new =
    ap (cut n c) (drop-append-le c front (new ++ back) s.0)
    ∙ (cut-replaced n c i f mid back new s.1 lm ln (omega arith) ∙ ap (λ (w : List ℕ). set (cut n c w) i new) (sym (drop-append-le c front (mid ++ back) s.0))) in
    ap (λ (r : List ℕ). r ∷ cut n c (drop c (front ++ (new ++ back)))) head ∙ ap (λ (rs : List (List ℕ)). take c (front ++ (mid ++ back)) ∷ rs) tail

-- a row of the first m rows
pub cut-front : (n m c i : ℕ) (front back : List ℕ) → length front ≡ m * c → i < m → m ≤ n → row_at (cut n c (front ++ back)) i ≡ row_at (cut m c front) i
cut-front n zero c i front back lf lt le = absurd (omega arith)
cut-front zero (suc m) c i front back lf lt le = absurd (omega arith)
cut-front (suc n) (suc m) c zero front back lf lt le = take-append-le c front back (shorter c m front lf).0
cut-front (suc n) (suc m) c (suc i) front back lf lt le =
    let s = shorter c m front lf in
    ap (λ (w : List ℕ). row_at (cut n c w) i) (drop-append-le c front back s.0) ∙ cut-front n m c i (drop c front) back s.1 (omega arith) (omega arith)

-- a row after the first m rows
pub cut-back : (n m r c i j : ℕ) (front back : List ℕ) → length front ≡ m * c → n ≡ m + r → i ≡ m + j → row_at (cut n c (front ++ back)) i ≡ row_at (cut r c back) j
cut-back n zero r c i j [] back lf en ei = ap (λ (a : ℕ). row_at (cut a c back) i) (omega arith) ∙ ap (row_at (cut r c back)) (omega arith)
cut-back n zero r c i j (x ∷ front) back lf en ei = absurd (omega arith)
cut-back zero (suc m) r c i j front back lf en ei = absurd (omega arith)
cut-back (suc n) (suc m) r c zero j front back lf en ei = absurd (omega arith)
cut-back (suc n) (suc m) r c (suc i) j front back lf en ei =
    let s = shorter c m front lf in
    ap (λ (w : List ℕ). row_at (cut n c w) i) (drop-append-le c front back s.0) ∙ cut-back n m r c i j (drop c front) back s.1 (omega arith) (omega arith)

module _ (k : Ops) where
  pub cut-matrix : (n c : ℕ) (xs : List ℕ) → length xs ≡ n * c → AreElements k xs → IsMatrix k c (cut n c xs)
  cut-matrix zero c xs long h = tt
  cut-matrix (suc n) c xs long h =
      let s = shorter c n xs long in
      (record { long = length-take-le c xs s.0; elements = all_take (λ x. x < k.size) c xs h }, cut-matrix n c (drop c xs) s.1 (all_drop (λ x. x < k.size) c xs h))

  pub cut-elements : (n c : ℕ) (xs : List ℕ) → length xs ≡ n * c → IsMatrix k c (cut n c xs) → AreElements k xs
  cut-elements zero c [] long h = tt
  cut-elements zero c (x ∷ xs) long h = absurd (omega arith)
  cut-elements (suc n) c xs long h =
      let s = shorter c n xs long in
      subst (AreElements k) (take-append-drop c xs) (all_append (λ x. x < k.size) (take c xs) (drop c xs) h.0.elements (cut-elements n c (drop c xs) s.1 h.1))

  -- elements are below the size
  pub elements_below : (size : ℕ) (xs : List ℕ) → k.size ≡ size → AreElements k xs → All (λ x. x < size) xs
  elements_below size xs e h = subst (λ (n : ℕ). All (λ x. x < n) xs) e (All-from_recursion (λ x. x < k.size) xs h)
