use Rattle.std.proofs.Common.{◌≡◌, ℕ, ◌+◌, ◌*◌, ◌<◌, ◌≤◌, List, [], ◌++◌, length, length-append, length-set, append_assoc, get_or, set, take, drop, length-drop, ◌-◌, All, refl, ap, sym, ◌∙◌, arith, subst}
use Rattle.std.proofs.lemmas.List.{set-append_left, set-append_right, get_or_append_left, get_or-append_right, take-append-drop, length-take-le}
use Rattle.std.proofs.Math.Nat.{mul-le-mul_right}
use Rattle.small_field.specs.Field.{Ops, IsField}
use Rattle.linear_laws.specs.Vectors.{IsVector, IsMatrix, plus_scaled, row_at, entry}
use Rattle.small_field.specs.Values.{AreElements}
use Rattle.linear_laws.proofs.CallerLemmas.{all_at, plus_scaled-vector}
use Rattle.field_matrix.specs.Rows.{cut}
use Rattle.field_matrix.proofs.Cut.{length-cut, cut-middle, cut-replaced, cut-front, cut-back, elements_below}

-- row i of n rows of c numbers, split off
pub record IsSplit (n c i : ℕ) (xs front mid back : List ℕ) : Type 0 where
  pub whole : xs ≡ front ++ (mid ++ back)
  pub before : length front ≡ i * c
  pub long : length mid ≡ c
  pub place : i < n

pub split_twice : (n c i begin : ℕ) (xs front rest mid back : List ℕ) → xs ≡ front ++ rest → rest ≡ mid ++ back → length front ≡ begin → begin ≡ i * c → length mid ≡ c → i < n → IsSplit n c i xs front mid back
split_twice n c i begin xs front rest mid back w v lf e lm lt = record { whole = w ∙ ap (λ (r : List ℕ). front ++ r) v; before = lf ∙ e; long = lm; place = lt }

-- row i is there to be split off
pub record Split (n c i : ℕ) (xs : List ℕ) : Type 0 where
  pub front : List ℕ
  pub mid : List ℕ
  pub back : List ℕ
  pub split : IsSplit n c i xs front mid back
  pub front_is : front ≡ take (i * c) xs
  pub mid_is : mid ≡ take c (drop (i * c) xs)

pub split_at : (n c i : ℕ) (xs : List ℕ) → length xs ≡ n * c → i < n → Split n c i xs
split_at n c i xs long lt =
    let fits : (i + 1) * c ≤ n * c = mul-le-mul_right c (let l : i + 1 ≤ n = omega arith in l) in
    let rest : List ℕ = drop (i * c) xs in
    let lr : length rest ≡ n * c - i * c = length-drop (i * c) xs ∙ omega arith in
    record {
      front = take (i * c) xs;
      mid = take c rest;
      back = drop c rest;
      split = record {
        whole = sym (take-append-drop (i * c) xs) ∙ ap (λ (r : List ℕ). take (i * c) xs ++ r) (sym (take-append-drop c rest));
        before = length-take-le (i * c) xs (omega arith);
        long = length-take-le c rest (omega arith);
        place = lt;
      };
      front_is = refl;
      mid_is = refl;
    }

module _ (n c i : ℕ) (xs front mid back : List ℕ) (s : IsSplit n c i xs front mid back) where
  pub row_is : row_at (cut n c xs) i ≡ mid
  row_is = ap (λ (w : List ℕ). row_at (cut n c w) i) s.whole ∙ cut-middle n c i front mid back s.before s.long s.place

  pub put : (new : List ℕ) → length new ≡ c → cut n c (front ++ (new ++ back)) ≡ set (cut n c xs) i new
  put new long = cut-replaced n c i front mid back new s.before s.long long s.place ∙ ap (λ (w : List ℕ). set (cut n c w) i new) (sym s.whole)

  pub row_before : (j : ℕ) → j < i → row_at (cut n c xs) j ≡ row_at (cut i c front) j
  row_before j lt =
      let p : i < n = s.place in
      ap (λ (w : List ℕ). row_at (cut n c w) j) s.whole ∙ cut-front n i c j front (mid ++ back) s.before lt (omega arith)

  pub row_after : (r j a : ℕ) → n ≡ i + 1 + r → a ≡ i + 1 + j → row_at (cut n c xs) a ≡ row_at (cut r c back) j
  row_after r j a en ea =
      let long : length (front ++ mid) ≡ (i + 1) * c =
      let b : length front ≡ i * c = s.before in let m : length mid ≡ c = s.long in omega (arith, length-append front mid) in
      ap (λ (w : List ℕ). row_at (cut n c w) a) (s.whole ∙ sym (append_assoc front mid back)) ∙ cut-back n (i + 1) r c a j (front ++ mid) back long en ea

  pub back_long : (r : ℕ) → length xs ≡ n * c → n ≡ i + 1 + r → length back ≡ r * c
  back_long r long en =
      let b : length front ≡ i * c = s.before in
      let m : length mid ≡ c = s.long in
      let total : length xs ≡ length front + (length mid + length back) = ap length s.whole ∙ (length-append front (mid ++ back) ∙ ap (λ (a : ℕ). length front + a) (length-append mid back)) in
      let product : n * c ≡ (i + 1 + r) * c = ap (λ (a : ℕ). a * c) en in
      omega arith

  pub entry_is : (j : ℕ) → j < c → get_or xs (i * c + j) 0 ≡ entry (cut n c xs) i j
  entry_is j lt =
      let b : length front ≡ i * c = s.before in
      let m : length mid ≡ c = s.long in
      ap (λ (w : List ℕ). get_or w (i * c + j) 0) s.whole
      ∙ (get_or-append_right front (mid ++ back) (i * c) (i * c + j) 0 b (omega arith)
      ∙ (ap (λ (a : ℕ). get_or (mid ++ back) a 0) (omega arith) ∙ (get_or_append_left mid back 0 j (omega arith) ∙ ap (λ (w : List ℕ). get_or w j 0) (sym row_is))))

  pub entry_put : (j v : ℕ) → j < c → cut n c (set xs (i * c + j) v) ≡ set (cut n c xs) i (set (row_at (cut n c xs) i) j v)
  entry_put j v lt =
      let b : length front ≡ i * c = s.before in
      let m : length mid ≡ c = s.long in
      let inside : set xs (i * c + j) v ≡ front ++ (set mid j v ++ back) =
      ap (λ (w : List ℕ). set w (i * c + j) v) s.whole
      ∙ (set-append_right front (mid ++ back) (i * c) (i * c + j) v b (omega arith)
      ∙ ap (λ (w : List ℕ). front ++ w) (ap (λ (a : ℕ). set (mid ++ back) a v) (omega arith) ∙ set-append_left mid back j v (omega arith))) in
      ap (cut n c) inside ∙ (put (set mid j v) (length-set mid j v ∙ m) ∙ ap (λ (w : List ℕ). set (cut n c xs) i (set w j v)) (sym row_is))

module _ (k : Ops) (f : IsField k) where
  pub row_vector : (n c i : ℕ) (xs : List ℕ) → IsMatrix k c (cut n c xs) → i < n → IsVector k c (row_at (cut n c xs) i)
  row_vector n c i xs a lt = all_at (IsVector k c) (cut n c xs) i [] (omega (arith, length-cut n c xs)) a

  pub mid_vector : (n c i : ℕ) (xs front mid back : List ℕ) → IsSplit n c i xs front mid back → IsMatrix k c (cut n c xs) → IsVector k c mid
  mid_vector n c i xs front mid back s a = subst (IsVector k c) (row_is n c i xs front mid back s) (row_vector n c i xs a s.place)

  -- a multiple of another row is added to row i
  pub combined : (n c i j s : ℕ) (xs front mid back source new : List ℕ) → IsSplit n c i xs front mid back → IsMatrix k c (cut n c xs) → j < n → source ≡ row_at (cut n c xs) j → new ≡ plus_scaled k s mid source → cut n c (front ++ (new ++ back)) ≡ set (cut n c xs) i (plus_scaled k s (row_at (cut n c xs) i) (row_at (cut n c xs) j))
  combined n c i j s xs front mid back source new split a lj is_source is_new =
      let vm : IsVector k c mid = mid_vector n c i xs front mid back split a in
      let vs : IsVector k c source = subst (IsVector k c) (sym is_source) (row_vector n c j xs a lj) in
      let long : length new ≡ c = ap length is_new ∙ (plus_scaled-vector k f c s mid source vm vs).long in
      put n c i xs front mid back split new long
      ∙ ap (set (cut n c xs) i)
      (is_new ∙ (ap (λ (w : List ℕ). plus_scaled k s w source) (sym (row_is n c i xs front mid back split)) ∙ ap (plus_scaled k s (row_at (cut n c xs) i)) is_source))

  pub row_below : (size n c i : ℕ) (xs row : List ℕ) → k.size ≡ size → IsMatrix k c (cut n c xs) → i < n → row ≡ row_at (cut n c xs) i → All (λ x. x < size) row
  row_below size n c i xs row e a lt is = elements_below k size row e (subst (AreElements k) (sym is) (row_vector n c i xs a lt).elements)

  pub row_long : (n c i : ℕ) (xs row : List ℕ) → IsMatrix k c (cut n c xs) → i < n → row ≡ row_at (cut n c xs) i → length row ≡ c
  row_long n c i xs row a lt is = ap length is ∙ (row_vector n c i xs a lt).long
