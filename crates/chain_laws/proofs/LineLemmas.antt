-- Entries and cochains, and the test of each line with its equations.
use Rattle.std.proofs.Common.{◌≡◌, ◌≢◌, ℕ, zero, suc, ◌+◌, ◌<◌, ◌≤◌, List, [], ◌∷◌, ◌++◌, Bool, true, false, cond, not, ◌&&◌, ◌↔◌, eqb, map, length, get_or, replicate, All, refl, ap, sym, ◌∙◌, subst, arith, eq-eqb}
use Rattle.std.specs.Prelude.{⊤}
use Rattle.std.specs.List.{AllByRecursion, list_all, range_with_len}
use Rattle.std.specs.List.Sorted.{IsStrictlyIncreasing}
use Rattle.std.proofs.lemmas.Bool.{eqb-true, ne_eqb}
use Rattle.std.proofs.lemmas.List.{length-map}
use Rattle.std.proofs.lemmas.Slice.Eq.{bytes_eq-Decides}
use Rattle.std.proofs.lemmas.List.Elements.{All-head, All-tail}
use Rattle.small_field.specs.Field.{Ops, IsField}
use Rattle.small_field.proofs.CallerLemmas.{zero_below}
use Rattle.linear_laws.specs.Marks.{mark}
use Rattle.linear_laws.specs.Vectors.{combination, plus_scaled, IsVector}
use Rattle.small_field.specs.Values.{AreElements, entries_from, entry_of}
use Rattle.face_poset.specs.Words.{upto}
use Rattle.number_lists.proofs.CallerLemmas.{length-upto}
use Rattle.order_complex.specs.Chains.{chains_of}
use Rattle.order_complex.specs.Cochains.{boundary_on, coboundary, coboundary_at, coboundary_on, evaluation}
use Rattle.order_complex.specs.Cochains.{mark as mark_of}
use Rattle.order_complex.specs.Cup.{cup_at}
use Rattle.order_complex.specs.Homology.{IsClass}
use Rattle.chain_laws.specs.Lines.{element_at, cochain_of, AreEntries, all_zero, cochain_in, value_on}
use Rattle.chain_laws.specs.Laws.{EntriesAreCochains, ClassLinesAreCocycles, ProductLinesAreProducts, TestsAreEquations}

-- two functions that agree on the n numbers from a on
map-range : (f g : ℕ → ℕ) (a n : ℕ) → ((m : ℕ) → a ≤ m → m < a + n → f m ≡ g m) → map f (range_with_len a n) ≡ map g (range_with_len a n)
map-range f g a zero h = refl
map-range f g a (suc n) h = ap (λ x. x ∷ map f (range_with_len (a + 1) n)) (h a (omega arith) (omega arith)) ∙ ap (λ xs. g a ∷ xs) (map-range f g (a + 1) n (λ m low high. h m (omega arith) (omega arith)))

-- ---- a cochain, its entries, and back

element-here : (n x : ℕ) (later : List (ℕ × ℕ)) → element_at later n ≡ 0 → element_at (entry_of n x ++ later) n ≡ x
element-here n x later none = by_test (eqb x 0) refl
  where
    by_test : (b : Bool) → eqb x 0 ≡ b → element_at (cond b [] ((n, x) ∷ []) ++ later) n ≡ x
    by_test true e = none ∙ sym (eqb-true x 0 e)
    by_test false e = ap (λ t. cond t x (element_at later n)) (eq-eqb n n refl)

element-later : (n x m : ℕ) (later : List (ℕ × ℕ)) → n ≢ m → element_at (entry_of n x ++ later) m ≡ element_at later m
element-later n x m later ne = by_test (eqb x 0)
  where
    by_test : (b : Bool) → element_at (cond b [] ((n, x) ∷ []) ++ later) m ≡ element_at later m
    by_test true = refl
    by_test false = ap (λ t. cond t x (element_at later m)) (ne_eqb n m ne)

element-before : (a m : ℕ) (xs : List ℕ) → m < a → element_at (entries_from a xs) m ≡ 0
element-before a m [] l = refl
element-before a m (x ∷ xs) l = element-later a x m (entries_from (a + 1) xs) (λ e. omega arith) ∙ element-before (a + 1) m xs (omega arith)

there-from : (a : ℕ) (xs : List ℕ) → map (element_at (entries_from a xs)) (range_with_len a (length xs)) ≡ xs
there-from a [] = refl
there-from a (x ∷ xs) =
    let later : List (ℕ × ℕ) = entries_from (a + 1) xs in
    ap (λ y. y ∷ map (element_at (entry_of a x ++ later)) (range_with_len (a + 1) (length xs))) (element-here a x later (element-before (a + 1) a xs (omega arith)))
    ∙ ap (λ ys. x ∷ ys)
    (map-range (element_at (entry_of a x ++ later)) (element_at later) (a + 1) (length xs) (λ m low high. element-later a x m later (λ e. omega arith))
    ∙ there-from (a + 1) xs)

-- ---- entries, their cochain, and back

-- numbers that increase strictly from the first on and stay below the end, and elements that are not 0
Stand : (first end : ℕ) → List (ℕ × ℕ) → Type 0
Stand first end [] = ⊤
Stand first end (e ∷ entries) = (first ≤ e.0) × (e.0 < end) × (e.1 ≢ 0) × Stand (e.0 + 1) end entries

Starts : ℕ → List (ℕ × ℕ) → Type 0
Starts first [] = ⊤
Starts first (e ∷ entries) = first ≤ e.0

increasing-later : (x : ℕ) (xs : List ℕ) → IsStrictlyIncreasing (x ∷ xs) → IsStrictlyIncreasing xs
increasing-later x xs h k l =
    let e : suc k + 1 ≡ suc (k + 1) = omega arith in
    let less : get_or (x ∷ xs) (suc k) 0 < get_or (x ∷ xs) (suc k + 1) 0 = h (suc k) (omega arith) in
    subst (λ j. get_or xs k 0 < get_or (x ∷ xs) j 0) e less

stands : (first end : ℕ) (entries : List (ℕ × ℕ)) → Starts first entries → IsStrictlyIncreasing (map (λ e. e.0) entries) → All (λ e. e.1 ≢ 0) entries → All (λ e. e.0 < end) entries → Stand first end entries
unfolding Stand Starts
stands first end [] s i n w = tt
stands first end (e ∷ []) s i n w = (s, All-head (λ (e : ℕ × ℕ). e.0 < end) e [] w, All-head (λ (e : ℕ × ℕ). e.1 ≢ 0) e [] n, tt)
stands first end (e ∷ (d ∷ entries)) s i n w = (
  s,
  All-head (λ (e : ℕ × ℕ). e.0 < end) e (d ∷ entries) w,
  All-head (λ (e : ℕ × ℕ). e.1 ≢ 0) e (d ∷ entries) n,
  stands (e.0 + 1) end (d ∷ entries) (let l : e.0 < d.0 = i 0 (omega arith) in omega arith) (increasing-later e.0 (map (λ e. e.0) (d ∷ entries)) i) (All-tail (λ (e : ℕ × ℕ). e.1 ≢ 0) e (d ∷ entries) n) (All-tail (λ (e : ℕ × ℕ). e.0 < end) e (d ∷ entries) w),
)

stand-later : (first last end : ℕ) (entries : List (ℕ × ℕ)) → first ≤ last → Stand last end entries → Stand first end entries
unfolding Stand
stand-later first last end [] l h = tt
stand-later first last end (e ∷ entries) l h = (omega (arith, h.0), h.1, h.2, h.3)

element-none : (first end m : ℕ) (entries : List (ℕ × ℕ)) → m < first → Stand first end entries → element_at entries m ≡ 0
unfolding Stand
element-none first end m [] l h = refl
element-none first end m (e ∷ entries) l h =
    ap (λ t. cond t e.1 (element_at entries m)) (ne_eqb e.0 m (λ s. omega (arith, h.0))) ∙ element-none (e.0 + 1) end m entries (omega (arith, h.0)) h.3

no-entries : (a n : ℕ) → entries_from a (map (element_at []) (range_with_len a n)) ≡ []
no-entries a zero = refl
no-entries a (suc n) = no-entries (a + 1) n

not-zero : (x n : ℕ) → x ≢ 0 → entry_of n x ≡ (n, x) ∷ []
not-zero x n ne = ap (λ t. cond t [] ((n, x) ∷ [])) (ne_eqb x 0 ne)

back-from : (a n : ℕ) (entries : List (ℕ × ℕ)) → Stand a (a + n) entries → entries_from a (map (element_at entries) (range_with_len a n)) ≡ entries
unfolding Stand
back-from a n [] h = no-entries a n
back-from a zero (e ∷ entries) h = absurd (omega (arith, h.0, h.1))
back-from a (suc n) (e ∷ entries) h = by_test (eqb e.0 a) refl (λ es g. back-from (a + 1) n es g)
  where
    by_test : (b : Bool) → eqb e.0 a ≡ b → ((es : List (ℕ × ℕ)) → Stand (a + 1) (a + 1 + n) es → entries_from (a + 1) (map (element_at es) (range_with_len (a + 1) n)) ≡ es)
        → entry_of a (cond b e.1 (element_at entries a)) ++ entries_from (a + 1) (map (element_at (e ∷ entries)) (range_with_len (a + 1) n)) ≡ e ∷ entries
    by_test true t later =
        let same : e.0 ≡ a = eqb-true e.0 a t in
        let up : e.0 + 1 ≡ a + 1 = omega (arith, same) in
        let end : a + suc n ≡ a + 1 + n = omega arith in
        let rest : Stand (a + 1) (a + 1 + n) entries = subst (λ k. Stand (a + 1) k entries) end (subst (λ k. Stand k (a + suc n) entries) up h.3) in
        ap (λ es. es ++ entries_from (a + 1) (map (element_at (e ∷ entries)) (range_with_len (a + 1) n))) (not-zero e.1 a h.2 ∙ ap (λ k. (k, e.1) ∷ []) (sym same))
        ∙ ap (λ es. e ∷ es)
        (ap (entries_from (a + 1))
        (map-range (element_at (e ∷ entries)) (element_at entries) (a + 1) n (λ m low high. ap (λ t. cond t e.1 (element_at entries m)) (ne_eqb e.0 m (λ s. omega (arith, same)))))
        ∙ later entries rest)
    by_test false t later =
        let ne : e.0 ≢ a = λ s. let yes : eqb e.0 a ≡ true = eq-eqb e.0 a s in cc in
        let end : a + suc n ≡ a + 1 + n = omega arith in
        let low : a < e.0 = omega (arith, h.0) in
        ap (λ x. entry_of a x ++ entries_from (a + 1) (map (element_at (e ∷ entries)) (range_with_len (a + 1) n))) (element-none (e.0 + 1) (a + suc n) a entries (omega arith) h.3)
        ∙ later (e ∷ entries) (omega arith, subst (λ k. e.0 < k) end h.1, h.2, subst (λ k. Stand (e.0 + 1) k entries) end h.3)

module _ (F : Ops) (L : IsField F) where
  starts : (count : ℕ) (entries : List (ℕ × ℕ)) → All (λ e. (1 ≤ e.0) × (e.0 ≤ count)) entries → Starts 1 entries
  unfolding Starts
  starts count [] h = tt
  starts count (e ∷ entries) h = (All-head (λ (e : ℕ × ℕ). (1 ≤ e.0) × (e.0 ≤ count)) e entries h).0

  element-below : (entries : List (ℕ × ℕ)) (m : ℕ) → All (λ e. e.1 < F.size) entries → element_at entries m < F.size
  element-below [] m h = zero_below F L
  element-below (e ∷ entries) m h = by_test (eqb e.0 m) (element-below entries m (All-tail (λ (e : ℕ × ℕ). e.1 < F.size) e entries h))
    where
      by_test : (b : Bool) → element_at entries m < F.size → cond b e.1 (element_at entries m) < F.size
      by_test true l = All-head (λ (e : ℕ × ℕ). e.1 < F.size) e entries h
      by_test false l = l

  all-elements : (entries : List (ℕ × ℕ)) (ms : List ℕ) → All (λ e. e.1 < F.size) entries → AreElements F (map (element_at entries) ms)
  all-elements entries [] h = tt
  all-elements entries (m ∷ ms) h = (element-below entries m h, all-elements entries ms h)

  pub cochain-vector : (count : ℕ) (entries : List (ℕ × ℕ)) → AreEntries F count entries → IsVector F count (cochain_of count entries)
  cochain-vector count entries h = record { long = length-map (upto count) (element_at entries) ∙ length-upto count; elements = all-elements entries (upto count) h.elements }

  pub entries_are_cochains : EntriesAreCochains F
  entries_are_cochains = record {
    there = there-from 1;
    back = λ count entries h. back-from 1 count entries (stands 1 (1 + count) entries (starts count entries h.numbers) h.sparse.increasing h.sparse.nonzero (λ k d l. let r = h.numbers k d l in omega (arith, r.1)));
    vector = cochain-vector;
  }

  -- ---- lines

  zeros-from : (xs : List ℕ) → all_zero xs ≡ true → xs ≡ replicate (length xs) 0
  zeros-from [] h = refl
  zeros-from (x ∷ xs) h = by_test (eqb x 0) refl h (zeros-from xs)
    where
      by_test : (b : Bool) → eqb x 0 ≡ b → (b && all_zero xs) ≡ true → (all_zero xs ≡ true → xs ≡ replicate (length xs) 0) → x ∷ xs ≡ 0 ∷ replicate (length xs) 0
      by_test true e h later = ap (λ y. y ∷ xs) (eqb-true x 0 e) ∙ ap (λ ys. 0 ∷ ys) (later h)
      by_test false e h later = absurd (cc)

  pub class_lines_are_cocycles : ClassLinesAreCocycles F
  class_lines_are_cocycles space degree left h t = record {
    cochain = cochain-vector (length (chains_of space degree)) left h;
    closed = zeros-from (coboundary F space degree (cochain_in space degree left)) t
        ∙ ap (λ n. replicate n 0) (length-map (chains_of space (suc degree)) (coboundary_at F (chains_of space degree) (cochain_in space degree left)));
  }

  pub product_lines_are_products : ProductLinesAreProducts F
  product_lines_are_products space i j degree a b coefficients bound lefts e hc hb t =
      let n : ℕ = length (chains_of space (suc degree)) in
      let zs : List (List ℕ) = map (cochain_of n) lefts in
      let cs : List ℕ = cochain_of (length lefts) coefficients in
      let d : List ℕ = coboundary F space degree (cochain_in space degree bound) in
      let product : List ℕ = map (cup_at F i (chains_of space i) (cochain_in space i a) (chains_of space j) (cochain_in space j b)) (chains_of space (suc degree)) in
      subst (λ k. IsClass F space k zs cs (map (cup_at F i (chains_of space i) (cochain_in space i a) (chains_of space j) (cochain_in space j b)) (chains_of space k))) (sym e)
      (record {
        elements = subst (λ k. IsVector F k cs) (sym (length-map lefts (cochain_of n))) (cochain-vector (length lefts) coefficients hc);
        rest = d;
        coboundary = (cochain_in space degree bound, cochain-vector (length (chains_of space degree)) bound hb, refl);
        is_sum = (bytes_eq-Decides product (plus_scaled F 1 d (combination F n cs zs))).0 t;
      })

  -- ---- the test of each line, and its equations

  both : (a b : Bool) → (a && b) ≡ true → (a ≡ true) × (b ≡ true)
  both true b h = (refl, h)
  both false b h = absurd (cc)

  not-zero-from : (x : ℕ) → not (eqb x 0) ≡ true → x ≢ 0
  not-zero-from x h e = let yes : eqb x 0 ≡ true = eq-eqb x 0 e in let no_more : not true ≡ true = ap not (sym yes) ∙ h in absurd (cc)

  from-not-zero : (x : ℕ) → x ≢ 0 → not (eqb x 0) ≡ true
  from-not-zero x ne = ap not (ne_eqb x 0 ne)

  all-zero-from : (f : List (ℕ × ℕ) → ℕ) (ts : List (List (ℕ × ℕ))) → list_all (λ t. eqb (f t) 0) ts ≡ true → AllByRecursion (λ t. f t ≡ 0) ts
  all-zero-from f [] h = tt
  all-zero-from f (t ∷ ts) h = let r = both (eqb (f t) 0) (list_all (λ t. eqb (f t) 0) ts) h in (eqb-true (f t) 0 r.0, all-zero-from f ts r.1)

  from-all-zero : (f : List (ℕ × ℕ) → ℕ) (ts : List (List (ℕ × ℕ))) → AllByRecursion (λ t. f t ≡ 0) ts → list_all (λ t. eqb (f t) 0) ts ≡ true
  from-all-zero f [] h = refl
  from-all-zero f (t ∷ ts) h = ap (λ b. b && list_all (λ t. eqb (f t) 0) ts) (eq-eqb (f t) 0 h.0) ∙ from-all-zero f ts h.1

  zeros-are : (n : ℕ) → all_zero (replicate n 0) ≡ true
  zeros-are zero = refl
  zeros-are (suc n) = zeros-are n

  -- a list of so many elements is tested to be zero exactly where it is
  zero-test : (n : ℕ) (xs : List ℕ) → length xs ≡ n → (all_zero xs ≡ true) ↔ (xs ≡ replicate n 0)
  zero-test n xs l = (λ h. zeros-from xs h ∙ ap (λ k. replicate k 0) l, λ e. ap all_zero e ∙ zeros-are n)

  rank-test : (value : List (ℕ × ℕ) → ℕ) (before : List (List (ℕ × ℕ))) (right : List (ℕ × ℕ))
      → ((not (eqb (value right) 0) && list_all (λ earlier. eqb (value earlier) 0) before) ≡ true) ↔ ((value right ≢ 0) × AllByRecursion (λ earlier. value earlier ≡ 0) before)
  rank-test value before right = (
    λ h. let r = both (not (eqb (value right) 0)) (list_all (λ earlier. eqb (value earlier) 0) before) h in (not-zero-from (value right) r.0, all-zero-from value before r.1),
    λ r. ap (λ b. b && list_all (λ earlier. eqb (value earlier) 0) before) (from-not-zero (value right) r.0) ∙ from-all-zero value before r.1,
  )

  pub tests_are_equations : TestsAreEquations F
  tests_are_equations = record {
    rank = λ chains next before left right. rank-test (value_on F (coboundary_on F chains next (cochain_of (length chains) left))) before right;
    cocycle = λ chains next left. zero-test (length next) (coboundary_on F chains next (cochain_of (length chains) left)) (length-map next (coboundary_at F chains (cochain_of (length chains) left)));
    cycle = λ below chains right.
        zero-test (length below) (boundary_on F below chains (cochain_of (length chains) right))
        (length-map below (λ chain. evaluation F (coboundary_on F below chains (mark_of below chain)) (cochain_of (length chains) right)));
    pairing = λ chains rights place left. bytes_eq-Decides (map (value_on F (cochain_of (length chains) left)) rights) (mark (length rights) place);
    product = λ i chains_i a chains_j b below chains lefts coefficients bound.
        bytes_eq-Decides (map (cup_at F i chains_i (cochain_of (length chains_i) a) chains_j (cochain_of (length chains_j) b)) chains)
        (plus_scaled F 1 (coboundary_on F below chains (cochain_of (length below) bound)) (combination F (length chains) (cochain_of (length lefts) coefficients) (map (cochain_of (length chains)) lefts)));
  }
