-- The points above each point, from the last one to the first.
use Rattle.std.proofs.Common.{◌≡◌, ◌⊎◌, inl, inr, ◌<◌, ◌≤◌, ◌+◌, ◌-◌, ℕ, zero, suc, List, [], ◌∷◌, ◌++◌, length, map, take, get_or, refl, ap, sym, ◌∙◌, subst, arith, Bool, true, false, cond, ◌==◌, All, Contains, append-nil}
use Rattle.std.specs.List.{flat_map, concat, range_with_len}
use Rattle.std.proofs.lemmas.Bool.{eqb-true, eq-eqb, false≢true}
use Rattle.std.proofs.lemmas.Grind.{flat_map-append}
use Rattle.std.proofs.lemmas.List.{map-append, take_more, length-append}
use Rattle.std.proofs.lemmas.List.FromFn.{get_or-map-range_with_len, length-map-range_with_len}
use Rattle.std.proofs.lemmas.List.Folds.{concat-append}
use Rattle.number_lists.specs.Words.{upto, holds}
use Rattle.number_lists.specs.Members.{In, here, there}
use Rattle.number_lists.specs.Cofaces.{cells_with, coface_lists}
use Rattle.number_lists.proofs.CallerLemmas.{In-cases, In-map, map-In, In-flat_map, flat_map-In, In-filter, filter-In, In-inside, holds-In, In-holds, at-In, upto-In, In-upto, In-Contains, Contains-In, same_bool, members_sorted}
use Rattle.tuple_spaces.proofs.CallerLemmas.{range-more}
use Rattle.facet_reader.specs.Orders.{is_below, leads}
use Rattle.facet_reader.specs.OrderLaws.{through, AreRelations}
use Rattle.facet_reader.specs.Chains.{pair_of, pairs_of, second_of, IsPair, AreNext, points_above, first_above, all_above, joined}
use Rattle.facet_reader.proofs.Ranked.{In-order, order-In, order-rises, rises-increasing}
use Rattle.facet_reader.proofs.ChainLemmas.{led, lead, leads-below, rises, larger, below-leads}

-- a member by its place
pub member-at : {A : Type 0} {x : A} {xs : List A} → In x xs → (k : ℕ) × (k < length xs) × ((d : A) → get_or xs k d ≡ x)
member-at here = (0, omega arith, λ d. refl)
member-at (there i) = let r = member-at i in (suc r.0, omega (arith, r.1), r.2)

-- ---- relations by lists of two

pub pair-relations : (n : ℕ) (rows : List (List ℕ)) → All (IsPair n) rows → AreRelations n (pairs_of rows)
pair-relations n rows are a b i =
    let r = map-In pair_of rows i in
    let m = member-at r.1 in
    let p : IsPair n r.0 = subst (IsPair n) (m.2 []) (are m.0 [] m.1) in
    let first : (1 ≤ get_or r.0 0 0) × (get_or r.0 0 0 ≤ n) = p.rising.within 0 0 (omega (arith, p.two)) in
    let second : (1 ≤ get_or r.0 1 0) × (get_or r.0 1 0 ≤ n) = p.rising.within 1 0 (omega (arith, p.two)) in
    let up : get_or r.0 0 0 < get_or r.0 1 0 = p.rising.rises 0 (omega (arith, p.two)) in
    let q : a ≡ get_or r.0 0 0 = first_is a b (get_or r.0 0 0) (get_or r.0 1 0) r.2 in
    let s : b ≡ get_or r.0 1 0 = second_is a b (get_or r.0 0 0) (get_or r.0 1 0) r.2 in
    (omega (arith, first.0, q), omega (arith, up, q, s), omega (arith, second.1, s))
  where
    first_is : (a b c d : ℕ) → ◌≡◌ {A = ℕ × ℕ} (a, b) (c, d) → a ≡ c
    first_is a b c d e = ap (λ (p : ℕ × ℕ). p.0) e

    second_is : (a b c d : ℕ) → ◌≡◌ {A = ℕ × ℕ} (a, b) (c, d) → b ≡ d
    second_is a b c d e = ap (λ (p : ℕ × ℕ). p.1) e

-- ---- one relation, and those after it

module _ (n : ℕ) (relations : List (ℕ × ℕ)) (are : AreRelations n relations) where
  pub record IsStep (a z : ℕ) : Type 0 where
    pub next : ℕ
    pub among : In (a, next) relations
    pub on : (z ≡ next) ⊎ (is_below n relations next z ≡ true)

  pub below-step : (a z : ℕ) → is_below n relations a z ≡ true → IsStep a z
  below-step a z h = by_size n refl h
    where
      by_size : (m : ℕ) → m ≡ n → leads m relations a z ≡ true → IsStep a z
      by_size zero e q = absurd (false≢true q)
      by_size (suc k) e q =
          let r = led n relations are k a z q in
          record {
            next = r.next;
            among = r.among;
            on = elim r.on [ inl s ↦ inl (sym s) | inr s ↦ inr (larger n relations are k n r.next z s (omega (arith, e))) ];
          }

  pub step-below : (a y z : ℕ) → In (a, y) relations → (z ≡ y) ⊎ (is_below n relations y z ≡ true) → is_below n relations a z ≡ true
  step-below a y z i h =
      below-leads n relations are (leads-below n relations are (suc n) a z (lead n relations are n a z y i (elim h [ inl e ↦ inl (sym e) | inr q ↦ inr q ])))

  pub below-rises : (a z : ℕ) → is_below n relations a z ≡ true → (1 ≤ a) × (a < z) × (z ≤ n)
  below-rises a z h = rises n relations are (leads-below n relations are n a z h)

  pub below-through : (a b c : ℕ) → is_below n relations a b ≡ true → is_below n relations b c ≡ true → is_below n relations a c ≡ true
  below-through a b c h k = below-leads n relations are (through (leads-below n relations are n a b h) (leads-below n relations are n b c k))

  above-In : (a z : ℕ) → is_below n relations a z ≡ true → In z (points_above n relations a)
  above-In a z h = let r = below-rises a z h in In-filter (is_below n relations a) (In-upto n z (omega (arith, r.0, r.1)) r.2) h

  -- the points above one are those that its relations lead to, and those above them
  pub joined-is : (rows : List (List ℕ)) (a : ℕ) (next : List ℕ) → AreNext relations a next → ((y : ℕ) → a < y → y ≤ n → get_or rows (n - y) [] ≡ points_above n relations y) → joined rows n next ≡ points_above n relations a
  joined-is rows a next h at =
      members_sorted (joined rows n next) (is_below n relations a) n (rises-increasing (order-rises all)) (λ z. same_bool (holds (joined rows n next) z) (is_below n relations a z) (to z) (from z))
      (λ z q. (let r = below-rises a z q in (omega (arith, r.0, r.1), r.2)))
    where
      f : ℕ → List ℕ
      f = λ y. y ∷ get_or rows (n - y) []

      all : List ℕ
      all = flat_map (λ y. y ∷ get_or rows (n - y) []) next

      to : (z : ℕ) → holds (joined rows n next) z ≡ true → is_below n relations a z ≡ true
      to z q =
          let r = flat_map-In (λ y. y ∷ get_or rows (n - y) []) next (order-In all z (holds-In (joined rows n next) q)) in
          let i : In (a, r.0) relations = h.leads r.0 r.1 in
          let p = are a r.0 i in
          step-below a r.0 z i (elim (In-cases r.2) [
            | inl e ↦ inl e
            | inr j ↦ inr (filter-In (is_below n relations r.0) (upto n) (subst (In z) (at r.0 p.1 p.2) j))
          ])

      from : (z : ℕ) → is_below n relations a z ≡ true → holds (joined rows n next) z ≡ true
      from z q =
          let s = below-step a z q in
          let p = are a s.next s.among in
          In-holds (In-order all z (In-flat_map (λ y. y ∷ get_or rows (n - y) []) (h.all s.next s.among)
          (elim s.on [
            | inl e ↦ subst (λ (w : ℕ). In w (s.next ∷ get_or rows (n - s.next) [])) (sym e) here
            | inr k ↦ there (subst (In z) (sym (at s.next p.1 p.2)) (above-In s.next z k))
          ])))

-- ---- lists of the points above

module _ (n : ℕ) (relations : List (ℕ × ℕ)) where
  pub length-first : (count : ℕ) → length (first_above n relations count) ≡ count
  length-first count = length-map-range_with_len (λ k. points_above n relations (n - k)) 0 count

  pub first-at : (count y : ℕ) → n - count < y → y ≤ n → get_or (first_above n relations count) (n - y) [] ≡ points_above n relations y
  first-at count y low high =
      let e : n - (n - y) ≡ y = omega (arith, high) in
      get_or-map-range_with_len (λ k. points_above n relations (n - k)) 0 count (n - y) (n - y) [] (omega (arith, low, high)) (omega arith) ∙ ap (points_above n relations) e

  pub first-more : (count : ℕ) → first_above n relations (count + 1) ≡ first_above n relations count ++ points_above n relations (n - count) ∷ []
  first-more count =
      ap (map (λ k. points_above n relations (n - k))) (range-more count) ∙ map-append (λ k. points_above n relations (n - k)) (range_with_len 0 count) (count ∷ [])

  concat-more : (count : ℕ) → length (concat (first_above n relations (count + 1))) ≡ length (concat (first_above n relations count)) + length (points_above n relations (n - count))
  concat-more count =
      let xs : List (List ℕ) = first_above n relations count in
      let x : List ℕ = points_above n relations (n - count) in
      let e : concat (first_above n relations (count + 1)) ≡ concat xs ++ concat (x ∷ []) = ap (λ (ys : List (List ℕ)). concat ys) (first-more count) ∙ concat-append xs (x ∷ []) in
      let f : concat (x ∷ []) ≡ x = append-nil x in
      omega (arith, ap (λ (ys : List ℕ). length ys) e, ap (λ (ys : List ℕ). length ys) f, length-append (concat xs) (concat (x ∷ [])))

  -- no fewer where more points are counted
  pub concat-part : (count more : ℕ) → length (concat (first_above n relations count)) ≤ length (concat (first_above n relations (count + more)))
  concat-part count zero = let e : count + 0 ≡ count = omega arith in omega (arith, ap (λ (k : ℕ). length (concat (first_above n relations k))) e)
  concat-part count (suc more) =
      let e : count + suc more ≡ count + more + 1 = omega arith in
      omega (arith, ap (λ (k : ℕ). length (concat (first_above n relations k))) e, concat-more (count + more), concat-part count more)

  -- as many as the points of the other direction have
  pub concat-down : (count : ℕ) → count ≤ n → length (concat (first_above n relations count)) ≡ length (flat_map (points_above n relations) (range_with_len (n - count + 1) count))
  concat-down zero l = refl
  concat-down (suc count) l =
      let e : suc count ≡ count + 1 = omega arith in
      let a : n - suc count + 1 ≡ n - count = omega (arith, l) in
      let rest : List ℕ = flat_map (points_above n relations) (range_with_len (n - count + 1) count) in
      let b : length (flat_map (points_above n relations) (range_with_len (n - count) (suc count))) ≡ length (points_above n relations (n - count)) + length rest = length-append (points_above n relations (n - count)) rest in
      omega (arith, ap (λ (k : ℕ). length (concat (first_above n relations k))) e, concat-more count, concat-down count (omega (arith, l)), b, ap (λ (k : ℕ). length (flat_map (points_above n relations) (range_with_len k (suc count)))) a)

  pub concat-all : length (concat (all_above n relations)) ≡ length (flat_map (points_above n relations) (upto n))
  concat-all =
      let e : n - n + 1 ≡ 1 = omega arith in
      omega (arith, concat-down n (omega arith), ap (λ (k : ℕ). length (flat_map (points_above n relations) (range_with_len k n))) e)

-- ---- the relations of a point

only : {b x : ℕ} → In b (x ∷ []) → b ≡ x
only k = elim (In-cases k) [ inl q ↦ q | inr q ↦ elim q [ ] ]

pair_is : (x y a b : ℕ) → x ≡ a → y ≡ b → ◌≡◌ {A = ℕ × ℕ} (x, y) (a, b)
pair_is x y a b p q = ap (λ (u : ℕ). (u, y)) p ∙ ap (λ (u : ℕ). (a, u)) q

second-In : (a b : ℕ) (row : List ℕ) → In b (second_of a row) → (get_or row 0 0 ≡ a) × (get_or row 1 0 ≡ b)
second-In a b row i = by_test (get_or row 0 0 == a) refl i
  where
    by_test : (t : Bool) → get_or row 0 0 == a ≡ t → In b (cond t (get_or row 1 0 ∷ []) []) → (get_or row 0 0 ≡ a) × (get_or row 1 0 ≡ b)
    by_test true e j = (eqb-true (get_or row 0 0) a e, sym (only j))
    by_test false e j = elim j [ ]

In-second : (a b : ℕ) (row : List ℕ) → get_or row 0 0 ≡ a → get_or row 1 0 ≡ b → In b (second_of a row)
In-second a b row p q = subst (λ (t : Bool). In b (cond t (get_or row 1 0 ∷ []) [])) (sym (eq-eqb (get_or row 0 0) a p)) (subst (λ (y : ℕ). In b (y ∷ [])) (sym q) here)

module _ (rows : List (List ℕ)) (a : ℕ) where
  -- the second point of the list with a number, where the first is a
  abbrev pub next_of : ℕ → List ℕ
  next_of r = second_of a (get_or rows (r - 1) [])

  pub next-more : (numbers : List ℕ) (i : ℕ) → i < length numbers → flat_map next_of (take (i + 1) numbers) ≡ flat_map next_of (take i numbers) ++ second_of a (get_or rows (get_or numbers i 0 - 1) [])
  next-more numbers i l =
      ap (flat_map next_of) (take_more numbers i 0 l) ∙ (flat_map-append next_of (take i numbers) (get_or numbers i 0 ∷ []) ∙ ap (λ (xs : List ℕ). flat_map next_of (take i numbers) ++ xs) (append-nil (next_of (get_or numbers i 0))))

  pub number-in : (numbers : List ℕ) (i : ℕ) → numbers ≡ cells_with rows a → i < length numbers → (1 ≤ get_or numbers i 0) × (get_or numbers i 0 ≤ length rows)
  number-in numbers i is l =
      upto-In (length rows) (get_or numbers i 0) (In-inside (λ m. holds (get_or rows (m - 1) []) a) (upto (length rows)) (subst (In (get_or numbers i 0)) is (at-In numbers i 0 l)))

  pub next-are : (numbers found sorted : List ℕ) → All (λ row. length row ≡ 2) rows → numbers ≡ cells_with rows a → found ≡ flat_map next_of numbers → ((z : ℕ) → Contains found z → Contains sorted z) → ((z : ℕ) → Contains sorted z → Contains found z)
      → AreNext (pairs_of rows) a sorted
  next-are numbers found sorted two is made keeps adds_none = record { leads = to; all = from }
    where
      to : (b : ℕ) → In b sorted → In (a, b) (pairs_of rows)
      to b i =
          let r = flat_map-In next_of numbers (subst (In b) made (Contains-In (adds_none b (In-Contains i)))) in
          let l = upto-In (length rows) r.0 (In-inside (λ m. holds (get_or rows (m - 1) []) a) (upto (length rows)) (subst (In r.0) is r.1)) in
          let row : List ℕ = get_or rows (r.0 - 1) [] in
          let j : In (pair_of (get_or rows (r.0 - 1) [])) (pairs_of rows) = In-map pair_of (at-In rows (r.0 - 1) [] (omega (arith, l.0, l.1))) in
          let p = second-In a b (get_or rows (r.0 - 1) []) r.2 in
          subst (λ (p : ℕ × ℕ). In p (pairs_of rows)) (pair_is (get_or row 0 0) (get_or row 1 0) a b p.0 p.1) j

      from : (b : ℕ) → In (a, b) (pairs_of rows) → In b sorted
      from b i =
          let r = map-In pair_of rows i in
          let m = member-at r.1 in
          let k : ℕ = m.0 in
          let l : m.0 < length rows = m.1 in
          let f : m.0 + 1 - 1 ≡ m.0 = omega arith in
          let row : get_or rows (m.0 + 1 - 1) [] ≡ r.0 = ap (λ (j : ℕ). get_or rows j []) f ∙ m.2 [] in
          let pair : pair_of (get_or rows (m.0 + 1 - 1) []) ≡ (a, b) = ap pair_of row ∙ sym r.2 in
          let long : length (get_or rows (m.0 + 1 - 1) []) ≡ 2 = two (m.0 + 1 - 1) [] (omega (arith, l)) in
          let first : get_or (get_or rows (m.0 + 1 - 1) []) 0 0 ≡ a = ap (λ (p : ℕ × ℕ). p.0) pair in
          let second : get_or (get_or rows (m.0 + 1 - 1) []) 1 0 ≡ b = ap (λ (p : ℕ × ℕ). p.1) pair in
          let stands : In a (get_or rows (m.0 + 1 - 1) []) = subst (λ (x : ℕ). In x (get_or rows (m.0 + 1 - 1) [])) first (at-In (get_or rows (m.0 + 1 - 1) []) 0 0 (omega (arith, long))) in
          let number : In (m.0 + 1) (cells_with rows a) = In-filter (λ m. holds (get_or rows (m - 1) []) a) (In-upto (length rows) (m.0 + 1) (omega arith) (omega (arith, l))) (In-holds stands) in
          let made_of : In b (next_of (m.0 + 1)) = In-second a b (get_or rows (m.0 + 1 - 1) []) first second in
          Contains-In (keeps b (In-Contains (subst (In b) (sym made) (In-flat_map next_of (subst (In (m.0 + 1)) (sym is) number) made_of))))

-- ---- the next point

pub cofaces-at : (n : ℕ) (rows lists : List (List ℕ)) (x : ℕ) → lists ≡ coface_lists n rows → 1 ≤ x → x ≤ n → get_or lists (x - 1) [] ≡ cells_with rows x
cofaces-at n rows lists x is low high =
    let e : 1 + (x - 1) ≡ x = omega (arith, low) in
    ap (λ (ls : List (List ℕ)). get_or ls (x - 1) []) is ∙ get_or-map-range_with_len (cells_with rows) 1 n (x - 1) x [] (omega (arith, low, high)) e

pub cofaces-long : (n : ℕ) (rows lists : List (List ℕ)) → lists ≡ coface_lists n rows → length lists ≡ n
cofaces-long n rows lists is = ap (λ (ls : List (List ℕ)). length ls) is ∙ length-map-range_with_len (cells_with rows) 1 n

pub next-high : (n : ℕ) (pairs : List (List ℕ)) (a : ℕ) (next : List ℕ) (k d : ℕ) → All (IsPair n) pairs → AreNext (pairs_of pairs) a next → k < length next → (a < get_or next k d) × (get_or next k d ≤ n)
next-high n pairs a next k d are h l = let r = pair-relations n pairs are a (get_or next k d) (h.leads (get_or next k d) (at-In next k d l)) in (r.1, r.2)

pub above-next : (n : ℕ) (pairs : List (List ℕ)) (i : ℕ) (above new : List (List ℕ)) (next row : List ℕ) → All (IsPair n) pairs → i < n → above ≡ first_above n (pairs_of pairs) i → AreNext (pairs_of pairs) (n - i) next → row ≡ joined above n next → new ≡ above ++ row ∷ []
    → new ≡ first_above n (pairs_of pairs) (i + 1)
above-next n pairs i above new next row are l is h made pushed =
    let relations : List (ℕ × ℕ) = pairs_of pairs in
    let r : row ≡ points_above n (pairs_of pairs) (n - i) =
    made
    ∙ joined-is n (pairs_of pairs) (pair-relations n pairs are) above (n - i) next h
    (λ y low high. ap (λ (rows : List (List ℕ)). get_or rows (n - y) []) is ∙ first-at n (pairs_of pairs) i y low high) in
    pushed ∙ (ap (λ (rows : List (List ℕ)). rows ++ row ∷ []) is ∙ (ap (λ (x : List ℕ). first_above n (pairs_of pairs) i ++ x ∷ []) r ∙ sym (first-more n (pairs_of pairs) i)))

pub above-many : (n : ℕ) (relations : List (ℕ × ℕ)) (count : ℕ) (above : List (List ℕ)) → count ≤ n → above ≡ first_above n relations count → 60000 < length (concat above) → 60000 < length (concat (all_above n relations))
above-many n relations count above l is many =
    let e : count + (n - count) ≡ n = omega (arith, l) in
    omega (arith, many, ap (λ (rows : List (List ℕ)). length (concat rows)) is, concat-part n relations count (n - count), ap (λ (k : ℕ). length (concat (first_above n relations k))) e)
