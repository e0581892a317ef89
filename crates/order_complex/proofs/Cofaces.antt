-- Boundaries by the cofaces of a chain.
use Rattle.std.proofs.Common.{◌≡◌, ℕ, zero, suc, ◌+◌, ◌-◌, ◌<◌, ◌≤◌, List, [], ◌∷◌, ◌++◌, Bool, true, false, cond, not, ◌||◌, eqb, map, filter, take, length, get_or, Contains, refl, ap, sym, ◌∙◌, subst, arith, eq-eqb}
use Rattle.std.specs.Option.{unwrap_or}
use Rattle.std.specs.Str.{bytes_eq}
use Rattle.std.specs.List.{AllByRecursion, range_with_len}
use Rattle.std.proofs.lemmas.Bool.{eqb-true, ne_eqb}
use Rattle.std.proofs.lemmas.List.{length-map, get_or-map, take_more}
use Rattle.small_field.specs.Field.{Ops, IsField}
use Rattle.small_field.proofs.CallerLemmas.{zero_below, add_zero, zero_mul, neg_mul, neg_zero, neg_neg}
use Rattle.linear_laws.specs.Vectors.{dot}
use Rattle.small_field.specs.Values.{AreElements}
use Rattle.face_poset.specs.Words.{upto, holds}
use Rattle.face_poset.specs.Poset.{layer, count, facets_of, cofaces_of}
use Rattle.number_lists.specs.Cofaces.{cells_with}
use Rattle.number_lists.proofs.CallerLemmas.{holds-Contains, In-inside, at-In, filter-In, upto-In}
use Rattle.number_lists.specs.Members.{In}
use Rattle.order_complex.specs.Chains.{chains_of}
use Rattle.order_complex.specs.Cochains.{alternating, leave_out, value, mark, coboundary_at, coboundary_on, boundary}
use Rattle.order_complex.specs.Complex.{number_or_zero, facet_numbers, facet_lists, complex_of, stands_odd, negative_in}
use Rattle.order_complex.proofs.Chained.{leave_out-member}
use Rattle.order_complex.proofs.Ordered.{ordered-chains_of}
use Rattle.order_complex.proofs.Numbers.{number-at}
use Rattle.order_complex.proofs.Graded.{Falls, numbers-fall, placed}
use Rattle.order_complex.proofs.Cancel.{holds-reverse, complex-count}
use Rattle.order_complex.proofs.Twice.{bytes_eq-refl, bytes_eq-true, value-map, map-members}

-- the element, or its negative
abbrev pub with_sign : Ops → (odd : Bool) → ℕ → ℕ
with_sign F odd x = cond odd (F.neg x) x

-- the sum of the elements at these numbers, each with its sign
abbrev pub signed_sum : Ops → (odd : ℕ → Bool) → (element : ℕ → ℕ) → List ℕ → ℕ
signed_sum F odd element [] = 0
signed_sum F odd element (n ∷ ns) = F.add (with_sign F (odd n) (element n)) (signed_sum F odd element ns)

abbrev pub weight : Ops → (here odd : Bool) → ℕ
weight F here odd = cond here (with_sign F odd 1) 0

abbrev delta : ℕ → ℕ → ℕ
delta t m = cond (eqb m t) 1 0

map_map : (g : ℕ → ℕ) (f : List ℕ → ℕ) (xs : List (List ℕ)) → map g (map f xs) ≡ map (λ x. g (f x)) xs
map_map g f [] = refl
map_map g f (x ∷ xs) = ap (λ r. g (f x) ∷ r) (map_map g f xs)

module _ (F : Ops) (L : IsField F) where
  -- ---- sums with signs

  signed_sum-below : (odd : ℕ → Bool) (element : ℕ → ℕ) (ns : List ℕ) → signed_sum F odd element ns < F.size
  signed_sum-below odd element [] = zero_below F L
  signed_sum-below odd element (n ∷ ns) = L.add_below (with_sign F (odd n) (element n)) (signed_sum F odd element ns)

  signed_sum-last : (odd : ℕ → Bool) (element : ℕ → ℕ) (ns : List ℕ) (n : ℕ) → signed_sum F odd element (ns ++ n ∷ []) ≡ F.add (signed_sum F odd element ns) (with_sign F (odd n) (element n))
  signed_sum-last odd element [] n = L.add_comm (with_sign F (odd n) (element n)) 0
  signed_sum-last odd element (m ∷ ns) n =
      ap (F.add (with_sign F (odd m) (element m))) (signed_sum-last odd element ns n) ∙ sym (L.add_assoc (with_sign F (odd m) (element m)) (signed_sum F odd element ns) (with_sign F (odd n) (element n)))

  pub one_coface_more : (odd : ℕ → Bool) (element : ℕ → ℕ) (ns : List ℕ) (i n v x now : ℕ) → i < length ns → n ≡ get_or ns i n
      → v ≡ signed_sum F odd element (take i ns) → x ≡ with_sign F (odd n) (element n) → now ≡ F.add v x → now ≡ signed_sum F odd element (take (i + 1) ns)
  one_coface_more odd element ns i n v x now l e m h a =
      a ∙ ap (λ k. F.add k x) m ∙ ap (F.add (signed_sum F odd element (take i ns))) h
      ∙ sym (ap (signed_sum F odd element) (take_more ns i n l ∙ ap (λ k. take i ns ++ k ∷ []) (sym e)) ∙ signed_sum-last odd element (take i ns) n)

  times_sign : (o : Bool) (y : ℕ) → y < F.size → F.mul (with_sign F o 1) y ≡ with_sign F o y
  times_sign true y b = neg_mul F L 1 y ∙ ap F.neg (L.one_mul y b)
  times_sign false y b = L.one_mul y b

  one_more : (h : Bool) (odd : ℕ → Bool) (element : ℕ → ℕ) (y a : ℕ) (rest : List ℕ) → y ≡ element a → y < F.size
      → F.add (F.mul (weight F h (odd a)) y) (signed_sum F odd element rest) ≡ signed_sum F odd element (cond h (a ∷ rest) rest)
  one_more true odd element y a rest e b = ap (λ n. F.add n (signed_sum F odd element rest)) (times_sign (odd a) y b ∙ ap (with_sign F (odd a)) e)
  one_more false odd element y a rest e b = ap (λ n. F.add n (signed_sum F odd element rest)) (zero_mul F L y) ∙ L.zero_add (signed_sum F odd element rest) (signed_sum-below odd element rest)

  -- the products with 1, -1 and 0 are the elements with signs where they are not 0
  dot-filter : (ws ys : List ℕ) (a : ℕ) (here odd : ℕ → Bool) (element : ℕ → ℕ) → length ys ≡ length ws → AreElements F ys
      → ((i : ℕ) → i < length ws → get_or ws i 0 ≡ weight F (here (a + i)) (odd (a + i))) → ((i : ℕ) → i < length ws → get_or ys i 0 ≡ element (a + i))
      → dot F ws ys ≡ signed_sum F odd element (filter here (range_with_len a (length ws)))
  dot-filter [] ys a here odd element l b hw hy = refl
  dot-filter (w ∷ ws) [] a here odd element l b hw hy = absurd (omega arith)
  dot-filter (w ∷ ws) (y ∷ ys) a here odd element l b hw hy =
      let zero_more : a + 0 ≡ a = omega arith in
      let later : (i : ℕ) → a + suc i ≡ a + 1 + i = λ i. omega arith in
      let rest = dot-filter ws ys (a + 1) here odd element (omega arith) b.1 (λ i k. hw (suc i) (omega arith) ∙ ap (λ j. weight F (here j) (odd j)) (later i)) (λ i k. hy (suc i) (omega arith) ∙ ap element (later i)) in
      ap (λ v. F.add (F.mul v y) (dot F ws ys)) (hw 0 (omega arith) ∙ ap (λ j. weight F (here j) (odd j)) zero_more)
      ∙ ap (F.add (F.mul (weight F (here a) (odd a)) y)) rest
      ∙ one_more (here a) odd element y a (filter here (range_with_len (a + 1) (length ws))) (hy 0 (omega arith) ∙ ap element zero_more) b.0

  -- ---- the coboundary of a mark

  deltas-zero : (t : ℕ) (ms : List ℕ) → AllByRecursion (λ m. m < t) ms → alternating F (map (delta t) ms) ≡ 0
  deltas-zero t [] h = refl
  deltas-zero t (m ∷ ms) h =
      ap (λ b. F.add (cond b 1 0) (F.neg (alternating F (map (delta t) ms)))) (ne_eqb m t (λ e. let less : m < t = h.0 in omega arith))
      ∙ ap (λ n. F.add 0 (F.neg n)) (deltas-zero t ms h.1) ∙ ap (F.add 0) (neg_zero F L) ∙ L.zero_add 0 (zero_below F L)

  flip : (h o : Bool) → F.add 0 (F.neg (weight F h o)) ≡ weight F h (not o)
  flip true true = L.zero_add (F.neg (F.neg 1)) (L.neg_below (F.neg 1)) ∙ neg_neg F L 1 L.one_below
  flip true false = L.zero_add (F.neg 1) (L.neg_below 1)
  flip false o = ap (F.add 0) (neg_zero F L) ∙ L.zero_add 0 (zero_below F L)

  signed-one : (t : ℕ) (ms : List ℕ) → Falls ms → alternating F (map (delta t) ms) ≡ weight F (holds ms t) (stands_odd ms t)
  signed-one t [] f = refl
  signed-one t (m ∷ ms) f = by_test (eqb m t) refl (signed-one t ms f.1)
    where
      by_test : (b : Bool) → eqb m t ≡ b → alternating F (map (delta t) ms) ≡ weight F (holds ms t) (stands_odd ms t)
          → F.add (cond b 1 0) (F.neg (alternating F (map (delta t) ms))) ≡ weight F (b || holds ms t) (cond b false (not (stands_odd ms t)))
      by_test true e later =
          ap (λ n. F.add 1 (F.neg n)) (deltas-zero t ms (subst (λ n. AllByRecursion (λ k. k < n) ms) (eqb-true m t e) f.0)) ∙ ap (F.add 1) (neg_zero F L) ∙ add_zero F L 1 L.one_below
      by_test false e later = ap (λ n. F.add 0 (F.neg n)) later ∙ flip (holds ms t) (stands_odd ms t)

module _ (space : List (List (List ℕ))) where
  -- equal chains are those with equal numbers
  same-number : (degree : ℕ) (x b : List ℕ) → In x (chains_of space degree) → In b (chains_of space degree)
      → bytes_eq x b ≡ eqb (number_or_zero (chains_of space degree) x) (number_or_zero (chains_of space degree) b)
  same-number degree x b mx mb = by_test (bytes_eq x b) refl
    where
      by_test : (t : Bool) → bytes_eq x b ≡ t → t ≡ eqb (number_or_zero (chains_of space degree) x) (number_or_zero (chains_of space degree) b)
      by_test true e = sym (eq-eqb _ _ (ap (number_or_zero (chains_of space degree)) (bytes_eq-true x b e)))
      by_test false e =
          sym (ne_eqb _ _ (λ same.
          let p = placed (chains_of space degree) x (ordered-chains_of space degree) mx in
          let q = placed (chains_of space degree) b (ordered-chains_of space degree) mb in
          let places : p.place ≡ q.place = omega (arith, p.number, q.number, same) in
          let equal : x ≡ b = sym p.there ∙ ap (λ k. get_or (chains_of space degree) k []) places ∙ q.there in
          let yes : bytes_eq x b ≡ true = ap (λ y. bytes_eq x y) (sym equal) ∙ bytes_eq-refl x in
          cc))

  -- the number of the chain at a place
  pub number-of : (degree number : ℕ) → 1 ≤ number → number ≤ length (chains_of space degree) → number_or_zero (chains_of space degree) (get_or (chains_of space degree) (number - 1) []) ≡ number
  number-of degree number first last =
      ap (λ o. unwrap_or o 0) (number-at (chains_of space degree) (get_or (chains_of space degree) (number - 1) []) (number - 1) (ordered-chains_of space degree) (omega arith) refl) ∙ omega arith

  pub layer-facets : (degree : ℕ) → degree ≤ 2 → layer (complex_of space) (degree + 1) ≡ facet_lists space (suc degree)
  layer-facets zero l = refl
  layer-facets (suc zero) l = refl
  layer-facets (suc (suc zero)) l = refl
  layer-facets (suc (suc (suc degree))) l = absurd (omega arith)

  length-facet_lists : (degree : ℕ) → length (facet_lists space (suc degree)) ≡ length (chains_of space (suc degree))
  length-facet_lists degree = length-map (chains_of space (suc degree)) (facet_numbers (chains_of space degree))

  module _ (F : Ops) (L : IsField F) where
    -- what the coboundary of a mark takes: the sign at a facet, else 0
    pub coboundary-mark : (degree number : ℕ) (b c : List ℕ) → In b (chains_of space degree) → In c (chains_of space (suc degree)) → number_or_zero (chains_of space degree) b ≡ number
        → coboundary_at F (chains_of space degree) (mark (chains_of space degree) b) c
        ≡ weight F (holds (map (number_or_zero (chains_of space degree)) (leave_out c)) number) (stands_odd (map (number_or_zero (chains_of space degree)) (leave_out c)) number)
    coboundary-mark degree number b c mb mc e =
        let chains : List (List ℕ) = chains_of space degree in
        ap (alternating F)
        (map-members (value chains (mark chains b)) (λ x. delta number (number_or_zero chains x)) (leave_out c)
        (λ x m. let mx = leave_out-member space degree c mc x m in
        value-map (λ y. cond (bytes_eq y b) 1 0) chains x mx ∙ ap (λ t. cond t 1 0) (same-number degree x b mx mb ∙ ap (eqb (number_or_zero chains x)) e))
        ∙ sym (map_map (delta number) (number_or_zero chains) (leave_out c)))
        ∙ signed-one F L number (map (number_or_zero chains) (leave_out c)) (numbers-fall space degree c mc)

    -- the boundary at a chain is the sum over its cofaces
    pub boundary-cofaces : (degree number : ℕ) (cs : List ℕ) → degree ≤ 2 → 1 ≤ number → number ≤ length (chains_of space degree) → length cs ≡ length (chains_of space (suc degree)) → AreElements F cs
        → get_or (boundary F space degree cs) (number - 1) 0
        ≡ signed_sum F (λ n. negative_in space (suc degree) n number) (λ n. get_or cs (n - 1) 0) (cofaces_of (complex_of space) degree number)
    boundary-cofaces degree number cs small first last l els =
        let chains : List (List ℕ) = chains_of space degree in
        let next : List (List ℕ) = chains_of space (suc degree) in
        let b : List ℕ = get_or chains (number - 1) [] in
        let mb : In b chains = at-In chains (number - 1) [] (omega arith) in
        let ws : List ℕ = map (coboundary_at F chains (mark chains b)) next in
        let lw : length ws ≡ length next = length-map next (coboundary_at F chains (mark chains b)) in
        let here : ℕ → Bool = λ n. holds (get_or (facet_lists space (suc degree)) (n - 1) []) number in
        let odd : ℕ → Bool = λ n. negative_in space (suc degree) n number in
        let element : ℕ → ℕ = λ n. get_or cs (n - 1) 0 in
        get_or-map (λ chain. dot F (coboundary_on F chains next (mark chains chain)) cs) chains (number - 1) [] 0 (omega arith)
        ∙ dot-filter F L ws cs 1 here odd element (l ∙ sym lw) els (λ i k. at i (omega (arith, lw))) (λ i k. let e : i ≡ 1 + i - 1 = omega arith in ap (λ j. get_or cs j 0) e)
        ∙ ap (λ n. signed_sum F odd element (filter here (range_with_len 1 n))) (lw ∙ sym (length-facet_lists degree))
        ∙ ap (λ cells. signed_sum F odd element (cells_with cells number)) (sym (layer-facets degree small))
      where
        at : (i : ℕ) → i < length (chains_of space (suc degree))
            → get_or (map (coboundary_at F (chains_of space degree) (mark (chains_of space degree) (get_or (chains_of space degree) (number - 1) []))) (chains_of space (suc degree))) i 0
            ≡ weight F (holds (get_or (facet_lists space (suc degree)) (1 + i - 1) []) number) (negative_in space (suc degree) (1 + i) number)
        at i k =
            let chains : List (List ℕ) = chains_of space degree in
            let next : List (List ℕ) = chains_of space (suc degree) in
            let b : List ℕ = get_or chains (number - 1) [] in
            let c : List ℕ = get_or next i [] in
            let ms : List ℕ = map (number_or_zero chains) (leave_out c) in
            let e : i ≡ 1 + i - 1 = omega arith in
            get_or-map (coboundary_at F chains (mark chains b)) next i [] 0 k
            ∙ coboundary-mark degree number b c (at-In chains (number - 1) [] (omega arith)) (at-In next i [] k) (number-of degree number first last)
            ∙ ap (λ t. weight F t (stands_odd ms number)) (sym (holds-reverse number ms) ∙ ap (λ fs. holds fs number) (sym (get_or-map (facet_numbers chains) next i [] [] k)))
            ∙ ap (λ j. weight F (holds (get_or (facet_lists space (suc degree)) j []) number) (stands_odd (map (number_or_zero chains) (leave_out (get_or next j []))) number)) e

  -- ---- cofaces of a chain

  -- a coface is the number of a chain of one degree more that has the facet
  pub coface-is : (degree number i : ℕ) → degree ≤ 2 → i < length (cofaces_of (complex_of space) degree number)
      → let n : ℕ = get_or (cofaces_of (complex_of space) degree number) i 0 in (1 ≤ n) × (n ≤ length (chains_of space (degree + 1))) × Contains (facets_of (complex_of space) (degree + 1) n) number
  coface-is degree number i small l =
      let cells : List (List ℕ) = layer (complex_of space) (degree + 1) in
      let n : ℕ = get_or (cells_with cells number) i 0 in
      let p : ℕ → Bool = λ n. holds (get_or cells (n - 1) []) number in
      let at : In n (cells_with cells number) = at-In (cells_with cells number) i 0 l in
      let r = upto-In (length cells) n (In-inside p (upto (length cells)) at) in
      (r.0, omega (arith, r.1, complex-count space degree small), holds-Contains (get_or cells (n - 1) []) number (filter-In p (upto (length cells)) at))

  pub count-chains : (degree : ℕ) → degree ≤ 3 → count (complex_of space) degree ≡ length (chains_of space degree)
  count-chains zero small = length-map {B = List ℕ} (chains_of space 0) (λ chain. [])
  count-chains (suc zero) small = length-facet_lists 0
  count-chains (suc (suc zero)) small = length-facet_lists 1
  count-chains (suc (suc (suc zero))) small = length-facet_lists 2
  count-chains (suc (suc (suc (suc degree)))) small = absurd (omega arith)

  -- ---- the same by the degree of the cofaces

  pub coface-at : (degree number i n : ℕ) → 1 ≤ degree → degree ≤ 3 → i < length (cofaces_of (complex_of space) (degree - 1) number) → n ≡ get_or (cofaces_of (complex_of space) (degree - 1) number) i 0
      → (1 ≤ n) × (n ≤ length (chains_of space degree)) × Contains (facets_of (complex_of space) degree n) number
  coface-at degree number i n low high l e =
      let up : degree - 1 + 1 ≡ degree = omega arith in
      subst (λ k. (1 ≤ n) × (n ≤ length (chains_of space k)) × Contains (facets_of (complex_of space) k n) number) up
      (subst (λ m. (1 ≤ m) × (m ≤ length (chains_of space (degree - 1 + 1))) × Contains (facets_of (complex_of space) (degree - 1 + 1) m) number) (sym e) (coface-is (degree - 1) number i (omega arith) l))

  pub boundary-at : (F : Ops) → IsField F → (degree number : ℕ) (cs : List ℕ) → 1 ≤ degree → degree ≤ 3 → 1 ≤ number → number ≤ length (chains_of space (degree - 1)) → length cs ≡ length (chains_of space degree) → AreElements F cs
      → signed_sum F (λ n. negative_in space degree n number) (λ n. get_or cs (n - 1) 0) (cofaces_of (complex_of space) (degree - 1) number) ≡ get_or (boundary F space (degree - 1) cs) (number - 1) 0
  boundary-at F L degree number cs low high first last l els =
      let up : suc (degree - 1) ≡ degree = omega arith in
      ap (λ k. signed_sum F (λ n. negative_in space k n number) (λ n. get_or cs (n - 1) 0) (cofaces_of (complex_of space) (degree - 1) number)) (sym up)
      ∙ sym (boundary-cofaces F L (degree - 1) number cs (omega arith) first last (l ∙ ap (λ k. length (chains_of space k)) (sym up)) els)
