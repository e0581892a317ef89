-- Over a chain and a chain with two entries left out the products of signs cancel.
use Rattle.std.proofs.Common.{◌≡◌, ◌≢◌, inl, inr, ℕ, zero, suc, ◌+◌, ◌-◌, ◌*◌, ◌<◌, ◌≤◌, List, [], ◌∷◌, ◌++◌, Bool, true, false, cond, not, ◌||◌, eqb, map, reverse, length, get_or, refl, ap, sym, ◌∙◌, subst, arith, eq-eqb}
use Rattle.std.specs.Prelude.{ℤ, pos, negsuc, ◌+ℤ◌, ◌-ℤ◌, ◌*ℤ◌}
use Rattle.std.specs.List.{AllByRecursion}
use Rattle.std.proofs.Math.IntN.{neg_ℤ, +ℤ_assoc, +ℤ_comm, +ℤ_idr, +ℤ_idl, neg_ℤ-+ℤ, neg_ℤ-neg_ℤ, *ℤ_comm, pos-*ℤ-pos, negsuc-*ℤ-pos, *ℤ-zero, *ℤ-negsuc}
use Rattle.std.proofs.lemmas.Bool.{eqb-true}
use Rattle.std.proofs.lemmas.List.{reverse-append, length-map, get_or-map}
use Rattle.face_poset.specs.Words.{holds}
use Rattle.face_poset.specs.Poset.{count, facets_of}
use Rattle.face_poset.specs.Signs.{sign_of, sum_to, SignsCancel}
use Rattle.number_lists.specs.Members.{In, here, there}
use Rattle.number_lists.proofs.CallerLemmas.{In-cases, at-In}
use Rattle.order_complex.specs.Chains.{chains_of}
use Rattle.order_complex.specs.Cochains.{leave_out}
use Rattle.order_complex.specs.Complex.{number_or_zero, facet_numbers, facet_lists, complex_of, stands_odd, negative_in}
use Rattle.order_complex.proofs.Chained.{leave_out-member}
use Rattle.order_complex.proofs.Ordered.{ordered-chains_of}
use Rattle.order_complex.proofs.Graded.{Falls, numbers-fall, placed}
use Rattle.order_complex.proofs.Integers.{alternating_sum, twice_around}

-- ---- sums

total : List ℤ → ℤ
total [] = pos 0
total (x ∷ xs) = x +ℤ total xs

total-append : (xs ys : List ℤ) → total (xs ++ ys) ≡ total xs +ℤ total ys
unfolding total
total-append [] ys = sym (+ℤ_idl (total ys))
total-append (x ∷ xs) ys = ap (λ n. x +ℤ n) (total-append xs ys) ∙ sym (+ℤ_assoc x (total xs) (total ys))

pub reverse-cons : {A : Type 0} (x : A) (xs : List A) → reverse (x ∷ xs) ≡ reverse xs ++ x ∷ []
reverse-cons x xs = reverse-append (x ∷ []) xs

map-append : (f : ℕ → ℤ) (xs ys : List ℕ) → map f (xs ++ ys) ≡ map f xs ++ map f ys
map-append f [] ys = refl
map-append f (x ∷ xs) ys = ap (λ r. f x ∷ r) (map-append f xs ys)

total-reverse : (f : ℕ → ℤ) (xs : List ℕ) → total (map f (reverse xs)) ≡ total (map f xs)
unfolding total
total-reverse f [] = refl
total-reverse f (x ∷ xs) =
    ap (λ ys. total (map f ys)) (reverse-cons x xs) ∙ ap total (map-append f (reverse xs) (x ∷ [])) ∙ total-append (map f (reverse xs)) (f x ∷ [])
    ∙ ap (λ n. total (map f (reverse xs)) +ℤ n) (+ℤ_idr (f x)) ∙ ap (λ n. n +ℤ f x) (total-reverse f xs) ∙ +ℤ_comm (total (map f xs)) (f x)

total-neg : (g h : List ℕ → ℤ) (bs : List (List ℕ)) → ((b : List ℕ) → In b bs → g b ≡ neg_ℤ (h b)) → total (map g bs) ≡ neg_ℤ (total (map h bs))
unfolding total
total-neg g h [] e = refl
total-neg g h (b ∷ bs) e =
    ap (λ n. n +ℤ total (map g bs)) (e b here) ∙ ap (λ n. neg_ℤ (h b) +ℤ n) (total-neg g h bs (λ x m. e x (there m))) ∙ sym (neg_ℤ-+ℤ (h b) (total (map h bs)))

total-members : (g h : List ℕ → ℤ) (bs : List (List ℕ)) → ((b : List ℕ) → In b bs → g b ≡ h b) → total (map g bs) ≡ total (map h bs)
unfolding total
total-members g h [] e = refl
total-members g h (b ∷ bs) e = ap (λ n. n +ℤ total (map g bs)) (e b here) ∙ ap (λ n. h b +ℤ n) (total-members g h bs (λ x m. e x (there m)))

any-append : (t : ℕ) (xs ys : List ℕ) → holds (xs ++ ys) t ≡ (holds xs t || holds ys t)
any-append t [] ys = refl
any-append t (x ∷ xs) ys = ap (λ b. eqb x t || b) (any-append t xs ys) ∙ or-assoc (eqb x t) (holds xs t) (holds ys t)
  where
    or-assoc : (a b c : Bool) → (a || (b || c)) ≡ ((a || b) || c)
    or-assoc true b c = refl
    or-assoc false b c = refl

or-false : (a : Bool) → (a || false) ≡ a
or-false true = refl
or-false false = refl

or-comm : (a b : Bool) → (a || b) ≡ (b || a)
or-comm true true = refl
or-comm true false = refl
or-comm false true = refl
or-comm false false = refl

pub holds-reverse : (t : ℕ) (xs : List ℕ) → holds (reverse xs) t ≡ holds xs t
holds-reverse t [] = refl
holds-reverse t (x ∷ xs) =
    ap (λ ys. holds ys t) (reverse-cons x xs) ∙ any-append t (reverse xs) (x ∷ []) ∙ ap (λ b. holds (reverse xs) t || b) (or-false (eqb x t)) ∙ ap (λ b. b || eqb x t) (holds-reverse t xs) ∙ or-comm (holds xs t) (eqb x t)

-- ---- one chain with one entry left out

delta : ℕ → ℕ → ℤ
delta t m = cond (eqb m t) (pos 1) (pos 0)

differs : (m t : ℕ) (b : Bool) → eqb m t ≡ b → m ≢ t → b ≡ false
differs m t true e ne = absurd (ne (eqb-true m t e))
differs m t false e ne = refl

deltas-zero : (t : ℕ) (ms : List ℕ) → AllByRecursion (λ m. m < t) ms → alternating_sum (map (delta t) ms) ≡ pos 0
unfolding delta
deltas-zero t [] h = refl
deltas-zero t (m ∷ ms) h =
    ap (λ b. cond b (pos 1) (pos 0) -ℤ alternating_sum (map (delta t) ms)) (differs m t (eqb m t) refl (λ e. let less : m < t = h.0 in omega arith))
    ∙ ap (λ n. pos 0 -ℤ n) (deltas-zero t ms h.1)

flip : (h o : Bool) → cond h (sign_of (not o)) (pos 0) ≡ pos 0 -ℤ cond h (sign_of o) (pos 0)
flip true true = refl
flip true false = refl
flip false true = refl
flip false false = refl

signed-one : (t : ℕ) (ms : List ℕ) → Falls ms → cond (holds ms t) (sign_of (stands_odd ms t)) (pos 0) ≡ alternating_sum (map (delta t) ms)
unfolding delta
signed-one t [] f = refl
signed-one t (m ∷ ms) f = by_test (eqb m t) refl (signed-one t ms f.1)
  where
    by_test : (b : Bool) → eqb m t ≡ b → cond (holds ms t) (sign_of (stands_odd ms t)) (pos 0) ≡ alternating_sum (map (delta t) ms)
        → cond (b || holds ms t) (sign_of (cond b false (not (stands_odd ms t)))) (pos 0) ≡ cond b (pos 1) (pos 0) -ℤ alternating_sum (map (delta t) ms)
    by_test true e later =
        sym (ap (λ n. pos 1 -ℤ n) (deltas-zero t ms (subst (λ n. AllByRecursion (λ k. k < n) ms) (eqb-true m t e) f.0)))
    by_test false e later = flip (holds ms t) (stands_odd ms t) ∙ ap (λ n. pos 0 -ℤ n) later

-- ---- all of them

times_one : (w : ℤ) → w *ℤ pos 1 ≡ w
times_one (pos m) = pos-*ℤ-pos m 1 ∙ ap pos (omega arith)
times_one (negsuc m) = let e : suc m * 1 ≡ suc m = omega arith in negsuc-*ℤ-pos m 1 ∙ ap (λ n. neg_ℤ (pos n)) e

sign_flips : (o : Bool) (w : ℤ) → sign_of (not o) *ℤ w ≡ neg_ℤ (sign_of o *ℤ w)
sign_flips true w = (*ℤ_comm (pos 1) w ∙ times_one w) ∙ sym (ap neg_ℤ (*ℤ_comm (negsuc 0) w ∙ *ℤ-negsuc w 0 ∙ ap neg_ℤ (times_one w)) ∙ neg_ℤ-neg_ℤ w)
sign_flips false w = *ℤ_comm (negsuc 0) w ∙ *ℤ-negsuc w 0 ∙ ap neg_ℤ (*ℤ_comm w (pos 1))

plus_one : (w : ℤ) → sign_of false *ℤ w ≡ w
plus_one w = *ℤ_comm (pos 1) w ∙ times_one w

signed-all : (number : List ℕ → ℕ) (w : List ℕ → ℤ) (bs : List (List ℕ)) → Falls (map number bs)
    → total (map (λ b. sign_of (stands_odd (map number bs) (number b)) *ℤ w b) bs) ≡ alternating_sum (map w bs)
unfolding total
signed-all number w [] f = refl
signed-all number w (b ∷ bs) f =
    let n : ℕ = number b in
    let ns : List ℕ = map number bs in
    ap (λ t. (sign_of (cond t false (not (stands_odd ns n))) *ℤ w b) +ℤ total (map (λ c. sign_of (stands_odd (n ∷ ns) (number c)) *ℤ w c) bs)) (eq-eqb n n refl)
    ∙ ap (λ x. x +ℤ total (map (λ c. sign_of (stands_odd (n ∷ ns) (number c)) *ℤ w c) bs)) (plus_one (w b))
    ∙ ap (λ x. w b +ℤ x)
    (total-neg (λ c. sign_of (stands_odd (n ∷ ns) (number c)) *ℤ w c) (λ c. sign_of (stands_odd ns (number c)) *ℤ w c) bs
    (λ c m. ap (λ t. sign_of (cond t false (not (stands_odd ns (number c)))) *ℤ w c) (differs n (number c) (eqb n (number c)) refl (smaller bs f.0 c m)) ∙ sign_flips (stands_odd ns (number c)) (w c)))
    ∙ ap (λ x. w b +ℤ neg_ℤ x) (signed-all number w bs f.1)
  where
    smaller : (cs : List (List ℕ)) → AllByRecursion (λ m. m < number b) (map number cs) → (c : List ℕ) → In c cs → number b ≢ number c
    smaller [] g c m e = elim m [ ]
    smaller (d ∷ cs) g c m e =
        elim (In-cases m) [
          | inl s ↦ let less : number d < number b = g.0 in let same : number c ≡ number d = ap number s in omega arith
          | inr k ↦ smaller cs g.1 c k e
        ]

-- ---- a chain, and a target two degrees below

term : (facets : ℕ → List ℕ) (outer inner : ℕ → Bool) (target : ℕ) → ℕ → ℤ
term facets outer inner target f = cond (holds (facets f) target) (sign_of (outer f) *ℤ sign_of (inner f)) (pos 0)

times_cond : (s : ℤ) (h : Bool) (x : ℤ) → cond h (s *ℤ x) (pos 0) ≡ s *ℤ cond h x (pos 0)
times_cond s true x = refl
times_cond s false x = sym (*ℤ-zero s)

module _ (space : List (List (List ℕ))) (degree : ℕ) (chain : List ℕ) (h : In chain (chains_of space (suc (suc degree)))) (target : ℕ) where
  low : List (List ℕ)
  low = chains_of space degree

  mid : List (List ℕ)
  mid = chains_of space (suc degree)

  cancelled : (facets : ℕ → List ℕ) (outer inner : ℕ → Bool)
      → ((b : List ℕ) → In b (chains_of space (suc degree)) → facets (number_or_zero (chains_of space (suc degree)) b) ≡ facet_numbers (chains_of space degree) b)
      → ((f : ℕ) → outer f ≡ stands_odd (map (number_or_zero (chains_of space (suc degree))) (leave_out chain)) f)
      → ((b : List ℕ) → In b (chains_of space (suc degree)) → inner (number_or_zero (chains_of space (suc degree)) b) ≡ stands_odd (map (number_or_zero (chains_of space degree)) (leave_out b)) target)
      → total (map (term facets outer inner target) (facet_numbers (chains_of space (suc degree)) chain)) ≡ pos 0
  unfolding term delta
  cancelled facets outer inner fs os is =
      let numbers : List ℕ → ℕ = number_or_zero (chains_of space (suc degree)) in
      let lower : List ℕ → ℕ = number_or_zero (chains_of space degree) in
      let bs : List (List ℕ) = leave_out chain in
      let w : List ℕ → ℤ = λ b. alternating_sum (map (λ x. delta target (lower x)) (leave_out b)) in
      total-reverse (term facets outer inner target) (map numbers bs)
      ∙ ap total (map_map (term facets outer inner target) numbers bs)
      ∙ total-members (λ b. term facets outer inner target (numbers b)) (λ b. sign_of (stands_odd (map numbers bs) (numbers b)) *ℤ w b) bs
      (λ b m. one b (leave_out-member space (suc degree) chain h b m))
      ∙ signed-all numbers w bs (numbers-fall space (suc degree) chain h)
      ∙ twice_around (λ x. delta target (lower x)) chain
    where
      map_map : (g : ℕ → ℤ) (f : List ℕ → ℕ) (xs : List (List ℕ)) → map g (map f xs) ≡ map (λ x. g (f x)) xs
      map_map g f [] = refl
      map_map g f (x ∷ xs) = ap (λ r. g (f x) ∷ r) (map_map g f xs)

      one : (b : List ℕ) → In b (chains_of space (suc degree))
          → cond (holds (facets (number_or_zero (chains_of space (suc degree)) b)) target) (sign_of (outer (number_or_zero (chains_of space (suc degree)) b)) *ℤ sign_of (inner (number_or_zero (chains_of space (suc degree)) b))) (pos 0)
          ≡ sign_of (stands_odd (map (number_or_zero (chains_of space (suc degree))) (leave_out chain)) (number_or_zero (chains_of space (suc degree)) b))
          *ℤ alternating_sum (map (λ x. delta target (number_or_zero (chains_of space degree) x)) (leave_out b))
      one b m =
          let n : ℕ = number_or_zero (chains_of space (suc degree)) b in
          let ms : List ℕ = map (number_or_zero (chains_of space degree)) (leave_out b) in
          let s : ℤ = sign_of (stands_odd (map (number_or_zero (chains_of space (suc degree))) (leave_out chain)) n) in
          ap (λ xs. cond (holds xs target) (sign_of (outer n) *ℤ sign_of (inner n)) (pos 0)) (fs b m)
          ∙ ap (λ t. cond t (sign_of (outer n) *ℤ sign_of (inner n)) (pos 0)) (holds-reverse target ms)
          ∙ ap (λ t. cond (holds ms target) (sign_of t *ℤ sign_of (inner n)) (pos 0)) (os n)
          ∙ ap (λ t. cond (holds ms target) (s *ℤ sign_of t) (pos 0)) (is b m)
          ∙ times_cond s (holds ms target) (sign_of (stands_odd ms target))
          ∙ ap (λ x. s *ℤ x) (signed-one target ms (numbers-fall space degree b m) ∙ ap alternating_sum (map_map (delta target) (number_or_zero (chains_of space degree)) (leave_out b)))

-- ---- the law of signs

cond-plus : (h : Bool) (x r : ℤ) → cond h (x +ℤ r) r ≡ cond h x (pos 0) +ℤ r
cond-plus true x r = refl
cond-plus false x r = sym (+ℤ_idl r)

sum_to-total : (complex : List (List (List ℕ))) (negative : ℕ → ℕ → ℕ → Bool) (dim cell target : ℕ) (fs : List ℕ)
    → sum_to complex negative dim cell target fs ≡ total (map (term (facets_of complex (dim - 1)) (negative dim cell) (λ f. negative (dim - 1) f target) target) fs)
unfolding total term
sum_to-total complex negative dim cell target [] = refl
sum_to-total complex negative dim cell target (f ∷ fs) =
    let x : ℤ = sign_of (negative dim cell f) *ℤ sign_of (negative (dim - 1) f target) in
    cond-plus (holds (facets_of complex (dim - 1) f) target) x (sum_to complex negative dim cell target fs)
    ∙ ap (λ r. cond (holds (facets_of complex (dim - 1) f) target) x (pos 0) +ℤ r) (sum_to-total complex negative dim cell target fs)

module _ (space : List (List (List ℕ))) where
  -- the facets of the chain with a number
  facets-at : (degree place : ℕ) → place < length (chains_of space (suc degree)) → get_or (facet_lists space (suc degree)) place [] ≡ facet_numbers (chains_of space degree) (get_or (chains_of space (suc degree)) place [])
  facets-at degree place l = get_or-map (facet_numbers (chains_of space degree)) (chains_of space (suc degree)) place [] [] l

  number-facets : (degree : ℕ) (b : List ℕ) → In b (chains_of space (suc degree))
      → get_or (facet_lists space (suc degree)) (number_or_zero (chains_of space (suc degree)) b - 1) [] ≡ facet_numbers (chains_of space degree) b
  number-facets degree b m =
      let p = placed (chains_of space (suc degree)) b (ordered-chains_of space (suc degree)) m in
      let i : number_or_zero (chains_of space (suc degree)) b - 1 ≡ p.place = omega (arith, p.number) in
      ap (λ k. get_or (facet_lists space (suc degree)) k []) i ∙ facets-at degree p.place p.within ∙ ap (facet_numbers (chains_of space degree)) p.there

  number-there : (degree : ℕ) (b : List ℕ) → In b (chains_of space degree) → get_or (chains_of space degree) (number_or_zero (chains_of space degree) b - 1) [] ≡ b
  number-there degree b m =
      let p = placed (chains_of space degree) b (ordered-chains_of space degree) m in
      let i : number_or_zero (chains_of space degree) b - 1 ≡ p.place = omega (arith, p.number) in
      ap (λ k. get_or (chains_of space degree) k []) i ∙ p.there

  cancels : (degree cell target : ℕ) → 1 ≤ cell → cell ≤ length (chains_of space (suc (suc degree)))
      → total (map (term (λ f. get_or (facet_lists space (suc degree)) (f - 1) []) (negative_in space (suc (suc degree)) cell) (λ f. negative_in space (suc degree) f target) target)
      (get_or (facet_lists space (suc (suc degree))) (cell - 1) [])) ≡ pos 0
  cancels degree cell target first last =
      let chain : List ℕ = get_or (chains_of space (suc (suc degree))) (cell - 1) [] in
      let place : cell - 1 < length (chains_of space (suc (suc degree))) = omega arith in
      let t : ℕ → ℤ = term (λ f. get_or (facet_lists space (suc degree)) (f - 1) []) (negative_in space (suc (suc degree)) cell) (λ f. negative_in space (suc degree) f target) target in
      ap (λ fs. total (map t fs)) (facets-at (suc degree) (cell - 1) place)
      ∙ cancelled space degree chain (at-In (chains_of space (suc (suc degree))) (cell - 1) [] place) target
      (λ f. get_or (facet_lists space (suc degree)) (f - 1) []) (negative_in space (suc (suc degree)) cell) (λ f. negative_in space (suc degree) f target)
      (number-facets degree) (λ f. refl)
      (λ b m. ap (λ c. stands_odd (map (number_or_zero (chains_of space degree)) (leave_out c)) target) (number-there (suc degree) b m))

  length-facet_lists : (degree : ℕ) → length (facet_lists space (suc degree)) ≡ length (chains_of space (suc degree))
  length-facet_lists degree = length-map (chains_of space (suc degree)) (facet_numbers (chains_of space degree))

  pub signs_cancel : SignsCancel (complex_of space) (negative_in space)
  signs_cancel zero cell target two first last = absurd (omega arith)
  signs_cancel (suc zero) cell target two first last = absurd (omega arith)
  signs_cancel (suc (suc zero)) cell target two first last =
      sum_to-total (complex_of space) (negative_in space) 2 cell target (facets_of (complex_of space) 2 cell) ∙ cancels 0 cell target first (omega (arith, length-facet_lists 1))
  signs_cancel (suc (suc (suc zero))) cell target two first last =
      sum_to-total (complex_of space) (negative_in space) 3 cell target (facets_of (complex_of space) 3 cell) ∙ cancels 1 cell target first (omega (arith, length-facet_lists 2))
  signs_cancel (suc (suc (suc (suc dim)))) cell target two first last = absurd (omega arith)

-- ---- signs from the end of the list of facets

pub reverse-reverse : (xs : List ℕ) → reverse (reverse xs) ≡ xs
reverse-reverse [] = refl
reverse-reverse (x ∷ xs) = ap reverse (reverse-cons x xs) ∙ reverse-append (reverse xs) (x ∷ []) ∙ ap (λ ys. x ∷ ys) (reverse-reverse xs)

module _ (space : List (List (List ℕ))) where
  odd-facet : (degree cell facet : ℕ) → 1 ≤ cell → cell ≤ length (chains_of space (suc degree))
      → stands_odd (reverse (get_or (facet_lists space (suc degree)) (cell - 1) [])) facet ≡ negative_in space (suc degree) cell facet
  odd-facet degree cell facet first last =
      let chain : List ℕ = get_or (chains_of space (suc degree)) (cell - 1) [] in
      ap (λ fs. stands_odd (reverse fs) facet) (facets-at space degree (cell - 1) (omega arith))
      ∙ ap (λ ns. stands_odd ns facet) (reverse-reverse (map (number_or_zero (chains_of space degree)) (leave_out chain)))

  pub odd-at : (dim cell facet : ℕ) → 1 ≤ cell → cell ≤ count (complex_of space) dim → stands_odd (reverse (facets_of (complex_of space) dim cell)) facet ≡ negative_in space dim cell facet
  odd-at zero cell facet first last =
      ap (λ fs. stands_odd (reverse fs) facet) (get_or-map {Y = List ℕ} (λ chain. []) (chains_of space 0) (cell - 1) [] [] (omega (arith, length-map {B = List ℕ} (chains_of space 0) (λ chain. []))))
  odd-at (suc zero) cell facet first last = odd-facet 0 cell facet first (omega (arith, length-facet_lists space 0))
  odd-at (suc (suc zero)) cell facet first last = odd-facet 1 cell facet first (omega (arith, length-facet_lists space 1))
  odd-at (suc (suc (suc zero))) cell facet first last = odd-facet 2 cell facet first (omega (arith, length-facet_lists space 2))
  odd-at (suc (suc (suc (suc dim)))) cell facet first last = absurd (omega arith)

  -- the facets of a chain, by its number
  pub complex-facets : (degree cell : ℕ) → degree ≤ 2 → 1 ≤ cell → cell ≤ length (chains_of space (suc degree))
      → facets_of (complex_of space) (suc degree) cell ≡ facet_numbers (chains_of space degree) (get_or (chains_of space (suc degree)) (cell - 1) [])
  complex-facets zero cell small first last = facets-at space 0 (cell - 1) (omega arith)
  complex-facets (suc zero) cell small first last = facets-at space 1 (cell - 1) (omega arith)
  complex-facets (suc (suc zero)) cell small first last = facets-at space 2 (cell - 1) (omega arith)
  complex-facets (suc (suc (suc degree))) cell small first last = absurd (omega arith)

  pub complex-count : (degree : ℕ) → degree ≤ 2 → count (complex_of space) (degree + 1) ≡ length (chains_of space (degree + 1))
  complex-count zero small = length-facet_lists space 0
  complex-count (suc zero) small = length-facet_lists space 1
  complex-count (suc (suc zero)) small = length-facet_lists space 2
  complex-count (suc (suc (suc degree))) small = absurd (omega arith)
