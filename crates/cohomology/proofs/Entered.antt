-- Products with entries, and multiples of entries added, entry by entry.
use Rattle.std.proofs.Common.{◌≡◌, ℕ, zero, suc, ◌+◌, ◌-◌, ◌<◌, ◌≤◌, inl, inr, List, [], ◌∷◌, All, length, map, drop, set, get_or, get_or-set_same, get_or-set_other, replicate, refl, ap, sym, ◌∙◌, subst, arith}
use Rattle.std.specs.List.Sorted.{IsStrictlyIncreasing}
use Rattle.std.proofs.lemmas.Grind.{same_number_lists}
use Rattle.std.proofs.lemmas.List.{length-set}
use Rattle.std.proofs.lemmas.List.Elements.{All-tail}
use Rattle.std.proofs.lemmas.Simd.{get_or-replicate, get_or-zip2}
use Rattle.small_field.specs.Field.{Ops, IsField}
use Rattle.small_field.specs.Values.{AreElements}
use Rattle.small_field.proofs.CallerLemmas.{add_zero, zero_below, mul_zero}
use Rattle.linear_laws.specs.Vectors.{bump, dot, plus_scaled}
use Rattle.split_laws.proofs.CallerLemmas.{plus_none}
use Rattle.linear_laws.proofs.CallerLemmas.{all_set, dot_bumped, dot_comm, dot_zeros, plus_scaled-long, same_or_not}
use Rattle.pair_stages.specs.Units.{filled}
use Rattle.chain_laws.specs.Lines.{cochain_of, AreEntries}
use Rattle.cohomology.proofs.Fitting.{filled_fits, filled_long}

-- ---- entries at increasing places

rises_tail : (x : ℕ) (xs : List ℕ) → IsStrictlyIncreasing (x ∷ xs) → IsStrictlyIncreasing xs
rises_tail x xs h k l =
    let z : suc k + 1 ≡ suc (k + 1) = omega arith in
    let m : suc (k + 1) < suc (length xs) = omega (arith, l) in
    subst (λ i. get_or (x ∷ xs) (suc k) 0 < get_or (x ∷ xs) i 0) z (h (suc k) (subst (λ i. i < suc (length xs)) (sym z) m))

-- what is filled is 0 at a place that is before all entries
none_before : (n p : ℕ) (es : List (ℕ × ℕ)) → p < n → All (λ e. p + 1 < e.0) es → get_or (filled n es) p 0 ≡ 0
none_before n p [] l a = get_or-replicate n p 0 0 l
none_before n p (e ∷ es) l a =
    let later : p + 1 < e.0 = a 0 e (omega arith) in
    get_or-set_other (filled n es) (e.0 - 1) p e.1 0 (λ z. absurd (omega (arith, later, z))) ∙ none_before n p es l (All-tail (λ x. p + 1 < x.0) e es a)

all_after : (first : ℕ) (es : List (ℕ × ℕ)) → IsStrictlyIncreasing (first ∷ map (λ x. x.0) es) → All (λ e. first < e.0) es
all_after first [] h i d l = absurd (omega (arith, l))
all_after first (e ∷ es) h zero d l = h 0 (omega arith)
all_after first (e ∷ es) h (suc i) d l =
    let now : first < e.0 = h 0 (omega arith) in
    let rest : e.0 < (get_or (e ∷ es) (suc i) d).0 = all_after e.0 es (rises_tail first (map (λ x. x.0) (e ∷ es)) h) i d (omega (arith, l)) in
    omega (arith, now, rest)

next_entry : (fs : List (ℕ × ℕ)) (j : ℕ) (f : ℕ × ℕ) → j < length fs → f ≡ get_or fs j (0, 0) → drop j fs ≡ f ∷ drop (j + 1) fs
next_entry [] j f m b = absurd (omega (arith, m))
next_entry (g ∷ fs) zero f m b = ap (λ k. k ∷ fs) (sym b)
next_entry (g ∷ fs) (suc j) f m b = next_entry fs j f (omega (arith, m)) b ∙ ap (λ i. f ∷ drop i (g ∷ fs)) (let z : suc (j + 1) ≡ suc j + 1 = omega arith in z)

-- at its own place a first entry finds 0
own_is_free : (n : ℕ) (e : ℕ × ℕ) (es : List (ℕ × ℕ)) → (1 ≤ e.0) × (e.0 ≤ n) → IsStrictlyIncreasing (map (λ x. x.0) (e ∷ es)) → get_or (filled n es) (e.0 - 1) 0 ≡ 0
own_is_free n e es r h =
    let same : e.0 - 1 + 1 ≡ e.0 = omega (arith, r.0) in
    none_before n (e.0 - 1) es (omega (arith, r.0, r.1)) (λ i d l. let after : e.0 < (get_or es i d).0 = all_after e.0 es h i d l in omega (arith, after, same))

module _ (F : Ops) (L : IsField F) where
  -- the sum of the products
  abbrev pub products : (x : List ℕ) → List (ℕ × ℕ) → ℕ
  products x [] = 0
  products x (e ∷ es) = F.add (F.mul (get_or x (e.0 - 1) 0) e.1) (products x es)

  products_are : (x : List ℕ) (es : List (ℕ × ℕ)) → All (λ e. (1 ≤ e.0) × (e.0 ≤ length x)) es → All (λ e. e.1 < F.size) es → IsStrictlyIncreasing (map (λ e. e.0) es) → products x es ≡ dot F x (filled (length x) es)
  products_are x [] r v h = sym (dot_zeros F L x (length x))
  products_are x (e ∷ es) r v h =
      let n : ℕ = length x in
      let fs : List ℕ = filled n es in
      let here : (1 ≤ e.0) × (e.0 ≤ n) = r 0 e (omega arith) in
      let small : e.1 < F.size = v 0 e (omega arith) in
      let none : get_or fs (e.0 - 1) 0 ≡ 0 = own_is_free n e es here h in
      let long : length fs ≡ n = filled_long n es in
      let bumped : bump F fs (e.0 - 1) e.1 ≡ set fs (e.0 - 1) e.1 = ap (set fs (e.0 - 1)) (ap (λ k. F.add k e.1) none ∙ L.zero_add e.1 small) in
      let rest : products x es ≡ dot F x fs = products_are x es (All-tail (λ k. (1 ≤ k.0) × (k.0 ≤ n)) e es r) (All-tail (λ k. k.1 < F.size) e es v) (rises_tail e.0 (map (λ x. x.0) es) h) in
      ap (F.add (F.mul (get_or x (e.0 - 1) 0) e.1)) (rest ∙ dot_comm F L x fs)
      ∙ L.add_comm (F.mul (get_or x (e.0 - 1) 0) e.1) (dot F fs x)
      ∙ ap (F.add (dot F fs x)) (L.mul_comm (get_or x (e.0 - 1) 0) e.1)
      ∙ sym (dot_bumped F L fs x (e.0 - 1) e.1 (omega (arith, here.0, here.1, long)) (sym long))
      ∙ ap (λ ys. dot F ys x) bumped
      ∙ dot_comm F L (set fs (e.0 - 1) e.1) x

  pub value_is : (x : List ℕ) (es : List (ℕ × ℕ)) → AreEntries F (length x) es → products x es ≡ dot F x (cochain_of (length x) es)
  value_is x es h = products_are x es h.numbers h.elements h.sparse.increasing ∙ ap (dot F x) (filled_fits (length x) es h.numbers)

  pub products_below : (x : List ℕ) (es : List (ℕ × ℕ)) → products x es < F.size
  products_below x [] = zero_below F L
  products_below x (e ∷ es) = L.add_below (F.mul (get_or x (e.0 - 1) 0) e.1) (products x es)

  -- one entry more
  pub product_more : (x : List ℕ) (es : List (ℕ × ℕ)) (whole sum next v : ℕ) (i : ℕ) (e : ℕ × ℕ) → i < length es → e ≡ get_or es i (0, 0) → F.add sum (products x (drop i es)) ≡ whole → v ≡ F.mul (get_or x (e.0 - 1) 0) e.1 → next ≡ F.add sum v → F.add next (products x (drop (i + 1) es)) ≡ whole
  product_more x es whole sum next v i e l at h p s =
      ap (λ k. F.add k (products x (drop (i + 1) es))) (s ∙ ap (F.add sum) p)
      ∙ L.add_assoc sum (F.mul (get_or x (e.0 - 1) 0) e.1) (products x (drop (i + 1) es))
      ∙ ap (F.add sum) (sym (ap (products x) (next_entry es i e l at)))
      ∙ h

  -- ---- multiples added

  abbrev pub added : (s : ℕ) (x : List ℕ) → List (ℕ × ℕ) → List ℕ
  added s x [] = x
  added s x (e ∷ es) = added s (bump F x (e.0 - 1) (F.mul s e.1)) es

  bump_in : (s : ℕ) (x fs : List ℕ) (p v : ℕ) → length fs ≡ length x → p < length x → get_or fs p 0 ≡ 0 → AreElements F x → plus_scaled F s (bump F x p (F.mul s v)) fs ≡ plus_scaled F s x (set fs p v)
  bump_in s x fs p v l lp z el =
      let u : ℕ = F.add (get_or x p 0) (F.mul s v) in
      let lb : length (bump F x p (F.mul s v)) ≡ length x = length-set x p u in
      let ls : length (set fs p v) ≡ length fs = length-set fs p v in
      same_number_lists (plus_scaled F s (bump F x p (F.mul s v)) fs) (plus_scaled F s x (set fs p v)) (plus_scaled-long F L s (bump F x p (F.mul s v)) fs (lb ∙ sym l) ∙ lb ∙ sym (plus_scaled-long F L s x (set fs p v) (sym (ls ∙ l))))
      (λ j lj.
      let jx : j < length x = omega (arith, lj, plus_scaled-long F L s (bump F x p (F.mul s v)) fs (lb ∙ sym l), lb) in
      get_or-zip2 (λ a b. F.add a (F.mul s b)) (bump F x p (F.mul s v)) fs j 0 0 0 (omega (arith, jx, lb)) (omega (arith, jx, l))
      ∙ elim (same_or_not j p) [
        | inl same ↦
            ap (λ k. F.add (get_or (set x p u) k 0) (F.mul s (get_or fs k 0))) same
            ∙ ap (λ k. F.add k (F.mul s (get_or fs p 0))) (get_or-set_same x p u 0 lp)
            ∙ ap (λ k. F.add u (F.mul s k)) z
            ∙ ap (F.add u) (mul_zero F L s)
            ∙ add_zero F L u (L.add_below (get_or x p 0) (F.mul s v))
            ∙ ap (λ k. F.add (get_or x p 0) (F.mul s k)) (sym (get_or-set_same fs p v 0 (omega (arith, lp, l))))
            ∙ ap (λ k. F.add (get_or x k 0) (F.mul s (get_or (set fs p v) k 0))) (sym same)
        | inr apart ↦
            ap (λ k. F.add k (F.mul s (get_or fs j 0))) (get_or-set_other x p j u 0 apart) ∙ ap (λ k. F.add (get_or x j 0) (F.mul s k)) (sym (get_or-set_other fs p j v 0 apart))
      ]
      ∙ sym (get_or-zip2 (λ a b. F.add a (F.mul s b)) x (set fs p v) j 0 0 0 jx (omega (arith, jx, l, ls))))

  bump_elements : (x : List ℕ) (p c : ℕ) → AreElements F x → AreElements F (bump F x p c)
  bump_elements x p c h = all_set (λ k. k < F.size) x p (F.add (get_or x p 0) c) (L.add_below (get_or x p 0) c) h

  nothing_added : (s n : ℕ) (x : List ℕ) → length x ≡ n → AreElements F x → plus_scaled F s x (replicate n 0) ≡ x
  nothing_added s zero [] l h = refl
  nothing_added s zero (y ∷ x) l h = absurd (omega (arith, l))
  nothing_added s (suc n) [] l h = absurd (omega (arith, l))
  nothing_added s (suc n) (y ∷ x) l h = ap (λ k. k ∷ plus_scaled F s x (replicate n 0)) (plus_none F L y s 0 refl h.0) ∙ ap (λ zs. y ∷ zs) (nothing_added s n x (omega (arith, l)) h.1)

  added_are : (s n : ℕ) (x : List ℕ) (es : List (ℕ × ℕ)) → length x ≡ n → AreElements F x → All (λ e. (1 ≤ e.0) × (e.0 ≤ n)) es → IsStrictlyIncreasing (map (λ e. e.0) es) → added s x es ≡ plus_scaled F s x (filled n es)
  added_are s n x [] l el r h = sym (nothing_added s n x l el)
  added_are s n x (e ∷ es) l el r h =
      let here : (1 ≤ e.0) × (e.0 ≤ n) = r 0 e (omega arith) in
      let y : List ℕ = bump F x (e.0 - 1) (F.mul s e.1) in
      added_are s n y es (length-set x (e.0 - 1) (F.add (get_or x (e.0 - 1) 0) (F.mul s e.1)) ∙ l) (bump_elements x (e.0 - 1) (F.mul s e.1) el) (All-tail (λ k. (1 ≤ k.0) × (k.0 ≤ n)) e es r) (rises_tail e.0 (map (λ x. x.0) es) h)
      ∙ bump_in s x (filled n es) (e.0 - 1) e.1 (filled_long n es ∙ sym l) (omega (arith, here.0, here.1, l)) (own_is_free n e es here h) el

  pub multiple_is : (s : ℕ) (x : List ℕ) (es : List (ℕ × ℕ)) → AreElements F x → AreEntries F (length x) es → added s x es ≡ plus_scaled F s x (cochain_of (length x) es)
  multiple_is s x es el h = added_are s (length x) x es refl el h.numbers h.sparse.increasing ∙ ap (plus_scaled F s x) (filled_fits (length x) es h.numbers)

  pub added_more : (s : ℕ) (es : List (ℕ × ℕ)) (whole x next : List ℕ) (i : ℕ) (e : ℕ × ℕ) → i < length es → e ≡ get_or es i (0, 0) → added s x (drop i es) ≡ whole → next ≡ bump F x (e.0 - 1) (F.mul s e.1) → added s next (drop (i + 1) es) ≡ whole
  added_more s es whole x next i e l at h b = ap (λ y. added s y (drop (i + 1) es)) b ∙ sym (ap (added s x) (next_entry es i e l at)) ∙ h
