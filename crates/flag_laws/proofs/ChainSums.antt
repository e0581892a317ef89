-- The sum of the full towers of a cell as a chain with coefficients, and its boundary.
use Rattle.std.proofs.Common.{◌≡◌, ◌≢◌, inl, inr, ℕ, zero, suc, ◌<◌, ◌≤◌, List, [], ◌∷◌, ◌++◌, Bool, true, false, not, cond, map, reverse, length, refl, ap, sym, ◌∙◌, subst, arith}
use Rattle.std.specs.List.{AllByRecursion}
use Rattle.std.specs.Str.{bytes_eq}
use Rattle.std.proofs.lemmas.Slice.Eq.{bytes_eq-Decides}
use Rattle.std.proofs.lemmas.Bool.{false_from_ne_true, false≢true}
use Rattle.std.proofs.lemmas.List.{reverse-append, length-reverse}
use Rattle.small_field.specs.Field.{Ops, IsField}
use Rattle.small_field.proofs.CallerLemmas.{zero_below, add_zero, mul_zero, neg_zero, neg_add, neg_neg, neg_mul}
use Rattle.linear_laws.specs.Vectors.{dot}
use Rattle.number_lists.specs.Members.{In}
use Rattle.number_lists.proofs.CallerLemmas.{In-cases, AreDistinct, none, more}
use Rattle.face_poset.specs.Poset.{IsSpace, count}
use Rattle.face_poset.specs.Below.{cell_at}
use Rattle.order_complex.specs.Chains.{id_of, chains_of}
use Rattle.order_complex.specs.Cochains.{leave_out, alternating, value, mark, coboundary_at, coboundary_on}
use Rattle.order_complex.specs.Order.{Before, IsOrdered}
use Rattle.order_complex.specs.Laws.{FacesAreBelow, ChainsAreSequences, ChainsAreOrdered}
use Rattle.cell_signs.specs.Oriented.{IsOriented}
use Rattle.pair_stages.specs.Signed.{sign_element}
use Rattle.local_field.specs.Towers.{top_of}
use Rattle.local_field.specs.Inside.{IsTower}
use Rattle.local_field.specs.Buildings.{is_below}
use Rattle.local_field.specs.Flags.{is_odd}
use Rattle.local_field.proofs.CallerLemmas.{facet-range, facet-below, id-range, IsRoom, tower-chain, InRange}
use Rattle.flag_laws.proofs.Sums.{summed, sum-same, sum-times, sum-one, dot-maps, mul_out}
use Rattle.flag_laws.proofs.TowerSums.{over, FullAt, left, full-long, full-head, over-same, over-below, over-times, over-sum, below, left-out}

-- ---- lists

pub all-of : {A : Type 0} (P : A → Type 0) (xs : List A) (x : A) → AllByRecursion P xs → In x xs → P x
all-of P [] x h i = elim i [ ]
all-of P (y ∷ ys) x h i = elim (In-cases i) [ inl e ↦ subst P (sym e) h.0 | inr j ↦ all-of P ys x h.1 j ]

before-not : (x : List ℕ) → Before x x → ⊥
before-not [] h = h
before-not (y ∷ ys) (inl l) = omega (arith, l)
before-not (y ∷ ys) (inr h) = before-not ys h.1

pub ordered-distinct : (xs : List (List ℕ)) → IsOrdered xs → AreDistinct xs
ordered-distinct [] h = none
ordered-distinct (x ∷ xs) h = more (λ i. before-not x (all-of (Before x) xs x h.0 i)) (ordered-distinct xs h.1)

pub turn : (g : ℕ) (t : List ℕ) → reverse (g ∷ t) ≡ reverse t ++ g ∷ []
turn g t = reverse-append (g ∷ []) t

-- ---- 1 at one sequence

abbrev pub same_one : (c x : List ℕ) → ℕ
same_one c x = cond (bytes_eq c x) 1 0

pub same-here : (c : List ℕ) → same_one c c ≡ 1
same-here c = ap (λ (b : Bool). cond b 1 0) ((bytes_eq-Decides c c).1 refl)

pub same-apart : (c x : List ℕ) → c ≢ x → same_one c x ≡ 0
same-apart c x n = ap (λ (b : Bool). cond b 1 0) (false_from_ne_true (bytes_eq c x) (λ e. n ((bytes_eq-Decides c x).0 e)))

pub map-map : {A B C : Type 0} (g : B → C) (f : A → B) (xs : List A) → map g (map f xs) ≡ map (λ x. g (f x)) xs
map-map g f [] = refl
map-map {A} {B} {C} g f (x ∷ xs) = ap (λ (r : List C). g (f x) ∷ r) (map-map g f xs)

value-by : (h : List ℕ → ℕ) (b c : List ℕ) (r : ℕ) (t : Bool) → bytes_eq b c ≡ t → (c ≢ b → r ≡ h c) → cond t (h b) r ≡ h c
value-by h b c r true e again = ap h ((bytes_eq-Decides b c).0 e)
value-by h b c r false e again = again (λ s. false≢true (sym e ∙ (bytes_eq-Decides b c).1 (sym s)))

-- a cochain that a function gives takes its values
pub value-of : (h : List ℕ → ℕ) (chains : List (List ℕ)) (c : List ℕ) → In c chains → value chains (map h chains) c ≡ h c
value-of h [] c i = elim i [ ]
value-of h (b ∷ chains) c i =
    value-by h b c (value chains (map h chains) c) (bytes_eq b c) refl (λ ne. elim (In-cases i) [ inl s ↦ absurd (ne s) | inr j ↦ value-of h chains c j ])

module _ (F : Ops) (L : IsField F) where
  pub same-below : (c x : List ℕ) → same_one c x < F.size
  same-below c x = by (bytes_eq c x)
    where
      by : (b : Bool) → cond b 1 0 < F.size
      by true = L.one_below
      by false = zero_below F L

  value-below : (h : List ℕ → ℕ) (chains : List (List ℕ)) (c : List ℕ) → ((x : List ℕ) → h x < F.size) → value chains (map h chains) c < F.size
  value-below h [] c b = zero_below F L
  value-below h (y ∷ chains) c b = by (bytes_eq y c) (value-below h chains c b)
    where
      by : (t : Bool) → value chains (map h chains) c < F.size → cond t (h y) (value chains (map h chains) c) < F.size
      by true k = b y
      by false k = k

  pub value-mark-below : (chains : List (List ℕ)) (b c : List ℕ) → value chains (mark chains b) c < F.size
  value-mark-below chains b c = value-below (λ x. same_one x b) chains c (λ x. same-below x b)

  alternating-below : (xs : List ℕ) → alternating F xs < F.size
  alternating-below [] = zero_below F L
  alternating-below (x ∷ xs) = L.add_below x (F.neg (alternating F xs))

  -- ---- one entry left out, from the end

  sign-not : (o : Bool) → sign_element F (not o) ≡ F.neg (sign_element F o)
  sign-not true = sym (neg_neg F L 1 L.one_below)
  sign-not false = refl

  left-last : (v : List ℕ → ℕ) (xs : List ℕ) (g : ℕ) → ((x : List ℕ) → v x < F.size)
      → alternating F (map v (leave_out (xs ++ g ∷ []))) ≡ F.add (alternating F (map (λ x. v (x ++ g ∷ [])) (leave_out xs))) (F.mul (sign_element F (is_odd (length xs))) (v xs))
  left-last v [] g b =
      ap (F.add (v [])) (neg_zero F L) ∙ (add_zero F L (v []) (b []) ∙ (sym (L.one_mul (v []) (b [])) ∙ sym (L.zero_add (F.mul 1 (v [])) (L.mul_below 1 (v [])))))
  left-last v (x ∷ xs) g b =
      let s : ℕ = sign_element F (is_odd (length xs)) in
      let V : ℕ = v (xs ++ g ∷ []) in
      let A : ℕ = alternating F (map (λ y. v (x ∷ (y ++ g ∷ []))) (leave_out xs)) in
      let W : ℕ = v (x ∷ xs) in
      ap (λ (ys : List ℕ). F.add V (F.neg (alternating F ys))) (map-map v (λ y. x ∷ y) (leave_out (xs ++ g ∷ [])))
      ∙ (ap (λ (n : ℕ). F.add V (F.neg n)) (left-last (λ y. v (x ∷ y)) xs g (λ y. b (x ∷ y)))
      ∙ (ap (F.add V) (neg_add F L A (F.mul s W))
      ∙ (sym (L.add_assoc V (F.neg A) (F.neg (F.mul s W)))
      ∙ (ap (F.add (F.add V (F.neg A))) (sym (neg_mul F L s W) ∙ ap (λ (n : ℕ). F.mul n W) (sym (sign-not (is_odd (length xs)))))
      ∙ ap (λ (ys : List ℕ). F.add (F.add V (F.neg (alternating F ys))) (F.mul (sign_element F (not (is_odd (length xs)))) W)) (sym (map-map (λ y. v (y ++ g ∷ [])) (λ y. x ∷ y) (leave_out xs)))))))

  left-same : (u w : List ℕ → ℕ) (t : List ℕ) → ((s : List ℕ) → u s ≡ w s) → left F u t ≡ left F w t
  left-same u w [] e = refl
  left-same u w (g ∷ t) e =
      ap (λ (n : ℕ). F.add n (F.mul (sign_element F (is_odd (length t))) (u t))) (left-same (λ s. u (g ∷ s)) (λ s. w (g ∷ s)) t (λ s. e (g ∷ s)))
      ∙ ap (λ (n : ℕ). F.add (left F (λ s. w (g ∷ s)) t) (F.mul (sign_element F (is_odd (length t))) n)) (e t)

  -- of a chain, by its tower
  left-turned : (v : List ℕ → ℕ) (t : List ℕ) → ((x : List ℕ) → v x < F.size) → alternating F (map v (leave_out (reverse t))) ≡ left F (λ s. v (reverse s)) t
  left-turned v [] b = refl
  left-turned v (g ∷ t) b =
      let o : ℕ → ℕ = λ l. F.mul (sign_element F (is_odd l)) (v (reverse t)) in
      ap (λ (c : List ℕ). alternating F (map v (leave_out c))) (turn g t)
      ∙ (left-last v (reverse t) g b
      ∙ (ap (λ (l : ℕ). F.add (alternating F (map (λ x. v (x ++ g ∷ [])) (leave_out (reverse t)))) (o l)) (length-reverse t)
      ∙ ap (λ (n : ℕ). F.add n (o (length t))) (left-turned (λ x. v (x ++ g ∷ [])) t (λ x. b (x ++ g ∷ [])) ∙ left-same (λ s. v (reverse s ++ g ∷ [])) (λ s. v (reverse (g ∷ s))) t (λ s. ap v (sym (turn g s))))))

module _ (space : List (List (List ℕ))) (valid : IsSpace space) (faces : FacesAreBelow) (sequences : ChainsAreSequences) where
  -- ---- full towers are chains

  full-tower : (d n : ℕ) (t : List ℕ) → d ≤ 3 → 1 ≤ n → n ≤ count space d → FullAt space d n t → IsTower (is_below space) t
  full-tower zero n t small low high h = subst (IsTower (is_below space)) (sym h) tt
  full-tower (suc d) n t small low high h =
      let f : ℕ = h.0 in
      let w = facet-range space valid d n f low high h.2 in
      let r = full-head space d f h.1 h.3 in
      let c : ℕ = id_of space (cell_at (suc d) n) in
      let rest : IsTower (is_below space) (id_of space (cell_at d f) ∷ r.0) = subst (IsTower (is_below space)) r.1 (full-tower d f h.1 (omega (arith, small)) w.0 w.1 h.3) in
      subst (IsTower (is_below space)) (sym (h.4 ∙ ap (λ (s : List ℕ). c ∷ s) r.1)) (facet-below space valid d n f small low high h.2, rest)

  pub full-room : (d n : ℕ) (t : List ℕ) → d ≤ 3 → 1 ≤ n → n ≤ count space d → FullAt space d n t → IsRoom space valid faces sequences t d
  full-room d n t small low high h =
      let r = full-head space d n t h in
      record {
        tower = full-tower d n t small low high h;
        range = subst (λ (k : ℕ). InRange space k) (sym (ap top_of r.1)) (id-range space d n small low high);
        long = full-long space d n t h;
      }

  pub full-chain : (d n : ℕ) (t : List ℕ) → d ≤ 3 → 1 ≤ n → n ≤ count space d → FullAt space d n t → In (reverse t) (chains_of space d)
  full-chain d n t small low high h = tower-chain space valid faces sequences t d (full-room d n t small low high h)

  module _ (F : Ops) (L : IsField F) (negative : ℕ → ℕ → ℕ → Bool) where
    -- the coefficient of a chain in the sum of the full towers of a cell
    abbrev pub coefficient : (d n : ℕ) → (c : List ℕ) → ℕ
    coefficient d n c = over F space negative d n (λ t. same_one c (reverse t))

    pub coefficient-below : (d n : ℕ) (c : List ℕ) → coefficient d n c < F.size
    coefficient-below d n c = over-below F L space negative d n (λ t. same_one c (reverse t)) (λ t. same-below F L c (reverse t))

    -- what a function of chains sums to with these coefficients
    picked : (ordered : ChainsAreOrdered) (d n : ℕ) (K : List ℕ → ℕ) → d ≤ 3 → 1 ≤ n → n ≤ count space d → ((c : List ℕ) → K c < F.size)
        → summed F (λ c. F.mul (K c) (coefficient d n c)) (chains_of space d) ≡ over F space negative d n (λ t. K (reverse t))
    picked ordered d n K small low high b =
        let C : List (List ℕ) = chains_of space d in
        sum-same F L (λ c. F.mul (K c) (coefficient d n c)) (λ c. over F space negative d n (λ t. F.mul (K c) (same_one c (reverse t)))) C
        (λ c i. sym (over-times F L space negative (K c) d n (λ t. same_one c (reverse t))))
        ∙ (sym (over-sum F L space negative d n (λ c t. F.mul (K c) (same_one c (reverse t))) C)
        ∙ over-same F L space negative d n (λ t. summed F (λ c. F.mul (K c) (same_one c (reverse t))) C) (λ t. K (reverse t))
        (λ t h.
        sum-one F L (λ c. F.mul (K c) (same_one c (reverse t))) C (reverse t) (ordered-distinct C (ordered space d)) (full-chain d n t small low high h) (L.mul_below (K (reverse t)) (same_one (reverse t) (reverse t)))
        (λ c i ne. ap (F.mul (K c)) (same-apart c (reverse t) ne) ∙ mul_zero F L (K c))
        ∙ (ap (F.mul (K (reverse t))) (same-here (reverse t)) ∙ (L.mul_comm (K (reverse t)) 1 ∙ L.one_mul (K (reverse t)) (b (reverse t))))))

    -- its boundary, through the coboundary of a mark
    pub boundary-sum : (oriented : IsOriented space negative) (ordered : ChainsAreOrdered) (d n s : ℕ) (b : List ℕ) → suc d ≤ 3 → 1 ≤ n → n ≤ count space (suc d)
        → dot F (coboundary_on F (chains_of space d) (chains_of space (suc d)) (mark (chains_of space d) b)) (map (λ c. F.mul s (coefficient (suc d) n c)) (chains_of space (suc d)))
        ≡ F.mul s (F.mul (sign_element F (is_odd (suc d))) (below F L space negative valid oriented d n (λ t. value (chains_of space d) (mark (chains_of space d) b) (reverse t))))
    boundary-sum oriented ordered d n s b small low high =
        let C : List (List ℕ) = chains_of space d in
        let next : List (List ℕ) = chains_of space (suc d) in
        let v : List ℕ → ℕ = value C (mark C b) in
        let K : List ℕ → ℕ = coboundary_at F C (mark C b) in
        dot-maps F L K (λ c. F.mul s (coefficient (suc d) n c)) next
        ∙ (sum-same F L (λ c. F.mul (K c) (F.mul s (coefficient (suc d) n c))) (λ c. F.mul s (F.mul (K c) (coefficient (suc d) n c))) next (λ c i. mul_out F L (K c) s (coefficient (suc d) n c))
        ∙ (sum-times F L s (λ c. F.mul (K c) (coefficient (suc d) n c)) next
        ∙ ap (F.mul s)
        (picked ordered (suc d) n K small low high (λ c. alternating-below F L (map v (leave_out c)))
        ∙ (over-same F L space negative (suc d) n (λ t. K (reverse t)) (left F (λ t. v (reverse t))) (λ t h. left-turned F L v t (λ x. value-mark-below F L C b x))
        ∙ left-out F L space negative valid oriented d n (λ t. v (reverse t)) low high))))
