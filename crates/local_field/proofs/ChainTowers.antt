-- Towers are chains read from their end.
use Rattle.std.proofs.Common.{◌≡◌, inl, inr, ℕ, zero, suc, ◌+◌, ◌-◌, ◌<◌, ◌≤◌, List, [], ◌∷◌, ◌++◌, true, map, reverse, length, get_or, refl, ap, sym, ◌∙◌, subst, arith}
use Rattle.std.proofs.lemmas.List.{reverse-append, reverse-reverse, append_assoc, length-reverse, get_or-map}
use native.Mathlib.Decide.{dec_lt}
use Prim.{yes, no}
use Rattle.number_lists.specs.Members.{In, here, there}
use Rattle.number_lists.proofs.CallerLemmas.{In-cases, In-map, map-In, In-reverse, reverse-In}
use Rattle.face_poset.specs.Poset.{IsSpace, count, facets_of}
use Rattle.face_poset.specs.Below.{cell_at, IsBelow}
use Rattle.order_complex.specs.Chains.{cells_before, id_of, chains_of}
use Rattle.order_complex.specs.Cochains.{leave_out}
use Rattle.order_complex.specs.Complex.{complex_of, number_or_zero, facet_numbers}
use Rattle.order_complex.specs.Sequences.{IsAbove, Follows}
use Rattle.order_complex.specs.Laws.{FacesAreBelow, ChainsAreSequences}
use Rattle.order_complex.proofs.CallerLemmas.{number-of, layer-facets}
use Rattle.local_field.specs.Towers.{facets, top_of}
use Rattle.local_field.specs.Inside.{IsTower}
use Rattle.local_field.specs.Buildings.{is_below}
use Rattle.local_field.specs.Numbered.{number_of}
use Rattle.local_field.proofs.Cells.{InRange, face-range, below-parts, below-from}

-- ---- one entry left out, from either end

facets-are : (t : List ℕ) → facets t ≡ leave_out t
facets-are [] = refl
facets-are (g ∷ t) = ap (λ (xs : List (List ℕ)). t ∷ map (λ (s : List ℕ). g ∷ s) xs) (facets-are t)

leave-last : (xs : List ℕ) (g : ℕ) → In xs (leave_out (xs ++ g ∷ []))
leave-last [] g = here
leave-last (x ∷ xs) g = there (In-map (λ (s : List ℕ). x ∷ s) (leave-last xs g))

leave-before : (s xs : List ℕ) (g : ℕ) → In s (leave_out xs) → In (s ++ g ∷ []) (leave_out (xs ++ g ∷ []))
leave-before s [] g i = elim i [ ]
leave-before s (x ∷ xs) g i = elim (In-cases i) [
  | inl e ↦ subst (λ (k : List ℕ). In (k ++ g ∷ []) (leave_out (x ∷ xs ++ g ∷ []))) (sym e) here
  | inr j ↦
      let r = map-In (λ (s : List ℕ). x ∷ s) (leave_out xs) j in
      subst (λ (k : List ℕ). In (k ++ g ∷ []) (leave_out (x ∷ xs ++ g ∷ []))) (sym r.2) (there (In-map (λ (s : List ℕ). x ∷ s) (leave-before r.0 xs g r.1)))
]

turn : (g : ℕ) (t : List ℕ) → reverse (g ∷ t) ≡ reverse t ++ g ∷ []
turn g t = reverse-append (g ∷ []) t

turned : (s t : List ℕ) → In s (leave_out t) → In (reverse s) (leave_out (reverse t))
turned s [] i = elim i [ ]
turned s (g ∷ t) i = elim (In-cases i) [
  | inl e ↦ subst (λ (k : List ℕ). In (reverse k) (leave_out (reverse (g ∷ t)))) (sym e) (subst (λ (k : List ℕ). In (reverse t) (leave_out k)) (sym (turn g t)) (leave-last (reverse t) g))
  | inr j ↦
      let r = map-In (λ (s : List ℕ). g ∷ s) (leave_out t) j in
      subst (λ (k : List ℕ). In (reverse k) (leave_out (reverse (g ∷ t)))) (sym r.2)
      (subst (λ (k : List ℕ). In k (leave_out (reverse (g ∷ t)))) (sym (turn g r.0)) (subst (λ (k : List ℕ). In (reverse r.0 ++ g ∷ []) (leave_out k)) (sym (turn g t)) (leave-before (reverse r.0) (reverse t) g (turned r.0 t r.1))))
]

pub facet-left : (s t : List ℕ) → In s (facets t) → In (reverse s) (leave_out (reverse t))
facet-left s t i = turned s t (subst (In s) (facets-are t) i)

pub left-facet : (s t : List ℕ) → In (reverse s) (leave_out (reverse t)) → In s (facets t)
left-facet s t i =
    subst (In s) (sym (facets-are t)) (subst (λ (k : List ℕ). In k (leave_out t)) (reverse-reverse s) (subst (λ (k : List ℕ). In (reverse (reverse s)) (leave_out k)) (reverse-reverse t) (turned (reverse s) (reverse t) i)))

module _ (space : List (List (List ℕ))) (valid : IsSpace space) (faces : FacesAreBelow) (sequences : ChainsAreSequences) where
  -- ---- ids that are there

  pub record IsAt (id : ℕ) : Type 0 where
    pub dim : ℕ
    pub number : ℕ
    pub small : dim ≤ 3
    pub low : 1 ≤ number
    pub high : number ≤ count space dim
    pub is : id ≡ id_of space (cell_at dim number)

  at_dim : (id dim : ℕ) → dim ≤ 3 → cells_before space dim < id → id ≤ cells_before space dim + count space dim → IsAt id
  at_dim id dim small low high = record { dim = dim; number = id - cells_before space dim; small = small; low = omega (arith, low); high = omega (arith, low, high); is = omega (arith, low) }

  pub at-id : (id : ℕ) → InRange space id → IsAt id
  at-id id r =
      elim (dec_lt (cells_before space 1) id) [
        | no a ↦ at_dim id 0 (omega arith) (omega (arith, r.0)) (omega arith)
        | yes a ↦ elim (dec_lt (cells_before space 2) id) [
          | no b ↦ at_dim id 1 (omega arith) a (omega arith)
          | yes b ↦ elim (dec_lt (cells_before space 3) id) [
            | no c ↦ at_dim id 2 (omega arith) b (omega arith)
            | yes c ↦ at_dim id 3 (omega arith) c (omega (arith, r.1))
          ]
        ]
      ]

  -- ---- below and above

  above-from : (x c : ℕ) → is_below space x c ≡ true → IsAbove space x c
  above-from x c h =
      let p = below-parts space valid x c h in
      let r = (face-range space valid x c h).1 in
      let u = p.under in
      let v = p.cell.small in
      record {
        low = r.0;
        high = r.1;
        face =
            (faces space (cell_at (suc p.cell.under) p.cell.number) (cell_at p.dim p.number) c x valid
            (record { small = v; low = p.cell.low; high = p.cell.high; is = sym p.cell.is })
            (record { small = omega (arith, u, v); low = p.low; high = p.high; is = sym p.is })).1 (p.below, omega (arith, u));
      }

  below-above : (x c : ℕ) → InRange space x → IsAbove space x c → is_below space x c ≡ true
  below-above x c r h =
      let a = at-id x r in
      let b = at-id c (h.low, h.high) in
      let p = (faces space (cell_at b.dim b.number) (cell_at a.dim a.number) c x valid (record { small = b.small; low = b.low; high = b.high; is = sym b.is }) (record { small = a.small; low = a.low; high = a.high; is = sym a.is })).0 h.face in
      subst (λ (k : ℕ). is_below space k c ≡ true) (sym a.is) (subst (λ (k : ℕ). is_below space (id_of space (cell_at a.dim a.number)) k ≡ true) (sym b.is) (by_dim b.dim b.number a.dim a.number b.small b.low b.high p.0 p.1))
    where
      by_dim : (d n e m : ℕ) → d ≤ 3 → 1 ≤ n → n ≤ count space d → IsBelow space d n e m → e < d → is_below space (id_of space (cell_at e m)) (id_of space (cell_at d n)) ≡ true
      by_dim zero n e m small low high b l = absurd (omega (arith, l))
      by_dim (suc d) n e m small low high b l = below-from space valid d n e m small low high (omega (arith, l)) b

  -- ---- towers and chains

  turn-onto : (c : ℕ) (t acc : List ℕ) → reverse (c ∷ t) ++ acc ≡ reverse t ++ c ∷ acc
  turn-onto c t acc = ap (λ (xs : List ℕ). xs ++ acc) (turn c t) ∙ append_assoc (reverse t) (c ∷ []) acc

  record Starts (xs : List ℕ) (n : ℕ) : Type 0 where
    pub first : ℕ
    pub rest : List ℕ
    pub is : xs ≡ first ∷ rest
    pub long : length rest ≡ n
    pub range : InRange space first
    pub follows : Follows space first rest

  starts : (t : List ℕ) (g : ℕ) (acc : List ℕ) → IsTower (is_below space) (g ∷ t) → InRange space g → Follows space g acc → Starts (reverse t ++ g ∷ acc) (length t + length acc)
  starts [] g acc h r f = record { first = g; rest = acc; is = refl; long = omega arith; range = r; follows = f }
  starts (c ∷ t) g acc h r f =
      let s = starts t c (g ∷ acc) h.1 (face-range space valid c g h.0).0 (above-from c g h.0, f) in
      record { first = s.first; rest = s.rest; is = turn-onto c t (g ∷ acc) ∙ s.is; long = s.long ∙ omega arith; range = s.range; follows = s.follows }

  -- a tower whose top is there, so long
  pub record IsRoom (t : List ℕ) (degree : ℕ) : Type 0 where
    pub tower : IsTower (is_below space) t
    pub range : InRange space (top_of t)
    pub long : length t ≡ suc degree

  pub tower-chain : (t : List ℕ) (degree : ℕ) → IsRoom t degree → In (reverse t) (chains_of space degree)
  tower-chain [] degree h = absurd h.tower
  tower-chain (g ∷ t) degree h =
      let s = starts t g [] h.tower h.range tt in
      let l = h.long in
      sequences.all space degree (reverse (g ∷ t)) (record { first = s.first; rest = s.rest; is = turn g t ∙ s.is; long = s.long ∙ omega (arith, l); low = s.range.0; high = s.range.1; follows = s.follows })

  ends : (rest : List ℕ) (first : ℕ) (acc : List ℕ) → Follows space first rest → InRange space first → IsTower (is_below space) (first ∷ acc) → IsTower (is_below space) (reverse rest ++ first ∷ acc) × InRange space (top_of (reverse rest ++ first ∷ acc))
  ends [] first acc f r h = (h, r)
  ends (b ∷ rest) first acc f r h =
      subst (λ (xs : List ℕ). IsTower (is_below space) xs × InRange space (top_of xs)) (sym (turn-onto b rest (first ∷ acc))) (ends rest b (first ∷ acc) f.1 (f.0.low, f.0.high) (below-above first b r f.0, h))

  pub chain-tower : (chain : List ℕ) (degree : ℕ) → In chain (chains_of space degree) → IsRoom (reverse chain) degree
  chain-tower chain degree i =
      let c = sequences.sequences space degree chain i in
      let t = ends c.rest c.first [] c.follows (c.low, c.high) tt in
      let e : reverse chain ≡ reverse c.rest ++ c.first ∷ [] = ap reverse c.is ∙ turn c.first c.rest in
      record {
        tower = subst (IsTower (is_below space)) (sym e) t.0;
        range = subst (λ (xs : List ℕ). InRange space (top_of xs)) (sym e) t.1;
        long = length-reverse chain ∙ (ap length c.is ∙ ap suc c.long);
      }

  -- ---- numbers

  place-of : (chains : List (List ℕ)) (x : List ℕ) → In x chains → (k : ℕ) × (k < length chains) × (get_or chains k [] ≡ x)
  place-of [] x i = elim i [ ]
  place-of (c ∷ chains) x i = elim (In-cases i) [ inl e ↦ (0, omega arith, sym e) | inr j ↦ (let r = place-of chains x j in (suc r.0, omega (arith, r.1), r.2)) ]

  pub record IsNumber (degree : ℕ) (chain : List ℕ) (n : ℕ) : Type 0 where
    pub low : 1 ≤ n
    pub high : n ≤ length (chains_of space degree)
    pub there : get_or (chains_of space degree) (n - 1) [] ≡ chain

  pub numbered-chain : (degree : ℕ) (chain : List ℕ) → In chain (chains_of space degree) → IsNumber degree chain (number_or_zero (chains_of space degree) chain)
  numbered-chain degree chain i =
      let p = place-of (chains_of space degree) chain i in
      let back : suc p.0 - 1 ≡ p.0 = omega arith in
      let there : get_or (chains_of space degree) (suc p.0 - 1) [] ≡ chain = ap (λ (k : ℕ). get_or (chains_of space degree) k []) back ∙ p.2 in
      let e : number_or_zero (chains_of space degree) chain ≡ suc p.0 =
      ap (number_or_zero (chains_of space degree)) (sym there) ∙ number-of space degree (suc p.0) (omega arith) (omega (arith, p.1)) in
      subst (IsNumber degree chain) (sym e) (record { low = omega arith; high = omega (arith, p.1); there = there })

  -- chains with one number are one chain
  pub number-same : (degree : ℕ) (a b : List ℕ) → In a (chains_of space degree) → In b (chains_of space degree) → number_or_zero (chains_of space degree) a ≡ number_or_zero (chains_of space degree) b → a ≡ b
  number-same degree a b i j e =
      sym (numbered-chain degree a i).there ∙ (ap (λ (k : ℕ). get_or (chains_of space degree) (k - 1) []) e ∙ (numbered-chain degree b j).there)

  -- the number of a tower
  pub tower-number : (t : List ℕ) (degree : ℕ) → IsRoom t degree → number_of space t ≡ number_or_zero (chains_of space degree) (reverse t)
  tower-number t degree h =
      let l = h.long in
      let e : length t - 1 ≡ degree = omega (arith, l) in
      ap (λ (k : ℕ). number_or_zero (chains_of space k) (reverse t)) e

  pub tower-same : (s t : List ℕ) (degree : ℕ) → IsRoom s degree → IsRoom t degree → number_of space s ≡ number_of space t → s ≡ t
  tower-same s t degree h k e =
      let r : reverse s ≡ reverse t =
      number-same degree (reverse s) (reverse t) (tower-chain s degree h) (tower-chain t degree k) (sym (tower-number s degree h) ∙ (e ∙ tower-number t degree k)) in
      sym (reverse-reverse s) ∙ (ap reverse r ∙ reverse-reverse t)

  -- ---- facets

  complex-facets : (degree n : ℕ) (chain : List ℕ) → degree ≤ 2 → IsNumber (suc degree) chain n → facets_of (complex_of space) (degree + 1) n ≡ facet_numbers (chains_of space degree) chain
  complex-facets degree n chain small h =
      let l = h.low in
      let g = h.high in
      ap (λ (ls : List (List ℕ)). get_or ls (n - 1) []) (layer-facets space degree small)
      ∙ (get_or-map (facet_numbers (chains_of space degree)) (chains_of space (suc degree)) (n - 1) [] [] (omega (arith, l, g)) ∙ ap (facet_numbers (chains_of space degree)) h.there)

  -- a facet of a chain is a facet of the tower
  pub facet-number : (s t : List ℕ) (degree : ℕ) → degree ≤ 2 → IsRoom s degree → IsRoom t (suc degree) → In s (facets t) → In (number_of space s) (facets_of (complex_of space) (degree + 1) (number_of space t))
  facet-number s t degree small h k i =
      let e = complex-facets degree (number_of space t) (reverse t) small (subst (IsNumber (suc degree) (reverse t)) (sym (tower-number t (suc degree) k)) (numbered-chain (suc degree) (reverse t) (tower-chain t (suc degree) k))) in
      subst (In (number_of space s)) (sym e)
      (subst (λ (n : ℕ). In n (facet_numbers (chains_of space degree) (reverse t))) (sym (tower-number s degree h)) (In-reverse (In-map (number_or_zero (chains_of space degree)) (facet-left s t i))))

  -- and back
  pub number-facet : (s t : List ℕ) (degree : ℕ) → degree ≤ 2 → IsRoom s degree → IsRoom t (suc degree) → In (number_of space s) (facets_of (complex_of space) (degree + 1) (number_of space t))
      → ((b : List ℕ) → In b (leave_out (reverse t)) → In b (chains_of space degree)) → In s (facets t)
  number-facet s t degree small h k i left =
      let e = complex-facets degree (number_of space t) (reverse t) small (subst (IsNumber (suc degree) (reverse t)) (sym (tower-number t (suc degree) k)) (numbered-chain (suc degree) (reverse t) (tower-chain t (suc degree) k))) in
      let m = map-In (number_or_zero (chains_of space degree)) (leave_out (reverse t)) (reverse-In (map (number_or_zero (chains_of space degree)) (leave_out (reverse t))) (subst (In (number_of space s)) e i)) in
      let same : reverse s ≡ m.0 = number-same degree (reverse s) m.0 (tower-chain s degree h) (left m.0 m.1) (sym (tower-number s degree h) ∙ m.2) in
      left-facet s t (subst (λ (b : List ℕ). In b (leave_out (reverse t))) (sym same) m.1)
