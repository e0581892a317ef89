-- The critical chains of a degree are the flags of the cells, in the order of their numbers; a full tower is no lower.
use Rattle.std.proofs.Common.{◌≡◌, inl, inr, ℕ, suc, ◌+◌, ◌-◌, ◌<◌, ◌≤◌, List, [], ◌∷◌, Bool, true, false, not, cond, ◌&&◌, map, filter, reverse, length, get_or, refl, ap, sym, ◌∙◌, subst, arith}
use Rattle.std.specs.List.{range_with_len}
use Rattle.std.proofs.lemmas.List.{length-map, get_or-map, same_lists}
use Rattle.number_lists.specs.Words.{upto, holds}
use Rattle.number_lists.specs.Members.{In, here, there}
use Rattle.number_lists.proofs.CallerLemmas.{map-In, In-holds, holds-In, In-upto, upto-In, filter-In, holds-filter, length-upto, get_or-upto, AreDistinct, none, more, distinct-filter, distinct-range}
use Rattle.face_poset.specs.Poset.{IsSpace, count}
use Rattle.order_complex.specs.Chains.{chains_of}
use Rattle.order_complex.specs.Complex.{complex_of}
use Rattle.order_complex.specs.Laws.{FacesAreBelow, ChainsAreSequences}
use Rattle.order_complex.proofs.CallerLemmas.{count-chains}
use Rattle.vector_field.specs.Pairs.{Field, is_used}
use Rattle.vector_field.proofs.CallerLemmas.{critical-is, used-In}
use Rattle.split_laws.specs.declared.kind.Kind.{Kind}
use Rattle.split_laws.specs.declared.kind.Kind.TheVariants.{Critical, Lower, Upper}
use Rattle.split_laws.specs.Kinds.{criticals, part, ZeroOnLowers}
use Rattle.split_laws.proofs.CallerLemmas.{part-long}
use Rattle.pair_stages.specs.Signed.{AreKinds, IsKind}
use Rattle.local_field.specs.Buildings.{flag_of}
use Rattle.local_field.specs.Numbered.{number_of, flag_numbers, IsLocalField}
use Rattle.local_field.specs.Flags.{flags_in_order, top_number, flag_cells}
use Rattle.local_field.proofs.CallerLemmas.{number, top-number}
use Rattle.flag_laws.proofs.ChainSums.{map-map}

-- ---- parts by the kinds

abbrev is_critical : Kind → Bool
is_critical Critical = true
is_critical Lower = false
is_critical Upper = false

-- the part of values at numbers is those at the numbers that a test for the critical ones leaves
part-filter : (ts : List Kind) (h : ℕ → ℕ) (test : ℕ → Bool) (a : ℕ) → ((i : ℕ) → i < length ts → test (a + i) ≡ is_critical (get_or ts i Critical))
    → part ts (map h (range_with_len a (length ts))) ≡ map h (filter test (range_with_len a (length ts)))
part-filter [] h test a e = refl
part-filter (t ∷ ts) h test a e = by t (ap test (omega arith) ∙ e 0 (omega arith)) (part-filter ts h test (a + 1) (λ i l. ap test (omega arith) ∙ e (suc i) (omega (arith, l))))
  where
    rest : List ℕ
    rest = range_with_len (a + 1) (length ts)

    step : (b c : Bool) → b ≡ c → map h (filter test rest) ≡ map h (filter test rest)
    step b c e = refl

    by : (t : Kind) → test a ≡ is_critical t → part ts (map h rest) ≡ map h (filter test rest) → part (t ∷ ts) (h a ∷ map h rest) ≡ map h (cond (test a) (a ∷ filter test rest) (filter test rest))
    by Critical q r = ap (λ (xs : List ℕ). h a ∷ xs) r ∙ ap (λ (b : Bool). map h (cond b (a ∷ filter test rest) (filter test rest))) (sym q)
    by Lower q r = r ∙ ap (λ (b : Bool). map h (cond b (a ∷ filter test rest) (filter test rest))) (sym q)
    by Upper q r = r ∙ ap (λ (b : Bool). map h (cond b (a ∷ filter test rest) (filter test rest))) (sym q)

-- zero at each lower
pub zero-at : (ts : List Kind) (xs : List ℕ) → length xs ≡ length ts → ((i : ℕ) → i < length ts → get_or ts i Critical ≡ Lower → get_or xs i 0 ≡ 0) → ZeroOnLowers ts xs
zero-at [] [] l h = refl
zero-at [] (x ∷ xs) l h = absurd (omega (arith, l))
zero-at (t ∷ ts) [] l h = absurd (omega (arith, l))
zero-at (Critical ∷ ts) (x ∷ xs) l h = zero-at ts xs (omega (arith, l)) (λ i k e. h (suc i) (omega (arith, k)) e)
zero-at (Lower ∷ ts) (x ∷ xs) l h = (h 0 (omega arith) refl, zero-at ts xs (omega (arith, l)) (λ i k e. h (suc i) (omega (arith, k)) e))
zero-at (Upper ∷ ts) (x ∷ xs) l h = zero-at ts xs (omega (arith, l)) (λ i k e. h (suc i) (omega (arith, k)) e)

map-places : {A : Type 0} (w : A → ℕ) (xs : List A) (d : A) → map w xs ≡ map (λ k. w (get_or xs (k - 1) d)) (upto (length xs))
map-places w xs d =
    same_lists (map w xs) (map (λ k. w (get_or xs (k - 1) d)) (upto (length xs))) (length-map xs w ∙ (sym (length-upto (length xs)) ∙ sym (length-map (upto (length xs)) (λ k. w (get_or xs (k - 1) d)))))
    (λ i e l. (let n : i < length xs = omega (arith, l, length-map xs w) in
    let one : i + 1 - 1 ≡ i = omega arith in
    get_or-map w xs i d e n ∙ sym (get_or-map (λ k. w (get_or xs (k - 1) d)) (upto (length xs)) i 0 e (omega (arith, n, length-upto (length xs))) ∙ ap (λ k. w (get_or xs (k - 1) d)) (get_or-upto (length xs) i n) ∙ ap (λ k. w (get_or xs k d)) one)))

pub map-same : {A B : Type 0} (f g : A → B) (xs : List A) → ((x : A) → In x xs → f x ≡ g x) → map f xs ≡ map g xs
map-same f g [] e = refl
map-same {A} {B} f g (x ∷ xs) e = ap (λ (y : B). y ∷ map f xs) (e x here) ∙ ap (λ (ys : List B). g x ∷ ys) (map-same f g xs (λ y i. e y (there i)))

-- different elements that a function keeps apart
distinct-kept : {A B : Type 0} (f : A → B) {xs : List A} → AreDistinct xs → ((x y : A) → In x xs → In y xs → f x ≡ f y → x ≡ y) → AreDistinct (map f xs)
distinct-kept f none h = none
distinct-kept {A} f (more {x} {xs} n d) h =
    more (λ i. (let r = map-In f xs i in n (subst (λ (z : A). In z xs) (sym (h x r.0 here (there r.1) r.2)) r.1))) (distinct-kept f d (λ y z i j. h y z (there i) (there j)))

module _ (space : List (List (List ℕ))) (valid : IsSpace space) (faces : FacesAreBelow) (sequences : ChainsAreSequences) (d : ℕ) (small : d ≤ 3) where
  -- ---- the flags in order

  -- what stands in order is a flag
  pub record IsFlagNumber (k : ℕ) : Type 0 where
    pub cell : ℕ
    pub low : 1 ≤ cell
    pub high : cell ≤ count space d
    pub is : k ≡ number_of space (flag_of space d cell)
    pub top : top_number space d k ≡ cell
    pub chain : get_or (chains_of space d) (k - 1) [] ≡ reverse (flag_of space d cell)

  pub in-order : (k : ℕ) → In k (flags_in_order space d) → IsFlagNumber k
  in-order k i =
      let m = map-In (λ n. number_of space (flag_of space d n)) (upto (count space d)) (holds-In (flag_numbers space d) (filter-In (holds (flag_numbers space d)) (upto (length (chains_of space d))) i)) in
      let w = upto-In (count space d) m.0 m.1 in
      let n = number space valid faces sequences d small m.0 w.0 w.1 in
      record {
        cell = m.0;
        low = w.0;
        high = w.1;
        is = m.2;
        top = ap (top_number space d) m.2 ∙ top-number space valid faces sequences d small m.0 w.0 w.1;
        chain = ap (λ (x : ℕ). get_or (chains_of space d) (x - 1) []) m.2 ∙ n.there;
      }

  pub cells-distinct : AreDistinct (flag_cells space d)
  cells-distinct =
      distinct-kept (top_number space d) (distinct-filter (holds (flag_numbers space d)) (distinct-range 1 (length (chains_of space d))))
      (λ x y i j e. (let a = in-order x i in
      let b = in-order y j in
      a.is ∙ (ap (λ (n : ℕ). number_of space (flag_of space d n)) (sym a.top ∙ (e ∙ b.top)) ∙ sym b.is)))

  pub cell-there : (n : ℕ) → In n (flag_cells space d) → (1 ≤ n) × (n ≤ count space d)
  cell-there n i =
      let r = map-In (top_number space d) (flags_in_order space d) i in
      let a = in-order r.0 r.1 in
      subst (λ (x : ℕ). (1 ≤ x) × (x ≤ count space d)) (sym (r.2 ∙ a.top)) (a.low, a.high)

  -- values of chains at the flags in order
  at-flags : (w : List ℕ → ℕ) → map (λ k. w (get_or (chains_of space d) (k - 1) [])) (flags_in_order space d) ≡ map (λ n. w (reverse (flag_of space d n))) (flag_cells space d)
  at-flags w =
      map-same (λ k. w (get_or (chains_of space d) (k - 1) [])) (λ k. w (reverse (flag_of space d (top_number space d k)))) (flags_in_order space d)
      (λ k i. (let a = in-order k i in ap w a.chain ∙ ap (λ (n : ℕ). w (reverse (flag_of space d n))) (sym a.top)))
      ∙ sym (map-map (λ n. w (reverse (flag_of space d n))) (top_number space d) (flags_in_order space d))

  module _ (field : Field) (local : IsLocalField space field) (ts : List Kind) (kinds : AreKinds field.pairs d (length (chains_of space d)) ts) where
    -- ---- the kinds

    flag-unused : (n : ℕ) → 1 ≤ n → n ≤ length (chains_of space d) → holds (flag_numbers space d) n ≡ not (is_used field.pairs d n)
    flag-unused n low high =
        let test : ℕ → Bool = λ c. not (is_used field.pairs d c) in
        let N : ℕ = count (complex_of space) d in
        sym (local.leaves d n small)
        ∙ (ap (λ (xs : List ℕ). holds xs n) (critical-is (complex_of space) field d local.valid small)
        ∙ (holds-filter test (upto N) n ∙ (ap (λ (b : Bool). test n && b) (In-holds (In-upto N n low (omega (arith, high, count-chains space d small)))) ∙ and-true (test n))))
      where
        and-true : (t : Bool) → t && true ≡ t
        and-true true = refl
        and-true false = refl

    kind-test : (n : ℕ) (t : Kind) → IsKind field.pairs d n t → not (is_used field.pairs d n) ≡ is_critical t
    kind-test n Critical h = ap not h
    kind-test n Lower h = ap not (used-In d n h.1 (inl (refl, refl)))
    kind-test n Upper h = ap not (used-In d n h.3 (inr (sym h.2, refl)))

    -- the part of the values of chains is those at the flags of the cells
    pub part-flags : (w : List ℕ → ℕ) → part ts (map w (chains_of space d)) ≡ map (λ n. w (reverse (flag_of space d n))) (flag_cells space d)
    part-flags w =
        let C : List (List ℕ) = chains_of space d in
        let h : ℕ → ℕ = λ k. w (get_or C (k - 1) []) in
        let many : length ts ≡ length C = kinds.long in
        ap (part ts) (map-places w C [] ∙ ap (λ (n : ℕ). map h (upto n)) (sym many))
        ∙ (part-filter ts h (holds (flag_numbers space d)) 1
        (λ i l. (let one : 1 + i ≡ i + 1 = omega arith in
        ap (holds (flag_numbers space d)) one ∙ (flag-unused (i + 1) (omega arith) (omega (arith, l, many)) ∙ kind-test (i + 1) (get_or ts i Critical) (kinds.each i (omega (arith, l, many))))))
        ∙ (ap (λ (n : ℕ). map h (filter (holds (flag_numbers space d)) (upto n))) many ∙ at-flags w))

    -- as many as there are flags
    pub many-critical : criticals ts ≡ length (flag_cells space d)
    many-critical =
        let C : List (List ℕ) = chains_of space d in
        sym (part-long ts (map (λ c. 0) C) (length-map C (λ c. 0) ∙ sym kinds.long)) ∙ (ap (λ (xs : List ℕ). length xs) (part-flags (λ c. 0)) ∙ length-map (flag_cells space d) (λ n. 0))
