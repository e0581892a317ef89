-- The chain without its last or its first cells, by the facets of chains.
use Rattle.std.proofs.Common.{◌≡◌, ℕ, suc, ◌+◌, ◌-◌, ◌<◌, ◌≤◌, List, [], ◌++◌, map, take, drop, length, get_or, ap, sym, ◌∙◌, subst, arith}
use Rattle.std.proofs.lemmas.List.{append-nil, length-map, length-reverse, get_or-map, get_or-reverse, take-take, take_all, drop-drop, drop_all}
use Rattle.std.proofs.lemmas.List.FromFn.{get_or-map-range_with_len, length-map-range_with_len}
use Rattle.face_poset.specs.Poset.{count, facets_of}
use Rattle.number_lists.specs.Members.{In}
use Rattle.number_lists.proofs.CallerLemmas.{at-In}
use Rattle.order_complex.specs.Chains.{chains_of}
use Rattle.order_complex.specs.Cochains.{leave_out, value}
use Rattle.order_complex.specs.Complex.{complex_of, number_or_zero, facet_numbers, IsNumbered}
use Rattle.order_complex.proofs.Cancel.{complex-facets}
use Rattle.order_complex.proofs.Chained.{leave_out-member}
use Rattle.order_complex.proofs.Cofaces.{count-chains}
use Rattle.order_complex.proofs.Graded.{placed}
use Rattle.order_complex.proofs.Numbers.{without, leave_out-places, number-at}
use Rattle.order_complex.proofs.Ordered.{ordered-chains_of}
use Rattle.order_complex.proofs.ValueLemmas.{chain-long, value-found}

length-leave_out : (c : List ℕ) → length (leave_out c) ≡ length c
length-leave_out c = ap (λ (xs : List (List ℕ)). length xs) (leave_out-places c) ∙ length-map-range_with_len {X = List ℕ} (without c) 0 (length c)

leave_out-at : (c : List ℕ) (i : ℕ) → i < length c → get_or (leave_out c) i [] ≡ without c i
leave_out-at c i l = ap (λ xs. get_or xs i []) (leave_out-places c) ∙ get_or-map-range_with_len {X = List ℕ} (without c) 0 (length c) i i [] l (omega arith)

-- an entry of the facets, by the place of the entry that is left out
facet-at : (chains : List (List ℕ)) (c : List ℕ) (i j : ℕ) → j < length c → i + j + 1 ≡ length c → get_or (facet_numbers chains c) i 0 ≡ number_or_zero chains (without c j)
facet-at chains c i j l e =
    let ns : List ℕ = map (number_or_zero chains) (leave_out c) in
    let long : length ns ≡ length c = length-map (leave_out c) (number_or_zero chains) ∙ length-leave_out c in
    get_or-reverse ns i 0 (omega (arith, long))
    ∙ ap (λ k. get_or ns k 0) (omega (arith, long))
    ∙ get_or-map (number_or_zero chains) (leave_out c) j [] 0 (omega (arith, length-leave_out c))
    ∙ ap (number_or_zero chains) (leave_out-at c j l)

pub length-facet_numbers : (chains : List (List ℕ)) (c : List ℕ) → length (facet_numbers chains c) ≡ length c
length-facet_numbers chains c = length-reverse (map (number_or_zero chains) (leave_out c)) ∙ length-map (leave_out c) (number_or_zero chains) ∙ length-leave_out c

module _ (space : List (List (List ℕ))) where
  -- a facet of a chain, which leaves out the entry at a place
  facet-numbered : (degree i j : ℕ) (c : List ℕ) → In c (chains_of space (suc degree)) → j < length c → i + j + 1 ≡ length c → IsNumbered space degree (get_or (facet_numbers (chains_of space degree) c) i 0) (without c j)
  facet-numbered degree i j c m l e =
      let inside : In (without c j) (leave_out c) = subst (λ x. In x (leave_out c)) (leave_out-at c j l) (at-In (leave_out c) j [] (omega (arith, length-leave_out c))) in
      let p = placed (chains_of space degree) (without c j) (ordered-chains_of space degree) (leave_out-member space degree c m (without c j) inside) in
      let n : get_or (facet_numbers (chains_of space degree) c) i 0 ≡ p.place + 1 = facet-at (chains_of space degree) c i j l e ∙ p.number in
      subst (λ k. IsNumbered space degree k (without c j)) (sym n) record {
        low = omega arith;
        high = omega (arith, p.within);
        is = let k : p.place + 1 - 1 ≡ p.place = omega arith in ap (λ k. get_or (chains_of space degree) k []) k ∙ p.there;
      }

  -- the facets of the chain with a number: the first leaves out the last entry, the last one the first entry
  pub record Facets (degree number : ℕ) (c : List ℕ) : Type 0 where
    pub within : number ≤ count (complex_of space) (suc degree)
    pub long : length (facets_of (complex_of space) (suc degree) number) ≡ suc (suc degree)
    pub first : IsNumbered space degree (get_or (facets_of (complex_of space) (suc degree) number) 0 0) (take (suc degree) c)
    pub last : IsNumbered space degree (get_or (facets_of (complex_of space) (suc degree) number) (suc degree) 0) (drop 1 c)

  pub facets-numbered : (degree number : ℕ) (c : List ℕ) → degree ≤ 2 → IsNumbered space (suc degree) number c → Facets degree number c
  facets-numbered degree number c small h =
      let place : number - 1 < length (chains_of space (suc degree)) = omega (arith, h.low, h.high) in
      let long : length c ≡ suc degree + 1 = ap (λ (x : List ℕ). length x) (sym h.is) ∙ chain-long space (suc degree) (number - 1) place in
      let m : In c (chains_of space (suc degree)) = subst (λ x. In x (chains_of space (suc degree))) h.is (at-In (chains_of space (suc degree)) (number - 1) [] place) in
      let fs : facets_of (complex_of space) (suc degree) number ≡ facet_numbers (chains_of space degree) c =
      complex-facets space degree number small h.low h.high ∙ ap (facet_numbers (chains_of space degree)) h.is in
      let front : without c (suc degree) ≡ take (suc degree) c =
      ap (λ xs. take (suc degree) c ++ xs) (drop_all (suc degree + 1) c (omega (arith, long))) ∙ append-nil (take (suc degree) c) in
      record {
        within = omega (arith, h.high, count-chains space (suc degree) (omega arith));
        long = ap (λ (ns : List ℕ). length ns) fs ∙ length-facet_numbers (chains_of space degree) c ∙ omega (arith, long);
        first = subst (λ ns. IsNumbered space degree (get_or ns 0 0) (take (suc degree) c)) (sym fs)
            (subst (IsNumbered space degree (get_or (facet_numbers (chains_of space degree) c) 0 0)) front (facet-numbered degree 0 (suc degree) c m (omega (arith, long)) (omega (arith, long))));
        last = subst (λ ns. IsNumbered space degree (get_or ns (suc degree) 0) (drop 1 c)) (sym fs) (facet-numbered degree (suc degree) 0 c m (omega (arith, long)) (omega (arith, long)));
      }

  -- ---- one cell fewer

  -- what a step of the loops asks for, and what it gives
  pub record Step (degree step number : ℕ) (c : List ℕ) : Type 0 where
    pub within : number ≤ count (complex_of space) (degree - step)
    pub some : 1 ≤ length (facets_of (complex_of space) (degree - step) number)
    pub next : (fs : List ℕ) → fs ≡ facets_of (complex_of space) (degree - step) number → IsNumbered space (degree - (step + 1)) (get_or fs 0 0) (take (degree - (step + 1) + 1) c)

  pub front-step : (degree step number : ℕ) (c : List ℕ) → degree ≤ 3 → step < degree → IsNumbered space (degree - step) number (take (degree - step + 1) c) → Step degree step number c
  front-step degree step number c small l h =
      let lower : ℕ = degree - (step + 1) in
      let up : suc lower ≡ degree - step = omega arith in
      let k : IsNumbered space (suc lower) number (take (suc lower + 1) c) = subst (λ d. IsNumbered space d number (take (d + 1) c)) (sym up) h in
      let f = facets-numbered lower number (take (suc lower + 1) c) (omega arith) k in
      record {
        within = subst (λ d. number ≤ count (complex_of space) d) up f.within;
        some = subst (λ d. 1 ≤ length (facets_of (complex_of space) d number)) up (omega (arith, f.long));
        next = λ fs e.
            let same : suc lower ≡ lower + 1 = omega arith in
            let shorter : take (suc lower) (take (suc lower + 1) c) ≡ take (lower + 1) c = take-take (suc lower) (suc lower + 1) c (omega arith) ∙ ap (λ n. take n c) same in
            subst (IsNumbered space lower (get_or fs 0 0)) shorter
            (subst (λ ns. IsNumbered space lower (get_or ns 0 0) (take (suc lower) (take (suc lower + 1) c))) (sym (e ∙ ap (λ d. facets_of (complex_of space) d number) (sym up))) f.first);
      }

  pub record BackStep (degree step number : ℕ) (c : List ℕ) : Type 0 where
    pub within : number ≤ count (complex_of space) (degree - step)
    pub some : 1 ≤ length (facets_of (complex_of space) (degree - step) number)
    pub next : (fs : List ℕ) (n : ℕ) → fs ≡ facets_of (complex_of space) (degree - step) number → n ≡ get_or fs (length fs - 1) 0 → IsNumbered space (degree - (step + 1)) n (drop (step + 1) c)

  pub back-step : (degree step number : ℕ) (c : List ℕ) → degree ≤ 3 → step < degree → IsNumbered space (degree - step) number (drop step c) → BackStep degree step number c
  back-step degree step number c small l h =
      let lower : ℕ = degree - (step + 1) in
      let up : suc lower ≡ degree - step = omega arith in
      let k : IsNumbered space (suc lower) number (drop step c) = subst (λ d. IsNumbered space d number (drop step c)) (sym up) h in
      let f = facets-numbered lower number (drop step c) (omega arith) k in
      record {
        within = subst (λ d. number ≤ count (complex_of space) d) up f.within;
        some = subst (λ d. 1 ≤ length (facets_of (complex_of space) d number)) up (omega (arith, f.long));
        next = λ fs n e g.
            let same : fs ≡ facets_of (complex_of space) (suc lower) number = e ∙ ap (λ d. facets_of (complex_of space) d number) (sym up) in
            let at : n ≡ get_or (facets_of (complex_of space) (suc lower) number) (suc lower) 0 =
            g ∙ ap (λ i. get_or fs i 0) (omega (arith, ap (λ (ns : List ℕ). length ns) same, f.long)) ∙ ap (λ ns. get_or ns (suc lower) 0) same in
            subst (IsNumbered space lower n) (drop-drop 1 step c) (subst (λ m. IsNumbered space lower m (drop 1 (drop step c))) (sym at) f.last);
      }

  -- no cell fewer, and the last step
  pub front-init : (degree number d : ℕ) → 1 ≤ number → number ≤ length (chains_of space degree) → d ≡ degree → IsNumbered space d number (take (d + 1) (get_or (chains_of space degree) (number - 1) []))
  front-init degree number d low high e =
      subst (λ k. IsNumbered space k number (take (k + 1) (get_or (chains_of space degree) (number - 1) []))) (sym e) record {
        low = low;
        high = high;
        is = sym (take_all (degree + 1) (get_or (chains_of space degree) (number - 1) []) (let l = chain-long space degree (number - 1) (omega arith) in omega arith));
      }

  pub front-last : (degree step less number : ℕ) (c : List ℕ) → step ≡ less → IsNumbered space (degree - step) number (take (degree - step + 1) c) → IsNumbered space (degree - less) number (take (degree - less + 1) c)
  front-last degree step less number c e h = subst (λ k. IsNumbered space (degree - k) number (take (degree - k + 1) c)) e h

  -- ---- the value at the chain with a number

  pub value-numbered : (degree number : ℕ) (ids xs : List ℕ) → length xs ≡ length (chains_of space degree) → IsNumbered space degree number ids → value (chains_of space degree) xs ids ≡ get_or xs (number - 1) 0
  value-numbered degree number ids xs l h =
      (value-found (chains_of space degree) xs ids (number - 1 + 1) l (number-at (chains_of space degree) ids (number - 1) (ordered-chains_of space degree) (omega (arith, h.low, h.high)) h.is)).is
      ∙ ap (λ k. get_or xs k 0) (omega (arith, h.low))
