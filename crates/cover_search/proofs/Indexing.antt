-- The index of the relators, by the generators that they name.
use Rattle.std.proofs.Common.{◌≡◌, ◌⊎◌, inl, inr, ℕ, zero, suc, ◌+◌, ◌-◌, ◌<◌, ◌≤◌, List, [], ◌∷◌, ◌++◌, map, length, filter, get_or, refl, ap, arith, sym, subst, ◌∙◌, Bool, true, All}
use Rattle.std.specs.Prelude.{◌==◌, ℤ, slice_index_or, Contains}
use Rattle.std.specs.List.{list_all}
use Rattle.std.specs.List.Sorted.{IsStrictlyIncreasing}
use Rattle.std.proofs.lemmas.List.{get_or-map, length-map, length-append, get_or_append_left}
use Rattle.std.proofs.Math.Seq.{get_or-append_seam}
use Rattle.std.proofs.Math.Nat.{eq-or-lt_of_le}
use Rattle.std.proofs.lemmas.List.Elements.{All-from_get_or}
use Rattle.number_lists.specs.Members.{In, here, there}
use Rattle.number_lists.specs.Words.{upto, holds}
use Rattle.number_lists.specs.Cofaces.{IsRising, cells_with, coface_lists}
use Rattle.number_lists.proofs.CallerLemmas.{In-all, all-In, In-cases, In-filter, filter-In, In-inside, at-In, In-upto, upto-In, In-Contains, Contains-In, list_any-map, same_bool, holds-In, In-holds, length-upto, get_or-upto}
use Rattle.sheet_laws.specs.Permutations.{InRange}
use Rattle.live_laws.specs.Walks.{generator, mentions, AreLetters}
use Rattle.live_laws.specs.Live.{Relations}
use Rattle.cover_search.specs.Indexes.{IsNaming, IsIndex}

-- a member by its place, and what stands at a place
place-of : {A : Type 0} (d : A) {x : A} {xs : List A} → In x xs → (k : ℕ) × (k < length xs) × (get_or xs k d ≡ x)
place-of d here = (zero, omega arith, refl)
place-of d (there h) = let r = place-of d h in (suc r.0, omega (arith, r.1), r.2)

placed-In : {A : Type 0} (d : A) (xs : List A) (k : ℕ) → k < length xs → In (get_or xs k d) xs
placed-In d [] k l = absurd (omega (arith, l))
placed-In d (x ∷ xs) zero l = here
placed-In d (x ∷ xs) (suc k) l = there (placed-In d xs k (omega (arith, l)))

-- ---- the generators of a word

letters-ranged : (c : ℕ) (w : List ℤ) → AreLetters c w → (g : ℕ) → In g (map generator w) → InRange c g
letters-ranged c [] h g i = elim i [ ]
letters-ranged c (l ∷ w) h g i = elim (In-cases i) [ inl e ↦ subst (InRange c) (sym e) h.0 | inr j ↦ letters-ranged c w h.1 g j ]

pub naming : (c : ℕ) (w : List ℤ) (ms ns : List ℕ) → AreLetters c w → ms ≡ map generator w
    → IsStrictlyIncreasing ns → ((n : ℕ) → Contains ms n → Contains ns n) → ((n : ℕ) → Contains ns n → Contains ms n) → IsNaming c w ns
naming c w ms ns h e rises keeps adds = record {
  rising = record {
    rises = rises;
    within = All-from_get_or (λ n. (1 ≤ n) × (n ≤ c)) ns 0 (λ i l. letters-ranged c w h (get_or ns i 0) (subst (λ (xs : List ℕ). In (get_or ns i 0) xs) e (Contains-In (adds (get_or ns i 0) (In-Contains (at-In ns i 0 l))))));
  };
  named = λ g. same_bool (holds ns g) (mentions g w) (λ k. to g k) (λ k. back g k);
}
  where
    is : (g : ℕ) → mentions g w ≡ holds (map generator w) g
    is g = sym (list_any-map (λ y. y == g) generator w)

    to : (g : ℕ) → holds ns g ≡ true → mentions g w ≡ true
    to g k = is g ∙ In-holds (subst (λ (xs : List ℕ). In g xs) e (Contains-In (adds g (In-Contains (holds-In ns k)))))

    back : (g : ℕ) → mentions g w ≡ true → holds ns g ≡ true
    back g k = In-holds (Contains-In (keeps g (In-Contains (subst (λ (xs : List ℕ). In g xs) (sym e) (holds-In (map generator w) (sym (is g) ∙ k))))))

-- ---- the index

pub rising-names : (c : ℕ) (rs : List (List ℤ)) (named : List (List ℕ)) → ((k : ℕ) → k < length named → IsNaming c (slice_index_or rs k []) (slice_index_or named k []))
    → All (IsRising c) named
rising-names c rs named h = All-from_get_or (IsRising c) named [] (λ k l. (h k l).rising)

pub naming-more : (c n : ℕ) (rs : List (List ℤ)) (named : List (List ℕ)) (ns : List ℕ) → length named ≡ n
    → ((k : ℕ) → k < length named → IsNaming c (slice_index_or rs k []) (slice_index_or named k [])) → IsNaming c (slice_index_or rs n []) ns
    → (k : ℕ) → k < length (named ++ ns ∷ []) → IsNaming c (slice_index_or rs k []) (slice_index_or (named ++ ns ∷ []) k [])
naming-more c n rs named ns e h new k l = by (eq-or-lt_of_le (up k l))
  where
    up : (k : ℕ) → k < length (named ++ ns ∷ []) → k ≤ length named
    up k l = omega (arith, l, length-append named (ns ∷ []))

    by : (k ≡ length named) ⊎ (k < length named) → IsNaming c (slice_index_or rs k []) (slice_index_or (named ++ ns ∷ []) k [])
    by (inl j) = subst (λ (i : ℕ). IsNaming c (slice_index_or rs i []) (slice_index_or (named ++ ns ∷ []) i [])) (sym j)
        (subst (λ (xs : List ℕ). IsNaming c (slice_index_or rs (length named) []) xs) (sym (get_or-append_seam named ns [] [])) (subst (λ (i : ℕ). IsNaming c (slice_index_or rs i []) ns) (sym e) new))
    by (inr j) = subst (λ (xs : List ℕ). IsNaming c (slice_index_or rs k []) xs) (sym (get_or_append_left named (ns ∷ []) [] k j)) (h k j)

pub indexed : (P : Relations) (named : List (List ℕ)) → length named ≡ length P.relators
    → ((k : ℕ) → k < length named → IsNaming P.generators (slice_index_or P.relators k []) (slice_index_or named k []))
    → IsIndex P (coface_lists P.generators named)
indexed P named e h = record { long = length-map (upto P.generators) (cells_with named) ∙ length-upto P.generators; only = only; each = each }
  where
    list-is : (g : ℕ) → g < P.generators → slice_index_or (coface_lists P.generators named) g [] ≡ cells_with named (suc g)
    list-is g l = get_or-map (cells_with named) (upto P.generators) g 0 [] (subst (λ n. g < n) (sym (length-upto P.generators)) l) ∙ ap (cells_with named) (get_or-upto P.generators g l ∙ more g)
      where
        more : (n : ℕ) → n + 1 ≡ suc n
        more n = omega arith

    only : (g n : ℕ) → g < P.generators → In n (slice_index_or (coface_lists P.generators named) g []) → InRange (length P.relators) n × (mentions (suc g) (slice_index_or P.relators (n - 1) []) ≡ true)
    only g n l i =
        let j : In n (cells_with named (suc g)) = subst (λ (xs : List ℕ). In n xs) (list-is g l) i in
        let r : InRange (length named) n = upto-In (length named) n (In-inside (λ n. holds (slice_index_or named (n - 1) []) (suc g)) (upto (length named)) j) in
        let k : holds (slice_index_or named (n - 1) []) (suc g) ≡ true = (filter-In (λ n. holds (slice_index_or named (n - 1) []) (suc g)) (upto (length named)) j) in
        ((r.0, omega (arith, r.1, e)), sym ((h (n - 1) (omega (arith, r.0, r.1))).named (suc g)) ∙ k)

    each : (g n : ℕ) → g < P.generators → n < length P.relators → mentions (suc g) (slice_index_or P.relators n []) ≡ true → In (suc n) (slice_index_or (coface_lists P.generators named) g [])
    each g n l d k =
        let f : n < length named = omega (arith, d, e) in
        subst (λ (xs : List ℕ). In (suc n) xs) (sym (list-is g l))
        (In-filter (λ n. holds (slice_index_or named (n - 1) []) (suc g)) (In-upto (length named) (suc n) (omega arith) (omega (arith, f)))
        (ap (λ i. holds (slice_index_or named i []) (suc g)) (less n) ∙ ((h n f).named (suc g) ∙ k)))
      where
        less : (n : ℕ) → suc n - 1 ≡ n
        less n = omega arith

-- ---- the relators that name a generator

same-all : (p : List ℤ → Bool) (P : Relations) (index : List (List ℕ)) (g : ℕ) → IsIndex P index → g < P.generators
    → list_all (λ n. p (slice_index_or P.relators (n - 1) [])) (slice_index_or index g []) ≡ list_all p (filter (mentions (suc g)) P.relators)
same-all p P index g h l = same_bool _ _ to back
  where
    to : list_all (λ n. p (slice_index_or P.relators (n - 1) [])) (slice_index_or index g []) ≡ true → list_all p (filter (mentions (suc g)) P.relators) ≡ true
    to e = In-all p (filter (mentions (suc g)) P.relators) (λ w i. at w i (place-of [] (In-inside (mentions (suc g)) P.relators i)))
      where
        at : (w : List ℤ) → In w (filter (mentions (suc g)) P.relators) → (k : ℕ) × (k < length P.relators) × (slice_index_or P.relators k [] ≡ w) → p w ≡ true
        at w i r =
            let m : mentions (suc g) (slice_index_or P.relators r.0 []) ≡ true = ap (mentions (suc g)) r.2 ∙ filter-In (mentions (suc g)) P.relators i in
            let a = all-In (λ n. p (slice_index_or P.relators (n - 1) [])) e (h.each g r.0 l r.1 m) in
            ap p (sym r.2 ∙ ap (λ k. slice_index_or P.relators k []) (less r.0)) ∙ a
          where
            less : (n : ℕ) → n ≡ suc n - 1
            less n = omega arith

    back : list_all p (filter (mentions (suc g)) P.relators) ≡ true → list_all (λ n. p (slice_index_or P.relators (n - 1) [])) (slice_index_or index g []) ≡ true
    back e = In-all (λ n. p (slice_index_or P.relators (n - 1) [])) (slice_index_or index g []) (λ n i.
        let o = h.only g n l i in
        all-In p e (In-filter (mentions (suc g)) (placed-In [] P.relators (n - 1) (omega (arith, o.0.0, o.0.1))) o.1))

pub same-relators : (p : List ℤ → Bool) (P : Relations) (index : List (List ℕ)) (g : ℕ) → IsIndex P index → g < P.generators
    → list_all (λ n. p (slice_index_or P.relators (n - 1) [])) (slice_index_or index g []) ≡ list_all p (filter (mentions (suc g)) P.relators)
same-relators p P index g h l = same-all p P index g h l

pub in-index : (P : Relations) (index : List (List ℕ)) (g : ℕ) → IsIndex P index → g < P.generators → All (InRange (length P.relators)) (slice_index_or index g [])
in-index P index g h l = All-from_get_or (InRange (length P.relators)) (slice_index_or index g []) 0 (λ k d. (h.only g (get_or (slice_index_or index g []) k 0) l (at-In (slice_index_or index g []) k 0 d)).0)
