-- The listed pairs of a dimension: all of them, each once, each the least that may come.
use Rattle.std.proofs.Common.{◌≡◌, ◌⊎◌, inl, inr, ℕ, zero, suc, ◌+◌, ◌<◌, List, [], ◌∷◌, ◌++◌, length, map, drop, get_or, Bool, true, false, cond, not, ◌&&◌, ◌||◌, eqb, Option, Some, None, AllPairs, refl, ap, sym, ◌∙◌, subst, arith}
use Rattle.std.specs.List.{find, list_any, list_all}
use Rattle.std.proofs.lemmas.Bool.{both_ways, eq-eqb, and_parts, not-true}
use Rattle.std.proofs.lemmas.Option.{same_Some}
use Rattle.std.specs.List.Sorted.{IsStrictlyIncreasing}
use Rattle.std.proofs.lemmas.List.{length-append}
use Rattle.std.proofs.lemmas.List.Kept.{AllPairs-cons, IsStrictlyIncreasing-filter}
use Rattle.face_poset.specs.declared.cells.Pair.{Pair}
use Rattle.number_lists.specs.Words.{upto, holds}
use Rattle.number_lists.specs.Members.{In, here, there}
use Rattle.number_lists.proofs.CallerLemmas.{In-cases, In-map, map-In, In-inside, filter-In, In-holds, In-Contains, all-In, at-In, increasing_head, increasing_tail, increasing-upto}
use Rattle.face_poset.specs.Poset.{count, facets_of}
use Rattle.pair_laws.specs.Tree.{Link, distinct}
use Rattle.pair_laws.specs.Ranks.{is_lower, ordered, IsRanked, IsArranged, arranged}
use Rattle.pair_laws.specs.Ranks.{comes_before as goes_before, without as without_link}
use Rattle.pair_laws.proofs.CallerLemmas.{arranged_is, arranged_once, arranged-inside, ordered_head, ordered_tail, before-inside, member_lower, find-some}
use Rattle.vector_field.specs.Pairs.{pair, has_lower, others, comes_before}
use Rattle.vector_field.proofs.CallerLemmas.{Lined, lined-filter, Goes}
use Rattle.chosen_field.specs.Chosen.{upper_of, lowers_in, link, links, listed}
use Rattle.chosen_field.specs.Laws.{IsLeastFirst}
use Rattle.chosen_field.proofs.Uppers.{AreApart, link-In, In-link, link-one}

-- ---- lists

pub all-agree : {A : Type 0} (p q : A → Bool) (xs : List A) → ((x : A) → p x ≡ q x) → list_all p xs ≡ list_all q xs
all-agree p q [] h = refl
all-agree p q (x ∷ xs) h = ap (λ (b : Bool). b && list_all p xs) (h x) ∙ ap (λ (b : Bool). q x && b) (all-agree p q xs h)

-- of a list in an order the first that passes stands before all others that pass
pub first-passing : {A : Type 0} (R : A → A → Type 0) (p : A → Bool) (xs : List A) → Lined R xs → (x y : A) → find p xs ≡ Some x → In y xs → p y ≡ true → (x ≡ y) ⊎ R x y
first-passing R p [] h x y e m t = elim m [ ]
first-passing R p (z ∷ zs) h x y e m t = by (p z) refl (λ k n. first-passing R p zs h.1 x y k n t)
  where
    by : (b : Bool) → p z ≡ b → (find p zs ≡ Some x → In y zs → (x ≡ y) ⊎ R x y) → (x ≡ y) ⊎ R x y
    by true f k =
        let s : z ≡ x = same_Some z x (sym (ap (λ (b : Bool). cond b (Some z) (find p zs)) f) ∙ e) in
        elim (In-cases m) [ inl same ↦ inl (sym s ∙ sym same) | inr n ↦ inr (subst (λ (w : _). R w y) s (h.0 y n)) ]
    by false f k =
        elim (In-cases m) [
          | inl same ↦ absurd (both_ways (p z) f (subst (λ (w : _). p w ≡ true) same t))
          | inr n ↦ k (sym (ap (λ (b : Bool). cond b (Some z) (find p zs)) f) ∙ e) n
        ]

-- what stands in a relation to all later elements
pub lined-pairs : {A : Type 0} (R : A → A → Type 0) (xs : List A) → Lined R xs → AllPairs R xs
lined-pairs R [] h = λ i j d l k. absurd (omega (arith, k))
lined-pairs R (x ∷ xs) h = AllPairs-cons R x xs (λ k d l. h.0 (get_or xs k d) (at-In xs k d l)) (lined-pairs R xs h.1)

cons-parts : {A : Type 0} (x y : A) (xs ys : List A) → x ∷ xs ≡ y ∷ ys → (x ≡ y) × (xs ≡ ys)
cons-parts {A} x y xs ys e = (ap (λ (zs : List A). get_or zs 0 x) e, ap (λ (zs : List A). drop 1 zs) e)

empty : {A : Type 0} (xs : List A) (y : A) (ys : List A) → [] ≡ xs ++ y ∷ ys → ⊥
empty {A} xs y ys e = omega (arith, ap (λ (zs : List A). length zs) e, length-append xs (y ∷ ys))

-- what is arranged without a lower has it not
other-lower : (F : ℕ → List ℕ) (n : ℕ) (ls : List Link) (a : ℕ) (m : Link) → In m (arranged F n (without_link a ls)) → m.lower ≡ a → ⊥
other-lower F n ls a m i e =
    both_ways (eqb m.lower a) (not-true (eqb m.lower a) (filter-In (λ (q : Link). not (eqb q.lower a)) ls (arranged-inside F n (without_link a ls) m i))) (eq-eqb m.lower a e)

-- numbers that increase
pub lined-increasing : (xs : List ℕ) → IsStrictlyIncreasing xs → Lined (λ x y. x < y) xs
lined-increasing [] r = tt
lined-increasing (x ∷ xs) r = (λ y m. let c = In-Contains m in subst (λ (z : ℕ). x < z) c.2 (increasing_head x xs r c.0 y c.1), lined-increasing xs (increasing_tail x xs r))

lined-map : {A B : Type 0} (R : B → B → Type 0) (f : A → B) (xs : List A) → Lined (λ x y. R (f x) (f y)) xs → Lined R (map f xs)
lined-map R f [] h = tt
lined-map R f (x ∷ xs) h = (λ y m. let s = map-In f xs m in subst (R (f x)) (sym s.2) (h.0 s.0 s.1), lined-map R f xs h.1)

module _ (space : List (List (List ℕ))) (dim : ℕ) where
  abbrev pub to_pair : Link → Pair
  to_pair l = pair dim l.lower l.upper

  -- ---- links and pairs

  lower-same : (ls : List Link) (f : ℕ) → list_any (has_lower dim f) (map (to_pair) ls) ≡ is_lower ls f
  lower-same [] f = refl
  lower-same (l ∷ ls) f =
      ap (λ (b : Bool). (b && eqb l.lower f) || list_any (has_lower dim f) (map (to_pair) ls)) (eq-eqb dim dim refl)
      ∙ ap (λ (b : Bool). eqb l.lower f || b) (lower-same ls f)

  before-same : (l : Link) (ls : List Link) → comes_before space (to_pair l) (map (to_pair) ls) ≡ goes_before (facets_of space (dim + 1)) l ls
  before-same l ls = all-agree (λ f. not (list_any (has_lower dim f) (map (to_pair) ls))) (λ g. not (is_lower ls g)) (others space (to_pair l)) (λ f. ap not (lower-same ls f))

  abbrev Below : Link → Link → Type 0
  Below l k = l.lower < k.lower

  -- ---- each is the least that may come

  abbrev Least : Pair → List Pair → Type 0
  Least x xs = (comes_before space x xs ≡ true) × ((q : Pair) → In q xs → comes_before space q (x ∷ xs) ≡ true → x.lower < q.lower)

  -- what is arranged after a link
  abbrev after : (n : ℕ) → List Link → Link → List Link
  after n ls l = arranged (facets_of space (dim + 1)) n (without_link l.lower ls)

  least-first : (n : ℕ) (ls : List Link) → Lined (Below) ls → ((l : Link) → In l ls → In l (arranged (facets_of space (dim + 1)) n ls))
      → (earlier later : List Pair) (p : Pair) → map (to_pair) (arranged (facets_of space (dim + 1)) n ls) ≡ earlier ++ p ∷ later
      → (comes_before space p later ≡ true) × ((q : Pair) → In q later → comes_before space q (p ∷ later) ≡ true → p.lower < q.lower)
  least-first zero ls r all earlier later p e = absurd (empty earlier p later e)
  least-first (suc n) ls r all earlier later p e =
      by (find (λ l. goes_before (facets_of space (dim + 1)) l ls) ls) refl all earlier e (λ a x es k m. least-first n (without_link a ls) (lined-filter (Below) (λ q. not (eqb q.lower a)) ls r) k es later p m)
    where
      among : (l : Link) → In l (after n ls l) → ⊥
      among l i = other-lower (facets_of space (dim + 1)) n ls l.lower l i refl

      at_head : (l : Link) → find (λ m. goes_before (facets_of space (dim + 1)) m ls) ls ≡ Some l → ((m : Link) → In m ls → In m (l ∷ after n ls l)) → Least (to_pair l) (map (to_pair) (after n ls l))
      at_head l f all = (
        before-same l (after n ls l) ∙ before-inside (facets_of space (dim + 1)) l ls (after n ls l) (λ q i. there_in l q i) (find-some (λ m. goes_before (facets_of space (dim + 1)) m ls) ls l f).1,
        λ q i t.
            let s = map-In (to_pair) (after n ls l) i in
            let u : goes_before (facets_of space (dim + 1)) s.0 (l ∷ after n ls l) ≡ true = sym (before-same s.0 (l ∷ after n ls l)) ∙ subst (λ (z : Pair). comes_before space z (map (to_pair) (l ∷ after n ls l)) ≡ true) s.2 t in
            let v : goes_before (facets_of space (dim + 1)) s.0 ls ≡ true = before-inside (facets_of space (dim + 1)) s.0 (l ∷ after n ls l) ls all u in
            elim (first-passing (Below) (λ m. goes_before (facets_of space (dim + 1)) m ls) ls r l s.0 f (there_in l s.0 s.1) v) [
              | inl same ↦ absurd (among l (subst (λ (z : Link). In z (after n ls l)) (sym same) s.1))
              | inr k ↦ subst (λ (z : Pair). l.lower < z.lower) (sym s.2) k
            ],
      )
        where
          there_in : (l q : Link) → In q (after n ls l) → In q ls
          there_in l q i = In-inside (λ k. not (eqb k.lower l.lower)) ls (arranged-inside (facets_of space (dim + 1)) n (without_link l.lower ls) q i)

      by : (o : Option Link) → find (λ l. goes_before (facets_of space (dim + 1)) l ls) ls ≡ o
          → ((l : Link) → In l ls → In l (elim o [ None ↦ [] | Some l ↦ l ∷ arranged (facets_of space (dim + 1)) n (without_link l.lower ls) ]))
          → (earlier : List Pair) → map (to_pair) (elim o [ None ↦ [] | Some l ↦ l ∷ arranged (facets_of space (dim + 1)) n (without_link l.lower ls) ]) ≡ earlier ++ p ∷ later
          → ((a : ℕ) (x : Pair) (es : List Pair) → ((l : Link) → In l (without_link a ls) → In l (arranged (facets_of space (dim + 1)) n (without_link a ls)))
          → map (to_pair) (arranged (facets_of space (dim + 1)) n (without_link a ls)) ≡ es ++ p ∷ later → Least p later)
          → Least p later
      by None f all earlier e k = absurd (empty earlier p later e)
      by (Some l) f all [] e k =
          let c = cons-parts (to_pair l) p (map (to_pair) (after n ls l)) later e in
          subst (λ (x : Pair). Least x later) c.0 (subst (λ (xs : List Pair). Least (to_pair l) xs) c.1 (at_head l f all))
      by (Some l) f all (x ∷ es) e k =
          k l.lower x es
          (λ m i. elim (In-cases (all m (In-inside (λ q. not (eqb q.lower l.lower)) ls i))) [
            | inl same ↦ absurd (both_ways (eqb m.lower l.lower) (not-true (eqb m.lower l.lower) (filter-In (λ (q : Link). not (eqb q.lower l.lower)) ls i)) (eq-eqb m.lower l.lower (ap (λ (z : Link). z.lower) same)))
            | inr j ↦ j
          ])
          (cons-parts (to_pair l) x (map (to_pair) (after n ls l)) (es ++ p ∷ later) e).1

module _ (space : List (List (List ℕ))) (dim : ℕ) (pairs : List Pair) (h : AreApart space dim pairs) where
  in_order : (ls : List Link) → ordered (facets_of space (dim + 1)) ls ≡ true → distinct (map (λ (l : Link). l.lower) ls) ≡ true → ((l : Link) → In l ls → In (pair dim l.lower l.upper) pairs) → Lined (Goes space) (map (to_pair space dim) ls)
  in_order [] o d k = tt
  in_order (l ∷ ls) o d k =
      let w = and_parts (not (holds (map (λ (m : Link). m.lower) ls) l.lower)) (distinct (map (λ (m : Link). m.lower) ls)) d in (
        λ q m. let s = map-In (to_pair space dim) ls m in subst (Goes space (to_pair space dim l)) (sym s.2) (goes s.0 s.1 w.0),
        in_order ls (ordered_tail (facets_of space (dim + 1)) l ls o) w.1 (λ m i. k m (there i)),
      )
    where
      goes : (m : Link) → In m ls → not (holds (map (λ (x : Link). x.lower) ls) l.lower) ≡ true → Goes space (to_pair space dim l) (to_pair space dim m)
      goes m i u = record {
        apart = elim (h.apart (to_pair space dim l) (to_pair space dim m) (k l here) (k m (there i)) refl refl) [
          | inl same ↦
              let e : m.lower ≡ l.lower = ap (λ (z : Pair). z.lower) (sym same) in
              absurd (both_ways (holds (map (λ (x : Link). x.lower) ls) l.lower) (not-true (holds (map (λ (x : Link). x.lower) ls) l.lower) u)
              (In-holds (subst (λ (z : ℕ). In z (map (λ (x : Link). x.lower) ls)) e (In-map (λ (x : Link). x.lower) i))))
          | inr a ↦ a
        ];
        free = λ d' f. both_ways (is_lower ls m.lower) (not-true (is_lower ls m.lower) (all-In (λ g. not (is_lower ls g)) (ordered_head (facets_of space (dim + 1)) l ls o) f)) (member_lower ls m i);
      }

  module _ (r : ℕ → ℕ) (ranked : IsRanked (facets_of space (dim + 1)) r (links space pairs dim)) where
    abbrev ls : List Link
    ls = links space pairs dim

    are-arranged : IsArranged (facets_of space (dim + 1)) ls (arranged (facets_of space (dim + 1)) (length ls) ls)
    are-arranged = arranged_is (facets_of space (dim + 1)) r ls ranked (link-one space dim pairs h)

    -- ---- the listed pairs

    pub listed-In : (p : Pair) → In p (listed space pairs dim) → (In p pairs) × (p.dim ≡ dim)
    listed-In p m =
        let s = map-In (to_pair space dim) (arranged (facets_of space (dim + 1)) (length ls) ls) m in
        subst (λ (z : Pair). (In z pairs) × (z.dim ≡ dim)) (sym s.2) ((link-In space dim pairs h s.0 (are-arranged.inside s.0 s.1)).0, refl)

    pub In-listed : (p : Pair) → In p pairs → p.dim ≡ dim → In p (listed space pairs dim)
    In-listed p m d =
        subst (λ (n : ℕ). In (pair n p.lower p.upper) (listed space pairs dim)) (sym d)
        (In-map (to_pair space dim) (are-arranged.all (link p.lower p.upper) (In-link space dim pairs h p m d)))

    pub listed-lined : Lined (Goes space) (listed space pairs dim)
    listed-lined =
        in_order (arranged (facets_of space (dim + 1)) (length ls) ls) are-arranged.in_order (arranged_once (facets_of space (dim + 1)) (length ls) ls)
        (λ l m. (link-In space dim pairs h l (are-arranged.inside l m)).0)

    pub listed-least : IsLeastFirst space (listed space pairs dim)
    listed-least earlier later p e =
        least-first space dim (length ls) ls
        (lined-map (λ l k. l.lower < k.lower) (λ f. link f (upper_of pairs dim f)) (lowers_in space pairs dim)
        (lined-increasing (lowers_in space pairs dim) (IsStrictlyIncreasing-filter (λ f. list_any (has_lower dim f) pairs) (upto (count space dim)) (increasing-upto (count space dim)))))
        (λ l m. are-arranged.all l m) earlier later p e
