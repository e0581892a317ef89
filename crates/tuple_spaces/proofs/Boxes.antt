-- Tuples in boxes.
use Rattle.std.proofs.Common.{◌≡◌, ℕ, ◌<◌, List, [], ◌∷◌, true, nat_lt, map, get_or, refl, ap, sym, ◌∙◌, subst, arith}
use Rattle.std.specs.List.{range_with_len}
use Rattle.std.proofs.lemmas.Bool.{false≢true, and_from}
use Rattle.std.proofs.lemmas.Bool.Decides.{nat_tests}
use Rattle.number_lists.proofs.CallerLemmas.{and-left, and-right, AreDistinct, none, more, In-map, map-In, flat_map-In, In-flat_map, distinct-map, distinct-flat_map, In-range, range-In, distinct-range}
use Rattle.number_lists.specs.Members.{In, here, there}
use Rattle.tuple_spaces.specs.Tuples.{boxed}
use Rattle.tuple_spaces.specs.VoxelLaws.{lies_in}

-- one coordinate for each limit, below it
pub data Within : List ℕ → List ℕ → Type 0 where
  no_more : Within [] []
  one_more : {limit c : ℕ} {limits cs : List ℕ} → c < limit → Within limits cs → Within (limit ∷ limits) (c ∷ cs)

pub boxed-within : (limits t : List ℕ) → In t (boxed limits) → Within limits t
boxed-within [] t i = by_place i
  where
    by_place : {u : List ℕ} → In u ([] ∷ []) → Within [] u
    by_place here = no_more
    by_place (there j) = elim j [ ]
boxed-within (limit ∷ limits) t i =
    let r = flat_map-In (λ (c : ℕ). map (λ u. c ∷ u) (boxed limits)) (range_with_len 0 limit) i in
    let s = map-In (λ u. r.0 ∷ u) (boxed limits) r.2 in
    subst (Within (limit ∷ limits)) (sym s.2) (one_more (let w = range-In 0 limit r.0 r.1 in omega (arith, w.1)) (boxed-within limits s.0 s.1))

pub within-boxed : {limits t : List ℕ} → Within limits t → In t (boxed limits)
within-boxed no_more = here
within-boxed (one_more {limit} {c} {limits} {cs} l b) =
    In-flat_map (λ (d : ℕ). map (λ u. d ∷ u) (boxed limits)) (In-range 0 limit c (omega arith) (omega arith)) (In-map (λ u. c ∷ u) (within-boxed b))

pub distinct-boxed : (limits : List ℕ) → AreDistinct (boxed limits)
distinct-boxed [] = more (λ i. elim i [ ]) none
distinct-boxed (limit ∷ limits) =
    distinct-flat_map (λ (c : ℕ). map (λ u. c ∷ u) (boxed limits)) (distinct-range 0 limit) (λ c. distinct-map (λ u. c ∷ u) (λ t u e. tail_same c t u e) (distinct-boxed limits))
    (λ c d t i j.
    let r = map-In (λ u. c ∷ u) (boxed limits) i in
    let s = map-In (λ u. d ∷ u) (boxed limits) j in
    ap (λ (v : List ℕ). get_or v 0 0) (sym r.2 ∙ s.2))
  where
    tail_same : (c : ℕ) (t u : List ℕ) → c ∷ t ≡ c ∷ u → t ≡ u
    tail_same c t u e = cc

-- the test of indices
pub lies-within : (sizes index : List ℕ) → lies_in sizes index ≡ true → Within sizes index
lies-within [] [] e = no_more
lies-within [] (i ∷ index) e = absurd (false≢true e)
lies-within (size ∷ sizes) [] e = absurd (false≢true e)
lies-within (size ∷ sizes) (i ∷ index) e =
    let a : nat_lt i size ≡ true = and-left (nat_lt i size) (lies_in sizes index) e in
    one_more (search (nat_tests, arith, a)) (lies-within sizes index (and-right (nat_lt i size) (lies_in sizes index) e))

pub within-lies : {sizes index : List ℕ} → Within sizes index → lies_in sizes index ≡ true
within-lies no_more = refl
within-lies (one_more {limit} {c} {limits} {cs} l h) = and_from (nat_lt c limit) (lies_in limits cs) (search (nat_tests, arith, l)) (within-lies h)
