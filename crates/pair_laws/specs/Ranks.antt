-- Pairs of one dimension, and ranks that fall along them. F gives the facets of each cell above, ps and qs are lists of pairs, p is a pair,
-- g a facet, r a rank of facets; all cells are numbers.
--   Link                  a pair: a facet, its lower, and a cell above, its upper
--   others F p            the facets of the upper but the lower
--   is_lower ps g         whether the facet is the lower of some pair
--   comes_before F p ps   whether no other facet of the pair's upper is the lower of one of these pairs
--   ordered F ps          each pair comes before all after it
--   IsRanked F r ps       the rank falls from the lower of a pair to each other facet of its upper that is a lower too
--   HasReady F ps         some pair comes before all of them
--   place ps g            of the last pair with this lower, how many pairs stand before it
--   without g ps          the pairs with other lowers
--   arranged F n ps       at most n of the pairs, one after another: the next is the first that comes before all that are left
--   IsArranged F ps qs    the same pairs, in order
-- Laws:
--   NeverStuck            of pairs that are ranked, one comes before all of them
--   OrderedRanked         pairs in order are ranked by their places
--   ArrangedIs            pairs that are ranked, no two with one lower, are all arranged, in order
--   ArrangedOnce          no lower is arranged twice
use Rattle.std.specs.Prelude.{◌≡◌, ℕ, zero, suc, ◌<◌, List, [], ◌∷◌, length, map, Bool, true, false, if◌then◌else◌, not, ◌==◌, filter, find, Some, None}
use Rattle.std.specs.List.{list_any, list_all}
use Rattle.number_lists.specs.Members.{In}
use Rattle.pair_laws.specs.Tree.{Link, distinct}

abbrev pub others : (F : ℕ → List ℕ) → Link → List ℕ
others F p = filter (λ g. not (g == p.lower)) (F p.upper)

abbrev pub is_lower : List Link → ℕ → Bool
is_lower ps g = list_any (λ p. p.lower == g) ps

abbrev pub comes_before : (F : ℕ → List ℕ) → Link → (later : List Link) → Bool
comes_before F p later = list_all (λ g. not (is_lower later g)) (others F p)

abbrev pub ordered : (F : ℕ → List ℕ) → List Link → Bool
ordered F [] = true
ordered F (p ∷ ps) = if comes_before F p ps then ordered F ps else false

pub record IsRanked (F : ℕ → List ℕ) (r : ℕ → ℕ) (ps : List Link) : Type 0 where
  pub falls : (p : Link) (g : ℕ) → In p ps → In g (others F p) → is_lower ps g ≡ true → r g < r p.lower

pub record HasReady (F : ℕ → List ℕ) (ps : List Link) : Type 0 where
  pub ready : Link
  pub among : In ready ps
  pub first : comes_before F ready ps ≡ true

abbrev pub NeverStuck : Type 0
NeverStuck = (F : ℕ → List ℕ) (r : ℕ → ℕ) (p : Link) (ps : List Link) → IsRanked F r (p ∷ ps) → HasReady F (p ∷ ps)

abbrev pub place : List Link → ℕ → ℕ
place [] g = 0
place (p ∷ ps) g = if is_lower ps g then suc (place ps g) else 0

abbrev pub OrderedRanked : Type 0
OrderedRanked = (F : ℕ → List ℕ) (ps : List Link) → ordered F ps ≡ true → IsRanked F (place ps) ps

abbrev pub without : ℕ → List Link → List Link
without g ps = filter (λ q. not (q.lower == g)) ps

abbrev pub arranged : (F : ℕ → List ℕ) → (n : ℕ) → List Link → List Link
arranged F zero ps = []
arranged F (suc n) ps = elim (find (λ p. comes_before F p ps) ps) [ None ↦ [] | Some p ↦ p ∷ arranged F n (without p.lower ps) ]

pub record IsArranged (F : ℕ → List ℕ) (ps qs : List Link) : Type 0 where
  pub inside : (p : Link) → In p qs → In p ps
  pub all : (p : Link) → In p ps → In p qs
  pub in_order : ordered F qs ≡ true

abbrev pub ArrangedIs : Type 0
ArrangedIs =
    (F : ℕ → List ℕ) (r : ℕ → ℕ) (ps : List Link)
    → IsRanked F r ps
    → ((p q : Link) → In p ps → In q ps → p.lower ≡ q.lower → p ≡ q)
    → IsArranged F ps (arranged F (length ps) ps)

abbrev pub ArrangedOnce : Type 0
ArrangedOnce = (F : ℕ → List ℕ) (n : ℕ) (ps : List Link) → distinct (map (λ p. p.lower) (arranged F n ps)) ≡ true
