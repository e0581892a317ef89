-- Lists of the facets that have the sign -1, and what they say of the signs.
use Rattle.std.proofs.Common.{◌≡◌, ◌⊎◌, inl, inr, ℕ, zero, suc, ◌+◌, ◌-◌, ◌<◌, ◌≤◌, List, [], ◌∷◌, ◌++◌, Bool, true, false, cond, ◌||◌, ◌&&◌, eqb, filter, map, take, length, get_or, refl, ap, sym, ◌∙◌, subst, arith}
use Rattle.std.specs.List.Sorted.{IsStrictlyIncreasing}
use Rattle.std.proofs.lemmas.List.{take_more, get_or_push, get_or_past, get_or_append_left, length_push, map_push}
use Rattle.std.proofs.lemmas.List.Elements.{filter-append}
use Rattle.std.proofs.lemmas.List.Kept.{IsStrictlyIncreasing-filter}
use Rattle.std.proofs.lemmas.List.FromFn.{length-map-range_with_len, get_or-map-range_with_len}
use Rattle.number_lists.specs.Words.{holds, upto}
use Rattle.number_lists.proofs.CallerLemmas.{upto_more, holds-filter}
use Rattle.face_poset.specs.Poset.{IsSpace, count, facets_of}
use Rattle.regular_check.specs.Rules.{IsRegular}
use Rattle.regular_check.specs.Cycle.{CyclesGoRound, cycle}
use Rattle.sphere_collapses.specs.Spheres.{first_end}
use Rattle.cell_signs.specs.Oriented.{SignedSpace, negative_in}
use Rattle.cell_signs.specs.Along.{goes_back, solid_negative, HasLowSigns, HasHighSigns, HaveHighSigns}
use Rattle.cell_signs.specs.Minus.{first_lists, back_lists, IsAlong, AreAlong, signed_by_lists, IsKept}
use Rattle.cell_signs.proofs.Kept.{facets-cell}
use Rattle.cell_signs.proofs.SolidLaw.{signs_orient}

-- ---- one more

pub maps_more : (f : ℕ → List ℕ) (n : ℕ) (lists : List (List ℕ)) (list : List ℕ) → lists ≡ map f (upto n) → list ≡ f (n + 1) → lists ++ list ∷ [] ≡ map f (upto (n + 1))
maps_more f n lists list e g = ap (λ (ls : List (List ℕ)). ls ++ list ∷ []) e ∙ (ap (λ (l : List ℕ). map f (upto n) ++ l ∷ []) g ∙ sym (ap (map f) (upto_more n) ∙ map_push f (upto n) (n + 1)))

-- a number that passes, or does not
pub filter_more : (f : ℕ → Bool) (xs : List ℕ) (i d : ℕ) (b : Bool) → i < length xs → f (get_or xs i d) ≡ b → filter f (take (i + 1) xs) ≡ filter f (take i xs) ++ cond b (get_or xs i d ∷ []) []
filter_more f xs i d b l e =
    ap (filter f) (take_more xs i d l)
    ∙ (filter-append f (take i xs) (get_or xs i d ∷ []) ∙ ap (λ (c : Bool). filter f (take i xs) ++ cond c (get_or xs i d ∷ []) []) e)

pub along_more : (space : List (List (List ℕ))) (n : ℕ) (lists : List (List ℕ)) (list : List ℕ) → AreAlong space n lists → IsAlong space (n + 1) list → AreAlong space (n + 1) (lists ++ list ∷ [])
along_more space n lists list h new = record { long = length_push lists list ∙ ap (λ (k : ℕ). k + 1) h.long; each = λ cell low high. by cell low high (order cell n) }
  where
    order : (a b : ℕ) → (a ≤ b) ⊎ (b < a)
    order zero b = inl (omega arith)
    order (suc a) zero = inr (omega arith)
    order (suc a) (suc b) = elim (order a b) [ inl l ↦ inl (omega (arith, l)) | inr l ↦ inr (omega (arith, l)) ]

    by : (cell : ℕ) → 1 ≤ cell → cell ≤ n + 1 → (cell ≤ n) ⊎ (n < cell) → IsAlong space cell (get_or (lists ++ list ∷ []) (cell - 1) [])
    by cell low high (inl l) = subst (IsAlong space cell) (sym (get_or_append_left lists (list ∷ []) [] (cell - 1) (omega (arith, h.long, low, l)))) (h.each cell low l)
    by cell low high (inr l) =
        let e : n + 1 ≡ cell = omega (arith, high, l) in
        subst (IsAlong space cell) (sym (get_or_push lists list [] (cell - 1) (omega (arith, h.long, high, l)))) (subst (λ (c : ℕ). IsAlong space c list) e new)

-- ---- all lists

-- no list of any other dimension
pub minus_none : (space : List (List (List ℕ))) (edges disks solids : List (List ℕ)) (dim cell : ℕ) → (dim ≡ 1 → ⊥) → (dim ≡ 2 → ⊥) → (dim ≡ 3 → ⊥) → facets_of (signed_by_lists space edges disks solids).minus dim cell ≡ []
minus_none space edges disks solids zero cell f g h = refl
minus_none space edges disks solids (suc zero) cell f g h = absurd (f refl)
minus_none space edges disks solids (suc (suc zero)) cell f g h = absurd (g refl)
minus_none space edges disks solids (suc (suc (suc zero))) cell f g h = absurd (h refl)
minus_none space edges disks solids (suc (suc (suc (suc n)))) cell f g h = refl

mapped : (f : ℕ → List ℕ) (n cell : ℕ) → 1 ≤ cell → cell ≤ n → get_or (map f (upto n)) (cell - 1) [] ≡ f cell
mapped f n cell low high = get_or-map-range_with_len f 1 n (cell - 1) cell [] (omega (arith, low)) (omega (arith, low, high))

or-false : (b : Bool) → (b || false) ≡ b
or-false true = refl
or-false false = refl

and-true : (b : Bool) → (b && true) ≡ b
and-true true = refl
and-true false = refl

module _ (space : List (List (List ℕ))) (edges disks solids : List (List ℕ)) (rounds : CyclesGoRound) (valid : IsSpace space) (regular : IsRegular space)
    (edges_are : edges ≡ first_lists space (count space 1)) (disks_are : disks ≡ back_lists space (count space 2)) (solids_are : AreAlong space (count space 3) solids) where
  abbrev signed : SignedSpace
  signed = signed_by_lists space edges disks solids

  abbrev back : ℕ → List ℕ
  back c = filter (goes_back (cycle space c)) (facets_of space 2 c)

  edge_at : (e : ℕ) → 1 ≤ e → e ≤ count space 1 → get_or edges (e - 1) [] ≡ first_end space e ∷ []
  edge_at e low high = ap (λ (ls : List (List ℕ)). get_or ls (e - 1) []) edges_are ∙ mapped (λ e. first_end space e ∷ []) (count space 1) e low high

  disk_at : (c : ℕ) → 1 ≤ c → c ≤ count space 2 → get_or disks (c - 1) [] ≡ back c
  disk_at c low high = ap (λ (ls : List (List ℕ)). get_or ls (c - 1) []) disks_are ∙ mapped back (count space 2) c low high

  filtered : (f : ℕ → Bool) (xs ys : List ℕ) (x : ℕ) → ys ≡ filter f xs → holds xs x ≡ true → holds ys x ≡ f x
  filtered f xs ys x e h = ap (λ (zs : List ℕ). holds zs x) e ∙ (holds-filter f xs x ∙ (ap (λ (b : Bool). f x && b) h ∙ and-true (f x)))

  pub low_signs : HasLowSigns space (negative_in signed)
  low_signs = record {
    edges = λ e v low high h. ap (λ (xs : List ℕ). holds xs v) (edge_at e low high) ∙ or-false (eqb (first_end space e) v);
    disks = λ c e low high h. filtered (goes_back (cycle space c)) (facets_of space 2 c) (get_or disks (c - 1) []) e (disk_at c low high) h;
  }

  pub high_signs : HaveHighSigns space (negative_in signed)
  high_signs cell low high =
      let h = solids_are.each cell low high in
      record {
        face = get_or (facets_of space 3 cell) 0 0;
        pairs = h.pairs;
        collapse = h.collapse;
        signs = λ disk i. filtered (solid_negative space cell h.pairs) (facets_of space 3 cell) (get_or solids (cell - 1) []) disk h.minus_is i;
      }

  -- lists rise
  nothing_rises : IsStrictlyIncreasing []
  nothing_rises i l = absurd (omega (arith, l))

  single_rises : (x : ℕ) → IsStrictlyIncreasing (x ∷ [])
  single_rises x i l = absurd (omega (arith, l))

  each_rises : (lists : List (List ℕ)) (n : ℕ) → length lists ≡ n → ((cell : ℕ) → 1 ≤ cell → cell ≤ n → IsStrictlyIncreasing (get_or lists (cell - 1) [])) → (cell : ℕ) → 1 ≤ n → IsStrictlyIncreasing (get_or lists (cell - 1) [])
  each_rises lists n long h zero some = h 1 (omega arith) some
  each_rises lists n long h (suc c) some = by (order c n)
    where
      order : (a b : ℕ) → (a < b) ⊎ (b ≤ a)
      order zero zero = inr (omega arith)
      order zero (suc b) = inl (omega arith)
      order (suc a) zero = inr (omega arith)
      order (suc a) (suc b) = elim (order a b) [ inl l ↦ inl (omega (arith, l)) | inr l ↦ inr (omega (arith, l)) ]

      by : (c < n) ⊎ (n ≤ c) → IsStrictlyIncreasing (get_or lists (suc c - 1) [])
      by (inl l) = h (suc c) (omega arith) (omega (arith, l))
      by (inr l) = subst IsStrictlyIncreasing (sym (get_or_past lists (suc c - 1) [] (omega (arith, long, l)))) nothing_rises

  rises_all : (lists : List (List ℕ)) (n : ℕ) → length lists ≡ n → ((cell : ℕ) → 1 ≤ cell → cell ≤ n → IsStrictlyIncreasing (get_or lists (cell - 1) [])) → (cell : ℕ) → IsStrictlyIncreasing (get_or lists (cell - 1) [])
  rises_all [] n long h cell = nothing_rises
  rises_all (l ∷ lists) n long h cell = each_rises (l ∷ lists) n long h cell (omega (arith, long))

  edges_long : length edges ≡ count space 1
  edges_long = ap length edges_are ∙ length-map-range_with_len (λ e. first_end space e ∷ []) 1 (count space 1)

  disks_long : length disks ≡ count space 2
  disks_long = ap length disks_are ∙ length-map-range_with_len back 1 (count space 2)

  above : (n : ℕ) → count space (suc (suc (suc (suc n)))) ≡ 0
  above n = ap (λ (cells : List (List ℕ)). length cells) (get_or_past space (suc (suc (suc (suc n)))) [] (omega (arith, valid.layers)))

  long : (dim : ℕ) → 1 ≤ dim → count signed.minus dim ≡ count space dim
  long zero l = absurd (omega (arith, l))
  long (suc zero) l = edges_long
  long (suc (suc zero)) l = disks_long
  long (suc (suc (suc zero))) l = solids_are.long
  long (suc (suc (suc (suc n)))) l = sym (above n)

  rises : (dim cell : ℕ) → IsStrictlyIncreasing (facets_of signed.minus dim cell)
  rises zero cell = nothing_rises
  rises (suc zero) cell = rises_all edges (count space 1) edges_long (λ e low high. subst IsStrictlyIncreasing (sym (edge_at e low high)) (single_rises (first_end space e))) cell
  rises (suc (suc zero)) cell =
      rises_all disks (count space 2) disks_long
      (λ c low high. subst IsStrictlyIncreasing (sym (disk_at c low high)) (IsStrictlyIncreasing-filter (goes_back (cycle space c)) (facets_of space 2 c) (facets-cell space 1 c valid low high).rises)) cell
  rises (suc (suc (suc zero))) cell =
      rises_all solids (count space 3) solids_are.long
      (λ c low high.
      let h = solids_are.each c low high in
      subst IsStrictlyIncreasing (sym h.minus_is) (IsStrictlyIncreasing-filter (solid_negative space c h.pairs) (facets_of space 3 c) (facets-cell space 2 c valid low high).rises)) cell
  rises (suc (suc (suc (suc n)))) cell = nothing_rises

  pub kept : IsKept (signed_by_lists space edges disks solids)
  kept = record { oriented = signs_orient space (negative_in signed) rounds valid regular low_signs high_signs; long = long; rises = rises }
