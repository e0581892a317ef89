-- How many tables there are of each number of sheets.
use Rattle.std.proofs.Common.{◌≡◌, ◌≢◌, ℕ, zero, suc, ◌+◌, ◌-◌, ◌≤◌, List, [], ◌∷◌, ◌++◌, length, take, filter, refl, ap, arith, sym, ◌∙◌, length-append, replicate}
use Rattle.std.specs.Prelude.{◌==◌, slice_index, slice_set}
use Rattle.std.proofs.lemmas.Bool.{eq-eqb, ne_eqb}
use Rattle.std.proofs.lemmas.List.Elements.{filter-append}
use Rattle.std.proofs.lemmas.List.FromFn.{get_or-map-range_with_len, take-map-range_with_len}
use Rattle.sheet_laws.specs.Permutations.{InRange}
use Rattle.number_lists.proofs.CallerLemmas.{length-filter-le, set-map-upto}
use Rattle.live_laws.specs.Live.{Position}
use Rattle.cover_listing.specs.Events.{how_many, counts_of}

more-of : (m : ℕ) (ts : List Position) (t : Position) → how_many m (ts ++ t ∷ []) ≡ how_many m ts + how_many m (t ∷ [])
more-of m ts t = ap length (filter-append (λ (t : Position). t.0 == m) ts (t ∷ [])) ∙ length-append (filter (λ (t : Position). t.0 == m) ts) (filter (λ (t : Position). t.0 == m) (t ∷ []))

one-of : (t : Position) → how_many t.0 (t ∷ []) ≡ 1
one-of t = rw (eq-eqb t.0 t.0 refl) refl

none-of : (m : ℕ) (t : Position) → m ≢ t.0 → how_many m (t ∷ []) ≡ 0
none-of m t h = rw (ne_eqb t.0 m (λ e. h (sym e))) refl

pub count-at : (ts : List Position) (m : ℕ) → 1 ≤ m → m ≤ 8 → slice_index (counts_of 8 ts) (m - 1) ≡ how_many m ts
count-at ts m l h = get_or-map-range_with_len (λ m. how_many m ts) 1 8 (m - 1) m 0 (omega (arith, l, h)) (omega (arith, l))

pub count-few : (ts : List Position) (m : ℕ) → how_many m ts ≤ length ts
count-few ts m = length-filter-le (λ (t : Position). t.0 == m) ts

pub count-more : (ts : List Position) (t : Position) → 1 ≤ t.0 → t.0 ≤ 8
    → slice_set (counts_of 8 ts) (t.0 - 1) (slice_index (counts_of 8 ts) (t.0 - 1) + 1) ≡ counts_of 8 (ts ++ t ∷ [])
count-more ts t l h =
    set-map-upto (λ m. how_many m ts) (λ m. how_many m (ts ++ t ∷ [])) 8 t.0 (slice_index (counts_of 8 ts) (t.0 - 1) + 1) l h
    (more-of t.0 ts t ∙ (ap (λ (k : ℕ). how_many t.0 ts + k) (one-of t) ∙ ap (λ (k : ℕ). k + 1) (sym (count-at ts t.0 l h))))
    (λ m d. sym (more-of m ts t ∙ (ap (λ (k : ℕ). how_many m ts + k) (none-of m t d) ∙ nothing (how_many m ts))))
  where
    nothing : (k : ℕ) → k + 0 ≡ k
    nothing k = omega arith

pub counts-front : (n : ℕ) (ts : List Position) → n ≤ 8 → take n (counts_of 8 ts) ≡ counts_of n ts
counts-front n ts h = take-map-range_with_len (λ m. how_many m ts) 1 8 n h

pub no-counts : replicate 8 0 ≡ counts_of 8 []
no-counts = refl

-- a count is at most the number of tables, also past the eighth, where it reads as 0
pub count-within : (ts : List Position) (k : ℕ) → slice_index (counts_of 8 ts) k ≤ length ts
count-within ts zero = count-few ts 1
count-within ts (suc zero) = count-few ts 2
count-within ts (suc (suc zero)) = count-few ts 3
count-within ts (suc (suc (suc zero))) = count-few ts 4
count-within ts (suc (suc (suc (suc zero)))) = count-few ts 5
count-within ts (suc (suc (suc (suc (suc zero))))) = count-few ts 6
count-within ts (suc (suc (suc (suc (suc (suc zero)))))) = count-few ts 7
count-within ts (suc (suc (suc (suc (suc (suc (suc zero))))))) = count-few ts 8
count-within ts (suc (suc (suc (suc (suc (suc (suc (suc k)))))))) = omega arith

pub counted-more : (numbers after : List ℕ) (ts us : List Position) (t u : Position) → numbers ≡ counts_of 8 ts → us ≡ ts ++ u ∷ [] → t ≡ u → InRange 8 t.0
    → after ≡ slice_set numbers (t.0 - 1) (slice_index numbers (t.0 - 1) + 1) → after ≡ counts_of 8 us
counted-more numbers after ts us t u e more same range is =
    is ∙ (ap (λ (ns : List ℕ). slice_set ns (t.0 - 1) (slice_index ns (t.0 - 1) + 1)) e
    ∙ (count-more ts t range.0 range.1 ∙ ap (counts_of 8) (ap (λ (q : Position). ts ++ q ∷ []) same ∙ sym more)))
