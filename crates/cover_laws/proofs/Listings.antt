-- The listed tables are the covers, where there are columns.
use Rattle.std.proofs.Common.{◌≡◌, ℕ, zero, suc, ◌*◌, ◌≤◌, List, [], ◌∷◌, ◌++◌, map, length, filter, refl, ap, arith, sym, ◌∙◌, Bool, true, false, cond, ◌&&◌}
use Rattle.std.specs.Prelude.{◌==◌}
use Rattle.std.specs.List.{flat_map}
use Rattle.std.proofs.lemmas.Bool.{eqb-true, false_from_ne_true}
use Rattle.std.proofs.Math.Nat.{mul-le-mul_left, mul-one}
use Rattle.number_lists.specs.Members.{In, here, there}
use Rattle.number_lists.specs.Words.{upto}
use Rattle.number_lists.proofs.CallerLemmas.{upto-In, filter-map, filter-flat_map}
use Rattle.face_poset.specs.declared.cells.Pair.{Pair}
use Rattle.face_poset.specs.Poset.{count, IsSpace}
use Rattle.regular_check.specs.Rules.{IsRegular}
use Rattle.regular_check.specs.Cycle.{CyclesGoRound}
use Rattle.vector_field.specs.Pairs.{unpaired, IsValid}
use Rattle.sheet_laws.specs.Permutations.{lists}
use Rattle.sheet_laws.specs.Tables.{is_least}
use Rattle.sheet_laws.specs.Lifts.{columns_of, is_cover}
use Rattle.live_laws.specs.Trees.{from, beyond}
use Rattle.live_laws.specs.Live.{Relations, Position, sound, is_live, comes_after, live_of, live, is_listed, listed}
use Rattle.live_laws.proofs.CallerLemmas.{from-range, full_are_lists, live-sound}
use Rattle.edge_words.specs.Laws.{LiftsAreLabellings}
use Rattle.cover_laws.specs.Covers.{relations_at, covers_of, covers_after}
use Rattle.cover_laws.proofs.CoverParts.{lists-long, sound-covers}

-- ---- filters and joined lists

filter-agree : {A : Type 0} (p q : A → Bool) (xs : List A) → ((x : A) → In x xs → p x ≡ q x) → filter p xs ≡ filter q xs
filter-agree p q [] h = refl
filter-agree p q (x ∷ xs) h =
    ap (λ (b : Bool). cond b (x ∷ filter p xs) (filter p xs)) (h x here)
    ∙ ap (λ (ys : List _). cond (q x) (x ∷ ys) ys) (filter-agree p q xs (λ y i. h y (there i)))

filter-filter : {A : Type 0} (p q : A → Bool) (xs : List A) → filter p (filter q xs) ≡ filter (λ x. q x && p x) xs
filter-filter p q [] = refl
filter-filter {A} p q (x ∷ xs) = by (q x) (filter-filter p q xs)
  where
    by : (b : Bool) → filter p (filter q xs) ≡ filter (λ y. q y && p y) xs
        → filter p (cond b (x ∷ filter q xs) (filter q xs))
        ≡ cond (b && p x) (x ∷ filter (λ y. q y && p y) xs) (filter (λ y. q y && p y) xs)
    by true e = ap (λ (ys : List A). cond (p x) (x ∷ ys) ys) e
    by false e = e

both-turned : (a b : Bool) → (a && b) ≡ (b && a)
both-turned true true = refl
both-turned true false = refl
both-turned false true = refl
both-turned false false = refl

between : (a b c : Bool) → (a && (b && c)) ≡ (b && (a && c))
between true true c = refl
between true false c = refl
between false true c = refl
between false false c = refl

filter-turned : {A : Type 0} (p q : A → Bool) (xs : List A) → filter p (filter q xs) ≡ filter q (filter p xs)
filter-turned p q xs = filter-filter p q xs ∙ (filter-agree (λ x. q x && p x) (λ x. p x && q x) xs (λ x i. both-turned (q x) (p x)) ∙ sym (filter-filter q p xs))

pub flat_map-alike : {A B : Type 0} (f g : A → List B) (xs : List A) → ((x : A) → In x xs → f x ≡ g x) → flat_map f xs ≡ flat_map g xs
flat_map-alike f g [] h = refl
flat_map-alike f g (x ∷ xs) h = ap (λ ys. ys ++ flat_map f xs) (h x here) ∙ ap (λ ys. g x ++ ys) (flat_map-alike f g xs (λ y i. h y (there i)))

-- the lists of full length among those of the tree
full-lists : (m n : ℕ) → 1 ≤ n → filter (λ (q : List ℕ). length q == n) (beyond m n []) ≡ lists m n
full-lists m zero l = absurd (omega (arith, l))
full-lists m (suc n) l = full_are_lists m n

some-cell : (m c : ℕ) → 1 ≤ m → 1 ≤ c → 1 ≤ m * c
some-cell m c l k = omega (arith, l, mul-le-mul_left m k, mul-one m)

-- ---- sheet by sheet

module _ (law : CyclesGoRound) (labellings : LiftsAreLabellings) (space : List (List (List ℕ))) (pairs : List Pair)
    (is : IsSpace space) (regular : IsRegular space) (valid : IsValid space pairs) (lone : length (unpaired pairs 0 (count space 0)) ≡ 1) (some : 1 ≤ columns_of space pairs) where
  abbrev P : Relations
  P = relations_at space pairs

  abbrev c : ℕ
  c = columns_of space pairs

  listed-of : (m : ℕ) → 1 ≤ m → filter (is_listed P) (live_of P m) ≡ covers_of space pairs m
  listed-of m l =
      filter-map (is_listed P) (λ q. (m, q)) (filter (is_live P m) (beyond m (m * c) []))
      ∙ ap (map (λ q. (m, q))) (ap (filter (λ q. is_listed P (m, q))) (live-sound P m (m * c) [])
      ∙ (filter-filter (λ q. is_listed P (m, q)) (sound P m) (beyond m (m * c) [])
      ∙ (filter-agree (λ q. sound P m q && ((length q == m * c) && is_least c m q))
      (λ q. (length q == m * c) && (sound P m q && is_least c m q)) (beyond m (m * c) [])
      (λ q i. between (sound P m q) (length q == m * c) (is_least c m q))
      ∙ (sym (filter-filter (λ q. sound P m q && is_least c m q) (λ q. length q == m * c) (beyond m (m * c) []))
      ∙ (ap (filter (λ q. sound P m q && is_least c m q)) (full-lists m (m * c) (some-cell m c l some))
      ∙ filter-agree (λ q. sound P m q && is_least c m q) (λ q. is_cover space pairs (m, q)) (lists m (m * c))
      (λ q i. sound-covers law space pairs is regular valid lone labellings some m q l (lists-long m (m * c) q i)))))))

  pub listed-covers : (n : ℕ) (t : Position) → listed P n t ≡ covers_after space pairs n t
  listed-covers n t =
      ap (λ (b : Bool). elim b [ true ↦ (1, []) ∷ [] | false ↦ filter (is_listed P) (live P n t) ])
      (false_from_ne_true (c == 0) (λ e. absurd (omega (arith, some, eqb-true c 0 e))))
      ∙ (filter-turned (is_listed P) (comes_after t) (flat_map (live_of P) (from 1 n))
      ∙ ap (filter (comes_after t)) (filter-flat_map (is_listed P) (live_of P) (from 1 n)
      ∙ (ap (flat_map (λ m. filter (is_listed P) (live_of P m))) (from-range 1 n)
      ∙ flat_map-alike (λ m. filter (is_listed P) (live_of P m)) (covers_of space pairs) (upto n)
      (λ m i. (let r = upto-In n m i in listed-of m r.0)))))
