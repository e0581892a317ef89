-- Where there are no columns the one cover is the table of one sheet.
use Rattle.std.proofs.Common.{◌≡◌, inl, inr, ℕ, zero, suc, ◌+◌, ◌*◌, ◌≤◌, List, [], ◌∷◌, ◌++◌, map, length, filter, refl, ap, arith, sym, ◌∙◌, subst, Bool, true, false, cond}
use Rattle.std.specs.Prelude.{◌==◌, nat_lt}
use Rattle.std.specs.List.{list_all, flat_map, range_with_len}
use Rattle.std.proofs.lemmas.Bool.{and_parts, and_from, eq-eqb, false_from_ne_true, ltb-true}
use Rattle.std.proofs.Math.Nat.{mul-zero}
use Rattle.number_lists.specs.Words.{upto}
use Rattle.number_lists.proofs.CallerLemmas.{In-all, upto-In, range-In}
use Rattle.face_poset.specs.declared.cells.Pair.{Pair}
use Rattle.face_poset.specs.Poset.{count, IsSpace}
use Rattle.regular_check.specs.Rules.{IsRegular}
use Rattle.regular_check.specs.Cycle.{cycle, CyclesGoRound}
use Rattle.vector_field.specs.Pairs.{unpaired, IsValid}
use Rattle.sheet_laws.specs.Permutations.{InRange, is_permutation, lists}
use Rattle.sheet_laws.specs.Tables.{column, is_table, precedes, renumbered, is_least, Reached, first, along, against}
use Rattle.sheet_laws.specs.Labellings.{walk, closes}
use Rattle.sheet_laws.specs.Lifts.{columns_of, IsLift, lift, is_cover}
use Rattle.sheet_laws.proofs.CallerLemmas.{least_is_exact, walk-into, closes-from}
use Rattle.live_laws.specs.Live.{Relations, Position, may_follow, follows, sound, is_live, comes_after, listed, live, is_listed}
use Rattle.live_laws.proofs.CallerLemmas.{length-renumbered}
use Rattle.edge_words.proofs.CallerLemmas.{cycle-within, labelling-from}
use Rattle.cover_laws.specs.Covers.{relations_at, covers_of, covers, covers_after, CanStart}
use Rattle.cover_laws.proofs.CoverParts.{lifted, cover-parts, cover-from, cover-transitive, transitive-connected}
use Rattle.cover_laws.proofs.Listings.{flat_map-alike}

-- ---- tables without columns

only-first : (c m : ℕ) (q : List ℕ) → c ≡ 0 → {s : ℕ} → Reached c m q s → s ≡ 1
only-first c m q e first = refl
only-first c m q e (along h r) = absurd (omega (arith, e, r.0, r.1))
only-first c m q e (against h r) = absurd (omega (arith, e, r.0, r.1))

no-cells : (c m : ℕ) → c ≡ 0 → m * c ≡ 0
no-cells c m e = ap (λ (k : ℕ). m * k) e ∙ mul-zero m

empty-table : (c m : ℕ) → c ≡ 0 → is_table c m [] ≡ true
empty-table c m e =
    and_from (length {A = ℕ} [] == m * c) (list_all (λ g. is_permutation m (column c m [] g)) (upto c)) (eq-eqb 0 (m * c) (sym (no-cells c m e)))
    (In-all (λ g. is_permutation m (column c m [] g)) (upto c) (λ g i. (let r = upto-In c g i in absurd (omega (arith, e, r.0, r.1)))))

empty-least : (c m : ℕ) → c ≡ 0 → is_least c m [] ≡ true
empty-least c m e = (least_is_exact c m []).1 (λ f p. ap (λ (xs : List ℕ). precedes xs []) (none f))
  where
    none : (f : List ℕ) → renumbered c m f [] ≡ []
    none f = no_length (renumbered c m f []) (length-renumbered c m f [] ∙ no-cells c m e)
      where
        no_length : (xs : List ℕ) → length xs ≡ 0 → xs ≡ []
        no_length [] j = refl
        no_length (x ∷ xs) j = absurd (omega (arith, j))

-- nothing is live
none-live : (P : Relations) (m : ℕ) (q : List ℕ) → P.generators ≡ 0 → is_live P m q ≡ true → ⊥
none-live P m [] e h = absurd (grind (arith, h))
none-live P m (x ∷ q) e h =
    let a = and_parts (nat_lt 0 (length (x ∷ q))) (sound P m (x ∷ q)) h in
    let b = and_parts (follows P.generators m [] (x ∷ q)) _ a.1 in
    let d = and_parts (may_follow P.generators m [] x) (follows P.generators m (x ∷ []) q) b.0 in
    let f = and_parts (nat_lt 0 (m * P.generators)) _ d.0 in
    omega (arith, ltb-true 0 (m * P.generators) f.0, no-cells P.generators m e)

module _ (law : CyclesGoRound) (space : List (List (List ℕ))) (pairs : List Pair) (is : IsSpace space) (regular : IsRegular space) (valid : IsValid space pairs)
    (lone : length (unpaired pairs 0 (count space 0)) ≡ 1) (none : columns_of space pairs ≡ 0) where
  one-cover : is_cover space pairs (1, []) ≡ true
  one-cover =
      cover-from law space pairs is regular valid lone 1 [] (record {
        table = table;
        least = empty-least (columns_of space pairs) 1 none;
        labelling = labelling-from space 1 (lift space pairs 1 []) (record { some = omega arith; labels = l.labels; closed = closed });
        connected = transitive-connected law space pairs is regular valid lone 1 [] (omega arith) table (λ s r.
            (let e : 1 ≡ s = omega (arith, r.0, r.1) in subst (λ (k : ℕ). Reached (columns_of space pairs) 1 [] k) e first));
      })
    where
      table : is_table (columns_of space pairs) 1 [] ≡ true
      table = empty-table (columns_of space pairs) 1 none

      l : IsLift space pairs 1 [] (lift space pairs 1 [])
      l = lifted law space pairs is regular valid lone 1 [] table

      one : (x y : ℕ) → InRange 1 x → InRange 1 y → y ≡ x
      one x y q r = omega (arith, q.0, q.1, r.0, r.1)

      closed : (d : ℕ) → InRange (count space 2) d → closes 1 (lift space pairs 1 []) (cycle space d) ≡ true
      closed d r =
          closes-from 1 (lift space pairs 1 []) (cycle space d) (λ x q.
          one x (walk (lift space pairs 1 []) (cycle space d) x) q
          (walk-into 1 (count space 1) (lift space pairs 1 []) l.labels.one_for_each l.labels.permutations (cycle space d)
          (cycle-within law space is regular d r) x q))

  no-more : (m : ℕ) → 2 ≤ m → is_cover space pairs (m, []) ≡ false
  no-more m l = false_from_ne_true (is_cover space pairs (m, [])) (λ e.
      let t = cover-transitive law space pairs is regular valid lone m [] (omega (arith, l)) (cover-parts law space pairs is regular valid lone m [] e) in
      let k : 2 ≡ 1 = only-first (columns_of space pairs) m [] none (t 2 (omega arith, l)) in
      omega (arith, k))

  covers-at : (m : ℕ) → covers_of space pairs m ≡ map (λ q. (m, q)) (cond (is_cover space pairs (m, [])) ([] ∷ []) [])
  covers-at m = ap (λ (k : ℕ). map (λ q. (m, q)) (filter (λ q. is_cover space pairs (m, q)) (lists m k))) (no-cells (columns_of space pairs) m none)

  covers-of_one : covers_of space pairs 1 ≡ (1, []) ∷ []
  covers-of_one = covers-at 1 ∙ ap (λ (b : Bool). map (λ q. (1, q)) (cond b ([] ∷ []) [])) one-cover

  covers-of_more : (m : ℕ) → 2 ≤ m → covers_of space pairs m ≡ []
  covers-of_more m l = covers-at m ∙ ap (λ (b : Bool). map (λ q. (m, q)) (cond b ([] ∷ []) [])) (no-more m l)

  abbrev nothing : ℕ → List Position
  nothing m = []

  none-joined : (xs : List ℕ) → flat_map nothing xs ≡ []
  none-joined [] = refl
  none-joined (x ∷ xs) = none-joined xs

  pub covers-one : (n : ℕ) → 1 ≤ n → covers space pairs n ≡ (1, []) ∷ []
  covers-one zero l = absurd (omega (arith, l))
  covers-one (suc n) l =
      ap (λ (ys : List Position). ys ++ flat_map (covers_of space pairs) (range_with_len (1 + 1) n)) covers-of_one
      ∙ ap (λ (ys : List Position). (1, []) ∷ ys) (flat_map-alike (covers_of space pairs) nothing (range_with_len (1 + 1) n)
      (λ m i. covers-of_more m ((range-In (1 + 1) n m i).0))
      ∙ none-joined (range_with_len (1 + 1) n))

  pub listed-one : (n : ℕ) (t : Position) → 1 ≤ n → CanStart (relations_at space pairs) n t → listed (relations_at space pairs) n t ≡ covers_after space pairs n t
  listed-one n t l (inr h) = absurd (none-live (relations_at space pairs) t.0 t.1 none h.1)
  listed-one n t l (inl e) =
      ap (λ (b : Bool). elim b [ true ↦ (1, []) ∷ [] | false ↦ filter (is_listed (relations_at space pairs)) (live (relations_at space pairs) n t) ])
      (eq-eqb (columns_of space pairs) 0 none)
      ∙ sym (ap (λ (z : Position). filter (comes_after z) (covers space pairs n)) e ∙ ap (filter (comes_after (0, []))) (covers-one n l))
