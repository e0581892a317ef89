-- The torus in the making has fewer than 60,000 cells.
use Rattle.std.proofs.Common.{◌≡◌, ℕ, zero, suc, ◌+◌, ◌-◌, ◌<◌, ◌≤◌, Bool, true, false, cond, eqb, length, refl, sym, subst, arith}
use Rattle.std.proofs.lemmas.Bool.{eqb-true}
use Rattle.std.proofs.lemmas.List.{length-map}
use Rattle.face_poset.specs.Poset.{cell_count}
use Rattle.tuple_spaces.specs.TorusPlaces.{volume, dim_at, facets_at, cells_before, stage}
use Rattle.tuple_spaces.proofs.PassingPlaces.{passing, length-passing-more, volume-le}
use Rattle.tuple_spaces.proofs.MakingLemmas.{by_dim}

-- a number is at most one of four
one_of : (k : ℕ) → ((cond (eqb k 0) 1 0 + cond (eqb k 1) 1 0) + cond (eqb k 2) 1 0) + cond (eqb k 3) 1 0 ≤ 1
one_of k = by_tests (eqb k 0) (eqb k 1) (eqb k 2) (eqb k 3) (sep 0 1 (omega arith)) (sep 0 2 (omega arith)) (sep 0 3 (omega arith)) (sep 1 2 (omega arith)) (sep 1 3 (omega arith)) (sep 2 3 (omega arith))
  where
    sep : (a b : ℕ) → a < b → eqb k a ≡ true → eqb k b ≡ true → ⊥
    sep a b l e f = let p : k ≡ a = eqb-true k a e in let q : k ≡ b = eqb-true k b f in omega arith

    by_tests : (a b c d : Bool) → (a ≡ true → b ≡ true → ⊥) → (a ≡ true → c ≡ true → ⊥) → (a ≡ true → d ≡ true → ⊥) → (b ≡ true → c ≡ true → ⊥) → (b ≡ true → d ≡ true → ⊥) → (c ≡ true → d ≡ true → ⊥)
        → ((cond a 1 0 + cond b 1 0) + cond c 1 0) + cond d 1 0 ≤ 1
    by_tests false false false false ab ac ad bc bd cd = omega arith
    by_tests true false false false ab ac ad bc bd cd = omega arith
    by_tests false true false false ab ac ad bc bd cd = omega arith
    by_tests false false true false ab ac ad bc bd cd = omega arith
    by_tests false false false true ab ac ad bc bd cd = omega arith
    by_tests true true c d ab ac ad bc bd cd = absurd (ab refl refl)
    by_tests true false true d ab ac ad bc bd cd = absurd (ac refl refl)
    by_tests true false false true ab ac ad bc bd cd = absurd (ad refl refl)
    by_tests false true true d ab ac ad bc bd cd = absurd (bc refl refl)
    by_tests false true false true ab ac ad bc bd cd = absurd (bd refl refl)
    by_tests false false true true ab ac ad bc bd cd = absurd (cd refl refl)

module _ (side : ℕ) where
  abbrev many : ℕ → ℕ → ℕ
  many d n = length (passing (λ p. eqb (dim_at side p) d) n)

  all_few : (n : ℕ) → ((many 0 n + many 1 n) + many 2 n) + many 3 n ≤ n
  all_few zero = omega arith
  all_few (suc n) =
      let e : suc n ≡ n + 1 = omega arith in
      subst (λ (m : ℕ). ((many 0 m + many 1 m) + many 2 m) + many 3 m ≤ m) (sym e)
      (omega (arith, all_few n, one_of (dim_at side n), length-passing-more (λ p. eqb (dim_at side p) 0) n, length-passing-more (λ p. eqb (dim_at side p) 1) n, length-passing-more (λ p. eqb (dim_at side p) 2) n, length-passing-more (λ p. eqb (dim_at side p) 3) n))

  many-le : (d n k : ℕ) → many d n ≤ many d (n + k)
  many-le d n zero = let e : n + zero ≡ n = omega arith in subst (λ (m : ℕ). many d n ≤ many d m) (sym e) (omega arith)
  many-le d n (suc k) =
      let e : n + suc k ≡ n + k + 1 = omega arith in
      subst (λ (m : ℕ). many d n ≤ many d m) (sym e) (omega (arith, many-le d n k, length-passing-more (λ p. eqb (dim_at side p) d) (n + k)))

  many-up : (d n m : ℕ) → n ≤ m → many d n ≤ many d m
  many-up d n m l = let e : n + (m - n) ≡ m = omega arith in subst (λ (k : ℕ). many d n ≤ many d k) e (many-le d n (m - n))

  long : (d n : ℕ) → length (cells_before side d n) ≡ many d n
  long d n = length-map (passing (λ p. eqb (dim_at side p) d) n) (facets_at side d)

  pub stage-room : (dim place : ℕ) → side ≤ 38 → dim ≤ 3 → place ≤ volume side → cell_count (stage side dim place) < 60000
  stage-room dim place small low l =
      let v : volume side ≤ 54872 = volume-le side small in
      let all = all_few (volume side) in
      by_dim (λ d. cell_count (stage side d place) < 60000)
      (omega (arith, v, all, long 0 place, many-up 0 place (volume side) l))
      (omega (arith, v, all, long 0 (volume side), long 1 place, many-up 1 place (volume side) l))
      (omega (arith, v, all, long 0 (volume side), long 1 (volume side), long 2 place, many-up 2 place (volume side) l))
      (omega (arith, v, all, long 0 (volume side), long 1 (volume side), long 2 (volume side), long 3 place, many-up 3 place (volume side) l)) dim low
