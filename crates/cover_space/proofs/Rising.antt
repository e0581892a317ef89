-- The cells of a closed cell that have a dimension, in increasing order.
use Rattle.std.proofs.Common.{◌≡◌, ◌⊎◌, inl, inr, ℕ, zero, suc, ◌+◌, ◌<◌, List, [], ◌∷◌, ◌++◌, Bool, true, false, cond, eqb, map, filter, take, length, get_or, refl, ap, sym, ◌∙◌, subst, arith}
use Rattle.std.specs.List.{list_any}
use Rattle.std.specs.List.Sorted.{IsStrictlyIncreasing}
use Rattle.std.proofs.lemmas.Bool.{cases_Bool, eqb-true, ne_eqb}
use Rattle.std.proofs.lemmas.List.{append-nil, take_more}
use Rattle.std.proofs.lemmas.List.Kept.{IsStrictlyIncreasing-filter}
use Rattle.number_lists.specs.Words.{upto, holds}
use Rattle.number_lists.proofs.CallerLemmas.{increasing-upto}
use Rattle.face_poset.specs.declared.cells.Cell.{Cell}
use Rattle.face_poset.specs.Poset.{count, facets_of}
use Rattle.face_poset.specs.Below.{facets_of_all, cell_at, closure}
use Rattle.cover_space.specs.Total.{below}
use Rattle.cover_space.specs.Making.{numbers_in}

numbers-append : (xs ys : List Cell) (e : ℕ) → numbers_in (xs ++ ys) e ≡ numbers_in xs e ++ numbers_in ys e
numbers-append [] ys e = refl
numbers-append (x ∷ xs) ys e = by (eqb x.dim e) (numbers-append xs ys e)
  where
    by : (b : Bool) → numbers_in (xs ++ ys) e ≡ numbers_in xs e ++ numbers_in ys e → map (λ (c : Cell). c.number) (cond b (x ∷ filter (λ (c : Cell). eqb c.dim e) (xs ++ ys)) (filter (λ (c : Cell). eqb c.dim e) (xs ++ ys)))
        ≡ map (λ (c : Cell). c.number) (cond b (x ∷ filter (λ (c : Cell). eqb c.dim e) xs) (filter (λ (c : Cell). eqb c.dim e) xs)) ++ numbers_in ys e
    by true again = ap (λ (ns : List ℕ). x.number ∷ ns) again
    by false again = again

numbers-layer : (k e : ℕ) (cells : List ℕ) (b : Bool) → eqb k e ≡ b → numbers_in (map (cell_at k) cells) e ≡ cond b cells []
numbers-layer k e [] true q = refl
numbers-layer k e [] false q = refl
numbers-layer k e (c ∷ cells) true q =
    let rest : List Cell = filter (λ (c : Cell). eqb c.dim e) (map (cell_at k) cells) in
    ap (λ (b : Bool). map (λ (c : Cell). c.number) (cond b (cell_at k c ∷ rest) rest)) q ∙ ap (λ (ns : List ℕ). c ∷ ns) (numbers-layer k e cells true q)
numbers-layer k e (c ∷ cells) false q =
    let rest : List Cell = filter (λ (c : Cell). eqb c.dim e) (map (cell_at k) cells) in
    ap (λ (b : Bool). map (λ (c : Cell). c.number) (cond b (cell_at k c ∷ rest) rest)) q ∙ numbers-layer k e cells false q

-- one cell more
pub numbers-more : (cells : List Cell) (i : ℕ) (z : Cell) (e : ℕ) (b : Bool) → i < length cells → eqb (get_or cells i z).dim e ≡ b → numbers_in (take (i + 1) cells) e ≡ numbers_in (take i cells) e ++ cond b ((get_or cells i z).number ∷ []) []
numbers-more cells i z e b l q =
    let c : Cell = get_or cells i z in
    ap (λ (cs : List Cell). numbers_in cs e) (take_more cells i z l)
    ∙ (numbers-append (take i cells) (c ∷ []) e ∙ (ap (λ (b : Bool). numbers_in (take i cells) e ++ map (λ (c : Cell). c.number) (cond b (c ∷ []) [])) q ∙ by b))
  where
    by : (b : Bool) → numbers_in (take i cells) e ++ map (λ (c : Cell). c.number) (cond b (get_or cells i z ∷ []) []) ≡ numbers_in (take i cells) e ++ cond b ((get_or cells i z).number ∷ []) []
    by true = refl
    by false = refl

module _ (X : List (List (List ℕ))) where
  none-over : (d e : ℕ) (cells : List ℕ) → d < e → numbers_in (closure X d cells) e ≡ []
  none-over zero e cells l = numbers-layer 0 e cells false (ne_eqb 0 e (λ q. omega (arith, l, q)))
  none-over (suc d) e cells l =
      numbers-append (closure X d (facets_of_all X d cells)) (map (cell_at (suc d)) cells) e
      ∙ (ap (λ (ns : List ℕ). ns ++ numbers_in (map (cell_at (suc d)) cells) e) (none-over d e (facets_of_all X d cells) (omega (arith, l))) ∙ numbers-layer (suc d) e cells false (ne_eqb (suc d) e (λ q. omega (arith, l, q))))

  none-rise : IsStrictlyIncreasing []
  none-rise = λ k l. absurd (omega (arith, l))

  closure-rises : (d e : ℕ) (cells : List ℕ) → IsStrictlyIncreasing cells → IsStrictlyIncreasing (numbers_in (closure X d cells) e)
  closure-rises zero e cells up = elim (cases_Bool (eqb 0 e)) [
    | inl q ↦ subst IsStrictlyIncreasing (sym (numbers-layer 0 e cells true q)) up
    | inr q ↦ subst IsStrictlyIncreasing (sym (numbers-layer 0 e cells false q)) none-rise
  ]
  closure-rises (suc d) e cells up = subst IsStrictlyIncreasing (sym (numbers-append (closure X d fs) (map (cell_at (suc d)) cells) e)) (by (cases_Bool (eqb (suc d) e)) (closure-rises d e fs fs-rise))
    where
      fs : List ℕ
      fs = facets_of_all X d cells

      fs-rise : IsStrictlyIncreasing fs
      fs-rise = IsStrictlyIncreasing-filter (λ f. list_any (λ c. holds (facets_of X (d + 1) c) f) cells) (upto (count X d)) (increasing-upto (count X d))

      by : (eqb (suc d) e ≡ true) ⊎ (eqb (suc d) e ≡ false) → IsStrictlyIncreasing (numbers_in (closure X d fs) e) → IsStrictlyIncreasing (numbers_in (closure X d fs) e ++ numbers_in (map (cell_at (suc d)) cells) e)
      by (inl q) up1 =
          let o : suc d ≡ e = eqb-true (suc d) e q in
          subst IsStrictlyIncreasing (sym (ap (λ (ns : List ℕ). ns ++ numbers_in (map (cell_at (suc d)) cells) e) (none-over d e fs (omega (arith, o))) ∙ numbers-layer (suc d) e cells true q)) up
      by (inr q) up1 =
          subst IsStrictlyIncreasing (sym (ap (λ (ns : List ℕ). numbers_in (closure X d fs) e ++ ns) (numbers-layer (suc d) e cells false q) ∙ append-nil (numbers_in (closure X d fs) e))) up1

  pub below-rises : (d c e : ℕ) → IsStrictlyIncreasing (below X d c e)
  below-rises d c e = closure-rises d e (c ∷ []) (λ k l. absurd (omega (arith, l)))
