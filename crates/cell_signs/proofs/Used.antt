-- A cycle of edges that a collapse uses up is zero.
use Rattle.std.proofs.Common.{◌≡◌, inl, inr, ℕ, suc, List, [], ◌∷◌, Bool, true, false, cond, eqb, refl, ap, sym, ◌∙◌, arith}
use Rattle.std.specs.Prelude.{ℤ, pos, ◌+ℤ◌, ◌-ℤ◌}
use Rattle.std.proofs.lemmas.Bool.{eqb-true, or_cases}
use Rattle.std.proofs.lemmas.Int.{ints}
use Rattle.face_poset.specs.declared.cells.Cell.{Cell}
use Rattle.face_poset.specs.declared.cells.Pair.{Pair}
use Rattle.number_lists.specs.Words.{holds}
use Rattle.face_poset.specs.Poset.{facets_of}
use Rattle.face_poset.specs.Below.{cell_at}
use Rattle.number_lists.specs.Members.{In, here, there}
use Rattle.number_lists.proofs.CallerLemmas.{and-left, and-right}
use Rattle.cell_signs.specs.Oriented.{sum_over}
use Rattle.sphere_collapses.specs.Collapses.{is_free, without, collapses}
use Rattle.cell_signs.proofs.Sums.{Once, sum-single}
use Rattle.cell_signs.proofs.Rest.{is_cell, has, Free, free_parts, uses, gone_now, no_edge}

-- the number with its sign turned or not, where it counts
abbrev pub put : (counts turned : Bool) → ℤ → ℤ
put counts turned n = cond counts (cond turned (pos 0 -ℤ n) n) (pos 0)

pub put-zero : (h b : Bool) → put h b (pos 0) ≡ pos 0
put-zero false b = refl
put-zero true true = refl
put-zero true false = refl

pub put-add : (h b : Bool) (m n : ℤ) → put h b (m +ℤ n) ≡ put h b m +ℤ put h b n
put-add false b m n = refl
put-add true true m n = omega (arith, ints)
put-add true false m n = refl

pub put-sum : {A : Type 0} (h b : Bool) (f : A → ℤ) (xs : List A) → sum_over (λ x. put h b (f x)) xs ≡ put h b (sum_over f xs)
put-sum h b f [] = sym (put-zero h b)
put-sum h b f (x ∷ xs) = ap (λ n. put h b (f x) +ℤ n) (put-sum h b f xs) ∙ sym (put-add h b (f x) (sum_over f xs))

put-none : (b : Bool) (n : ℤ) → put true b n ≡ pos 0 → n ≡ pos 0
put-none true n e = omega (arith, ints, e)
put-none false n e = e

module _ (space : List (List (List ℕ))) (edge_signs : ℕ → ℕ → Bool) (es : List ℕ) (z : ℕ → ℤ) where
  -- the numbers on the edges sum to 0 at each vertex
  abbrev pub IsCycle : Type 0
  IsCycle = (v : ℕ) → sum_over (λ e. put (holds (facets_of space 1 e) v) (edge_signs e v) (z e)) es ≡ pos 0

  -- an edge that a pair takes
  taken : (rest : List Cell) (p : Pair) → Once es → IsCycle → Free space rest p → (p.dim ≡ 1 → z p.lower ≡ pos 0) → ((e : ℕ) → In e es → has rest 1 e ≡ false → z e ≡ pos 0)
      → (e : ℕ) → In e es → uses p 1 e ≡ true → z e ≡ pos 0
  taken rest p o closed f low gone e i u = elim (or_cases (is_cell p.dim p.lower (cell_at 1 e)) (is_cell (suc p.dim) p.upper (cell_at 1 e)) u) [
    | inl h ↦ (let d : 1 ≡ p.dim = sym (eqb-true p.dim 1 (and-left (eqb p.dim 1) (eqb p.lower e) h)) in let n : e ≡ p.lower = sym (eqb-true p.lower e (and-right (eqb p.dim 1) (eqb p.lower e) h)) in ap z n ∙ low (sym d))
    | inr h ↦ (let d : 1 ≡ suc p.dim = sym (eqb-true (suc p.dim) 1 (and-left (eqb (suc p.dim) 1) (eqb p.upper e) h)) in let n : e ≡ p.upper = sym (eqb-true p.upper e (and-right (eqb (suc p.dim) 1) (eqb p.upper e) h)) in at_vertex d n)
  ]
    where
      at_vertex : 1 ≡ suc p.dim → e ≡ p.upper → z e ≡ pos 0
      at_vertex d n =
          let up : holds (facets_of space 1 e) p.lower ≡ true = ap (λ (k : ℕ). holds (facets_of space k e) p.lower) d ∙ (ap (λ (k : ℕ). holds (facets_of space (suc p.dim) k) p.lower) n ∙ f.facet) in
          let s = sum-single (λ x. put (holds (facets_of space 1 x) p.lower) (edge_signs x p.lower) (z x)) es e o i (λ x j h. others x j h (has rest 1 x) refl (holds (facets_of space 1 x) p.lower) refl) in
          put-none (edge_signs e p.lower) (z e) (sym (ap (λ (b : Bool). put b (edge_signs e p.lower) (z e)) up) ∙ (sym s ∙ closed p.lower))
        where
          others : (x : ℕ) → In x es → (e ≡ x → ⊥) → (a : Bool) → has rest 1 x ≡ a → (b : Bool) → holds (facets_of space 1 x) p.lower ≡ b → put (holds (facets_of space 1 x) p.lower) (edge_signs x p.lower) (z x) ≡ pos 0
          others x j h false g b k = ap (λ n. put (holds (facets_of space 1 x) p.lower) (edge_signs x p.lower) n) (gone x j g) ∙ put-zero (holds (facets_of space 1 x) p.lower) (edge_signs x p.lower)
          others x j h true g false k = ap (λ (b : Bool). put b (edge_signs x p.lower) (z x)) k
          others x j h true g true k = absurd (h (n ∙ sym (f.alone x (ap (λ (m : ℕ). has rest m x) (sym d) ∙ g) (ap (λ (m : ℕ). holds (facets_of space m x) p.lower) (sym d) ∙ k))))

  -- where it is 0 at the edges of the pairs with 2-cells, it is 0
  pub used_up : Once es → IsCycle → (pairs : List Pair) (rest : List Cell) → collapses space rest pairs ≡ true → ((p : Pair) → In p pairs → p.dim ≡ 1 → z p.lower ≡ pos 0)
      → ((e : ℕ) → In e es → has rest 1 e ≡ false → z e ≡ pos 0) → (e : ℕ) → In e es → z e ≡ pos 0
  used_up o closed [] rest c low gone e i = gone e i (no_edge rest e c)
  used_up o closed (p ∷ ps) rest c low gone e i =
      let free = free_parts space rest p (and-left (is_free space rest p) (collapses space (without rest p) ps) c) in
      used_up o closed ps (without rest p) (and-right (is_free space rest p) (collapses space (without rest p) ps) c) (λ q j. low q (there j))
      (λ x j h. elim (gone_now rest p 1 x h) [ inl g ↦ gone x j g | inr u ↦ taken rest p o closed free (low p here) gone x j u ])
      e i
