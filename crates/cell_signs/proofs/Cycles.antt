-- The signs of a 2-cell cancel at each vertex.
use Rattle.std.proofs.Common.{◌≡◌, ℕ, ◌≤◌, List, [], ◌∷◌, Bool, true, false, cond, not, ◌-◌, ◌||◌, ◌&&◌, eqb, map, length, get_or, refl, ap, sym, ◌∙◌, subst, arith}
use Rattle.std.specs.Prelude.{ℤ, pos, negsuc, ◌+ℤ◌, ◌-ℤ◌, ◌*ℤ◌}
use Rattle.std.specs.List.Sorted.{IsStrictlyIncreasing}
use Rattle.std.proofs.lemmas.Bool.{eqb-true, eq-eqb, false≢true, ne_eqb}
use Rattle.std.proofs.Math.IntN.{+ℤ_idl}
use Rattle.std.proofs.lemmas.Int.{ints}
use Rattle.number_lists.specs.Words.{holds}
use Rattle.face_poset.specs.Poset.{IsCell, IsSpace, count, facets_of}
use Rattle.face_poset.specs.Signs.{sign_of, sum_to}
use Rattle.regular_check.specs.declared.cycles.Step.{Step}
use Rattle.regular_check.specs.Cycle.{cycle, start_of, end_of, GoesRound, CyclesGoRound}
use Rattle.regular_check.specs.Rules.{IsRegular}
use Rattle.cell_signs.specs.Oriented.{sum_over, EdgesBalance}
use Rattle.cell_signs.specs.Along.{is_first, goes_back, HasLowSigns}
use Rattle.cell_signs.proofs.Kept.{facets-cell, cell-In, two_ends_kept}
use Rattle.number_lists.specs.Members.{In, here, there}
use Rattle.number_lists.proofs.CallerLemmas.{In-holds, holds-In, In-map}
use Rattle.cell_signs.proofs.Sums.{Once, once, once_rising, sum-same, sum-less, sum-map, sum-turned, sum-within}

-- what stands on the way from a cell by a facet to the target
abbrev pub way : List (List (List ℕ)) → (ℕ → ℕ → ℕ → Bool) → (dim cell target facet : ℕ) → ℤ
way space negative dim cell target f = cond (holds (facets_of space (dim - 1) f) target) (sign_of (negative dim cell f) *ℤ sign_of (negative (dim - 1) f target)) (pos 0)

pub sum_to-over : (space : List (List (List ℕ))) (negative : ℕ → ℕ → ℕ → Bool) (dim cell target : ℕ) (fs : List ℕ) → sum_to space negative dim cell target fs ≡ sum_over (way space negative dim cell target) fs
sum_to-over space negative dim cell target [] = refl
sum_to-over space negative dim cell target (f ∷ fs) = by (holds (facets_of space (dim - 1) f) target) (sum_to-over space negative dim cell target fs)
  where
    by : (b : Bool) → sum_to space negative dim cell target fs ≡ sum_over (way space negative dim cell target) fs
        → cond b ((sign_of (negative dim cell f) *ℤ sign_of (negative (dim - 1) f target)) +ℤ sum_to space negative dim cell target fs) (sum_to space negative dim cell target fs)
        ≡ cond b (sign_of (negative dim cell f) *ℤ sign_of (negative (dim - 1) f target)) (pos 0) +ℤ sum_over (way space negative dim cell target) fs
    by true e = ap (λ n. (sign_of (negative dim cell f) *ℤ sign_of (negative (dim - 1) f target)) +ℤ n) e
    by false e = e ∙ sym (+ℤ_idl (sum_over (way space negative dim cell target) fs))

-- a step is where it was found
back_at : (steps : List Step) (s : Step) → Once (map (λ (t : Step). t.edge) steps) → In s steps → goes_back steps s.edge ≡ not s.forward
back_at [] s o i = elim i [ ]
back_at (t ∷ steps) s o here = ap (λ (b : Bool). (b && not t.forward) || goes_back steps t.edge) (eq-eqb t.edge t.edge refl) ∙ (ap (λ (b : Bool). not t.forward || b) (nowhere steps t.edge o.0) ∙ or_false (not t.forward))
  where
    or_false : (b : Bool) → (b || false) ≡ b
    or_false true = refl
    or_false false = refl

    nowhere : (steps : List Step) (e : ℕ) → (In e (map (λ (t : Step). t.edge) steps) → ⊥) → goes_back steps e ≡ false
    nowhere [] e h = refl
    nowhere (u ∷ us) e h = ap (λ (b : Bool). (b && not u.forward) || goes_back us e) (ne_eqb u.edge e (λ q. h (subst (λ (z : ℕ). In z (u.edge ∷ map (λ (t : Step). t.edge) us)) q here))) ∙ nowhere us e (λ i. h (there i))
back_at (t ∷ steps) s o (there i) = ap (λ (b : Bool). (b && not t.forward) || goes_back steps s.edge) (ne_eqb t.edge s.edge (λ q. o.0 (subst (λ (z : ℕ). In z (map (λ (t : Step). t.edge) steps)) (sym q) (In-map (λ (t : Step). t.edge) i)))) ∙ back_at steps s o.1 i

-- 1 where the number is the target
abbrev mark : (target n : ℕ) → ℤ
mark target n = cond (eqb n target) (pos 1) (pos 0)

-- a step stands with 1 at its end and -1 at its start
point : (forward p q : Bool) → (p && q) ≡ false → cond (p || (q || false)) (sign_of (not forward) *ℤ sign_of p) (pos 0) ≡ cond (cond forward q p) (pos 1) (pos 0) -ℤ cond (cond forward p q) (pos 1) (pos 0)
point f true true e = absurd (false≢true (sym e))
point true true false e = refl
point true false true e = refl
point true false false e = refl
point false true false e = refl
point false false true e = refl
point false false false e = refl

-- the vertices of an edge are two
point_of : (vs : List ℕ) (v : ℕ) (forward : Bool) → length vs ≡ 2 → IsStrictlyIncreasing vs
    → cond (holds vs v) (sign_of (not forward) *ℤ sign_of (eqb (get_or vs 0 0) v)) (pos 0) ≡ mark v (get_or vs (cond forward 1 0) 0) -ℤ mark v (get_or vs (cond forward 0 1) 0)
point_of [] v f l r = absurd (omega (arith, l))
point_of (a ∷ []) v f l r = absurd (omega (arith, l))
point_of (a ∷ b ∷ []) v f l r = point f (eqb a v) (eqb b v) (both (eqb a v) refl (eqb b v) refl) ∙ sides f
  where
    both : (p : Bool) → eqb a v ≡ p → (q : Bool) → eqb b v ≡ q → (p && q) ≡ false
    both true e true g = absurd (omega (arith, r 0 (omega arith), eqb-true a v e, eqb-true b v g))
    both true e false g = refl
    both false e q g = refl

    sides : (f : Bool) → cond (cond f (eqb b v) (eqb a v)) (pos 1) (pos 0) -ℤ cond (cond f (eqb a v) (eqb b v)) (pos 1) (pos 0) ≡ mark v (get_or (a ∷ b ∷ []) (cond f 1 0) 0) -ℤ mark v (get_or (a ∷ b ∷ []) (cond f 0 1) 0)
    sides true = refl
    sides false = refl
point_of (a ∷ b ∷ c ∷ vs) v f l r = absurd (omega (arith, l))

module _ (space : List (List (List ℕ))) (negative : ℕ → ℕ → ℕ → Bool) (cell v : ℕ) where
  abbrev steps : List Step
  steps = cycle space cell

  abbrev edges : List ℕ
  edges = facets_of space 2 cell

  abbrev along : List ℕ
  along = map (λ (s : Step). s.edge) (cycle space cell)

  pub cancels_at : 1 ≤ cell → cell ≤ count space 2 → IsStrictlyIncreasing (facets_of space 2 cell) → ((e : ℕ) → In e (facets_of space 2 cell) → (length (facets_of space 1 e) ≡ 2) × IsStrictlyIncreasing (facets_of space 1 e) × (1 ≤ e) × (e ≤ count space 1)) → GoesRound space (facets_of space 2 cell) (cycle space cell)
      → HasLowSigns space negative → sum_to space negative 2 cell v (facets_of space 2 cell) ≡ pos 0
  cancels_at low high rises ends round signs =
      sum_to-over space negative 2 cell v edges
      ∙ (sum-within at edges along (once_rising edges rises) apart (λ e i. holds-In along (round.edges_are e ∙ In-holds i)) (λ e i h. absurd (false≢true (sym h ∙ (sym (round.edges_are e) ∙ In-holds i))))
      ∙ (sum-map at (λ (s : Step). s.edge) steps
      ∙ (sum-same (λ (s : Step). at s.edge) (λ s. mark v (end_of space s) -ℤ mark v (start_of space s)) steps step
      ∙ (sum-less (λ s. mark v (end_of space s)) (λ s. mark v (start_of space s)) steps
      ∙ (let a : sum_over (λ s. mark v (end_of space s)) steps ≡ sum_over (λ s. mark v (start_of space s)) steps =
      sym (sum-map (mark v) (end_of space) steps) ∙ (ap (sum_over (mark v)) round.closes ∙ (sum-turned (mark v) (map (start_of space) steps) ∙ sum-map (mark v) (start_of space) steps)) in
      omega (arith, ints, a))))))
    where
      at : ℕ → ℤ
      at = way space negative 2 cell v

      apart : Once along
      apart = once along round.edges_once

      first : (e : ℕ) (f : Bool) → 1 ≤ e → e ≤ count space 1 → (b : Bool) → holds (facets_of space 1 e) v ≡ b
          → cond (holds (facets_of space 1 e) v) (sign_of (not f) *ℤ sign_of (negative 1 e v)) (pos 0) ≡ cond (holds (facets_of space 1 e) v) (sign_of (not f) *ℤ sign_of (is_first space e v)) (pos 0)
      first e f l h true g = ap (λ (b : Bool). cond (holds (facets_of space 1 e) v) (sign_of (not f) *ℤ sign_of b) (pos 0)) (signs.edges e v l h g)
      first e f l h false g = ap (λ (b : Bool). cond b (sign_of (not f) *ℤ sign_of (negative 1 e v)) (pos 0)) g ∙ sym (ap (λ (b : Bool). cond b (sign_of (not f) *ℤ sign_of (is_first space e v)) (pos 0)) g)

      step : (s : Step) → In s steps → way space negative 2 cell v s.edge ≡ mark v (end_of space s) -ℤ mark v (start_of space s)
      step s i =
          let m : holds edges s.edge ≡ true = sym (round.edges_are s.edge) ∙ In-holds (In-map (λ (s : Step). s.edge) i) in
          let t = ends s.edge (holds-In edges m) in
          ap (λ (b : Bool). cond (holds (facets_of space 1 s.edge) v) (sign_of b *ℤ sign_of (negative 1 s.edge v)) (pos 0)) (signs.disks cell s.edge low high m ∙ back_at steps s apart i)
          ∙ (first s.edge s.forward t.2 t.3 (holds (facets_of space 1 s.edge) v) refl ∙ point_of (facets_of space 1 s.edge) v s.forward t.0 t.1)

-- in a regular space
pub disks_cancel : (space : List (List (List ℕ))) (negative : ℕ → ℕ → ℕ → Bool) (cell vertex : ℕ) → CyclesGoRound → IsSpace space → IsRegular space → HasLowSigns space negative → 1 ≤ cell → cell ≤ count space 2
    → sum_to space negative 2 cell vertex (facets_of space 2 cell) ≡ pos 0
disks_cancel space negative cell vertex rounds valid regular signs low high =
    let disk : IsCell (count space 1) (facets_of space 2 cell) = facets-cell space 1 cell valid low high in
    cancels_at space negative cell vertex low high disk.rises
    (λ e i.
    let w = cell-In (count space 1) (facets_of space 2 cell) disk e i in
    let edge : IsCell (count space 0) (facets_of space 1 e) = facets-cell space 0 e valid w.0 w.1 in
    (two_ends_kept space valid regular e w.0 w.1, edge.rises, w.0, w.1))
    (rounds space cell valid regular low high)
    signs

-- the two signs of an edge
balance_of : (vs : List ℕ) → length vs ≡ 2 → IsStrictlyIncreasing vs → sum_over (λ v. sign_of (eqb (get_or vs 0 0) v)) vs ≡ pos 0
balance_of [] l r = absurd (omega (arith, l))
balance_of (a ∷ []) l r = absurd (omega (arith, l))
balance_of (a ∷ b ∷ []) l r =
    ap (λ (k : Bool). sign_of k +ℤ (sign_of (eqb a b) +ℤ pos 0)) (eq-eqb a a refl) ∙ ap (λ (k : Bool). negsuc 0 +ℤ (sign_of k +ℤ pos 0)) (ne_eqb a b (λ e. omega (arith, e, r 0 (omega arith))))
balance_of (a ∷ b ∷ c ∷ vs) l r = absurd (omega (arith, l))

pub low_signs_balance : (space : List (List (List ℕ))) (negative : ℕ → ℕ → ℕ → Bool) → IsSpace space → IsRegular space → HasLowSigns space negative → EdgesBalance space negative
low_signs_balance space negative valid regular signs e low high =
    let edge : IsCell (count space 0) (facets_of space 1 e) = facets-cell space 0 e valid low high in
    sum-same (λ v. sign_of (negative 1 e v)) (λ v. sign_of (is_first space e v)) (facets_of space 1 e) (λ v i. ap sign_of (signs.edges e v low high (In-holds i)))
    ∙ balance_of (facets_of space 1 e) (two_ends_kept space valid regular e low high) edge.rises
