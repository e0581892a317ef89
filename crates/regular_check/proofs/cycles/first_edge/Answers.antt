use Rattle.std.proofs.Common.{◌≡◌, ◌<◌, ◌≤◌, ◌+◌, ◌⊎◌, inl, inr, ℕ, List, length, get_or, sym, subst, arith, refl}
use Rattle.std.proofs.lemmas.Bool.Decides.{eqb_tells}
use Rattle.face_poset.specs.Poset.{facets_of}
use Rattle.regular_check.specs.Cycle.{IsFirstEdge}
use Rattle.regular_check.proofs.cycles.first_edge.Goals as goal
use Rattle.regular_check.proofs.cycles.first_edge.Goals.{then-first_end, else-first_end}

last_or_before : (j i : ℕ) → j < i + 1 → (j < i) ⊎ (j ≡ i)
last_or_before j i l = elim (eqb_tells j i) [ inl p ↦ inr p.1 | inr p ↦ inl (omega (arith, p.1, l)) ]

better : (space : List (List (List ℕ))) (edges : List ℕ) (i best : ℕ) → i < length edges → get_or (facets_of space 1 (get_or edges i 0)) 0 0 < get_or (facets_of space 1 best) 0 0 → IsFirstEdge space edges i best → IsFirstEdge space edges (i + 1) (get_or edges i 0)
better space edges i best l lt f =
    record {
      place = i;
      within = l;
      here = refl;
      before = λ j k. omega (arith, lt, f.least j k);
      least = λ j k. elim (last_or_before j i k) [
        | inl p ↦ omega (arith, lt, f.least j p)
        | inr p ↦ subst (λ (n : ℕ). get_or (facets_of space 1 (get_or edges i 0)) 0 0 ≤ get_or (facets_of space 1 (get_or edges n 0)) 0 0) (sym p) (omega arith)
      ];
    }

as_good : (space : List (List (List ℕ))) (edges : List ℕ) (i best : ℕ) → get_or (facets_of space 1 best) 0 0 ≤ get_or (facets_of space 1 (get_or edges i 0)) 0 0 → IsFirstEdge space edges i best → IsFirstEdge space edges (i + 1) best
as_good space edges i best le f =
    record {
      place = f.place;
      within = f.within;
      here = f.here;
      before = f.before;
      least = λ j k. elim (last_or_before j i k) [
        | inl p ↦ f.least j p
        | inr p ↦ subst (λ (n : ℕ). get_or (facets_of space 1 best) 0 0 ≤ get_or (facets_of space 1 (get_or edges n 0)) 0 0) (sym p) le
      ];
    }

pub loop-edge-preserved : goal.loop-edge-preserved
loop-edge-preserved c =
    elim c.if-first_end.branch [
      | then-first_end w ↦
          subst (IsFirstEdge c.args.space.now c.args.edges.now (c.loop-edge.edge-index + 1)) (sym w.best-is)
          (better c.args.space.now c.args.edges.now c.loop-edge.edge-index c.loop-edge.best c.loop-edge-test.true (omega (arith, w.if-first_end.true, c.first_end.ensures, c.first_end-in-loop-edge.ensures)) c.loop-edge.invariant)
      | else-first_end w ↦
          subst (IsFirstEdge c.args.space.now c.args.edges.now (c.loop-edge.edge-index + 1)) (sym w.best-is)
          (as_good c.args.space.now c.args.edges.now c.loop-edge.edge-index c.loop-edge.best (omega (arith, w.if-first_end.false, c.first_end.ensures, c.first_end-in-loop-edge.ensures)) c.loop-edge.invariant)
    ]
