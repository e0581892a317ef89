-- The walk round the last 2-cell of a 3-cell closes, where it closes round each other one: labels as functions of all numbers.
use Rattle.std.proofs.Common.{◌≡◌, ◌≢◌, ℕ, List, [], ◌∷◌, length, refl, ap, sym, ◌∙◌, Bool, true, false, cond}
use Rattle.std.specs.List.{list_all}
use Rattle.number_lists.specs.Members.{In, here, there}
use Rattle.number_lists.proofs.CallerLemmas.{In-Contains, Contains-In}
use Rattle.face_poset.specs.Poset.{count, facets_of, IsSpace}
use Rattle.regular_check.specs.declared.cycles.Step.{Step}
use Rattle.regular_check.specs.Rules.{IsRegular}
use Rattle.regular_check.specs.Cycle.{cycle, CyclesGoRound}
use Rattle.vector_field.proofs.CallerLemmas.{facet-range}
use Rattle.pair_laws.specs.Joins.{AreInverse}
use Rattle.pair_laws.specs.Joins as joins
use Rattle.sphere_collapses.specs.Laws.{LastFaceCloses}
use Rattle.sheet_laws.specs.Permutations.{InRange, is_permutation, at, back}
use Rattle.sheet_laws.specs.Labellings.{label, step, walk, closes, AreLabels}
use Rattle.sheet_laws.proofs.CallerLemmas.{turn_of, back_turn, back-of-at, at-of-back, AreWithin, label-permutes, closes-at, closes-from}
use Rattle.edge_words.proofs.FieldCells.{cycle-within}
use Rattle.edge_words.proofs.Ranges.{in_range, range-true, range-from}

module _ (m n : ℕ) (u : List (List ℕ)) (long : length u ≡ n) (permute : list_all (is_permutation m) u ≡ true) where
  pub forth : ℕ → ℕ → ℕ
  forth e x = cond (in_range n e) (at (label u e) x) x

  pub against : ℕ → ℕ → ℕ
  against e x = cond (in_range n e) (back (label u e) x) x

  permutes : (e : ℕ) → in_range n e ≡ true → is_permutation m (label u e) ≡ true
  permutes e k = label-permutes m n u long permute e (range-true n e k)

  pub are_inverse : AreInverse forth against (in_range m)
  unfolding forth against
  are_inverse = record {
    f_is = λ e x s. range-from m (forth e x) (forth_in e x (range-true m x s) (in_range n e) refl);
    g_is = λ e x s. range-from m (against e x) (against_in e x (range-true m x s) (in_range n e) refl);
    gf = λ e x s. gf e x (range-true m x s) (in_range n e) refl;
    fg = λ e x s. fg e x (range-true m x s) (in_range n e) refl;
  }
    where
      forth_in : (e x : ℕ) → InRange m x → (b : Bool) → in_range n e ≡ b → InRange m (cond b (at (label u e) x) x)
      forth_in e x q true k = (turn_of m (label u e) (permutes e k)).into x q
      forth_in e x q false k = q

      against_in : (e x : ℕ) → InRange m x → (b : Bool) → in_range n e ≡ b → InRange m (cond b (back (label u e) x) x)
      against_in e x q true k = (back_turn m (label u e) (permutes e k)).into x q
      against_in e x q false k = q

      gf : (e x : ℕ) → InRange m x → (b : Bool) → in_range n e ≡ b → cond b (back (label u e) (cond b (at (label u e) x) x)) (cond b (at (label u e) x) x) ≡ x
      gf e x q true k = back-of-at m (label u e) (permutes e k) x q
      gf e x q false k = refl

      fg : (e x : ℕ) → InRange m x → (b : Bool) → in_range n e ≡ b → cond b (at (label u e) (cond b (back (label u e) x) x)) (cond b (back (label u e) x) x) ≡ x
      fg e x q true k = at-of-back m (label u e) (permutes e k) x q
      fg e x q false k = refl

  -- along edges that are there a walk is the walk by the labels
  pub walk-is : (ss : List Step) → AreWithin n ss → (x : ℕ) → joins.walk forth against ss x ≡ walk u ss x
  unfolding forth against
  walk-is [] h x = refl
  walk-is (s ∷ ss) h x = ap (joins.walk forth against ss) (by s.forward) ∙ walk-is ss (λ t i. h t (there i)) (step u s x)
    where
      by : (b : Bool) → cond b (forth s.edge x) (against s.edge x) ≡ cond b (at (label u s.edge) x) (back (label u s.edge) x)
      by true = ap (λ (b : Bool). cond b (at (label u s.edge) x) x) (range-from n s.edge (h s here))
      by false = ap (λ (b : Bool). cond b (back (label u s.edge) x) x) (range-from n s.edge (h s here))

-- ---- the last 2-cell of a 3-cell

module _ (law : CyclesGoRound) (space : List (List (List ℕ))) (is : IsSpace space) (regular : IsRegular space) where
  -- where the walk round each other 2-cell of a 3-cell closes, the walk round the last one does
  pub last-closes : LastFaceCloses → (m : ℕ) (u : List (List ℕ)) → AreLabels space m u → (cell face : ℕ) → InRange (count space 3) cell → In face (facets_of space 3 cell)
      → ((c : ℕ) → In c (facets_of space 3 cell) → c ≢ face → closes m u (cycle space c) ≡ true) → closes m u (cycle space face) ≡ true
  last-closes last m u h cell face r i others =
      closes-from m u (cycle space face) (λ x q.
      sym (walk-is m (count space 1) u h.one_for_each h.permutations (cycle space face) (cycle-within law space is regular face (there_range face i)) x)
      ∙ last space cell face (forth m (count space 1) u h.one_for_each h.permutations) (against m (count space 1) u h.one_for_each h.permutations) (in_range m)
      is regular (record { first = r.0; last = r.1; facet = In-Contains i })
      (are_inverse m (count space 1) u h.one_for_each h.permutations)
      (λ c y j n s.
      walk-is m (count space 1) u h.one_for_each h.permutations (cycle space c) (cycle-within law space is regular c (there_range c (Contains-In j))) y
      ∙ closes-at m u (cycle space c) (others c (Contains-In j) n) y (range-true m y s))
      x (range-from m x q))
    where
      there_range : (c : ℕ) → In c (facets_of space 3 cell) → InRange (count space 2) c
      there_range c j = facet-range space 2 cell c is r.0 r.1 j
