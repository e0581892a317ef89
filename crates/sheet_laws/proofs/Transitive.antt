-- A lift is connected exactly where its table is transitive.
use Rattle.std.proofs.Common.{◌≡◌, ◌⊎◌, inl, inr, ℕ, ◌+◌, ◌≤◌, List, [], ◌∷◌, ◌++◌, length, get_or, refl, ap, arith, sym, ◌∙◌, subst, Bool, true, false, cond}
use Rattle.std.specs.Prelude.{◌==◌, not}
use Rattle.std.proofs.lemmas.Bool.{eqb-true, false_from_ne_true, not_from_false}
use Rattle.number_lists.specs.Members.{In, here, there}
use Rattle.number_lists.specs.Words.{upto}
use Rattle.number_lists.proofs.CallerLemmas.{In-cases, In-filter, In-inside, upto-In, at-In, append-In, In-left, In-right}
use Rattle.face_poset.specs.declared.cells.Pair.{Pair}
use Rattle.face_poset.specs.Poset.{count, facets_of, IsSpace}
use Rattle.regular_check.specs.declared.cycles.Step.{Step}
use Rattle.regular_check.specs.Rules.{IsRegular}
use Rattle.regular_check.specs.Cycle.{cycle, CyclesGoRound}
use Rattle.vector_field.specs.Pairs.{others, unpaired, is_used, IsValid}
use Rattle.sheet_laws.specs.Permutations.{InRange, is_permutation, at, back}
use Rattle.sheet_laws.specs.Tables.{column, Reached, first, along, against, IsTransitive}
use Rattle.sheet_laws.specs.Labellings.{label, step, walk, Joined, here as joined_here, on, IsConnected}
use Rattle.sheet_laws.specs.Lifts.{critical_edges, columns_of, IsLift, LiftsAreConnected}
use Rattle.sheet_laws.proofs.Permutations.{turn_of, back_turn, back-of-at, at-of-back, at_identity, back-range, at-back, at-range}
use Rattle.sheet_laws.proofs.Walks.{AreWithin, rotated, step-into}
use Rattle.sheet_laws.proofs.Rounds.{IsCutAt}
use Rattle.sheet_laws.proofs.Cells.{Ends, ends-of, incident, critical-range, over-edges, over-vertices}
use Rattle.sheet_laws.proofs.Joined.{joined-then, joined-forth, joined-back, joined-turned, label-permutation}
use Rattle.sheet_laws.proofs.Lifts.{cut, within, cut-others}

module _ (law : CyclesGoRound) (space : List (List (List ℕ))) (pairs : List Pair) (m : ℕ) (cells : List ℕ) (u : List (List ℕ)) (is : IsSpace space) (regular : IsRegular space) (valid : IsValid space pairs)
    (lone : length (unpaired pairs 0 (count space 0)) ≡ 1) (some : 1 ≤ m) (l : IsLift space pairs m cells u) where
  -- the critical vertex
  root : ℕ
  root = get_or (unpaired pairs 0 (count space 0)) 0 0

  only-root : (v : ℕ) → In v (unpaired pairs 0 (count space 0)) → v ≡ root
  unfolding root
  only-root v i = one (unpaired pairs 0 (count space 0)) lone i
    where
      one : (xs : List ℕ) → length xs ≡ 1 → In v xs → v ≡ get_or xs 0 0
      one [] e i = elim i [ ]
      one (x ∷ []) e i = elim (In-cases i) [ inl j ↦ j | inr n ↦ elim n [ ] ]
      one (x ∷ y ∷ xs) e i = absurd (omega (arith, e))

  root-range : InRange (count space 0) root
  unfolding root
  root-range = upto-In (count space 0) root (In-inside (λ c. not (is_used pairs 0 c)) (upto (count space 0)) (at-In (unpaired pairs 0 (count space 0)) 0 0 (omega (arith, lone))))

  one-sheet : InRange m 1
  one-sheet = (omega arith, some)

  -- ---- from transitive to connected

  OverRoot : ℕ → Type 0
  OverRoot v = (x : ℕ) → InRange m x → Joined space u v x root x

  branch : (p : Pair) → In p pairs → p.dim ≡ 0 → ((g : ℕ) → In g (others space p) → OverRoot g) → OverRoot p.lower
  unfolding OverRoot
  branch p i d h x q = by (ends.only p.lower facet)
    where
      range : InRange (count space 1) p.upper
      range = let k = incident space pairs valid p i in (k.upper_first, subst (λ (n : ℕ). p.upper ≤ count space (n + 1)) d k.upper_last)

      facet : In p.lower (facets_of space 1 p.upper)
      facet = subst (λ (n : ℕ). In p.lower (facets_of space (n + 1) p.upper)) d (incident space pairs valid p i).facet

      ends : Ends space p.upper
      ends = ends-of space p.upper is regular range

      identity : at (label u p.upper) x ≡ x
      identity = ap (λ (f : List ℕ). at f x) (l.tree p i d) ∙ at_identity m x q

      other : (g : ℕ) → In g (facets_of space 1 p.upper) → (g ≡ p.lower → ⊥) → In g (others space p)
      other g j n =
          In-filter (λ f. not (f == p.lower)) (subst (λ (k : ℕ). In g (facets_of space (k + 1) p.upper)) (sym d) j)
          (not_from_false (g == p.lower) (false_from_ne_true (g == p.lower) (λ e. n (eqb-true g p.lower e))))

      by : (p.lower ≡ get_or (facets_of space 1 p.upper) 0 0) ⊎ (p.lower ≡ get_or (facets_of space 1 p.upper) 1 0) → Joined space u p.lower x root x
      by (inl e) =
          let b = get_or (facets_of space 1 p.upper) 1 0 in
          joined-then space u (rw (sym e, identity) at (joined-forth space u p.upper x range)) (h b (other b ends.there_second (λ k. ends.apart (sym e ∙ sym k))) x q)
      by (inr e) =
          let a = get_or (facets_of space 1 p.upper) 0 0 in
          joined-then space u (rw (sym e, identity) at (joined-back space u m l.labels p.upper x range q)) (h a (other a ends.there_first (λ k. ends.apart (k ∙ e))) x q)

  over-root : (v : ℕ) → InRange (count space 0) v → (x : ℕ) → InRange m x → Joined space u v x root x
  unfolding OverRoot
  over-root v r x q =
      over-vertices space pairs is valid (λ v. (x : ℕ) → InRange m x → Joined space u v x root x)
      (λ v i x q. rw (only-root v i) joined_here) branch v r x q

  critical-at : (g : ℕ) → InRange (columns_of space pairs) g → InRange (count space 1) (at (critical_edges space pairs) g)
  critical-at g r = critical-range space pairs valid (at (critical_edges space pairs) g) (at-range (critical_edges space pairs) g r)

  column-permutes : (g : ℕ) → InRange (columns_of space pairs) g → is_permutation m (column (columns_of space pairs) m cells g) ≡ true
  column-permutes g r = rw (l.columns g r) at (label-permutation space u m l.labels (at (critical_edges space pairs) g) (critical-at g r))

  -- along a column over the root
  along-column : (g x : ℕ) → InRange (columns_of space pairs) g → InRange m x → Joined space u root x root (at (column (columns_of space pairs) m cells g) x)
  along-column g x r q =
      let e = at (critical_edges space pairs) g in
      let ends = ends-of space e is regular (critical-at g r) in
      let y : InRange m (at (column (columns_of space pairs) m cells g) x) = (turn_of m (column (columns_of space pairs) m cells g) (column-permutes g r)).into x q in
      joined-then space u (joined-turned space u m l.labels (over-root (get_or (facets_of space 1 e) 0 0) ends.first x q) q)
      (joined-then space u (rw (l.columns g r) at (joined-forth space u e x (critical-at g r))) (over-root (get_or (facets_of space 1 e) 1 0) ends.second (at (column (columns_of space pairs) m cells g) x) y))

  from-reached : {s : ℕ} → Reached (columns_of space pairs) m cells s → InRange m s × Joined space u root 1 root s
  from-reached first = (one-sheet, joined_here)
  from-reached (along {s} {g} h r) =
      let k = from-reached h in
      ((turn_of m (column (columns_of space pairs) m cells g) (column-permutes g r)).into s k.0, joined-then space u k.1 (along-column g s r k.0))
  from-reached (against {s} {g} h r) =
      let k = from-reached h in
      let y : InRange m (back (column (columns_of space pairs) m cells g) s) = (back_turn m (column (columns_of space pairs) m cells g) (column-permutes g r)).into s k.0 in
      let j = along-column g (back (column (columns_of space pairs) m cells g) s) r y in
      (y, joined-then space u k.1 (joined-turned space u m l.labels (rw (at-of-back m (column (columns_of space pairs) m cells g) (column-permutes g r) s k.0) at j) y))

  connected-from : IsTransitive (columns_of space pairs) m cells → IsConnected space m u
  connected-from t v x w y r q k n =
      joined-then space u (over-root v r x q)
      (joined-then space u (joined-turned space u m l.labels (from-reached (t x q)).1 one-sheet)
      (joined-then space u (from-reached (t y n)).1 (joined-turned space u m l.labels (over-root w k y n) n)))

  -- ---- from connected to transitive

  -- the label of an edge leads from what is reached to what is reached, and from nothing else
  abbrev S : ℕ → Type 0
  S x = Reached (columns_of space pairs) m cells x

  abbrev Keeps : List ℕ → Type 0
  Keeps f = (x : ℕ) → InRange m x → (S x → S (at f x)) × (S (at f x) → S x)

  column-keeps : (g : ℕ) → InRange (columns_of space pairs) g → Keeps (column (columns_of space pairs) m cells g)
  column-keeps g r x q = (
    λ h. along h r,
    λ h. subst S (back-of-at m (column (columns_of space pairs) m cells g) (column-permutes g r) x q) (against h r),
  )

  identity-keeps : Keeps (upto m)
  identity-keeps x q = (λ h. subst S (sym (at_identity m x q)) h, λ h. subst S (at_identity m x q) h)

  -- a step along an edge whose label keeps, and a walk
  step-keeps : (s : Step) → InRange (count space 1) s.edge → Keeps (label u s.edge) → (x : ℕ) → InRange m x → (S x → S (step u s x)) × (S (step u s x) → S x)
  step-keeps s r k x q = by s.forward
    where
      by : (b : Bool) → (S x → S (cond b (at (label u s.edge) x) (back (label u s.edge) x))) × (S (cond b (at (label u s.edge) x) (back (label u s.edge) x)) → S x)
      by true = k x q
      by false =
          let f = label-permutation space u m l.labels s.edge r in
          let j = k (back (label u s.edge) x) ((back_turn m (label u s.edge) f).into x q) in
          let e : at (label u s.edge) (back (label u s.edge) x) ≡ x = at-of-back m (label u s.edge) f x q in
          (λ h. j.1 (subst S (sym e) h), λ h. subst S e (j.0 h))

  walk-keeps : (ss : List Step) → AreWithin (count space 1) ss → ((t : Step) → In t ss → Keeps (label u t.edge)) → (x : ℕ) → InRange m x → (S x → S (walk u ss x)) × (S (walk u ss x) → S x)
  walk-keeps [] w k x q = (λ h. h, λ h. h)
  walk-keeps (s ∷ ss) w k x q =
      let a = step-keeps s (w s here) (k s here) x q in
      let b = walk-keeps ss (λ t i. w t (there i)) (λ t i. k t (there i)) (step u s x) (step-into m (count space 1) u l.labels.one_for_each l.labels.permutations s (w s here) x q) in
      (λ h. b.0 (a.0 h), λ h. a.1 (b.1 h))

  pass-keeps : (p : Pair) → In p pairs → p.dim ≡ 1 → ((g : ℕ) → In g (others space p) → Keeps (label u g)) → Keeps (label u p.lower)
  pass-keeps p i d h x q = subst (λ (e : ℕ). (S x → S (at (label u e) x)) × (S (at (label u e) x) → S x)) c.edge (by c.itself.forward refl)
    where
      c : IsCutAt p.lower (cycle space p.upper)
      c = cut law space pairs is regular valid p i d

      inside : AreWithin (count space 1) (c.first ++ c.itself ∷ c.last)
      inside = rw c.whole at (within law space pairs is regular valid p i d)

      in-edge : InRange (count space 1) c.itself.edge
      in-edge = inside c.itself (In-right c.first here)

      rest : AreWithin (count space 1) (c.last ++ c.first)
      rest t j = elim (append-In c.last c.first j) [ inl k ↦ inside t (In-right c.first (there k)) | inr k ↦ inside t (In-left (c.itself ∷ c.last) k) ]

      -- the step along the lower
      itself-keeps : (y : ℕ) → InRange m y → (S y → S (step u c.itself y)) × (S (step u c.itself y) → S y)
      itself-keeps y r =
          let e : walk u (c.last ++ c.first) (step u c.itself y) ≡ y = rotated m (count space 1) u l.labels.one_for_each l.labels.permutations c.first c.last c.itself inside (rw c.whole at (l.forced p i d)) y r in
          let w = walk-keeps (c.last ++ c.first) rest (λ t j. h t.edge (cut-others law space pairs is regular valid p i d t j)) (step u c.itself y)
          (step-into m (count space 1) u l.labels.one_for_each l.labels.permutations c.itself in-edge y r) in
          (λ k. w.1 (subst S (sym e) k), λ k. subst S e (w.0 k))

      by : (b : Bool) → c.itself.forward ≡ b → (S x → S (at (label u c.itself.edge) x)) × (S (at (label u c.itself.edge) x) → S x)
      by true e = subst (λ (b : Bool). (S x → S (cond b (at (label u c.itself.edge) x) (back (label u c.itself.edge) x))) × (S (cond b (at (label u c.itself.edge) x) (back (label u c.itself.edge) x)) → S x)) e (itself-keeps x q)
      by false e =
          let f = label-permutation space u m l.labels c.itself.edge in-edge in
          let y = at (label u c.itself.edge) x in
          let j : (S y → S (back (label u c.itself.edge) y)) × (S (back (label u c.itself.edge) y) → S y) =
          subst (λ (b : Bool). (S y → S (cond b (at (label u c.itself.edge) y) (back (label u c.itself.edge) y))) × (S (cond b (at (label u c.itself.edge) y) (back (label u c.itself.edge) y)) → S y)) e (itself-keeps y ((turn_of m (label u c.itself.edge) f).into x q)) in
          let z : back (label u c.itself.edge) y ≡ x = back-of-at m (label u c.itself.edge) f x q in
          (λ k. j.1 (subst S (sym z) k), λ k. subst S z (j.0 k))

  all-keep : (e : ℕ) → InRange (count space 1) e → Keeps (label u e)
  all-keep =
      over-edges space pairs is valid (λ e. Keeps (label u e))
      (λ e r i.
      let g : InRange (columns_of space pairs) (back (critical_edges space pairs) e) = back-range (critical_edges space pairs) e i in
      subst (λ (f : List ℕ). Keeps f) (sym (l.columns (back (critical_edges space pairs) e) g) ∙ ap (label u) (at-back (critical_edges space pairs) e i)) (column-keeps (back (critical_edges space pairs) e) g))
      (λ p i d r. subst (λ (f : List ℕ). Keeps f) (sym (l.tree p i d)) identity-keeps)
      pass-keeps

  joined-keeps : {v x w y : ℕ} → Joined space u v x w y → InRange m x → S x → S y
  joined-keeps joined_here q h = h
  joined-keeps {x = x} (on s r k) q h =
      joined-keeps k (step-into m (count space 1) u l.labels.one_for_each l.labels.permutations s r x q) ((step-keeps s r (all-keep s.edge r) x q).0 h)

  transitive-from : IsConnected space m u → IsTransitive (columns_of space pairs) m cells
  transitive-from c s r = joined-keeps (c root 1 root s root-range one-sheet root-range r) one-sheet first

pub lifts_are_connected : CyclesGoRound → LiftsAreConnected
lifts_are_connected law space pairs m cells u is regular valid lone some l =
    (transitive-from law space pairs m cells u is regular valid lone some l, connected-from law space pairs m cells u is regular valid lone some l)
