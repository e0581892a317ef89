-- Paths of edges inside a closed cell, and the choices of sheets that they lead to.
use Rattle.std.proofs.Common.{◌≡◌, ℕ, List, Bool, true, false, refl, ap, sym, ◌∙◌, subst}
use Rattle.number_lists.specs.Words.{holds}
use Rattle.number_lists.proofs.CallerLemmas.{holds-In, In-Contains}
use Rattle.face_poset.specs.Poset.{IsSpace, count}
use Rattle.face_poset.specs.Below.{IsBelow, facet}
use Rattle.regular_check.specs.declared.cycles.Step.{Step}
use Rattle.regular_check.specs.Rules.{IsRegular}
use Rattle.regular_check.specs.Cycle.{start_of, end_of}
use Rattle.pair_laws.specs.Joins.{Joins, stay, forth, back}
use Rattle.pair_laws.proofs.CallerLemmas.{joins-trans, joins-sym}
use Rattle.sphere_collapses.specs.Spheres.{first_end, last_end}
use Rattle.sheet_laws.specs.Permutations as perms
use Rattle.sheet_laws.specs.Permutations.{InRange, at}
use Rattle.sheet_laws.specs.Labellings.{label, step}
use Rattle.sheet_laws.proofs.CallerLemmas.{Ends, ends-of, turn_of, back_turn, back-of-at, at-of-back, label-permutes}
use Rattle.cover_space.specs.Total.{least_vertex, below, Along, here as at_least, on}
use Rattle.cover_space.specs.Laws.{IsChoice}
use Rattle.cover_space.proofs.Inside.{In-closed, closed-In, below-In, below-range, least-below}
use Rattle.cover_space.proofs.Labelled.{IsLabelled}

-- sheets over all vertices, x over v, along which each of the edges leads
pub record IsFlatAt (X : List (List (List ℕ))) (m : ℕ) (u : List (List ℕ)) (edge : ℕ → Type 0) (v x : ℕ) (over : ℕ → ℕ) : Type 0 where
  pub here_is : over v ≡ x
  pub sheets : (w : ℕ) → InRange m (over w)
  pub edges : (e : ℕ) → edge e → at (label u e) (over (first_end X e)) ≡ over (last_end X e)

abbrev pub HasFlat : (X : List (List (List ℕ))) (m : ℕ) (u : List (List ℕ)) (edge : ℕ → Type 0) (v x : ℕ) → Type 0
HasFlat X m u edge v x = (over : ℕ → ℕ) × IsFlatAt X m u edge v x over

-- all vertices of a closed cell are joined to one of them, and over it each sheet has its choice
pub record HasRoot (X : List (List (List ℕ))) (m : ℕ) (u : List (List ℕ)) (d c : ℕ) : Type 0 where
  pub root : ℕ
  pub joined : (w : ℕ) → IsBelow X d c 0 w → Joins (first_end X) (last_end X) (holds (below X d c 1)) root w
  pub choices : (x : ℕ) → InRange m x → HasFlat X m u (IsBelow X d c 1) root x

module _ (X : List (List (List ℕ))) (hs : IsSpace X) (regular : IsRegular X) (m : ℕ) (u : List (List ℕ)) (h : IsLabelled X m u) where
  permutes : (e : ℕ) → InRange (count X 1) e → perms.is_permutation m (label u e) ≡ true
  permutes e r = label-permutes m (count X 1) u h.long h.permutations e r

  module _ (d c : ℕ) (r : InRange (count X d) c) where
    pub edge-range : (e : ℕ) → IsBelow X d c 1 e → InRange (count X 1) e
    edge-range e i = below-range X hs d c r i

    edge-there : (e : ℕ) → holds (below X d c 1) e ≡ true → IsBelow X d c 1 e
    edge-there e k = below-In X hs d c r (holds-In (below X d c 1) k)

    -- what has its choices over one end has them over the other
    moved : {v w : ℕ} → Joins (first_end X) (last_end X) (holds (below X d c 1)) v w → ((x : ℕ) → InRange m x → HasFlat X m u (IsBelow X d c 1) v x) → (x : ℕ) → InRange m x → HasFlat X m u (IsBelow X d c 1) w x
    moved stay k x q = k x q
    moved (forth e ok j) k x q = moved j (λ y p. over y p) x q
      where
        i : IsBelow X d c 1 e
        i = edge-there e ok

        over : (y : ℕ) → InRange m y → HasFlat X m u (IsBelow X d c 1) (last_end X e) y
        over y p =
            let f = label u e in
            let z = perms.back f y in
            let s = k z ((back_turn m f (permutes e (edge-range e i))).into y p) in
            (s.0, record { here_is = sym (s.1.edges e i) ∙ (ap (at f) s.1.here_is ∙ at-of-back m f (permutes e (edge-range e i)) y p); sheets = s.1.sheets; edges = s.1.edges })
    moved (back e ok j) k x q = moved j (λ y p. over y p) x q
      where
        i : IsBelow X d c 1 e
        i = edge-there e ok

        over : (y : ℕ) → InRange m y → HasFlat X m u (IsBelow X d c 1) (first_end X e) y
        over y p =
            let f = label u e in
            let s = k (at f y) ((turn_of m f (permutes e (edge-range e i))).into y p) in
            let a : perms.back f (at f (s.0 (first_end X e))) ≡ s.0 (first_end X e) = back-of-at m f (permutes e (edge-range e i)) (s.0 (first_end X e)) (s.1.sheets (first_end X e)) in
            let b : perms.back f (at f y) ≡ y = back-of-at m f (permutes e (edge-range e i)) y p in
            (s.0, record { here_is = sym a ∙ (ap (perms.back f) (s.1.edges e i ∙ s.1.here_is) ∙ b); sheets = s.1.sheets; edges = s.1.edges })

    -- so each vertex of the closed cell has them
    pub choice-over : HasRoot X m u d c → (v : ℕ) → IsBelow X d c 0 v → (x : ℕ) → InRange m x → HasFlat X m u (IsBelow X d c 1) v x
    choice-over root v i x q = moved (root.joined v i) root.choices x q

    -- the choice from the least vertex on
    pub choice : HasRoot X m u d c → (s : ℕ) → InRange m s → (over : ℕ → ℕ) × IsChoice X m u d c s over
    choice root s q =
        let t = moved (root.joined (least_vertex X d c) (least-below X hs d c r)) root.choices s q in
        (t.0, record { least = t.1.here_is; sheets = t.1.sheets; edges = λ e k. t.1.edges e (closed-In X hs d c r k) })

    -- a path of edges inside leads to each vertex
    module _ (s : ℕ) where
      path : {v w y : ℕ} → Along X u d c s v y → Joins (first_end X) (last_end X) (holds (below X d c 1)) v w → (z : ℕ) × Along X u d c s w z
      path {y} a stay = (y, a)
      path {y} a (forth e ok j) =
          let t : Step = record { edge = e; forward = true } in
          path (on {y = y} t (In-closed X hs d c r (edge-there e ok)) a) j
      path {y} a (back e ok j) =
          let t : Step = record { edge = e; forward = false } in
          path (on {y = y} t (In-closed X hs d c r (edge-there e ok)) a) j

      pub leads-to : HasRoot X m u d c → (w : ℕ) → IsBelow X d c 0 w → (z : ℕ) × Along X u d c s w z
      leads-to root w i =
          path at_least (joins-trans (first_end X) (last_end X) (joins-sym (first_end X) (last_end X) (root.joined (least_vertex X d c) (least-below X hs d c r))) (root.joined w i))

      -- and ends where any choice says
      pub ends-there : (over : ℕ → ℕ) → IsChoice X m u d c s over → {w y : ℕ} → Along X u d c s w y → y ≡ over w
      ends-there over is at_least = sym is.least
      ends-there over is (on {y} t i a) = ap (step u t) (ends-there over is a) ∙ led t.forward refl
        where
          ran : InRange (count X 1) t.edge
          ran = edge-range t.edge (closed-In X hs d c r i)

          led : (b : Bool) → t.forward ≡ b → step u t (over (start_of X t)) ≡ over (end_of X t)
          led true e = rw e (is.edges t.edge i)
          led false e = rw e (ap (perms.back (label u t.edge)) (sym (is.edges t.edge i)) ∙ back-of-at m (label u t.edge) (permutes t.edge ran) (over (first_end X t.edge)) (is.sheets (first_end X t.edge)))

      -- sheets that are reached are sheets
      pub along-range : HasRoot X m u d c → InRange m s → {w y : ℕ} → Along X u d c s w y → InRange m y
      along-range root q {w} {y} a = let t = choice root s q in subst (InRange m) (sym (ends-there t.0 t.1 a)) (t.1.sheets w)

      pub along-below : {w y : ℕ} → Along X u d c s w y → IsBelow X d c 0 w
      along-below at_least = least-below X hs d c r
      along-below (on t i a) = by t.forward refl
        where
          j : IsBelow X d c 1 t.edge
          j = closed-In X hs d c r i

          es : Ends X t.edge
          es = ends-of X t.edge hs regular (edge-range t.edge j)

          by : (b : Bool) → t.forward ≡ b → IsBelow X d c 0 (end_of X t)
          by true e = rw e (facet 0 t.edge (last_end X t.edge) j (In-Contains es.there_second))
          by false e = rw e (facet 0 t.edge (first_end X t.edge) j (In-Contains es.there_first))
