-- The total space of a connected labelling has one component; and each of its cells lies over one cell.
use Rattle.std.proofs.Common.{◌≡◌, ℕ, ◌≤◌, List, Bool, true, false, ◌&&◌, refl, ap, sym, ◌∙◌, subst, arith}
use Rattle.std.proofs.lemmas.Bool.{and_from}
use Rattle.number_lists.specs.Members.{In}
use Rattle.number_lists.specs.Words.{holds}
use Rattle.number_lists.specs.Reach.{Reaches, at_start, on as reach_on}
use Rattle.number_lists.proofs.CallerLemmas.{any-In, In-holds, In-upto, In-map, In-Contains}
use Rattle.face_poset.specs.Poset.{IsSpace, count, facets_of}
use Rattle.face_poset.specs.Below.{IsBelow, itself, facet}
use Rattle.regular_check.specs.declared.cycles.Step.{Step}
use Rattle.regular_check.specs.Rules.{IsRegular}
use Rattle.regular_check.specs.Cycle.{start_of, end_of}
use Rattle.regular_check.specs.Components.{vertices, share_edge, component_count, SameComponentIsAPath, ComponentsAreNumbered}
use Rattle.sphere_collapses.specs.Spheres.{first_end, last_end}
use Rattle.sheet_laws.specs.Permutations as perms
use Rattle.sheet_laws.specs.Permutations.{InRange, at}
use Rattle.sheet_laws.specs.Labellings.{label, step, Joined, here as at_end, on, IsConnected}
use Rattle.sheet_laws.proofs.CallerLemmas.{Ends, ends-of, number-range, same_vertex, same_sheet, back_turn, at-of-back, step-into, label-permutes}
use Rattle.cover_space.specs.Total.{least_vertex, sheeted, facet_over, total_of}
use Rattle.cover_space.specs.Laws.{IsChoice, AreOver}
use Rattle.cover_space.proofs.Inside.{closed-In}
use Rattle.cover_space.proofs.Labelled.{IsLabelled}
use Rattle.cover_space.proofs.Joining.{choice-over}
use Rattle.cover_space.proofs.Solids.{Given, has_root}
use Rattle.cover_space.proofs.Sheets.{sheet-of}
use Rattle.cover_space.proofs.Laid.{count-total, facets-total, split}

-- ---- cells over cells

pub are_over : (X : List (List (List ℕ))) (m : ℕ) (u : List (List ℕ)) → IsSpace X → 1 ≤ m → AreOver X m u
are_over X m u hs some =
    record {
      counts = count-total X m u hs;
      there = λ d c s r q. (let w = number-range m (count X d) c s r q in (w.0, omega (arith, w.1, count-total X m u hs d)));
      each = λ d n r.
          let w = split X m u hs some d n r in
          record {
            cell = w.vertex;
            at_sheet = w.sheet;
            cell_range = w.vertex_range;
            sheet_range = w.sheet_range;
            number = w.is;
            only = λ c s k q e. (same_vertex m c w.vertex s w.sheet k.0 w.vertex_range.0 q w.sheet_range (e ∙ sym w.is), same_sheet m c w.vertex s w.sheet q w.sheet_range (e ∙ sym w.is));
            facets = ap (λ (p : ℕ). facets_of (total_of X m u) d p) (sym w.is) ∙ facets-total X m u hs d w.vertex w.sheet w.vertex_range w.sheet_range;
          };
    }

-- ---- edges over edges

module _ (G : Given) (X : List (List (List ℕ))) (hs : IsSpace X) (regular : IsRegular X) (m : ℕ) (u : List (List ℕ)) (h : IsLabelled X m u) where
  -- the edge from the sheet x over the first end
  record HasEdge (e x : ℕ) : Type 0 where
    pub number : ℕ
    pub range : InRange (count (total_of X m u) 1) number
    pub first : In (sheeted m (first_end X e) x) (facets_of (total_of X m u) 1 number)
    pub last : In (sheeted m (last_end X e) (at (label u e) x)) (facets_of (total_of X m u) 1 number)

  has_edge : (e x : ℕ) → InRange (count X 1) e → InRange m x → HasEdge e x
  has_edge e x r q =
      let es = ends-of X e hs regular r in
      let a : IsBelow X 1 e 0 (first_end X e) = facet 0 e (first_end X e) itself (In-Contains es.there_first) in
      let b : IsBelow X 1 e 0 (last_end X e) = facet 0 e (last_end X e) itself (In-Contains es.there_second) in
      let f = choice-over X hs regular m u h 1 e r (has_root G X hs regular m u h 1 e r) (first_end X e) a x q in
      let t : ℕ = f.0 (least_vertex X 1 e) in
      let tr : InRange m t = f.1.sheets (least_vertex X 1 e) in
      let is : IsChoice X m u 1 e t f.0 = record { least = refl; sheets = f.1.sheets; edges = λ k j. f.1.edges k (closed-In X hs 1 e r j) } in
      let w = number-range m (count X 1) e t r tr in
      let over : (v : ℕ) → IsBelow X 1 e 0 v → facet_over X m u 1 e t v ≡ sheeted m v (f.0 v) = λ v i. ap (sheeted m v) (sheet-of G X hs regular m u h 1 e t r tr f.0 is v i) in
      let into : (v : ℕ) → In v (facets_of X 1 e) → In (facet_over X m u 1 e t v) (facets_of (total_of X m u) 1 (sheeted m e t)) =
      λ v i. subst (In (facet_over X m u 1 e t v)) (sym (facets-total X m u hs 1 e t r tr)) (In-map (facet_over X m u 1 e t) i) in
      record {
        number = sheeted m e t;
        range = (w.0, omega (arith, w.1, count-total X m u hs 1));
        first = subst (λ (p : ℕ). In p (facets_of (total_of X m u) 1 (sheeted m e t))) (over (first_end X e) a ∙ ap (sheeted m (first_end X e)) f.1.here_is) (into (first_end X e) es.there_first);
        last = subst (λ (p : ℕ). In p (facets_of (total_of X m u) 1 (sheeted m e t))) (over (last_end X e) b ∙ ap (sheeted m (last_end X e)) (sym (f.1.edges e itself) ∙ ap (at (label u e)) f.1.here_is)) (into (last_end X e) es.there_second);
      }

  shared : (a b n : ℕ) → InRange (count (total_of X m u) 1) n → In a (facets_of (total_of X m u) 1 n) → In b (facets_of (total_of X m u) 1 n) → share_edge (total_of X m u) a b ≡ true
  shared a b n r i j =
      any-In (λ e. holds (facets_of (total_of X m u) 1 e) a && holds (facets_of (total_of X m u) 1 e) b) (In-upto (count (total_of X m u) 1) n r.0 r.1)
      (and_from (holds (facets_of (total_of X m u) 1 n) a) (holds (facets_of (total_of X m u) 1 n) b) (In-holds i) (In-holds j))

  -- a step over a step
  step-shared : (s : Step) (x : ℕ) → InRange (count X 1) s.edge → InRange m x → share_edge (total_of X m u) (sheeted m (start_of X s) x) (sheeted m (end_of X s) (step u s x)) ≡ true
  step-shared s x r q = by s.forward refl
    where
      p : perms.is_permutation m (label u s.edge) ≡ true
      p = label-permutes m (count X 1) u h.long h.permutations s.edge r

      by : (b : Bool) → s.forward ≡ b → share_edge (total_of X m u) (sheeted m (start_of X s) x) (sheeted m (end_of X s) (step u s x)) ≡ true
      by true e = rw e (let k = has_edge s.edge x r q in shared (sheeted m (first_end X s.edge) x) (sheeted m (last_end X s.edge) (at (label u s.edge) x)) k.number k.range k.first k.last)
      by false e = rw e
          (let z : ℕ = perms.back (label u s.edge) x in
          let k = has_edge s.edge z r ((back_turn m (label u s.edge) p).into x q) in
          subst (λ (y : ℕ). share_edge (total_of X m u) (sheeted m (last_end X s.edge) y) (sheeted m (first_end X s.edge) z) ≡ true) (at-of-back m (label u s.edge) p x q)
          (shared (sheeted m (last_end X s.edge) (at (label u s.edge) z)) (sheeted m (first_end X s.edge) z) k.number k.range k.last k.first))

  vertex-there : (v x : ℕ) → InRange (count X 0) v → InRange m x → holds (vertices (total_of X m u)) (sheeted m v x) ≡ true
  vertex-there v x r q = let w = number-range m (count X 0) v x r q in In-holds (In-upto (count (total_of X m u) 0) (sheeted m v x) w.0 (omega (arith, w.1, count-total X m u hs 0)))

  -- a path over a path
  path-over : (p : ℕ) {v x w y : ℕ} → Joined X u v x w y → InRange m x → Reaches (share_edge (total_of X m u)) (vertices (total_of X m u)) p (sheeted m v x) → Reaches (share_edge (total_of X m u)) (vertices (total_of X m u)) p (sheeted m w y)
  path-over p at_end q k = k
  path-over p {x = x} (on s r j) q k =
      let n : InRange m (step u s x) = step-into m (count X 1) u h.long h.permutations s r x q in
      path-over p j n (reach_on k (step-shared s x r q) (vertex-there (end_of X s) (step u s x) (end-range s r) n))
    where
      end-range : (s : Step) → InRange (count X 1) s.edge → InRange (count X 0) (end_of X s)
      end-range s r = by s.forward refl (ends-of X s.edge hs regular r)
        where
          by : (b : Bool) → s.forward ≡ b → Ends X s.edge → InRange (count X 0) (end_of X s)
          by true e es = rw e es.second
          by false e es = rw e es.first

  pub one_component : SameComponentIsAPath → ComponentsAreNumbered → component_count X ≡ 1 → IsConnected X m u → component_count (total_of X m u) ≡ 1
  one_component paths numbered one joined =
      let v = (numbered X).taken 1 (omega arith) (omega (arith, one)) in
      let s1 : InRange m 1 = (omega arith, h.some) in
      let p = number-range m (count X 0) v.0 1 (v.1, v.2) s1 in
      let few : sheeted m v.0 1 ≤ count (total_of X m u) 0 = omega (arith, p.1, count-total X m u hs 0) in
      let w = (numbered (total_of X m u)).within (sheeted m v.0 1) p.0 few in
      let n : ℕ = component_count (total_of X m u) in
      let some : 1 ≤ n = omega (arith, w.0, w.1) in
      let a = (numbered (total_of X m u)).taken 1 (omega arith) some in
      let b = (numbered (total_of X m u)).taken n some (omega arith) in
      let x = split X m u hs h.some 0 a.0 (a.1, a.2) in
      let y = split X m u hs h.some 0 b.0 (b.1, b.2) in
      let j : Reaches (share_edge (total_of X m u)) (vertices (total_of X m u)) (sheeted m x.vertex x.sheet) (sheeted m y.vertex y.sheet) =
      path-over (sheeted m x.vertex x.sheet) (joined x.vertex x.sheet y.vertex y.sheet x.vertex_range x.sheet_range y.vertex_range y.sheet_range) x.sheet_range at_start in
      let k : Reaches (share_edge (total_of X m u)) (vertices (total_of X m u)) a.0 b.0 =
      subst (λ (z : ℕ). Reaches (share_edge (total_of X m u)) (vertices (total_of X m u)) z b.0) x.is (subst (λ (z : ℕ). Reaches (share_edge (total_of X m u)) (vertices (total_of X m u)) (sheeted m x.vertex x.sheet) z) y.is j) in
      sym b.3 ∙ (sym ((paths (total_of X m u) a.0 b.0 a.1 a.2 b.1 b.2).1 k) ∙ a.3)
