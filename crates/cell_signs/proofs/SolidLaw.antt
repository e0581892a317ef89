-- The signs of a 3-cell along a collapse of its boundary cancel at each edge.
use Rattle.std.proofs.Common.{◌≡◌, ℕ, zero, suc, ◌≤◌, List, [], ◌∷◌, ◌++◌, Bool, true, false, cond, not, ◌||◌, ◌&&◌, eqb, map, length, refl, ap, sym, ◌∙◌, arith}
use Rattle.std.specs.Prelude.{ℤ, pos, ◌*ℤ◌}
use Rattle.std.specs.List.{list_any}
use Rattle.std.specs.List.Sorted.{IsStrictlyIncreasing}
use Rattle.std.proofs.lemmas.Bool.{eqb-true, eq-eqb, false≢true, or_left, or_right, and_from}
use Rattle.std.proofs.lemmas.List.{get_or_past}
use Rattle.std.proofs.lemmas.List.Kept.{IsStrictlyIncreasing-filter}
use Rattle.face_poset.specs.declared.cells.Cell.{Cell}
use Rattle.face_poset.specs.declared.cells.Pair.{Pair}
use Rattle.number_lists.specs.Words.{holds, upto}
use Rattle.face_poset.specs.Poset.{IsCell, IsSpace, count, facets_of}
use Rattle.face_poset.specs.Below.{facets_of_all, cell_at, closed_cell}
use Rattle.face_poset.specs.Signs.{sign_of, sum_to}
use Rattle.number_lists.specs.Members.{In, here, there}
use Rattle.number_lists.proofs.CallerLemmas.{and-left, and-right, same_bool, In-holds, holds-In, increasing-upto}
use Rattle.regular_check.specs.Rules.{IsRegular, each_twice}
use Rattle.regular_check.specs.Cycle.{CyclesGoRound}
use Rattle.sphere_collapses.specs.Collapses.{is_free, without, collapses, boundary_less}
use Rattle.cell_signs.specs.Oriented.{sum_over, IsOriented}
use Rattle.cell_signs.specs.Along.{solid_negative, low_negative, HasLowSigns, HasHighSigns, PairsFit}
use Rattle.cell_signs.proofs.Kept.{facets-cell, cell-In, all_facets-In, In-all_facets, twice_kept}
use Rattle.cell_signs.proofs.Sums.{Once, once_rising, sum-same, sum-zero, sum-swap, sum-within}
use Rattle.cell_signs.proofs.Cycles.{way, sum_to-over, disks_cancel, low_signs_balance}
use Rattle.cell_signs.proofs.Rest.{is_cell, has, has-filter, free_parts, there_before}
use Rattle.cell_signs.proofs.Used.{put, put-zero, put-sum, used_up}
use Rattle.cell_signs.proofs.Signed.{term, paired_zero}

-- two signs, one after the other
product : (h k a b c : Bool) → put k c (cond h (sign_of a *ℤ sign_of b) (pos 0)) ≡ put true a (cond h (cond k (sign_of b *ℤ sign_of c) (pos 0)) (pos 0))
product false k a b c = put-zero k c ∙ sym (put-zero true a)
product true false a b c = sym (put-zero true a)
product true true true true true = refl
product true true true true false = refl
product true true true false true = refl
product true true true false false = refl
product true true false true true = refl
product true true false true false = refl
product true true false false true = refl
product true true false false false = refl

module _ (space : List (List (List ℕ))) (negative : ℕ → ℕ → ℕ → Bool) (cell : ℕ) (es : List ℕ) where
  abbrev cs : List ℕ
  cs = facets_of space 3 cell

  -- what stands on an edge
  abbrev on : ℕ → ℤ
  on e = sum_over (way space negative 3 cell e) (facets_of space 3 cell)

  abbrev HasEdges : Type 0
  HasEdges = (c e : ℕ) → In c (facets_of space 3 cell) → In e (facets_of space 2 c) → In e es

  -- what stands on the edges is a cycle
  cycle_on : Once es → HasEdges → ((c : ℕ) → In c (facets_of space 3 cell) → Once (facets_of space 2 c)) → ((c v : ℕ) → In c (facets_of space 3 cell) → sum_to space negative 2 c v (facets_of space 2 c) ≡ pos 0)
      → (v : ℕ) → sum_over (λ e. put (holds (facets_of space 1 e) v) (negative 1 e v) (on e)) es ≡ pos 0
  cycle_on o all once_each low v =
      sum-same (λ e. put (holds (facets_of space 1 e) v) (negative 1 e v) (on e)) (λ e. sum_over (λ c. put (holds (facets_of space 1 e) v) (negative 1 e v) (way space negative 3 cell e c)) cs) es
      (λ e i. sym (put-sum (holds (facets_of space 1 e) v) (negative 1 e v) (way space negative 3 cell e) cs))
      ∙ (sum-swap (λ e c. put (holds (facets_of space 1 e) v) (negative 1 e v) (way space negative 3 cell e c)) es cs
      ∙ sum-zero (λ c. sum_over (λ e. put (holds (facets_of space 1 e) v) (negative 1 e v) (way space negative 3 cell e c)) es) cs (λ c i. one c i))
    where
      part : ℕ → ℕ → ℤ
      part c e = cond (holds (facets_of space 2 c) e) (way space negative 2 c v e) (pos 0)

      one : (c : ℕ) → In c (facets_of space 3 cell) → sum_over (λ e. put (holds (facets_of space 1 e) v) (negative 1 e v) (way space negative 3 cell e c)) es ≡ pos 0
      one c i =
          sum-same (λ e. put (holds (facets_of space 1 e) v) (negative 1 e v) (way space negative 3 cell e c)) (λ e. put true (negative 3 cell c) (part c e)) es
          (λ e j. product (holds (facets_of space 2 c) e) (holds (facets_of space 1 e) v) (negative 3 cell c) (negative 2 c e) (negative 1 e v))
          ∙ (put-sum true (negative 3 cell c) (part c) es
          ∙ (ap (put true (negative 3 cell c))
          (sym (sum-within (part c) (facets_of space 2 c) es (once_each c i) o (λ e j. all c e i j) (λ e j h. ap (λ (b : Bool). cond b (way space negative 2 c v e) (pos 0)) h))
          ∙ (sum-same (part c) (way space negative 2 c v) (facets_of space 2 c) (λ e j. ap (λ (b : Bool). cond b (way space negative 2 c v e) (pos 0)) (In-holds j))
          ∙ (sym (sum_to-over space negative 2 c v (facets_of space 2 c)) ∙ low c v i)))
          ∙ put-zero true (negative 3 cell c)))

-- ---- the cells of the boundary

has-append : (d n : ℕ) (xs ys : List Cell) → has (xs ++ ys) d n ≡ (has xs d n || has ys d n)
has-append d n [] ys = refl
has-append d n (x ∷ xs) ys = ap (λ (b : Bool). is_cell d n x || b) (has-append d n xs ys) ∙ assoc (is_cell d n x) (has xs d n) (has ys d n)
  where
    assoc : (a b c : Bool) → (a || (b || c)) ≡ ((a || b) || c)
    assoc true b c = refl
    assoc false b c = refl

has-same : (d n : ℕ) (ns : List ℕ) → has (map (cell_at d) ns) d n ≡ holds ns n
has-same d n [] = refl
has-same d n (m ∷ ms) =
    ap (λ (b : Bool). (b && eqb n m) || has (map (cell_at d) ms) d n) (eq-eqb d d refl)
    ∙ (ap (λ (b : Bool). b || has (map (cell_at d) ms) d n) (same_bool (eqb n m) (eqb m n) (λ e. eq-eqb m n (sym (eqb-true n m e))) (λ e. eq-eqb n m (sym (eqb-true m n e)))) ∙ ap (λ (b : Bool). eqb m n || b) (has-same d n ms))

has-other : (k d n : ℕ) (ns : List ℕ) → eqb d k ≡ false → has (map (cell_at k) ns) d n ≡ false
has-other k d n [] h = refl
has-other k d n (m ∷ ms) h = ap (λ (b : Bool). (b && eqb n m) || has (map (cell_at k) ms) d n) h ∙ has-other k d n ms h

module _ (space : List (List (List ℕ))) (cell : ℕ) where
  abbrev disks : List ℕ
  disks = facets_of_all space 2 (cell ∷ [])

  abbrev pub edges : List ℕ
  edges = facets_of_all space 1 (facets_of_all space 2 (cell ∷ []))

  abbrev vertices : List ℕ
  vertices = facets_of_all space 0 (facets_of_all space 1 (facets_of_all space 2 (cell ∷ [])))

  abbrev two_layers : List Cell
  two_layers = map (cell_at 0) vertices ++ map (cell_at 1) edges

  abbrev three_layers : List Cell
  three_layers = (map (cell_at 0) vertices ++ map (cell_at 1) edges) ++ map (cell_at 2) disks

  disk_in : (c : ℕ) → has (closed_cell space 3 cell) 2 c ≡ true → holds (facets_of_all space 2 (cell ∷ [])) c ≡ true
  disk_in c h =
      sym (has-append 2 c three_layers (map (cell_at 3) (cell ∷ []))
      ∙ (ap (λ (b : Bool). b || has (map (cell_at 3) (cell ∷ [])) 2 c)
      (has-append 2 c two_layers (map (cell_at 2) disks)
      ∙ (ap (λ (b : Bool). b || has (map (cell_at 2) disks) 2 c) (has-append 2 c (map (cell_at 0) vertices) (map (cell_at 1) edges) ∙ (ap (λ (b : Bool). b || has (map (cell_at 1) edges) 2 c) (has-other 0 2 c vertices refl) ∙ has-other 1 2 c edges refl))
      ∙ has-same 2 c disks))
      ∙ (ap (λ (b : Bool). holds disks c || b) (has-other 3 2 c (cell ∷ []) refl) ∙ or_false (holds disks c))))
      ∙ h
    where
      or_false : (b : Bool) → (b || false) ≡ b
      or_false true = refl
      or_false false = refl

  edge_in : (e : ℕ) → holds (facets_of_all space 1 (facets_of_all space 2 (cell ∷ []))) e ≡ true → has (closed_cell space 3 cell) 1 e ≡ true
  edge_in e h =
      has-append 1 e three_layers (map (cell_at 3) (cell ∷ []))
      ∙ or_left (has three_layers 1 e) (has (map (cell_at 3) (cell ∷ [])) 1 e)
      (has-append 1 e two_layers (map (cell_at 2) disks)
      ∙ or_left (has two_layers 1 e) (has (map (cell_at 2) disks) 1 e)
      (has-append 1 e (map (cell_at 0) vertices) (map (cell_at 1) edges) ∙ or_right (has (map (cell_at 0) vertices) 1 e) (has (map (cell_at 1) edges) 1 e) (has-same 1 e edges ∙ h)))

module _ (space : List (List (List ℕ))) (negative : ℕ → ℕ → ℕ → Bool) (cell : ℕ) (valid : IsSpace space) (regular : IsRegular space) (low : 1 ≤ cell) (high : cell ≤ count space 3) where
  solid : IsCell (count space 2) (facets_of space 3 cell)
  solid = facets-cell space 2 cell valid low high

  -- a 2-cell of it
  range : (c : ℕ) → In c (facets_of space 3 cell) → (1 ≤ c) × (c ≤ count space 2)
  range c i = cell-In (count space 2) (facets_of space 3 cell) solid c (holds-In (facets_of space 3 cell) (In-holds i))

  disk_of : (c : ℕ) → holds (facets_of_all space 2 (cell ∷ [])) c ≡ true → In c (facets_of space 3 cell)
  disk_of c h = let r = all_facets-In space valid 2 (cell ∷ []) c (holds-In (facets_of_all space 2 (cell ∷ [])) h) in by r.0 r.1 r.2
    where
      by : (b : ℕ) → In b (cell ∷ []) → In c (facets_of space 3 b) → In c (facets_of space 3 cell)
      by b here i = holds-In (facets_of space 3 cell) (In-holds i)
      by b (there j) i = elim j [ ]

  all_edges : (c e : ℕ) → In c (facets_of space 3 cell) → In e (facets_of space 2 c) → In e (facets_of_all space 1 (facets_of_all space 2 (cell ∷ [])))
  all_edges c e i j =
      let w = range c i in
      let m : In c (facets_of_all space 2 (cell ∷ [])) = In-all_facets space valid 2 (cell ∷ []) cell c here low high i in
      In-all_facets space valid 1 (facets_of_all space 2 (cell ∷ [])) c e m w.0 w.1 j

  rising_edges : IsStrictlyIncreasing (facets_of_all space 1 (facets_of_all space 2 (cell ∷ [])))
  rising_edges = IsStrictlyIncreasing-filter (λ f. list_any (λ c. holds (facets_of space 2 c) f) (facets_of_all space 2 (cell ∷ []))) (upto (count space 1)) (increasing-upto (count space 1))

  pub solid_cancels : CyclesGoRound → HasLowSigns space negative → HasHighSigns space negative cell → (edge : ℕ) → sum_to space negative 3 cell edge (facets_of space 3 cell) ≡ pos 0
  solid_cancels rounds signs along edge = sum_to-over space negative 3 cell edge (facets_of space 3 cell) ∙ by (holds (edges space cell) edge) refl
    where
      twice : each_twice space 2 (facets_of space 3 cell) ≡ true
      twice = twice_kept space valid regular cell low high

      keep : Cell → Bool
      keep c = not (is_cell 3 cell c || is_cell 2 along.face c)

      inside : (c : ℕ) → has (boundary_less space cell along.face) 2 c ≡ true → In c (facets_of space 3 cell)
      inside c h = disk_of c (disk_in space cell c (and-left (has (closed_cell space 3 cell) 2 c) (keep (cell_at 2 c)) (sym (has-filter keep 2 c (closed_cell space 3 cell)) ∙ h)))

      has_edge : (e : ℕ) → In e (edges space cell) → has (boundary_less space cell along.face) 1 e ≡ true
      has_edge e i = has-filter keep 1 e (closed_cell space 3 cell) ∙ and_from (has (closed_cell space 3 cell) 1 e) (keep (cell_at 1 e)) (edge_in space cell e (In-holds i)) refl

      paired : (p : Pair) → In p along.pairs → p.dim ≡ 1 → sum_over (way space negative 3 cell p.lower) (facets_of space 3 cell) ≡ pos 0
      paired p i one =
          sum-same (way space negative 3 cell p.lower) (term space (facets_of space 3 cell) (solid_negative space cell along.pairs) p.lower) (facets_of space 3 cell) (λ c j. at_disk p c j (holds (facets_of space 2 c) p.lower) refl)
          ∙ paired_zero space (facets_of space 3 cell) solid.rises twice along.pairs (boundary_less space cell along.face) (λ _. false) along.collapse inside p i one
        where
          at_disk : (p : Pair) (c : ℕ) → In c (facets_of space 3 cell) → (b : Bool) → holds (facets_of space 2 c) p.lower ≡ b → way space negative 3 cell p.lower c ≡ term space (facets_of space 3 cell) (solid_negative space cell along.pairs) p.lower c
          at_disk p c j true h =
              let w = range c j in
              ap (λ (b : Bool). cond (holds (facets_of space 2 c) p.lower) (sign_of b *ℤ sign_of (negative 2 c p.lower)) (pos 0)) (along.signs c (In-holds j))
              ∙ ap (λ (b : Bool). cond (holds (facets_of space 2 c) p.lower) (sign_of (solid_negative space cell along.pairs c) *ℤ sign_of b) (pos 0)) (signs.disks c p.lower w.0 w.1 h)
          at_disk p c j false h =
              ap (λ (b : Bool). cond b (sign_of (negative 3 cell c) *ℤ sign_of (negative 2 c p.lower)) (pos 0)) h
              ∙ sym (ap (λ (b : Bool). cond b (sign_of (solid_negative space cell along.pairs c) *ℤ sign_of (low_negative space 2 c p.lower)) (pos 0)) h)

      each_cell : (c : ℕ) → In c (facets_of space 3 cell) → IsCell (count space 1) (facets_of space 2 c)
      each_cell c i = let w = range c i in facets-cell space 1 c valid w.0 w.1

      by : (b : Bool) → holds (edges space cell) edge ≡ b → sum_over (way space negative 3 cell edge) (facets_of space 3 cell) ≡ pos 0
      by true h =
          used_up space (λ e v. negative 1 e v) (edges space cell) (λ e. sum_over (way space negative 3 cell e) (facets_of space 3 cell)) (once_rising (edges space cell) rising_edges)
          (cycle_on space negative cell (edges space cell) (once_rising (edges space cell) rising_edges) all_edges (λ c i. once_rising (facets_of space 2 c) (each_cell c i).rises)
          (λ c v i. let w = range c i in disks_cancel space negative c v rounds valid regular signs w.0 w.1))
          along.pairs (boundary_less space cell along.face) along.collapse paired (λ e i g. absurd (false≢true (sym g ∙ has_edge e i))) edge (holds-In (edges space cell) h)
      by false h = sum-zero (way space negative 3 cell edge) (facets_of space 3 cell) (λ c i. none c i (holds (facets_of space 2 c) edge) refl)
        where
          none : (c : ℕ) → In c (facets_of space 3 cell) → (b : Bool) → holds (facets_of space 2 c) edge ≡ b → way space negative 3 cell edge c ≡ pos 0
          none c i true g = absurd (false≢true (sym h ∙ In-holds (all_edges c edge i (holds-In (facets_of space 2 c) g))))
          none c i false g = ap (λ (b : Bool). cond b (sign_of (negative 3 cell c) *ℤ sign_of (negative 2 c edge)) (pos 0)) g

-- there are no cells above dimension 3
none_above : (space : List (List (List ℕ))) (dim : ℕ) → IsSpace space → 4 ≤ dim → count space dim ≡ 0
none_above space dim h l = ap (λ (cells : List (List ℕ)). length cells) (get_or_past space dim [] (omega (arith, h.layers, l)))

pub signs_orient : (space : List (List (List ℕ))) (negative : ℕ → ℕ → ℕ → Bool) → CyclesGoRound → IsSpace space → IsRegular space → HasLowSigns space negative
    → ((cell : ℕ) → 1 ≤ cell → cell ≤ count space 3 → HasHighSigns space negative cell) → IsOriented space negative
signs_orient space negative rounds valid regular signs along = record {
  cancel = λ dim cell target two low high. by_dim dim cell target two low high;
  balance = low_signs_balance space negative valid regular signs;
}
  where
    by_dim : (dim cell target : ℕ) → 2 ≤ dim → 1 ≤ cell → cell ≤ count space dim → sum_to space negative dim cell target (facets_of space dim cell) ≡ pos 0
    by_dim zero cell target two low high = absurd (omega (arith, two))
    by_dim (suc zero) cell target two low high = absurd (omega (arith, two))
    by_dim (suc (suc zero)) cell target two low high = disks_cancel space negative cell target rounds valid regular signs low high
    by_dim (suc (suc (suc zero))) cell target two low high = solid_cancels space negative cell valid regular low high rounds signs (along cell low high) target
    by_dim (suc (suc (suc (suc n)))) cell target two low high = absurd (omega (arith, low, high, none_above space (suc (suc (suc (suc n)))) valid (omega arith)))

-- the pairs of a collapse
fits : (space : List (List (List ℕ))) (cell : ℕ) (pairs : List Pair) (rest : List Cell) → collapses space rest pairs ≡ true → ((c : ℕ) → has rest 2 c ≡ true → holds (facets_of space 3 cell) c ≡ true) → PairsFit space cell pairs
fits space cell [] rest c inside k d l = absurd (omega (arith, l))
fits space cell (p ∷ ps) rest c inside zero d l = λ one.
    let f = free_parts space rest p (and-left (is_free space rest p) (collapses space (without rest p) ps) c) in
    let two : suc p.dim ≡ 2 = omega (arith, one) in
    (inside p.upper (sym (ap (λ (k : ℕ). has rest k p.upper) two) ∙ f.upper), sym (ap (λ (k : ℕ). holds (facets_of space k p.upper) p.lower) two) ∙ f.facet)
fits space cell (p ∷ ps) rest c inside (suc k) d l =
    fits space cell ps (without rest p) (and-right (is_free space rest p) (collapses space (without rest p) ps) c) (λ x h. inside x (there_before rest p 2 x h)) k d (omega (arith, l))

pub collapses_fit : (space : List (List (List ℕ))) (cell face : ℕ) (pairs : List Pair) → IsSpace space → collapses space (boundary_less space cell face) pairs ≡ true → PairsFit space cell pairs
collapses_fit space cell face pairs valid c =
    fits space cell pairs (boundary_less space cell face) c
    (λ x h. (let keep : Cell → Bool = λ b. not (is_cell 3 cell b || is_cell 2 face b) in
    In-holds (disk_of_cell x (disk_in space cell x (and-left (has (closed_cell space 3 cell) 2 x) (keep (cell_at 2 x)) (sym (has-filter keep 2 x (closed_cell space 3 cell)) ∙ h))))))
  where
    disk_of_cell : (x : ℕ) → holds (facets_of_all space 2 (cell ∷ [])) x ≡ true → In x (facets_of space 3 cell)
    disk_of_cell x h = let r = all_facets-In space valid 2 (cell ∷ []) x (holds-In (facets_of_all space 2 (cell ∷ [])) h) in by r.0 r.1 r.2
      where
        by : (b : ℕ) → In b (cell ∷ []) → In x (facets_of space 3 b) → In x (facets_of space 3 cell)
        by b here i = holds-In (facets_of space 3 cell) (In-holds i)
        by b (there j) i = elim j [ ]
