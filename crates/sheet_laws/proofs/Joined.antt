-- What steps join, and the test for connected labels.
use Rattle.std.proofs.Common.{◌≡◌, ◌⊎◌, inl, inr, ℕ, suc, ◌+◌, ◌-◌, ◌*◌, ◌/◌, ◌%◌, ◌<◌, ◌≤◌, List, get_or, refl, ap, arith, sym, ◌∙◌, subst, Bool, true, false, cond, ◌&&◌, ◌||◌}
use Rattle.std.specs.Prelude.{◌==◌}
use Rattle.std.specs.List.{list_any}
use Rattle.std.proofs.lemmas.Bool.{eqb-true, eq-eqb, and_parts, and_from, or_cases, or_left, or_right, cases_lt}
use Rattle.std.proofs.lemmas.Nat.{div-mul-add, mod_below}
use Rattle.std.proofs.Math.Nat.{mod-add-div, mul_comm, mul-le-mul_left, mul-suc, mul-div-le, zero-mul}
use Rattle.number_lists.specs.Words.{upto, holds}
use Rattle.number_lists.specs.Reach.{reaches, Reaches, at_start, on}
use Rattle.number_lists.proofs.CallerLemmas.{In-all, all-In, any-In, any-some, In-upto, upto-In, In-holds, reaches_is}
use Rattle.face_poset.specs.Poset.{count, facets_of, IsSpace}
use Rattle.regular_check.specs.declared.cycles.Step.{Step}
use Rattle.regular_check.specs.Rules.{IsRegular}
use Rattle.regular_check.specs.Cycle.{start_of, end_of}
use Rattle.sheet_laws.specs.Permutations.{InRange, is_permutation, at, back}
use Rattle.sheet_laws.specs.Labellings.{label, step, AreLabels, Joined, here, on as further, IsConnected, number_of, sheet_step, is_connected, ConnectedIsExact}
use Rattle.sheet_laws.proofs.Permutations.{turn_of, back_turn, back-of-at, at-of-back}
use Rattle.sheet_laws.proofs.Walks.{label-permutes, step-into}
use Rattle.sheet_laws.proofs.Cells.{Ends, ends-of}

-- the step along an edge, forward or backward
abbrev pub along_edge : ℕ → Bool → Step
along_edge e b = record { edge = e; forward = b }

module _ (space : List (List (List ℕ))) (u : List (List ℕ)) where
  pub joined-then : {v x w y z t : ℕ} → Joined space u v x w y → Joined space u w y z t → Joined space u v x z t
  joined-then here k = k
  joined-then (further s r h) k = further s r (joined-then h k)

  -- along an edge
  pub joined-forth : (e x : ℕ) → InRange (count space 1) e → Joined space u (get_or (facets_of space 1 e) 0 0) x (get_or (facets_of space 1 e) 1 0) (at (label u e) x)
  joined-forth e x r = further (along_edge e true) r here

  module _ (m : ℕ) (h : AreLabels space m u) where
    pub label-permutation : (e : ℕ) → InRange (count space 1) e → is_permutation m (label u e) ≡ true
    label-permutation e r = label-permutes m (count space 1) u h.one_for_each h.permutations e r

    pub joined-back : (e x : ℕ) → InRange (count space 1) e → InRange m x → Joined space u (get_or (facets_of space 1 e) 1 0) (at (label u e) x) (get_or (facets_of space 1 e) 0 0) x
    joined-back e x r q =
        subst (λ (y : ℕ). Joined space u (get_or (facets_of space 1 e) 1 0) (at (label u e) x) (get_or (facets_of space 1 e) 0 0) y)
        (back-of-at m (label u e) (label-permutation e r) x q) (further (along_edge e false) r here)

    -- a step turned round
    step-turned : (s : Step) (x : ℕ) → InRange (count space 1) s.edge → InRange m x → Joined space u (end_of space s) (step u s x) (start_of space s) x
    step-turned s x r q = by s.forward
      where
        by : (b : Bool) → Joined space u (get_or (facets_of space 1 s.edge) (cond b 1 0) 0) (cond b (at (label u s.edge) x) (back (label u s.edge) x)) (get_or (facets_of space 1 s.edge) (cond b 0 1) 0) x
        by true = joined-back s.edge x r q
        by false =
            subst (λ (y : ℕ). Joined space u (get_or (facets_of space 1 s.edge) 0 0) (back (label u s.edge) x) (get_or (facets_of space 1 s.edge) 1 0) y)
            (at-of-back m (label u s.edge) (label-permutation s.edge r) x q) (joined-forth s.edge (back (label u s.edge) x) r)

    pub joined-turned : {v x w y : ℕ} → Joined space u v x w y → InRange m x → Joined space u w y v x
    joined-turned here q = here
    joined-turned {x = x} (further s r k) q = joined-then (joined-turned k (step-into m (count space 1) u h.one_for_each h.permutations s r x q)) (step-turned s x r q)

-- ---- numbers of sheets over vertices

number-positive : (m k x : ℕ) → 1 ≤ x → 1 ≤ m * k + x
number-positive m k x l = omega (arith, l)

number-below : (m k n x : ℕ) → k < n → x ≤ m → m * k + x ≤ m * n
number-below m k n x l q = omega (arith, mul-le-mul_left m l, mul-suc m k, q)

pub number-range : (m n v x : ℕ) → InRange n v → InRange m x → InRange (m * n) (number_of m v x)
number-range m n v x r q = (number-positive m (v - 1) x q.0, number-below m (v - 1) n x (omega (arith, r.0, r.1)) q.1)

quotient : (m k x : ℕ) → InRange m x → (m * k + (x - 1)) / m ≡ k
quotient m k x q = ap (λ (n : ℕ). (n + (x - 1)) / m) (mul_comm m k) ∙ div-mul-add k m (x - 1) (omega (arith, q.0, q.1))

same_place : (m k j x y : ℕ) → InRange m x → InRange m y → m * k + x ≡ m * j + y → k ≡ j
same_place m k j x y q r e =
    sym (quotient m k x q) ∙ (ap (λ (n : ℕ). n / m) (less (m * k) (m * j) q.0 r.0 e) ∙ quotient m j y r)
  where
    less : (a b : ℕ) → 1 ≤ x → 1 ≤ y → a + x ≡ b + y → a + (x - 1) ≡ b + (y - 1)
    less a b l k e = omega (arith, l, k, e)

pub same_vertex : (m v w x y : ℕ) → 1 ≤ v → 1 ≤ w → InRange m x → InRange m y → number_of m v x ≡ number_of m w y → v ≡ w
same_vertex m v w x y l k q r e = let d : v - 1 ≡ w - 1 = same_place m (v - 1) (w - 1) x y q r e in omega (arith, d, l, k)

pub same_sheet : (m v w x y : ℕ) → InRange m x → InRange m y → number_of m v x ≡ number_of m w y → x ≡ y
same_sheet m v w x y q r e = cancel (m * (v - 1)) (m * (w - 1)) (ap (λ (k : ℕ). m * k) (same_place m (v - 1) (w - 1) x y q r e)) e
  where
    cancel : (a b : ℕ) → a ≡ b → a + x ≡ b + y → x ≡ y
    cancel a b i e = omega (arith, i, e)

-- the vertex and the sheet of a number
pub record IsNumber (m n p : ℕ) : Type 0 where
  pub vertex : ℕ
  pub sheet : ℕ
  pub vertex_range : InRange n vertex
  pub sheet_range : InRange m sheet
  pub is : number_of m vertex sheet ≡ p

pub number-split : (m n p : ℕ) → InRange (m * n) p → 1 ≤ m → IsNumber m n p
number-split m n p r l =
    record {
      vertex = suc ((p - 1) / m);
      sheet = suc ((p - 1) % m);
      vertex_range = (omega arith, below);
      sheet_range = (omega arith, mod_below (p - 1) m l);
      is = ap (λ (k : ℕ). m * k + suc ((p - 1) % m)) (one_less ((p - 1) / m)) ∙ total (m * ((p - 1) / m)) ((p - 1) % m) (mod-add-div (p - 1) m) r.0;
    }
  where
    below : (p - 1) / m < n
    below = by (cases_lt ((p - 1) / m) n)
      where
        by : ((p - 1) / m < n) ⊎ (n ≤ (p - 1) / m) → (p - 1) / m < n
        by (inl k) = k
        by (inr k) = absurd (omega (arith, mul-le-mul_left m k, mul-div-le (p - 1) m, r.0, r.1))

    one_less : (k : ℕ) → suc k - 1 ≡ k
    one_less k = omega arith

    total : (a b : ℕ) → b + a ≡ p - 1 → 1 ≤ p → a + suc b ≡ p
    total a b e k = omega (arith, e, k)

-- ---- the test

module _ (space : List (List (List ℕ))) (m : ℕ) (u : List (List ℕ)) (is : IsSpace space) (regular : IsRegular space) (h : AreLabels space m u) where
  -- an edge that leads from one number to another
  record StepsAlong (p q : ℕ) : Type 0 where
    pub edge : ℕ
    pub sheet : ℕ
    pub edge_range : InRange (count space 1) edge
    pub sheet_range : InRange m sheet
    pub either :
        ((p ≡ number_of m (get_or (facets_of space 1 edge) 0 0) sheet) × (q ≡ number_of m (get_or (facets_of space 1 edge) 1 0) (at (label u edge) sheet)))
        ⊎ ((p ≡ number_of m (get_or (facets_of space 1 edge) 1 0) (at (label u edge) sheet)) × (q ≡ number_of m (get_or (facets_of space 1 edge) 0 0) sheet))

  abbrev leads : (p q e x : ℕ) → Bool
  leads p q e x =
      let a = number_of m (get_or (facets_of space 1 e) 0 0) x in
      let b = number_of m (get_or (facets_of space 1 e) 1 0) (at (label u e) x) in
      ((p == a) && (q == b)) || ((p == b) && (q == a))

  step-true : (p q : ℕ) → sheet_step space m u p q ≡ true → StepsAlong p q
  step-true p q e =
      let s = any-some (λ e. list_any (leads p q e) (upto m)) (upto (count space 1)) e in
      let t = any-some (leads p q s.0) (upto m) s.2 in
      record { edge = s.0; sheet = t.0; edge_range = upto-In (count space 1) s.0 s.1; sheet_range = upto-In m t.0 t.1; either = by s.0 t.0 t.2 }
    where
      by : (e x : ℕ) → leads p q e x ≡ true
          → ((p ≡ number_of m (get_or (facets_of space 1 e) 0 0) x) × (q ≡ number_of m (get_or (facets_of space 1 e) 1 0) (at (label u e) x)))
          ⊎ ((p ≡ number_of m (get_or (facets_of space 1 e) 1 0) (at (label u e) x)) × (q ≡ number_of m (get_or (facets_of space 1 e) 0 0) x))
      by e x k =
          let a = number_of m (get_or (facets_of space 1 e) 0 0) x in
          let b = number_of m (get_or (facets_of space 1 e) 1 0) (at (label u e) x) in
          elim (or_cases ((p == a) && (q == b)) ((p == b) && (q == a)) k) [
            | inl i ↦ let c = and_parts (p == a) (q == b) i in inl (eqb-true p a c.0, eqb-true q b c.1)
            | inr i ↦ let c = and_parts (p == b) (q == a) i in inr (eqb-true p b c.0, eqb-true q a c.1)
          ]

  step-some : (p q e x : ℕ) → InRange (count space 1) e → InRange m x → leads p q e x ≡ true → sheet_step space m u p q ≡ true
  step-some p q e x r s k =
      any-In (λ e. list_any (leads p q e) (upto m)) (In-upto (count space 1) e r.0 r.1) (any-In (leads p q e) (In-upto m x s.0 s.1) k)

  step-forth : (e x : ℕ) → InRange (count space 1) e → InRange m x → sheet_step space m u (number_of m (get_or (facets_of space 1 e) 0 0) x) (number_of m (get_or (facets_of space 1 e) 1 0) (at (label u e) x)) ≡ true
  step-forth e x r s =
      let a = number_of m (get_or (facets_of space 1 e) 0 0) x in
      let b = number_of m (get_or (facets_of space 1 e) 1 0) (at (label u e) x) in
      step-some a b e x r s (or_left ((a == a) && (b == b)) ((a == b) && (b == a)) (and_from (a == a) (b == b) (eq-eqb a a refl) (eq-eqb b b refl)))

  step-back : (e x : ℕ) → InRange (count space 1) e → InRange m x → sheet_step space m u (number_of m (get_or (facets_of space 1 e) 1 0) (at (label u e) x)) (number_of m (get_or (facets_of space 1 e) 0 0) x) ≡ true
  step-back e x r s =
      let a = number_of m (get_or (facets_of space 1 e) 0 0) x in
      let b = number_of m (get_or (facets_of space 1 e) 1 0) (at (label u e) x) in
      step-some b a e x r s (or_right ((b == a) && (a == b)) ((b == b) && (a == a)) (and_from (b == b) (a == a) (eq-eqb b b refl) (eq-eqb a a refl)))

  label-into : (e x : ℕ) → InRange (count space 1) e → InRange m x → InRange m (at (label u e) x)
  label-into e x r q = (turn_of m (label u e) (label-permutation space u m h e r)).into x q

  back-into : (e x : ℕ) → InRange (count space 1) e → InRange m x → InRange m (back (label u e) x)
  back-into e x r q = (back_turn m (label u e) (label-permutation space u m h e r)).into x q

  -- what steps between numbers reach is joined
  from-reaches : (v x : ℕ) → InRange (count space 0) v → InRange m x → {p : ℕ} → Reaches (sheet_step space m u) (upto (m * count space 0)) (number_of m v x) p
      → (w y : ℕ) → InRange (count space 0) w → InRange m y → number_of m w y ≡ p → Joined space u v x w y
  from-reaches v x r q at_start w y k l e =
      let a : w ≡ v = same_vertex m w v y x k.0 r.0 l q e in
      let b : y ≡ x = same_sheet m w v y x l q e in
      rw (a, b) here
  from-reaches v x r q (on {y = p} {z = z} g s t) w y k l e = by (step-true p z s) (λ a b i j d. from-reaches v x r q g a b i j d)
    where
      by : StepsAlong p z → ((a b : ℕ) → InRange (count space 0) a → InRange m b → number_of m a b ≡ p → Joined space u v x a b) → Joined space u v x w y
      by c before = elim c.either [
        | inl d ↦
            let i = label-into c.edge c.sheet c.edge_range c.sheet_range in
            let a : w ≡ get_or (facets_of space 1 c.edge) 1 0 = same_vertex m w (get_or (facets_of space 1 c.edge) 1 0) y (at (label u c.edge) c.sheet) k.0 ends.second.0 l i (e ∙ d.1) in
            let b : y ≡ at (label u c.edge) c.sheet = same_sheet m w (get_or (facets_of space 1 c.edge) 1 0) y (at (label u c.edge) c.sheet) l i (e ∙ d.1) in
            rw (a, b) (joined-then space u (before (get_or (facets_of space 1 c.edge) 0 0) c.sheet ends.first c.sheet_range (sym d.0)) (joined-forth space u c.edge c.sheet c.edge_range))
        | inr d ↦
            let i = label-into c.edge c.sheet c.edge_range c.sheet_range in
            let a : w ≡ get_or (facets_of space 1 c.edge) 0 0 = same_vertex m w (get_or (facets_of space 1 c.edge) 0 0) y c.sheet k.0 ends.first.0 l c.sheet_range (e ∙ d.1) in
            let b : y ≡ c.sheet = same_sheet m w (get_or (facets_of space 1 c.edge) 0 0) y c.sheet l c.sheet_range (e ∙ d.1) in
            rw (a, b) (joined-then space u (before (get_or (facets_of space 1 c.edge) 1 0) (at (label u c.edge) c.sheet) ends.second i (sym d.0)) (joined-back space u m h c.edge c.sheet c.edge_range c.sheet_range))
      ]
        where
          ends : Ends space c.edge
          ends = ends-of space c.edge is regular c.edge_range

  -- and what is joined is reached
  to-reaches : (n : ℕ) {v x w y : ℕ} → Joined space u v x w y → InRange m x → Reaches (sheet_step space m u) (upto (m * count space 0)) n (number_of m v x)
      → Reaches (sheet_step space m u) (upto (m * count space 0)) n (number_of m w y)
  to-reaches n here q g = g
  to-reaches n {x = x} (further s r k) q g = to-reaches n k (step-into m (count space 1) u h.one_for_each h.permutations s r x q) (by s.forward g)
    where
      ends : Ends space s.edge
      ends = ends-of space s.edge is regular r

      by : (b : Bool) → Reaches (sheet_step space m u) (upto (m * count space 0)) n (number_of m (get_or (facets_of space 1 s.edge) (cond b 0 1) 0) x)
          → Reaches (sheet_step space m u) (upto (m * count space 0)) n (number_of m (get_or (facets_of space 1 s.edge) (cond b 1 0) 0) (cond b (at (label u s.edge) x) (back (label u s.edge) x)))
      by true g =
          let t = number-range m (count space 0) (get_or (facets_of space 1 s.edge) 1 0) (at (label u s.edge) x) ends.second (label-into s.edge x r q) in
          on g (step-forth s.edge x r q) (In-holds (In-upto (m * count space 0) (number_of m (get_or (facets_of space 1 s.edge) 1 0) (at (label u s.edge) x)) t.0 t.1))
      by false g =
          let z = back (label u s.edge) x in
          let zr : InRange m (back (label u s.edge) x) = back-into s.edge x r q in
          let t = number-range m (count space 0) (get_or (facets_of space 1 s.edge) 0 0) (back (label u s.edge) x) ends.first zr in
          let forth : at (label u s.edge) (back (label u s.edge) x) ≡ x = at-of-back m (label u s.edge) (label-permutation space u m h s.edge r) x q in
          on g (rw forth at (step-back s.edge (back (label u s.edge) x) r zr)) (In-holds (In-upto (m * count space 0) (number_of m (get_or (facets_of space 1 s.edge) 0 0) (back (label u s.edge) x)) t.0 t.1))

  pub connected-true : is_connected space m u ≡ true → IsConnected space m u
  connected-true e v x w y r q k l =
      joined-then space u (joined-turned space u m h (from_first v x r q) one_sheet) (from_first w y k l)
    where
      one_sheet : InRange m 1
      one_sheet = (omega arith, omega (arith, q.0, q.1))

      one_vertex : InRange (count space 0) 1
      one_vertex = (omega arith, omega (arith, r.0, r.1))

      first_number : number_of m 1 1 ≡ 1
      first_number = zero_times m
        where
          zero_times : (m : ℕ) → m * (1 - 1) + 1 ≡ 1
          zero_times m = omega arith

      from_first : (v x : ℕ) → InRange (count space 0) v → InRange m x → Joined space u 1 1 v x
      from_first v x r q =
          let t = number-range m (count space 0) v x r q in
          let one = number-range m (count space 0) 1 1 one_vertex one_sheet in
          let k : reaches (sheet_step space m u) (upto (m * count space 0)) 1 (number_of m v x) ≡ true = all-In (reaches (sheet_step space m u) (upto (m * count space 0)) 1) e (In-upto (m * count space 0) (number_of m v x) t.0 t.1) in
          let held : holds (upto (m * count space 0)) 1 ≡ true = In-holds (In-upto (m * count space 0) 1 (omega arith) (rw first_number at one.1)) in
          from-reaches 1 1 one_vertex one_sheet
          (subst (λ (n : ℕ). Reaches (sheet_step space m u) (upto (m * count space 0)) n (number_of m v x)) (sym first_number) ((reaches_is (sheet_step space m u) (upto (m * count space 0)) 1 (number_of m v x) held).0 k))
          v x r q refl

  pub connected-from : IsConnected space m u → is_connected space m u ≡ true
  connected-from j = In-all (reaches (sheet_step space m u) (upto (m * count space 0)) 1) (upto (m * count space 0)) (λ p i. reached p (upto-In (m * count space 0) p i))
    where
      reached : (p : ℕ) → InRange (m * count space 0) p → reaches (sheet_step space m u) (upto (m * count space 0)) 1 p ≡ true
      reached p r = by (cases_lt 0 m)
        where
          by : (0 < m) ⊎ (m ≤ 0) → reaches (sheet_step space m u) (upto (m * count space 0)) 1 p ≡ true
          by (inr l) = absurd (omega (arith, r.0, r.1, none m (count space 0) l))
            where
              none : (m n : ℕ) → m ≤ 0 → m * n ≡ 0
              none m n l = let e : m ≡ 0 = omega (arith, l) in rw e (zero-mul n)
          by (inl l) =
              let s = number-split m (count space 0) p r (omega (arith, l)) in
              let one_sheet : InRange m 1 = (omega arith, omega (arith, l)) in
              let one_vertex : InRange (count space 0) 1 = (omega arith, omega (arith, s.vertex_range.0, s.vertex_range.1)) in
              let first_number : m * (1 - 1) + 1 ≡ 1 = omega arith in
              let held : holds (upto (m * count space 0)) 1 ≡ true = In-holds (In-upto (m * count space 0) 1 (omega arith) (omega (arith, r.0, r.1))) in
              (reaches_is (sheet_step space m u) (upto (m * count space 0)) 1 p held).1
              (subst (λ (n : ℕ). Reaches (sheet_step space m u) (upto (m * count space 0)) n p) first_number
              (subst (λ (q : ℕ). Reaches (sheet_step space m u) (upto (m * count space 0)) (number_of m 1 1) q) s.is
              (to-reaches (number_of m 1 1) (j 1 1 s.vertex s.sheet one_vertex one_sheet s.vertex_range s.sheet_range) one_sheet at_start)))

pub connected_is_exact : ConnectedIsExact
connected_is_exact space m u is regular h = (connected-true space m u is regular h, connected-from space m u is regular h)
