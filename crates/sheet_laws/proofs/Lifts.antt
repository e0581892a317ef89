-- The lift of a table is one: two of them are the same, and the computed one is one.
use Rattle.std.proofs.Common.{◌≡◌, ◌⊎◌, inl, inr, ℕ, zero, suc, ◌+◌, ◌-◌, ◌*◌, ◌<◌, ◌≤◌, List, [], ◌∷◌, ◌++◌, map, length, get_or, set, refl, ap, arith, sym, ◌∙◌, subst, Bool, true, false, cond}
use Rattle.std.specs.Prelude.{◌==◌, not}
use Rattle.std.specs.List.{list_all}
use Rattle.std.proofs.lemmas.Bool.{eqb-true, eq-eqb, false≢true, and_parts, and_from, cases_Bool, false_from_ne_true}
use Rattle.std.proofs.lemmas.List.{same_lists, length-set, get_or-set_same, get_or-set_other, get_or_default, append_assoc, append-nil}
use Rattle.std.proofs.lemmas.List.FromFn.{get_or-map-range_with_len, length-map-range_with_len}
use Rattle.number_lists.specs.Members.{In, here, there}
use Rattle.number_lists.specs.Words.{upto, holds}
use Rattle.number_lists.proofs.CallerLemmas.{In-all, all-In, In-upto, map-In, append-In, push-In, In-left, In-right, In-last, holds-In, In-holds}
use Rattle.face_poset.specs.declared.cells.Pair.{Pair}
use Rattle.face_poset.specs.Poset.{count, IsSpace}
use Rattle.regular_check.specs.declared.cycles.Step.{Step}
use Rattle.regular_check.specs.Rules.{IsRegular}
use Rattle.regular_check.specs.Cycle.{cycle, CyclesGoRound}
use Rattle.vector_field.specs.Pairs.{others, is_used, IsValid}
use Rattle.vector_field.proofs.CallerLemmas.{Lined, Goes, lined-from, facet-range}
use Rattle.sheet_laws.specs.Permutations.{InRange, is_permutation, at, back, values}
use Rattle.sheet_laws.specs.Tables.{column, is_table}
use Rattle.sheet_laws.specs.Labellings.{label, step, walk, closes, AreLabels}
use Rattle.sheet_laws.specs.Lifts.{critical_edges, columns_of, IsLift, forced, first_label, lift_from, lift, LiftIsOne}
use Rattle.sheet_laws.proofs.Permutations.{turn_of, back_turn, turn-once, back-of-at, at-of-back, values_permute, at_values, same_turns, identity_permutes, parts-of, back-at, back-range, at-back, at-range, distinct-filter, distinct-range}
use Rattle.sheet_laws.proofs.Walks.{AreWithin, walk-agree, closes-at, closes-from, label-permutes, step-into, walk-into, walk-once, rotated, from-rotated}
use Rattle.sheet_laws.proofs.Rounds.{IsCutAt, cut_at, IsRound, round-of}
use Rattle.sheet_laws.proofs.Cells.{incident, tree-no_lower, critical-no_lower, critical-no_tree, critical-range, In-others, upper-range, lower-range, lower-facet, over-edges}

-- ---- labels that are put anew

label-same : (u : List (List ℕ)) (e : ℕ) (f : List ℕ) → InRange (length u) e → label (set u (e - 1) f) e ≡ f
label-same u e f r = get_or-set_same u (e - 1) f [] (omega (arith, r.0, r.1))

label-other : (u : List (List ℕ)) (e d : ℕ) (f : List ℕ) → 1 ≤ e → 1 ≤ d → (d ≡ e → ⊥) → label (set u (e - 1) f) d ≡ label u d
label-other u e d f l k n = get_or-set_other u (e - 1) (d - 1) f [] (λ x. n (omega (arith, x, l, k)))

all-set : (p : List ℕ → Bool) (u : List (List ℕ)) (i : ℕ) (f : List ℕ) → list_all p u ≡ true → p f ≡ true → list_all p (set u i f) ≡ true
all-set p [] i f h e = refl
all-set p (x ∷ u) zero f h e = and_from (p f) (list_all p u) e (and_parts (p x) (list_all p u) h).1
all-set p (x ∷ u) (suc i) f h e = let b = and_parts (p x) (list_all p u) h in and_from (p x) (list_all p (set u i f)) b.0 (all-set p u i f b.1 e)

-- ---- the cycle of the upper of a pair of an edge with a 2-cell

module _ (law : CyclesGoRound) (space : List (List (List ℕ))) (pairs : List Pair) (is : IsSpace space) (regular : IsRegular space) (valid : IsValid space pairs) where
  round : (p : Pair) → In p pairs → p.dim ≡ 1 → IsRound space p.upper (cycle space p.upper)
  round p i d = round-of law space p.upper is regular (upper-range space pairs valid p i d)

  pub cut : (p : Pair) → In p pairs → p.dim ≡ 1 → IsCutAt p.lower (cycle space p.upper)
  cut p i d = let g = round p i d in cut_at p.lower (cycle space p.upper) g.once (g.all p.lower (lower-facet space pairs valid p i d))

  pub within : (p : Pair) → In p pairs → p.dim ≡ 1 → AreWithin (count space 1) (cycle space p.upper)
  within p i d t m = let h = upper-range space pairs valid p i d in facet-range space 1 p.upper t.edge is h.0 h.1 ((round p i d).inside t m)

  -- the steps after it and before it go along other edges of the upper
  pub cut-others : (p : Pair) → (i : In p pairs) → (d : p.dim ≡ 1) → (t : Step) → In t ((cut p i d).last ++ (cut p i d).first) → In t.edge (others space p)
  cut-others p i d t m =
      let c = cut p i d in
      In-others space pairs valid p t.edge d ((round p i d).inside t (rw (sym c.whole) at (turned c.first c.itself c.last m))) (c.others t m)
    where
      turned : (xs : List Step) (s : Step) (ys : List Step) → In t (ys ++ xs) → In t (xs ++ s ∷ ys)
      turned xs s ys m = elim (append-In ys xs m) [ inl j ↦ In-right xs (there j) | inr j ↦ In-left (s ∷ ys) j ]

  -- ---- two lifts are the same

  module _ (m : ℕ) (cells : List ℕ) (u w : List (List ℕ)) (a : IsLift space pairs m cells u) (b : IsLift space pairs m cells w) where
    -- steps along one edge that agree
    same-labels : (e : ℕ) (s : Step) → InRange (count space 1) e → s.edge ≡ e → ((y : ℕ) → InRange m y → step u s y ≡ step w s y) → label u e ≡ label w e
    same-labels e s r k h = by s.forward refl
      where
        pu : is_permutation m (label u e) ≡ true
        pu = label-permutes m (count space 1) u a.labels.one_for_each a.labels.permutations e r

        pw : is_permutation m (label w e) ≡ true
        pw = label-permutes m (count space 1) w b.labels.one_for_each b.labels.permutations e r

        by : (c : Bool) → s.forward ≡ c → label u e ≡ label w e
        by true c = same_turns m (label u e) (label w e) (parts-of m (label u e) pu).long (parts-of m (label w e) pw).long (λ y q. rw (c, k) at (h y q))
        by false c = same_turns m (label u e) (label w e) (parts-of m (label u e) pu).long (parts-of m (label w e) pw).long (λ x q.
            let y : InRange m (at (label u e) x) = (turn_of m (label u e) pu).into x q in
            let back_u : back (label u e) (at (label u e) x) ≡ x = back-of-at m (label u e) pu x q in
            let agree : back (label u e) (at (label u e) x) ≡ back (label w e) (at (label u e) x) = rw (c, k) at (h (at (label u e) x) y) in
            sym (ap (at (label w e)) (sym back_u ∙ agree) ∙ at-of-back m (label w e) pw (at (label u e) x) y))

    pass : (p : Pair) → In p pairs → p.dim ≡ 1 → ((g : ℕ) → In g (others space p) → label u g ≡ label w g) → label u p.lower ≡ label w p.lower
    pass p i d h = same-labels p.lower c.itself (lower-range space pairs valid p i d) c.edge (λ y r.
        step-agree y r)
      where
        c : IsCutAt p.lower (cycle space p.upper)
        c = cut p i d

        inside : AreWithin (count space 1) (c.first ++ c.itself ∷ c.last)
        inside = rw c.whole at (within p i d)

        in-edge : InRange (count space 1) c.itself.edge
        in-edge = inside c.itself (In-right c.first here)

        rest : AreWithin (count space 1) (c.last ++ c.first)
        rest t m = elim (append-In c.last c.first m) [ inl j ↦ inside t (In-right c.first (there j)) | inr j ↦ inside t (In-left (c.itself ∷ c.last) j) ]

        step-agree : (y : ℕ) → InRange m y → step u c.itself y ≡ step w c.itself y
        step-agree y r =
            walk-once m (count space 1) u a.labels.one_for_each a.labels.permutations (c.last ++ c.first) rest (step u c.itself y) (step w c.itself y)
            (step-into m (count space 1) u a.labels.one_for_each a.labels.permutations c.itself in-edge y r)
            (step-into m (count space 1) w b.labels.one_for_each b.labels.permutations c.itself in-edge y r)
            (rotated m (count space 1) u a.labels.one_for_each a.labels.permutations c.first c.last c.itself inside (rw c.whole at (a.forced p i d)) y r
            ∙ sym (walk-agree u w (c.last ++ c.first) (λ t j. h t.edge (cut-others p i d t j)) (step w c.itself y)
            ∙ rotated m (count space 1) w b.labels.one_for_each b.labels.permutations c.first c.last c.itself inside (rw c.whole at (b.forced p i d)) y r))

    pub one_label : (e : ℕ) → InRange (count space 1) e → label u e ≡ label w e
    one_label =
        over-edges space pairs is valid (λ e. label u e ≡ label w e)
        (λ e r i.
        let g : InRange (columns_of space pairs) (back (critical_edges space pairs) e) = back-range (critical_edges space pairs) e i in
        let k : at (critical_edges space pairs) (back (critical_edges space pairs) e) ≡ e = at-back (critical_edges space pairs) e i in
        ap (label u) (sym k) ∙ (a.columns (back (critical_edges space pairs) e) g ∙ sym (ap (label w) (sym k) ∙ b.columns (back (critical_edges space pairs) e) g)))
        (λ p i d r. a.tree p i d ∙ sym (b.tree p i d))
        pass

    pub one_lift : u ≡ w
    one_lift = same_lists u w (a.labels.one_for_each ∙ sym b.labels.one_for_each) (λ k d l.
        default u k d l ∙ (one_label (suc k) (omega arith, omega (arith, l, a.labels.one_for_each)) ∙ sym (default w k d (omega (arith, l, a.labels.one_for_each, b.labels.one_for_each)))))
      where
        default : (v : List (List ℕ)) (k : ℕ) (d : List ℕ) → k < length v → get_or v k d ≡ label v (suc k)
        default v k d l = let e : suc k - 1 ≡ k = omega arith in get_or_default v k d [] l ∙ ap (λ (i : ℕ). get_or v i []) (sym e)

  -- ---- the computed lift is one

  module _ (m : ℕ) (cells : List ℕ) (table : is_table (columns_of space pairs) m cells ≡ true) where
    -- the labels after the first pairs
    record Stage (done : List Pair) (u : List (List ℕ)) : Type 0 where
      pub labels : AreLabels space m u
      pub kept : (e : ℕ) → InRange (count space 1) e → ((p : Pair) → In p done → p.dim ≡ 1 → p.lower ≡ e → ⊥) → label u e ≡ first_label space pairs m cells e
      pub closed : (p : Pair) → In p done → p.dim ≡ 1 → closes m u (cycle space p.upper) ≡ true

    column-permutes : (g : ℕ) → InRange (columns_of space pairs) g → is_permutation m (column (columns_of space pairs) m cells g) ≡ true
    column-permutes g r =
        all-In (λ g. is_permutation m (column (columns_of space pairs) m cells g)) (and_parts (length cells == m * columns_of space pairs) (list_all (λ g. is_permutation m (column (columns_of space pairs) m cells g)) (upto (columns_of space pairs))) table).1
        (In-upto (columns_of space pairs) g r.0 r.1)

    first-permutes : (e : ℕ) → is_permutation m (first_label space pairs m cells e) ≡ true
    first-permutes e = by (holds (critical_edges space pairs) e) refl
      where
        by : (b : Bool) → holds (critical_edges space pairs) e ≡ b → is_permutation m (cond b (column (columns_of space pairs) m cells (back (critical_edges space pairs) e)) (upto m)) ≡ true
        by true k = column-permutes (back (critical_edges space pairs) e) (back-range (critical_edges space pairs) e (holds-In (critical_edges space pairs) k))
        by false k = identity_permutes m

    first-label : (e : ℕ) → InRange (count space 1) e → label (map (first_label space pairs m cells) (upto (count space 1))) e ≡ first_label space pairs m cells e
    first-label e r = get_or-map-range_with_len (first_label space pairs m cells) 1 (count space 1) (e - 1) e [] (omega (arith, r.0, r.1)) (omega (arith, r.0))

    begun : Stage [] (map (first_label space pairs m cells) (upto (count space 1)))
    begun = record {
      labels = record {
        one_for_each = length-map-range_with_len (first_label space pairs m cells) 1 (count space 1);
        permutations = In-all (is_permutation m) (map (first_label space pairs m cells) (upto (count space 1)))
            (λ f i. (let r = map-In (first_label space pairs m cells) (upto (count space 1)) i in rw r.2 (first-permutes r.0)));
      };
      kept = λ e r n. first-label e r;
      closed = λ p i. elim i [ ];
    }

    -- the label of the lower of a pair, put anew
    module _ (done : List Pair) (p : Pair) (i : In p pairs) (d : p.dim ≡ 1) (before : (q : Pair) → In q done → In q pairs × Goes space q p) (u : List (List ℕ)) (h : Stage done u) where
      c : IsCutAt p.lower (cycle space p.upper)
      c = cut p i d

      inside : AreWithin (count space 1) (c.first ++ c.itself ∷ c.last)
      inside = rw c.whole at (within p i d)

      rest : AreWithin (count space 1) (c.last ++ c.first)
      rest t m = elim (append-In c.last c.first m) [ inl j ↦ inside t (In-right c.first (there j)) | inr j ↦ inside t (In-left (c.itself ∷ c.last) j) ]

      around : List ℕ
      around = values m (walk u (c.last ++ c.first))

      around-permutes : is_permutation m around ≡ true
      unfolding around
      around-permutes =
          values_permute m (walk u (c.last ++ c.first))
          (λ s r. walk-into m (count space 1) u h.labels.one_for_each h.labels.permutations (c.last ++ c.first) rest s r)
          (λ s t r q e. walk-once m (count space 1) u h.labels.one_for_each h.labels.permutations (c.last ++ c.first) rest s t r q e)

      new : List ℕ
      new = forced m u p.lower (cycle space p.upper)

      new-is : new ≡ cond c.itself.forward (values m (back around)) around
      unfolding new around
      new-is = ap (λ (r : Bool × List Step). cond r.0 (values m (back (values m (walk u r.1)))) (values m (walk u r.1))) (c.round [])

      back-permutes : is_permutation m (values m (back around)) ≡ true
      back-permutes = let t = back_turn m around around-permutes in values_permute m (back around) t.into (turn-once m (back around) t)

      new-permutes : is_permutation m new ≡ true
      new-permutes = rw new-is (by c.itself.forward)
        where
          by : (b : Bool) → is_permutation m (cond b (values m (back around)) around) ≡ true
          by true = back-permutes
          by false = around-permutes

      put : List (List ℕ)
      put = set u (p.lower - 1) new

      low : InRange (count space 1) p.lower
      low = lower-range space pairs valid p i d

      put-labels : AreLabels space m put
      unfolding put
      put-labels = record { one_for_each = length-set u (p.lower - 1) new ∙ h.labels.one_for_each; permutations = all-set (is_permutation m) u (p.lower - 1) new h.labels.permutations new-permutes }

      put-other : (e : ℕ) → InRange (count space 1) e → (e ≡ p.lower → ⊥) → label put e ≡ label u e
      unfolding put
      put-other e r n = label-other u p.lower e new low.0 r.0 n

      put-same : label put p.lower ≡ new
      unfolding put
      put-same = label-same u p.lower new (rw h.labels.one_for_each low)

      -- the step along the lower undoes the way round
      put-step : (y : ℕ) → InRange m y → step put c.itself y ≡ back around y
      put-step y r = ap (λ (f : List ℕ). cond c.itself.forward (at f y) (back f y)) (ap (label put) c.edge ∙ (put-same ∙ new-is)) ∙ by c.itself.forward
        where
          by : (b : Bool) → cond b (at (cond b (values m (back around)) around) y) (back (cond b (values m (back around)) around) y) ≡ back around y
          by true = at_values m (back around) y r
          by false = refl

      put-closes : closes m put (cycle space p.upper) ≡ true
      unfolding around
      put-closes = rw c.whole (from-rotated m (count space 1) put put-labels.one_for_each put-labels.permutations c.first c.last c.itself inside back_again)
        where
          back_again : (y : ℕ) → InRange m y → walk put (c.last ++ c.first) (step put c.itself y) ≡ y
          back_again y r =
              let t = back_turn m around around-permutes in
              walk-agree put u (c.last ++ c.first) (λ t j. put-other t.edge (rest t j) (c.others t j)) (step put c.itself y)
              ∙ (ap (walk u (c.last ++ c.first)) (put-step y r)
              ∙ (sym (at_values m (walk u (c.last ++ c.first)) (back around y) (t.into y r)) ∙ at-of-back m around around-permutes y r))

      -- the uppers of earlier pairs close as before
      earlier-closes : (q : Pair) → In q done → q.dim ≡ 1 → closes m put (cycle space q.upper) ≡ true
      earlier-closes q j k =
          closes-from m put (cycle space q.upper) (λ x r.
          walk-agree put u (cycle space q.upper) (λ t n. put-other t.edge (within q (before q j).0 k t n) (apart t n)) x ∙ closes-at m u (cycle space q.upper) (h.closed q j k) x r)
        where
          apart : (t : Step) → In t (cycle space q.upper) → t.edge ≡ p.lower → ⊥
          apart t n e = by (cases_Bool (p.lower == q.lower))
            where
              by : ((p.lower == q.lower) ≡ true) ⊎ ((p.lower == q.lower) ≡ false) → ⊥
              by (inl x) = (before q j).1.apart.0 (inl (k ∙ sym d, sym (eqb-true p.lower q.lower x)))
              by (inr x) =
                  (before q j).1.free (d ∙ sym k)
                  (In-others space pairs valid q p.lower k (rw e at ((round q (before q j).0 k).inside t n)) (λ y. false≢true (sym x ∙ eq-eqb p.lower q.lower y)))

      put-stage : Stage (done ++ p ∷ []) put
      put-stage = record {
        labels = put-labels;
        kept = λ e r n. put-other e r (λ x. n p (In-last done p) d (sym x)) ∙ h.kept e r (λ q j k x. n q (In-left (p ∷ []) j) k x);
        closed = λ q j k. elim (push-In done p j) [ inl i ↦ earlier-closes q i k | inr x ↦ rw x put-closes ];
      }

    -- a pair of another dimension changes nothing
    skip-stage : (done : List Pair) (p : Pair) (u : List (List ℕ)) → (p.dim ≡ 1 → ⊥) → Stage done u → Stage (done ++ p ∷ []) u
    skip-stage done p u n h = record {
      labels = h.labels;
      kept = λ e r k. h.kept e r (λ q j d x. k q (In-left (p ∷ []) j) d x);
      closed = λ q j k. elim (push-In done p j) [ inl i ↦ h.closed q i k | inr x ↦ absurd (n (rw x at k)) ];
    }

    next-stage : (done : List Pair) (p : Pair) → In p pairs → ((q : Pair) → In q done → In q pairs × Goes space q p) → (u : List (List ℕ)) → Stage done u
        → Stage (done ++ p ∷ []) (cond (p.dim == 1) (set u (p.lower - 1) (forced m u p.lower (cycle space p.upper))) u)
    unfolding put new
    next-stage done p i before u h = by (p.dim == 1) refl
      where
        by : (b : Bool) → (p.dim == 1) ≡ b → Stage (done ++ p ∷ []) (cond b (set u (p.lower - 1) (forced m u p.lower (cycle space p.upper))) u)
        by true e = put-stage done p i (eqb-true p.dim 1 e) before u h
        by false e = skip-stage done p u (λ d. false≢true (sym e ∙ eq-eqb p.dim 1 d)) h

    all-stages : (done ps : List Pair) (u : List (List ℕ)) → ((q : Pair) → In q done → In q pairs) → ((p : Pair) → In p ps → In p pairs)
        → ((q p : Pair) → In q done → In p ps → Goes space q p) → Lined (Goes space) ps → Stage done u → Stage (done ++ ps) (lift_from space m u ps)
    all-stages done [] u a b g l h = let P : List Pair → Type 0 = λ ps. Stage ps u in subst P (sym (append-nil done)) h
    all-stages done (p ∷ ps) u a b g l h =
        let P : List Pair → Type 0 = λ qs. Stage qs (lift_from space m u (p ∷ ps)) in
        subst P (append_assoc done (p ∷ []) ps)
        (all-stages (done ++ p ∷ []) ps (cond (p.dim == 1) (set u (p.lower - 1) (forced m u p.lower (cycle space p.upper))) u)
        (λ q i. elim (push-In done p i) [ inl j ↦ a q j | inr x ↦ rw x (b p here) ])
        (λ q i. b q (there i))
        (λ q r i j. elim (push-In done p i) [ inl k ↦ g q r k (there j) | inr x ↦ rw x (l.0 r j) ])
        l.1 (next-stage done p (b p here) (λ q i. (a q i, g q p i here)) u h))

    whole : Stage pairs (lift space pairs m cells)
    whole = all-stages [] pairs (map (first_label space pairs m cells) (upto (count space 1))) (λ q i. elim i [ ]) (λ p i. i) (λ q p i. elim i [ ]) (lined-from space pairs valid).lined begun

    tree-label : (p : Pair) → In p pairs → p.dim ≡ 0 → first_label space pairs m cells p.upper ≡ upto m
    tree-label p i d =
        ap (λ (b : Bool). cond b (column (columns_of space pairs) m cells (back (critical_edges space pairs) p.upper)) (upto m))
        (false_from_ne_true (holds (critical_edges space pairs) p.upper) (λ e. critical-no_tree space pairs valid p i d (holds-In (critical_edges space pairs) e)))

    critical-label : (g : ℕ) → InRange (columns_of space pairs) g → first_label space pairs m cells (at (critical_edges space pairs) g) ≡ column (columns_of space pairs) m cells g
    critical-label g r =
        ap (λ (b : Bool). cond b (column (columns_of space pairs) m cells (back (critical_edges space pairs) (at (critical_edges space pairs) g))) (upto m)) (In-holds (at-range (critical_edges space pairs) g r))
        ∙ ap (column (columns_of space pairs) m cells) (back-at (critical_edges space pairs) g (distinct-filter (λ c. not (is_used pairs 1 c)) (upto (count space 1)) (distinct-range 1 (count space 1))) r)

    pub is_lift : IsLift space pairs m cells (lift space pairs m cells)
    is_lift = record {
      labels = whole.labels;
      tree = λ p i d. whole.kept p.upper (tree-range p i d) (λ q j k e. tree-no_lower space pairs valid p q i j d k e) ∙ tree-label p i d;
      columns = λ g r.
          let e = at-range (critical_edges space pairs) g r in
          whole.kept (at (critical_edges space pairs) g) (critical-range space pairs valid (at (critical_edges space pairs) g) e)
          (λ q j k x. critical-no_lower space pairs valid q j k (rw x e))
          ∙ critical-label g r;
      forced = whole.closed;
    }
      where
        tree-range : (p : Pair) → In p pairs → p.dim ≡ 0 → InRange (count space 1) p.upper
        tree-range p i d = let h = incident space pairs valid p i in (h.upper_first, subst (λ (k : ℕ). p.upper ≤ count space (k + 1)) d h.upper_last)

pub lift_is_one : CyclesGoRound → LiftIsOne
lift_is_one law space pairs m cells is regular valid table =
    record {
      is = is_lift law space pairs is regular valid m cells table;
      only = λ w h. one_lift law space pairs is regular valid m cells w (lift space pairs m cells) h (is_lift law space pairs is regular valid m cells table);
    }
