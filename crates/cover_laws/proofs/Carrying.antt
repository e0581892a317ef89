-- Permutations of the sheets over each vertex, which carry labels to other labels.
use Rattle.std.proofs.Common.{◌≡◌, ℕ, List, [], ◌∷◌, ◌++◌, map, length, get_or, take, drop, refl, ap, sym, ◌∙◌, subst, Bool, true, false, cond}
use Rattle.std.specs.List.{list_all}
use Rattle.number_lists.specs.Members.{here, there}
use Rattle.face_poset.specs.Poset.{count, facets_of, IsSpace}
use Rattle.regular_check.specs.declared.cycles.Step.{Step}
use Rattle.regular_check.specs.Rules.{IsRegular}
use Rattle.regular_check.specs.Cycle.{start_of, end_of, cycle, CyclesGoRound}
use Rattle.sheet_laws.specs.Permutations.{InRange, is_permutation, at, back}
use Rattle.sheet_laws.specs.Labellings.{label, step, walk, closes, AreLabels, Carries, Joined, here as joined_here, on, IsConnected, is_labelling}
use Rattle.sheet_laws.proofs.CallerLemmas.{Turn, turn_then, turn_of, back_turn, back-of-at, at-of-back, AreWithin, label-permutes, step-into, closes-at, closes-from, Ends, ends-of}
use Rattle.edge_words.proofs.CallerLemmas.{cycle-within, labelling-parts, labelling-from}
use Rattle.cover_laws.proofs.Families.{family, family-long, at-family, family-permutes}

module _ (space : List (List (List ℕ))) (m : ℕ) (is : IsSpace space) (regular : IsRegular space) where
  -- the ends of an edge
  abbrev pub near : ℕ → ℕ
  near e = get_or (facets_of space 1 e) 0 0

  abbrev pub far : ℕ → ℕ
  far e = get_or (facets_of space 1 e) 1 0

  pub start-range : (s : Step) → InRange (count space 1) s.edge → InRange (count space 0) (start_of space s)
  start-range s r = by s.forward
    where
      ends : Ends space s.edge
      ends = ends-of space s.edge is regular r

      by : (b : Bool) → InRange (count space 0) (get_or (facets_of space 1 s.edge) (cond b 0 1) 0)
      by true = ends.first
      by false = ends.second

  pub end-range : (s : Step) → InRange (count space 1) s.edge → InRange (count space 0) (end_of space s)
  end-range s r = by s.forward
    where
      ends : Ends space s.edge
      ends = ends-of space s.edge is regular r

      by : (b : Bool) → InRange (count space 0) (get_or (facets_of space 1 s.edge) (cond b 1 0) 0)
      by true = ends.second
      by false = ends.first

  -- ---- labels that are carried

  module _ (u w f : List (List ℕ)) (lu : AreLabels space m u) (lw : AreLabels space m w) (h : Carries space m u w f) where
    over-permutes : (v : ℕ) → InRange (count space 0) v → is_permutation m (label f v) ≡ true
    over-permutes v r = label-permutes m (count space 0) f h.one_for_each h.permutations v r

    pub step-carried : (s : Step) → InRange (count space 1) s.edge → (x : ℕ) → InRange m x
        → step w s (at (label f (start_of space s)) x) ≡ at (label f (end_of space s)) (step u s x)
    step-carried s r x q = by s.forward
      where
        ends : Ends space s.edge
        ends = ends-of space s.edge is regular r

        pu : is_permutation m (label u s.edge) ≡ true
        pu = label-permutes m (count space 1) u lu.one_for_each lu.permutations s.edge r

        pw : is_permutation m (label w s.edge) ≡ true
        pw = label-permutes m (count space 1) w lw.one_for_each lw.permutations s.edge r

        y : InRange m (back (label u s.edge) x)
        y = (back_turn m (label u s.edge) pu).into x q

        by : (b : Bool)
            → cond b (at (label w s.edge) (at (label f (get_or (facets_of space 1 s.edge) (cond b 0 1) 0)) x))
            (back (label w s.edge) (at (label f (get_or (facets_of space 1 s.edge) (cond b 0 1) 0)) x))
            ≡ at (label f (get_or (facets_of space 1 s.edge) (cond b 1 0) 0)) (cond b (at (label u s.edge) x) (back (label u s.edge) x))
        by true = sym (h.agrees s.edge x r q)
        by false =
            ap (back (label w s.edge)) (sym (ap (at (label f (far s.edge))) (at-of-back m (label u s.edge) pu x q)) ∙ h.agrees s.edge (back (label u s.edge) x) r y)
            ∙ back-of-at m (label w s.edge) pw (at (label f (near s.edge)) (back (label u s.edge) x))
            ((turn_of m (label f (near s.edge)) (over-permutes (near s.edge) ends.first)).into (back (label u s.edge) x) y)

    -- a walk along steps of which each begins where the one before ends
    walk-carried : (s : Step) (ss : List Step) (v : ℕ) → AreWithin (count space 1) (s ∷ ss) → map (end_of space) (s ∷ ss) ≡ map (start_of space) ss ++ v ∷ []
        → (x : ℕ) → InRange m x → walk w (s ∷ ss) (at (label f (start_of space s)) x) ≡ at (label f v) (walk u (s ∷ ss) x)
    walk-carried s [] v within e x q = step-carried s (within s here) x q ∙ ap (λ (k : ℕ). at (label f k) (step u s x)) (ap (λ (ks : List ℕ). get_or ks 0 0) e)
    walk-carried s (t ∷ ts) v within e x q =
        ap (walk w (t ∷ ts)) (step-carried s (within s here) x q ∙ ap (λ (k : ℕ). at (label f k) (step u s x)) (ap (λ (ks : List ℕ). get_or ks 0 0) e))
        ∙ walk-carried t ts v (λ a i. within a (there i)) (ap (λ (ks : List ℕ). drop 1 ks) e) (step u s x)
        (step-into m (count space 1) u lu.one_for_each lu.permutations s (within s here) x q)

    -- a walk round that closes
    round-carried : (ss : List Step) → AreWithin (count space 1) ss → map (end_of space) ss ≡ drop 1 (map (start_of space) ss) ++ take 1 (map (start_of space) ss)
        → closes m u ss ≡ true → closes m w ss ≡ true
    round-carried [] within e k = closes-from m w [] (λ x q. refl)
    round-carried (s ∷ ss) within e k = closes-from m w (s ∷ ss) (λ x q. at_sheet x q)
      where
        v : ℕ
        v = start_of space s

        p : is_permutation m (label f (start_of space s)) ≡ true
        p = over-permutes (start_of space s) (start-range s (within s here))

        at_sheet : (x : ℕ) → InRange m x → walk w (s ∷ ss) x ≡ x
        at_sheet x q =
            let y : InRange m (back (label f (start_of space s)) x) = (back_turn m (label f (start_of space s)) p).into x q in
            ap (walk w (s ∷ ss)) (sym (at-of-back m (label f (start_of space s)) p x q))
            ∙ (walk-carried s ss (start_of space s) within e (back (label f (start_of space s)) x) y
            ∙ (ap (at (label f (start_of space s))) (closes-at m u (s ∷ ss) k (back (label f (start_of space s)) x) y)
            ∙ at-of-back m (label f (start_of space s)) p x q))

    pub cycle-carried : CyclesGoRound → (c : ℕ) → InRange (count space 2) c → closes m u (cycle space c) ≡ true → closes m w (cycle space c) ≡ true
    cycle-carried law c r k = round-carried (cycle space c) (cycle-within law space is regular c r) ((law space c is regular r.0 r.1).closes) k

    pub labelling-carried : CyclesGoRound → is_labelling space m u ≡ true → is_labelling space m w ≡ true
    labelling-carried law e =
        let h = labelling-parts space m u e in
        labelling-from space m w (record { some = h.some; labels = lw; closed = λ c r. cycle-carried law c r (h.closed c r) })

    -- what is joined
    joined-carried : {v x a y : ℕ} → Joined space u v x a y → InRange m x → Joined space w v (at (label f v) x) a (at (label f a) y)
    joined-carried joined_here q = joined_here
    joined-carried {x = x} {a = a} {y = y} (on s r k) q =
        on s r (subst (λ (z : ℕ). Joined space w (end_of space s) z a (at (label f a) y)) (sym (step-carried s r x q))
        (joined-carried k (step-into m (count space 1) u lu.one_for_each lu.permutations s r x q)))

    pub connected-carried : IsConnected space m u → IsConnected space m w
    connected-carried c v x a y rv rx ra ry =
        let i = (back_turn m (label f v) (over-permutes v rv)).into x rx in
        let j = (back_turn m (label f a) (over-permutes a ra)).into y ry in
        rw (at-of-back m (label f v) (over-permutes v rv) x rx, at-of-back m (label f a) (over-permutes a ra) y ry) at
        (joined-carried (c v (back (label f v) x) a (back (label f a) y) rv i ra j) i)

  -- ---- the labels to which given permutations carry

  module _ (u f : List (List ℕ)) (lu : AreLabels space m u) (long : length f ≡ count space 0) (permutes : list_all (is_permutation m) f ≡ true) where
    abbrev turned : ℕ → ℕ → ℕ
    turned e x = at (label f (far e)) (at (label u e) (back (label f (near e)) x))

    vertex-permutes : (v : ℕ) → InRange (count space 0) v → is_permutation m (label f v) ≡ true
    vertex-permutes v r = label-permutes m (count space 0) f long permutes v r

    turned-turn : (e : ℕ) → InRange (count space 1) e → Turn m (turned e)
    turned-turn e r =
        let ends = ends-of space e is regular r in
        turn_then m (λ x. at (label u e) (back (label f (near e)) x)) (at (label f (far e)))
        (turn_then m (back (label f (near e))) (at (label u e)) (back_turn m (label f (near e)) (vertex-permutes (near e) ends.first))
        (turn_of m (label u e) (label-permutes m (count space 1) u lu.one_for_each lu.permutations e r)))
        (turn_of m (label f (far e)) (vertex-permutes (far e) ends.second))

    pub moved : List (List ℕ)
    moved = family (count space 1) m turned

    pub moved-labels : AreLabels space m moved
    unfolding moved
    moved-labels = record { one_for_each = family-long (count space 1) m turned; permutations = family-permutes (count space 1) m turned turned-turn }

    pub moved-at : (e x : ℕ) → InRange (count space 1) e → InRange m x → at (label moved e) x ≡ at (label f (far e)) (at (label u e) (back (label f (near e)) x))
    unfolding moved
    moved-at e x r q = at-family (count space 1) m turned e x r q

    pub moved-carries : Carries space m u moved f
    moved-carries = record {
      one_for_each = long;
      permutations = permutes;
      agrees = λ e s r q.
          let p = vertex-permutes (near e) (ends-of space e is regular r).first in
          sym (moved-at e (at (label f (near e)) s) r ((turn_of m (label f (near e)) p).into s q)
          ∙ ap (λ (z : ℕ). at (label f (far e)) (at (label u e) z)) (back-of-at m (label f (near e)) p s q));
    }
