-- Isomorphic is an equivalence.
use Rattle.std.proofs.Common.{◌≡◌, ℕ, List, get_or, ap, sym, ◌∙◌, true}
use Rattle.face_poset.specs.Poset.{count, facets_of, IsSpace}
use Rattle.regular_check.specs.Rules.{IsRegular}
use Rattle.sheet_laws.specs.Permutations.{InRange, is_permutation, at, back}
use Rattle.sheet_laws.specs.Labellings.{label, AreLabels, Carries, Isomorphic}
use Rattle.sheet_laws.proofs.CallerLemmas.{turn_id, turn_then, turn_of, back_turn, back-of-at, at-of-back, label-permutes, ends-of}
use Rattle.cover_laws.proofs.Families.{family, family-long, at-family, family-permutes}

module _ (space : List (List (List ℕ))) (m : ℕ) (is : IsSpace space) (regular : IsRegular space) where
  near-range : (e : ℕ) → InRange (count space 1) e → InRange (count space 0) (get_or (facets_of space 1 e) 0 0)
  near-range e r = (ends-of space e is regular r).first

  far-range : (e : ℕ) → InRange (count space 1) e → InRange (count space 0) (get_or (facets_of space 1 e) 1 0)
  far-range e r = (ends-of space e is regular r).second

  label-into : (u : List (List ℕ)) → AreLabels space m u → (e x : ℕ) → InRange (count space 1) e → InRange m x → InRange m (at (label u e) x)
  label-into u h e x r q = (turn_of m (label u e) (label-permutes m (count space 1) u h.one_for_each h.permutations e r)).into x q

  pub isomorphic-self : (u : List (List ℕ)) → AreLabels space m u → Isomorphic space m u u
  isomorphic-self u h = (
    family (count space 0) m (λ v x. x),
    record {
      one_for_each = family-long (count space 0) m (λ v x. x);
      permutations = family-permutes (count space 0) m (λ v x. x) (λ v r. turn_id m);
      agrees = λ e s r q.
          at-family (count space 0) m (λ v x. x) (get_or (facets_of space 1 e) 1 0) (at (label u e) s) (far-range e r) (label-into u h e s r q)
          ∙ ap (at (label u e)) (sym (at-family (count space 0) m (λ v x. x) (get_or (facets_of space 1 e) 0 0) s (near-range e r) q));
    },
  )

  -- permutations that carry, and their inverses and composites
  module _ (u w : List (List ℕ)) (l : AreLabels space m u) (f : List (List ℕ)) (h : Carries space m u w f) where
    over : (v : ℕ) → InRange (count space 0) v → is_permutation m (label f v) ≡ true
    over v r = label-permutes m (count space 0) f h.one_for_each h.permutations v r

    abbrev undo : ℕ → ℕ → ℕ
    undo v x = back (label f v) x

    undo-agrees : (e s : ℕ) → InRange (count space 1) e → InRange m s
        → back (label f (get_or (facets_of space 1 e) 1 0)) (at (label w e) s) ≡ at (label u e) (back (label f (get_or (facets_of space 1 e) 0 0)) s)
    undo-agrees e s r q =
        let a = get_or (facets_of space 1 e) 0 0 in
        let b = get_or (facets_of space 1 e) 1 0 in
        let t : InRange m (back (label f (get_or (facets_of space 1 e) 0 0)) s) = (back_turn m (label f a) (over a (near-range e r))).into s q in
        ap (λ (z : ℕ). back (label f b) (at (label w e) z)) (sym (at-of-back m (label f a) (over a (near-range e r)) s q))
        ∙ (ap (back (label f b)) (sym (h.agrees e (back (label f a) s) r t))
        ∙ back-of-at m (label f b) (over b (far-range e r)) (at (label u e) (back (label f a) s)) (label-into u l e (back (label f a) s) r t))

    pub carries-back : (into : (e s : ℕ) → InRange (count space 1) e → InRange m s → InRange m (at (label w e) s))
        → Carries space m w u (family (count space 0) m undo)
    carries-back into = record {
      one_for_each = family-long (count space 0) m undo;
      permutations = family-permutes (count space 0) m undo (λ v r. back_turn m (label f v) (over v r));
      agrees = λ e s r q.
          at-family (count space 0) m undo (get_or (facets_of space 1 e) 1 0) (at (label w e) s) (far-range e r) (into e s r q)
          ∙ (undo-agrees e s r q
          ∙ ap (at (label u e)) (sym (at-family (count space 0) m undo (get_or (facets_of space 1 e) 0 0) s (near-range e r) q)));
    }

    module _ (z g : List (List ℕ)) (k : Carries space m w z g) where
      abbrev both : ℕ → ℕ → ℕ
      both v x = at (label g v) (at (label f v) x)

      next : (v : ℕ) → InRange (count space 0) v → is_permutation m (label g v) ≡ true
      next v r = label-permutes m (count space 0) g k.one_for_each k.permutations v r

      pub carries-then : Carries space m u z (family (count space 0) m both)
      carries-then = record {
        one_for_each = family-long (count space 0) m both;
        permutations =
            family-permutes (count space 0) m both
            (λ v r. turn_then m (at (label f v)) (at (label g v)) (turn_of m (label f v) (over v r)) (turn_of m (label g v) (next v r)));
        agrees = λ e s r q.
            let a = get_or (facets_of space 1 e) 0 0 in
            let b = get_or (facets_of space 1 e) 1 0 in
            at-family (count space 0) m both b (at (label u e) s) (far-range e r) (label-into u l e s r q)
            ∙ (ap (at (label g b)) (h.agrees e s r q)
            ∙ (k.agrees e (at (label f a) s) r ((turn_of m (label f a) (over a (near-range e r))).into s q)
            ∙ ap (at (label z e)) (sym (at-family (count space 0) m both a s (near-range e r) q))));
      }

  pub isomorphic-back : (u w : List (List ℕ)) → AreLabels space m u → AreLabels space m w → Isomorphic space m u w → Isomorphic space m w u
  isomorphic-back u w l k i = (family (count space 0) m (λ v x. back (label i.0 v) x), carries-back u w l i.0 i.1 (label-into w k))

  pub isomorphic-then : (u w z : List (List ℕ)) → AreLabels space m u → Isomorphic space m u w → Isomorphic space m w z → Isomorphic space m u z
  isomorphic-then u w z l i j = (family (count space 0) m (λ v x. at (label j.0 v) (at (label i.0 v) x)), carries-then u w l i.0 i.1 z j.0 j.1)
