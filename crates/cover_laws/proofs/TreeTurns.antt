-- Turning the sheets over each vertex along the tree of edges that are paired with vertices, so that the labels of these become the identity.
use Rattle.std.proofs.Common.{◌≡◌, inl, inr, ℕ, ◌+◌, ◌≤◌, List, [], ◌∷◌, length, get_or, refl, ap, sym, ◌∙◌, subst, Bool, true, false, cond, filter}
use Rattle.std.specs.Prelude.{◌==◌, not}
use Rattle.std.specs.List.{list_all}
use Rattle.std.proofs.lemmas.Bool.{eqb-true, eq-eqb, false≢true, not_from_false, false_from_ne_true}
use Rattle.number_lists.specs.Members.{In, here, there}
use Rattle.number_lists.specs.Words.{upto}
use Rattle.number_lists.proofs.CallerLemmas.{In-filter, filter-In, In-inside}
use Rattle.face_poset.specs.declared.cells.Pair.{Pair}
use Rattle.face_poset.specs.Poset.{count, facets_of, IsSpace}
use Rattle.regular_check.specs.declared.cycles.Step.{Step}
use Rattle.regular_check.specs.Rules.{IsRegular}
use Rattle.regular_check.specs.Cycle.{start_of, end_of, step_from}
use Rattle.vector_field.specs.Pairs.{others, IsValid}
use Rattle.vector_field.proofs.CallerLemmas.{Lined, lined-filter, Goes, lined-from, not-itself, incident-true, Incident}
use Rattle.sheet_laws.specs.Permutations.{InRange, is_permutation, at, back}
use Rattle.sheet_laws.specs.Labellings.{label, step, AreLabels, Carries}
use Rattle.sheet_laws.proofs.CallerLemmas.{Turn, turn_id, turn_then, turn_of, back_turn, at-of-back, same_turns, at_identity, identity_permutes, parts-of, label-permutes, Ends, ends-of}
use Rattle.cover_laws.proofs.Families.{family, family-long, at-family, family-permutes}
use Rattle.cover_laws.proofs.Carrying.{start-range, end-range, step-carried, moved, moved-labels, moved-carries}

-- ---- turns set one after another: at the lower of each pair, those of the vertex it leads towards after the step over

module _ (towards : Pair → ℕ) (over : Pair → ℕ → ℕ) where
  abbrev pub set_at : Pair → (ℕ → ℕ → ℕ) → ℕ → ℕ → ℕ
  set_at p f v = cond (v == p.lower) (λ x. f (towards p) (over p x)) (f v)

  abbrev pub turned : List Pair → (ℕ → ℕ → ℕ) → ℕ → ℕ → ℕ
  turned [] f = f
  turned (p ∷ ps) f = turned ps (set_at p f)

  differ : (v w : ℕ) → (v ≡ w → ⊥) → (v == w) ≡ false
  differ v w n = false_from_ne_true (v == w) (λ e. n (eqb-true v w e))

  stays : (ps : List Pair) (f : ℕ → ℕ → ℕ) (v x : ℕ) → ((q : Pair) → In q ps → v ≡ q.lower → ⊥) → turned ps f v x ≡ f v x
  stays [] f v x h = refl
  stays (p ∷ ps) f v x h =
      stays ps (set_at p f) v x (λ q i. h q (there i)) ∙ ap (λ (b : Bool). cond b (λ y. f (towards p) (over p y)) (f v) x) (differ v p.lower (h p here))

  -- a later pair has none of the two vertices as its lower
  abbrev pub Before : Pair → Pair → Type 0
  Before p q = (p.lower ≡ q.lower → ⊥) × (towards p ≡ q.lower → ⊥)

  agree : (ps : List Pair) (f : ℕ → ℕ → ℕ) {b : Pair} (x : ℕ) → Lined Before ps → ((p : Pair) → In p ps → towards p ≡ p.lower → ⊥) → In b ps
      → turned ps f b.lower x ≡ turned ps f (towards b) (over b x)
  agree [] f x l n i = elim i [ ]
  agree (b ∷ ps) f x l n here =
      stays ps (set_at b f) b.lower x (λ q i. (l.0 q i).0)
      ∙ (ap (λ (t : Bool). cond t (λ y. f (towards b) (over b y)) (f b.lower) x) (eq-eqb b.lower b.lower refl)
      ∙ sym (stays ps (set_at b f) (towards b) (over b x) (λ q i. (l.0 q i).1)
      ∙ ap (λ (t : Bool). cond t (λ y. f (towards b) (over b y)) (f (towards b)) (over b x)) (differ (towards b) b.lower (n b here))))
  agree (a ∷ ps) f x l n (there i) = agree ps (set_at a f) x l.1 (λ p j. n p (there j)) i

  turned-turn : (m : ℕ) (ps : List Pair) (f : ℕ → ℕ → ℕ) → ((p : Pair) → In p ps → Turn m (over p)) → ((v : ℕ) → Turn m (f v)) → (v : ℕ) → Turn m (turned ps f v)
  turned-turn m [] f o t v = t v
  turned-turn m (p ∷ ps) f o t v = turned-turn m ps (set_at p f) (λ q i. o q (there i)) (λ w. by w (w == p.lower)) v
    where
      by : (w : ℕ) (b : Bool) → Turn m (cond b (λ x. f (towards p) (over p x)) (f w))
      by w true = turn_then m (over p) (f (towards p)) (o p here) (t (towards p))
      by w false = t w

lined-weaker : (R S : Pair → Pair → Type 0) (ps : List Pair) → Lined R ps → ((p q : Pair) → In p ps → In q ps → R p q → S p q) → Lined S ps
lined-weaker R S [] l h = tt
lined-weaker R S (p ∷ ps) l h = (λ q i. h p q here (there i) (l.0 q i), lined-weaker R S ps l.1 (λ a b i j. h a b (there i) (there j)))

-- ---- the edges that are paired with vertices

-- the pairs of vertices
abbrev pub branches : List Pair → List Pair
branches pairs = filter (λ (p : Pair). p.dim == 0) pairs

module _ (pairs : List Pair) (p : Pair) (i : In p (branches pairs)) where
  pub branch-in : In p pairs
  branch-in = In-inside (λ (p : Pair). p.dim == 0) pairs i

  pub branch-dim : p.dim ≡ 0
  branch-dim = eqb-true p.dim 0 (filter-In (λ (p : Pair). p.dim == 0) pairs i)

-- the step from the vertex along its edge
abbrev pub branch_step : List (List (List ℕ)) → Pair → Step
branch_step space p = step_from space p.lower p.upper

module _ (space : List (List (List ℕ))) (pairs : List Pair) (is : IsSpace space) (regular : IsRegular space) (valid : IsValid space pairs) where
  pub record IsBranch (p : Pair) : Type 0 where
    pub range : InRange (count space 1) p.upper
    pub starts : start_of space (branch_step space p) ≡ p.lower
    pub leads : In (end_of space (branch_step space p)) (others space p)

  pub branch : (p : Pair) → In p pairs → p.dim ≡ 0 → IsBranch p
  branch p i d = record { range = range; starts = ends_are.0; leads = ends_are.1 }
    where
      inc : Incident space p
      inc = incident-true space p ((lined-from space pairs valid).incident p i)

      range : InRange (count space 1) p.upper
      range = (inc.upper_first, subst (λ (k : ℕ). p.upper ≤ count space (k + 1)) d inc.upper_last)

      facet : In p.lower (facets_of space 1 p.upper)
      facet = subst (λ (k : ℕ). In p.lower (facets_of space (k + 1) p.upper)) d inc.facet

      ends : Ends space p.upper
      ends = ends-of space p.upper is regular range

      a : ℕ
      a = get_or (facets_of space 1 p.upper) 0 0

      other : (g : ℕ) → In g (facets_of space 1 p.upper) → (g ≡ p.lower → ⊥) → In g (others space p)
      other g j n =
          In-filter (λ f. not (f == p.lower)) (subst (λ (k : ℕ). In g (facets_of space (k + 1) p.upper)) (sym d) j)
          (not_from_false (g == p.lower) (false_from_ne_true (g == p.lower) (λ e. n (eqb-true g p.lower e))))

      by : (b : Bool) → (get_or (facets_of space 1 p.upper) 0 0 == p.lower) ≡ b
          → (get_or (facets_of space 1 p.upper) (cond b 0 1) 0 ≡ p.lower) × In (get_or (facets_of space 1 p.upper) (cond b 1 0) 0) (others space p)
      by true e =
          let k : get_or (facets_of space 1 p.upper) 0 0 ≡ p.lower = eqb-true (get_or (facets_of space 1 p.upper) 0 0) p.lower e in
          (k, other (get_or (facets_of space 1 p.upper) 1 0) ends.there_second (λ j. ends.apart (k ∙ sym j)))
      by false e =
          let n : get_or (facets_of space 1 p.upper) 0 0 ≡ p.lower → ⊥ = λ k. false≢true (sym e ∙ eq-eqb (get_or (facets_of space 1 p.upper) 0 0) p.lower k) in
          elim (ends.only p.lower facet) [
            | inl k ↦ absurd (n (sym k))
            | inr k ↦ (sym k, other (get_or (facets_of space 1 p.upper) 0 0) ends.there_first n)
          ]

      ends_are : (start_of space (branch_step space p) ≡ p.lower) × In (end_of space (branch_step space p)) (others space p)
      ends_are = by (get_or (facets_of space 1 p.upper) 0 0 == p.lower) refl

  abbrev towards : Pair → ℕ
  towards p = end_of space (branch_step space p)

  pub branches-go : Lined (Goes space) (branches pairs)
  branches-go = lined-filter (Goes space) (λ (p : Pair). p.dim == 0) pairs (lined-from space pairs valid).lined

  branches-lined : Lined (Before towards (λ p x. x)) (branches pairs)
  branches-lined =
      lined-weaker (Goes space) (Before towards (λ p x. x)) (branches pairs)
      branches-go (λ p q i j g. (
        λ e. g.apart.0 (inl (branch-dim pairs p i ∙ sym (branch-dim pairs q j), e)),
        λ e. g.free (branch-dim pairs q j ∙ sym (branch-dim pairs p i)) (subst (λ (v : ℕ). In v (others space p)) e (branch p (branch-in pairs p i) (branch-dim pairs p i)).leads),
      ))

  not-back : (p : Pair) → In p (branches pairs) → towards p ≡ p.lower → ⊥
  not-back p i e = not-itself space p (subst (λ (v : ℕ). In v (others space p)) e (branch p (branch-in pairs p i) (branch-dim pairs p i)).leads)

  -- ---- the turns of a family of labels

  module _ (m : ℕ) (u : List (List ℕ)) (lu : AreLabels space m u) where
    abbrev over : Pair → ℕ → ℕ
    over p x = step u (branch_step space p) x

    step-turn : (s : Step) → InRange (count space 1) s.edge → Turn m (step u s)
    step-turn s r = by s.forward
      where
        p : is_permutation m (label u s.edge) ≡ true
        p = label-permutes m (count space 1) u lu.one_for_each lu.permutations s.edge r

        by : (b : Bool) → Turn m (λ x. cond b (at (label u s.edge) x) (back (label u s.edge) x))
        by true = turn_of m (label u s.edge) p
        by false = back_turn m (label u s.edge) p

    abbrev tree_turn : ℕ → ℕ → ℕ
    tree_turn = turned towards over (branches pairs) (λ v x. x)

    tree-turns : (v : ℕ) → Turn m (tree_turn v)
    tree-turns v =
        turned-turn towards over m (branches pairs) (λ v x. x)
        (λ p i. step-turn (branch_step space p) (branch p (branch-in pairs p i) (branch-dim pairs p i)).range) (λ v. turn_id m) v

    pub turns : List (List ℕ)
    turns = family (count space 0) m tree_turn

    pub turns-long : length turns ≡ count space 0
    unfolding turns
    turns-long = family-long (count space 0) m tree_turn

    pub turns-permute : list_all (is_permutation m) turns ≡ true
    unfolding turns
    turns-permute = family-permutes (count space 0) m tree_turn (λ v r. tree-turns v)

    -- the labels turned
    pub gauged : List (List ℕ)
    gauged = moved space m is regular u turns lu turns-long turns-permute

    pub gauged-labels : AreLabels space m gauged
    unfolding gauged
    gauged-labels = moved-labels space m is regular u turns lu turns-long turns-permute

    pub gauged-carries : Carries space m u gauged turns
    unfolding gauged
    gauged-carries = moved-carries space m is regular u turns lu turns-long turns-permute

    -- a step along a branch leaves each sheet
    branch-step : (p : Pair) → (i : In p (branches pairs)) → (y : ℕ) → InRange m y → step gauged (branch_step space p) y ≡ y
    unfolding turns
    branch-step p i y q =
        ap (step gauged s) (sym (at-of-back m (label turns (start_of space s)) pv y q))
        ∙ (step-carried space m is regular u gauged turns lu gauged-labels gauged-carries s b.range x qx
        ∙ (at-family (count space 0) m tree_turn (end_of space s) (step u s x) (end-range space m is regular s b.range) ((step-turn s b.range).into x qx)
        ∙ (sym (agree towards over (branches pairs) (λ v x. x) x branches-lined not-back i)
        ∙ (ap (λ (v : ℕ). tree_turn v x) (sym b.starts)
        ∙ (sym (at-family (count space 0) m tree_turn (start_of space s) x (start-range space m is regular s b.range) qx)
        ∙ at-of-back m (label turns (start_of space s)) pv y q)))))
      where
        s : Step
        s = branch_step space p

        b : IsBranch p
        b = branch p (branch-in pairs p i) (branch-dim pairs p i)

        pv : is_permutation m (label turns (start_of space s)) ≡ true
        pv = label-permutes m (count space 0) turns turns-long turns-permute (start_of space s) (start-range space m is regular s b.range)

        x : ℕ
        x = back (label turns (start_of space s)) y

        qx : InRange m x
        qx = (back_turn m (label turns (start_of space s)) pv).into y q

    -- so their labels are the identity
    pub gauged-tree : (p : Pair) → In p pairs → p.dim ≡ 0 → label gauged p.upper ≡ upto m
    gauged-tree p i d = by (get_or (facets_of space 1 p.upper) 0 0 == p.lower) (branch-step p k)
      where
        k : In p (branches pairs)
        k = In-filter (λ (p : Pair). p.dim == 0) i (eq-eqb p.dim 0 d)

        pw : is_permutation m (label gauged p.upper) ≡ true
        pw = label-permutes m (count space 1) gauged gauged-labels.one_for_each gauged-labels.permutations p.upper (branch p i d).range

        long : length (upto m) ≡ m
        long = (parts-of m (upto m) (identity_permutes m)).long

        by : (c : Bool) → ((y : ℕ) → InRange m y → cond c (at (label gauged p.upper) y) (back (label gauged p.upper) y) ≡ y) → label gauged p.upper ≡ upto m
        by true h = same_turns m (label gauged p.upper) (upto m) (parts-of m (label gauged p.upper) pw).long long (λ y q. h y q ∙ sym (at_identity m y q))
        by false h =
            same_turns m (label gauged p.upper) (upto m) (parts-of m (label gauged p.upper) pw).long long
            (λ y q. ap (at (label gauged p.upper)) (sym (h y q)) ∙ (at-of-back m (label gauged p.upper) pw y q ∙ sym (at_identity m y q)))
