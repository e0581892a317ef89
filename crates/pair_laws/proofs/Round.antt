-- The edges along a path are a tree.
use Rattle.std.proofs.Common.{◌≡◌, ℕ, List, [], ◌∷◌, map, refl, ap, sym, Bool, true, false, ◌&&◌, ◌||◌, ◌⊎◌, inl, inr}
use Rattle.std.specs.Prelude.{◌==◌, not}
use Rattle.std.proofs.lemmas.Bool.{eqb-true, not-true}
use Rattle.number_lists.specs.Members.{In, here, there}
use Rattle.number_lists.specs.Words.{holds}
use Rattle.number_lists.proofs.CallerLemmas.{and-left, and-right, In-cases, In-holds}
use Rattle.regular_check.specs.declared.cycles.Step.{Step}
use Rattle.pair_laws.specs.Joins.{start, finish, Chain, none, next}
use Rattle.pair_laws.specs.Tree.{Link, Grown, seed, at_end, at_start, distinct}
use Rattle.pair_laws.specs.Round.{CycleTree}
use Rattle.pair_laws.proofs.Lists.{clash, first_held}

-- none of the numbers is among those taken, and no two are alike
abbrev fresh : List ℕ → List ℕ → Bool
fresh ns [] = true
fresh ns (y ∷ ys) = not (holds ns y) && fresh (y ∷ ns) ys

-- one step of the tree
one_step : {A B : ℕ → ℕ} {root : ℕ} (ps : List Link) (ns : List ℕ) (s : Step) → Grown A B root ps ns → holds ns (start A B s) ≡ true → holds ns (finish A B s) ≡ false
    → Grown A B root (record { lower = finish A B s; upper = s.edge } ∷ ps) (finish A B s ∷ ns)
one_step {A} {B} {root} ps ns s g t f = by s.forward refl
  where
    by : (b : Bool) → s.forward ≡ b → Grown A B root (record { lower = finish A B s; upper = s.edge } ∷ ps) (finish A B s ∷ ns)
    by true e = at_start (record { lower = finish A B s; upper = s.edge }) g (rw e refl) f (rw e at t)
    by false e = at_end (record { lower = finish A B s; upper = s.edge }) g (rw e refl) f (rw e at t)

module _ (A B : ℕ → ℕ) (root : ℕ) where
  More : List Step → List Link → Type 0
  More xs ps = (links : List Link) × (nodes : List ℕ) × Grown A B root links nodes
      × ((p : Link) → In p ps → In p links)
      × ((t : Step) → In t xs → (p : Link) × In p links × (p.upper ≡ t.edge))
      × ((p : Link) → In p links → In p ps ⊎ ((t : Step) × In t xs × (p.upper ≡ t.edge)))

  along : (xs : List Step) (v w : ℕ) (ps : List Link) (ns : List ℕ) → Grown A B root ps ns → Chain A B v xs w → holds ns v ≡ true → fresh ns (map (λ t. finish A B t) xs) ≡ true → More xs ps
  unfolding More
  along [] v w ps ns g none t f = (ps, ns, g, (λ p i. i), (λ t i. elim i [ ]), (λ p i. inl i))
  along (s ∷ xs) v w ps ns g (next h) t f =
      let n : Link = record { lower = finish A B s; upper = s.edge } in
      let r = along xs (finish A B s) w (n ∷ ps) (finish A B s ∷ ns) (one_step ps ns s g t (not-true (holds ns (finish A B s)) (and-left _ _ f))) h (first_held (finish A B s) (finish A B s) ns refl) (and-right (not (holds ns (finish A B s))) _ f) in (
        r.0,
        r.1,
        r.2,
        (λ p i. r.3 p (there i)),
        (λ t i. elim (In-cases i) [ inl e ↦ (n, r.3 n here, ap (λ (x : Step). x.edge) (sym e)) | inr j ↦ r.4 t j ]),
        (λ p i. elim (r.5 p i) [ inl j ↦ elim (In-cases j) [ inl e ↦ inr (s, here, ap (λ (x : Link). x.upper) e) | inr k ↦ inl k ] | inr q ↦ inr (q.0, there q.1, q.2) ]),
      )

-- distinct in one list, read from the front
fresh-from : (v : ℕ) (ys ns : List ℕ) → distinct ys ≡ true → ((y : ℕ) → In y ys → holds ns y ≡ false) → fresh ns ys ≡ true
fresh-from v [] ns d k = refl
fresh-from v (y ∷ ys) ns d k = rw (k y here) (fresh-from v ys (y ∷ ns) (and-right _ _ d) (λ z i. apart z i (y == z) refl))
  where
    apart : (z : ℕ) → In z ys → (b : Bool) → (y == z) ≡ b → (y == z) || holds ns z ≡ false
    apart z i true e = absurd (clash ys y (not-true (holds ys y) (and-left (not (holds ys y)) _ d)) (rw (sym (eqb-true y z e)) at (In-holds i)))
    apart z i false e = rw e (k z (there i))

pub cycle_tree : CycleTree
unfolding More
cycle_tree A B v w xs c d =
    let r = along A B v xs v w [] (v ∷ []) seed c (In-holds {x = v} {xs = v ∷ []} here) (fresh-from v (map (λ t. finish A B t) xs) (v ∷ []) (and-right _ _ d) (λ y i. alone y i (v == y) refl)) in
    record { links = r.0; nodes = r.1; grown = r.2; used = r.4; only = λ p i. elim (r.5 p i) [ inl j ↦ elim j [ ] | inr q ↦ q ] }
  where
    alone : (y : ℕ) → In y (map (λ t. finish A B t) xs) → (b : Bool) → (v == y) ≡ b → (v == y) || false ≡ false
    alone y i true e = absurd (clash (map (λ t. finish A B t) xs) v (not-true (holds (map (λ t. finish A B t) xs) v) (and-left (not (holds (map (λ t. finish A B t) xs) v)) _ d)) (rw (sym (eqb-true v y e)) at (In-holds i)))
    alone y i false e = rw e refl
