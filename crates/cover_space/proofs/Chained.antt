-- Steps that go once round, as a path and one last step; and what trees and chains join.
use Rattle.std.proofs.Common.{◌≡◌, inl, inr, ℕ, List, [], ◌∷◌, ◌++◌, map, drop, take, Bool, true, false, cond, get_or, refl, ap, sym, ◌∙◌, subst}
use Rattle.number_lists.specs.Members.{In, here, there}
use Rattle.number_lists.proofs.CallerLemmas.{In-cases, holds-In, map_agree}
use Rattle.face_poset.specs.Poset.{facets_of}
use Rattle.regular_check.specs.declared.cycles.Step.{Step}
use Rattle.regular_check.specs.Cycle.{start_of, end_of}
use Rattle.pair_laws.specs.Joins.{Joins, stay, forth, back, Chain, none, next, start, finish}
use Rattle.pair_laws.specs.Tree.{Link, Grown, seed, at_end, at_start}
use Rattle.pair_laws.proofs.CallerLemmas.{joins-trans}
use Rattle.sphere_collapses.specs.Spheres.{first_end, last_end}

head-of : (x y : ℕ) (xs ys : List ℕ) → x ∷ xs ≡ y ∷ ys → x ≡ y
head-of x y xs ys e = ap (λ (zs : List ℕ). get_or zs 0 x) e

tail-of : (x y : ℕ) (xs ys : List ℕ) → x ∷ xs ≡ y ∷ ys → xs ≡ ys
tail-of x y xs ys e = ap (λ (zs : List ℕ). drop 1 zs) e

module _ (A B : ℕ → ℕ) where
  -- the steps t and xs but for the last, and it; they lead to v
  pub record IsOpened (t : Step) (xs : List Step) (v : ℕ) : Type 0 where
    pub first : List Step
    pub last : Step
    pub whole : t ∷ xs ≡ first ++ last ∷ []
    pub chain : Chain A B (start A B t) first (start A B last)
    pub closing : finish A B last ≡ v
    pub starts : start A B t ∷ map (λ s. finish A B s) first ≡ map (λ s. start A B s) (t ∷ xs)

  pub opened_at : (t : Step) (xs : List Step) (v : ℕ) → map (λ s. finish A B s) (t ∷ xs) ≡ map (λ s. start A B s) xs ++ v ∷ [] → IsOpened t xs v
  opened_at t [] v e = record { first = []; last = t; whole = refl; chain = none; closing = head-of (finish A B t) v [] [] e; starts = refl }
  opened_at t (r ∷ rs) v e =
      let h : finish A B t ≡ start A B r = head-of (finish A B t) (start A B r) (map (λ s. finish A B s) (r ∷ rs)) (map (λ s. start A B s) rs ++ v ∷ []) e in
      let o = opened_at r rs v (tail-of (finish A B t) (start A B r) (map (λ s. finish A B s) (r ∷ rs)) (map (λ s. start A B s) rs ++ v ∷ []) e) in
      record {
        first = t ∷ o.first;
        last = o.last;
        whole = ap (λ (ss : List Step). t ∷ ss) o.whole;
        chain = next (subst (λ (z : ℕ). Chain A B z o.first (start A B o.last)) (sym h) o.chain);
        closing = o.closing;
        starts = ap (λ (zs : List ℕ). start A B t ∷ zs) (ap (λ (z : ℕ). z ∷ map (λ s. finish A B s) o.first) h ∙ o.starts);
      }

  -- a chain joins its ends
  pub chain-joins : (ok : ℕ → Bool) {v w : ℕ} {ss : List Step} → Chain A B v ss w → ((s : Step) → In s ss → ok s.edge ≡ true) → Joins A B ok v w
  chain-joins ok none h = stay
  chain-joins ok {w = w} (next {s = s} c) h = by s.forward refl (chain-joins ok c (λ t i. h t (there i)))
    where
      by : (b : Bool) → s.forward ≡ b → Joins A B ok (finish A B s) w → Joins A B ok (start A B s) w
      by true e j = rw e (forth s.edge (h s here) (rw e at j))
      by false e j = rw e (back s.edge (h s here) (rw e at j))

  -- a tree joins its nodes to the root
  pub tree-joins : (ok : ℕ → Bool) {root : ℕ} {ps : List Link} {ns : List ℕ} → Grown A B root ps ns → ((p : Link) → In p ps → ok p.upper ≡ true) → (n : ℕ) → In n ns → Joins A B ok root n
  tree-joins ok {root} seed h n i = elim (In-cases i) [ inl e ↦ subst (λ (z : ℕ). Joins A B ok root z) (sym e) stay | inr j ↦ elim j [ ] ]
  tree-joins ok {root} (at_end {ns = ns} p g e f t) h n i =
      let old : (k : ℕ) → In k ns → Joins A B ok root k = tree-joins ok g (λ q j. h q (there j)) in
      elim (In-cases i) [
        | inl q ↦ subst (λ (z : ℕ). Joins A B ok root z) (e ∙ sym q) (joins-trans A B (old (B p.upper) (holds-In ns t)) (back p.upper (h p here) stay))
        | inr j ↦ old n j
      ]
  tree-joins ok {root} (at_start {ns = ns} p g e f t) h n i =
      let old : (k : ℕ) → In k ns → Joins A B ok root k = tree-joins ok g (λ q j. h q (there j)) in
      elim (In-cases i) [
        | inl q ↦ subst (λ (z : ℕ). Joins A B ok root z) (e ∙ sym q) (joins-trans A B (old (A p.upper) (holds-In ns t)) (forth p.upper (h p here) stay))
        | inr j ↦ old n j
      ]

-- ---- the steps of a space

module _ (X : List (List (List ℕ))) where
  pub start-is : (s : Step) → start (first_end X) (last_end X) s ≡ start_of X s
  start-is s = by s.forward
    where
      by : (b : Bool) → cond b (first_end X s.edge) (last_end X s.edge) ≡ get_or (facets_of X 1 s.edge) (cond b 0 1) 0
      by true = refl
      by false = refl

  pub finish-is : (s : Step) → finish (first_end X) (last_end X) s ≡ end_of X s
  finish-is s = by s.forward
    where
      by : (b : Bool) → cond b (last_end X s.edge) (first_end X s.edge) ≡ get_or (facets_of X 1 s.edge) (cond b 1 0) 0
      by true = refl
      by false = refl

  pub round-opened : (t : Step) (xs : List Step) → map (end_of X) (t ∷ xs) ≡ drop 1 (map (start_of X) (t ∷ xs)) ++ take 1 (map (start_of X) (t ∷ xs)) → IsOpened (first_end X) (last_end X) t xs (start_of X t)
  round-opened t xs e =
      opened_at (first_end X) (last_end X) t xs (start_of X t)
      (map_agree (λ s. finish (first_end X) (last_end X) s) (end_of X) (t ∷ xs) finish-is ∙ (e ∙ ap (λ (zs : List ℕ). zs ++ start_of X t ∷ []) (sym (map_agree (λ s. start (first_end X) (last_end X) s) (start_of X) xs start-is))))
