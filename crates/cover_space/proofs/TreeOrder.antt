-- A tree, forward: each node is taken along a link to one that was taken before.
use Rattle.std.proofs.Common.{◌≡◌, ◌⊎◌, inl, inr, ℕ, ◌+◌, ◌<◌, ◌≤◌, List, [], ◌∷◌, ◌++◌, true, map, reverse, length, take, get_or, ap, sym, ◌∙◌, subst, arith}
use Rattle.std.proofs.lemmas.Bool.{cases_lt}
use Rattle.std.proofs.lemmas.List.{reverse-append, reverse-reverse, length-reverse, get_or_append_left, get_or-append-add, take_all, take-append-le}
use Rattle.number_lists.specs.Members.{In, here, there}
use Rattle.number_lists.specs.Words.{holds}
use Rattle.number_lists.proofs.CallerLemmas.{In-cases, In-map, map-In, In-reverse, holds-In}
use Rattle.pair_laws.specs.Tree.{Grown, seed, at_end, at_start}
use Rattle.pair_laws.proofs.CallerLemmas.{root_taken}
use Rattle.sphere_collapses.specs.declared.tree.Taken.{Taken}
use Rattle.sphere_collapses.specs.Trees.{from_end, to_end, link_of, IsTree}
use Rattle.sphere_collapses.proofs.CallerLemmas.{holds-reverse}

abbrev pub nodes_of : List Taken → List ℕ
nodes_of tree = map (λ (t : Taken). t.node) tree

-- a node, taken along a link to one of those before
abbrev pub IsStep : (A B : ℕ → ℕ) → Taken → List ℕ → Type 0
IsStep A B t before = ((A t.link ≡ t.node) × In (B t.link) before) ⊎ ((B t.link ≡ t.node) × In (A t.link) before)

reverse-first : {A : Type 0} (x : A) (xs : List A) → reverse (x ∷ xs) ≡ reverse xs ++ x ∷ []
reverse-first x xs = reverse-append (x ∷ []) xs

module _ (A B : ℕ → ℕ) (root : ℕ) where
  -- ---- latest first

  wider : (n x : ℕ) (xs : List ℕ) → In n (root ∷ xs) → In n (root ∷ x ∷ xs)
  wider n x xs i = elim (In-cases i) [ inl e ↦ subst (λ (z : ℕ). In z (root ∷ x ∷ xs)) (sym e) here | inr j ↦ there (there j) ]

  newest : (n x : ℕ) (xs : List ℕ) → n ≡ x → In n (root ∷ x ∷ xs)
  newest n x xs e = subst (λ (z : ℕ). In z (root ∷ x ∷ xs)) (sym e) (there here)

  taken-in : (rs : List Taken) (ns : List ℕ) → Grown A B root (map link_of rs) ns → (n : ℕ) → In n ns → In n (root ∷ nodes_of rs)
  taken-in [] ns seed n i = i
  taken-in (r ∷ rs) [] h n i = elim i [ ]
  taken-in (r ∷ rs) (x ∷ ns) (at_end p g e f t) n i = elim (In-cases i) [ inl q ↦ newest n r.node (nodes_of rs) q | inr j ↦ wider n r.node (nodes_of rs) (taken-in rs ns g n j) ]
  taken-in (r ∷ rs) (x ∷ ns) (at_start p g e f t) n i = elim (In-cases i) [ inl q ↦ newest n r.node (nodes_of rs) q | inr j ↦ wider n r.node (nodes_of rs) (taken-in rs ns g n j) ]

  -- ---- forward

  turned : (rs : List Taken) (n : ℕ) → In n (root ∷ nodes_of rs) → In n (root ∷ nodes_of (reverse rs))
  turned rs n i = elim (In-cases i) [
    | inl e ↦ subst (λ (z : ℕ). In z (root ∷ nodes_of (reverse rs))) (sym e) here
    | inr j ↦ let k = map-In (λ (t : Taken). t.node) rs j in subst (λ (z : ℕ). In z (root ∷ nodes_of (reverse rs))) (sym k.2) (there (In-map (λ (t : Taken). t.node) (In-reverse k.1)))
  ]

  last-step : (r : Taken) (rs : List Taken) (ns : List ℕ) → Grown A B root (link_of r ∷ map link_of rs) ns → IsStep A B r (root ∷ nodes_of (reverse rs))
  last-step r rs [] h = elim h [ ]
  last-step r rs (x ∷ ns) (at_end p g e f t) = inl (e, turned rs (B r.link) (taken-in rs ns g (B r.link) (holds-In ns t)))
  last-step r rs (x ∷ ns) (at_start p g e f t) = inr (e, turned rs (A r.link) (taken-in rs ns g (A r.link) (holds-In ns t)))

  before : (r : Taken) (rs : List Taken) (ns : List ℕ) → Grown A B root (link_of r ∷ map link_of rs) ns → (ms : List ℕ) × Grown A B root (map link_of rs) ms
  before r rs [] h = elim h [ ]
  before r rs (x ∷ ns) (at_end p g e f t) = (ns, g)
  before r rs (x ∷ ns) (at_start p g e f t) = (ns, g)

  forward : (rs : List Taken) (ns : List ℕ) → Grown A B root (map link_of rs) ns → (i : ℕ) (d : Taken) → i < length rs → IsStep A B (get_or (reverse rs) i d) (root ∷ nodes_of (take i (reverse rs)))
  forward [] ns h i d l = absurd (omega (arith, l))
  forward (r ∷ rs) ns h i d l =
      subst (λ (ts : List Taken). IsStep A B (get_or ts i d) (root ∷ nodes_of (take i ts))) (sym (reverse-first r rs)) (by (cases_lt i (length rs)) (λ ms g k. forward rs ms g i d k))
    where
      n : length (reverse rs) ≡ length rs
      n = length-reverse rs

      by : (i < length rs) ⊎ (length rs ≤ i) → ((ms : List ℕ) → Grown A B root (map link_of rs) ms → i < length rs → IsStep A B (get_or (reverse rs) i d) (root ∷ nodes_of (take i (reverse rs)))) → IsStep A B (get_or (reverse rs ++ r ∷ []) i d) (root ∷ nodes_of (take i (reverse rs ++ r ∷ [])))
      by (inl k) again =
          let b = before r rs ns h in
          subst (λ (t : Taken). IsStep A B t (root ∷ nodes_of (take i (reverse rs ++ r ∷ [])))) (sym (get_or_append_left (reverse rs) (r ∷ []) d i (omega (arith, k, n))))
          (subst (λ (ts : List Taken). IsStep A B (get_or (reverse rs) i d) (root ∷ nodes_of ts)) (sym (take-append-le i (reverse rs) (r ∷ []) (omega (arith, k, n)))) (again b.0 b.1 k))
      by (inr k) again =
          let e : i ≡ length (reverse rs) + 0 = omega (arith, l, k, n) in
          let f : i ≡ length (reverse rs) = omega (arith, e) in
          subst (λ (t : Taken). IsStep A B t (root ∷ nodes_of (take i (reverse rs ++ r ∷ [])))) (sym (ap (λ (j : ℕ). get_or (reverse rs ++ r ∷ []) j d) e ∙ get_or-append-add (reverse rs) (r ∷ []) 0 d))
          (subst (λ (ts : List Taken). IsStep A B r (root ∷ nodes_of ts)) (sym (take-append-le i (reverse rs) (r ∷ []) (omega (arith, f)) ∙ take_all i (reverse rs) (omega (arith, f)))) (last-step r rs ns h))

module _ (links : List (List ℕ)) (nodes root : ℕ) (tree : List Taken) (h : IsTree links nodes root tree) where
  -- each node in its turn
  pub step-at : (i : ℕ) (d : Taken) → i < length tree → IsStep (from_end links) (to_end links) (get_or tree i d) (root ∷ nodes_of (take i tree))
  step-at i d l =
      subst (λ (ts : List Taken). IsStep (from_end links) (to_end links) (get_or ts i d) (root ∷ nodes_of (take i ts))) (reverse-reverse tree)
      (forward (from_end links) (to_end links) root (reverse tree) (reverse h.taken) h.growing.grown i d (omega (arith, l, length-reverse tree)))

  -- what was taken is the root, or the node of a step
  pub node-in : (n : ℕ) → holds h.taken n ≡ true → In n (root ∷ nodes_of tree)
  node-in n e =
      subst (λ (ts : List Taken). In n (root ∷ nodes_of ts)) (reverse-reverse tree)
      (turned (from_end links) (to_end links) root (reverse tree) n (taken-in (from_end links) (to_end links) root (reverse tree) (reverse h.taken) h.growing.grown n (In-reverse (holds-In h.taken e))))

  pub root-held : holds h.taken root ≡ true
  root-held = sym (holds-reverse h.taken root) ∙ root_taken (map link_of (reverse tree)) (reverse h.taken) h.growing.grown
