-- A tree that a search grew, by places, as a tree of the numbers at these places.
use Rattle.std.proofs.Common.{◌≡◌, ℕ, suc, ◌-◌, ◌≤◌, List, [], ◌∷◌, Bool, true, map, reverse, length, get_or, refl, ap, sym, ◌∙◌, subst, arith}
use Rattle.std.specs.List.Sorted.{IsStrictlyIncreasing}
use Rattle.number_lists.specs.Words.{holds}
use Rattle.number_lists.specs.Members.{In}
use Rattle.number_lists.proofs.CallerLemmas.{In-map, map-In, In-reverse, reverse-In, holds-In, In-holds, In-Contains, In-at, at-In}
use Rattle.pair_laws.specs.Joins.{Joins}
use Rattle.pair_laws.specs.Tree.{Link, Grown, HasTree, distinct}
use Rattle.pair_laws.proofs.CallerLemmas.{root_taken}
use Rattle.sphere_collapses.specs.declared.tree.Taken.{Taken}
use Rattle.sphere_collapses.specs.Places.{number_at}
use Rattle.sphere_collapses.specs.Trees.{from_end, to_end, link_of, IsWithin, IsTree}
use Rattle.sphere_collapses.proofs.Trees.{holds-reverse}
use Rattle.sphere_collapses.proofs.Linked.{place_once, In-place}
use Rattle.sphere_collapses.proofs.Moved.{grown-moved, joined_taken, has_tree}

-- the pair of the numbers at the places of a node and a link
abbrev pub numbers_of : (nodes links : List ℕ) → Taken → Link
numbers_of nodes links t = record { lower = number_at nodes t.node; upper = number_at links t.link }

module _ (nodes links : List ℕ) (ends : List (List ℕ)) (root : ℕ) (tree : List Taken) (A B : ℕ → ℕ) (h : IsTree ends (length nodes) root tree) (rises : IsStrictlyIncreasing nodes) (long : length ends ≡ length links)
    (first : (f : ℕ) → 1 ≤ f → f ≤ length links → number_at nodes (from_end ends f) ≡ A (number_at links f)) (last : (f : ℕ) → 1 ≤ f → f ≤ length links → number_at nodes (to_end ends f) ≡ B (number_at links f)) where
  place_of : {t : Taken} → In t tree → (1 ≤ t.link) × (t.link ≤ length links)
  place_of {t} i =
      let c = In-Contains i in
      let w : IsWithin (length ends) t = subst (IsWithin (length ends)) c.2 (h.growing.within c.0 t c.1) in
      (w.low, omega (arith, w.high, long))

  mapped : (ts : List Taken) → map (λ (p : Link). let q : Link = record { lower = number_at nodes p.lower; upper = number_at links p.upper } in q) (map link_of ts) ≡ map (numbers_of nodes links) ts
  mapped [] = refl
  mapped (t ∷ ts) = ap (λ (ps : List Link). numbers_of nodes links t ∷ ps) (mapped ts)

  held : (n : ℕ) → holds (reverse h.taken) n ≡ true → (1 ≤ n) × (n ≤ length nodes)
  held n e = h.inside n (sym (holds-reverse h.taken n) ∙ e)

  by_numbers : Grown A B (number_at nodes root) (map (numbers_of nodes links) (reverse tree)) (map (number_at nodes) (reverse h.taken))
  by_numbers =
      subst (λ (ps : List Link). Grown A B (number_at nodes root) ps (map (number_at nodes) (reverse h.taken))) (mapped (reverse tree))
      (grown-moved (from_end ends) (to_end ends) A B (number_at nodes) (number_at links) root (map link_of (reverse tree)) (reverse h.taken) h.growing.grown
      (λ p i. (
      let r = map-In link_of (reverse tree) i in
      let w = place_of (reverse-In tree r.1) in
      let u : p.upper ≡ r.0.link = ap (λ (x : Link). x.upper) r.2 in
      let low : 1 ≤ p.upper = omega (arith, w.0, u) in
      let high : p.upper ≤ length links = omega (arith, w.1, u) in
      (sym (first p.upper low high), sym (last p.upper low high))
      ))
      (λ a b i j e. (let x = held a i in let y = held b j in place_once nodes rises a b x.0 x.1 y.0 y.1 e)))

  -- what was taken, by number
  number_held : (n : ℕ) → (1 ≤ n) × (n ≤ length nodes) → holds (map (number_at nodes) (reverse h.taken)) (number_at nodes n) ≡ true → holds h.taken n ≡ true
  number_held n w e =
      let r = map-In (number_at nodes) (reverse h.taken) (holds-In (map (number_at nodes) (reverse h.taken)) e) in
      let v = held r.0 (In-holds r.1) in
      let same : n ≡ r.0 = place_once nodes rises n r.0 w.0 w.1 v.0 v.1 r.2 in
      In-holds (subst (λ (x : ℕ). In x h.taken) (sym same) (reverse-In h.taken r.1))

  held_number : (n : ℕ) → holds h.taken n ≡ true → holds (map (number_at nodes) (reverse h.taken)) (number_at nodes n) ≡ true
  held_number n e = In-holds (In-map (number_at nodes) (In-reverse (holds-In h.taken e)))

  -- a link between nodes by number: both were taken, or neither
  module _ (range : (f : ℕ) → 1 ≤ f → f ≤ length ends → ((1 ≤ from_end ends f) × (from_end ends f ≤ length nodes)) × ((1 ≤ to_end ends f) × (to_end ends f ≤ length nodes))) where
    abbrev got : ℕ → Bool
    got n = holds (map (number_at nodes) (reverse h.taken)) n

    both_ways : (f : ℕ) → 1 ≤ f → f ≤ length links → (got (A (number_at links f)) ≡ true → got (B (number_at links f)) ≡ true) × (got (B (number_at links f)) ≡ true → got (A (number_at links f)) ≡ true)
    both_ways f low high =
        let most : f ≤ length ends = omega (arith, high, long) in
        let r = range f low most in (
          λ e. ap got (sym (last f low high)) ∙ held_number (to_end ends f) (h.closed f low most (number_held (from_end ends f) r.0 (ap got (first f low high) ∙ e))),
          λ e. ap got (sym (first f low high)) ∙ held_number (from_end ends f) (h.closed_back f low most (number_held (to_end ends f) r.1 (ap got (last f low high) ∙ e))),
        )

    pub number_tree : (ok : ℕ → Bool) (all : List ℕ) → ((e : ℕ) → ok e ≡ true → In e links) → ((e : ℕ) → In e links → In e all) → distinct nodes ≡ true → ((n : ℕ) → In n nodes → Joins A B ok (number_at nodes root) n)
        → (T : HasTree A B (number_at nodes root) nodes all) × (T.pairs ≡ map (numbers_of nodes links) (reverse tree))
    number_tree ok all inside more once joined =
        has_tree A B (number_at nodes root) nodes all (map (numbers_of nodes links) (reverse tree)) (map (number_at nodes) (reverse h.taken)) by_numbers once
        (λ n i. (let r = map-In (number_at nodes) (reverse h.taken) i in let w = held r.0 (In-holds r.1) in subst (λ (x : ℕ). In x nodes) (sym r.2) (In-place nodes rises r.0 w.0 w.1)))
        (λ p i. (let r = map-In (numbers_of nodes links) (reverse tree) i in let w = place_of (reverse-In tree r.1) in more p.upper (subst (λ (x : ℕ). In x links) (sym (ap (λ (q : Link). q.upper) r.2)) (In_link r.0.link w.0 w.1))))
        (λ n i. joined_taken (map (number_at nodes) (reverse h.taken)) (λ e o. step e (inside e o)) (joined n i)
        (root_taken (map (numbers_of nodes links) (reverse tree)) (map (number_at nodes) (reverse h.taken)) by_numbers))
      where
        In_link : (f : ℕ) → 1 ≤ f → f ≤ length links → In (number_at links f) links
        In_link f low high = at-In links (f - 1) 0 (omega (arith, low, high))

        step : (e : ℕ) → In e links → (got (A e) ≡ true → got (B e) ≡ true) × (got (B e) ≡ true → got (A e) ≡ true)
        step e i =
            let k = In-at i in
            let q : suc k.0 - 1 ≡ k.0 = omega arith in
            let is : number_at links (suc k.0) ≡ e = ap (λ (n : ℕ). get_or links n 0) q ∙ k.2 in
            subst (λ (x : ℕ). (got (A x) ≡ true → got (B x) ≡ true) × (got (B x) ≡ true → got (A x) ≡ true)) is (both_ways (suc k.0) (omega arith) (omega (arith, k.1)))
