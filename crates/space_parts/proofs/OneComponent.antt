-- The part of a component has one component.
use Rattle.std.proofs.Common.{◌≡◌, inl, inr, ℕ, ◌-◌, ◌≤◌, List, ◌&&◌, true, get_or, sym, ◌∙◌, subst, arith}
use Rattle.std.proofs.lemmas.Bool.{cases_lt, and_from}
use Rattle.number_lists.specs.Words.{upto, holds}
use Rattle.number_lists.specs.Reach.{Reaches, at_start, on}
use Rattle.number_lists.specs.Members.{In}
use Rattle.number_lists.proofs.CallerLemmas.{and-left, and-right, any-In, any-some, holds-In, In-holds, In-upto, upto-In}
use Rattle.face_poset.specs.Poset.{IsSpace, count, facets_of}
use Rattle.regular_check.specs.Rules.{IsRegular}
use Rattle.regular_check.specs.Components.{SameComponentIsAPath, ComponentsAreNumbered, component_of, component_count, share_edge, vertices}
use Rattle.space_parts.specs.Parts.{component_at, cells_in, place_in, part_of}
use Rattle.space_parts.specs.Laws.{IsWhole}
use Rattle.space_parts.proofs.Within.{lies_within}
use Rattle.space_parts.proofs.Places.{IsMember, comes_from, goes_to}
use Rattle.space_parts.proofs.PartSpaces.{part_space}
use Rattle.space_parts.proofs.PartCopies.{copies, part_regular}

module _ (space : List (List (List ℕ))) (number : ℕ) (hs : IsSpace space) (regular : IsRegular space) (paths : SameComponentIsAPath) where
  abbrev part : List (List (List ℕ))
  part = part_of space number

  -- an edge between members leads between their numbers
  step_there : (a b : ℕ) → IsMember space number 0 a → 1 ≤ b → b ≤ count space 0 → share_edge space a b ≡ true → IsMember space number 0 b × (share_edge (part_of space number) (place_in space number 0 a) (place_in space number 0 b) ≡ true)
  step_there a b m low high e =
      let s = any-some (λ e. holds (facets_of space 1 e) a && holds (facets_of space 1 e) b) (upto (count space 1)) e in
      let w = upto-In (count space 1) s.0 s.1 in
      let i : In a (facets_of space 1 s.0) = holds-In (facets_of space 1 s.0) (and-left (holds (facets_of space 1 s.0) a) (holds (facets_of space 1 s.0) b) s.2) in
      let j : In b (facets_of space 1 s.0) = holds-In (facets_of space 1 s.0) (and-right (holds (facets_of space 1 s.0) a) (holds (facets_of space 1 s.0) b) s.2) in
      let edge : component_at space 1 s.0 ≡ number = sym (lies_within space hs regular paths 0 s.0 a w.0 w.1 i) ∙ m.component in
      let me : IsMember space number 1 s.0 = record { low = w.0; high = w.1; component = edge } in
      let g = goes_to space number hs 1 s.0 me in
      let k : ℕ = place_in space number 1 s.0 in
      let p : In (place_in space number 0 a) (facets_of (part_of space number) 1 k) = (copies space number hs regular paths).to 0 s.0 a me i in
      let q : In (place_in space number 0 b) (facets_of (part_of space number) 1 k) = (copies space number hs regular paths).to 0 s.0 b me j in (
        record { low = low; high = high; component = lies_within space hs regular paths 0 s.0 b w.0 w.1 j ∙ edge },
        any-In (λ e. holds (facets_of (part_of space number) 1 e) (place_in space number 0 a) && holds (facets_of (part_of space number) 1 e) (place_in space number 0 b)) (In-upto (count (part_of space number) 1) k g.low g.high)
            (and_from (holds (facets_of (part_of space number) 1 k) (place_in space number 0 a)) (holds (facets_of (part_of space number) 1 k) (place_in space number 0 b)) (In-holds p) (In-holds q)),
      )

  path_there : {a b : ℕ} → IsMember space number 0 a → Reaches (share_edge space) (vertices space) a b
      → IsMember space number 0 b × Reaches (share_edge (part_of space number)) (vertices (part_of space number)) (place_in space number 0 a) (place_in space number 0 b)
  path_there m at_start = (m, at_start)
  path_there m (on {y} {z} q e g) =
      let r = path_there m q in
      let w = upto-In (count space 0) z (holds-In (vertices space) g) in
      let s = step_there y z r.0 w.0 w.1 e in
      let t = goes_to space number hs 0 z s.0 in
      (s.0, on r.1 s.1 (In-holds (In-upto (count (part_of space number) 0) (place_in space number 0 z) t.low t.high)))

  -- two vertices of the part are in the same component
  all_same : (x y : ℕ) → 1 ≤ x → x ≤ count (part_of space number) 0 → 1 ≤ y → y ≤ count (part_of space number) 0 → component_of (part_of space number) x ≡ component_of (part_of space number) y
  all_same x y lx hx ly hy =
      let a = comes_from space number 0 x lx hx in
      let b = comes_from space number 0 y ly hy in
      let u : ℕ = get_or (cells_in space number 0) (x - 1) 0 in
      let v : ℕ = get_or (cells_in space number 0) (y - 1) 0 in
      let same : component_of space u ≡ component_of space v = a.member.component ∙ sym b.member.component in
      let path : Reaches (share_edge space) (vertices space) u v = (paths space u v a.member.low a.member.high b.member.low b.member.high).0 same in
      let there = (path_there a.member path).1 in
      (paths part x y lx hx ly hy).1
      (subst (λ (n : ℕ). Reaches (share_edge (part_of space number)) (vertices (part_of space number)) n y) a.place
      (subst (λ (n : ℕ). Reaches (share_edge (part_of space number)) (vertices (part_of space number)) (place_in space number 0 u) n) b.place there))

  pub one_component : ComponentsAreNumbered → 1 ≤ number → number ≤ component_count space → component_count (part_of space number) ≡ 1
  one_component numbered low high =
      let t = (numbered space).taken number low high in
      let m : IsMember space number 0 t.0 = record { low = t.1; high = t.2; component = t.3 } in
      let g = goes_to space number hs 0 t.0 m in
      let x : ℕ = place_in space number 0 t.0 in
      let some = (numbered part).within x g.low g.high in
      elim (cases_lt 1 (component_count (part_of space number))) [
        | inl q ↦
            let a = (numbered part).taken 1 (omega arith) (omega (arith, q)) in
            let b = (numbered part).taken 2 (omega arith) (omega (arith, q)) in
            absurd (omega (arith, all_same a.0 b.0 a.1 a.2 b.1 b.2, a.3, b.3))
        | inr q ↦ omega (arith, q, some.0, some.1)
      ]

  pub part_whole : ComponentsAreNumbered → 1 ≤ number → number ≤ component_count space → IsWhole (part_of space number)
  part_whole numbered low high = record { valid = part_space space number hs regular paths; regular = part_regular space number hs regular paths; one = one_component numbered low high }
