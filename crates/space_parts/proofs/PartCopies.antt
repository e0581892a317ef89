-- The part of a component of a regular space is regular: its cells are copies of those of the space.
use Rattle.std.proofs.Common.{◌≡◌, ℕ, suc, ◌-◌, List, true, map, get_or, ap, sym, ◌∙◌, subst, arith}
use Rattle.number_lists.specs.Members.{In}
use Rattle.number_lists.proofs.CallerLemmas.{In-map, map-In}
use Rattle.face_poset.specs.Poset.{IsSpace, facets_of}
use Rattle.regular_check.specs.Rules.{IsRegular, two_ends, one_cycle, each_twice, connected, is_spherical}
use Rattle.regular_check.specs.Components.{SameComponentIsAPath}
use Rattle.regular_check.proofs.CallerLemmas.{regular_from, IsCopy, edge_copied, disk_copied, solid_copied}
use Rattle.space_parts.specs.Parts.{cells_in, place_in, part_of}
use Rattle.space_parts.proofs.Places.{IsMember, comes_from, goes_to, place_once}
use Rattle.space_parts.proofs.PartSpaces.{member_facet, part_space}

module _ (space : List (List (List ℕ))) (number : ℕ) (hs : IsSpace space) (regular : IsRegular space) (paths : SameComponentIsAPath) where
  -- the facets of a copy are the copies of the facets
  pub facets_are : (d c : ℕ) → IsMember space number (suc d) c → facets_of (part_of space number) (suc d) (place_in space number (suc d) c) ≡ map (place_in space number d) (facets_of space (suc d) c)
  facets_are d c m =
      let e : suc d - 1 ≡ d = omega arith in
      (goes_to space number hs (suc d) c m).facets ∙ ap (λ (n : ℕ). map (place_in space number n) (facets_of space (suc d) c)) e

  pub copies : IsCopy space (part_of space number) (IsMember space number) (place_in space number)
  copies =
      record {
        cell = λ d c m. (m.low, m.high);
        down = λ d c f m i. member_facet space number hs regular paths d c f m i;
        image = λ d c m. (let g = goes_to space number hs d c m in (g.low, g.high));
        once = λ d a b m k e. place_once space number d a b hs m k e;
        to = λ d c f m i. subst (In (place_in space number d f)) (sym (facets_are d c m)) (In-map (place_in space number d) i);
        from = λ d c y m i. map-In (place_in space number d) (facets_of space (suc d) c) (subst (In y) (facets_are d c m) i);
      }

  valid : IsSpace (part_of space number)
  valid = part_space space number hs regular paths

  pub part_regular : IsRegular (part_of space number)
  part_regular =
      regular_from (part_of space number)
      (λ e low high.
      let h = comes_from space number 1 e low high in
      subst (λ (x : ℕ). two_ends (part_of space number) x ≡ true) h.place
      (edge_copied space (part_of space number) (IsMember space number) (place_in space number) hs valid copies regular (get_or (cells_in space number 1) (e - 1) 0) h.member))
      (λ e low high.
      let h = comes_from space number 2 e low high in
      subst (λ (x : ℕ). one_cycle (part_of space number) x ≡ true) h.place
      (disk_copied space (part_of space number) (IsMember space number) (place_in space number) hs valid copies regular (get_or (cells_in space number 2) (e - 1) 0) h.member))
      (λ e low high.
      let h = comes_from space number 3 e low high in
      subst
      (λ (x : ℕ). (each_twice (part_of space number) 2 (facets_of (part_of space number) 3 x) ≡ true) × (connected (part_of space number) 2 (facets_of (part_of space number) 3 x) ≡ true) × (is_spherical (part_of space number) x ≡ true)) h.place
      (solid_copied space (part_of space number) (IsMember space number) (place_in space number) hs valid copies regular (get_or (cells_in space number 3) (e - 1) 0) h.member))
