-- The facets of a cell of a regular space lie in the component of the cell.
use Rattle.std.proofs.Common.{◌≡◌, ℕ, zero, suc, ◌-◌, ◌<◌, ◌≤◌, List, [], ◌&&◌, true, length, get_or, refl, ap, sym, ◌∙◌, subst, arith}
use Rattle.std.proofs.lemmas.Bool.{eqb-true, and_from}
use Rattle.std.proofs.lemmas.List.{get_or_past}
use Rattle.number_lists.specs.Words.{holds}
use Rattle.number_lists.specs.Reach.{reaches, Reaches, at_start, on}
use Rattle.number_lists.specs.Members.{In}
use Rattle.number_lists.proofs.CallerLemmas.{and-right, any-In, any-some, all-In, holds-In, In-holds, In-at, at-In, In-upto, reaches_is}
use Rattle.face_poset.specs.Poset.{IsCell, IsSpace, count, facets_of}
use Rattle.regular_check.specs.Rules.{IsRegular, meet, connected, each_twice}
use Rattle.regular_check.specs.Components.{SameComponentIsAPath, ComponentsAreNumbered, component_count, share_edge}
use Rattle.regular_check.proofs.CallerLemmas.{IsCopy, edge_copied, disk_copied, solid_copied}
use Rattle.space_parts.specs.Parts.{component_at}

-- nothing stands above dimension 3
pub none_above : (space : List (List (List ℕ))) → IsSpace space → (d : ℕ) → 3 < d → count space d ≡ 0
none_above space hs d l = ap length (get_or_past space d [] (omega (arith, hs.layers)))

pub dim_low : (space : List (List (List ℕ))) → IsSpace space → (d c : ℕ) → 1 ≤ c → c ≤ count space d → d ≤ 3
dim_low space hs zero c low high = omega arith
dim_low space hs (suc zero) c low high = omega arith
dim_low space hs (suc (suc zero)) c low high = omega arith
dim_low space hs (suc (suc (suc zero))) c low high = omega arith
dim_low space hs (suc (suc (suc (suc d)))) c low high = absurd (omega (arith, none_above space hs (suc (suc (suc (suc d)))) (omega arith)))

-- the facets of a cell are a list of facets
pub facets_cell : (space : List (List (List ℕ))) (d c : ℕ) → IsSpace space → 1 ≤ c → c ≤ count space (suc d) → IsCell (count space d) (facets_of space (suc d) c)
facets_cell space d c hs low high =
    let e : suc d - 1 ≡ d = omega arith in
    subst (λ (n : ℕ). IsCell (count space n) (facets_of space (suc d) c)) e (hs.cells (suc d) (omega arith) (c - 1) [] (omega (arith, low, high)))

pub facet_in : (space : List (List (List ℕ))) (d c f : ℕ) → IsSpace space → 1 ≤ c → c ≤ count space (suc d) → In f (facets_of space (suc d) c) → (1 ≤ f) × (f ≤ count space d)
facet_in space d c f hs low high i =
    let is = facets_cell space d c hs low high in
    let k = In-at i in
    let w = is.within k.0 0 k.1 in
    (omega (arith, w.0, k.2), omega (arith, w.1, k.2))

pub first_facet : (space : List (List (List ℕ))) (d c : ℕ) → IsSpace space → 1 ≤ c → c ≤ count space (suc d) → In (get_or (facets_of space (suc d) c) 0 0) (facets_of space (suc d) c)
first_facet space d c hs low high = at-In (facets_of space (suc d) c) 0 0 (omega (arith, (facets_cell space d c hs low high).some))

module _ (space : List (List (List ℕ))) (hs : IsSpace space) where
  -- all cells
  abbrev any : ℕ → ℕ → Type 0
  any d c = (1 ≤ c) × (c ≤ count space d)

  -- each cell is its own copy
  itself : IsCopy space space any (λ d c. c)
  itself =
      record {
        cell = λ d c p. p;
        down = λ d c f p i. facet_in space d c f hs p.0 p.1 i;
        image = λ d c p. p;
        once = λ d a b p q e. e;
        to = λ d c f p i. i;
        from = λ d c y p i. (y, i, refl);
      }

  module _ (regular : IsRegular space) where
    pub two_kept : (e : ℕ) → 1 ≤ e → e ≤ count space 1 → length (facets_of space 1 e) ≡ 2
    two_kept e low high = eqb-true (length (facets_of space 1 e)) 2 (edge_copied space space any (λ d c. c) hs hs itself regular e (low, high))

    disk_kept : (c : ℕ) → 1 ≤ c → c ≤ count space 2 → connected space 1 (facets_of space 2 c) ≡ true
    disk_kept c low high = and-right (each_twice space 1 (facets_of space 2 c)) (connected space 1 (facets_of space 2 c)) (disk_copied space space any (λ d c. c) hs hs itself regular c (low, high))

    solid_kept : (c : ℕ) → 1 ≤ c → c ≤ count space 3 → connected space 2 (facets_of space 3 c) ≡ true
    solid_kept c low high = (solid_copied space space any (λ d c. c) hs hs itself regular c (low, high)).1

    -- ---- components

    module _ (paths : SameComponentIsAPath) where
      Lies : ℕ → ℕ → Type 0
      Lies d c = (f : ℕ) → In f (facets_of space (suc d) c) → component_at space d f ≡ component_at space (suc d) c

      edge_lies : (e : ℕ) → 1 ≤ e → e ≤ count space 1 → Lies 0 e
      unfolding Lies
      edge_lies e low high f i =
          let a : ℕ = get_or (facets_of space 1 e) 0 0 in
          let j : In a (facets_of space 1 e) = first_facet space 0 e hs low high in
          let v = facet_in space 0 e f hs low high i in
          let w = facet_in space 0 e a hs low high j in
          let both : share_edge space f a ≡ true =
          any-In (λ e. holds (facets_of space 1 e) f && holds (facets_of space 1 e) a) (In-upto (count space 1) e low high) (and_from (holds (facets_of space 1 e) f) (holds (facets_of space 1 e) a) (In-holds i) (In-holds j)) in
          (paths space f a v.0 v.1 w.0 w.1).1 (on at_start both (In-holds (In-upto (count space 0) a w.0 w.1)))

      -- from one dimension to the next, where the facets are connected
      module _ (d : ℕ) (below : (c : ℕ) → 1 ≤ c → c ≤ count space (suc d) → Lies d c) (c : ℕ) (low : 1 ≤ c) (high : c ≤ count space (suc (suc d))) where
        abbrev facets : List ℕ
        facets = facets_of space (suc (suc d)) c

        same_step : (a b : ℕ) → In a (facets_of space (suc (suc d)) c) → In b (facets_of space (suc (suc d)) c) → meet space (suc d) a b ≡ true → component_at space (suc d) a ≡ component_at space (suc d) b
        unfolding Lies
        same_step a b i j e =
            let s = any-some (λ f. holds (facets_of space (suc d) b) f) (facets_of space (suc d) a) e in
            let v = facet_in space (suc d) c a hs low high i in
            let w = facet_in space (suc d) c b hs low high j in
            sym (below a v.0 v.1 s.0 s.1) ∙ below b w.0 w.1 s.0 (holds-In (facets_of space (suc d) b) s.2)

        same_path : {a b : ℕ} → In a (facets_of space (suc (suc d)) c) → Reaches (meet space (suc d)) (facets_of space (suc (suc d)) c) a b → In b (facets_of space (suc (suc d)) c) × (component_at space (suc d) a ≡ component_at space (suc d) b)
        same_path i at_start = (i, refl)
        same_path i (on {y} {z} q e g) =
            let r = same_path i q in
            let j : In z (facets_of space (suc (suc d)) c) = holds-In (facets_of space (suc (suc d)) c) g in
            (j, r.1 ∙ same_step y z r.0 j e)

        next_lies : connected space (suc d) (facets_of space (suc (suc d)) c) ≡ true → Lies (suc d) c
        unfolding Lies
        next_lies e f i =
            let a : ℕ = get_or facets 0 0 in
            let j : In a facets = first_facet space (suc d) c hs low high in
            let q : Reaches (meet space (suc d)) facets a f = (reaches_is (meet space (suc d)) facets a f (In-holds j)).0 (all-In (reaches (meet space (suc d)) facets a) e i) in
            sym ((same_path j q).1)

      disk_lies : (c : ℕ) → 1 ≤ c → c ≤ count space 2 → Lies 1 c
      disk_lies c low high = next_lies 0 edge_lies c low high (disk_kept c low high)

      solid_lies : (c : ℕ) → 1 ≤ c → c ≤ count space 3 → Lies 2 c
      solid_lies c low high = next_lies 1 disk_lies c low high (solid_kept c low high)

      pub lies_within : (d c f : ℕ) → 1 ≤ c → c ≤ count space (suc d) → In f (facets_of space (suc d) c) → component_at space d f ≡ component_at space (suc d) c
      unfolding Lies
      lies_within zero c f low high i = edge_lies c low high f i
      lies_within (suc zero) c f low high i = disk_lies c low high f i
      lies_within (suc (suc zero)) c f low high i = solid_lies c low high f i
      lies_within (suc (suc (suc d))) c f low high i = absurd (omega (arith, none_above space hs (suc (suc (suc (suc d)))) (omega arith)))

  -- the component of a cell is one of the components
  pub component_in : ComponentsAreNumbered → (d c : ℕ) → 1 ≤ c → c ≤ count space d → (1 ≤ component_at space d c) × (component_at space d c ≤ component_count space)
  component_in numbered zero c low high = (numbered space).within c low high
  component_in numbered (suc d) c low high =
      let w = facet_in space d c (get_or (facets_of space (suc d) c) 0 0) hs low high (first_facet space d c hs low high) in
      component_in numbered d (get_or (facets_of space (suc d) c) 0 0) w.0 w.1
