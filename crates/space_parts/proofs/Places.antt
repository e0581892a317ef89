-- The cells of a component, and the numbers that its part gives them.
use Rattle.std.proofs.Common.{◌≡◌, ℕ, zero, suc, ◌-◌, ◌<◌, ◌≤◌, List, [], Bool, eqb, length, get_or, refl, ap, sym, ◌∙◌, arith}
use Rattle.std.proofs.lemmas.Bool.{eqb-true, eq-eqb}
use Rattle.std.proofs.lemmas.List.{get_or-map, length-map}
use Rattle.face_poset.specs.Poset.{IsSpace, layer, count, facets_of}
use Rattle.space_parts.specs.Parts.{component_at, cells_in, place_in, facets_in, layer_in, part_of}
use Rattle.space_parts.proofs.Counted.{StandsAt, stands_at, IsAt, is_at, count-lt}
use Rattle.space_parts.proofs.Within.{dim_low}

-- a fact at each dimension from 0 to 3
pub by_dim : (P : ℕ → Type 0) → P 0 → P 1 → P 2 → P 3 → (d : ℕ) → d ≤ 3 → P d
by_dim P a b c e zero l = a
by_dim P a b c e (suc zero) l = b
by_dim P a b c e (suc (suc zero)) l = c
by_dim P a b c e (suc (suc (suc zero))) l = e
by_dim P a b c e (suc (suc (suc (suc d)))) l = absurd (omega arith)

module _ (space : List (List (List ℕ))) (number : ℕ) where
  -- the cells of the component
  pub record IsMember (d c : ℕ) : Type 0 where
    pub low : 1 ≤ c
    pub high : c ≤ count space d
    pub component : component_at space d c ≡ number

  abbrev has : ℕ → ℕ → Bool
  has d c = eqb (component_at space d c) number

  pub place_lt : (d a b : ℕ) → IsMember d b → a < b → place_in space number d a < place_in space number d b
  place_lt d a b m l = count-lt (has d) a b l (eq-eqb (component_at space d b) number m.component)

  layer-at : (d : ℕ) → d ≤ 3 → layer (part_of space number) d ≡ layer_in space number d
  layer-at d l = by_dim (λ e. layer (part_of space number) e ≡ layer_in space number e) refl refl refl refl d l

  layer-above : (d : ℕ) → 3 < d → layer (part_of space number) d ≡ []
  layer-above zero l = absurd (omega arith)
  layer-above (suc zero) l = absurd (omega arith)
  layer-above (suc (suc zero)) l = absurd (omega arith)
  layer-above (suc (suc (suc zero))) l = absurd (omega arith)
  layer-above (suc (suc (suc (suc d)))) l = refl

  pub part_above : (d : ℕ) → 3 < d → count (part_of space number) d ≡ 0
  part_above d l = ap length (layer-above d l)

  pub part_low : (d n : ℕ) → 1 ≤ n → n ≤ count (part_of space number) d → d ≤ 3
  part_low zero n low high = omega arith
  part_low (suc zero) n low high = omega arith
  part_low (suc (suc zero)) n low high = omega arith
  part_low (suc (suc (suc zero))) n low high = omega arith
  part_low (suc (suc (suc (suc d)))) n low high = absurd (omega (arith, low, high))

  pub part_count : (d : ℕ) → d ≤ 3 → count (part_of space number) d ≡ length (cells_in space number d)
  part_count d l = ap length (layer-at d l) ∙ length-map (cells_in space number d) (facets_in space number d)

  -- a cell of the part comes from this one
  pub record ComesFrom (d n c : ℕ) : Type 0 where
    pub member : IsMember d c
    pub place : place_in space number d c ≡ n
    pub facets : facets_of (part_of space number) d n ≡ facets_in space number d c

  pub comes_from : (d n : ℕ) → 1 ≤ n → n ≤ count (part_of space number) d → ComesFrom d n (get_or (cells_in space number d) (n - 1) 0)
  comes_from d n low high =
      let three : d ≤ 3 = part_low d n low high in
      let l : n - 1 < length (cells_in space number d) = omega (arith, low, high, part_count d three) in
      let c : ℕ = get_or (cells_in space number d) (n - 1) 0 in
      let h : IsAt (has d) (count space d) (n - 1) c = is_at (has d) (count space d) (n - 1) l in
      record {
        member = record { low = h.low; high = h.high; component = eqb-true (component_at space d c) number h.passes };
        place = omega (arith, h.count, low);
        facets = ap (λ (ls : List (List ℕ)). get_or ls (n - 1) []) (layer-at d three) ∙ get_or-map (facets_in space number d) (cells_in space number d) (n - 1) 0 [] l;
      }

  -- the number that the part gives a cell
  pub record GoesTo (d c n : ℕ) : Type 0 where
    pub low : 1 ≤ n
    pub high : n ≤ count (part_of space number) d
    pub back : get_or (cells_in space number d) (n - 1) 0 ≡ c
    pub facets : facets_of (part_of space number) d n ≡ facets_in space number d c

  pub goes_to : IsSpace space → (d c : ℕ) → IsMember d c → GoesTo d c (place_in space number d c)
  goes_to hs d c m =
      let three : d ≤ 3 = dim_low space hs d c m.low m.high in
      let h : StandsAt (has d) (count space d) c = stands_at (has d) (count space d) c m.low m.high (eq-eqb (component_at space d c) number m.component) in
      let n : ℕ = place_in space number d c in
      let high : n ≤ count (part_of space number) d = omega (arith, h.last, part_count d three) in
      record { low = h.first; high = high; back = h.here 0; facets = (comes_from d n h.first high).facets ∙ ap (facets_in space number d) (h.here 0) }

  -- two cells with one number are the same
  pub place_once : (d a b : ℕ) → IsSpace space → IsMember d a → IsMember d b → place_in space number d a ≡ place_in space number d b → a ≡ b
  place_once d a b hs m k e = sym (goes_to hs d a m).back ∙ (ap (λ (n : ℕ). get_or (cells_in space number d) (n - 1) 0) e ∙ (goes_to hs d b k).back)
