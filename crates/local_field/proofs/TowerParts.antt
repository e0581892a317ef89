-- Towers of two cells and more, and the building of their top.
use Rattle.std.proofs.Common.{◌≡◌, ℕ, zero, suc, ◌+◌, ◌<◌, ◌≤◌, List, [], ◌∷◌, Bool, true, false, length, drop, cond, eqb, get_or, ap, sym, ◌∙◌, subst, arith}
use Rattle.std.specs.List.{AllByRecursion}
use Rattle.std.proofs.lemmas.Bool.{eq-eqb, ne_eqb}
use Rattle.face_poset.specs.declared.cells.Pair.{Pair}
use Rattle.face_poset.specs.Poset.{IsSpace, count, cell_count}
use Rattle.regular_check.specs.Rules.{IsRegular}
use Rattle.regular_check.specs.Cycle.{CyclesGoRound}
use Rattle.sphere_collapses.specs.Laws.{BoundariesCollapse}
use Rattle.local_field.specs.Towers.{Building, top_of, rest_of}
use Rattle.local_field.specs.Inside.{IsFull, FitsIn}
use Rattle.local_field.specs.Buildings.{dim_at, number_at, is_below, flag_at, building_at, edge_building, disk_building, solid_building}
use Rattle.local_field.specs.Listed.{IsBuilt, FitsCell, FitsTop}
use Rattle.local_field.proofs.FlagLaw.{number-id}
use Rattle.local_field.proofs.Cells.{IsHigh, face-range, below-parts, falls, high-dim, tops, fulls}
use Rattle.local_field.proofs.Flagged.{flagged}
use Rattle.local_field.proofs.Choices.{some-collapse}

-- a building by its parts
pub building-same : (b c : Building) → b.root ≡ c.root → b.pairs ≡ c.pairs → b ≡ c
building-same b c e f = ap (λ (r : ℕ). record { root = r; pairs = b.pairs }) e ∙ ap (λ (ps : List (ℕ × ℕ)). record { root = c.root; pairs = ps }) f

module _ (space : List (List (List ℕ))) where
  -- ---- full towers

  abbrev Full : List ℕ → Type 0
  Full t = IsFull (is_below space) (dim_at space) t

  pub full-long : (t : List ℕ) → IsFull (is_below space) (dim_at space) t → length t ≡ suc (dim_at space (top_of t))
  full-long [] h = absurd h
  full-long (v ∷ []) h = ap suc (sym h)
  full-long (g ∷ f ∷ rest) h = ap suc (full-long (f ∷ rest) h.2 ∙ sym h.1)

  pub record IsTwo (t : List ℕ) : Type 0 where
    pub face : is_below space (get_or t 1 0) (get_or t 0 0) ≡ true
    pub dims : dim_at space (get_or t 0 0) ≡ suc (dim_at space (get_or t 1 0))
    pub long : length t ≡ suc (dim_at space (get_or t 0 0))
    pub rest : IsFull (is_below space) (dim_at space) (drop 1 t)

  pub full-two : (t : List ℕ) → IsFull (is_below space) (dim_at space) t → 2 ≤ length t → IsTwo t
  full-two [] h l = absurd h
  full-two (v ∷ []) h l = absurd (omega (arith, l))
  full-two (g ∷ f ∷ rest) h l = record { face = h.0; dims = h.1; long = full-long (g ∷ f ∷ rest) h; rest = h.2 }

  -- a cell over another in a tower
  pub raised-full : (l u : ℕ) (t : List ℕ) → IsFull (is_below space) (dim_at space) t → t ≡ l ∷ rest_of t → is_below space l u ≡ true → dim_at space u ≡ suc (dim_at space l) → IsFull (is_below space) (dim_at space) (u ∷ t)
  raised-full l u t h e b d = subst (λ (s : List ℕ). IsFull (is_below space) (dim_at space) (u ∷ s)) (sym e) (b, d, subst (IsFull (is_below space) (dim_at space)) e h)

  -- ---- buildings

  pub built-short : (collapse : ℕ → ℕ → List Pair) (t : List ℕ) (b : Building) → length t < 2 → IsBuilt space collapse t b
  built-short collapse [] b l = tt
  built-short collapse (g ∷ []) b l = tt
  built-short collapse (g ∷ f ∷ rest) b l = absurd (omega (arith, l))

  pub built-from : (collapse : ℕ → ℕ → List Pair) (t : List ℕ) (b : Building) → 2 ≤ length t → building_at space collapse (get_or t 0 0) (get_or t 1 0) ≡ b → IsBuilt space collapse t b
  built-from collapse [] b l e = tt
  built-from collapse (g ∷ []) b l e = tt
  built-from collapse (g ∷ f ∷ rest) b l e = e

  pub fits-from : (t : List ℕ) (b : Building) → FitsCell space (get_or t 0 0) b → FitsTop space t b
  fits-from [] b h = h
  fits-from (g ∷ t) b h = h

  abbrev by_dim : (collapse : ℕ → ℕ → List Pair) → (g f : ℕ) (one two : Bool) → Building
  by_dim collapse g f one two =
      cond one (edge_building space (number_at space g) f) (cond two (disk_building space (number_at space g) f) (solid_building space (number_at space g) (number_at space f) (collapse (number_at space g) (number_at space f))))

  pub edge-chosen : (collapse : ℕ → ℕ → List Pair) (g f : ℕ) → dim_at space g ≡ 1 → building_at space collapse g f ≡ edge_building space (number_at space g) f
  edge-chosen collapse g f e = ap (λ (b : Bool). by_dim collapse g f b (eqb (dim_at space g) 2)) (eq-eqb (dim_at space g) 1 e)

  pub disk-chosen : (collapse : ℕ → ℕ → List Pair) (g f : ℕ) → dim_at space g ≡ 2 → building_at space collapse g f ≡ disk_building space (number_at space g) f
  disk-chosen collapse g f e =
      ap (λ (b : Bool). by_dim collapse g f b (eqb (dim_at space g) 2)) (ne_eqb (dim_at space g) 1 (λ s. omega (arith, e, s))) ∙ ap (by_dim collapse g f false) (eq-eqb (dim_at space g) 2 e)

  pub solid-chosen : (collapse : ℕ → ℕ → List Pair) (g f : ℕ) → dim_at space g ≡ 3
      → building_at space collapse g f ≡ solid_building space (number_at space g) (number_at space f) (collapse (number_at space g) (number_at space f))
  solid-chosen collapse g f e =
      ap (λ (b : Bool). by_dim collapse g f b (eqb (dim_at space g) 2)) (ne_eqb (dim_at space g) 1 (λ s. omega (arith, e, s))) ∙ ap (by_dim collapse g f false) (ne_eqb (dim_at space g) 2 (λ s. omega (arith, e, s)))

  module _ (valid : IsSpace space) where
    -- the number of a cell that has a face
    pub cell-range : (x c d : ℕ) → is_below space x c ≡ true → dim_at space c ≡ suc d → (1 ≤ number_at space c) × (number_at space c ≤ count space (suc d))
    cell-range x c d h e =
        let p : IsHigh space c = (below-parts space valid x c h).cell in
        let n : number_at space c ≡ p.number = ap (number_at space) p.is ∙ number-id space (suc p.under) p.number p.small p.low p.high in
        let u : suc p.under ≡ suc d = sym (high-dim space valid c p) ∙ e in
        let l = p.low in
        (omega (arith, l, n), subst (λ (k : ℕ). number_at space c ≤ count space k) u (subst (λ (k : ℕ). k ≤ count space (suc p.under)) (sym n) p.high))

    pub chosen-fits : CyclesGoRound → BoundariesCollapse → IsRegular space → (g f : ℕ) (b : Building) → is_below space f g ≡ true → dim_at space g ≡ suc (dim_at space f) → ((collapse : ℕ → ℕ → List Pair) → building_at space collapse g f ≡ b) → FitsCell space g b
    chosen-fits rounds law regular g f b h e w =
        let c = some-collapse law space valid regular in
        subst (FitsCell space g) (w c.0) ((flagged rounds space c.0 valid regular c.1).builds g f h e).fit

    -- ---- one pair of a building under the top of a tower

    pub record IsStep (over : List ℕ) (p : ℕ × ℕ) : Type 0 where
      pub first : 1 ≤ p.0
      pub last : p.0 ≤ cell_count space
      pub low_full : IsFull (is_below space) (dim_at space) (flag_at space p.0)
      pub low_few : length (flag_at space p.0) + suc (length over) ≤ 4
      pub up_full : IsFull (is_below space) (dim_at space) (p.1 ∷ flag_at space p.0)
      pub up_few : length (p.1 ∷ flag_at space p.0) + suc (length over) ≤ 4

    pub step : (over t : List ℕ) (ps : List (ℕ × ℕ)) (b : Building) (i : ℕ) → IsFull (is_below space) (dim_at space) t → 2 ≤ length t → length t + length over ≤ 4 → FitsTop space t b → ps ≡ b.pairs → i < length ps → IsStep over (get_or ps i (0, 0))
    step over t ps b i full l few fits e k =
        let p : ℕ × ℕ = get_or ps i (0, 0) in
        let fit : FitsIn (is_below space) (dim_at space) (top_of t) p = fit-at ps i k (subst (AllByRecursion (FitsIn (is_below space) (dim_at space) (top_of t))) (sym e) fits) in
        let r = face-range space valid p.0 p.1 fit.2 in
        let low : IsFull (is_below space) (dim_at space) (flag_at space p.0) = fulls space valid p.0 in
        let top = tops space valid p.0 in
        let up : IsFull (is_below space) (dim_at space) (p.1 ∷ flag_at space p.0) = raised-full p.0 p.1 (flag_at space p.0) low top fit.2 fit.3 in
        let long = full-long (p.1 ∷ flag_at space p.0) up in
        let all = full-long t full in
        let d = falls space valid p.1 (top_of t) fit.1 in
        record { first = r.0.0; last = r.0.1; low_full = low; low_few = omega (arith, long, all, d, few); up_full = up; up_few = omega (arith, long, all, d, few) }
      where
        fit-at : (ps : List (ℕ × ℕ)) (i : ℕ) → i < length ps → AllByRecursion (FitsIn (is_below space) (dim_at space) (top_of t)) ps → FitsIn (is_below space) (dim_at space) (top_of t) (get_or ps i (0, 0))
        fit-at [] i k h = absurd (omega (arith, k))
        fit-at (p ∷ ps) zero k h = h.0
        fit-at (p ∷ ps) (suc i) k h = fit-at ps i (omega (arith, k)) h.1
