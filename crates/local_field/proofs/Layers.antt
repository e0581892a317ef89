-- The pairs inside the cells of a dimension, cell after cell, and of all dimensions.
use Rattle.std.proofs.Common.{◌≡◌, ◌≢◌, ℕ, zero, suc, ◌+◌, ◌≤◌, List, [], ◌∷◌, ◌++◌, Bool, true, false, eqb, cond, length, map, append-nil, append_assoc, refl, ap, sym, ◌∙◌, subst, arith}
use Rattle.std.specs.List.{flat_map}
use Rattle.std.proofs.lemmas.Grind.{flat_map-append}
use Rattle.std.proofs.lemmas.Bool.{eqb-true, eq-eqb, ne_eqb, false≢true}
use Rattle.std.proofs.lemmas.List.{map-append}
use Rattle.number_lists.specs.Words.{upto}
use Rattle.number_lists.proofs.CallerLemmas.{upto_more}
use Rattle.face_poset.specs.declared.cells.Pair.{Pair}
use Rattle.face_poset.specs.Poset.{IsSpace, count}
use Rattle.face_poset.specs.Below.{cell_at}
use Rattle.regular_check.specs.Rules.{IsRegular}
use Rattle.sphere_collapses.specs.Collapses.{boundary_less, collapses}
use Rattle.sphere_collapses.specs.Laws.{BoundariesCollapse}
use Rattle.order_complex.specs.Chains.{id_of}
use Rattle.local_field.specs.Towers.{TowerPair, Building, local}
use Rattle.local_field.specs.Buildings.{number_at, flag_of, flag_at, building_at, solid_building, pairs_inside}
use Rattle.local_field.specs.Numbered.{numbered}
use Rattle.local_field.specs.Listed.{pairs_of, first_disk, IsBuilt, IsPut, ArePut, IsSolidPut, AreSolidsPut, AreListed}
use Rattle.local_field.proofs.FlagLaw.{dim-id, number-id, facet-range, first-In}
use Rattle.local_field.proofs.Putting.{alone}
use Rattle.local_field.proofs.TowerParts.{solid-chosen}
use Rattle.local_field.proofs.Choices.{collapse, choice, is-collapsing}

module _ (space : List (List (List ℕ))) where
  pub flag-length : (d n : ℕ) → length (flag_of space d n) ≡ suc d
  flag-length zero n = refl
  flag-length (suc d) n = ap suc (flag-length d _)

  -- the pairs inside one cell, by numbers
  pub inside-numbers : (c : ℕ → ℕ → List Pair) (d n : ℕ) (flag : List ℕ) (b : Building) (old new : List Pair) → flag ≡ flag_of space d n → IsPut space 3 [] flag b old new → IsBuilt space c flag b → new ≡ old ++ map (numbered space) (pairs_inside space c d n)
  inside-numbers c d n flag b old new e put built =
      put c built
      ∙ ap (λ (z : List Pair). old ++ z) (alone space (local_of flag) ∙ ap (λ (z : List ℕ). map (numbered space) (local_of z)) e)
    where
      local_of : List ℕ → List TowerPair
      local_of z = local (building_at space c) (flag_at space) 3 z

  -- one cell more
  pub cells-more : (c : ℕ → ℕ → List Pair) (d i : ℕ) → pairs_of space c d (i + 1) ≡ pairs_of space c d i ++ map (numbered space) (pairs_inside space c d (i + 1))
  cells-more c d i =
      ap (λ (ns : List ℕ). map (numbered space) (flat_map (pairs_inside space c d) ns)) (upto_more i)
      ∙ (ap (map (numbered space)) (flat_map-append (pairs_inside space c d) (upto i) ((i + 1) ∷ []) ∙ ap (λ (ps : List TowerPair). flat_map (pairs_inside space c d) (upto i) ++ ps) (append-nil (pairs_inside space c d (i + 1))))
      ∙ map-append (numbered space) (flat_map (pairs_inside space c d) (upto i)) (pairs_inside space c d (i + 1)))

  pub put-more : (c : ℕ → ℕ → List Pair) (d i : ℕ) (old mid new : List Pair) → mid ≡ old ++ pairs_of space c d i → new ≡ mid ++ map (numbered space) (pairs_inside space c d (i + 1)) → new ≡ old ++ pairs_of space c d (i + 1)
  put-more c d i old mid new e f =
      f
      ∙ (ap (λ (z : List Pair). z ++ map (numbered space) (pairs_inside space c d (i + 1))) e
      ∙ (append_assoc old (pairs_of space c d i) (map (numbered space) (pairs_inside space c d (i + 1))) ∙ ap (λ (z : List Pair). old ++ z) (sym (cells-more c d i))))

  -- ---- 3-cells

  pub solids-none : (old : List Pair) → AreSolidsPut space 0 old old
  solids-none old = record { chosen = λ _. []; collapsing = λ s l m. absurd (omega (arith, l, m)); put = λ c h. sym (append-nil old) }

  pub solids-more : (i : ℕ) (old mid new : List Pair) → AreSolidsPut space i old mid → IsSolidPut space (i + 1) mid new → AreSolidsPut space (i + 1) old new
  solids-more i old mid new h k =
      record {
        chosen = λ s. cond (eqb s (i + 1)) k.chosen (h.chosen s);
        collapsing = λ s l m. fits s l m (eqb s (i + 1)) refl;
        put = λ c w. put-more c 3 i old mid new (h.put c (λ s l m. w s l (omega (arith, m)) ∙ ap (λ (b : Bool). cond b k.chosen (h.chosen s)) (ne_eqb s (i + 1) (λ e. omega (arith, e, m)))))
            (k.put c (w (i + 1) (omega arith) (omega arith) ∙ ap (λ (b : Bool). cond b k.chosen (h.chosen (i + 1))) (eq-eqb (i + 1) (i + 1) refl)));
      }
    where
      fits : (s : ℕ) → 1 ≤ s → s ≤ i + 1 → (b : Bool) → eqb s (i + 1) ≡ b → collapses space (boundary_less space s (first_disk space s)) (cond b k.chosen (h.chosen s)) ≡ true
      fits s l m true e = subst (λ (n : ℕ). collapses space (boundary_less space n (first_disk space n)) k.chosen ≡ true) (sym (eqb-true s (i + 1) e)) k.collapsing
      fits s l m false e = h.collapsing s l (below (λ q. false≢true (sym e ∙ eq-eqb s (i + 1) q)))
        where
          below : s ≢ i + 1 → s ≤ i
          below q = omega (arith, m, q)

  module _ (valid : IsSpace space) where
    -- the building of a 3-cell without its first 2-cell
    pub solid-is-built : (c : ℕ → ℕ → List Pair) (n face : ℕ) (chosen : List Pair) (b : Building) → 1 ≤ n → n ≤ count space 3 → face ≡ first_disk space n → c n (first_disk space n) ≡ chosen → b ≡ solid_building space n face chosen → IsBuilt space c (flag_of space 3 n) b
    solid-is-built c n face chosen b low high e h is =
        let first : ℕ = first_disk space n in
        let g : ℕ = id_of space (cell_at 3 n) in
        let f : ℕ = id_of space (cell_at 2 first) in
        let w = facet-range space valid 2 n first low high (first-In space valid 2 n low high) in
        solid-chosen space c g f (dim-id space 3 n (omega arith) low high)
        ∙ (ap (λ (k : ℕ). solid_building space k (number_at space f) (c k (number_at space f))) (number-id space 3 n (omega arith) low high)
        ∙ (ap (λ (k : ℕ). solid_building space n k (c n k)) (number-id space 2 first (omega arith) w.0 w.1)
        ∙ (ap (solid_building space n first) h ∙ (ap (λ (k : ℕ). solid_building space n k chosen) (sym e) ∙ sym is))))

    -- ---- all dimensions

    pub all-listed : BoundariesCollapse → IsRegular space → (p0 p1 p2 p3 : List Pair) → p0 ≡ [] → ArePut space 1 (count space 1) p0 p1 → ArePut space 2 (count space 2) p1 p2 → AreSolidsPut space (count space 3) p2 p3 → AreListed space p3
    all-listed law regular p0 p1 p2 p3 e one two three =
        let c : ℕ → ℕ → List Pair = collapse law space valid regular three.chosen (count space 3) three.collapsing in
        let layer : ℕ → List TowerPair = λ d. flat_map (pairs_inside space c d) (upto (count space d)) in
        let third : p3 ≡ p2 ++ pairs_of space c 3 (count space 3) = three.put c (λ s l m. (choice law space valid regular three.chosen (count space 3) three.collapsing s (first_disk space s)).given refl l m) in
        record {
          collapse = c;
          collapsing = is-collapsing law space valid regular three.chosen (count space 3) three.collapsing;
          are = third
              ∙ (ap (λ (z : List Pair). z ++ pairs_of space c 3 (count space 3)) (two c ∙ ap (λ (z : List Pair). z ++ pairs_of space c 2 (count space 2)) (one c ∙ ap (λ (z : List Pair). z ++ pairs_of space c 1 (count space 1)) e))
              ∙ (append_assoc (pairs_of space c 1 (count space 1)) (pairs_of space c 2 (count space 2)) (pairs_of space c 3 (count space 3))
              ∙ sym (map-append (numbered space) (layer 1) (layer 2 ++ (layer 3 ++ []))
              ∙ ap (λ (z : List Pair). pairs_of space c 1 (count space 1) ++ z)
              (map-append (numbered space) (layer 2) (layer 3 ++ []) ∙ ap (λ (z : List TowerPair). pairs_of space c 2 (count space 2) ++ map (numbered space) z) (append-nil (layer 3))))));
        }
