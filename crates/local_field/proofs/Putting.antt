-- The pairs inside a cell, as they are put one after another: under further cells, and building pair by building pair.
use Rattle.std.proofs.Common.{◌≡◌, ℕ, zero, suc, ◌+◌, ◌-◌, ◌<◌, ◌≤◌, List, [], ◌∷◌, ◌++◌, length, map, reverse, take, drop, get_or, refl, ap, sym, ◌∙◌, subst, arith, append_assoc}
use Rattle.std.proofs.lemmas.List.{map-append, reverse-append}
use Rattle.face_poset.specs.declared.cells.Pair.{Pair}
use Rattle.order_complex.specs.Chains.{chains_of}
use Rattle.order_complex.specs.Complex.{number_or_zero}
use Rattle.vector_field.specs.Pairs.{pair}
use Rattle.local_field.specs.Towers.{TowerPair, Building, under, pair_of, build, first_pair, local}
use Rattle.local_field.specs.Buildings.{flag_at, building_at}
use Rattle.local_field.specs.Numbered.{numbered}
use Rattle.local_field.specs.Listed.{number_under, numbered_under, IsBuilt, IsPut}

-- ---- building pair by building pair

module _ (flag : ℕ → List ℕ) (inside : List ℕ → List TowerPair) where
  -- what one pair of the building gives
  abbrev pub given : ℕ × ℕ → List TowerPair
  given p = inside (flag p.0) ++ (inside (p.1 ∷ flag p.0) ++ (pair_of flag p.0 p.1 ∷ []))

  three : (xs ys zs : List TowerPair) (q : TowerPair) → (xs ++ (ys ++ (q ∷ []))) ++ zs ≡ xs ++ (ys ++ (q ∷ zs))
  three xs ys zs q = append_assoc xs (ys ++ (q ∷ [])) zs ∙ ap (λ (ws : List TowerPair). xs ++ ws) (append_assoc ys (q ∷ []) zs)

  pub build-last : (last : List TowerPair) (ps : List (ℕ × ℕ)) → build flag inside last ps ≡ build flag inside [] ps ++ last
  build-last last [] = refl
  build-last last (p ∷ ps) =
      ap (λ (ws : List TowerPair). inside (flag p.0) ++ (inside (p.1 ∷ flag p.0) ++ (pair_of flag p.0 p.1 ∷ ws))) (build-last last ps)
      ∙ (sym (three (inside (flag p.0)) (inside (p.1 ∷ flag p.0)) (build flag inside [] ps ++ last) (pair_of flag p.0 p.1))
      ∙ (sym (append_assoc (given p) (build flag inside [] ps) last)
      ∙ ap (λ (ws : List TowerPair). ws ++ last) (three (inside (flag p.0)) (inside (p.1 ∷ flag p.0)) (build flag inside [] ps) (pair_of flag p.0 p.1))))

  pub build-more : (ps : List (ℕ × ℕ)) (i : ℕ) → i < length ps → build flag inside [] (take (suc i) ps) ≡ build flag inside [] (take i ps) ++ given (get_or ps i (0, 0))
  build-more [] i l = absurd (omega (arith, l))
  build-more (p ∷ ps) zero l = sym (three (inside (flag p.0)) (inside (p.1 ∷ flag p.0)) [] (pair_of flag p.0 p.1)) ∙ append_nil (given p)
    where
      append_nil : (xs : List TowerPair) → xs ++ [] ≡ xs
      append_nil [] = refl
      append_nil (x ∷ xs) = ap (λ (ws : List TowerPair). x ∷ ws) (append_nil xs)
  build-more (p ∷ ps) (suc i) l =
      let a : List TowerPair = inside (flag p.0) in
      let b : List TowerPair = inside (p.1 ∷ flag p.0) in
      let q : TowerPair = pair_of flag p.0 p.1 in
      ap (λ (ws : List TowerPair). a ++ (b ++ (q ∷ ws))) (build-more ps i (omega (arith, l)))
      ∙ (sym (three a b (build flag inside [] (take i ps) ++ given (get_or ps i (0, 0))) q)
      ∙ (sym (append_assoc (given p) (build flag inside [] (take i ps)) (given (get_or ps i (0, 0))))
      ∙ ap (λ (ws : List TowerPair). ws ++ given (get_or ps i (0, 0))) (three a b (build flag inside [] (take i ps)) q)))

-- ---- towers under further cells

turn-onto : (c : ℕ) (t acc : List ℕ) → reverse (c ∷ t) ++ acc ≡ reverse t ++ c ∷ acc
turn-onto c t acc = ap (λ (xs : List ℕ). xs ++ acc) (reverse-append (c ∷ []) t) ∙ append_assoc (reverse t) (c ∷ []) acc

module _ (space : List (List (List ℕ))) where
  pub number-over : (over t : List ℕ) (g : ℕ) → number_under space over (g ∷ t) ≡ number_under space (g ∷ over) t
  number-over over t g =
      let e : suc (length t) + length over - 1 ≡ length t + suc (length over) - 1 = omega arith in
      ap (λ (k : ℕ). number_or_zero (chains_of space k) (reverse (g ∷ t) ++ over)) e
      ∙ ap (number_or_zero (chains_of space (length t + suc (length over) - 1))) (turn-onto g t over)

  pub numbered-over : (over low up : List ℕ) (g : ℕ)
      → numbered_under space over (record { low = g ∷ low; up = g ∷ up }) ≡ pair (length low + length (g ∷ over) - 1) (number_under space (g ∷ over) low) (number_under space (g ∷ over) up)
  numbered-over over low up g =
      let e : suc (length low) + length over - 1 ≡ length low + suc (length over) - 1 = omega arith in
      ap (λ (k : ℕ). pair k (number_under space over (g ∷ low)) (number_under space over (g ∷ up))) e
      ∙ (ap (λ (k : ℕ). pair (length low + suc (length over) - 1) k (number_under space over (g ∷ up))) (number-over over low g)
      ∙ ap (pair (length low + suc (length over) - 1) (number_under space (g ∷ over) low)) (number-over over up g))

  pub under-over : (over : List ℕ) (g : ℕ) (ps : List TowerPair) → map (numbered_under space over) (under g ps) ≡ map (numbered_under space (g ∷ over)) ps
  under-over over g [] = refl
  under-over over g (p ∷ ps) =
      ap (λ (q : Pair). q ∷ map (numbered_under space over) (under g ps)) (numbered-over over p.low p.up g)
      ∙ ap (λ (qs : List Pair). numbered_under space (g ∷ over) p ∷ qs) (under-over over g ps)

  -- under no further cells
  append_nil : (xs : List ℕ) → xs ++ [] ≡ xs
  append_nil [] = refl
  append_nil (x ∷ xs) = ap (λ (ws : List ℕ). x ∷ ws) (append_nil xs)

  pub number-alone : (t : List ℕ) → number_under space [] t ≡ number_or_zero (chains_of space (length t - 1)) (reverse t)
  number-alone t =
      let e : length t + 0 - 1 ≡ length t - 1 = omega arith in
      ap (λ (k : ℕ). number_or_zero (chains_of space k) (reverse t ++ [])) e ∙ ap (number_or_zero (chains_of space (length t - 1))) (append_nil (reverse t))

  pub alone : (ps : List TowerPair) → map (numbered_under space []) ps ≡ map (numbered space) ps
  alone [] = refl
  alone (p ∷ ps) =
      let e : length p.low + 0 - 1 ≡ length p.low - 1 = omega arith in
      ap (λ (q : Pair). q ∷ map (numbered_under space []) ps)
      (ap (λ (k : ℕ). pair k (number_under space [] p.low) (number_under space [] p.up)) e
      ∙ (ap (λ (k : ℕ). pair (length p.low - 1) k (number_under space [] p.up)) (number-alone p.low) ∙ ap (pair (length p.low - 1) (number_or_zero (chains_of space (length p.low - 1)) (reverse p.low))) (number-alone p.up)))
      ∙ ap (λ (qs : List Pair). numbered space p ∷ qs) (alone ps)

  module _ (collapse : ℕ → ℕ → List Pair) where
    abbrev pub sub : ℕ → List ℕ → List TowerPair
    sub d t = local (building_at space collapse) (flag_at space) d t

    -- what one pair of a building gives, by numbers
    pub given-numbers : (over : List ℕ) (d : ℕ) (p : ℕ × ℕ)
        → map (numbered_under space over) (given (flag_at space) (sub d) p)
        ≡ map (numbered_under space over) (sub d (flag_at space p.0)) ++ (map (numbered_under space over) (sub d (p.1 ∷ flag_at space p.0)) ++ (numbered_under space over (pair_of (flag_at space) p.0 p.1) ∷ []))
    given-numbers over d p =
        map-append (numbered_under space over) (sub d (flag_at space p.0)) (sub d (p.1 ∷ flag_at space p.0) ++ (pair_of (flag_at space) p.0 p.1 ∷ []))
        ∙ ap (λ (ws : List Pair). map (numbered_under space over) (sub d (flag_at space p.0)) ++ ws) (map-append (numbered_under space over) (sub d (p.1 ∷ flag_at space p.0)) (pair_of (flag_at space) p.0 p.1 ∷ []))

    -- all of a tower: the pair of the top, those of the building, and those of the rest
    pub whole : (over t : List ℕ) (d : ℕ) (built : Building) → 2 ≤ length t → IsBuilt space collapse t built
        → map (numbered_under space over) (sub (suc d) t)
        ≡ pair (0 + length (get_or t 0 0 ∷ over) - 1) (number_under space (get_or t 0 0 ∷ over) []) (number_under space (get_or t 0 0 ∷ over) (built.root ∷ []))
        ∷ (map (numbered_under space (get_or t 0 0 ∷ over)) (build (flag_at space) (sub d) [] built.pairs) ++ map (numbered_under space (get_or t 0 0 ∷ over)) (sub d (drop 1 t)))
    whole over [] d built l h = absurd (omega (arith, l))
    whole over (g ∷ []) d built l h = absurd (omega (arith, l))
    whole over (g ∷ f ∷ rest) d built l h =
        let above : List ℕ = g ∷ over in
        let F : TowerPair → Pair = numbered_under space over in
        ap (λ (b : Building). F (first_pair g b.root) ∷ map F (under g (build (flag_at space) (sub d) (sub d (f ∷ rest)) b.pairs))) h
        ∙ (ap (λ (q : Pair). q ∷ map F (under g (build (flag_at space) (sub d) (sub d (f ∷ rest)) built.pairs))) (numbered-over over [] (built.root ∷ []) g)
        ∙ ap (λ (qs : List Pair). pair (0 + length above - 1) (number_under space above []) (number_under space above (built.root ∷ [])) ∷ qs)
        (under-over over g (build (flag_at space) (sub d) (sub d (f ∷ rest)) built.pairs)
        ∙ (ap (map (numbered_under space above)) (build-last (flag_at space) (sub d) (sub d (f ∷ rest)) built.pairs) ∙ map-append (numbered_under space above) (build (flag_at space) (sub d) [] built.pairs) (sub d (f ∷ rest)))))

    -- a tower of one cell, and one that is read to depth 0
    pub short : (d : ℕ) (t : List ℕ) → length t < 2 → sub d t ≡ []
    short zero t l = refl
    short (suc d) [] l = refl
    short (suc d) (g ∷ []) l = refl
    short (suc d) (g ∷ f ∷ rest) l = absurd (omega (arith, l))

    -- ---- put one after another

    -- what one call put, whatever names its arguments have
    pub put-lower : (above above' t t' s : List ℕ) (d : ℕ) (b : Building) (old new : List Pair) → above' ≡ above → t' ≡ t → s ≡ t → IsBuilt space collapse s b → IsPut space d above' t' b old new → new ≡ old ++ map (numbered_under space above) (sub d t)
    put-lower above above' t t' s d b old new e f g h put =
        put collapse (subst (λ (z : List ℕ). IsBuilt space collapse z b) (g ∙ sym f) h)
        ∙ (ap (λ (z : List ℕ). old ++ map (numbered_under space z) (sub d t')) e ∙ ap (λ (z : List ℕ). old ++ map (numbered_under space above) (sub d z)) f)

    pub put-pair : (now : List (List (List ℕ))) (above above' low low' up up' : List ℕ) (old new : List Pair) → now ≡ space → above' ≡ above → low' ≡ low → up' ≡ up
        → new ≡ old ++ pair (length low' + length above' - 1) (number_under now above' low') (number_under now above' up') ∷ []
        → new ≡ old ++ pair (length low + length above - 1) (number_under space above low) (number_under space above up) ∷ []
    put-pair now above above' low low' up up' old new s e f g h =
        h
        ∙ (ap (λ (z : List (List (List ℕ))). old ++ pair (length low' + length above' - 1) (number_under z above' low') (number_under z above' up') ∷ []) s
        ∙ (ap (λ (z : List ℕ). old ++ pair (length low' + length z - 1) (number_under space z low') (number_under space z up') ∷ []) e
        ∙ (ap (λ (z : List ℕ). old ++ pair (length z + length above - 1) (number_under space above z) (number_under space above up') ∷ []) f ∙ ap (λ (z : List ℕ). old ++ pair (length low + length above - 1) (number_under space above low) (number_under space above z) ∷ []) g)))

    -- one pair of the building more
    pub more : (above : List ℕ) (d : ℕ) (ps : List (ℕ × ℕ)) (i : ℕ) (base x0 x1 x2 x3 : List Pair) → i < length ps
        → x0 ≡ base ++ map (numbered_under space above) (build (flag_at space) (sub d) [] (take i ps))
        → x1 ≡ x0 ++ map (numbered_under space above) (sub d (flag_at space (get_or ps i (0, 0)).0))
        → x2 ≡ x1 ++ map (numbered_under space above) (sub d ((get_or ps i (0, 0)).1 ∷ flag_at space (get_or ps i (0, 0)).0))
        → x3 ≡ x2 ++ numbered_under space above (pair_of (flag_at space) (get_or ps i (0, 0)).0 (get_or ps i (0, 0)).1) ∷ []
        → x3 ≡ base ++ map (numbered_under space above) (build (flag_at space) (sub d) [] (take (i + 1) ps))
    more above d ps i base x0 x1 x2 x3 l e f g h =
        let p : ℕ × ℕ = get_or ps i (0, 0) in
        let F : TowerPair → Pair = numbered_under space above in
        let B : List Pair = map F (build (flag_at space) (sub d) [] (take i ps)) in
        let a : List Pair = map F (sub d (flag_at space p.0)) in
        let b : List Pair = map F (sub d (p.1 ∷ flag_at space p.0)) in
        let q : List Pair = F (pair_of (flag_at space) p.0 p.1) ∷ [] in
        let one : i + 1 ≡ suc i = omega arith in
        let made : map F (build (flag_at space) (sub d) [] (take (i + 1) ps)) ≡ B ++ (a ++ (b ++ q)) =
        ap (λ (k : ℕ). map F (build (flag_at space) (sub d) [] (take k ps))) one
        ∙ (ap (map F) (build-more (flag_at space) (sub d) ps i l)
        ∙ (map-append F (build (flag_at space) (sub d) [] (take i ps)) (given (flag_at space) (sub d) p) ∙ ap (λ (z : List Pair). B ++ z) (given-numbers above d p))) in
        h
        ∙ (ap (λ (z : List Pair). z ++ q) (g ∙ (ap (λ (z : List Pair). z ++ b) (f ∙ ap (λ (z : List Pair). z ++ a) e)))
        ∙ (four base B a b q ∙ ap (λ (z : List Pair). base ++ z) (sym made)))
      where
        four : (base B a b q : List Pair) → (((base ++ B) ++ a) ++ b) ++ q ≡ base ++ (B ++ (a ++ (b ++ q)))
        four base B a b q =
            append_assoc ((base ++ B) ++ a) b q ∙ (append_assoc (base ++ B) a (b ++ q) ∙ append_assoc base B (a ++ (b ++ q)))

    -- all of a tower
    pub all-put : (over t : List ℕ) (d depth : ℕ) (b : Building) (old x0 x1 x2 : List Pair) → depth ≡ suc d → 2 ≤ length t → IsBuilt space collapse t b
        → x0 ≡ old ++ pair (0 + length (get_or t 0 0 ∷ over) - 1) (number_under space (get_or t 0 0 ∷ over) []) (number_under space (get_or t 0 0 ∷ over) (b.root ∷ [])) ∷ []
        → x1 ≡ x0 ++ map (numbered_under space (get_or t 0 0 ∷ over)) (build (flag_at space) (sub d) [] b.pairs)
        → x2 ≡ x1 ++ map (numbered_under space (get_or t 0 0 ∷ over)) (sub d (drop 1 t))
        → x2 ≡ old ++ map (numbered_under space over) (sub depth t)
    all-put over t d depth b old x0 x1 x2 s l h e f g =
        let above : List ℕ = get_or t 0 0 ∷ over in
        let q : List Pair = pair (0 + length above - 1) (number_under space above []) (number_under space above (b.root ∷ [])) ∷ [] in
        let B : List Pair = map (numbered_under space above) (build (flag_at space) (sub d) [] b.pairs) in
        let r : List Pair = map (numbered_under space above) (sub d (drop 1 t)) in
        g
        ∙ (ap (λ (z : List Pair). z ++ r) (f ∙ ap (λ (z : List Pair). z ++ B) e)
        ∙ (append_assoc (old ++ q) B r
        ∙ (append_assoc old q (B ++ r) ∙ ap (λ (z : List Pair). old ++ z) (sym (whole over t d b l h) ∙ ap (λ (k : ℕ). map (numbered_under space over) (sub k t)) (sym s)))))
