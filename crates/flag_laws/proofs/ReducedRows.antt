-- The reduced rows at the flags are those of the cells with their signs.
use Rattle.std.proofs.Common.{◌≡◌, ◌≢◌, ℕ, zero, suc, ◌+◌, ◌-◌, ◌<◌, ◌≤◌, List, [], ◌∷◌, Bool, true, false, cond, map, reverse, length, get_or, refl, ap, sym, ◌∙◌, subst, arith}
use Rattle.std.specs.List.{AllByRecursion}
use Rattle.std.proofs.lemmas.Bool.{false≢true}
use Rattle.std.proofs.lemmas.List.{length-map, get_or-map, same_lists, reverse-reverse}
use Rattle.std.proofs.lemmas.List.FromFn.{length-map-range_with_len, get_or-map-range_with_len}
use Rattle.small_field.specs.Field.{Ops, IsField}
use Rattle.small_field.specs.Values.{AreElements}
use Rattle.small_field.proofs.CallerLemmas.{zero_below, mul_zero}
use Rattle.linear_laws.specs.Marks.{mark as mark_at}
use Rattle.linear_laws.specs.Vectors.{dot, boundary, combination, IsVector, IsMatrix}
use Rattle.linear_laws.proofs.CallerLemmas.{dot_below, dot_unit, dot_mark, skip_left, skip_right, adjoint, combination-vector}
use Rattle.number_lists.specs.Words.{upto, holds}
use Rattle.number_lists.specs.Members.{In}
use Rattle.number_lists.proofs.CallerLemmas.{holds-In, In-holds, at-In, distinct-at, length-upto}
use Rattle.face_poset.specs.Poset.{IsSpace, count, facets_of}
use Rattle.face_poset.specs.declared.cells.Pair.{Pair}
use Rattle.regular_check.specs.Rules.{IsRegular}
use Rattle.regular_check.specs.Cycle.{CyclesGoRound}
use Rattle.order_complex.specs.Chains.{chains_of}
use Rattle.order_complex.specs.Cochains.{value, mark, coboundary_on}
use Rattle.order_complex.specs.Complex.{number_or_zero}
use Rattle.order_complex.specs.Laws.{FacesAreBelow, ChainsAreSequences, ChainsAreOrdered}
use Rattle.order_complex.specs.Ranks.{rows_of}
use Rattle.order_complex.proofs.CallerLemmas.{chains_of-four, rows_on-matrix, length-rows_of}
use Rattle.cell_signs.specs.Oriented.{IsOriented}
use Rattle.vector_field.specs.Pairs.{pair, Field}
use Rattle.split_laws.specs.declared.kind.Kind.{Kind}
use Rattle.split_laws.specs.declared.kind.Kind.TheVariants.{Critical, Lower, Upper}
use Rattle.split_laws.specs.Kinds.{criticals, part, ZeroOnLowers, ZeroOnUppers}
use Rattle.split_laws.specs.Solutions.{IsExtension, IsReducedBy}
use Rattle.split_laws.proofs.CallerLemmas.{part-long, part-vector}
use Rattle.pair_stages.specs.Signed.{sign_element, signed_entry, AreKinds, IsKind}
use Rattle.local_field.specs.Buildings.{dim_at, flag_of}
use Rattle.local_field.specs.Towers.{top_of}
use Rattle.local_field.specs.Numbered.{local_pairs, IsLocalField}
use Rattle.local_field.specs.Flags.{other_sign, is_odd, flag_negative, flag_cells, negative_in}
use Rattle.local_field.proofs.CallerLemmas.{facet-range, dim-id, tower-chain, numbered-chain, tower-number, room, lower-short}
use Rattle.flag_laws.specs.Laws.{flag_rows, FlagsReduceToCells}
use Rattle.flag_laws.proofs.Sums.{summed, sum-zero, sum-one, mul_out, sign-below, sign-times, sign-twice}
use Rattle.flag_laws.proofs.TowerSums.{over, FullAt, full-long, full-head, over-zero, below, flag-away, flag-at, facets-distinct}
use Rattle.flag_laws.proofs.ChainSums.{same_one, same-here, same-apart, same-below, map-map, value-of, value-mark-below, full-chain, coefficient, boundary-sum}
use Rattle.flag_laws.proofs.Criticals.{zero-at, map-same, cells-distinct, cell-there, part-flags, many-critical}
use Rattle.flag_laws.proofs.Entries.{sp, minus, count-flags, entry-is}

turned-same : (s t : List ℕ) → reverse s ≡ reverse t → s ≡ t
turned-same s t e = sym (reverse-reverse s) ∙ (ap (λ (xs : List ℕ). reverse xs) e ∙ reverse-reverse t)

all-map : {A B : Type 0} (P : B → Type 0) (f : A → B) → ((x : A) → P (f x)) → (xs : List A) → AllByRecursion P (map f xs)
all-map P f h [] = tt
all-map P f h (x ∷ xs) = (h x, all-map P f h xs)

any-default : (xs : List ℕ) (i d e : ℕ) → i < length xs → get_or xs i d ≡ get_or xs i e
any-default [] i d e l = absurd (omega (arith, l))
any-default (x ∷ xs) zero d e l = refl
any-default (x ∷ xs) (suc i) d e l = any-default xs i d e (omega (arith, l))

module _ (F : Ops) (L : IsField F) where
  -- what is zero on uppers on what is zero on lowers is the pairing of their values on critical cells
  pairing : (ts : List Kind) (x y : List ℕ) → ZeroOnUppers ts x → ZeroOnLowers ts y → dot F x y ≡ dot F (part ts x) (part ts y)
  pairing [] [] y a b = refl
  pairing [] (x ∷ xs) y a b = absurd (omega (arith, ap length a))
  pairing (t ∷ ts) [] y a b = absurd a
  pairing (t ∷ ts) (x ∷ xs) [] a b = absurd b
  pairing (Critical ∷ ts) (x ∷ xs) (y ∷ ys) a b = ap (F.add (F.mul x y)) (pairing ts xs ys a b)
  pairing (Lower ∷ ts) (x ∷ xs) (y ∷ ys) a b = ap (λ (n : ℕ). F.add (F.mul x n) (dot F xs ys)) b.0 ∙ (skip_right F L x (dot F xs ys) (dot_below F L xs ys) ∙ pairing ts xs ys a b.1)
  pairing (Upper ∷ ts) (x ∷ xs) (y ∷ ys) a b = ap (λ (n : ℕ). F.add (F.mul n y) (dot F xs ys)) a.0 ∙ (skip_left F L y (dot F xs ys) (dot_below F L xs ys) ∙ pairing ts xs ys a.1 b)

  elements-of : {A : Type 0} (h : A → ℕ) (xs : List A) → ((x : A) → h x < F.size) → AreElements F (map h xs)
  elements-of h [] b = tt
  elements-of h (x ∷ xs) b = (b x, elements-of h xs b)

module _ (rounds : CyclesGoRound) (faces : FacesAreBelow) (sequences : ChainsAreSequences) (ordered : ChainsAreOrdered) (space : List (List (List ℕ))) (valid : IsSpace space) (regular : IsRegular space) (field : Field) (local : IsLocalField space field) where
  -- ---- a full tower is no lower

  pub lower-not-full : (d : ℕ) (ts : List Kind) → d ≤ 3 → AreKinds field.pairs d (length (chains_of space d)) ts → (i : ℕ) → i < length ts → get_or ts i Critical ≡ Lower
      → (n : ℕ) (t : List ℕ) → 1 ≤ n → n ≤ count space d → FullAt space d n t → get_or (chains_of space d) i [] ≢ reverse t
  lower-not-full d ts small kinds i l e n t low high h q =
      let many = kinds.long in
      let k : IsKind field.pairs d (i + 1) Lower = subst (IsKind field.pairs d (i + 1)) e (kinds.each i (omega (arith, l, many))) in
      let is : field.pairs ≡ local_pairs space local.collapse = ap (λ (f : Field). f.pairs) local.is in
      let s = lower-short rounds faces sequences space local.collapse valid regular local.collapsing d (i + 1) k.0 (subst (λ (ps : List Pair). In (pair d (i + 1) k.0) ps) is k.1) in
      let c = numbered-chain space valid faces sequences d (reverse s.0) (tower-chain space valid faces sequences s.0 d s.1) in
      let place : number_or_zero (chains_of space d) (reverse s.0) - 1 ≡ i = ap (λ (x : ℕ). x - 1) (sym (tower-number space valid faces sequences s.0 d s.1) ∙ s.2) ∙ omega arith in
      let there : get_or (chains_of space d) i [] ≡ reverse s.0 = ap (λ (x : ℕ). get_or (chains_of space d) x []) (sym place) ∙ c.there in
      let same : s.0 ≡ t = turned-same s.0 t (sym there ∙ q) in
      let short = s.3 in
      let long = ap length same ∙ full-long space d n t h in
      let r = full-head space d n t h in
      let top : dim_at space (top_of s.0) ≡ d = ap (λ (x : List ℕ). dim_at space (top_of x)) (same ∙ r.1) ∙ dim-id space d n small low high in
      omega (arith, short, long, top)

  module _ (F : Ops) (L : IsField F) (negative : ℕ → ℕ → ℕ → Bool) (oriented : IsOriented space negative) where
    abbrev sg : Bool → ℕ
    sg b = sign_element F b

    abbrev co : (d n : ℕ) → List ℕ → ℕ
    co d n c = coefficient space valid faces sequences F L negative d n c

    -- ---- coefficients at flags

    co-at : (d n : ℕ) → d ≤ 3 → 1 ≤ n → n ≤ count space d → co d n (reverse (flag_of space d n)) ≡ sg (flag_negative space negative d n)
    co-at d n small low high =
        let b : List ℕ = reverse (flag_of space d n) in
        let s : ℕ = sg (flag_negative space negative d n) in
        flag-at F L space negative valid oriented d n (λ t. same_one b (reverse t)) small low high (λ t. same-below F L b (reverse t))
        (λ t h ne. same-apart b (reverse t) (λ q. ne (sym (turned-same (flag_of space d n) t q))))
        ∙ (ap (F.mul s) (same-here b) ∙ (L.mul_comm s 1 ∙ L.one_mul s (sign-below F L (flag_negative space negative d n))))

    co-away : (d n m : ℕ) → d ≤ 3 → 1 ≤ n → n ≤ count space d → 1 ≤ m → m ≤ count space d → n ≢ m → co d n (reverse (flag_of space d m)) ≡ 0
    co-away d n m small a b e f apart =
        let c : List ℕ = reverse (flag_of space d m) in
        flag-away F L space negative valid oriented d n m (λ t. same_one c (reverse t)) small a b e f apart
        (λ t h ne. same-apart c (reverse t) (λ q. ne (sym (turned-same (flag_of space d m) t q))))

    co-none : (d n : ℕ) (c : List ℕ) → ((t : List ℕ) → FullAt space d n t → c ≢ reverse t) → co d n c ≡ 0
    co-none d n c h = over-zero F L space negative d n (λ t. same_one c (reverse t)) (λ t k. same-apart c (reverse t) (h t k))

    -- ---- what the facets give

    abbrev vu : (d : ℕ) → (b t : List ℕ) → ℕ
    vu d b t = value (chains_of space d) (mark (chains_of space d) b) (reverse t)

    vu-is : (d a : ℕ) (b t : List ℕ) → d ≤ 3 → 1 ≤ a → a ≤ count space d → FullAt space d a t → vu d b t ≡ same_one (reverse t) b
    vu-is d a b t small low high h = value-of (λ c. same_one c b) (chains_of space d) (reverse t) (full-chain space valid faces sequences d a t small low high h)

    abbrev bel : (d g : ℕ) → (b : List ℕ) → ℕ
    bel d g b = below F L space negative valid oriented d g (vu d b)

    bel-none : (d g : ℕ) (b : List ℕ) → suc d ≤ 3 → 1 ≤ g → g ≤ count space (suc d) → ((a : ℕ) (t : List ℕ) → 1 ≤ a → a ≤ count space d → FullAt space d a t → b ≢ reverse t) → bel d g b ≡ 0
    bel-none d g b small low high h =
        sum-zero F L (λ a. F.mul (sg (negative (suc d) g a)) (over F space negative d a (vu d b))) (facets_of space (suc d) g)
        (λ a i. (let w = facet-range space valid d g a low high i in
        ap (F.mul (sg (negative (suc d) g a)))
        (over-zero F L space negative d a (vu d b) (λ t k. vu-is d a b t (omega (arith, small)) w.0 w.1 k ∙ same-apart (reverse t) b (λ q. h a t w.0 w.1 k (sym q))))
        ∙ mul_zero F L (sg (negative (suc d) g a))))

    flag-over : (d a f : ℕ) → d ≤ 3 → 1 ≤ a → a ≤ count space d → 1 ≤ f → f ≤ count space d → a ≢ f → over F space negative d a (vu d (reverse (flag_of space d f))) ≡ 0
    flag-over d a f small la ha lf hf apart =
        let b : List ℕ = reverse (flag_of space d f) in
        flag-away F L space negative valid oriented d a f (vu d b) small la ha lf hf apart
        (λ t k ne. vu-is d a b t small la ha k ∙ same-apart (reverse t) b (λ q. ne (turned-same t (flag_of space d f) q)))

    flag-itself : (d f : ℕ) → d ≤ 3 → 1 ≤ f → f ≤ count space d → In (reverse (flag_of space d f)) (chains_of space d) → over F space negative d f (vu d (reverse (flag_of space d f))) ≡ sg (flag_negative space negative d f)
    flag-itself d f small lf hf stands =
        let b : List ℕ = reverse (flag_of space d f) in
        let s : ℕ = sg (flag_negative space negative d f) in
        flag-at F L space negative valid oriented d f (vu d b) small lf hf (λ t. value-mark-below F L (chains_of space d) b (reverse t))
        (λ t k ne. vu-is d f b t small lf hf k ∙ same-apart (reverse t) b (λ q. ne (turned-same t (flag_of space d f) q)))
        ∙ (ap (F.mul s) (value-of (λ c. same_one c b) (chains_of space d) b stands ∙ same-here b) ∙ (L.mul_comm s 1 ∙ L.one_mul s (sign-below F L (flag_negative space negative d f))))

    bel-flag : (d g f : ℕ) → suc d ≤ 3 → 1 ≤ g → g ≤ count space (suc d) → 1 ≤ f → f ≤ count space d → In (reverse (flag_of space d f)) (chains_of space d)
        → bel d g (reverse (flag_of space d f)) ≡ cond (holds (facets_of space (suc d) g) f) (F.mul (sg (negative (suc d) g f)) (sg (flag_negative space negative d f))) 0
    bel-flag d g f small lg hg lf hf stands = by (holds fs f) refl
      where
        fs : List ℕ
        fs = facets_of space (suc d) g

        b : List ℕ
        b = reverse (flag_of space d f)

        H : ℕ → ℕ
        H a = F.mul (sg (negative (suc d) g a)) (over F space negative d a (vu d b))

        others : (a : ℕ) → In a fs → a ≢ f → H a ≡ 0
        others a i ne =
            let w = facet-range space valid d g a lg hg i in
            ap (F.mul (sg (negative (suc d) g a))) (flag-over d a f (omega (arith, small)) w.0 w.1 lf hf ne) ∙ mul_zero F L (sg (negative (suc d) g a))

        by : (t : Bool) → holds fs f ≡ t → summed F H fs ≡ cond t (F.mul (sg (negative (suc d) g f)) (sg (flag_negative space negative d f))) 0
        by true e =
            sum-one F L H fs f (facets-distinct F L space negative valid oriented d g lg hg) (holds-In fs e) (L.mul_below (sg (negative (suc d) g f)) (over F space negative d f (vu d b))) (λ a i ne. others a i ne)
            ∙ ap (F.mul (sg (negative (suc d) g f))) (flag-itself d f (omega (arith, small)) lf hf stands)
        by false e = sum-zero F L H fs (λ a i. others a i (λ q. false≢true (sym e ∙ In-holds (subst (λ (x : ℕ). In x fs) q i))))

    -- signs together
    signs-join : (o s m z h : Bool) → F.mul (sg s) (F.mul (sg o) (cond h (F.mul (sg m) (sg z)) 0)) ≡ cond h (sg (other_sign o (other_sign m (other_sign s z)))) 0
    signs-join o s m z false = ap (F.mul (sg s)) (mul_zero F L (sg o)) ∙ mul_zero F L (sg s)
    signs-join o s m z true =
        mul_out F L (sg s) (sg o) (F.mul (sg m) (sg z))
        ∙ (ap (F.mul (sg o)) (mul_out F L (sg s) (sg m) (sg z) ∙ (ap (F.mul (sg m)) (sign-times F L s z) ∙ sign-times F L m (other_sign s z))) ∙ sign-times F L o (other_sign m (other_sign s z)))

    module _ (d : ℕ) (small : suc d ≤ 3) (ts us : List Kind) (kinds : AreKinds field.pairs d (length (chains_of space d)) ts) (next : AreKinds field.pairs (suc d) (length (chains_of space (suc d))) us) where
      abbrev C : List (List ℕ)
      C = chains_of space d

      abbrev N : List (List ℕ)
      N = chains_of space (suc d)

      abbrev rows : List (List ℕ)
      rows = rows_of F space d

      low : d ≤ 3
      low = omega (arith, small)

      many-below : criticals ts ≡ length (flag_cells space d)
      many-below = many-critical space valid faces sequences d low field local ts kinds

      many-above : criticals us ≡ length (flag_cells space (suc d))
      many-above = many-critical space valid faces sequences (suc d) small field local us next

      -- ---- the sum of the full towers of a cell, with 1 at its flag

      abbrev own : ℕ → ℕ
      own g = sg (flag_negative space negative (suc d) g)

      abbrev w : ℕ → List ℕ → ℕ
      w g c = F.mul (own g) (co (suc d) g c)

      abbrev z : ℕ → List ℕ
      z g = map (w g) N

      z-vector : (g : ℕ) → IsVector F (length N) (z g)
      z-vector g = record { long = length-map N (w g); elements = elements-of F L (w g) N (λ c. L.mul_below (own g) (co (suc d) g c)) }

      z-low : (g : ℕ) → 1 ≤ g → g ≤ count space (suc d) → ZeroOnLowers us (z g)
      z-low g lg hg =
          zero-at us (z g) (length-map N (w g) ∙ sym next.long)
          (λ i l e.
          get_or-map (w g) N i [] 0 (omega (arith, l, next.long))
          ∙ (ap (F.mul (own g)) (co-none (suc d) g (get_or N i []) (λ t h. lower-not-full (suc d) us small next i l e g t lg hg h)) ∙ mul_zero F L (own g)))

      -- ---- its boundary

      abbrev V : ℕ → List ℕ → ℕ
      V g b = F.mul (own g) (F.mul (sg (is_odd (suc d))) (bel d g b))

      edge : (g : ℕ) → 1 ≤ g → g ≤ count space (suc d) → boundary F rows (z g) ≡ map (V g) C
      edge g lg hg =
          map-map (λ r. dot F r (z g)) (λ b. coboundary_on F C N (mark C b)) C
          ∙ map-same (λ b. dot F (coboundary_on F C N (mark C b)) (z g)) (V g) C (λ b i. boundary-sum space valid faces sequences F L negative oriented ordered d g (own g) b small lg hg)

      edge-low : (g : ℕ) → 1 ≤ g → g ≤ count space (suc d) → ZeroOnLowers ts (boundary F rows (z g))
      edge-low g lg hg =
          subst (ZeroOnLowers ts) (sym (edge g lg hg))
          (zero-at ts (map (V g) C) (length-map C (V g) ∙ sym kinds.long)
          (λ i l e.
          get_or-map (V g) C i [] 0 (omega (arith, l, kinds.long))
          ∙ (ap (λ (x : ℕ). F.mul (own g) (F.mul (sg (is_odd (suc d))) x)) (bel-none d g (get_or C i []) small lg hg (λ a t la ha h. lower-not-full d ts low kinds i l e a t la ha h))
          ∙ (ap (F.mul (own g)) (mul_zero F L (sg (is_odd (suc d)))) ∙ mul_zero F L (own g)))))

      edge-vector : (g : ℕ) → IsVector F (length C) (boundary F rows (z g))
      edge-vector g = record { long = length-map rows (λ r. dot F r (z g)) ∙ length-rows_of F L space d; elements = elements-of F L (λ r. dot F r (z g)) rows (λ r. dot_below F L r (z g)) }

      -- ---- entry by entry

      entry-at : (i j : ℕ) (x : List ℕ) → i < criticals ts → j < criticals us → IsExtension F (length C) (length N) rows ts us (mark_at (criticals ts) i) x
          → get_or (part us (combination F (length N) x rows)) j 0 ≡ signed_entry F (sp space negative) (negative_in (minus space negative)) d (i + 1) (j + 1)
      entry-at i j x li lj h =
          let G : List ℕ = flag_cells space (suc d) in
          let g : ℕ = get_or G j 0 in
          let f : ℕ = get_or (flag_cells space d) i 0 in
          let lg : j < length G = omega (arith, lj, many-above) in
          let lf : i < length (flag_cells space d) = omega (arith, li, many-below) in
          let wg = cell-there space valid faces sequences (suc d) small g (at-In G j 0 lg) in
          let wf = cell-there space valid faces sequences d low f (at-In (flag_cells space d) i 0 lf) in
          let dx : List ℕ = combination F (length N) x rows in
          let y : List ℕ = part us dx in
          let matrix : IsMatrix F (length N) rows = rows_on-matrix F L C N in
          let yv : IsVector F (criticals us) y = part-vector F L us (length N) dx next.long (combination-vector F L (length N) x rows matrix) in
          let pz : part us (z g) ≡ map (λ n. w g (reverse (flag_of space (suc d) n))) G = part-flags space valid faces sequences (suc d) small field local us next (w g) in
          let lz : length (part us (z g)) ≡ length G = ap (λ (xs : List ℕ). length xs) pz ∙ length-map G (λ n. w g (reverse (flag_of space (suc d) n))) in
          let z-at : (k : ℕ) → k < length G → get_or (part us (z g)) k 0 ≡ w g (reverse (flag_of space (suc d) (get_or G k 0))) =
          λ k l. ap (λ (xs : List ℕ). get_or xs k 0) pz ∙ get_or-map (λ n. w g (reverse (flag_of space (suc d) n))) G k 0 0 l in
          let chosen : dot F y (part us (z g)) ≡ get_or y j 0 =
          dot_unit F L y (part us (z g)) j yv.elements (omega (arith, lj, yv.long)) (omega (arith, lg, lz))
          (z-at j lg ∙ (ap (F.mul (own g)) (co-at (suc d) g small wg.0 wg.1) ∙ sign-twice F L (flag_negative space negative (suc d) g)))
          (λ k l ne. (let lk : k < length G = omega (arith, l, lz) in
          let v = cell-there space valid faces sequences (suc d) small (get_or G k 0) (at-In G k 0 lk) in
          z-at k lk
          ∙ (ap (F.mul (own g)) (co-away (suc d) g (get_or G k 0) small wg.0 wg.1 v.0 v.1 (λ q. ne (distinct-at k j 0 (cells-distinct space valid faces sequences (suc d) small) lk lg (sym q)))) ∙ mul_zero F L (own g)))) in
          let pb : part ts (boundary F rows (z g)) ≡ map (λ n. V g (reverse (flag_of space d n))) (flag_cells space d) =
          ap (part ts) (edge g wg.0 wg.1) ∙ part-flags space valid faces sequences d low field local ts kinds (V g) in
          let stands : In (reverse (flag_of space d f)) C = tower-chain space valid faces sequences (flag_of space d f) d (room space valid faces sequences d low f wf.0 wf.1) in
          sym chosen
          ∙ (sym (pairing F L us dx (z g) h.closed (z-low g wg.0 wg.1))
          ∙ (adjoint F L (length N) x (z g) rows matrix (h.vector.long ∙ sym (length-rows_of F L space d)) (z-vector g).long
          ∙ (pairing F L ts x (boundary F rows (z g)) h.none (edge-low g wg.0 wg.1)
          ∙ (ap (λ (xs : List ℕ). dot F xs (part ts (boundary F rows (z g)))) h.own
          ∙ (dot_mark F L (criticals ts) i (part ts (boundary F rows (z g))) (part-vector F L ts (length C) (boundary F rows (z g)) kinds.long (edge-vector g)) li
          ∙ (ap (λ (xs : List ℕ). get_or xs i 0) pb
          ∙ (get_or-map (λ n. V g (reverse (flag_of space d n))) (flag_cells space d) i 0 0 lf
          ∙ (ap (λ (v : ℕ). F.mul (own g) (F.mul (sg (is_odd (suc d))) v)) (bel-flag d g f small wg.0 wg.1 wf.0 wf.1 stands)
          ∙ (signs-join (is_odd (suc d)) (flag_negative space negative (suc d) g) (negative (suc d) g f) (flag_negative space negative d f) (holds (facets_of space (suc d) g) f)
          ∙ sym (entry-is space negative F d i j small lf lg))))))))))

      abbrev row : ℕ → List ℕ
      row lower = map (signed_entry F (sp space negative) (negative_in (minus space negative)) d lower) (upto (count (sp space negative) (d + 1)))

      entry-below : (a b : Bool) → cond a (sg b) 0 < F.size
      entry-below true b = sign-below F L b
      entry-below false b = zero_below F L

      columns : count (sp space negative) (d + 1) ≡ criticals us
      columns = let e : d + 1 ≡ suc d = omega arith in ap (λ (k : ℕ). count (sp space negative) k) e ∙ (count-flags space negative (suc d) small ∙ sym many-above)

      row-long : (lower : ℕ) → length (row lower) ≡ criticals us
      row-long lower = length-map-range_with_len (signed_entry F (sp space negative) (negative_in (minus space negative)) d lower) 1 (count (sp space negative) (d + 1)) ∙ columns

      pub reduced : IsReducedBy F (length C) (length N) rows ts us (flag_rows F space negative d)
      reduced =
          let below : ℕ = count (sp space negative) d in
          let e : below ≡ criticals ts = count-flags space negative d low ∙ sym many-below in
          record {
            matrix =
                all-map (IsVector F (criticals us)) row
                (λ lower. record {
                  long = row-long lower;
                  elements =
                      elements-of F L (signed_entry F (sp space negative) (negative_in (minus space negative)) d lower) (upto (count (sp space negative) (d + 1)))
                      (λ upper. entry-below (holds (facets_of (sp space negative) (d + 1) upper) lower) (negative_in (minus space negative) (d + 1) upper lower));
                })
                (upto below);
            long = length-map-range_with_len row 1 below ∙ e;
            each = λ i x li h. (
                get_or-map-range_with_len row 1 below i (i + 1) [] (omega (arith, li, e)) (omega arith)
                ∙ same_lists (row (i + 1)) (part us (combination F (length N) x rows))
                (row-long (i + 1) ∙ sym (part-long us (combination F (length N) x rows) ((combination-vector F L (length N) x rows (rows_on-matrix F L C N)).long ∙ sym next.long)))
                (λ j dj l. (let lj : j < criticals us = omega (arith, l, row-long (i + 1)) in
                get_or-map-range_with_len (signed_entry F (sp space negative) (negative_in (minus space negative)) d (i + 1)) 1 (count (sp space negative) (d + 1)) j (j + 1) dj (omega (arith, lj, columns)) (omega arith)
                ∙ (sym (entry-at i j x li lj h)
                ∙ any-default (part us (combination F (length N) x rows)) j 0 dj
                (omega (arith, lj, part-long us (combination F (length N) x rows) ((combination-vector F L (length N) x rows (rows_on-matrix F L C N)).long ∙ sym next.long)))))));
          }

    -- the last degree: there is no chain above
    last-reduced : (ts us : List Kind) → AreKinds field.pairs 3 (length (chains_of space 3)) ts → length us ≡ 0
        → IsReducedBy F (length (chains_of space 3)) (length (chains_of space 4)) (rows_of F space 3) ts us (flag_rows F space negative 3)
    last-reduced ts (u ∷ us) kinds l = absurd (omega (arith, l))
    last-reduced ts [] kinds l =
        let nothing : ℕ → List ℕ = λ lower. [] in
        let below : ℕ = count (sp space negative) 3 in
        let e : below ≡ criticals ts = count-flags space negative 3 (omega arith) ∙ sym (many-critical space valid faces sequences 3 (omega arith) field local ts kinds) in
        record {
          matrix = all-map (IsVector F 0) (λ lower. []) (λ lower. record { long = refl; elements = tt }) (upto below);
          long = length-map (upto below) (λ lower. []) ∙ (length-upto below ∙ e);
          each = λ i x li h. get_or-map nothing (upto below) i 0 [] (omega (arith, li, e, length-upto below));
        }

    pub every-degree : (d : ℕ) (ts us : List Kind) → d ≤ 3 → AreKinds field.pairs d (length (chains_of space d)) ts → AreKinds field.pairs (suc d) (length (chains_of space (suc d))) us
        → IsReducedBy F (length (chains_of space d)) (length (chains_of space (suc d))) (rows_of F space d) ts us (flag_rows F space negative d)
    every-degree zero ts us small kinds next = reduced 0 (omega arith) ts us kinds next
    every-degree (suc zero) ts us small kinds next = reduced 1 (omega arith) ts us kinds next
    every-degree (suc (suc zero)) ts us small kinds next = reduced 2 (omega arith) ts us kinds next
    every-degree (suc (suc (suc zero))) ts us small kinds next = last-reduced ts us kinds (next.long ∙ ap (λ (cs : List (List ℕ)). length cs) (chains_of-four space))
    every-degree (suc (suc (suc (suc d)))) ts us small kinds next = absurd (omega (arith, small))

pub flags_reduce : CyclesGoRound → FacesAreBelow → ChainsAreSequences → ChainsAreOrdered → (F : Ops) → IsField F → FlagsReduceToCells F
flags_reduce rounds faces sequences ordered F L space negative field degree kinds next valid regular oriented local small now above =
    every-degree rounds faces sequences ordered space valid regular field local F L negative oriented degree kinds next small now above
