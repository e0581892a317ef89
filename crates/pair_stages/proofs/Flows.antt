-- Boundaries that are changed with their chains, and flows.
use Rattle.std.proofs.Common.{◌≡◌, ℕ, zero, suc, ◌+◌, ◌-◌, ◌≤◌, ◌<◌, List, [], ◌∷◌, length, length-set, map, take, drop, replicate, get_or, set, Result, Ok, Err, IfOk, refl, ap, sym, ◌∙◌, arith, subst}
use Rattle.std.proofs.lemmas.List.{length-take-le}
use Rattle.std.proofs.lemmas.List.FromFn.{length-map-range_with_len}
use Rattle.small_field.specs.Field.{Ops, IsField}
use Rattle.linear_laws.specs.Vectors.{boundary, bump, column, dot, entry, plus_scaled, row_at, IsMatrix}
use Rattle.small_field.specs.Values.{AreElements}
use Rattle.linear_laws.proofs.CallerLemmas.{all_set, dot_bumped, dot_comm, dot_zeros, list_below}
use Rattle.field_matrix.specs.Rows.{Rows}
use Rattle.face_poset.specs.Words.{upto}
use Rattle.split_laws.specs.declared.kind.Kind.{Kind}
use Rattle.split_laws.specs.declared.kind.Kind.TheVariants.{Critical, Lower, Upper}
use Rattle.split_laws.specs.declared.matching.Match.{Match}
use Rattle.split_laws.specs.Kinds.{criticals, spread}
use Rattle.split_laws.specs.Pairs.{back_correction, carry}
use Rattle.split_laws.specs.Solutions.{IsFlow}
use Rattle.split_laws.proofs.CallerLemmas.{boundary_at, flowed, spread_long, spread_elements, spread_own, spread_none_low}
use Rattle.pair_stages.specs.Columns.{coefficient, add_on, IsColumn, AreColumns}
use Rattle.pair_stages.specs.Stages.{Stage, IsPaired, place_of}
use Rattle.pair_stages.proofs.ColumnLemmas.{map_zeros, more, column_is}
use Rattle.pair_stages.proofs.Filling.{plus_zeros_at}
use Rattle.pair_stages.proofs.Placed.{place_below, spread_nothing, spread_step}
use Rattle.pair_stages.proofs.Viewed.{seen, rows_are, cols_are, long_are, column_of}

zeros_at : (n i : ℕ) → get_or (replicate {A = ℕ} n 0) i 0 ≡ 0
zeros_at zero i = refl
zeros_at (suc n) zero = refl
zeros_at (suc n) (suc i) = zeros_at n i

-- ---- a column, entry by entry

pub add_step : (F : Ops) (cs vs : List ℕ) (i s : ℕ) (b now : List ℕ) → i < length cs → length vs ≡ length cs → now ≡ bump F b (get_or cs i 0 - 1) (F.mul s (get_or vs i 0)) → add_on F (drop (i + 1) cs) (drop (i + 1) vs) s now ≡ add_on F (drop i cs) (drop i vs) s b
add_step F cs vs i s b now lt l e =
    ap (λ (j : ℕ). add_on F (drop j cs) (drop j vs) s now) (let g : i + 1 ≡ suc i = omega arith in g) ∙ (ap (add_on F (drop (suc i) cs) (drop (suc i) vs) s) e ∙ sym (one cs vs i lt l))
  where
    one : (cs vs : List ℕ) (i : ℕ) → i < length cs → length vs ≡ length cs → add_on F (drop i cs) (drop i vs) s b ≡ add_on F (drop (suc i) cs) (drop (suc i) vs) s (bump F b (get_or cs i 0 - 1) (F.mul s (get_or vs i 0)))
    one [] vs i lt l = absurd (omega arith)
    one (c ∷ cs) [] i lt l = absurd (omega arith)
    one (c ∷ cs) (v ∷ vs) zero lt l = refl
    one (c ∷ cs) (v ∷ vs) (suc i) lt l = one cs vs i (omega arith) (omega arith)

pub share_is : (F : Ops) (b now : List ℕ) (place factor v value share old total : ℕ) → value ≡ v → share ≡ F.mul factor value → old ≡ get_or b place 0 → total ≡ F.add old share → now ≡ set b place total → now ≡ bump F b place (F.mul factor v)
share_is F b now place factor v value share old total ev es eo et e =
    e ∙ ap (set b place) (et ∙ (ap (λ (n : ℕ). F.add n share) eo ∙ ap (F.add (get_or b place 0)) (es ∙ ap (F.mul factor) ev)))

pub add_end : (F : Ops) (cs vs : List ℕ) (i s : ℕ) (b : List ℕ) → length cs ≤ i → add_on F (drop i cs) (drop i vs) s b ≡ b
add_end F [] vs zero s b h = refl
add_end F [] vs (suc i) s b h = refl
add_end F (c ∷ cs) vs zero s b h = absurd (omega arith)
add_end F (c ∷ cs) [] (suc i) s b h = none cs i
  where
    none : (cs : List ℕ) (i : ℕ) → add_on F (drop i cs) [] s b ≡ b
    none [] zero = refl
    none [] (suc i) = refl
    none (c ∷ cs) zero = refl
    none (c ∷ cs) (suc i) = none cs i
add_end F (c ∷ cs) (v ∷ vs) (suc i) s b h = add_end F cs vs i s b (omega arith)

module _ (F : Ops) (L : IsField F) where
  -- a share that is added to the first list or, before its factor, to the second
  bump_across : (s : ℕ) (b d : List ℕ) (i v : ℕ) → length b ≡ length d → plus_scaled F s (bump F b i (F.mul s v)) d ≡ plus_scaled F s b (bump F d i v)
  bump_across s [] d i v l = refl
  bump_across s (x ∷ b) [] i v l = absurd (omega arith)
  bump_across s (x ∷ b) (y ∷ d) zero v l =
      ap (λ (n : ℕ). n ∷ plus_scaled F s b d) (L.add_assoc x (F.mul s v) (F.mul s y) ∙ ap (F.add x) (L.add_comm (F.mul s v) (F.mul s y) ∙ sym (L.mul_add s y v)))
  bump_across s (x ∷ b) (y ∷ d) (suc i) v l = ap (λ (r : List ℕ). F.add x (F.mul s y) ∷ r) (bump_across s b d i v (omega arith))

  added : (n : ℕ) (cs vs : List ℕ) (s : ℕ) (b : List ℕ) → IsColumn F n cs vs → length b ≡ n → AreElements F b → add_on F cs vs s b ≡ plus_scaled F s b (map (coefficient cs vs) (upto n))
  added n [] [] s b h l el = sym (ap (plus_scaled F s b) (map_zeros 1 n) ∙ plus_zeros_at F L s n b l el)
  added n [] (v ∷ vs) s b h l el = absurd h
  added n (c ∷ cs) [] s b h l el = absurd h
  added n (c ∷ cs) (v ∷ vs) s b h l el =
      let w : ℕ = F.add (get_or b (c - 1) 0) (F.mul s v) in
      let d : List ℕ = map (coefficient cs vs) (upto n) in
      added n cs vs s (set b (c - 1) w) h.4 (length-set b (c - 1) w ∙ l) (all_set (λ x. x < F.size) b (c - 1) w (L.add_below (get_or b (c - 1) 0) (F.mul s v)) el)
      ∙ (bump_across s b d (c - 1) v (l ∙ sym (length-map-range_with_len (coefficient cs vs) 1 n)) ∙ ap (plus_scaled F s b) (more F L n c v cs vs h.0 h.1 h.2 h.3))

  -- as contracts see columns
  pub added_is : (below : ℕ) (css vss : List (List ℕ)) (t : Rows) → seen below css vss ≡ t → AreColumns F below css vss → (j s : ℕ) (cs vs b now : List ℕ) → length b ≡ length t.rows → AreElements F b → j < t.cols → cs ≡ get_or css j [] → vs ≡ get_or vss j []
      → now ≡ add_on F cs vs s b → now ≡ plus_scaled F s b (column j t.rows)
  added_is below css vss t e h j s cs vs b now l el lt p q r =
      let col : IsColumn F below cs vs = column_of F below css vss t e h j cs vs lt p q in
      let at : j < length css = subst (λ (n : ℕ). j < n) (sym (cols_are F below css vss t e h)) lt in
      r
      ∙ (added below cs vs s b col (l ∙ long_are F below css vss t e h) el
      ∙ ap (plus_scaled F s b)
      (ap (λ (x : List ℕ). map (coefficient x vs) (upto below)) p
      ∙ (ap (λ (x : List ℕ). map (coefficient (get_or css j []) x) (upto below)) q ∙ (sym (column_is F below css vss j h at) ∙ ap (λ (x : List (List ℕ)). column j x) (rows_are F below css vss t e h)))))

  -- ---- the boundary of a chain with something added at one place

  boundary_bumped : (m : ℕ) (rows : List (List ℕ)) (z : List ℕ) (j c : ℕ) → IsMatrix F m rows → length z ≡ m → j < m → boundary F rows (bump F z j c) ≡ plus_scaled F c (boundary F rows z) (column j rows)
  boundary_bumped m [] z j c a l lt = refl
  boundary_bumped m (r ∷ rows) z j c a l lt =
      ap (λ (n : ℕ). n ∷ boundary F rows (bump F z j c))
      (dot_comm F L r (bump F z j c) ∙ (dot_bumped F L z r j c (subst (λ (n : ℕ). j < n) (sym l) lt) (a.0.long ∙ sym l) ∙ ap (λ (n : ℕ). F.add n (F.mul c (get_or r j 0))) (dot_comm F L z r)))
      ∙ ap (λ (u : List ℕ). F.add (dot F r z) (F.mul c (get_or r j 0)) ∷ u) (boundary_bumped m rows z j c a.1 l lt)

  boundary_zeros : (m : ℕ) (rows : List (List ℕ)) → boundary F rows (replicate m 0) ≡ replicate (length rows) 0
  boundary_zeros m [] = refl
  boundary_zeros m (r ∷ rows) = ap (λ (n : ℕ). n ∷ boundary F rows (replicate m 0)) (dot_zeros F L r m) ∙ ap (λ (u : List ℕ). 0 ∷ u) (boundary_zeros m rows)

  -- ---- one pair

  -- the factor of a pair, by the boundary
  pub factor_is : (rows : List (List ℕ)) (p : Match) (z b : List ℕ) (lower missing value inverse factor : ℕ) → p.lower < length rows → lower ≡ p.lower → b ≡ boundary F rows z → missing ≡ F.neg (get_or b lower 0) → value ≡ entry rows p.lower p.upper → inverse ≡ F.inv value
      → factor ≡ F.mul missing inverse → factor ≡ back_correction F rows (replicate (length rows) 0) p z
  factor_is rows p z b lower missing value inverse factor lt el e em ev ei ef =
      let d : ℕ = dot F (row_at rows p.lower) z in
      let zeros : List ℕ = replicate (length rows) 0 in
      let at : get_or b lower 0 ≡ d = ap (λ (n : ℕ). get_or b n 0) el ∙ (ap (λ (x : List ℕ). get_or x p.lower 0) e ∙ boundary_at F rows z p.lower lt) in
      let whole : missing ≡ F.add (get_or zeros p.lower 0) (F.neg d) =
      em ∙ (ap F.neg at ∙ (sym (L.zero_add (F.neg d) (L.neg_below d)) ∙ ap (λ (n : ℕ). F.add n (F.neg d)) (sym (zeros_at (length rows) p.lower)))) in
      ef ∙ (ap (λ (n : ℕ). F.mul n inverse) whole ∙ ap (F.mul (F.add (get_or zeros p.lower 0) (F.neg d))) (ei ∙ ap F.inv ev))

  pub chain_is : (z now : List ℕ) (p : Match) (upper value old factor c : ℕ) → upper ≡ p.upper → old ≡ get_or z upper 0 → value ≡ F.add old factor → factor ≡ c → now ≡ set z upper value → now ≡ bump F z p.upper c
  chain_is z now p upper value old factor c eu eo ev ef e =
      e ∙ (ap (set z upper) (ev ∙ (ap (λ (n : ℕ). F.add n factor) eo ∙ ap (F.add (get_or z upper 0)) ef)) ∙ ap (λ (n : ℕ). set z n (F.add (get_or z n 0) c)) eu)

  pub boundary_is : (m : ℕ) (rows : List (List ℕ)) (z znow b bnow : List ℕ) (j factor c : ℕ) → IsMatrix F m rows → length z ≡ m → j < m → b ≡ boundary F rows z → znow ≡ bump F z j c → factor ≡ c → bnow ≡ plus_scaled F factor b (column j rows) → bnow ≡ boundary F rows znow
  boundary_is m rows z znow b bnow j factor c a l lt e ez ef eb =
      eb ∙ (ap (λ (n : ℕ). plus_scaled F n b (column j rows)) ef ∙ (ap (λ (x : List ℕ). plus_scaled F c x (column j rows)) e ∙ (sym (boundary_bumped m rows z j c a l lt) ∙ ap (boundary F rows) (sym ez))))

  -- ---- the pairs, the last one first

  pub carry_none : (rows : List (List ℕ)) (t : List ℕ) (ps : List Match) (i : ℕ) (z : List ℕ) → length ps ≤ i → z ≡ carry F rows t (drop i ps) z
  carry_none rows t [] zero z h = refl
  carry_none rows t [] (suc i) z h = refl
  carry_none rows t (p ∷ ps) zero z h = absurd (omega arith)
  carry_none rows t (p ∷ ps) (suc i) z h = carry_none rows t ps i z (omega arith)

  pub carry_more : (rows : List (List ℕ)) (t : List ℕ) (ps : List Match) (i : ℕ) (d : Match) (z0 z now : List ℕ) → i < length ps → z ≡ carry F rows t (drop (i + 1) ps) z0 → now ≡ bump F z (get_or ps i d).upper (back_correction F rows t (get_or ps i d) z) → now ≡ carry F rows t (drop i ps) z0
  carry_more rows t ps i d z0 z now lt e g =
      let q : Match = get_or ps i d in
      let f : z ≡ carry F rows t (drop (suc i) ps) z0 = e ∙ ap (λ (n : ℕ). carry F rows t (drop n ps) z0) (let h : i + 1 ≡ suc i = omega arith in h) in
      g ∙ (ap (λ (x : List ℕ). bump F x q.upper (back_correction F rows t q x)) f ∙ sym (one ps i lt))
    where
      one : (ps : List Match) (i : ℕ) → i < length ps
          → carry F rows t (drop i ps) z0 ≡ bump F (carry F rows t (drop (suc i) ps) z0) (get_or ps i d).upper (back_correction F rows t (get_or ps i d) (carry F rows t (drop (suc i) ps) z0))
      one [] i lt = absurd (omega arith)
      one (p ∷ ps) zero lt = refl
      one (p ∷ ps) (suc i) lt = one ps i (omega arith)

  -- ---- values spread over the critical cells

  spread_none_at : (ts : List Kind) (ws : List ℕ) → length ws < criticals ts → get_or (spread ts ws) (place_of ts (length ws)) 0 ≡ 0
  spread_none_at [] ws lt = absurd (omega arith)
  spread_none_at (Critical ∷ ts) [] lt = refl
  spread_none_at (Critical ∷ ts) (w ∷ ws) lt = spread_none_at ts ws (omega arith)
  spread_none_at (Lower ∷ ts) ws lt = spread_none_at ts ws lt
  spread_none_at (Upper ∷ ts) ws lt = spread_none_at ts ws lt

  pub spread_boundary_none : (rows : List (List ℕ)) (us : List Kind) (n : ℕ) (b c : List ℕ) → b ≡ replicate n 0 → n ≡ length rows → b ≡ boundary F rows (spread us (take 0 c))
  spread_boundary_none rows us n b c e l = e ∙ (ap (λ (k : ℕ). replicate k 0) l ∙ (sym (boundary_zeros (length us) rows) ∙ ap (boundary F rows) (sym (spread_nothing us))))

  pub spread_boundary_more : (m : ℕ) (rows : List (List ℕ)) (us : List Kind) (c b now : List ℕ) (i place v : ℕ) → IsMatrix F m rows → length us ≡ m → i < length c → length c ≡ criticals us → AreElements F c → b ≡ boundary F rows (spread us (take i c)) → place ≡ place_of us i → v ≡ get_or c i 0
      → now ≡ plus_scaled F v b (column place rows) → now ≡ boundary F rows (spread us (take (i + 1) c))
  spread_boundary_more m rows us c b now i place v a lu lt lc el e ep ev en =
      let x : List ℕ = spread us (take i c) in
      let li : length (take i c) ≡ i = length-take-le i c (omega arith) in
      let few : i < criticals us = omega arith in
      let within : place < m = subst (λ (n : ℕ). n < m) (sym ep) (subst (λ (n : ℕ). place_of us i < n) lu (place_below us i few)) in
      let none : get_or x place 0 ≡ 0 =
      ap (λ (n : ℕ). get_or x n 0) (ep ∙ ap (place_of us) (sym li)) ∙ spread_none_at us (take i c) (subst (λ (n : ℕ). n < criticals us) (sym li) few) in
      let small : v < F.size = subst (λ (n : ℕ). n < F.size) (sym ev) (list_below F L c i el) in
      let here : bump F x place v ≡ set x (place + 1 - 1) v =
      ap (set x place) (ap (λ (n : ℕ). F.add n v) none ∙ L.zero_add v small) ∙ ap (λ (n : ℕ). set x n v) (let g : place ≡ place + 1 - 1 = omega arith in g) in
      let whole : bump F x place v ≡ spread us (take (i + 1) c) = spread_step us c x (bump F x place v) i (place + 1) v lt lc refl (omega arith) here ev in
      boundary_is m rows x (spread us (take (i + 1) c)) b now place v v a (spread_long us (take i c) ∙ lu) within e (sym whole) refl en

-- ---- flows

pub flow_is : (F : Ops) (L : IsField F) (s next : Stage) → IsPaired F s next → (c z now : List ℕ) → length c ≡ criticals next.kinds → AreElements F c → z ≡ spread next.kinds c → now ≡ carry F s.rows (replicate (length s.rows) 0) s.pairs z
    → IsFlow F (length s.kinds) (length next.kinds) s.rows s.kinds next.kinds c now
flow_is F L s next P c z now l el e h =
    let y : List ℕ = spread next.kinds c in
    subst (IsFlow F (length s.kinds) (length next.kinds) s.rows s.kinds next.kinds c)
    (sym (h ∙ (ap (λ (n : ℕ). carry F s.rows (replicate n 0) s.pairs z) P.matching.long ∙ ap (carry F s.rows (replicate (length s.kinds) 0) s.pairs) e)))
    (flowed F L (length s.kinds) (length next.kinds) s.rows s.kinds next.kinds s.pairs P.matching c y
    (record { long = spread_long next.kinds c; elements = spread_elements F L next.kinds c el }) (spread_own next.kinds c l) (spread_none_low next.kinds c))

pub first_flow : (F : Ops) (L : IsField F) (ts : List Kind) (c z : List ℕ) → length c ≡ criticals ts → AreElements F c → z ≡ spread ts c → IsFlow F 0 (length ts) [] [] ts c z
first_flow F L ts c z l el e =
    subst (IsFlow F 0 (length ts) [] [] ts c) (sym e)
    (record { vector = record { long = spread_long ts c; elements = spread_elements F L ts c el }; own = spread_own ts c l; none = spread_none_low ts c; closed = refl })

pub mapped : {X E : Type 0} (r : Result X E) (P Q : X → Type 0) → ((x : X) → P x → Q x) → IfOk r P → IfOk r Q
mapped (Ok x) P Q f h = f x h
mapped (Err e) P Q f h = h
