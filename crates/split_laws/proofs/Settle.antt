-- Substitution along the pairs of a field: forward on lowers, backward on uppers.
use Rattle.std.proofs.Common.{◌≡◌, ◌≢◌, ℕ, ◌<◌, List, [], ◌∷◌, length, length-set, get_or, set, get_or-set_other, refl, ap, sym, ◌∙◌, arith, subst}
use Rattle.std.specs.List.{AllByRecursion}
use Rattle.small_field.specs.Field.{Ops, IsField}
use Rattle.linear_laws.specs.Vectors.{dot, column, entry, row_at, bump, IsVector, IsMatrix}
use Rattle.small_field.specs.Values.{AreElements}
use Rattle.linear_laws.proofs.CallerLemmas.{dot_below, dot_comm, dot_bumped, column_entry, all_at, length-column, list_below}
use Rattle.small_field.proofs.CallerLemmas.{add_zero, mul_zero}
use Rattle.split_laws.specs.Pairs.{Match, Triangular, correction, settle, back_correction, carry}

module _ (k : Ops) (f : IsField k) where
  -- a (t - d) / a added to d is t
  pub corrected : (d t a : ℕ) → d < k.size → t < k.size → a < k.size → a ≢ 0 → k.add d (k.mul (k.mul (k.add t (k.neg d)) (k.inv a)) a) ≡ t
  corrected d t a ld lt la ne =
      let one : k.mul (k.inv a) a ≡ 1 = f.mul_comm (k.inv a) a ∙ f.mul_inv a la ne in
      let s : ℕ = k.add t (k.neg d) in
      let back : k.mul (k.mul s (k.inv a)) a ≡ s = f.mul_assoc s (k.inv a) a ∙ (ap (k.mul s) one ∙ (f.mul_comm s 1 ∙ f.one_mul s (f.add_below t (k.neg d)))) in
      ap (k.add d) (back ∙ f.add_comm t (k.neg d)) ∙ (sym (f.add_assoc d (k.neg d) t) ∙ (ap (λ (n : ℕ). k.add n t) (f.add_neg d) ∙ f.zero_add t lt))

  module _ (m : ℕ) (rows : List (List ℕ)) (a : IsMatrix k m rows) (t : List ℕ) where
    entry_small : (i j : ℕ) → i < length rows → entry rows i j < k.size
    entry_small i j lt = list_below k f (row_at rows i) j (all_at (IsVector k m) rows i [] lt a).elements

    -- ---- forward

    pub settle_long : (ps : List Match) (y : List ℕ) → length (settle k rows t ps y) ≡ length y
    settle_long [] y = refl
    settle_long (p ∷ ps) y =
        let v : ℕ = k.add (get_or y p.lower 0) (correction k rows t p y) in
        settle_long ps (set y p.lower v) ∙ length-set y p.lower v

    -- where no lower of the pairs is met, the coboundary stays
    settle_keeps : (ps : List Match) (y : List ℕ) (j : ℕ) → length y ≡ length rows → Triangular rows ps → AllByRecursion (λ q. entry rows q.lower j ≡ 0) ps → dot k (settle k rows t ps y) (column j rows) ≡ dot k y (column j rows)
    settle_keeps [] y j l tr h = refl
    settle_keeps (p ∷ ps) y j l tr h =
        let c : ℕ = correction k rows t p y in
        let y1 : List ℕ = set y p.lower (k.add (get_or y p.lower 0) c) in
        let l1 : length y1 ≡ length rows = length-set y p.lower (k.add (get_or y p.lower 0) c) ∙ l in
        let lt : p.lower < length rows = tr.0 in
        settle_keeps ps y1 j l1 tr.3 h.1
        ∙ (dot_bumped k f y (column j rows) p.lower c (omega arith) (length-column rows j ∙ sym l)
        ∙ (ap (λ (n : ℕ). k.add (dot k y (column j rows)) (k.mul c n)) (column_entry rows j p.lower tr.0 ∙ h.0)
        ∙ (ap (k.add (dot k y (column j rows))) (mul_zero k f c) ∙ add_zero k f (dot k y (column j rows)) (dot_below k f y (column j rows)))))

    -- at each upper the coboundary is t
    pub settle_meets : (ps : List Match) (y : List ℕ) → length y ≡ length rows → AreElements k t → Triangular rows ps → AllByRecursion (λ p. dot k (settle k rows t ps y) (column p.upper rows) ≡ get_or t p.upper 0) ps
    settle_meets [] y l el tr = tt
    settle_meets (p ∷ ps) y l el tr =
        let c : ℕ = correction k rows t p y in
        let y1 : List ℕ = set y p.lower (k.add (get_or y p.lower 0) c) in
        let l1 : length y1 ≡ length rows = length-set y p.lower (k.add (get_or y p.lower 0) c) ∙ l in
        let lt : p.lower < length rows = tr.0 in
        let col : List ℕ = column p.upper rows in (
          settle_keeps ps y1 p.upper l1 tr.3 tr.2
              ∙ (dot_bumped k f y col p.lower c (omega arith) (length-column rows p.upper ∙ sym l)
              ∙ (ap (λ (n : ℕ). k.add (dot k y col) (k.mul c n)) (column_entry rows p.upper p.lower tr.0)
              ∙ corrected (dot k y col) (get_or t p.upper 0) (entry rows p.lower p.upper) (dot_below k f y col) (list_below k f t p.upper el) (entry_small p.lower p.upper tr.0) tr.1)),
          settle_meets ps y1 l1 el tr.3,
        )

    -- other places stay
    pub settle_outside : (ps : List Match) (y : List ℕ) (i : ℕ) → AllByRecursion (λ (q : Match). i ≢ q.lower) ps → get_or (settle k rows t ps y) i 0 ≡ get_or y i 0
    settle_outside [] y i h = refl
    settle_outside (p ∷ ps) y i h =
        let v : ℕ = k.add (get_or y p.lower 0) (correction k rows t p y) in
        settle_outside ps (set y p.lower v) i h.1 ∙ get_or-set_other y p.lower i v 0 h.0

    -- ---- backward

    pub carry_long : (ps : List Match) (z : List ℕ) → length (carry k rows t ps z) ≡ length z
    carry_long [] z = refl
    carry_long (p ∷ ps) z =
        let r : List ℕ = carry k rows t ps z in
        length-set r p.upper (k.add (get_or r p.upper 0) (back_correction k rows t p r)) ∙ carry_long ps z

    -- a row on a vector with something added at one place
    bumped_row : (i j c : ℕ) (z : List ℕ) → length z ≡ m → i < length rows → j < m → dot k (row_at rows i) (bump k z j c) ≡ k.add (dot k (row_at rows i) z) (k.mul c (entry rows i j))
    bumped_row i j c z l li lj =
        let v : IsVector k m (row_at rows i) = all_at (IsVector k m) rows i [] li a in
        dot_comm k f (row_at rows i) (bump k z j c)
        ∙ (dot_bumped k f z (row_at rows i) j c (subst (λ (x : ℕ). j < x) (sym l) lj) (v.long ∙ sym l) ∙ ap (λ (n : ℕ). k.add n (k.mul c (entry rows i j))) (dot_comm k f z (row_at rows i)))

    -- the later pairs are not disturbed
    undisturbed : (p : Match) (qs : List Match) (z : List ℕ) (c : ℕ) → length z ≡ m → p.upper < m → Triangular rows qs → AllByRecursion (λ q. entry rows q.lower p.upper ≡ 0) qs
        → AllByRecursion (λ q. dot k (row_at rows q.lower) z ≡ get_or t q.lower 0) qs → AllByRecursion (λ q. dot k (row_at rows q.lower) (bump k z p.upper c) ≡ get_or t q.lower 0) qs
    undisturbed p [] z c l lp tr h g = tt
    undisturbed p (q ∷ qs) z c l lp tr h g =
        let d : ℕ = dot k (row_at rows q.lower) z in (
          bumped_row q.lower p.upper c z l tr.0 lp ∙ (ap (λ (n : ℕ). k.add d (k.mul c n)) h.0 ∙ (ap (k.add d) (mul_zero k f c) ∙ (add_zero k f d (dot_below k f (row_at rows q.lower) z) ∙ g.0))),
          undisturbed p qs z c l lp tr.3 h.1 g.1,
        )

    -- at each lower the boundary is t
    pub carry_meets : (ps : List Match) (z : List ℕ) → length z ≡ m → AreElements k t → AllByRecursion (λ (q : Match). q.upper < m) ps → Triangular rows ps → AllByRecursion (λ p. dot k (row_at rows p.lower) (carry k rows t ps z) ≡ get_or t p.lower 0) ps
    carry_meets [] z l el lu tr = tt
    carry_meets (p ∷ ps) z l el lu tr =
        let r : List ℕ = carry k rows t ps z in
        let lr : length r ≡ m = carry_long ps z ∙ l in
        let d : ℕ = dot k (row_at rows p.lower) r in (
          bumped_row p.lower p.upper (back_correction k rows t p r) r lr tr.0 lu.0
              ∙ corrected d (get_or t p.lower 0) (entry rows p.lower p.upper) (dot_below k f (row_at rows p.lower) r) (list_below k f t p.lower el) (entry_small p.lower p.upper tr.0) tr.1,
          undisturbed p ps r (back_correction k rows t p r) lr lu.0 tr.3 tr.2 (carry_meets ps z l el lu.1 tr.3),
        )

    pub carry_outside : (ps : List Match) (z : List ℕ) (j : ℕ) → AllByRecursion (λ (q : Match). j ≢ q.upper) ps → get_or (carry k rows t ps z) j 0 ≡ get_or z j 0
    carry_outside [] z j h = refl
    carry_outside (p ∷ ps) z j h =
        let r : List ℕ = carry k rows t ps z in
        get_or-set_other r p.upper j (k.add (get_or r p.upper 0) (back_correction k rows t p r)) 0 h.0 ∙ carry_outside ps z j h.1
