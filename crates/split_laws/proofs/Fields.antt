-- The pairs of a field give a split.
use Rattle.std.proofs.Common.{◌≡◌, ℕ, zero, suc, ◌<◌, ◌⊎◌, inl, inr, List, [], ◌∷◌, length, replicate, get_or, set, refl, ap, sym, ◌∙◌, arith, subst}
use Rattle.std.specs.List.{AllByRecursion}
use Rattle.std.proofs.lemmas.Simd.{length-replicate, get_or-replicate}
use Rattle.small_field.specs.Field.{Ops, IsField}
use Rattle.linear_laws.specs.Vectors.{dot, boundary, column, row_at, IsVector, combination}
use Rattle.small_field.specs.Values.{AreElements}
use Rattle.linear_laws.proofs.CallerLemmas.{zeros-elements, combination-vector, entry_combination, all_set}
use Rattle.split_laws.specs.Kinds.{Kind, Critical, Lower, Upper, part, ZeroOnUppers, ZeroOnLowers, ZeroOffLowers, ZeroOffUppers, AgreeOnLowers, AgreeOnUppers}
use Rattle.split_laws.specs.Solutions.{IsExtension, IsFlow, IsCleared, without}
use Rattle.split_laws.proofs.Parts.{agreed}
use Rattle.split_laws.specs.Split.{IsSplit}
use Rattle.split_laws.specs.Pairs.{Match, IsMatching, HasLower, HasUpper, kind_at, correction, settle, back_correction, carry}
use Rattle.split_laws.proofs.Settle.{settle_long, settle_meets, settle_outside, carry_long, carry_meets, carry_outside}
use Rattle.split_laws.proofs.Solved.{boundary_long}

pub boundary_at : (k : Ops) (rows : List (List ℕ)) (c : List ℕ) (i : ℕ) → i < length rows → get_or (boundary k rows c) i 0 ≡ dot k (row_at rows i) c
boundary_at k [] c i lt = absurd (omega arith)
boundary_at k (r ∷ rows) c zero lt = refl
boundary_at k (r ∷ rows) c (suc i) lt = boundary_at k rows c i (omega arith)

-- ---- from places to kinds

zero_or : {k : Kind} (x : ℕ) (wanted : Kind) → (k ≡ wanted → ⊥) → (x ≡ 0) ⊎ (k ≡ wanted) → x ≡ 0
zero_or x wanted ne (inl e) = e
zero_or x wanted ne (inr e) = absurd (ne e)

same_or : {k : Kind} (x y : ℕ) (wanted : Kind) → (k ≡ wanted → ⊥) → (x ≡ y) ⊎ (k ≡ wanted) → x ≡ y
same_or x y wanted ne (inl e) = e
same_or x y wanted ne (inr e) = absurd (ne e)

critical_no_lower : Critical ≡ Lower → ⊥
critical_no_lower e = cc

critical_no_upper : Critical ≡ Upper → ⊥
critical_no_upper e = cc

upper_no_lower : Upper ≡ Lower → ⊥
upper_no_lower e = cc

lower_no_upper : Lower ≡ Upper → ⊥
lower_no_upper e = cc

off_lowers : (ts : List Kind) (x : List ℕ) → length x ≡ length ts → ((i : ℕ) → i < length ts → (get_or x i 0 ≡ 0) ⊎ (kind_at ts i ≡ Lower)) → ZeroOffLowers ts x
off_lowers [] [] l h = refl
off_lowers [] (x ∷ xs) l h = absurd (omega (arith, l))
off_lowers (t ∷ ts) [] l h = absurd (omega (arith, l))
off_lowers (Critical ∷ ts) (x ∷ xs) l h = (zero_or x Lower critical_no_lower (h 0 (omega arith)), off_lowers ts xs (omega (arith, l)) (λ i lt. h (suc i) (omega arith)))
off_lowers (Lower ∷ ts) (x ∷ xs) l h = off_lowers ts xs (omega (arith, l)) (λ i lt. h (suc i) (omega arith))
off_lowers (Upper ∷ ts) (x ∷ xs) l h = (zero_or x Lower upper_no_lower (h 0 (omega arith)), off_lowers ts xs (omega (arith, l)) (λ i lt. h (suc i) (omega arith)))

off_uppers : (ts : List Kind) (x : List ℕ) → length x ≡ length ts → ((i : ℕ) → i < length ts → (get_or x i 0 ≡ 0) ⊎ (kind_at ts i ≡ Upper)) → ZeroOffUppers ts x
off_uppers [] [] l h = refl
off_uppers [] (x ∷ xs) l h = absurd (omega (arith, l))
off_uppers (t ∷ ts) [] l h = absurd (omega (arith, l))
off_uppers (Critical ∷ ts) (x ∷ xs) l h = (zero_or x Upper critical_no_upper (h 0 (omega arith)), off_uppers ts xs (omega (arith, l)) (λ i lt. h (suc i) (omega arith)))
off_uppers (Lower ∷ ts) (x ∷ xs) l h = (zero_or x Upper lower_no_upper (h 0 (omega arith)), off_uppers ts xs (omega (arith, l)) (λ i lt. h (suc i) (omega arith)))
off_uppers (Upper ∷ ts) (x ∷ xs) l h = off_uppers ts xs (omega (arith, l)) (λ i lt. h (suc i) (omega arith))

on_uppers : (us : List Kind) (x t : List ℕ) → length x ≡ length us → length t ≡ length us → ((j : ℕ) → j < length us → kind_at us j ≡ Upper → get_or x j 0 ≡ get_or t j 0) → AgreeOnUppers us x t
on_uppers [] x t l r h = tt
on_uppers (u ∷ us) [] t l r h = absurd (omega (arith, l))
on_uppers (u ∷ us) (x ∷ xs) [] l r h = absurd (omega (arith, r))
on_uppers (Critical ∷ us) (x ∷ xs) (t ∷ ts) l r h = on_uppers us xs ts (omega (arith, l)) (omega (arith, r)) (λ j lt. h (suc j) (omega arith))
on_uppers (Lower ∷ us) (x ∷ xs) (t ∷ ts) l r h = on_uppers us xs ts (omega (arith, l)) (omega (arith, r)) (λ j lt. h (suc j) (omega arith))
on_uppers (Upper ∷ us) (x ∷ xs) (t ∷ ts) l r h = (h 0 (omega arith) refl, on_uppers us xs ts (omega (arith, l)) (omega (arith, r)) (λ j lt. h (suc j) (omega arith)))

on_lowers : (us : List Kind) (x t : List ℕ) → length x ≡ length us → length t ≡ length us → ((j : ℕ) → j < length us → kind_at us j ≡ Lower → get_or x j 0 ≡ get_or t j 0) → AgreeOnLowers us x t
on_lowers [] x t l r h = tt
on_lowers (u ∷ us) [] t l r h = absurd (omega (arith, l))
on_lowers (u ∷ us) (x ∷ xs) [] l r h = absurd (omega (arith, r))
on_lowers (Critical ∷ us) (x ∷ xs) (t ∷ ts) l r h = on_lowers us xs ts (omega (arith, l)) (omega (arith, r)) (λ j lt. h (suc j) (omega arith))
on_lowers (Lower ∷ us) (x ∷ xs) (t ∷ ts) l r h = (h 0 (omega arith) refl, on_lowers us xs ts (omega (arith, l)) (omega (arith, r)) (λ j lt. h (suc j) (omega arith)))
on_lowers (Upper ∷ us) (x ∷ xs) (t ∷ ts) l r h = on_lowers us xs ts (omega (arith, l)) (omega (arith, r)) (λ j lt. h (suc j) (omega arith))

-- what holds at each pair holds at the one found
at_upper : (P : ℕ → Type 0) (ps : List Match) (j : ℕ) → AllByRecursion (λ p. P p.upper) ps → HasUpper ps j → P j
at_upper P [] j h g = absurd g
at_upper P (p ∷ ps) j h (inl e) = subst P e h.0
at_upper P (p ∷ ps) j h (inr g) = at_upper P ps j h.1 g

at_lower : (P : ℕ → Type 0) (ps : List Match) (j : ℕ) → AllByRecursion (λ p. P p.lower) ps → HasLower ps j → P j
at_lower P [] j h g = absurd g
at_lower P (p ∷ ps) j h (inl e) = subst P e h.0
at_lower P (p ∷ ps) j h (inr g) = at_lower P ps j h.1 g

-- ---- where two lists agree but on lowers, or but on uppers

part_agrees : (ts : List Kind) (x y : List ℕ) → length x ≡ length ts → length y ≡ length ts → ((i : ℕ) → i < length ts → (get_or x i 0 ≡ get_or y i 0) ⊎ (kind_at ts i ≡ Lower)) → part ts x ≡ part ts y
part_agrees [] x y l r h = refl
part_agrees (t ∷ ts) [] y l r h = absurd (omega (arith, l))
part_agrees (t ∷ ts) (x ∷ xs) [] l r h = absurd (omega (arith, r))
part_agrees (Critical ∷ ts) (x ∷ xs) (y ∷ ys) l r h =
    ap (λ (n : ℕ). n ∷ part ts xs) (same_or x y Lower critical_no_lower (h 0 (omega arith))) ∙ ap (λ (zs : List ℕ). y ∷ zs) (part_agrees ts xs ys (omega (arith, l)) (omega (arith, r)) (λ i lt. h (suc i) (omega arith)))
part_agrees (Lower ∷ ts) (x ∷ xs) (y ∷ ys) l r h = part_agrees ts xs ys (omega (arith, l)) (omega (arith, r)) (λ i lt. h (suc i) (omega arith))
part_agrees (Upper ∷ ts) (x ∷ xs) (y ∷ ys) l r h = part_agrees ts xs ys (omega (arith, l)) (omega (arith, r)) (λ i lt. h (suc i) (omega arith))

part_agrees_up : (ts : List Kind) (x y : List ℕ) → length x ≡ length ts → length y ≡ length ts → ((i : ℕ) → i < length ts → (get_or x i 0 ≡ get_or y i 0) ⊎ (kind_at ts i ≡ Upper)) → part ts x ≡ part ts y
part_agrees_up [] x y l r h = refl
part_agrees_up (t ∷ ts) [] y l r h = absurd (omega (arith, l))
part_agrees_up (t ∷ ts) (x ∷ xs) [] l r h = absurd (omega (arith, r))
part_agrees_up (Critical ∷ ts) (x ∷ xs) (y ∷ ys) l r h =
    ap (λ (n : ℕ). n ∷ part ts xs) (same_or x y Upper critical_no_upper (h 0 (omega arith))) ∙ ap (λ (zs : List ℕ). y ∷ zs) (part_agrees_up ts xs ys (omega (arith, l)) (omega (arith, r)) (λ i lt. h (suc i) (omega arith)))
part_agrees_up (Lower ∷ ts) (x ∷ xs) (y ∷ ys) l r h = part_agrees_up ts xs ys (omega (arith, l)) (omega (arith, r)) (λ i lt. h (suc i) (omega arith))
part_agrees_up (Upper ∷ ts) (x ∷ xs) (y ∷ ys) l r h = part_agrees_up ts xs ys (omega (arith, l)) (omega (arith, r)) (λ i lt. h (suc i) (omega arith))

none_agrees : (ts : List Kind) (x y : List ℕ) → length x ≡ length ts → ZeroOnUppers ts y → ((i : ℕ) → i < length ts → (get_or x i 0 ≡ get_or y i 0) ⊎ (kind_at ts i ≡ Lower)) → ZeroOnUppers ts x
none_agrees [] [] y l z h = refl
none_agrees [] (x ∷ xs) y l z h = absurd (omega (arith, l))
none_agrees (t ∷ ts) [] y l z h = absurd (omega (arith, l))
none_agrees (t ∷ ts) (x ∷ xs) [] l z h = absurd z
none_agrees (Critical ∷ ts) (x ∷ xs) (y ∷ ys) l z h = none_agrees ts xs ys (omega (arith, l)) z (λ i lt. h (suc i) (omega arith))
none_agrees (Lower ∷ ts) (x ∷ xs) (y ∷ ys) l z h = none_agrees ts xs ys (omega (arith, l)) z (λ i lt. h (suc i) (omega arith))
none_agrees (Upper ∷ ts) (x ∷ xs) (y ∷ ys) l z h = (same_or x y Lower upper_no_lower (h 0 (omega arith)) ∙ z.0, none_agrees ts xs ys (omega (arith, l)) z.1 (λ i lt. h (suc i) (omega arith)))

none_low_agrees : (ts : List Kind) (x y : List ℕ) → length x ≡ length ts → ZeroOnLowers ts y → ((i : ℕ) → i < length ts → (get_or x i 0 ≡ get_or y i 0) ⊎ (kind_at ts i ≡ Upper)) → ZeroOnLowers ts x
none_low_agrees [] [] y l z h = refl
none_low_agrees [] (x ∷ xs) y l z h = absurd (omega (arith, l))
none_low_agrees (t ∷ ts) [] y l z h = absurd (omega (arith, l))
none_low_agrees (t ∷ ts) (x ∷ xs) [] l z h = absurd z
none_low_agrees (Critical ∷ ts) (x ∷ xs) (y ∷ ys) l z h = none_low_agrees ts xs ys (omega (arith, l)) z (λ i lt. h (suc i) (omega arith))
none_low_agrees (Upper ∷ ts) (x ∷ xs) (y ∷ ys) l z h = none_low_agrees ts xs ys (omega (arith, l)) z (λ i lt. h (suc i) (omega arith))
none_low_agrees (Lower ∷ ts) (x ∷ xs) (y ∷ ys) l z h = (same_or x y Upper lower_no_upper (h 0 (omega arith)) ∙ z.0, none_low_agrees ts xs ys (omega (arith, l)) z.1 (λ i lt. h (suc i) (omega arith)))

-- what agrees with zeros on uppers is zero there, and so on lowers
zero_on_uppers : (us : List Kind) (n : ℕ) (x : List ℕ) → length x ≡ length us → AgreeOnUppers us x (replicate n 0) → ZeroOnUppers us x
zero_on_uppers [] n [] l h = refl
zero_on_uppers [] n (x ∷ xs) l h = absurd (omega (arith, l))
zero_on_uppers (u ∷ us) n [] l h = absurd h
zero_on_uppers (u ∷ us) zero (x ∷ xs) l h = absurd h
zero_on_uppers (Critical ∷ us) (suc n) (x ∷ xs) l h = zero_on_uppers us n xs (omega (arith, l)) h
zero_on_uppers (Lower ∷ us) (suc n) (x ∷ xs) l h = zero_on_uppers us n xs (omega (arith, l)) h
zero_on_uppers (Upper ∷ us) (suc n) (x ∷ xs) l h = (h.0, zero_on_uppers us n xs (omega (arith, l)) h.1)

zero_on_lowers : (us : List Kind) (n : ℕ) (x : List ℕ) → length x ≡ length us → AgreeOnLowers us x (replicate n 0) → ZeroOnLowers us x
zero_on_lowers [] n [] l h = refl
zero_on_lowers [] n (x ∷ xs) l h = absurd (omega (arith, l))
zero_on_lowers (u ∷ us) n [] l h = absurd h
zero_on_lowers (u ∷ us) zero (x ∷ xs) l h = absurd h
zero_on_lowers (Critical ∷ us) (suc n) (x ∷ xs) l h = zero_on_lowers us n xs (omega (arith, l)) h
zero_on_lowers (Upper ∷ us) (suc n) (x ∷ xs) l h = zero_on_lowers us n xs (omega (arith, l)) h
zero_on_lowers (Lower ∷ us) (suc n) (x ∷ xs) l h = (h.0, zero_on_lowers us n xs (omega (arith, l)) h.1)

module _ (k : Ops) (f : IsField k) (n m : ℕ) (rows : List (List ℕ)) (ts us : List Kind) (ps : List Match) (M : IsMatching k n m rows ts us ps) where
  settle_below : (t : List ℕ) (qs : List Match) (y : List ℕ) → AreElements k y → AreElements k (settle k rows t qs y)
  settle_below t [] y h = h
  settle_below t (p ∷ qs) y h =
      let v : ℕ = k.add (get_or y p.lower 0) (correction k rows t p y) in
      settle_below t qs (set y p.lower v) (all_set (λ x. x < k.size) y p.lower v (f.add_below (get_or y p.lower 0) (correction k rows t p y)) h)

  carry_below : (t : List ℕ) (qs : List Match) (z : List ℕ) → AreElements k z → AreElements k (carry k rows t qs z)
  carry_below t [] z h = h
  carry_below t (p ∷ qs) z h =
      let r : List ℕ = carry k rows t qs z in
      all_set (λ x. x < k.size) r p.upper (k.add (get_or r p.upper 0) (back_correction k rows t p r)) (f.add_below (get_or r p.upper 0) (back_correction k rows t p r)) (carry_below t qs z h)

  pub settled-vector : (t y : List ℕ) → IsVector k n y → IsVector k n (settle k rows t ps y)
  settled-vector t y v = record { long = settle_long k f m rows M.matrix t ps y ∙ v.long; elements = settle_below t ps y v.elements }

  pub carried-vector : (t z : List ℕ) → IsVector k m z → IsVector k m (carry k rows t ps z)
  carried-vector t z v = record { long = carry_long k f m rows M.matrix t ps z ∙ v.long; elements = carry_below t ps z v.elements }

  -- the coboundary of what is settled is t on uppers
  pub settled : (t y : List ℕ) → IsVector k m t → IsVector k n y → AgreeOnUppers us (combination k m (settle k rows t ps y) rows) t
  settled t y v w =
      let x : List ℕ = settle k rows t ps y in
      let d : List ℕ = combination k m x rows in
      let vd : IsVector k m d = combination-vector k f m x rows M.matrix in
      let meets : AllByRecursion (λ p. dot k x (column p.upper rows) ≡ get_or t p.upper 0) ps = settle_meets k f m rows M.matrix t ps y (w.long ∙ sym M.long) v.elements M.triangular in
      on_uppers us d t (vd.long ∙ sym M.above) (v.long ∙ sym M.above)
      (λ j lj e. entry_combination k f m j x rows M.matrix (subst (λ (x : ℕ). j < x) M.above lj) ∙ at_upper (λ u. dot k x (column u rows) ≡ get_or t u 0) ps j meets (M.kinds.has_upper j lj e))

  pub carried : (t z : List ℕ) → IsVector k n t → IsVector k m z → AgreeOnLowers ts (boundary k rows (carry k rows t ps z)) t
  carried t z v w =
      let x : List ℕ = carry k rows t ps z in
      let meets : AllByRecursion (λ p. dot k (row_at rows p.lower) x ≡ get_or t p.lower 0) ps = carry_meets k f m rows M.matrix t ps z w.long v.elements M.uppers M.triangular in
      on_lowers ts (boundary k rows x) t (boundary_long k rows x ∙ (M.long ∙ sym M.below)) (v.long ∙ sym M.below)
      (λ i li e. boundary_at k rows x i (subst (λ (x : ℕ). i < x) (M.below ∙ sym M.long) li) ∙ at_lower (λ u. dot k (row_at rows u) x ≡ get_or t u 0) ps i meets (M.kinds.has_lower i li e))

  -- what is settled agrees with what it began with, but on lowers
  agrees : (t y : List ℕ) (i : ℕ) → i < length ts → (get_or (settle k rows t ps y) i 0 ≡ get_or y i 0) ⊎ (kind_at ts i ≡ Lower)
  agrees t y i li = elim (M.kinds.lower_or i li) [ inl none ↦ inl (settle_outside k f m rows M.matrix t ps y i none) | inr e ↦ inr e ]

  agrees_up : (t z : List ℕ) (j : ℕ) → j < length us → (get_or (carry k rows t ps z) j 0 ≡ get_or z j 0) ⊎ (kind_at us j ≡ Upper)
  agrees_up t z j lj = elim (M.kinds.upper_or j lj) [ inl none ↦ inl (carry_outside k f m rows M.matrix t ps z j none) | inr e ↦ inr e ]

  zeros-vector : (c : ℕ) → IsVector k c (replicate c 0)
  zeros-vector c = record { long = length-replicate c 0; elements = zeros-elements k f c }

  off : (t : List ℕ) → ZeroOffLowers ts (settle k rows t ps (replicate n 0))
  off t =
      off_lowers ts (settle k rows t ps (replicate n 0)) ((settled-vector t (replicate n 0) (zeros-vector n)).long ∙ sym M.below)
      (λ i li. elim (agrees t (replicate n 0) i li) [ inl e ↦ inl (e ∙ get_or-replicate n i 0 0 (subst (λ (x : ℕ). i < x) M.below li)) | inr e ↦ inr e ])

  off_up : (t : List ℕ) → ZeroOffUppers us (carry k rows t ps (replicate m 0))
  off_up t =
      off_uppers us (carry k rows t ps (replicate m 0)) ((carried-vector t (replicate m 0) (zeros-vector m)).long ∙ sym M.above)
      (λ j lj. elim (agrees_up t (replicate m 0) j lj) [ inl e ↦ inl (e ∙ get_or-replicate m j 0 0 (subst (λ (x : ℕ). j < x) M.above lj)) | inr e ↦ inr e ])

  pub split_of_field : IsSplit k n m rows ts us
  split_of_field = record {
    matrix = M.matrix;
    long = M.long;
    below = M.below;
    above = M.above;
    settles = λ t v.
        let zs = replicate n 0 in
        (settle k rows t ps zs, settled-vector t zs (zeros-vector n), off t, settled t zs v (zeros-vector n));
    carries = λ t v.
        let zs = replicate m 0 in
        (carry k rows t ps zs, carried-vector t zs (zeros-vector m), off_up t, carried t zs v (zeros-vector m));
  }

  pub extended : (w y : List ℕ) → IsVector k n y → part ts y ≡ w → ZeroOnUppers ts y → IsExtension k n m rows ts us w (settle k rows (replicate m 0) ps y)
  extended w y v own none =
      let t : List ℕ = replicate m 0 in
      let x : List ℕ = settle k rows t ps y in
      let vx : IsVector k n x = settled-vector t y v in
      record {
        vector = vx;
        own = part_agrees ts x y (vx.long ∙ sym M.below) (v.long ∙ sym M.below) (agrees t y) ∙ own;
        none = none_agrees ts x y (vx.long ∙ sym M.below) none (agrees t y);
        closed = zero_on_uppers us m (combination k m x rows) ((combination-vector k f m x rows M.matrix).long ∙ sym M.above) (settled t y (zeros-vector m) v);
      }

  pub flowed : (c z : List ℕ) → IsVector k m z → part us z ≡ c → ZeroOnLowers us z → IsFlow k n m rows ts us c (carry k rows (replicate n 0) ps z)
  flowed c z v own none =
      let t : List ℕ = replicate n 0 in
      let x : List ℕ = carry k rows t ps z in
      let vx : IsVector k m x = carried-vector t z v in
      record {
        vector = vx;
        own = part_agrees_up us x z (vx.long ∙ sym M.above) (v.long ∙ sym M.above) (agrees_up t z) ∙ own;
        none = none_low_agrees us x z (vx.long ∙ sym M.above) none (agrees_up t z);
        closed = zero_on_lowers ts n (boundary k rows x) (boundary_long k rows x ∙ (M.long ∙ sym M.below)) (carried t z (zeros-vector n) v);
      }

  pub cleared : (x : List ℕ) → IsVector k m x → IsCleared k n m rows ts us x (part us (without k m rows x (settle k rows x ps (replicate n 0)))) (settle k rows x ps (replicate n 0))
  cleared x v =
      let y : List ℕ = settle k rows x ps (replicate n 0) in
      record {
        vector = settled-vector x (replicate n 0) (zeros-vector n);
        only = off x;
        none = agreed k f us x (combination k m y rows) v.elements (v.long ∙ sym M.above) (settled x (replicate n 0) v (zeros-vector n));
        rest = refl;
      }
