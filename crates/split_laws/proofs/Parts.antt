-- Values on critical cells, on lowers and on uppers.
use Rattle.std.proofs.Common.{◌≡◌, ℕ, zero, suc, ◌<◌, List, [], ◌∷◌, length, map, replicate, refl, ap, sym, ◌∙◌, arith}
use Rattle.small_field.specs.Field.{Ops, IsField}
use Rattle.linear_laws.specs.Vectors.{dot, IsVector, IsMatrix, combination, plus_scaled}
use Rattle.small_field.specs.Values.{AreElements}
use Rattle.linear_laws.proofs.CallerLemmas.{dot_below, skip_left, skip_right, combination-vector}
use Rattle.small_field.proofs.CallerLemmas.{zero_below, add_zero, mul_zero, mul_neg, neg_neg, neg_unique}
use Rattle.split_laws.specs.Kinds.{Kind, Critical, Lower, Upper, criticals, part, spread, ZeroOnUppers, ZeroOnLowers, ZeroOffLowers, ZeroOffUppers, AgreeOnLowers, AgreeOnUppers}

abbrev pub first_of : List ℕ → ℕ
first_of [] = 0
first_of (x ∷ xs) = x

abbrev pub rest_of : List ℕ → List ℕ
rest_of [] = []
rest_of (x ∷ xs) = xs

-- ---- lengths and elements of the part

pub part-long : (ts : List Kind) (x : List ℕ) → length x ≡ length ts → length (part ts x) ≡ criticals ts
part-long [] [] l = refl
part-long [] (x ∷ xs) l = absurd (omega (arith, l))
part-long (t ∷ ts) [] l = absurd (omega (arith, l))
part-long (Critical ∷ ts) (x ∷ xs) l = ap suc (part-long ts xs (omega (arith, l)))
part-long (Lower ∷ ts) (x ∷ xs) l = part-long ts xs (omega (arith, l))
part-long (Upper ∷ ts) (x ∷ xs) l = part-long ts xs (omega (arith, l))

pub part-zeros : (ts : List Kind) (n : ℕ) → length ts ≡ n → part ts (replicate n 0) ≡ replicate (criticals ts) 0
part-zeros [] n l = refl
part-zeros (t ∷ ts) zero l = absurd (omega (arith, l))
part-zeros (Critical ∷ ts) (suc n) l = ap (λ (r : List ℕ). 0 ∷ r) (part-zeros ts n (omega (arith, l)))
part-zeros (Lower ∷ ts) (suc n) l = part-zeros ts n (omega (arith, l))
part-zeros (Upper ∷ ts) (suc n) l = part-zeros ts n (omega (arith, l))

-- ---- zeros

pub none-zeros : (ts : List Kind) (n : ℕ) → length ts ≡ n → ZeroOnUppers ts (replicate n 0)
none-zeros [] zero l = refl
none-zeros [] (suc n) l = absurd (omega (arith, l))
none-zeros (t ∷ ts) zero l = absurd (omega (arith, l))
none-zeros (Critical ∷ ts) (suc n) l = none-zeros ts n (omega (arith, l))
none-zeros (Lower ∷ ts) (suc n) l = none-zeros ts n (omega (arith, l))
none-zeros (Upper ∷ ts) (suc n) l = (refl, none-zeros ts n (omega (arith, l)))

pub none_low-zeros : (ts : List Kind) (n : ℕ) → length ts ≡ n → ZeroOnLowers ts (replicate n 0)
none_low-zeros [] zero l = refl
none_low-zeros [] (suc n) l = absurd (omega (arith, l))
none_low-zeros (t ∷ ts) zero l = absurd (omega (arith, l))
none_low-zeros (Critical ∷ ts) (suc n) l = none_low-zeros ts n (omega (arith, l))
none_low-zeros (Lower ∷ ts) (suc n) l = (refl, none_low-zeros ts n (omega (arith, l)))
none_low-zeros (Upper ∷ ts) (suc n) l = none_low-zeros ts n (omega (arith, l))

-- ---- values for critical cells, and zero elsewhere

pub spread_long : (ts : List Kind) (w : List ℕ) → length (spread ts w) ≡ length ts
spread_long [] w = refl
spread_long (Critical ∷ ts) [] = ap suc (spread_long ts [])
spread_long (Critical ∷ ts) (x ∷ w) = ap suc (spread_long ts w)
spread_long (Lower ∷ ts) w = ap suc (spread_long ts w)
spread_long (Upper ∷ ts) w = ap suc (spread_long ts w)

pub spread_none : (ts : List Kind) (w : List ℕ) → ZeroOnUppers ts (spread ts w)
spread_none [] w = refl
spread_none (Critical ∷ ts) [] = spread_none ts []
spread_none (Critical ∷ ts) (x ∷ w) = spread_none ts w
spread_none (Lower ∷ ts) w = spread_none ts w
spread_none (Upper ∷ ts) w = (refl, spread_none ts w)

pub spread_none_low : (ts : List Kind) (w : List ℕ) → ZeroOnLowers ts (spread ts w)
spread_none_low [] w = refl
spread_none_low (Critical ∷ ts) [] = spread_none_low ts []
spread_none_low (Critical ∷ ts) (x ∷ w) = spread_none_low ts w
spread_none_low (Lower ∷ ts) w = (refl, spread_none_low ts w)
spread_none_low (Upper ∷ ts) w = spread_none_low ts w

pub spread_own : (ts : List Kind) (w : List ℕ) → length w ≡ criticals ts → part ts (spread ts w) ≡ w
spread_own [] [] l = refl
spread_own [] (x ∷ w) l = absurd (omega (arith, l))
spread_own (Critical ∷ ts) [] l = absurd (omega (arith, l))
spread_own (Critical ∷ ts) (x ∷ w) l = ap (λ (r : List ℕ). x ∷ r) (spread_own ts w (omega (arith, l)))
spread_own (Lower ∷ ts) w l = spread_own ts w l
spread_own (Upper ∷ ts) w l = spread_own ts w l

module _ (k : Ops) (f : IsField k) where
  pub spread_elements : (ts : List Kind) (w : List ℕ) → AreElements k w → AreElements k (spread ts w)
  spread_elements [] w h = tt
  spread_elements (Critical ∷ ts) [] h = (zero_below k f, spread_elements ts [] tt)
  spread_elements (Critical ∷ ts) (x ∷ w) h = (h.0, spread_elements ts w h.1)
  spread_elements (Lower ∷ ts) w h = (zero_below k f, spread_elements ts w h)
  spread_elements (Upper ∷ ts) w h = (zero_below k f, spread_elements ts w h)

  pub part-elements : (ts : List Kind) (x : List ℕ) → AreElements k x → AreElements k (part ts x)
  part-elements [] x h = tt
  part-elements (t ∷ ts) [] h = tt
  part-elements (Critical ∷ ts) (x ∷ xs) h = (h.0, part-elements ts xs h.1)
  part-elements (Lower ∷ ts) (x ∷ xs) h = part-elements ts xs h.1
  part-elements (Upper ∷ ts) (x ∷ xs) h = part-elements ts xs h.1

  pub part-vector : (ts : List Kind) (n : ℕ) (x : List ℕ) → length ts ≡ n → IsVector k n x → IsVector k (criticals ts) (part ts x)
  part-vector ts n x l v = record { long = part-long ts x (v.long ∙ sym l); elements = part-elements ts x v.elements }

  -- ---- numbers

  -- a + s 0 is a
  pub plus_none : (a s y : ℕ) → y ≡ 0 → a < k.size → k.add a (k.mul s y) ≡ a
  plus_none a s y e la = ap (λ (n : ℕ). k.add a (k.mul s n)) e ∙ (ap (k.add a) (mul_zero k f s) ∙ add_zero k f a la)

  pub none_plus : (a s y : ℕ) → a ≡ 0 → y ≡ 0 → k.add a (k.mul s y) ≡ 0
  none_plus a s y e g = ap (λ (n : ℕ). k.add n (k.mul s y)) e ∙ plus_none 0 s y g (zero_below k f)

  neg_one : (a : ℕ) → a < k.size → k.mul (k.neg 1) a ≡ k.neg a
  neg_one a la = f.mul_comm (k.neg 1) a ∙ (mul_neg k f a 1 ∙ ap k.neg (f.mul_comm a 1 ∙ f.one_mul a la))

  -- a - a
  pub cancels : (a b : ℕ) → b ≡ a → a < k.size → k.add a (k.mul (k.neg 1) b) ≡ 0
  cancels a b e la = ap (λ (n : ℕ). k.add a (k.mul (k.neg 1) n)) e ∙ (ap (k.add a) (neg_one a la) ∙ f.add_neg a)

  -- a difference that is zero
  pub equal : (a b : ℕ) → a < k.size → b < k.size → k.add a (k.mul (k.neg 1) b) ≡ 0 → a ≡ b
  equal a b la lb e =
      let zero_sum : k.add a (k.neg b) ≡ 0 = ap (k.add a) (sym (neg_one b lb)) ∙ e in
      let n : k.neg b ≡ k.neg a = neg_unique k f a (k.neg b) (f.neg_below b) zero_sum in
      sym (neg_neg k f a la) ∙ (ap k.neg (sym n) ∙ neg_neg k f b lb)

  pub same : (n : ℕ) (x y : List ℕ) → IsVector k n x → IsVector k n y → plus_scaled k (k.neg 1) x y ≡ replicate n 0 → x ≡ y
  same zero [] [] v w e = refl
  same zero (x ∷ xs) y v w e = absurd (omega (arith, v.long))
  same zero [] (y ∷ ys) v w e = absurd (omega (arith, w.long))
  same (suc n) [] y v w e = absurd (omega (arith, v.long))
  same (suc n) (x ∷ xs) [] v w e = absurd (omega (arith, w.long))
  same (suc n) (x ∷ xs) (y ∷ ys) v w e =
      let lx : length xs ≡ n = let l : length (x ∷ xs) ≡ suc n = v.long in omega arith in
      let ly : length ys ≡ n = let l : length (y ∷ ys) ≡ suc n = w.long in omega arith in
      let here : x ≡ y = equal x y v.elements.0 w.elements.0 (ap first_of e) in
      ap (λ (m : ℕ). m ∷ xs) here ∙ ap (λ (r : List ℕ). y ∷ r) (same n xs ys (record { long = lx; elements = v.elements.1 }) (record { long = ly; elements = w.elements.1 }) (ap rest_of e))

  -- ---- sums

  pub part-plus : (ts : List Kind) (s : ℕ) (x y : List ℕ) → length x ≡ length y → part ts (plus_scaled k s x y) ≡ plus_scaled k s (part ts x) (part ts y)
  part-plus [] s x y l = refl
  part-plus (t ∷ ts) s [] y l = refl
  part-plus (t ∷ ts) s (x ∷ xs) [] l = absurd (omega (arith, l))
  part-plus (Critical ∷ ts) s (x ∷ xs) (y ∷ ys) l = ap (λ (r : List ℕ). k.add x (k.mul s y) ∷ r) (part-plus ts s xs ys (omega (arith, l)))
  part-plus (Lower ∷ ts) s (x ∷ xs) (y ∷ ys) l = part-plus ts s xs ys (omega (arith, l))
  part-plus (Upper ∷ ts) s (x ∷ xs) (y ∷ ys) l = part-plus ts s xs ys (omega (arith, l))

  -- the part of a combination is the combination of the parts
  pub part-combination : (ts : List Kind) (n : ℕ) (cs : List ℕ) (rows : List (List ℕ)) → length ts ≡ n → IsMatrix k n rows → part ts (combination k n cs rows) ≡ combination k (criticals ts) cs (map (part ts) rows)
  part-combination ts n [] rows l a = part-zeros ts n l
  part-combination ts n (c ∷ cs) [] l a = part-zeros ts n l
  part-combination ts n (c ∷ cs) (r ∷ rows) l a =
      part-plus ts c (combination k n cs rows) r ((combination-vector k f n cs rows a.1).long ∙ sym a.0.long)
      ∙ ap (λ (x : List ℕ). plus_scaled k c x (part ts r)) (part-combination ts n cs rows l a.1)

  -- both zero on uppers, on lowers, or but on lowers, or but on uppers
  pub none_less : (us : List Kind) (s : ℕ) (x y : List ℕ) → ZeroOnUppers us x → ZeroOnUppers us y → ZeroOnUppers us (plus_scaled k s x y)
  none_less [] s [] y a b = refl
  none_less [] s (x ∷ xs) y a b = absurd (omega (arith, ap length a))
  none_less (u ∷ us) s [] y a b = absurd a
  none_less (u ∷ us) s (x ∷ xs) [] a b = absurd b
  none_less (Critical ∷ us) s (x ∷ xs) (y ∷ ys) a b = none_less us s xs ys a b
  none_less (Lower ∷ us) s (x ∷ xs) (y ∷ ys) a b = none_less us s xs ys a b
  none_less (Upper ∷ us) s (x ∷ xs) (y ∷ ys) a b = (none_plus x s y a.0 b.0, none_less us s xs ys a.1 b.1)

  pub none_low_less : (us : List Kind) (s : ℕ) (x y : List ℕ) → ZeroOnLowers us x → ZeroOnLowers us y → ZeroOnLowers us (plus_scaled k s x y)
  none_low_less [] s [] y a b = refl
  none_low_less [] s (x ∷ xs) y a b = absurd (omega (arith, ap length a))
  none_low_less (u ∷ us) s [] y a b = absurd a
  none_low_less (u ∷ us) s (x ∷ xs) [] a b = absurd b
  none_low_less (Critical ∷ us) s (x ∷ xs) (y ∷ ys) a b = none_low_less us s xs ys a b
  none_low_less (Upper ∷ us) s (x ∷ xs) (y ∷ ys) a b = none_low_less us s xs ys a b
  none_low_less (Lower ∷ us) s (x ∷ xs) (y ∷ ys) a b = (none_plus x s y a.0 b.0, none_low_less us s xs ys a.1 b.1)

  pub off_plus : (us : List Kind) (s : ℕ) (x y : List ℕ) → ZeroOffLowers us x → ZeroOffLowers us y → ZeroOffLowers us (plus_scaled k s x y)
  off_plus [] s [] y a b = refl
  off_plus [] s (x ∷ xs) y a b = absurd (omega (arith, ap length a))
  off_plus (u ∷ us) s [] y a b = absurd a
  off_plus (u ∷ us) s (x ∷ xs) [] a b = absurd b
  off_plus (Critical ∷ us) s (x ∷ xs) (y ∷ ys) a b = (none_plus x s y a.0 b.0, off_plus us s xs ys a.1 b.1)
  off_plus (Lower ∷ us) s (x ∷ xs) (y ∷ ys) a b = off_plus us s xs ys a b
  off_plus (Upper ∷ us) s (x ∷ xs) (y ∷ ys) a b = (none_plus x s y a.0 b.0, off_plus us s xs ys a.1 b.1)

  -- something on lowers added; and on uppers
  pub part_kept : (ts : List Kind) (s : ℕ) (x y : List ℕ) → AreElements k x → length x ≡ length ts → ZeroOffLowers ts y → part ts (plus_scaled k s x y) ≡ part ts x
  part_kept [] s x y e l h = refl
  part_kept (t ∷ ts) s [] y e l h = absurd (omega (arith, l))
  part_kept (t ∷ ts) s (x ∷ xs) [] e l h = absurd h
  part_kept (Critical ∷ ts) s (x ∷ xs) (y ∷ ys) e l h = ap (λ (n : ℕ). n ∷ part ts (plus_scaled k s xs ys)) (plus_none x s y h.0 e.0) ∙ ap (λ (r : List ℕ). x ∷ r) (part_kept ts s xs ys e.1 (omega (arith, l)) h.1)
  part_kept (Lower ∷ ts) s (x ∷ xs) (y ∷ ys) e l h = part_kept ts s xs ys e.1 (omega (arith, l)) h
  part_kept (Upper ∷ ts) s (x ∷ xs) (y ∷ ys) e l h = part_kept ts s xs ys e.1 (omega (arith, l)) h.1

  pub part_kept_up : (ts : List Kind) (s : ℕ) (x y : List ℕ) → AreElements k x → length x ≡ length ts → ZeroOffUppers ts y → part ts (plus_scaled k s x y) ≡ part ts x
  part_kept_up [] s x y e l h = refl
  part_kept_up (t ∷ ts) s [] y e l h = absurd (omega (arith, l))
  part_kept_up (t ∷ ts) s (x ∷ xs) [] e l h = absurd h
  part_kept_up (Critical ∷ ts) s (x ∷ xs) (y ∷ ys) e l h = ap (λ (n : ℕ). n ∷ part ts (plus_scaled k s xs ys)) (plus_none x s y h.0 e.0) ∙ ap (λ (r : List ℕ). x ∷ r) (part_kept_up ts s xs ys e.1 (omega (arith, l)) h.1)
  part_kept_up (Upper ∷ ts) s (x ∷ xs) (y ∷ ys) e l h = part_kept_up ts s xs ys e.1 (omega (arith, l)) h
  part_kept_up (Lower ∷ ts) s (x ∷ xs) (y ∷ ys) e l h = part_kept_up ts s xs ys e.1 (omega (arith, l)) h.1

  pub none_kept : (ts : List Kind) (s : ℕ) (x y : List ℕ) → ZeroOnUppers ts x → ZeroOffLowers ts y → ZeroOnUppers ts (plus_scaled k s x y)
  none_kept [] s [] y a h = refl
  none_kept [] s (x ∷ xs) y a h = absurd (omega (arith, ap length a))
  none_kept (t ∷ ts) s [] y a h = absurd a
  none_kept (t ∷ ts) s (x ∷ xs) [] a h = absurd h
  none_kept (Critical ∷ ts) s (x ∷ xs) (y ∷ ys) a h = none_kept ts s xs ys a h.1
  none_kept (Lower ∷ ts) s (x ∷ xs) (y ∷ ys) a h = none_kept ts s xs ys a h
  none_kept (Upper ∷ ts) s (x ∷ xs) (y ∷ ys) a h = (none_plus x s y a.0 h.0, none_kept ts s xs ys a.1 h.1)

  pub none_low_kept : (ts : List Kind) (s : ℕ) (x y : List ℕ) → ZeroOnLowers ts x → ZeroOffUppers ts y → ZeroOnLowers ts (plus_scaled k s x y)
  none_low_kept [] s [] y a h = refl
  none_low_kept [] s (x ∷ xs) y a h = absurd (omega (arith, ap length a))
  none_low_kept (t ∷ ts) s [] y a h = absurd a
  none_low_kept (t ∷ ts) s (x ∷ xs) [] a h = absurd h
  none_low_kept (Critical ∷ ts) s (x ∷ xs) (y ∷ ys) a h = none_low_kept ts s xs ys a h.1
  none_low_kept (Upper ∷ ts) s (x ∷ xs) (y ∷ ys) a h = none_low_kept ts s xs ys a h
  none_low_kept (Lower ∷ ts) s (x ∷ xs) (y ∷ ys) a h = (none_plus x s y a.0 h.0, none_low_kept ts s xs ys a.1 h.1)

  -- what agrees on uppers, or on lowers, taken away
  pub agreed : (us : List Kind) (x y : List ℕ) → AreElements k x → length x ≡ length us → AgreeOnUppers us y x → ZeroOnUppers us (plus_scaled k (k.neg 1) x y)
  agreed [] [] y e l h = refl
  agreed [] (x ∷ xs) y e l h = absurd (omega (arith, l))
  agreed (u ∷ us) [] y e l h = absurd (omega (arith, l))
  agreed (u ∷ us) (x ∷ xs) [] e l h = absurd h
  agreed (Critical ∷ us) (x ∷ xs) (y ∷ ys) e l h = agreed us xs ys e.1 (omega (arith, l)) h
  agreed (Lower ∷ us) (x ∷ xs) (y ∷ ys) e l h = agreed us xs ys e.1 (omega (arith, l)) h
  agreed (Upper ∷ us) (x ∷ xs) (y ∷ ys) e l h = (cancels x y h.0 e.0, agreed us xs ys e.1 (omega (arith, l)) h.1)

  pub agreed_low : (us : List Kind) (x y : List ℕ) → AreElements k x → length x ≡ length us → AgreeOnLowers us y x → ZeroOnLowers us (plus_scaled k (k.neg 1) x y)
  agreed_low [] [] y e l h = refl
  agreed_low [] (x ∷ xs) y e l h = absurd (omega (arith, l))
  agreed_low (u ∷ us) [] y e l h = absurd (omega (arith, l))
  agreed_low (u ∷ us) (x ∷ xs) [] e l h = absurd h
  agreed_low (Critical ∷ us) (x ∷ xs) (y ∷ ys) e l h = agreed_low us xs ys e.1 (omega (arith, l)) h
  agreed_low (Upper ∷ us) (x ∷ xs) (y ∷ ys) e l h = agreed_low us xs ys e.1 (omega (arith, l)) h
  agreed_low (Lower ∷ us) (x ∷ xs) (y ∷ ys) e l h = (cancels x y h.0 e.0, agreed_low us xs ys e.1 (omega (arith, l)) h.1)

  -- what is left of x by y, and by z, is zero on uppers: y and z agree there
  pub both_clear : (us : List Kind) (x y z : List ℕ) → AreElements k x → AreElements k y → AreElements k z → ZeroOnUppers us (plus_scaled k (k.neg 1) x y) → ZeroOnUppers us (plus_scaled k (k.neg 1) x z)
      → length y ≡ length us → length z ≡ length us → ZeroOnUppers us (plus_scaled k (k.neg 1) y z)
  both_clear [] x [] z ex ey ez a b ly lz = refl
  both_clear [] x (y ∷ ys) z ex ey ez a b ly lz = absurd (omega (arith, ly))
  both_clear (u ∷ us) [] y z ex ey ez a b ly lz = absurd a
  both_clear (u ∷ us) (x ∷ xs) [] z ex ey ez a b ly lz = absurd a
  both_clear (u ∷ us) (x ∷ xs) (y ∷ ys) [] ex ey ez a b ly lz = absurd b
  both_clear (Critical ∷ us) (x ∷ xs) (y ∷ ys) (z ∷ zs) ex ey ez a b ly lz = both_clear us xs ys zs ex.1 ey.1 ez.1 a b (omega (arith, ly)) (omega (arith, lz))
  both_clear (Lower ∷ us) (x ∷ xs) (y ∷ ys) (z ∷ zs) ex ey ez a b ly lz = both_clear us xs ys zs ex.1 ey.1 ez.1 a b (omega (arith, ly)) (omega (arith, lz))
  both_clear (Upper ∷ us) (x ∷ xs) (y ∷ ys) (z ∷ zs) ex ey ez a b ly lz =
      (cancels y z (sym (equal x z ex.0 ez.0 b.0) ∙ equal x y ex.0 ey.0 a.0) ey.0, both_clear us xs ys zs ex.1 ey.1 ez.1 a.1 b.1 (omega (arith, ly)) (omega (arith, lz)))

  -- with equal values on critical cells too, the difference is on lowers; or on uppers
  pub off_less : (ts : List Kind) (x y : List ℕ) → AreElements k x → ZeroOnUppers ts x → ZeroOnUppers ts y → part ts y ≡ part ts x → ZeroOffLowers ts (plus_scaled k (k.neg 1) x y)
  off_less [] [] y e a b h = refl
  off_less [] (x ∷ xs) y e a b h = absurd (omega (arith, ap length a))
  off_less (t ∷ ts) [] y e a b h = absurd a
  off_less (t ∷ ts) (x ∷ xs) [] e a b h = absurd b
  off_less (Critical ∷ ts) (x ∷ xs) (y ∷ ys) e a b h = (cancels x y (ap first_of h) e.0, off_less ts xs ys e.1 a b (ap rest_of h))
  off_less (Lower ∷ ts) (x ∷ xs) (y ∷ ys) e a b h = off_less ts xs ys e.1 a b h
  off_less (Upper ∷ ts) (x ∷ xs) (y ∷ ys) e a b h = (none_plus x (k.neg 1) y a.0 b.0, off_less ts xs ys e.1 a.1 b.1 h)

  pub off_less_up : (ts : List Kind) (x y : List ℕ) → AreElements k x → ZeroOnLowers ts x → ZeroOnLowers ts y → part ts y ≡ part ts x → ZeroOffUppers ts (plus_scaled k (k.neg 1) x y)
  off_less_up [] [] y e a b h = refl
  off_less_up [] (x ∷ xs) y e a b h = absurd (omega (arith, ap length a))
  off_less_up (t ∷ ts) [] y e a b h = absurd a
  off_less_up (t ∷ ts) (x ∷ xs) [] e a b h = absurd b
  off_less_up (Critical ∷ ts) (x ∷ xs) (y ∷ ys) e a b h = (cancels x y (ap first_of h) e.0, off_less_up ts xs ys e.1 a b (ap rest_of h))
  off_less_up (Upper ∷ ts) (x ∷ xs) (y ∷ ys) e a b h = off_less_up ts xs ys e.1 a b h
  off_less_up (Lower ∷ ts) (x ∷ xs) (y ∷ ys) e a b h = (none_plus x (k.neg 1) y a.0 b.0, off_less_up ts xs ys e.1 a.1 b.1 h)

  -- ---- products

  -- what is zero but on lowers, or on uppers, sees only those
  pub sees_lowers : (ts : List Kind) (x s t : List ℕ) → ZeroOffLowers ts x → AgreeOnLowers ts s t → dot k x s ≡ dot k x t
  sees_lowers [] [] s t a b = refl
  sees_lowers [] (x ∷ xs) s t a b = absurd (omega (arith, ap length a))
  sees_lowers (q ∷ ts) [] s t a b = absurd a
  sees_lowers (q ∷ ts) (x ∷ xs) [] t a b = absurd b
  sees_lowers (q ∷ ts) (x ∷ xs) (s ∷ ss) [] a b = absurd b
  sees_lowers (Critical ∷ ts) (x ∷ xs) (s ∷ ss) (t ∷ tts) a b =
      ap (λ (n : ℕ). k.add (k.mul n s) (dot k xs ss)) a.0 ∙ (skip_left k f s (dot k xs ss) (dot_below k f xs ss)
      ∙ (sees_lowers ts xs ss tts a.1 b ∙ sym (ap (λ (n : ℕ). k.add (k.mul n t) (dot k xs tts)) a.0 ∙ skip_left k f t (dot k xs tts) (dot_below k f xs tts))))
  sees_lowers (Lower ∷ ts) (x ∷ xs) (s ∷ ss) (t ∷ tts) a b = ap (λ (n : ℕ). k.add (k.mul x n) (dot k xs ss)) b.0 ∙ ap (k.add (k.mul x t)) (sees_lowers ts xs ss tts a b.1)
  sees_lowers (Upper ∷ ts) (x ∷ xs) (s ∷ ss) (t ∷ tts) a b =
      ap (λ (n : ℕ). k.add (k.mul n s) (dot k xs ss)) a.0 ∙ (skip_left k f s (dot k xs ss) (dot_below k f xs ss)
      ∙ (sees_lowers ts xs ss tts a.1 b ∙ sym (ap (λ (n : ℕ). k.add (k.mul n t) (dot k xs tts)) a.0 ∙ skip_left k f t (dot k xs tts) (dot_below k f xs tts))))

  pub sees_uppers : (ts : List Kind) (x s t : List ℕ) → ZeroOffUppers ts x → AgreeOnUppers ts s t → dot k x s ≡ dot k x t
  sees_uppers [] [] s t a b = refl
  sees_uppers [] (x ∷ xs) s t a b = absurd (omega (arith, ap length a))
  sees_uppers (q ∷ ts) [] s t a b = absurd a
  sees_uppers (q ∷ ts) (x ∷ xs) [] t a b = absurd b
  sees_uppers (q ∷ ts) (x ∷ xs) (s ∷ ss) [] a b = absurd b
  sees_uppers (Critical ∷ ts) (x ∷ xs) (s ∷ ss) (t ∷ tts) a b =
      ap (λ (n : ℕ). k.add (k.mul n s) (dot k xs ss)) a.0 ∙ (skip_left k f s (dot k xs ss) (dot_below k f xs ss)
      ∙ (sees_uppers ts xs ss tts a.1 b ∙ sym (ap (λ (n : ℕ). k.add (k.mul n t) (dot k xs tts)) a.0 ∙ skip_left k f t (dot k xs tts) (dot_below k f xs tts))))
  sees_uppers (Upper ∷ ts) (x ∷ xs) (s ∷ ss) (t ∷ tts) a b = ap (λ (n : ℕ). k.add (k.mul x n) (dot k xs ss)) b.0 ∙ ap (k.add (k.mul x t)) (sees_uppers ts xs ss tts a b.1)
  sees_uppers (Lower ∷ ts) (x ∷ xs) (s ∷ ss) (t ∷ tts) a b =
      ap (λ (n : ℕ). k.add (k.mul n s) (dot k xs ss)) a.0 ∙ (skip_left k f s (dot k xs ss) (dot_below k f xs ss)
      ∙ (sees_uppers ts xs ss tts a.1 b ∙ sym (ap (λ (n : ℕ). k.add (k.mul n t) (dot k xs tts)) a.0 ∙ skip_left k f t (dot k xs tts) (dot_below k f xs tts))))

  -- one is zero on uppers, or on lowers, the other elsewhere
  pub apart : (us : List Kind) (x z : List ℕ) → ZeroOnUppers us x → ZeroOffUppers us z → dot k x z ≡ 0
  apart [] [] z a b = refl
  apart [] (x ∷ xs) z a b = absurd (omega (arith, ap length a))
  apart (q ∷ us) [] z a b = absurd a
  apart (q ∷ us) (x ∷ xs) [] a b = absurd b
  apart (Critical ∷ us) (x ∷ xs) (z ∷ zs) a b = ap (λ (n : ℕ). k.add (k.mul x n) (dot k xs zs)) b.0 ∙ (skip_right k f x (dot k xs zs) (dot_below k f xs zs) ∙ apart us xs zs a b.1)
  apart (Lower ∷ us) (x ∷ xs) (z ∷ zs) a b = ap (λ (n : ℕ). k.add (k.mul x n) (dot k xs zs)) b.0 ∙ (skip_right k f x (dot k xs zs) (dot_below k f xs zs) ∙ apart us xs zs a b.1)
  apart (Upper ∷ us) (x ∷ xs) (z ∷ zs) a b = ap (λ (n : ℕ). k.add (k.mul n z) (dot k xs zs)) a.0 ∙ (skip_left k f z (dot k xs zs) (dot_below k f xs zs) ∙ apart us xs zs a.1 b)

  pub apart_lowers : (us : List Kind) (x z : List ℕ) → ZeroOnLowers us x → ZeroOffLowers us z → dot k x z ≡ 0
  apart_lowers [] [] z a b = refl
  apart_lowers [] (x ∷ xs) z a b = absurd (omega (arith, ap length a))
  apart_lowers (q ∷ us) [] z a b = absurd a
  apart_lowers (q ∷ us) (x ∷ xs) [] a b = absurd b
  apart_lowers (Critical ∷ us) (x ∷ xs) (z ∷ zs) a b = ap (λ (n : ℕ). k.add (k.mul x n) (dot k xs zs)) b.0 ∙ (skip_right k f x (dot k xs zs) (dot_below k f xs zs) ∙ apart_lowers us xs zs a b.1)
  apart_lowers (Upper ∷ us) (x ∷ xs) (z ∷ zs) a b = ap (λ (n : ℕ). k.add (k.mul x n) (dot k xs zs)) b.0 ∙ (skip_right k f x (dot k xs zs) (dot_below k f xs zs) ∙ apart_lowers us xs zs a b.1)
  apart_lowers (Lower ∷ us) (x ∷ xs) (z ∷ zs) a b = ap (λ (n : ℕ). k.add (k.mul n z) (dot k xs zs)) a.0 ∙ (skip_left k f z (dot k xs zs) (dot_below k f xs zs) ∙ apart_lowers us xs zs a.1 b)

  -- what is zero on uppers on what is zero on lowers is the pairing of their values on critical cells
  pub pairing : (ts : List Kind) (x y : List ℕ) → ZeroOnUppers ts x → ZeroOnLowers ts y → dot k x y ≡ dot k (part ts x) (part ts y)
  pairing [] [] y a b = refl
  pairing [] (x ∷ xs) y a b = absurd (omega (arith, ap length a))
  pairing (t ∷ ts) [] y a b = absurd a
  pairing (t ∷ ts) (x ∷ xs) [] a b = absurd b
  pairing (Critical ∷ ts) (x ∷ xs) (y ∷ ys) a b = ap (k.add (k.mul x y)) (pairing ts xs ys a b)
  pairing (Lower ∷ ts) (x ∷ xs) (y ∷ ys) a b = ap (λ (n : ℕ). k.add (k.mul x n) (dot k xs ys)) b.0 ∙ (skip_right k f x (dot k xs ys) (dot_below k f xs ys) ∙ pairing ts xs ys a b.1)
  pairing (Upper ∷ ts) (x ∷ xs) (y ∷ ys) a b = ap (λ (n : ℕ). k.add (k.mul n y) (dot k xs ys)) a.0 ∙ (skip_left k f y (dot k xs ys) (dot_below k f xs ys) ∙ pairing ts xs ys a.1 b)
