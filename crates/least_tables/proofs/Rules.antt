-- From the rules of first appearance to what the test needs, and from all its answers to whether the table is least.
use Rattle.std.proofs.Common.{◌≡◌, ◌⊎◌, inl, inr, ℕ, suc, ◌+◌, ◌-◌, ◌*◌, ◌/◌, ◌%◌, ◌<◌, ◌≤◌, List, [], ◌∷◌, ◌++◌, length, take, drop, get_or, ap, arith, sym, subst, ◌∙◌, true, false, ◌&&◌}
use Rattle.std.specs.Prelude.{not, nat_lt, nat_le, max}
use Rattle.std.proofs.lemmas.Bool.{and_parts, leb-true, false_from_ne_true, false≢true}
use Rattle.std.proofs.lemmas.List.{take-append-drop, take_more, length-take-le}
use Rattle.std.proofs.Math.Seq.{drop-cons}
use Rattle.std.proofs.Math.Nat.{eq-or-lt_of_le}
use Rattle.sheet_laws.specs.Permutations.{InRange, at, back}
use Rattle.sheet_laws.specs.Tables.{is_table, is_least, IsTransitive}
use Rattle.sheet_laws.proofs.CallerLemmas.{back_turn, at-of-back, least_is_exact}
use Rattle.live_laws.specs.Live.{appeared, taken, may_follow, follows}
use Rattle.live_laws.proofs.CallerLemmas.{follows-append, placed, cell-range, appeared-append, least_appears}
use Rattle.least_tables.specs.Smaller.{RowsAppear, IsGrown, HasSmaller, HasNoSmaller}
use Rattle.least_tables.proofs.Places.{one_more, row-of}

-- ---- the rules

module _ (c m : ℕ) (t : List ℕ) (some : 1 ≤ m) (long : length t ≡ m * c) (rules : follows c m [] t ≡ true) where
  each-may : (i : ℕ) → i < length t → may_follow c m (take i t) (get_or t i 0) ≡ true
  each-may i h =
      let split : take i t ++ (get_or t i 0 ∷ drop (suc i) t) ≡ t = ap (λ (r : List ℕ). take i t ++ r) (sym (drop-cons t i 0 h)) ∙ take-append-drop i t in
      let e : (follows c m [] (take i t) && follows c m (take i t) (get_or t i 0 ∷ drop (suc i) t)) ≡ true = sym (follows-append c m [] (take i t) (get_or t i 0 ∷ drop (suc i) t)) ∙ (ap (follows c m []) split ∙ rules) in
      (and_parts (may_follow c m (take i t) (get_or t i 0)) (follows c m (take i t ++ get_or t i 0 ∷ []) (drop (suc i) t)) ((and_parts (follows c m [] (take i t)) (follows c m (take i t) (get_or t i 0 ∷ drop (suc i) t)) e).1)).0

  allowed : (i : ℕ) → i < length t → InRange m (get_or t i 0) × (suc (i / c) ≤ appeared 1 (take i t))
  allowed i l =
      let p = take i t in
      let x = get_or t i 0 in
      let a = and_parts (nat_lt (length p) (m * c)) ((nat_le 1 x && nat_le x m) && (nat_le x (suc (appeared 1 p)) && (nat_le (suc (length p / c)) (appeared 1 p) && not (taken c (length p) x 0 p)))) (each-may i l) in
      let b = and_parts (nat_le 1 x && nat_le x m) (nat_le x (suc (appeared 1 p)) && (nat_le (suc (length p / c)) (appeared 1 p) && not (taken c (length p) x 0 p))) a.1 in
      let r = and_parts (nat_le 1 x) (nat_le x m) b.0 in
      let d = and_parts (nat_le x (suc (appeared 1 p))) (nat_le (suc (length p / c)) (appeared 1 p) && not (taken c (length p) x 0 p)) b.1 in
      let f = and_parts (nat_le (suc (length p / c)) (appeared 1 p)) (not (taken c (length p) x 0 p)) d.1 in
      ((leb-true 1 x r.0, leb-true x m r.1), rw (length-take-le i t (omega (arith, l))) at (leb-true (suc (length p / c)) (appeared 1 p) f.0))

  pub grown-by-rules : IsGrown c m t
  grown-by-rules = record { some = some; long = long; ranged = λ i l. (allowed i l).0; rows = λ i l. (allowed i l).1 }

-- ---- tables of permutations

pub grown-table : (c m : ℕ) (t : List ℕ) → 1 ≤ m → is_table c m t ≡ true → length t ≡ m * c → RowsAppear c t → IsGrown c m t
grown-table c m t some table long rows = record {
  some = some;
  long = long;
  ranged = λ i l. (let p = placed c m i (rw long at l) in subst (λ (j : ℕ). InRange m (get_or t j 0)) p.is (cell-range c m t table (suc (i / c)) (suc (i % c)) p.row p.column));
  rows = rows;
}

-- a table with a row that has not appeared before is not least
pub least-rows : (c m : ℕ) (t : List ℕ) → 1 ≤ m → is_table c m t ≡ true → length t ≡ m * c → IsTransitive c m t → (RowsAppear c t → ⊥) → false ≡ is_least c m t
least-rows c m t some table long transitive n = sym (false_from_ne_true (is_least c m t) (λ e. n (λ i l. rows e i l)))
  where
    rows : is_least c m t ≡ true → RowsAppear c t
    rows e i l = (grown-by-rules c m t some long (least_appears c m t (placed c m i (rw long at l)).some table e transitive)).rows i l

-- ---- all sheets tried as the first

pub is-smaller : (c m : ℕ) (t : List ℕ) → HasSmaller c m t → false ≡ is_least c m t
is-smaller c m t h = sym (false_from_ne_true (is_least c m t) (λ e. false≢true (sym ((least_is_exact c m t).0 e h.by h.permutes) ∙ h.smaller)))

pub none-smaller : (c m : ℕ) (t : List ℕ) → 1 ≤ m → ((b : ℕ) → b < m → HasNoSmaller c m b t) → true ≡ is_least c m t
none-smaller c m t some h = sym ((least_is_exact c m t).1 (λ f p.
    let r = (back_turn m f p).into 1 (omega arith, some) in
    h (back f 1 - 1) (omega (arith, r.0, r.1)) f p (ap (at f) (one_more (back f 1) r.0) ∙ at-of-back m f p 1 (omega arith, some))))

-- a row that has not appeared
pub row-missing : (c : ℕ) (t : List ℕ) (i r g s : ℕ) → i < length t → i ≡ c * r + g → g < c → s ≤ r → s ≡ appeared 1 (take i t) → RowsAppear c t → ⊥
row-missing c t i r g s l e k h z rows = let f = row-of c r g i e k in let b = rows i l in omega (arith, f, b, h, z)

-- ---- the rows, place by place

pub seen-more : (t : List ℕ) (i s : ℕ) → i < length t → s ≡ appeared 1 (take i t) → max s (get_or t i 0) ≡ appeared 1 (take (i + 1) t)
seen-more t i s l e =
    ap (λ (n : ℕ). max n (get_or t i 0)) e ∙ (sym (appeared-append 1 (take i t) (get_or t i 0 ∷ [])) ∙ ap (appeared 1) (sym (take_more t i 0 l)))

pub rows-more : (c : ℕ) (t : List ℕ) (i r g s : ℕ) → i ≡ c * r + g → g < c → r < s → s ≡ appeared 1 (take i t)
    → ((j : ℕ) → j < i → suc (j / c) ≤ appeared 1 (take j t)) → (j : ℕ) → j < i + 1 → suc (j / c) ≤ appeared 1 (take j t)
rows-more c t i r g s e l h z before j d = by (eq-or-lt_of_le (up j i d))
  where
    up : (j i : ℕ) → j < i + 1 → j ≤ i
    up j i d = omega (arith, d)

    here : suc (i / c) ≤ appeared 1 (take i t)
    here = let f = row-of c r g i e l in omega (arith, f, h, z)

    by : (j ≡ i) ⊎ (j < i) → suc (j / c) ≤ appeared 1 (take j t)
    by (inl f) = subst (λ (x : ℕ). suc (x / c) ≤ appeared 1 (take x t)) (sym f) here
    by (inr f) = before j f
