-- Two numbers of a numbering exchanged.
use Rattle.std.proofs.Common.{◌≡◌, inr, ℕ, zero, suc, ◌<◌, ◌≤◌, List, [], ◌∷◌, length, get_or, refl, ap, arith, sym, subst, ◌∙◌, Bool, true, false, get_or-set_same, get_or-set_other, length-set}
use Rattle.std.specs.Prelude.{◌==◌, slice_set}
use Rattle.std.proofs.lemmas.Bool.{eqb-true, eq-eqb, false≢true}
use Rattle.least_tables.specs.Numberings.{IsNumbering, IsBegun, CanGive, IsGiven}

-- ---- two entries written

pub written-last : (xs : List ℕ) (p u q v : ℕ) → q < length xs → get_or (slice_set (slice_set xs p u) q v) q 0 ≡ v
written-last xs p u q v l = get_or-set_same (slice_set xs p u) q v 0 (rw (length-set xs p u) l)

pub written-other : (xs : List ℕ) (p u q v s : ℕ) → (s ≡ p → ⊥) → (s ≡ q → ⊥) → get_or (slice_set (slice_set xs p u) q v) s 0 ≡ get_or xs s 0
written-other xs p u q v s a b = get_or-set_other (slice_set xs p u) q s v 0 b ∙ get_or-set_other xs p s u 0 a

pub written-first : (xs : List ℕ) (p u q v : ℕ) → p < length xs → (p ≡ q → ⊥) → get_or (slice_set (slice_set xs p u) q v) p 0 ≡ u
written-first xs p u q v l b = get_or-set_other (slice_set xs p u) q p v 0 b ∙ get_or-set_same xs p u 0 l

differ : (a b : ℕ) → (a == b) ≡ false → a ≡ b → ⊥
differ a b e j = false≢true (sym e ∙ eq-eqb a b j)

flip : (m : ℕ) (N O : List ℕ) → IsNumbering m N O → IsNumbering m O N
flip m N O h = record { long_numbers = h.long_sheets; long_sheets = h.long_numbers; number = h.sheet; sheet = h.number; left = h.right; right = h.left }

-- ---- the sheet y gets the number k, and the sheet z that had it gets the number a of y

module _ (m y k a z : ℕ) (N O : List ℕ) (h : IsNumbering m N O) (most : m ≤ 8) (ly : y < m) (lk : k < m) (ea : get_or N y 0 ≡ a) (ez : get_or O k 0 ≡ z) where
  low-a : a < m
  low-a = subst (λ (n : ℕ). n < m) ea (h.number y ly)

  low-z : z < m
  low-z = subst (λ (n : ℕ). n < m) ez (h.sheet k lk)

  back-a : get_or O a 0 ≡ y
  back-a = ap (λ (n : ℕ). get_or O n 0) (sym ea) ∙ h.left y ly

  back-z : get_or N z 0 ≡ k
  back-z = ap (λ (n : ℕ). get_or N n 0) (sym ez) ∙ h.right k lk

  in-row : (n : ℕ) → n < m → n < length N
  in-row n l = omega (arith, l, most, h.long_numbers)

  pub exchanged-first : get_or (slice_set (slice_set N y k) z a) y 0 ≡ k
  exchanged-first = by (y == z) refl
    where
      by : (b : Bool) → (y == z) ≡ b → get_or (slice_set (slice_set N y k) z a) y 0 ≡ k
      by true e =
          let j : y ≡ z = eqb-true y z e in
          subst (λ (n : ℕ). get_or (slice_set (slice_set N y k) z a) n 0 ≡ k) (sym j)
          (written-last N y k z a (in-row z low-z) ∙ (sym ea ∙ (ap (λ (n : ℕ). get_or N n 0) j ∙ back-z)))
      by false e = written-first N y k z a (in-row y ly) (differ y z e)

  pub exchanged-second : get_or (slice_set (slice_set N y k) z a) z 0 ≡ a
  exchanged-second = written-last N y k z a (in-row z low-z)

  pub exchanged-other : (s : ℕ) → (s ≡ y → ⊥) → (s ≡ z → ⊥) → get_or (slice_set (slice_set N y k) z a) s 0 ≡ get_or N s 0
  exchanged-other s n o = written-other N y k z a s n o

  -- what settled sheets have stays
  pub exchanged-settled : k ≤ a → (s : ℕ) → get_or N s 0 < k → get_or (slice_set (slice_set N y k) z a) s 0 ≡ get_or N s 0
  exchanged-settled l s low = exchanged-other s (λ e. not-first e) (λ e. not-second e)
    where
      not-first : s ≡ y → ⊥
      not-first e = let j : get_or N s 0 ≡ a = ap (λ (n : ℕ). get_or N n 0) e ∙ ea in omega (arith, j, low, l)

      not-second : s ≡ z → ⊥
      not-second e = let j : get_or N s 0 ≡ k = ap (λ (n : ℕ). get_or N n 0) e ∙ back-z in omega (arith, j, low)

  pub exchanged-range : (s : ℕ) → s < m → get_or (slice_set (slice_set N y k) z a) s 0 < m
  exchanged-range s l = by (s == z) (s == y) refl refl
    where
      by : (b d : Bool) → (s == z) ≡ b → (s == y) ≡ d → get_or (slice_set (slice_set N y k) z a) s 0 < m
      by true d e f = subst (λ (n : ℕ). get_or (slice_set (slice_set N y k) z a) n 0 < m) (sym (eqb-true s z e)) (rw exchanged-second low-a)
      by false true e f = subst (λ (n : ℕ). get_or (slice_set (slice_set N y k) z a) n 0 < m) (sym (eqb-true s y f)) (rw exchanged-first lk)
      by false false e f = rw (exchanged-other s (differ s y f) (differ s z e)) (h.number s l)

-- the two undo each other as before
exchanged-left : (m y k a z : ℕ) (N O : List ℕ) (h : IsNumbering m N O) → m ≤ 8 → y < m → k < m → get_or N y 0 ≡ a → get_or O k 0 ≡ z
    → (s : ℕ) → s < m → get_or (slice_set (slice_set O k y) a z) (get_or (slice_set (slice_set N y k) z a) s 0) 0 ≡ s
exchanged-left m y k a z N O h most ly lk ea ez s l = by (s == z) (s == y) refl refl
  where
    sheets : List ℕ
    sheets = slice_set (slice_set O k y) a z

    by : (b d : Bool) → (s == z) ≡ b → (s == y) ≡ d → get_or (slice_set (slice_set O k y) a z) (get_or (slice_set (slice_set N y k) z a) s 0) 0 ≡ s
    by true d e f =
        ap (λ (n : ℕ). get_or (slice_set (slice_set O k y) a z) n 0) (ap (λ (n : ℕ). get_or (slice_set (slice_set N y k) z a) n 0) (eqb-true s z e) ∙ exchanged-second m y k a z N O h most ly lk ea ez)
        ∙ (exchanged-second m k y z a O N (flip m N O h) most lk ly ez ea ∙ sym (eqb-true s z e))
    by false true e f =
        ap (λ (n : ℕ). get_or (slice_set (slice_set O k y) a z) n 0) (ap (λ (n : ℕ). get_or (slice_set (slice_set N y k) z a) n 0) (eqb-true s y f) ∙ exchanged-first m y k a z N O h most ly lk ea ez)
        ∙ (exchanged-first m k y z a O N (flip m N O h) most lk ly ez ea ∙ sym (eqb-true s y f))
    by false false e f =
        ap (λ (n : ℕ). get_or (slice_set (slice_set O k y) a z) n 0) (exchanged-other m y k a z N O h most ly lk ea ez s (differ s y f) (differ s z e))
        ∙ (exchanged-other m k y z a O N (flip m N O h) most lk ly ez ea (get_or N s 0)
        (λ j. differ s z e (sym (h.left s l) ∙ (ap (λ (n : ℕ). get_or O n 0) j ∙ ez)))
        (λ j. differ s y f (sym (h.left s l) ∙ (ap (λ (n : ℕ). get_or O n 0) (j ∙ sym ea) ∙ h.left y ly)))
        ∙ h.left s l)

exchanged : (m y k a z : ℕ) (N O : List ℕ) → IsNumbering m N O → m ≤ 8 → y < m → k < m → get_or N y 0 ≡ a → get_or O k 0 ≡ z
    → IsNumbering m (slice_set (slice_set N y k) z a) (slice_set (slice_set O k y) a z)
exchanged m y k a z N O h most ly lk ea ez = record {
  long_numbers = length-set (slice_set N y k) z a ∙ (length-set N y k ∙ h.long_numbers);
  long_sheets = length-set (slice_set O k y) a z ∙ (length-set O k y ∙ h.long_sheets);
  number = exchanged-range m y k a z N O h most ly lk ea ez;
  sheet = exchanged-range m k y z a O N (flip m N O h) most lk ly ez ea;
  left = exchanged-left m y k a z N O h most ly lk ea ez;
  right = exchanged-left m k y z a O N (flip m N O h) most lk ly ez ea;
}

-- ---- what `give` does

pub given-next : (k y a z j : ℕ) (N O : List ℕ) → CanGive y N O → get_or N y 0 ≡ a → k ≤ a → get_or O k 0 ≡ z → j ≡ suc k
    → IsGiven k y N O (slice_set (slice_set N y k) z a) (slice_set (slice_set O k y) a z) j
given-next k y a z j N O g ea l ez e = record {
  numbering = λ m most h ly. exchanged m y k a z N O h most ly (below m h ly) ea ez;
  sheets_stay = λ n i. written-other O k y a z n (λ d. omega (arith, d, i)) (λ d. omega (arith, d, i, l));
  numbers_stay = exchanged-settled g.count y k a z N O g.numbering g.most g.below (below g.count g.numbering g.below) ea ez l;
  either = inr (record {
    free = omega (arith, ea, l);
    number = exchanged-first g.count y k a z N O g.numbering g.most g.below (below g.count g.numbering g.below) ea ez;
    sheet = exchanged-first g.count k y z a O N (flip g.count N O g.numbering) g.most (below g.count g.numbering g.below) g.below ez ea;
    known = e;
  });
}
  where
    below : (m : ℕ) → IsNumbering m N O → y < m → k < m
    below m h ly = let b : get_or N y 0 < m = h.number y ly in omega (arith, b, ea, l)

-- ---- the first numbering

identity-at : (s : ℕ) → s < 8 → get_or (0 ∷ 1 ∷ 2 ∷ 3 ∷ 4 ∷ 5 ∷ 6 ∷ 7 ∷ []) s 0 ≡ s
identity-at zero l = refl
identity-at (suc zero) l = refl
identity-at (suc (suc zero)) l = refl
identity-at (suc (suc (suc zero))) l = refl
identity-at (suc (suc (suc (suc zero)))) l = refl
identity-at (suc (suc (suc (suc (suc zero))))) l = refl
identity-at (suc (suc (suc (suc (suc (suc zero)))))) l = refl
identity-at (suc (suc (suc (suc (suc (suc (suc zero))))))) l = refl
identity-at (suc (suc (suc (suc (suc (suc (suc (suc s)))))))) l = absurd (omega (arith, l))

identity : (m : ℕ) → m ≤ 8 → IsNumbering m (0 ∷ 1 ∷ 2 ∷ 3 ∷ 4 ∷ 5 ∷ 6 ∷ 7 ∷ []) (0 ∷ 1 ∷ 2 ∷ 3 ∷ 4 ∷ 5 ∷ 6 ∷ 7 ∷ [])
identity m most = record { long_numbers = refl; long_sheets = refl; number = within; sheet = within; left = twice; right = twice }
  where
    within : (s : ℕ) → s < m → get_or (0 ∷ 1 ∷ 2 ∷ 3 ∷ 4 ∷ 5 ∷ 6 ∷ 7 ∷ []) s 0 < m
    within s l = subst (λ (n : ℕ). n < m) (sym (identity-at s (omega (arith, l, most)))) l

    twice : (s : ℕ) → s < m → get_or (0 ∷ 1 ∷ 2 ∷ 3 ∷ 4 ∷ 5 ∷ 6 ∷ 7 ∷ []) (get_or (0 ∷ 1 ∷ 2 ∷ 3 ∷ 4 ∷ 5 ∷ 6 ∷ 7 ∷ []) s 0) 0 ≡ s
    twice s l = let e = identity-at s (omega (arith, l, most)) in ap (λ (n : ℕ). get_or (0 ∷ 1 ∷ 2 ∷ 3 ∷ 4 ∷ 5 ∷ 6 ∷ 7 ∷ []) n 0) e ∙ e

pub begun-numbering : (m b : ℕ) → b < m → m ≤ 8
    → IsBegun m b (slice_set (slice_set (0 ∷ 1 ∷ 2 ∷ 3 ∷ 4 ∷ 5 ∷ 6 ∷ 7 ∷ []) 0 b) b 0) (slice_set (slice_set (0 ∷ 1 ∷ 2 ∷ 3 ∷ 4 ∷ 5 ∷ 6 ∷ 7 ∷ []) b 0) 0 b)
begun-numbering m b l most =
    let row : List ℕ = 0 ∷ 1 ∷ 2 ∷ 3 ∷ 4 ∷ 5 ∷ 6 ∷ 7 ∷ [] in
    let e = identity-at b (omega (arith, l, most)) in
    record {
      numbering = exchanged m 0 b 0 b row row (identity m most) most (omega (arith, l)) l refl e;
      first = exchanged-second m b 0 b 0 row row (identity m most) most l (omega (arith, l)) e refl;
    }
