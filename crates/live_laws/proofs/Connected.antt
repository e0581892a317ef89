-- A whole table that meets the rules of first appearance is transitive.
use Rattle.std.proofs.Common.{◌≡◌, ◌⊎◌, inl, inr, ℕ, zero, suc, ◌+◌, ◌-◌, ◌*◌, ◌/◌, ◌%◌, ◌<◌, ◌≤◌, List, [], ◌∷◌, ◌++◌, length, take, drop, get_or, ap, arith, sym, subst, ◌∙◌, true, ◌&&◌}
use Rattle.std.specs.Prelude.{not, nat_lt, nat_le, max}
use Rattle.std.proofs.lemmas.Bool.{and_parts, leb-true, cases_lt}
use Rattle.std.proofs.lemmas.List.{take-append-drop, length-take-le}
use Rattle.std.proofs.lemmas.Nat.{div-mul-add}
use Rattle.std.proofs.Math.Seq.{take-suc, drop-cons}
use Rattle.std.proofs.Math.Nat.{mul_comm, mul-suc}
use Rattle.sheet_laws.specs.Permutations.{InRange, at}
use Rattle.sheet_laws.specs.Tables.{column, Reached, first, along, IsTransitive}
use Rattle.live_laws.specs.Live.{appeared, taken, may_follow, follows}
use Rattle.live_laws.specs.Classes.{AppearingIsTransitive}
use Rattle.live_laws.proofs.Sound.{follows-append}
use Rattle.live_laws.proofs.Whole.{at-column}
use Rattle.live_laws.proofs.Classes.{placed}
use Rattle.live_laws.proofs.Appearing.{appeared-append}

module _ (c m : ℕ) (t : List ℕ) (some : 1 ≤ c) (long : length t ≡ m * c) (appears : follows c m [] t ≡ true) where
  -- each cell may follow those before it
  each-may : (i : ℕ) → i < m * c → may_follow c m (take i t) (get_or t i 0) ≡ true
  each-may i l =
      let h : i < length t = rw long l in
      let split : take i t ++ (get_or t i 0 ∷ drop (suc i) t) ≡ t = ap (λ (r : List ℕ). take i t ++ r) (sym (drop-cons t i 0 h)) ∙ take-append-drop i t in
      let e : (follows c m [] (take i t) && follows c m (take i t) (get_or t i 0 ∷ drop (suc i) t)) ≡ true = sym (follows-append c m [] (take i t) (get_or t i 0 ∷ drop (suc i) t)) ∙ (ap (follows c m []) split ∙ appears) in
      (and_parts (may_follow c m (take i t) (get_or t i 0)) (follows c m (take i t ++ get_or t i 0 ∷ []) (drop (suc i) t)) ((and_parts (follows c m [] (take i t)) (follows c m (take i t) (get_or t i 0 ∷ drop (suc i) t)) e).1)).0

  -- what that says of its row and of the cell
  record Allows (i : ℕ) : Type 0 where
    pub row : suc (i / c) ≤ appeared 1 (take i t)
    pub next : get_or t i 0 ≤ suc (appeared 1 (take i t))

  allows : (i : ℕ) → i < m * c → Allows i
  allows i l =
      let p = take i t in
      let x = get_or t i 0 in
      let a = and_parts (nat_lt (length p) (m * c)) ((nat_le 1 x && nat_le x m) && (nat_le x (suc (appeared 1 p)) && (nat_le (suc (length p / c)) (appeared 1 p) && not (taken c (length p) x 0 p)))) (each-may i l) in
      let b = and_parts (nat_le 1 x && nat_le x m) (nat_le x (suc (appeared 1 p)) && (nat_le (suc (length p / c)) (appeared 1 p) && not (taken c (length p) x 0 p))) a.1 in
      let d = and_parts (nat_le x (suc (appeared 1 p))) (nat_le (suc (length p / c)) (appeared 1 p) && not (taken c (length p) x 0 p)) b.1 in
      let f = and_parts (nat_le (suc (length p / c)) (appeared 1 p)) (not (taken c (length p) x 0 p)) d.1 in
      record {
        row = rw (length-take-le i t (omega (arith, l, long))) at (leb-true (suc (length p / c)) (appeared 1 p) f.0);
        next = leb-true x (suc (appeared 1 p)) d.0;
      }

  -- the sheets that have appeared are reached
  all-reached : (i : ℕ) → i ≤ m * c → (s : ℕ) → InRange (appeared 1 (take i t)) s → Reached c m t s
  all-reached zero l s r = let e : 1 ≡ s = omega (arith, r.0, r.1) in subst (λ (y : ℕ). Reached c m t y) e first
  all-reached (suc i) l s r = by (cases_lt (appeared 1 (take i t)) s)
      (λ n q. all-reached i (omega (arith, l)) n q)
    where
      h : i < m * c
      h = omega (arith, l)

      grown : appeared 1 (take (suc i) t) ≡ max (appeared 1 (take i t)) (get_or t i 0)
      grown = ap (appeared 1) (take-suc t i 0 (rw long h)) ∙ appeared-append 1 (take i t) (get_or t i 0 ∷ [])

      is-cell : (k x s : ℕ) → k < s → s ≤ max k x → x ≤ suc k → s ≡ x
      is-cell k x s a b d = grind (arith, a, b, d)

      by : (appeared 1 (take i t) < s) ⊎ (s ≤ appeared 1 (take i t)) → ((n : ℕ) → InRange (appeared 1 (take i t)) n → Reached c m t n) → Reached c m t s
      by (inr k) g = g s (r.0, k)
      by (inl k) g =
          let a = allows i h in
          let p = placed c m i h in
          let e : s ≡ get_or t i 0 = is-cell (appeared 1 (take i t)) (get_or t i 0) s k (rw grown at r.1) a.next in
          let is : at (column c m t (suc (i % c))) (suc (i / c)) ≡ s = at-column c m t (suc (i % c)) (suc (i / c)) p.row ∙ (ap (λ (j : ℕ). get_or t j 0) p.is ∙ sym e) in
          subst (λ (y : ℕ). Reached c m t y) is (along (g (suc (i / c)) (omega arith, a.row)) p.column)

  pub transitive-from : IsTransitive c m t
  transitive-from s r = all-reached (c * (m - 1)) (omega (arith, last)) s (r.0, omega (arith, r.1, (allows (c * (m - 1)) last).row, row_is))
    where
      one_less : suc (m - 1) ≡ m
      one_less = omega (arith, r.0, r.1)

      last : c * (m - 1) < m * c
      last = by (c * (m - 1)) (m * c) (sym (mul_comm m c ∙ (ap (λ (k : ℕ). c * k) (sym one_less) ∙ mul-suc c (m - 1))))
        where
          by : (a b : ℕ) → a + c ≡ b → a < b
          by a b e = omega (arith, e, some)

      row_is : suc (c * (m - 1) / c) ≡ m
      row_is = ap suc (ap (λ (n : ℕ). n / c) (turned (c * (m - 1)) ((m - 1) * c) (mul_comm c (m - 1))) ∙ div-mul-add (m - 1) c 0 some) ∙ one_less
        where
          turned : (a b : ℕ) → a ≡ b → a ≡ b + 0
          turned a b e = omega (arith, e)

pub appearing_is_transitive : AppearingIsTransitive
appearing_is_transitive c m t some long appears = transitive-from c m t some long appears
