-- The first fault, layer by layer.
use Rattle.std.proofs.Common.{◌≡◌, inl, inr, ℕ, zero, suc, ◌+◌, ◌<◌, ◌≤◌, List, [], ◌∷◌, ◌++◌, Bool, true, false, refl, ap, sym, ◌∙◌, arith, Option, Some, None}
use Rattle.std.specs.List.{flat_map, range_with_len}
use Rattle.std.proofs.lemmas.Bool.Decides.{eqb_tells}
use Rattle.std.proofs.lemmas.List.Concat.{flat_map-cons}
use Rattle.number_lists.specs.Words.{upto}
use Rattle.regular_check.specs.declared.fault.RegularFault.{RegularFault}
use Rattle.regular_check.specs.declared.fault.RegularFault.TheVariants.{EdgeEnds, NotCycle, EdgeNotTwice, Apart, NotSphere, Memory}
use Rattle.regular_check.specs.Rules.{Rule, fault_in, IsFault}

pub head_kept : (r : Rule) (rs : List Rule) → r.kept ≡ true → fault_in (r ∷ rs) ≡ fault_in rs
head_kept r rs e = rw e refl

pub head_broken : (r : Rule) (rs : List Rule) → r.kept ≡ false → fault_in (r ∷ rs) ≡ Some r.fault
head_broken r rs e = rw e refl

pub none_before : (xs ys : List Rule) → fault_in xs ≡ None → fault_in (xs ++ ys) ≡ fault_in ys
none_before [] ys e = refl
none_before (r ∷ rs) ys e = by_test r.kept refl (none_before rs ys)
  where
    by_test : (b : Bool) → r.kept ≡ b → (fault_in rs ≡ None → fault_in (rs ++ ys) ≡ fault_in ys) → fault_in (r ∷ (rs ++ ys)) ≡ fault_in ys
    by_test true k h = head_kept r (rs ++ ys) k ∙ h (sym (head_kept r rs k) ∙ e)
    by_test false k h = absurd (some_none (sym (head_broken r rs k) ∙ e))
      where
        some_none : {f : RegularFault} → Some f ≡ None → ⊥
        some_none g = cc

pub some_before : (xs ys : List Rule) (f : RegularFault) → fault_in xs ≡ Some f → fault_in (xs ++ ys) ≡ Some f
some_before [] ys f e = absurd (none_some e)
  where
    none_some : None ≡ Some f → ⊥
    none_some g = cc
some_before (r ∷ rs) ys f e = by_test r.kept refl (some_before rs ys f)
  where
    by_test : (b : Bool) → r.kept ≡ b → (fault_in rs ≡ Some f → fault_in (rs ++ ys) ≡ Some f) → fault_in (r ∷ (rs ++ ys)) ≡ Some f
    by_test true k h = head_kept r (rs ++ ys) k ∙ h (sym (head_kept r rs k) ∙ e)
    by_test false k h = head_broken r (rs ++ ys) k ∙ (sym (head_broken r rs k) ∙ e)

layer_none_from : (g : ℕ → List Rule) (a n : ℕ) → ((k : ℕ) → a ≤ k → k < a + n → fault_in (g k) ≡ None) → fault_in (flat_map g (range_with_len a n)) ≡ None
layer_none_from g a zero h = refl
layer_none_from g a (suc n) h =
    ap fault_in (flat_map-cons g a (range_with_len (a + 1) n))
    ∙ (none_before (g a) (flat_map g (range_with_len (a + 1) n)) (h a (omega arith) (omega arith))
    ∙ layer_none_from g (a + 1) n (λ k l m. h k (omega arith) (omega arith)))

layer_first_from : (g : ℕ → List Rule) (a n c : ℕ) (f : RegularFault) → a ≤ c → c < a + n → ((k : ℕ) → a ≤ k → k < c → fault_in (g k) ≡ None) → fault_in (g c) ≡ Some f → fault_in (flat_map g (range_with_len a n)) ≡ Some f
layer_first_from g a zero c f low high h e = absurd (omega arith)
layer_first_from g a (suc n) c f low high h e =
    ap fault_in (flat_map-cons g a (range_with_len (a + 1) n))
    ∙ elim (eqb_tells a c) [
      | inl p ↦ some_before (g a) (flat_map g (range_with_len (a + 1) n)) f (ap (λ (k : ℕ). fault_in (g k)) p.1 ∙ e)
      | inr p ↦
          none_before (g a) (flat_map g (range_with_len (a + 1) n)) (h a (omega arith) (omega (arith, p.1)))
          ∙ layer_first_from g (a + 1) n c f (omega (arith, p.1)) (omega arith) (λ k l m. h k (omega arith) (omega arith)) e
    ]

-- the cells from 1 to n have no fault
abbrev pub AreKept : (g : ℕ → List Rule) → (n : ℕ) → Type 0
AreKept g n = (k : ℕ) → 1 ≤ k → k ≤ n → fault_in (g k) ≡ None

pub kept_more : (g : ℕ → List Rule) (n : ℕ) → AreKept g n → fault_in (g (n + 1)) ≡ None → AreKept g (n + 1)
kept_more g n h e k low high = elim (eqb_tells k (n + 1)) [ inl p ↦ ap (λ (j : ℕ). fault_in (g j)) p.1 ∙ e | inr p ↦ h k low (omega (arith, p.1)) ]

pub layer_none : (g : ℕ → List Rule) (n i : ℕ) → n ≤ i → AreKept g i → fault_in (flat_map g (upto n)) ≡ None
layer_none g n i l h = layer_none_from g 1 n (λ k a b. h k a (omega arith))

pub layer_first : (g : ℕ → List Rule) (n i : ℕ) (f : RegularFault) → i < n → AreKept g i → fault_in (g (i + 1)) ≡ Some f → fault_in (flat_map g (upto n)) ≡ Some f
layer_first g n i f l h e = layer_first_from g 1 n (i + 1) f (omega arith) (omega arith) (λ k a b. h k a (omega arith)) e

-- another list with the same first fault
pub fault_moves : (a b : Option RegularFault) → ((f : RegularFault) → a ≡ Some f → b ≡ Some f) → (f : RegularFault) → IsFault a f → IsFault b f
fault_moves a b h Memory e = e
fault_moves a b h (EdgeEnds n) e = h (EdgeEnds n) e
fault_moves a b h (NotCycle n) e = h (NotCycle n) e
fault_moves a b h (EdgeNotTwice n) e = h (EdgeNotTwice n) e
fault_moves a b h (Apart n) e = h (Apart n) e
fault_moves a b h (NotSphere n v) e = h (NotSphere n v) e

-- ---- a rule that is kept

some_none : {f : RegularFault} → Some f ≡ None → ⊥
some_none g = cc

pub kept_holds : (r : Rule) (rs : List Rule) → fault_in (r ∷ rs) ≡ None → r.kept ≡ true
kept_holds r rs e = by_test r.kept refl
  where
    by_test : (b : Bool) → r.kept ≡ b → r.kept ≡ true
    by_test true k = k
    by_test false k = absurd (some_none (sym (head_broken r rs k) ∙ e))

-- of two parts both have no fault where the whole has none
pub none_parts : (xs ys : List Rule) → fault_in (xs ++ ys) ≡ None → (fault_in xs ≡ None) × (fault_in ys ≡ None)
none_parts [] ys e = (refl, e)
none_parts (r ∷ rs) ys e =
    let k : r.kept ≡ true = kept_holds r (rs ++ ys) e in
    let rest = none_parts rs ys (sym (head_kept r (rs ++ ys) k) ∙ e) in
    (head_kept r rs k ∙ rest.0, rest.1)

none_each_from : (g : ℕ → List Rule) (a n k : ℕ) → fault_in (flat_map g (range_with_len a n)) ≡ None → a ≤ k → k < a + n → fault_in (g k) ≡ None
none_each_from g a zero k e low high = absurd (omega arith)
none_each_from g a (suc n) k e low high =
    let parts = none_parts (g a) (flat_map g (range_with_len (a + 1) n)) (ap fault_in (sym (flat_map-cons g a (range_with_len (a + 1) n))) ∙ e) in
    elim (eqb_tells a k) [
      | inl p ↦ ap (λ (j : ℕ). fault_in (g j)) (sym p.1) ∙ parts.0
      | inr p ↦ none_each_from g (a + 1) n k parts.1 (omega (arith, p.1, low)) (omega arith)
    ]

pub none_each : (g : ℕ → List Rule) (n k : ℕ) → fault_in (flat_map g (upto n)) ≡ None → 1 ≤ k → k ≤ n → fault_in (g k) ≡ None
none_each g n k e low high = none_each_from g 1 n k e low (omega arith)
