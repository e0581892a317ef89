-- Letters as 32-bit numbers.
use Rattle.std.proofs.Common.{◌≡◌, zero, suc, ◌-◌, ◌^◌, refl, ap, sym, ◌∙◌, arith, true, false, inl, inr, ◌⊎◌}
use Rattle.std.specs.Prelude.{ℤ, pos, negsuc, ◌-ℤ◌, ◌==◌, FitsSigned}
use Rattle.std.proofs.lemmas.Bool.{eqb-true, eq-eqb, ne_eqb, cases_Bool, true≢false}
use Rattle.std.proofs.lemmas.Int.{to_z-of_z, ints}
use mir.Syntax.{w32}
use mir.Val.{of_z, to_z}
use Rattle.pair_laws.specs.Letters.{inverse, same_letter}
use Rattle.sheet_laws.specs.Permutations.{InRange}
use Rattle.live_laws.specs.Walks.{generator}
use Rattle.edge_words.proofs.LetterWalks.{generator-inverse}

pub minus-inverse : (g : ℤ) → pos 0 -ℤ g ≡ inverse g
minus-inverse (pos zero) = refl
minus-inverse (pos (suc n)) = omega (arith, ints)
minus-inverse (negsuc n) = omega (arith, ints)

pub fits-letter : (g : ℤ) → InRange 60000 (generator g) → FitsSigned w32 g
fits-letter (pos n) h = record { sfits = omega (arith, h.1) }
fits-letter (negsuc n) h = record { sfits = omega (arith, h.1) }

same-bits : (a b : ℤ) → FitsSigned w32 a → FitsSigned w32 b → (of_z w32 a == of_z w32 b) ≡ same_letter a b
same-bits (pos m) (pos n) h k = refl
same-bits (pos m) (negsuc n) h k = ne_eqb m (2 ^ 32 - suc n) (λ e. omega (arith, h.sfits, k.sfits, e))
same-bits (negsuc m) (pos n) h k = ne_eqb (2 ^ 32 - suc m) n (λ e. omega (arith, h.sfits, k.sfits, e))
same-bits (negsuc m) (negsuc n) h k = by (cases_Bool (m == n))
  where
    by : ((m == n) ≡ true) ⊎ ((m == n) ≡ false) → ((2 ^ 32 - suc m) == (2 ^ 32 - suc n)) ≡ (m == n)
    by (inl e) = rw (eqb-true m n e, eq-eqb n n refl) (eq-eqb (2 ^ 32 - suc n) (2 ^ 32 - suc n) refl)
    by (inr e) = rw e (ne_eqb (2 ^ 32 - suc m) (2 ^ 32 - suc n) (λ q. true≢false (sym (eq-eqb m n (omega (arith, q, h.sfits, k.sfits))) ∙ e)))

-- the test for a letter that undoes the last one
pub undone-bits : (last g : ℤ) → FitsSigned w32 last → InRange 60000 (generator g) → (of_z w32 last == of_z w32 (pos 0 -ℤ to_z w32 (of_z w32 g))) ≡ same_letter last (inverse g)
undone-bits last g h r =
    ap (λ (x : ℤ). of_z w32 last == of_z w32 (pos 0 -ℤ x)) (to_z-of_z w32 g (fits-letter g r))
    ∙ (ap (λ (x : ℤ). of_z w32 last == of_z w32 x) (minus-inverse g) ∙ same-bits last (inverse g) h (fits-letter (inverse g) (rw (generator-inverse g) r)))

-- a letter as it is handed on, and the one that undoes it
pub same-letter : (g : ℤ) → InRange 60000 (generator g) → to_z w32 (of_z w32 g) ≡ g
same-letter g r = to_z-of_z w32 g (fits-letter g r)

pub negated : (g : ℤ) → InRange 60000 (generator g) → pos 0 -ℤ to_z w32 (of_z w32 g) ≡ inverse g
negated g r = ap (λ (x : ℤ). pos 0 -ℤ x) (same-letter g r) ∙ minus-inverse g

pub inverse-range : (g : ℤ) → InRange 60000 (generator g) → InRange 60000 (generator (inverse g))
inverse-range g r = rw (generator-inverse g) r

pub negated-fits : (g : ℤ) → InRange 60000 (generator g) → FitsSigned w32 (pos 0 -ℤ to_z w32 (of_z w32 g))
negated-fits g r = rw (negated g r) (fits-letter (inverse g) (inverse-range g r))

pub handed : (g : ℤ) → InRange 60000 (generator g) → to_z w32 (of_z w32 (pos 0 -ℤ to_z w32 (of_z w32 g))) ≡ inverse g
handed g r = ap (λ (x : ℤ). to_z w32 (of_z w32 x)) (negated g r) ∙ same-letter (inverse g) (inverse-range g r)
