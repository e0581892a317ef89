-- A space in the making, one dimension after another.
use Rattle.std.proofs.Common.{◌≡◌, ℕ, zero, suc, ◌+◌, ◌-◌, ◌<◌, ◌≤◌, List, [], ◌∷◌, ◌++◌, length, set, refl, ap, sym, ◌∙◌, arith}
use Rattle.face_poset.specs.Poset.{layer, count}
use Rattle.tuple_spaces.specs.Making.{made}

-- a fact at each dimension
pub by_dim : (P : ℕ → Type 0) → P 0 → P 1 → P 2 → P 3 → (d : ℕ) → d ≤ 3 → P d
by_dim P a b c e zero l = a
by_dim P a b c e (suc zero) l = b
by_dim P a b c e (suc (suc zero)) l = c
by_dim P a b c e (suc (suc (suc zero))) l = e
by_dim P a b c e (suc (suc (suc (suc d)))) l = absurd (omega arith)

module _ (whole : ℕ → List (List ℕ)) where
  -- another part stands there
  parts_differ : (part other : ℕ → List (List ℕ)) (dim : ℕ) → dim ≤ 3 → part dim ≡ other dim → made whole part dim ≡ made whole other dim
  parts_differ part other dim l e =
      by_dim (λ d. part d ≡ other d → made whole part d ≡ made whole other d)
      (λ q. ap (λ (cells : List (List ℕ)). cells ∷ [] ∷ [] ∷ [] ∷ []) q)
      (λ q. ap (λ (cells : List (List ℕ)). whole 0 ∷ cells ∷ [] ∷ [] ∷ []) q)
      (λ q. ap (λ (cells : List (List ℕ)). whole 0 ∷ whole 1 ∷ cells ∷ [] ∷ []) q)
      (λ q. ap (λ (cells : List (List ℕ)). whole 0 ∷ whole 1 ∷ whole 2 ∷ cells ∷ []) q) dim l e

  -- one cell more
  pub made-more : (part more : ℕ → List (List ℕ)) (dim : ℕ) (cell : List ℕ) → dim ≤ 3 → more dim ≡ part dim ++ cell ∷ [] → set (made whole part dim) dim (layer (made whole part dim) dim ++ cell ∷ []) ≡ made whole more dim
  made-more part more dim cell l e =
      let added : ℕ → List (List ℕ) = λ d. part d ++ cell ∷ [] in
      by_dim (λ d. set (made whole part d) d (layer (made whole part d) d ++ cell ∷ []) ≡ made whole added d) refl refl refl refl dim l ∙ parts_differ added more dim l (sym e)

  pub made-same : (part more : ℕ → List (List ℕ)) (dim : ℕ) → dim ≤ 3 → more dim ≡ part dim → made whole part dim ≡ made whole more dim
  made-same part more dim l e = parts_differ part more dim l (sym e)

  -- the next dimension
  pub made-end : (none : ℕ → List (List ℕ)) (dim : ℕ) → dim ≤ 3 → ((d : ℕ) → none d ≡ []) → made whole whole dim ≡ made whole none (dim + 1)
  made-end none dim l h =
      by_dim (λ d. made whole whole d ≡ made whole none (d + 1))
      (ap (λ (cells : List (List ℕ)). whole 0 ∷ cells ∷ [] ∷ [] ∷ []) (sym (h 1)))
      (ap (λ (cells : List (List ℕ)). whole 0 ∷ whole 1 ∷ cells ∷ [] ∷ []) (sym (h 2)))
      (ap (λ (cells : List (List ℕ)). whole 0 ∷ whole 1 ∷ whole 2 ∷ cells ∷ []) (sym (h 3))) refl dim l

  -- nothing stands above
  pub made-above : (part : ℕ → List (List ℕ)) (dim above : ℕ) → dim ≤ 3 → dim < above → count (made whole part dim) above ≡ 0
  made-above part dim above l m = by_dim (λ d. (a : ℕ) → d < a → count (made whole part d) a ≡ 0) over0 over1 over2 over3 dim l above m
    where
      over0 : (a : ℕ) → 0 < a → count (made whole part 0) a ≡ 0
      over0 zero h = absurd (omega arith)
      over0 (suc zero) h = refl
      over0 (suc (suc zero)) h = refl
      over0 (suc (suc (suc zero))) h = refl
      over0 (suc (suc (suc (suc a)))) h = refl

      over1 : (a : ℕ) → 1 < a → count (made whole part 1) a ≡ 0
      over1 zero h = absurd (omega arith)
      over1 (suc zero) h = absurd (omega arith)
      over1 (suc (suc zero)) h = refl
      over1 (suc (suc (suc zero))) h = refl
      over1 (suc (suc (suc (suc a)))) h = refl

      over2 : (a : ℕ) → 2 < a → count (made whole part 2) a ≡ 0
      over2 zero h = absurd (omega arith)
      over2 (suc zero) h = absurd (omega arith)
      over2 (suc (suc zero)) h = absurd (omega arith)
      over2 (suc (suc (suc zero))) h = refl
      over2 (suc (suc (suc (suc a)))) h = refl

      over3 : (a : ℕ) → 3 < a → count (made whole part 3) a ≡ 0
      over3 zero h = absurd (omega arith)
      over3 (suc zero) h = absurd (omega arith)
      over3 (suc (suc zero)) h = absurd (omega arith)
      over3 (suc (suc (suc zero))) h = absurd (omega arith)
      over3 (suc (suc (suc (suc a)))) h = refl

  -- all cells of the dimension below stand
  pub made-below : (part : ℕ → List (List ℕ)) (dim : ℕ) → dim ≤ 3 → 1 ≤ dim → count (made whole part dim) (dim - 1) ≡ length (whole (dim - 1))
  made-below part dim l m = by_dim (λ d. 1 ≤ d → count (made whole part d) (d - 1) ≡ length (whole (d - 1))) (λ h. absurd (omega arith)) (λ h. refl) (λ h. refl) (λ h. refl) dim l m

  -- the space at the end
  pub made-all : (part layers : ℕ → List (List ℕ)) → ((d : ℕ) → whole d ≡ layers d) → made whole part 4 ≡ layers 0 ∷ layers 1 ∷ layers 2 ∷ layers 3 ∷ []
  made-all part layers h =
      ap (λ (cells : List (List ℕ)). cells ∷ whole 1 ∷ whole 2 ∷ whole 3 ∷ []) (h 0)
      ∙ (ap (λ (cells : List (List ℕ)). layers 0 ∷ cells ∷ whole 2 ∷ whole 3 ∷ []) (h 1)
      ∙ (ap (λ (cells : List (List ℕ)). layers 0 ∷ layers 1 ∷ cells ∷ whole 3 ∷ []) (h 2)
      ∙ ap (λ (cells : List (List ℕ)). layers 0 ∷ layers 1 ∷ layers 2 ∷ cells ∷ []) (h 3)))
