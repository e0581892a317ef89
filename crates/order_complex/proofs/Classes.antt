-- Two bases of cocycles modulo coboundaries have the same length.
use Rattle.std.proofs.Common.{◌≡◌, ℕ, zero, suc, ◌<◌, ◌≤◌, List, [], ◌∷◌, length, replicate, refl, ap, sym, ◌∙◌, subst, arith}
use Rattle.std.specs.List.{AllByRecursion}
use Rattle.small_field.specs.Field.{Ops, IsField}
use Rattle.small_field.proofs.CallerLemmas.{add_swap}
use Rattle.linear_laws.specs.Vectors.{plus_scaled, combination, IsVector, IsMatrix}
use Rattle.linear_laws.proofs.CallerLemmas.{plus_scaled-vector, one_times, combination-vector, combination-plus, combination-zeros, zeros_plus, zeros-elements, more_are_dependent, zeros_of_dots, no_nonzero, plus_zeros}
use Rattle.std.proofs.lemmas.List.{length-replicate}
use native.Mathlib.Decide.{dec_lt}
use Prim.{yes, no}
use Rattle.order_complex.specs.Chains.{chains_of}
use Rattle.order_complex.specs.Cochains.{coboundary_on, coboundary, zeros}
use Rattle.order_complex.specs.Homology.{IsCocycle, IsCoboundary, IsClass, IsBasis}
use Rattle.order_complex.proofs.Rows.{coboundary_at_is_linear}
use Rattle.order_complex.proofs.Alternating.{alternating_below}

module _ (F : Ops) (L : IsField F) where
  -- ---- the coboundary is linear

  pub coboundary_on-plus_scaled : (s : ℕ) (chains next : List (List ℕ)) (u v : List ℕ) → IsVector F (length chains) u → IsVector F (length chains) v
      → coboundary_on F chains next (plus_scaled F s u v) ≡ plus_scaled F s (coboundary_on F chains next u) (coboundary_on F chains next v)
  coboundary_on-plus_scaled s chains [] u v hu hv = refl
  coboundary_on-plus_scaled s chains (c ∷ next) u v hu hv =
      rw ((coboundary_at_is_linear F L chains c).plus s u v hu hv, coboundary_on-plus_scaled s chains next u v hu hv) refl

  pub coboundary_on-zeros : (chains next : List (List ℕ)) → coboundary_on F chains next (replicate (length chains) 0) ≡ replicate (length next) 0
  coboundary_on-zeros chains [] = refl
  coboundary_on-zeros chains (c ∷ next) = rw ((coboundary_at_is_linear F L chains c).zero, coboundary_on-zeros chains next) refl

  pub coboundary_on-vector : (chains next : List (List ℕ)) (u : List ℕ) → IsVector F (length next) (coboundary_on F chains next u)
  coboundary_on-vector chains [] u = record { long = refl; elements = tt }
  coboundary_on-vector chains (c ∷ next) u =
      let rest = coboundary_on-vector chains next u in
      record { long = omega (arith, rest.long); elements = (alternating_below F L _, rest.elements) }

  zeros-vector : (n : ℕ) → IsVector F n (replicate n 0)
  zeros-vector n = record { long = length-replicate n 0; elements = zeros-elements F L n }

  -- ---- coboundaries are a linear space of vectors

  pub coboundary-vector : (space : List (List (List ℕ))) (degree : ℕ) (b : List ℕ) → IsCoboundary F space degree b → IsVector F (length (chains_of space degree)) b
  coboundary-vector space zero b h = subst (IsVector F (length (chains_of space 0))) (sym h) (zeros-vector (length (chains_of space 0)))
  coboundary-vector space (suc degree) b h =
      subst (IsVector F (length (chains_of space (suc degree)))) h.2 (coboundary_on-vector (chains_of space degree) (chains_of space (suc degree)) h.0)

  pub coboundary_zeros : (space : List (List (List ℕ))) (degree : ℕ) → IsCoboundary F space degree (zeros space degree)
  coboundary_zeros space zero = refl
  coboundary_zeros space (suc degree) =
      (zeros space degree, zeros-vector (length (chains_of space degree)), coboundary_on-zeros (chains_of space degree) (chains_of space (suc degree)))

  pub coboundary_plus : (space : List (List (List ℕ))) (degree s : ℕ) (a b : List ℕ) → IsCoboundary F space degree a → IsCoboundary F space degree b → IsCoboundary F space degree (plus_scaled F s a b)
  coboundary_plus space zero s a b h k = rw (h, k) (zeros_plus F L (length (chains_of space 0)) s)
  coboundary_plus space (suc degree) s a b h k = (
    plus_scaled F s h.0 k.0,
    plus_scaled-vector F L (length (chains_of space degree)) s h.0 k.0 h.1 k.1,
    coboundary_on-plus_scaled s (chains_of space degree) (chains_of space (suc degree)) h.0 k.0 h.1 k.1 ∙ ap (λ x. plus_scaled F s x (coboundary F space degree k.0)) h.2 ∙ ap (plus_scaled F s a) k.2,
  )

  -- ---- sums of classes

  entries_interchange : (s a p b q : ℕ) → F.add (F.add a (F.mul 1 p)) (F.mul s (F.add b (F.mul 1 q))) ≡ F.add (F.add a (F.mul s b)) (F.mul 1 (F.add p (F.mul s q)))
  entries_interchange s a p b q =
      ap (λ x. F.add (F.add a (F.mul 1 p)) x) (L.mul_add s b (F.mul 1 q))
      ∙ add_swap F L a (F.mul 1 p) (F.mul s b) (F.mul s (F.mul 1 q))
      ∙ ap (λ x. F.add (F.add a (F.mul s b)) (F.add (F.mul 1 p) x)) (sym (L.mul_assoc s 1 q) ∙ ap (λ x. F.mul x q) (L.mul_comm s 1) ∙ L.mul_assoc 1 s q)
      ∙ ap (λ x. F.add (F.add a (F.mul s b)) x) (sym (L.mul_add 1 p (F.mul s q)))

  interchange : (n s : ℕ) (a p b q : List ℕ) → length a ≡ n → length p ≡ n → length b ≡ n → length q ≡ n
      → plus_scaled F s (plus_scaled F 1 a p) (plus_scaled F 1 b q) ≡ plus_scaled F 1 (plus_scaled F s a b) (plus_scaled F s p q)
  interchange n s [] p b q ha hp hb hq = refl
  interchange n s (x ∷ a) [] b q ha hp hb hq = absurd (omega arith)
  interchange n s (x ∷ a) (y ∷ p) [] q ha hp hb hq = absurd (omega arith)
  interchange n s (x ∷ a) (y ∷ p) (z ∷ b) [] ha hp hb hq = absurd (omega arith)
  interchange n s (x ∷ a) (y ∷ p) (z ∷ b) (w ∷ q) ha hp hb hq =
      rw (entries_interchange s x y z w, interchange (length a) s a p b q refl (omega arith) (omega arith) (omega arith)) refl

  -- z is so many of the ws and a coboundary
  pub record Sorted (space : List (List (List ℕ))) (degree : ℕ) (ws : List (List ℕ)) (cs z : List ℕ) : Type 0 where
    pub rest : List ℕ
    pub coboundary : IsCoboundary F space degree rest
    pub is_sum : z ≡ plus_scaled F 1 rest (combination F (length (chains_of space degree)) cs ws)

  module _ (space : List (List (List ℕ))) (degree : ℕ) (ws : List (List ℕ)) (mws : IsMatrix F (length (chains_of space degree)) ws) where
    n : ℕ
    n = length (chains_of space degree)

    -- the coefficients of each of the zs, row by row
    pub record Table (zs : List (List ℕ)) : Type 0 where
      pub rows : List (List ℕ)
      pub matrix : IsMatrix F (length ws) rows
      pub long : length rows ≡ length zs
      pub sums : (cs : List ℕ) → length cs ≡ length zs → Sorted space degree ws (combination F (length ws) cs rows) (combination F (length (chains_of space degree)) cs zs)

    sums_none : (cs : List ℕ) → length cs ≡ 0 → Sorted space degree ws (combination F (length ws) cs []) (combination F (length (chains_of space degree)) cs [])
    sums_none [] h = record {
      rest = zeros space degree;
      coboundary = coboundary_zeros space degree;
      is_sum = sym (ap (plus_scaled F 1 (zeros space degree)) (combination-zeros F L (length (chains_of space degree)) (length ws) ws mws) ∙ zeros_plus F L (length (chains_of space degree)) 1);
    }
    sums_none (c ∷ cs) h = absurd (omega arith)

    one_sum : (z : List ℕ) (zs rows : List (List ℕ)) (t : List ℕ) → IsMatrix F (length ws) rows → IsClass F space degree ws t z
        → ((cs : List ℕ) → length cs ≡ length zs → Sorted space degree ws (combination F (length ws) cs rows) (combination F (length (chains_of space degree)) cs zs))
        → (cs : List ℕ) → length cs ≡ suc (length zs) → Sorted space degree ws (combination F (length ws) cs (t ∷ rows)) (combination F (length (chains_of space degree)) cs (z ∷ zs))
    one_sum z zs rows t m h go [] e = absurd (omega arith)
    one_sum z zs rows t m h go (c ∷ cs) e =
        let N : ℕ = length (chains_of space degree) in
        let g = go cs (omega arith) in
        let inner : List ℕ = combination F (length ws) cs rows in
        let inner_vector = combination-vector F L (length ws) cs rows m in
        let a = coboundary-vector space degree g.rest g.coboundary in
        let b = coboundary-vector space degree h.rest h.coboundary in
        record {
          rest = plus_scaled F c g.rest h.rest;
          coboundary = coboundary_plus space degree c g.rest h.rest g.coboundary h.coboundary;
          is_sum =
              ap (λ x. plus_scaled F c x z) g.is_sum ∙ ap (plus_scaled F c (plus_scaled F 1 g.rest (combination F N inner ws))) h.is_sum
              ∙ interchange N c g.rest (combination F N inner ws) h.rest (combination F N t ws) a.long (combination-vector F L N inner ws mws).long b.long (combination-vector F L N t ws mws).long
              ∙ ap (plus_scaled F 1 (plus_scaled F c g.rest h.rest)) (combination-plus F L N c inner t ws mws inner_vector.long h.elements.long);
        }

    pub table : (zs : List (List ℕ)) → AllByRecursion (λ z. (cs : List ℕ) × IsClass F space degree ws cs z) zs → Table zs
    table [] h = record { rows = []; matrix = tt; long = refl; sums = sums_none }
    table (z ∷ zs) h =
        let t = table zs h.1 in
        record {
          rows = h.0.0 ∷ t.rows;
          matrix = (h.0.1.elements, t.matrix);
          long = omega (arith, t.long);
          sums = one_sum z zs t.rows h.0.0 t.matrix h.0.1 t.sums;
        }

  -- ---- a basis has at most as many members as another

  cocycles_matrix : (space : List (List (List ℕ))) (degree : ℕ) (zs : List (List ℕ)) → AllByRecursion (IsCocycle F space degree) zs → IsMatrix F (length (chains_of space degree)) zs
  cocycles_matrix space degree [] h = tt
  cocycles_matrix space degree (z ∷ zs) h = (h.0.cochain, cocycles_matrix space degree zs h.1)

  all_spanned : (space : List (List (List ℕ))) (degree : ℕ) (ws zs : List (List ℕ)) → IsBasis F space degree ws → AllByRecursion (IsCocycle F space degree) zs
      → AllByRecursion (λ z. (cs : List ℕ) × IsClass F space degree ws cs z) zs
  all_spanned space degree ws [] b h = tt
  all_spanned space degree ws (z ∷ zs) b h = (b.spans z h.0, all_spanned space degree ws zs b h.1)

  not_longer : (space : List (List (List ℕ))) (degree : ℕ) (zs ws : List (List ℕ)) → IsBasis F space degree zs → IsBasis F space degree ws → length ws < length zs → ⊥
  not_longer space degree zs ws bz bw more =
      let N : ℕ = length (chains_of space degree) in
      let mz = cocycles_matrix space degree zs bz.cocycles in
      let mw = cocycles_matrix space degree ws bw.cocycles in
      let t = table space degree ws mw zs (all_spanned space degree ws zs bw bz.cocycles) in
      let d = more_are_dependent F L (length ws) t.rows t.matrix (omega (arith, t.long)) in
      let cs : List ℕ = d.coefficients in
      let cs_vector : IsVector F (length zs) cs = subst (λ m. IsVector F m cs) t.long d.vector in
      let none : combination F (length ws) cs t.rows ≡ replicate (length ws) 0 = zeros_of_dots F L (length ws) cs t.rows t.matrix d.zero in
      let s = t.sums cs cs_vector.long in
      let rest_vector = coboundary-vector space degree s.rest s.coboundary in
      let z : List ℕ = combination F N cs zs in
      let z_is_rest : z ≡ s.rest =
      s.is_sum ∙ ap (λ x. plus_scaled F 1 s.rest (combination F N x ws)) none ∙ ap (plus_scaled F 1 s.rest) (combination-zeros F L N (length ws) ws mw) ∙ plus_zeros F L N s.rest rest_vector in
      let z_vector = combination-vector F L N cs zs mz in
      let one : IsClass F space degree zs cs z = record {
        elements = cs_vector;
        rest = zeros space degree;
        coboundary = coboundary_zeros space degree;
        is_sum = sym (one_times F L N z z_vector.long z_vector.elements);
      } in
      let other : IsClass F space degree zs (replicate (length zs) 0) z = record {
        elements = zeros-vector (length zs);
        rest = s.rest;
        coboundary = s.coboundary;
        is_sum = z_is_rest ∙ sym (ap (plus_scaled F 1 s.rest) (combination-zeros F L N (length zs) zs mz) ∙ plus_zeros F L N s.rest rest_vector);
      } in
      no_nonzero F L (length zs) cs (bz.unique z cs (replicate (length zs) 0) one other) d.nonzero

  pub bases_are_as_long : (space : List (List (List ℕ))) (degree : ℕ) (zs ws : List (List ℕ)) → IsBasis F space degree zs → IsBasis F space degree ws → length zs ≡ length ws
  bases_are_as_long space degree zs ws bz bw =
      let a : length zs ≤ length ws = not_below (length ws) (length zs) (not_longer space degree zs ws bz bw) in
      let b : length ws ≤ length zs = not_below (length zs) (length ws) (not_longer space degree ws zs bw bz) in
      omega arith
    where
      not_below : (m k : ℕ) → (m < k → ⊥) → k ≤ m
      not_below m k h = elim (dec_lt m k) [ yes l ↦ absurd (h l) | no g ↦ omega arith ]
