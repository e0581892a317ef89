-- A matrix filled with the coboundaries of extensions.
use Rattle.std.proofs.Common.{◌≡◌, inl, inr, ℕ, zero, suc, ◌+◌, ◌-◌, ◌≤◌, ◌<◌, List, [], ◌∷◌, length, replicate, get_or, set, get_or-set_same, get_or-set_other, refl, ap, sym, ◌∙◌, arith, subst}
use Rattle.std.proofs.lemmas.Bool.{cases_eq}
use Rattle.std.proofs.lemmas.Simd.{length-replicate}
use Rattle.small_field.specs.Field.{Ops, IsField}
use Rattle.small_field.proofs.CallerLemmas.{neg_mul}
use Rattle.linear_laws.specs.Marks.{mark}
use Rattle.linear_laws.specs.Vectors.{dot, column, combination, plus_scaled, row_at, IsVector, IsMatrix}
use Rattle.small_field.specs.Values.{AreElements}
use Rattle.linear_laws.proofs.CallerLemmas.{all_at, entry_combination, combination-vector, zeros-elements, plus_scaled-long, dot_below}
use Rattle.split_laws.specs.declared.kind.Kind.TheVariants.{Critical, Lower, Upper}
use Rattle.pair_stages.proofs.Pairwise.{triangular_at}
use Rattle.split_laws.specs.declared.kind.Kind.{Kind}
use Rattle.split_laws.specs.declared.matching.Match.{Match}
use Rattle.split_laws.specs.Kinds.{criticals, part, spread, ZeroOnUppers, HasNoUpper}
use Rattle.split_laws.specs.Pairs.{settle}
use Rattle.split_laws.specs.Solutions.{IsExtension, IsReducedBy, IsCleared, without}
use Rattle.split_laws.proofs.CallerLemmas.{plus_none, part-long, spread_long, spread_elements, spread_own, spread_none, extended, split_of_field, cleared, settled-vector, extension_is_one}
use Rattle.pair_stages.specs.Stages.{Stage, IsPaired, place_of}
use Rattle.pair_stages.proofs.Placed.{place_below, part_at}

module _ (F : Ops) (L : IsField F) where
  zeros-vector : (n : ℕ) → IsVector F n (replicate n 0)
  zeros-vector n = record { long = length-replicate n 0; elements = zeros-elements F L n }

  -- the coboundary at a critical cell
  pub value_is : (m : ℕ) (rows : List (List ℕ)) (us : List Kind) (x : List ℕ) (col : ℕ) → IsMatrix F m rows → length us ≡ m → col < criticals us → dot F x (column (place_of us col) rows) ≡ get_or (part us (combination F m x rows)) col 0
  value_is m rows us x col a l lt =
      sym (entry_combination F L m (place_of us col) x rows a (subst (λ (n : ℕ). place_of us col < n) l (place_below us col lt)))
      ∙ part_at us (combination F m x rows) col ((combination-vector F L m x rows a).long ∙ sym l) lt

  pub target_long : (m : ℕ) (rows : List (List ℕ)) (us : List Kind) (x : List ℕ) → IsMatrix F m rows → length us ≡ m → length (part us (combination F m x rows)) ≡ criticals us
  target_long m rows us x a l = part-long us (combination F m x rows) ((combination-vector F L m x rows a).long ∙ sym l)

  module _ (s next : Stage) (P : IsPaired F s next) where
    pub rows_final : (rows : List (List ℕ)) (count : ℕ) → IsMatrix F (criticals next.kinds) rows → length rows ≡ criticals s.kinds → criticals s.kinds ≤ count
        → ((j : ℕ) → j < count → (y : List ℕ) × IsExtension F (length s.kinds) (length next.kinds) s.rows s.kinds next.kinds (mark (criticals s.kinds) j) y × (row_at rows j ≡ part next.kinds (combination F (length next.kinds) y s.rows)))
        → IsReducedBy F (length s.kinds) (length next.kinds) s.rows s.kinds next.kinds rows
    rows_final rows count a l le h = record {
      matrix = a;
      long = l;
      each = λ i x li e.
          let k = h i (omega arith) in
          k.2
          ∙ ap (λ (y : List ℕ). part next.kinds (combination F (length next.kinds) y s.rows))
          (extension_is_one F L (length s.kinds) (length next.kinds) s.rows s.kinds next.kinds (split_of_field F L (length s.kinds) (length next.kinds) s.rows s.kinds next.kinds s.pairs P.matching) (mark (criticals s.kinds) i) k.0 x k.1 e);
    }

-- what is settled from values spread over the critical cells
pub extension_is : (F : Ops) (L : IsField F) (s next : Stage) → IsPaired F s next → (w x zeros now : List ℕ) (n : ℕ) → length w ≡ criticals s.kinds → AreElements F w → x ≡ spread s.kinds w → zeros ≡ replicate n 0 → n ≡ length next.kinds
    → now ≡ settle F s.rows zeros s.pairs x → IsExtension F (length s.kinds) (length next.kinds) s.rows s.kinds next.kinds w now
extension_is F L s next P w x zeros now n l el e z k h =
    let y : List ℕ = spread s.kinds w in
    subst (IsExtension F (length s.kinds) (length next.kinds) s.rows s.kinds next.kinds w)
    (sym (h ∙ (ap (λ (t : List ℕ). settle F s.rows t s.pairs x) (z ∙ ap (λ (c : ℕ). replicate c 0) k) ∙ ap (settle F s.rows (replicate (length next.kinds) 0) s.pairs) e)))
    (extended F L (length s.kinds) (length next.kinds) s.rows s.kinds next.kinds s.pairs P.matching w y
    (record { long = spread_long s.kinds w; elements = spread_elements F L s.kinds w el }) (spread_own s.kinds w l) (spread_none s.kinds w))

-- ---- clearing

plus_at : (F : Ops) (s : ℕ) (x d : List ℕ) (p : ℕ) → length x ≡ length d → p < length x → get_or (plus_scaled F s x d) p 0 ≡ F.add (get_or x p 0) (F.mul s (get_or d p 0))
plus_at F s [] d p l lt = absurd (omega arith)
plus_at F s (x ∷ xs) [] p l lt = absurd (omega arith)
plus_at F s (x ∷ xs) (d ∷ ds) zero l lt = refl
plus_at F s (x ∷ xs) (d ∷ ds) (suc p) l lt = plus_at F s xs ds p (omega arith) (omega arith)

pub rest_value : (F : Ops) (L : IsField F) (m : ℕ) (rows : List (List ℕ)) (us : List Kind) (x y : List ℕ) (col p value a n d : ℕ) → IsMatrix F m rows → length us ≡ m → length x ≡ m → col < criticals us → p ≡ place_of us col
    → value ≡ F.add a n → a ≡ get_or x (p + 1 - 1) 0 → n ≡ F.neg d → d ≡ dot F y (column p rows) → value ≡ get_or (part us (without F m rows x y)) col 0
rest_value F L m rows us x y col p value a n d mx l lx lt e v ga gn gd =
    let q : ℕ = place_of us col in
    let dy : List ℕ = combination F m y rows in
    let vd : IsVector F m dy = combination-vector F L m y rows mx in
    let b : q < m = subst (λ (k : ℕ). q < k) l (place_below us col lt) in
    let D : ℕ = dot F y (column q rows) in
    let at : get_or (without F m rows x y) q 0 ≡ F.add (get_or x q 0) (F.neg D) =
    plus_at F (F.neg 1) x dy q (lx ∙ sym vd.long) (subst (λ (k : ℕ). q < k) (sym lx) b)
    ∙ ap (F.add (get_or x q 0)) (ap (F.mul (F.neg 1)) (entry_combination F L m q y rows mx b) ∙ (neg_mul F L 1 D ∙ ap F.neg (L.one_mul D (dot_below F L y (column q rows))))) in
    let long : length (without F m rows x y) ≡ length us = plus_scaled-long F L (F.neg 1) x dy (lx ∙ sym vd.long) ∙ (lx ∙ sym l) in
    v
    ∙ (ap (λ (k : ℕ). F.add k n) (ga ∙ ap (λ (k : ℕ). get_or x k 0) (let z : p + 1 - 1 ≡ q = omega arith in z))
    ∙ (ap (F.add (get_or x q 0)) (gn ∙ ap F.neg (gd ∙ ap (λ (k : ℕ). dot F y (column k rows)) e))
    ∙ (sym at ∙ part_at us (without F m rows x y) col long lt)))

pub entries_more : (target w now : List ℕ) (i v : ℕ) → i < length w → ((j : ℕ) → j < i → get_or w j 0 ≡ get_or target j 0) → v ≡ get_or target i 0 → now ≡ set w i v → (j : ℕ) → j < i + 1 → get_or now j 0 ≡ get_or target j 0
entries_more target w now i v lt h g s j lj =
    ap (λ (r : List ℕ). get_or r j 0) s
    ∙ elim (cases_eq j i) [
      | inl b ↦ ap (λ (k : ℕ). get_or (set w i v) k 0) b ∙ (get_or-set_same w i v 0 lt ∙ (g ∙ ap (λ (k : ℕ). get_or target k 0) (sym b)))
      | inr b ↦ get_or-set_other w i j v 0 b ∙ h j (omega arith)
    ]

pub rest_long : (F : Ops) (L : IsField F) (m : ℕ) (rows : List (List ℕ)) (us : List Kind) (x y : List ℕ) → IsMatrix F m rows → length us ≡ m → length x ≡ m → length (part us (without F m rows x y)) ≡ criticals us
rest_long F L m rows us x y a l lx =
    let vd : IsVector F m (combination F m y rows) = combination-vector F L m y rows a in
    part-long us (without F m rows x y) (plus_scaled-long F L (F.neg 1) x (combination F m y rows) (lx ∙ sym vd.long) ∙ (lx ∙ sym l))

-- what is settled from zero clears
pub module_settled : (F : Ops) (L : IsField F) (s next : Stage) → IsPaired F s next → (x y0 y : List ℕ) (n : ℕ) → y0 ≡ replicate n 0 → n ≡ length s.kinds → y ≡ settle F s.rows x s.pairs y0 → length y ≡ length s.kinds
module_settled F L s next P x y0 y n e l h =
    let g : y0 ≡ replicate (length s.kinds) 0 = e ∙ ap (λ (k : ℕ). replicate k 0) l in
    ap (λ (z : List ℕ). length z) (h ∙ ap (settle F s.rows x s.pairs) g)
    ∙ (settled-vector F L (length s.kinds) (length next.kinds) s.rows s.kinds next.kinds s.pairs P.matching x (replicate (length s.kinds) 0) (zeros-vector F L (length s.kinds))).long

pub clearing_is : (F : Ops) (L : IsField F) (s next : Stage) → IsPaired F s next → (x y0 y w : List ℕ) (n : ℕ) → length x ≡ length next.kinds → AreElements F x → y0 ≡ replicate n 0 → n ≡ length s.kinds → y ≡ settle F s.rows x s.pairs y0
    → w ≡ part next.kinds (without F (length next.kinds) s.rows x y) → IsCleared F (length s.kinds) (length next.kinds) s.rows s.kinds next.kinds x w y
clearing_is F L s next P x y0 y w n lx el e l h g =
    let z : List ℕ = settle F s.rows x s.pairs (replicate (length s.kinds) 0) in
    let i : y ≡ z = h ∙ ap (settle F s.rows x s.pairs) (e ∙ ap (λ (k : ℕ). replicate k 0) l) in
    subst (λ (v : List ℕ). IsCleared F (length s.kinds) (length next.kinds) s.rows s.kinds next.kinds x v y) (sym (g ∙ ap (λ (v : List ℕ). part next.kinds (without F (length next.kinds) s.rows x v)) i))
    (subst (IsCleared F (length s.kinds) (length next.kinds) s.rows s.kinds next.kinds x (part next.kinds (without F (length next.kinds) s.rows x z))) (sym i)
    (cleared F L (length s.kinds) (length next.kinds) s.rows s.kinds next.kinds s.pairs P.matching x (record { long = lx; elements = el })))

none_upper : (ts : List Kind) (x : List ℕ) → HasNoUpper ts → length x ≡ length ts → ZeroOnUppers ts x
none_upper [] [] h l = refl
none_upper [] (x ∷ xs) h l = absurd (omega arith)
none_upper (t ∷ ts) [] h l = absurd (omega arith)
none_upper (Critical ∷ ts) (x ∷ xs) h l = none_upper ts xs h (omega arith)
none_upper (Lower ∷ ts) (x ∷ xs) h l = none_upper ts xs h (omega arith)
none_upper (Upper ∷ ts) (x ∷ xs) h l = absurd h

pub plus_zeros_at : (F : Ops) (L : IsField F) (s m : ℕ) (x : List ℕ) → length x ≡ m → AreElements F x → plus_scaled F s x (replicate m 0) ≡ x
plus_zeros_at F L s zero [] l el = refl
plus_zeros_at F L s zero (x ∷ xs) l el = absurd (omega arith)
plus_zeros_at F L s (suc m) [] l el = absurd (omega arith)
plus_zeros_at F L s (suc m) (x ∷ xs) l el =
    ap (λ (n : ℕ). n ∷ plus_scaled F s xs (replicate m 0)) (plus_none F L x s 0 refl el.0) ∙ ap (λ (r : List ℕ). x ∷ r) (plus_zeros_at F L s m xs (omega arith) el.1)

pub first_cleared : (F : Ops) (L : IsField F) (ts : List Kind) (x y w : List ℕ) → HasNoUpper ts → length x ≡ length ts → AreElements F x → y ≡ replicate 0 0 → w ≡ part ts x → IsCleared F 0 (length ts) [] [] ts x w y
first_cleared F L ts x y w h l el e g =
    let same : without F (length ts) [] x [] ≡ x = plus_zeros_at F L (F.neg 1) (length ts) x l el in
    subst (λ (v : List ℕ). IsCleared F 0 (length ts) [] [] ts x v y) (sym g)
    (subst (IsCleared F 0 (length ts) [] [] ts x (part ts x)) (sym e)
    (record {
      vector = record { long = refl; elements = tt };
      only = refl;
      none = subst (ZeroOnUppers ts) (sym same) (none_upper ts x h l);
      rest = ap (part ts) same;
    }))

-- ---- pairs

pub pair_small : (F : Ops) (s next : Stage) → IsPaired F s next → (i : ℕ) (p d : Match) → i < length s.pairs → p ≡ get_or s.pairs i d → (p.lower < length s.kinds) × (p.upper < length next.kinds)
pair_small F s next P i p d lt e =
    let a : (get_or s.pairs i d).lower < length s.rows = (triangular_at s.rows s.pairs i d P.matching.triangular lt).0 in (
      subst (λ (q : Match). q.lower < length s.kinds) (sym e) (subst (λ (n : ℕ). (get_or s.pairs i d).lower < n) P.matching.long a),
      subst (λ (q : Match). q.upper < length next.kinds) (sym e) (all_at (λ (q : Match). q.upper < length next.kinds) s.pairs i d lt P.matching.uppers),
    )
