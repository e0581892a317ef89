-- Signs along pairs, one pair more.
use Rattle.std.proofs.Common.{◌≡◌, ◌≢◌, ℕ, zero, suc, ◌+◌, ◌<◌, List, [], ◌∷◌, ◌++◌, Bool, true, false, cond, ◌&&◌, eqb, map, take, replicate, length, get_or, refl, ap, sym, ◌∙◌, arith}
use Rattle.std.proofs.lemmas.Bool.{eqb-true, eq-eqb, ne_eqb}
use Rattle.std.proofs.lemmas.List.{take_more}
use Rattle.face_poset.specs.declared.cells.Pair.{Pair}
use Rattle.cell_signs.specs.Along.{cancelling, signed_by, signed_along}
use Rattle.cell_signs.proofs.Placed.{map-same}

pub none_signed : (n : ℕ) (xs : List ℕ) → n ≡ length xs → replicate n false ≡ map (λ _. false) xs
none_signed zero [] e = refl
none_signed (suc n) [] e = absurd (omega (arith, e))
none_signed zero (x ∷ xs) e = absurd (omega (arith, e))
none_signed (suc n) (x ∷ xs) e = ap (λ bs. false ∷ bs) (none_signed n xs (omega (arith, e)))

module _ (space : List (List (List ℕ))) (cs : List ℕ) where
  signed-append : (ps : List Pair) (p : Pair) (signs : ℕ → Bool) → signed_along space cs (ps ++ p ∷ []) signs ≡ signed_by space cs (signed_along space cs ps signs) p
  signed-append [] p signs = refl
  signed-append (q ∷ qs) p signs = signed-append qs p (signed_by space cs signs q)

  one_more : (pairs : List Pair) (i : ℕ) (p : Pair) (signs : ℕ → Bool) → i < length pairs → p ≡ get_or pairs i p
      → signed_along space cs (take (i + 1) pairs) signs ≡ signed_by space cs (signed_along space cs (take i pairs) signs) p
  one_more pairs i p signs l at =
      ap (λ (ps : List Pair). signed_along space cs ps signs) (take_more pairs i p l ∙ ap (λ (q : Pair). take i pairs ++ q ∷ []) (sym at)) ∙ signed-append (take i pairs) p signs

  by_pair : (values : ℕ → Bool) (p : Pair) → p.dim ≡ 1 → (n : ℕ) → cond (eqb n p.upper) (cancelling space cs values p.lower p.upper) (values n) ≡ signed_by space cs values p n
  by_pair values p one n = by (eqb n p.upper) refl ∙ sym (ap (λ (b : Bool). cond (b && eqb n p.upper) (cancelling space cs values p.lower n) (values n)) (eq-eqb p.dim 1 one))
    where
      by : (b : Bool) → eqb n p.upper ≡ b → cond (eqb n p.upper) (cancelling space cs values p.lower p.upper) (values n) ≡ cond (eqb n p.upper) (cancelling space cs values p.lower n) (values n)
      by true e = ap (λ (m : ℕ). cond (eqb n p.upper) (cancelling space cs values p.lower m) (values n)) (sym (eqb-true n p.upper e))
      by false e = ap (λ (b : Bool). cond b (cancelling space cs values p.lower p.upper) (values n)) e ∙ sym (ap (λ (b : Bool). cond b (cancelling space cs values p.lower n) (values n)) e)

  pub signed_more : (pairs : List Pair) (i : ℕ) (p : Pair) (signs : ℕ → Bool) (sign : Bool) → i < length pairs → p ≡ get_or pairs i p → p.dim ≡ 1
      → sign ≡ cancelling space cs (signed_along space cs (take i pairs) signs) p.lower p.upper → (xs : List ℕ)
      → map (λ n. cond (eqb n p.upper) sign (signed_along space cs (take i pairs) signs n)) xs ≡ map (signed_along space cs (take (i + 1) pairs) signs) xs
  signed_more pairs i p signs sign l at one is xs =
      let before : ℕ → Bool = signed_along space cs (take i pairs) signs in
      ap (λ (b : Bool). map (λ n. cond (eqb n p.upper) b (before n)) xs) is
      ∙ (map-same (λ n. cond (eqb n p.upper) (cancelling space cs before p.lower p.upper) (before n)) (signed_by space cs before p) xs (λ n j. by_pair before p one n)
      ∙ sym (ap (λ (f : ℕ → Bool). map f xs) (one_more pairs i p signs l at)))

  pub signed_same : (pairs : List Pair) (i : ℕ) (p : Pair) (signs : ℕ → Bool) → i < length pairs → p ≡ get_or pairs i p → p.dim ≢ 1 → (xs : List ℕ)
      → map (signed_along space cs (take i pairs) signs) xs ≡ map (signed_along space cs (take (i + 1) pairs) signs) xs
  signed_same pairs i p signs l at other xs =
      let before : ℕ → Bool = signed_along space cs (take i pairs) signs in
      map-same before (signed_by space cs before p) xs (λ n j. sym (ap (λ (b : Bool). cond (b && eqb n p.upper) (cancelling space cs before p.lower n) (before n)) (ne_eqb p.dim 1 other)))
      ∙ sym (ap (λ (f : ℕ → Bool). map f xs) (one_more pairs i p signs l at))
