-- A space has four layers, so no chain has five cells.
use Rattle.std.proofs.Common.{◌≡◌, ℕ, zero, suc, ◌+◌, ◌<◌, ◌≤◌, List, [], ◌∷◌, length, refl, ap, sym, ◌∙◌, subst, arith}
use native.Mathlib.Decide.{dec_lt}
use Prim.{yes, no}
use Rattle.face_poset.specs.declared.cells.Cell.{Cell}
use Rattle.face_poset.specs.Poset.{count, cell_count}
use Rattle.face_poset.specs.Below.{closure, facets_of_all}
use Rattle.order_complex.specs.Chains.{cells_before, id_of, faces_of, chains_of}
use Rattle.number_lists.specs.Members.{In, here}
use Rattle.number_lists.proofs.CallerLemmas.{map-In}
use Rattle.order_complex.specs.Sequences.{IsAbove, Follows}
use Rattle.order_complex.proofs.Chained.{chains_of-member}
use Rattle.order_complex.proofs.FaceIds.{faces_at, faces_at-cell, cell_with, closure-of, facets_of_all-range}

module _ (space : List (List (List ℕ))) where
  before_rises : (d e : ℕ) → d ≤ e → cells_before space d ≤ cells_before space e
  before_rises d zero l = let z : d ≡ 0 = omega arith in subst (λ k. cells_before space k ≤ 0) (sym z) (omega arith)
  before_rises d (suc e) l =
      elim (dec_lt e d) [
        | yes a ↦ let same : d ≡ suc e = omega arith in subst (λ k. cells_before space k ≤ cells_before space (suc e)) (sym same) (omega arith)
        | no a ↦ let r = before_rises d e (omega arith) in omega (arith, r)
      ]

  -- the faces of a cell have ids of smaller dimension
  face_of-rises : (k dim n a : ℕ) → cells_before space k < a → In a (faces_of space dim n) → cells_before space (suc k) ≤ cells_before space dim
  face_of-rises k zero n a h m = elim m [ ]
  face_of-rises k (suc dim) n a h m =
      let lower : List Cell = closure space dim (facets_of_all space dim (n ∷ [])) in
      let r = map-In (id_of space) lower m in
      let x : Cell = r.0 in
      let o = closure-of space dim (facets_of_all space dim (n ∷ [])) x (facets_of_all-range space dim (n ∷ [])) r.1 in
      let id : a ≡ cells_before space x.dim + x.number = r.2 in
      let high : x.number ≤ count space x.dim = o.0.high in
      let top : cells_before space (suc x.dim) ≡ cells_before space x.dim + count space x.dim = refl in
      elim (dec_lt x.dim k) [
        | yes l ↦ let w = before_rises (suc x.dim) k (omega arith) in absurd (omega (arith, w, id, high, top))
        | no l ↦ before_rises (suc k) (suc dim) (omega (arith, o.1))
      ]

  -- the next cell of a chain has an id of greater dimension
  above-rises : (k a b : ℕ) → cells_before space k < a → IsAbove space a b → cells_before space (suc k) < b
  above-rises k a b h up =
      let x = cell_with space b up.low up.high in
      let same = ap (faces_at space) x.is ∙ faces_at-cell space x.dim x.number x.small x.low x.high in
      let w = face_of-rises k x.dim x.number a h (subst (In a) same up.face) in
      omega (arith, w, x.is, x.low)

  no_five : (a : ℕ) (rest : List ℕ) → 1 ≤ a → length rest ≡ 4 → Follows space a rest → ⊥
  no_five a (b ∷ c ∷ d ∷ e ∷ []) low l f =
      let one = above-rises 0 a b (omega arith) f.0 in
      let two = above-rises 1 b c one f.1.0 in
      let three = above-rises 2 c d two f.1.1.0 in
      let four = above-rises 3 d e three f.1.1.1.0 in
      let most : e ≤ cell_count space = f.1.1.1.0.high in
      omega arith
  no_five a _ low l f = absurd (omega arith)

  nothing : (chains : List (List ℕ)) → ((x : List ℕ) → In x chains → ⊥) → chains ≡ []
  nothing [] none = refl
  nothing (x ∷ chains) none = absurd (none x here)

  pub chains_of-four : chains_of space 4 ≡ []
  chains_of-four = nothing (chains_of space 4) (λ x m. let c = chains_of-member space 4 x m in no_five c.first c.rest c.low c.long c.follows)
