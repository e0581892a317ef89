-- The pairs of a valid field are ranked by their places.
use Rattle.std.proofs.Common.{◌≡◌, ◌⊎◌, inl, inr, ℕ, suc, ◌+◌, ◌<◌, List, [], ◌∷◌, Bool, true, false, eqb, refl, ap, sym, ◌∙◌, subst, arith, if◌then◌else◌}
use Rattle.std.specs.List.{list_any}
use Rattle.std.proofs.lemmas.Bool.{false_from_ne_true, or_cases, both_ways, eqb-true}
use Rattle.face_poset.specs.declared.cells.Pair.{Pair}
use Rattle.number_lists.specs.Members.{In}
use Rattle.number_lists.proofs.CallerLemmas.{In-cases, any-some, any-In}
use Rattle.face_poset.specs.Poset.{facets_of}
use Rattle.pair_laws.specs.Tree.{Link}
use Rattle.pair_laws.specs.Ranks.{IsRanked}
use Rattle.vector_field.specs.Pairs.{pair, has_lower, others, IsValid}
use Rattle.vector_field.proofs.CallerLemmas.{Lined, lined-two, apart-sym, Goes, lined-from, has_lower-true, has_lower-from, not-itself}
use Rattle.chosen_field.specs.Chosen.{high, links}
use Rattle.chosen_field.proofs.HighField.{high-is}
use Rattle.chosen_field.proofs.Uppers.{AreApart, link-In}

-- how many pairs stand before the first with this lower
abbrev place_of : (dim : ℕ) → List Pair → ℕ → ℕ
place_of dim [] g = 0
place_of dim (p ∷ ps) g = if has_lower dim g p then 0 else suc (place_of dim ps g)

module _ (space : List (List (List ℕ))) (dim : ℕ) where
  place-here : (x : Pair) (ps : List Pair) (g : ℕ) → has_lower dim g x ≡ true → place_of dim (x ∷ ps) g ≡ 0
  place-here x ps g e = ap (λ (b : Bool). if b then 0 else suc (place_of dim ps g)) e

  place-later : (x : Pair) (ps : List Pair) (g : ℕ) → has_lower dim g x ≡ false → place_of dim (x ∷ ps) g ≡ suc (place_of dim ps g)
  place-later x ps g e = ap (λ (b : Bool). if b then 0 else suc (place_of dim ps g)) e

  places-fall : (ps : List Pair) → Lined (Goes space) ps → (p : Pair) → In p ps → p.dim ≡ dim → (g : ℕ) → In g (others space p) → list_any (has_lower dim g) ps ≡ true → place_of dim ps g < place_of dim ps p.lower
  places-fall [] h p m d g o t = elim m [ ]
  places-fall (x ∷ ps) h p m d g o t = by (In-cases m) (has_lower dim g x) refl (λ n k. places-fall ps h.1 p n d g o k)
    where
      rest : has_lower dim g x ≡ false → list_any (has_lower dim g) ps ≡ true
      rest e = elim (or_cases (has_lower dim g x) (list_any (has_lower dim g) ps) t) [ inl k ↦ absurd (both_ways (has_lower dim g x) e k) | inr k ↦ k ]

      first : p ≡ x → (b : Bool) → has_lower dim g x ≡ b → ⊥
      first same true e =
          let l = has_lower-true x dim g e in
          not-itself space p (subst (λ (z : ℕ). In z (others space p)) (sym l.1 ∙ ap (λ (z : Pair). z.lower) (sym same)) o)
      first same false e =
          let s = any-some (has_lower dim g) ps (rest e) in
          let l = has_lower-true s.0 dim g s.2 in
          (h.0 s.0 s.1).free (l.0 ∙ (sym d ∙ ap (λ (z : Pair). z.dim) same)) (subst (λ (z : Pair). In s.0.lower (others space z)) same (subst (λ (z : ℕ). In z (others space p)) (sym l.1) o))

      by : (p ≡ x) ⊎ In p ps → (b : Bool) → has_lower dim g x ≡ b → (In p ps → list_any (has_lower dim g) ps ≡ true → place_of dim ps g < place_of dim ps p.lower) → place_of dim (x ∷ ps) g < place_of dim (x ∷ ps) p.lower
      by (inl same) b e rec = absurd (first same b e)
      by (inr n) b e rec =
          let other : has_lower dim p.lower x ≡ false = false_from_ne_true (has_lower dim p.lower x) (λ k. let l = has_lower-true x dim p.lower k in (h.0 p n).apart.0 (inl (l.0 ∙ sym d, l.1))) in
          let there_is : place_of dim (x ∷ ps) p.lower ≡ suc (place_of dim ps p.lower) = place-later x ps p.lower other in
          lower b e n rec there_is
        where
          lower : (b : Bool) → has_lower dim g x ≡ b → In p ps → (In p ps → list_any (has_lower dim g) ps ≡ true → place_of dim ps g < place_of dim ps p.lower)
              → place_of dim (x ∷ ps) p.lower ≡ suc (place_of dim ps p.lower) → place_of dim (x ∷ ps) g < place_of dim (x ∷ ps) p.lower
          lower true e n rec k = omega (arith, place-here x ps g e, k)
          lower false e n rec k = omega (arith, place-later x ps g e, k, rec n (rest e))

  -- no two pairs of a valid field have a cell in common
  pub valid-apart : (ps : List Pair) → IsValid space ps → AreApart space dim ps
  valid-apart ps valid = record {
    incident = λ p m. (lined-from space ps valid).incident p m;
    apart = λ p q m n d e. elim (lined-two (Goes space) ps (lined-from space ps valid).lined p q m n) [
      | inl same ↦ inl same
      | inr k ↦ elim k [ inl g ↦ inr g.apart | inr g ↦ inr (apart-sym q p g.apart) ]
    ];
  }

  pub high-apart : AreApart space dim (high space)
  high-apart = valid-apart (high space) (high-is space).valid

  pub high-rank : ℕ → ℕ
  high-rank g = place_of dim (high space) g

  pub high-ranked : IsRanked (facets_of space (dim + 1)) high-rank (links space (high space) dim)
  unfolding high-rank
  high-ranked = record {
    falls = λ l g m o is.
        let s = any-some (λ (k : Link). eqb k.lower g) (links space (high space) dim) is in
        let other : In (pair dim s.0.lower s.0.upper) (high space) = (link-In space dim (high space) high-apart s.0 s.1).0 in
        places-fall (high space) (lined-from space (high space) (high-is space).valid).lined (pair dim l.lower l.upper) (link-In space dim (high space) high-apart l m).0 refl g o
        (any-In (has_lower dim g) other (has_lower-from (pair dim s.0.lower s.0.upper) dim g refl (eqb-true s.0.lower g s.2)));
  }
