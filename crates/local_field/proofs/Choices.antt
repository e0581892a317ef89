-- A choice of collapses of all 3-cells, with given ones for the first 2-cells of some.
use Rattle.std.proofs.Common.{◌≡◌, ℕ, ◌≤◌, List, [], Bool, true, false, eqb, refl, sym, ◌∙◌, subst, arith}
use Rattle.std.proofs.lemmas.Bool.{eqb-true, eq-eqb, false≢true}
use Rattle.std.proofs.Math.Decide.{dec_le}
use Prim.{yes, no}
use Rattle.number_lists.specs.Words.{holds}
use Rattle.number_lists.proofs.CallerLemmas.{holds-In, In-holds, In-Contains, Contains-In}
use Rattle.face_poset.specs.declared.cells.Pair.{Pair}
use Rattle.face_poset.specs.Poset.{IsSpace, count, facets_of}
use Rattle.regular_check.specs.Rules.{IsRegular}
use Rattle.sphere_collapses.specs.Collapses.{boundary_less, collapses}
use Rattle.sphere_collapses.specs.Laws.{IsFaceOf, BoundariesCollapse}
use Rattle.local_field.specs.Buildings.{IsCollapsing}
use Rattle.local_field.specs.Listed.{first_disk}

module _ (law : BoundariesCollapse) (space : List (List (List ℕ))) (valid : IsSpace space) (regular : IsRegular space) (chosen : ℕ → List Pair) (n : ℕ)
    (collapsing : (solid : ℕ) → 1 ≤ solid → solid ≤ n → collapses space (boundary_less space solid (first_disk space solid)) (chosen solid) ≡ true) where
  pub record Choice (solid face : ℕ) : Type 0 where
    pub pairs : List Pair
    pub fits : IsFaceOf space solid face → collapses space (boundary_less space solid face) pairs ≡ true
    pub given : face ≡ first_disk space solid → 1 ≤ solid → solid ≤ n → pairs ≡ chosen solid

  -- one by the law, where none is given
  by_law : (solid face : ℕ) → (face ≡ first_disk space solid → 1 ≤ solid → solid ≤ n → ⊥) → Choice solid face
  by_law solid face no_given =
      elim (dec_le 1 solid) [
        | no k ↦ record { pairs = []; fits = λ h. absurd (k h.first); given = λ e l m. absurd (no_given e l m) }
        | yes low ↦ elim (dec_le solid (count space 3)) [
          | no k ↦ record { pairs = []; fits = λ h. absurd (k h.last); given = λ e l m. absurd (no_given e l m) }
          | yes high ↦ by_facet low high (holds (facets_of space 3 solid) face) refl
        ]
      ]
    where
      by_facet : 1 ≤ solid → solid ≤ count space 3 → (b : Bool) → holds (facets_of space 3 solid) face ≡ b → Choice solid face
      by_facet low high true e =
          let h : IsFaceOf space solid face = record { first = low; last = high; facet = In-Contains (holds-In (facets_of space 3 solid) e) } in
          let r = law space solid face valid regular h in
          record { pairs = r.0; fits = λ _. r.1; given = λ e l m. absurd (no_given e l m) }
      by_facet low high false e = record { pairs = []; fits = λ h. absurd (false≢true (sym e ∙ In-holds (Contains-In h.facet))); given = λ e l m. absurd (no_given e l m) }

  pub choice : (solid face : ℕ) → Choice solid face
  choice solid face =
      elim (dec_le 1 solid) [
        | no k ↦ by_law solid face (λ e l m. k l)
        | yes low ↦ elim (dec_le solid n) [
          | no k ↦ by_law solid face (λ e l m. k m)
          | yes high ↦ by_face low high (eqb face (first_disk space solid)) refl
        ]
      ]
    where
      by_face : 1 ≤ solid → solid ≤ n → (b : Bool) → eqb face (first_disk space solid) ≡ b → Choice solid face
      by_face low high true e =
          record { pairs = chosen solid; fits = λ h. subst (λ (f : ℕ). collapses space (boundary_less space solid f) (chosen solid) ≡ true) (sym (eqb-true face (first_disk space solid) e)) (collapsing solid low high); given = λ _ _ _. refl }
      by_face low high false e = by_law solid face (λ q l m. false≢true (sym e ∙ eq-eqb face (first_disk space solid) q))

  abbrev pub collapse : (solid face : ℕ) → List Pair
  collapse solid face = (choice solid face).pairs

  pub is-collapsing : IsCollapsing space collapse
  is-collapsing solid face h = (choice solid face).fits h

-- some choice
pub some-collapse : BoundariesCollapse → (space : List (List (List ℕ))) → IsSpace space → IsRegular space → (collapse : (solid face : ℕ) → List Pair) × IsCollapsing space collapse
some-collapse law space valid regular =
    let none : (solid : ℕ) → 1 ≤ solid → solid ≤ 0 → collapses space (boundary_less space solid (first_disk space solid)) [] ≡ true = λ s l m. absurd (omega (arith, l, m)) in
    (collapse law space valid regular (λ _. []) 0 none, is-collapsing law space valid regular (λ _. []) 0 none)
