-- The computed test for gradient paths is exact.
use Rattle.std.proofs.Common.{◌≡◌, ◌≢◌, ℕ, ◌+◌, List, ◌∷◌, Bool, true, ◌&&◌, not, eqb, refl, subst}
use Rattle.std.proofs.lemmas.Bool.{eqb-false, eq-eqb, ne_eqb, and_parts, and_from, or_right, not-true, not_from_false}
use Rattle.face_poset.specs.declared.cells.Pair.{Pair}
use Rattle.number_lists.specs.Words.{holds}
use Rattle.face_poset.specs.Poset.{facets_of}
use Rattle.number_lists.specs.Reach.{Reaches, at_start, on}
use Rattle.number_lists.proofs.CallerLemmas.{reaches_is, In-filter, In-map, any-In, any-some, holds-In, In-holds}
use Rattle.vector_field.specs.Pairs.{has_lower, others}
use Rattle.vector_field.specs.Paths.{Leads, arrived, along, GradientPath, leads_step, lowers_of, leads_to, PathIsExact}
use Rattle.number_lists.specs.Members.{In, here}
use Rattle.vector_field.proofs.Valid.{has_lower-true, has_lower-from}

module _ (space : List (List (List ℕ))) (pairs : List Pair) (dim last : ℕ) where
  nodes : List ℕ
  nodes = last ∷ lowers_of pairs dim

  to_leads : {f : ℕ} → Reaches (leads_step space pairs dim) (last ∷ lowers_of pairs dim) last f → Leads space pairs dim last f
  to_leads at_start = arrived
  to_leads (on {y = y} {z = z} h s m) =
      let r = any-some (λ (p : Pair). has_lower dim z p && holds (others space p) y) pairs s in
      let b = and_parts (has_lower dim z r.0) (holds (others space r.0) y) r.2 in
      let l = has_lower-true r.0 dim z b.0 in
      subst (Leads space pairs dim last) l.1 (along r.0 r.1 l.0 (holds-In (others space r.0) b.1) (to_leads h))

  from_leads : {f : ℕ} → Leads space pairs dim last f → Reaches (leads_step space pairs dim) (last ∷ lowers_of pairs dim) last f
  from_leads arrived = at_start
  from_leads (along {next = g} p i d o h) =
      on (from_leads h)
      (any-In (λ (q : Pair). has_lower dim p.lower q && holds (others space q) g) i (and_from (has_lower dim p.lower p) (holds (others space p) g) (has_lower-from p dim p.lower d refl) (In-holds o)))
      (or_right (eqb last p.lower) (holds (lowers_of pairs dim) p.lower) (In-holds (In-map (λ (q : Pair). q.lower) (In-filter (λ (q : Pair). eqb q.dim dim) i (eq-eqb p.dim dim d)))))

  last_in : holds (last ∷ lowers_of pairs dim) last ≡ true
  last_in = In-holds {x = last} {xs = last ∷ lowers_of pairs dim} here

  pub leads-sound : (f : ℕ) → leads_to space pairs dim last f ≡ true → Leads space pairs dim last f
  leads-sound f e = to_leads ((reaches_is (leads_step space pairs dim) (last ∷ lowers_of pairs dim) last f last_in).0 e)

  pub leads-complete : (f : ℕ) → Leads space pairs dim last f → leads_to space pairs dim last f ≡ true
  leads-complete f h = (reaches_is (leads_step space pairs dim) (last ∷ lowers_of pairs dim) last f last_in).1 (from_leads h)

-- more pairs lead further
pub leads-more : {space : List (List (List ℕ))} {ps qs : List Pair} {dim last f : ℕ} → ((p : Pair) → In p ps → In p qs) → Leads space ps dim last f → Leads space qs dim last f
leads-more k arrived = arrived
leads-more k (along p i d o h) = along p (k p i) d o (leads-more k h)

-- a facet of the upper that is not the lower is another one
pub other-In : (space : List (List (List ℕ))) (p : Pair) (f : ℕ) → In f (facets_of space (p.dim + 1) p.upper) → f ≢ p.lower → In f (others space p)
other-In space p f m n = In-filter (λ g. not (eqb g p.lower)) m (not_from_false (eqb f p.lower) (ne_eqb f p.lower n))

path-parts : (a b : Bool) (f lower : ℕ) → (not (eqb f lower) && b) ≡ true → (f ≢ lower) × (b ≡ true)
path-parts a b f lower e = let p = and_parts (not (eqb f lower)) b e in (eqb-false f lower (not-true (eqb f lower) p.0), p.1)

pub path_is_exact : PathIsExact
path_is_exact space pairs dim upper lower = (
  λ e.
      let s = any-some (λ f. not (eqb f lower) && leads_to space pairs dim lower f) (facets_of space (dim + 1) upper) e in
      let b = path-parts true (leads_to space pairs dim lower s.0) s.0 lower s.2 in
      record { first = s.0; facet = s.1; other = b.0; leads = leads-sound space pairs dim lower s.0 b.1 },
  λ h. any-In (λ f. not (eqb f lower) && leads_to space pairs dim lower f) h.facet
      (and_from (not (eqb h.first lower)) (leads_to space pairs dim lower h.first) (not_from_false (eqb h.first lower) (ne_eqb h.first lower h.other)) (leads-complete space pairs dim lower h.first h.leads)),
)

-- more pairs have no fewer paths
pub path-more : (space : List (List (List ℕ))) (ps qs : List Pair) (dim upper lower : ℕ) → ((p : Pair) → In p ps → In p qs) → GradientPath space ps dim upper lower → GradientPath space qs dim upper lower
path-more space ps qs dim upper lower k h = record { first = h.first; facet = h.facet; other = h.other; leads = leads-more k h.leads }
