-- The loops that number cells.
use Rattle.std.proofs.Common.{◌≡◌, ℕ, suc, ◌+◌, ◌-◌, ◌<◌, ◌≤◌, List, [], ◌∷◌, ◌++◌, Bool, true, false, cond, ◌||◌, eqb, filter, map, replicate, set, take, length, get_or, refl, ap, sym, ◌∙◌, subst, arith, All}
use Rattle.std.proofs.lemmas.Bool.{eq-eqb, ne_eqb}
use Rattle.std.proofs.lemmas.Simd.{splat_is_map}
use Rattle.std.proofs.lemmas.List.{map-append, length-map, get_or-map, take_all, get_or-set_same}
use Rattle.std.proofs.lemmas.List.FromFn.{length-map-range_with_len, get_or-map-range_with_len}
use Rattle.number_lists.specs.Words.{upto, holds}
use Rattle.number_lists.specs.Cofaces.{IsRising, cells_with, coface_lists}
use Rattle.number_lists.proofs.CallerLemmas.{upto_more, length-upto, upto-In, set-map-upto, map_agree}
use Rattle.face_poset.specs.Poset.{IsSpace, count, facets_of}
use Rattle.regular_check.specs.Components.{Numbering, component_of, components_of}
use Rattle.space_parts.specs.Parts.{component_at}
use Rattle.space_parts.specs.Listings.{numbers_of, with_number, grouped, own_place}
use Rattle.space_parts.proofs.Counted.{count-more, count-le}
use Rattle.space_parts.proofs.Within.{facet_in, first_facet}
use Rattle.space_parts.proofs.Listed.{length_numbers, number_at, filter_agree}

-- one number more
pub pushed : (f : ℕ → ℕ) (n : ℕ) (xs : List ℕ) (x : ℕ) → xs ≡ map f (upto n) → x ≡ f (n + 1) → xs ++ x ∷ [] ≡ map f (upto (n + 1))
pushed f n xs x e h =
    ap (λ (ys : List ℕ). ys ++ x ∷ []) e ∙ (ap (λ (y : ℕ). map f (upto n) ++ y ∷ []) h ∙ (sym (map-append f (upto n) ((n + 1) ∷ [])) ∙ ap (map f) (sym (upto_more n))))

-- ---- vertices

pub vertex_numbers : (space : List (List (List ℕ))) (components : Numbering) → components ≡ components_of space → length components.numbers ≡ count space 0
vertex_numbers space components e = ap (λ (n : Numbering). length n.numbers) e ∙ length-map-range_with_len (component_of space) 1 (count space 0)

pub vertex_number : (space : List (List (List ℕ))) (components : Numbering) (k : ℕ) → components ≡ components_of space → k < count space 0 → get_or components.numbers (k + 1 - 1) 0 ≡ component_at space 0 (k + 1)
vertex_number space components k e l =
    ap (λ (n : Numbering). get_or n.numbers (k + 1 - 1) 0) e ∙ get_or-map-range_with_len (component_of space) 1 (count space 0) (k + 1 - 1) (k + 1) 0 (omega (arith, l)) (omega arith)

-- ---- cells above

pub record HasNumber (space : List (List (List ℕ))) (dim k : ℕ) (below facets : List ℕ) : Type 0 where
  pub within : get_or facets 0 0 - 1 < length below
  pub number : get_or below (get_or facets 0 0 - 1) 0 ≡ component_at space dim (k + 1)

pub has_number : (space : List (List (List ℕ))) (dim k : ℕ) (below facets : List ℕ) → IsSpace space → 1 ≤ dim → k < count space dim → below ≡ numbers_of space (dim - 1) → facets ≡ facets_of space dim (k + 1) → HasNumber space dim k below facets
has_number space dim k below facets hs low l e f =
    let s : suc (dim - 1) ≡ dim = omega (arith, low) in
    subst (λ (xs : List ℕ). HasNumber space dim k below xs) (sym f)
    (subst (λ (xs : List ℕ). HasNumber space dim k xs (facets_of space dim (k + 1))) (sym e)
    (subst (λ (d : ℕ). HasNumber space d k (numbers_of space (dim - 1)) (facets_of space d (k + 1))) s (there (dim - 1) (omega (arith, ap (count space) s, l)))))
  where
    there : (d : ℕ) → k < count space (suc d) → HasNumber space (suc d) k (numbers_of space d) (facets_of space (suc d) (k + 1))
    there d lt =
        let a : ℕ = get_or (facets_of space (suc d) (k + 1)) 0 0 in
        let w = facet_in space d (k + 1) a hs (omega arith) (omega (arith, lt)) (first_facet space d (k + 1) hs (omega arith) (omega (arith, lt))) in
        record { within = omega (arith, w.0, w.1, length_numbers space d); number = number_at space d a w.0 w.1 }

-- ---- cells by component

single : ℕ → List ℕ
single n = n ∷ []

all_singles : (numbers : List ℕ) (i : ℕ) (singles : List (List ℕ)) → singles ≡ map (λ n. n ∷ []) (take i numbers) → length numbers ≤ i → singles ≡ map (λ n. n ∷ []) numbers
all_singles numbers i singles e l = e ∙ ap (map (λ n. n ∷ [])) (take_all i numbers l)

pub singles_rise : (numbers : List ℕ) (most i : ℕ) (singles : List (List ℕ)) → singles ≡ map (λ n. n ∷ []) (take i numbers) → length numbers ≤ i → All (λ n. (1 ≤ n) × (n ≤ most)) numbers → All (IsRising most) singles
singles_rise numbers most i singles e l w =
    subst (All (IsRising most)) (sym (all_singles numbers i singles e l))
    (λ k d m.
    let lt : k < length numbers = omega (arith, m, length-map numbers (λ n. n ∷ [])) in
    let at : get_or (map (λ n. n ∷ []) numbers) k d ≡ get_or numbers k 0 ∷ [] = get_or-map (λ n. n ∷ []) numbers k 0 d lt in
    subst (IsRising most) (sym at) (one (get_or numbers k 0) (w k 0 lt)))
  where
    one : (n : ℕ) → (1 ≤ n) × (n ≤ most) → IsRising most (n ∷ [])
    one n w = record { rises = λ k l. absurd (omega (arith, l)); within = λ k d l. (let z : k ≡ 0 = omega (arith, l) in subst (λ (j : ℕ). (1 ≤ get_or (n ∷ []) j d) × (get_or (n ∷ []) j d ≤ most)) (sym z) w) }

pub grouped_is : (numbers : List ℕ) (most i : ℕ) (singles : List (List ℕ)) → singles ≡ map (λ n. n ∷ []) (take i numbers) → length numbers ≤ i → coface_lists most singles ≡ grouped numbers most
grouped_is numbers most i singles e l =
    ap (coface_lists most) (all_singles numbers i singles e l)
    ∙ map_agree (cells_with (map (λ n. n ∷ []) numbers)) (λ n. with_number numbers n (length numbers)) (upto most)
    (λ n.
    ap (λ (k : ℕ). filter (λ c. holds (get_or (map (λ n. n ∷ []) numbers) (c - 1) []) n) (upto k)) (length-map numbers (λ n. n ∷ []))
    ∙ filter_agree (λ c. holds (get_or (map (λ n. n ∷ []) numbers) (c - 1) []) n) (λ c. eqb (get_or numbers (c - 1) 0) n) (upto (length numbers))
    (λ c j.
    let w = upto-In (length numbers) c j in
    ap (λ (xs : List ℕ). holds xs n) (get_or-map (λ n. n ∷ []) numbers (c - 1) 0 [] (omega (arith, w.0, w.1))) ∙ or_false (eqb (get_or numbers (c - 1) 0) n)))
  where
    or_false : (b : Bool) → (b || false) ≡ b
    or_false true = refl
    or_false false = refl

-- ---- the number of each cell in its part

pub record IsCounted (numbers : List ℕ) (most i : ℕ) (counts places : List ℕ) : Type 0 where
  pub counts_are : counts ≡ map (λ n. length (with_number numbers n i)) (upto most)
  pub places_are : places ≡ map (own_place numbers) (upto i)

pub counted-begun : (numbers : List ℕ) (most : ℕ) (counts places : List ℕ) → counts ≡ replicate most 0 → places ≡ [] → IsCounted numbers most 0 counts places
counted-begun numbers most counts places e f = record { counts_are = e ∙ splat_is_map (upto most) most 0 (length-upto most); places_are = f }

module _ (numbers : List ℕ) (most i : ℕ) (counts places : List ℕ) (h : IsCounted numbers most i counts places) (lt : i < length numbers) (w : All (λ n. (1 ≤ n) × (n ≤ most)) numbers) where
  abbrev x : ℕ
  x = get_or numbers i 0

  pub counts_long : length counts ≡ most
  counts_long = ap length h.counts_are ∙ length-map-range_with_len (λ n. length (with_number numbers n i)) 1 most

  pub count_here : (at : ℕ) → at ≡ get_or counts (get_or numbers i 0 - 1) at → at ≡ length (with_number numbers (get_or numbers i 0) i)
  count_here at e =
      let r = w i 0 lt in
      e ∙ (ap (λ (cs : List ℕ). get_or cs (x - 1) at) h.counts_are ∙ get_or-map-range_with_len (λ n. length (with_number numbers n i)) 1 most (x - 1) x at (omega (arith, r.0, r.1)) (omega (arith, r.0)))

  pub count_few : (at : ℕ) → at ≡ get_or counts (get_or numbers i 0 - 1) at → at ≤ i
  count_few at e = omega (arith, count_here at e, count-le (λ c. eqb (get_or numbers (c - 1) 0) x) i)

  one_more : (n : ℕ) → length (with_number numbers n (i + 1)) ≡ length (with_number numbers n i) + cond (eqb (get_or numbers (i + 1 - 1) 0) n) 1 0
  one_more n = count-more (λ c. eqb (get_or numbers (c - 1) 0) n) i

  here : get_or numbers (i + 1 - 1) 0 ≡ get_or numbers i 0
  here = let e : i + 1 - 1 ≡ i = omega arith in ap (λ (k : ℕ). get_or numbers k 0) e

  now : (at : ℕ) → at ≡ get_or counts (get_or numbers i 0 - 1) at → length (with_number numbers (get_or numbers i 0) (i + 1)) ≡ at + 1
  now at e = one_more x ∙ (ap (λ (b : Bool). length (with_number numbers x i) + cond b 1 0) (eq-eqb (get_or numbers (i + 1 - 1) 0) x here) ∙ ap (λ (n : ℕ). n + 1) (sym (count_here at e)))

  pub counted-more : (at : ℕ) (next : ℕ) → at ≡ get_or counts (get_or numbers i 0 - 1) at → next ≡ get_or (set counts (get_or numbers i 0 - 1) (at + 1)) (get_or numbers i 0 - 1) next
      → IsCounted numbers most (i + 1) (set counts (get_or numbers i 0 - 1) (at + 1)) (places ++ next ∷ [])
  counted-more at next e f =
      let r = w i 0 lt in
      let last : next ≡ at + 1 = f ∙ get_or-set_same counts (x - 1) (at + 1) next (omega (arith, r.0, r.1, counts_long)) in
      record {
        counts_are =
            ap (λ (cs : List ℕ). set cs (x - 1) (at + 1)) h.counts_are
            ∙ set-map-upto (λ n. length (with_number numbers n i)) (λ n. length (with_number numbers n (i + 1))) most x (at + 1) r.0 r.1 (now at e)
            (λ n ne. sym (one_more n ∙ (ap (λ (b : Bool). length (with_number numbers n i) + cond b 1 0) (ne_eqb (get_or numbers (i + 1 - 1) 0) n (λ q. ne (sym (sym here ∙ q)))) ∙ (let z : length (with_number numbers n i) + 0 ≡ length (with_number numbers n i) = omega arith in z))));
        places_are = pushed (own_place numbers) i places next h.places_are (last ∙ (sym (now at e) ∙ ap (λ (n : ℕ). length (with_number numbers n (i + 1))) (sym here)));
      }
