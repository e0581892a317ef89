-- The pairs of a dimension by their lowers, where no two have a cell in common.
use Rattle.std.proofs.Common.{◌≡◌, ◌⊎◌, inl, inr, ℕ, ◌-◌, ◌<◌, ◌≤◌, List, [], ◌∷◌, length, map, filter, get_or, true, nat_le, Option, Some, None, refl, ap, sym, ◌∙◌, subst, arith}
use Rattle.std.specs.List.{find, list_any}
use Rattle.std.proofs.lemmas.Bool.{both_ways, cases_lt, leb-true, le-leb}
use Rattle.std.proofs.lemmas.List.{get_or_past, length-map}
use Rattle.std.proofs.lemmas.List.FromFn.{get_or-map-range_with_len}
use Rattle.face_poset.specs.declared.cells.Pair.{Pair}
use Rattle.number_lists.specs.Words.{upto}
use Rattle.number_lists.specs.Members.{In, here, there}
use Rattle.number_lists.proofs.CallerLemmas.{any-some, any-In, same_bool, filter_same, length-upto, All-upto, In-filter, filter-In, In-inside, In-map, map-In, In-upto, upto-In}
use Rattle.face_poset.specs.Poset.{count}
use Rattle.pair_laws.specs.Tree.{Link}
use Rattle.pair_laws.proofs.CallerLemmas.{find-some, find-none}
use Rattle.vector_field.specs.Pairs.{pair, has_lower, is_incident}
use Rattle.vector_field.proofs.CallerLemmas.{Apart, has_lower-true, has_lower-from, Incident, incident-true}
use Rattle.chosen_field.specs.Chosen.{upper_of, lowers_in, link, links}
use Rattle.chosen_field.specs.Listings.{at, positive_at, links_at, AreUppers}

-- ---- lists

-- maps by functions that agree at the members
pub map-members : {A B : Type 0} (f g : A → B) (xs : List A) → ((x : A) → In x xs → f x ≡ g x) → map f xs ≡ map g xs
map-members f g [] h = refl
map-members {B = B} f g (x ∷ xs) h = ap (λ (y : B). y ∷ map f xs) (h x here) ∙ ap (λ (ys : List B). g x ∷ ys) (map-members f g xs (λ y m. h y (there m)))

-- what is at a cell
pub at-upto : (F : ℕ → ℕ) (n cell : ℕ) → 1 ≤ cell → cell ≤ n → at (map F (upto n)) cell ≡ F cell
at-upto F n cell a b = get_or-map-range_with_len F 1 n (cell - 1) cell 0 (omega (arith, a, b)) (omega (arith, a))

pub at-past : (numbers : List ℕ) (cell : ℕ) → 1 ≤ at numbers cell → cell - 1 < length numbers
at-past numbers cell l = elim (cases_lt (cell - 1) (length numbers)) [ inl k ↦ k | inr k ↦ absurd (omega (arith, l, get_or_past numbers (cell - 1) 0 k)) ]

-- ---- pairs

module _ (space : List (List (List ℕ))) (dim : ℕ) where
  -- pairs of which no two of the dimension have a cell in common
  pub record AreApart (pairs : List Pair) : Type 0 where
    pub incident : (p : Pair) → In p pairs → is_incident space p ≡ true
    pub apart : (p q : Pair) → In p pairs → In q pairs → p.dim ≡ dim → q.dim ≡ dim → (p ≡ q) ⊎ Apart p q

  module _ (pairs : List Pair) (h : AreApart pairs) where
    inside : (p : Pair) → In p pairs → Incident space p
    inside p m = incident-true space p (h.incident p m)

    abbrev upper_or : Option Pair → ℕ
    upper_or o = elim o [ None ↦ 0 | Some p ↦ p.upper ]

    pub upper-is : (p : Pair) → In p pairs → p.dim ≡ dim → upper_of pairs dim p.lower ≡ p.upper
    upper-is p m d = by (find (has_lower dim p.lower) pairs) refl
      where
        by : (o : Option Pair) → find (has_lower dim p.lower) pairs ≡ o → upper_of pairs dim p.lower ≡ p.upper
        by None e = absurd (both_ways (has_lower dim p.lower p) (find-none (has_lower dim p.lower) pairs e m) (has_lower-from p dim p.lower d refl))
        by (Some q) e =
            let f = find-some (has_lower dim p.lower) pairs q e in
            let l = has_lower-true q dim p.lower f.1 in
            elim (h.apart p q m f.0 d l.0) [
              | inl same ↦ ap upper_or e ∙ ap (λ (z : Pair). z.upper) (sym same)
              | inr a ↦ absurd (a.0 (inl (d ∙ sym l.0, sym l.1)))
            ]

    pub upper-pair : (f : ℕ) → 1 ≤ upper_of pairs dim f → In (pair dim f (upper_of pairs dim f)) pairs
    upper-pair f l = by (find (has_lower dim f) pairs) refl
      where
        by : (o : Option Pair) → find (has_lower dim f) pairs ≡ o → In (pair dim f (upper_of pairs dim f)) pairs
        by None e = absurd (omega (arith, l, ap upper_or e))
        by (Some q) e =
            let s = find-some (has_lower dim f) pairs q e in
            let t = has_lower-true q dim f s.1 in
            subst (λ (u : ℕ). In (pair dim f u) pairs) (sym (ap upper_or e)) (subst (λ (d : ℕ). In (pair d f q.upper) pairs) t.0 (subst (λ (n : ℕ). In (pair q.dim n q.upper) pairs) t.1 s.0))

    -- a cell is a lower where it has an upper
    pub lower-positive : (f : ℕ) → list_any (has_lower dim f) pairs ≡ nat_le 1 (upper_of pairs dim f)
    lower-positive f =
        same_bool (list_any (has_lower dim f) pairs) (nat_le 1 (upper_of pairs dim f))
        (λ e.
        let s = any-some (has_lower dim f) pairs e in
        let t = has_lower-true s.0 dim f s.2 in
        let i : Incident space s.0 = inside s.0 s.1 in
        le-leb 1 (upper_of pairs dim f) (subst (λ (n : ℕ). 1 ≤ n) (sym (subst (λ (n : ℕ). upper_of pairs dim n ≡ s.0.upper) t.1 (upper-is s.0 s.1 t.0))) i.upper_first))
        (λ e. any-In (has_lower dim f) (upper-pair f (leb-true 1 (upper_of pairs dim f) e)) (has_lower-from (pair dim f (upper_of pairs dim f)) dim f refl refl))

    -- ---- the uppers as a list

    module _ (uppers : List ℕ) (are : uppers ≡ map (upper_of pairs dim) (upto (count space dim))) where
      long : length uppers ≡ count space dim
      long = ap (λ (us : List ℕ). length us) are ∙ (length-map (upto (count space dim)) (upper_of pairs dim) ∙ length-upto (count space dim))

      at-is : (cell : ℕ) → 1 ≤ cell → cell ≤ count space dim → at uppers cell ≡ upper_of pairs dim cell
      at-is cell a b = ap (λ (us : List ℕ). at us cell) are ∙ at-upto (upper_of pairs dim) (count space dim) cell a b

      at-there : (cell : ℕ) → 1 ≤ cell → 1 ≤ at uppers cell → In (pair dim cell (at uppers cell)) pairs
      at-there cell a l =
          let e : at uppers cell ≡ upper_of pairs dim cell = at-is cell a (omega (arith, a, at-past uppers cell l, long)) in
          subst (λ (u : ℕ). In (pair dim cell u) pairs) (sym e) (upper-pair cell (omega (arith, l, e)))

      pub are-uppers : AreUppers space dim uppers
      are-uppers = record {
        long = long;
        last = λ cell a. elim (cases_lt 0 (at uppers cell)) [ inl l ↦ (inside (pair dim cell (at uppers cell)) (at-there cell a (omega (arith, l)))).upper_last | inr l ↦ omega (arith, l) ];
        facet = λ cell a l. (inside (pair dim cell (at uppers cell)) (at-there cell a l)).facet;
        once = λ x y a b l e.
            let m : In (pair dim x (at uppers x)) pairs = at-there x a l in
            let n : In (pair dim y (at uppers y)) pairs = at-there y b (omega (arith, l, e)) in
            elim (h.apart (pair dim x (at uppers x)) (pair dim y (at uppers y)) m n refl refl) [ inl same ↦ ap (λ (z : Pair). z.lower) same | inr k ↦ absurd (k.1 (inr (refl, e))) ];
      }

      pub links-are : links_at uppers (positive_at uppers) ≡ links space pairs dim
      links-are =
          let cells : positive_at uppers ≡ lowers_in space pairs dim =
          ap (λ (n : ℕ). filter (λ c. nat_le 1 (at uppers c)) (upto n)) long
          ∙ filter_same (λ c. nat_le 1 (at uppers c)) (λ f. list_any (has_lower dim f) pairs) (upto (count space dim))
          (λ k d l. let r = All-upto (count space dim) k d l in let f : ℕ = get_or (upto (count space dim)) k d in ap (λ (n : ℕ). nat_le 1 n) (at-is f r.0 r.1) ∙ sym (lower-positive f)) in
          ap (λ (cs : List ℕ). map (λ c. link c (at uppers c)) cs) cells
          ∙ map-members (λ c. link c (at uppers c)) (λ c. link c (upper_of pairs dim c)) (lowers_in space pairs dim)
          (λ c m. let r = upto-In (count space dim) c (In-inside (λ f. list_any (has_lower dim f) pairs) (upto (count space dim)) m) in ap (λ (u : ℕ). link c u) (at-is c r.0 r.1))

    -- ---- links

    pub link-In : (l : Link) → In l (links space pairs dim) → (In (pair dim l.lower l.upper) pairs) × (l.upper ≡ upper_of pairs dim l.lower)
    link-In l m =
        let s = map-In (λ f. link f (upper_of pairs dim f)) (lowers_in space pairs dim) m in
        let t : 1 ≤ upper_of pairs dim s.0 = leb-true 1 (upper_of pairs dim s.0) (sym (lower-positive s.0) ∙ filter-In (λ f. list_any (has_lower dim f) pairs) (upto (count space dim)) s.1) in
        subst (λ (k : Link). (In (pair dim k.lower k.upper) pairs) × (k.upper ≡ upper_of pairs dim k.lower)) (sym s.2) (upper-pair s.0 t, refl)

    pub In-link : (p : Pair) → In p pairs → p.dim ≡ dim → In (link p.lower p.upper) (links space pairs dim)
    In-link p m d =
        let i : Incident space p = inside p m in
        let c : In p.lower (lowers_in space pairs dim) =
        In-filter (λ f. list_any (has_lower dim f) pairs) (In-upto (count space dim) p.lower i.first (subst (λ (n : ℕ). p.lower ≤ count space n) d i.last)) (any-In (has_lower dim p.lower) m (has_lower-from p dim p.lower d refl)) in
        subst (λ (u : ℕ). In (link p.lower u) (links space pairs dim)) (upper-is p m d) (In-map (λ f. link f (upper_of pairs dim f)) c)

    pub link-one : (l k : Link) → In l (links space pairs dim) → In k (links space pairs dim) → l.lower ≡ k.lower → l ≡ k
    link-one l k m n e =
        let u : l.upper ≡ k.upper = (link-In l m).1 ∙ (ap (upper_of pairs dim) e ∙ sym (link-In k n).1) in
        ap (λ (x : ℕ). link x l.upper) e ∙ ap (λ (x : ℕ). link k.lower x) u
