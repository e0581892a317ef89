-- The uppers that are handed to the listing: by the tree, and by a field.
use Rattle.std.proofs.Common.{◌≡◌, inl, inr, ℕ, ◌+◌, ◌<◌, ◌≤◌, List, [], ◌∷◌, ◌++◌, length, map, get_or, Bool, true, false, ◌&&◌, eqb, Option, Some, None, unwrap_or, All, refl, ap, sym, ◌∙◌, arith}
use Rattle.std.specs.List.{find, list_any}
use Rattle.std.proofs.lemmas.Bool.{cases_lt}
use Rattle.std.proofs.lemmas.Option.{none-some}
use Rattle.std.specs.List.Sorted.{IsStrictlyIncreasing}
use Rattle.std.proofs.lemmas.List.{map-append, length-map}
use Rattle.face_poset.specs.declared.cells.Pair.{Pair}
use Rattle.number_lists.specs.Words.{upto, holds}
use Rattle.number_lists.specs.Members.{In}
use Rattle.number_lists.proofs.CallerLemmas.{upto-In, upto_more, length-upto}
use Rattle.face_poset.specs.Poset.{count, facets_of, cofaces_of, IsSpace}
use Rattle.regular_check.specs.Rules.{IsRegular}
use Rattle.regular_check.specs.Components.{vertices}
use Rattle.vector_field.specs.declared.partner.Partner.{Partner}
use Rattle.vector_field.specs.declared.partner.Partner.TheVariants.{Critical, Upper, Lower}
use Rattle.pair_laws.specs.Distance.{distance_to}
use Rattle.vector_field.specs.Pairs.{pair, unpaired, Field, critical_of, IsValid, IsPartner}
use Rattle.vector_field.specs.Stages.{is_left, IsAbove}
use Rattle.vector_field.proofs.CallerLemmas.{lined-two, lined-from, Goes, unused-In, critical-is, field-of}
use Rattle.chosen_field.specs.Chosen.{high, loose, joined_by, distances, distance_in, goes_nearer, tree_edge, tree, upper_of, in_turn, listed}
use Rattle.chosen_field.specs.Rests.{left_of}
use Rattle.chosen_field.specs.Listings.{positive_at, links_at, AreUppers, upper_in}
use Rattle.chosen_field.proofs.Lists.{find_same, find-at, find-none_at}
use Rattle.chosen_field.proofs.Begun.{left-flags}
use Rattle.chosen_field.proofs.Whole.{critical_within}
use Rattle.chosen_field.proofs.Waits.{find-both}
use Rattle.chosen_field.proofs.Uppers.{map-members, upper-is, upper-pair, are-uppers, links-are}
use Rattle.chosen_field.proofs.HighRanks.{valid-apart}
use Rattle.chosen_field.proofs.TreePairs.{IsTreePair, tree-In, In-tree, tree-apart}

-- ---- the edge of a vertex, among the edges that it has

and-swap : (a b c : Bool) → (a && (b && c)) ≡ (b && (a && c))
and-swap true b c = refl
and-swap false true c = refl
and-swap false false c = refl

-- an end of the edge has the number before that of a vertex
abbrev pub before : (space : List (List (List ℕ))) (numbers : List ℕ) (v : ℕ) → ℕ → Bool
before space numbers v e = list_any (λ w. eqb (distance_in numbers w + 1) (distance_in numbers v)) (facets_of space 1 e)

module _ (space : List (List (List ℕ))) (flags : List Bool) (long : length flags ≡ count space 1) (numbers : List ℕ) (v : ℕ) where
  edge-is : tree_edge space (left_of flags) numbers v ≡ find (λ e. is_left flags e && before space numbers v e) (cofaces_of space 0 v)
  edge-is =
      sym (find-both (is_left flags) (goes_nearer space numbers v) (upto (length flags)))
      ∙ (ap (λ (n : ℕ). find (λ e. is_left flags e && goes_nearer space numbers v e) (upto n)) long
      ∙ (find_same (λ e. is_left flags e && goes_nearer space numbers v e) (λ e. holds (facets_of space 1 e) v && (is_left flags e && before space numbers v e)) (upto (count space 1)) (λ k d l. and-swap (is_left flags (get_or (upto (count space 1)) k d)) (holds (facets_of space 1 (get_or (upto (count space 1)) k d)) v) (before space numbers v (get_or (upto (count space 1)) k d)))
      ∙ find-both (λ e. holds (facets_of space 1 e) v) (λ e. is_left flags e && before space numbers v e) (upto (count space 1))))

  pub edge-found : (cofaces : List ℕ) (i : ℕ) → cofaces ≡ cofaces_of space 0 v → i < length cofaces → is_left flags (get_or cofaces i 0) ≡ true → before space numbers v (get_or cofaces i 0) ≡ true
      → ((k : ℕ) → k < i → (is_left flags (get_or cofaces k 0) && before space numbers v (get_or cofaces k 0)) ≡ false) → get_or cofaces i 0 ≡ unwrap_or (tree_edge space (left_of flags) numbers v) 0
  edge-found cofaces i e l a b h =
      sym (ap (λ (o : Option ℕ). unwrap_or o 0)
      (edge-is ∙ (ap (find (λ x. is_left flags x && before space numbers v x)) (sym e)
      ∙ find-at (λ x. is_left flags x && before space numbers v x) cofaces i 0 l (ap (λ (t : Bool). t && before space numbers v (get_or cofaces i 0)) a ∙ b) h)))

  pub edge-none : (cofaces : List ℕ) (i : ℕ) → cofaces ≡ cofaces_of space 0 v → length cofaces ≤ i → ((k : ℕ) → k < i → (is_left flags (get_or cofaces k 0) && before space numbers v (get_or cofaces k 0)) ≡ false) → 0 ≡ unwrap_or (tree_edge space (left_of flags) numbers v) 0
  edge-none cofaces i e l h =
      sym (ap (λ (o : Option ℕ). unwrap_or o 0)
      (edge-is ∙ (ap (find (λ x. is_left flags x && before space numbers v x)) (sym e) ∙ find-none_at (λ x. is_left flags x && before space numbers v x) cofaces 0 (λ k m. h k (omega (arith, m, l))))))

-- ---- lists that are made one by one

pub map-more : (F : ℕ → ℕ) (items new : List ℕ) (i x : ℕ) → items ≡ map F (upto i) → new ≡ items ++ x ∷ [] → x ≡ F (i + 1) → new ≡ map F (upto (i + 1))
map-more F items new i x e f g =
    f ∙ (ap (λ (xs : List ℕ). xs ++ x ∷ []) e ∙ (ap (λ (y : ℕ). map F (upto i) ++ y ∷ []) g ∙ sym (ap (map F) (upto_more i) ∙ map-append F (upto i) ((i + 1) ∷ []))))

-- ---- the loose edges, as flags

module _ (space : List (List (List ℕ))) (field : Field) (pairs : field.pairs ≡ high space) (h : IsAbove space 1 field) (cells : List ℕ) (e : cells ≡ critical_of field 1) where
  pub loose-within : All (λ c. (1 ≤ c) × (c ≤ count space 1)) cells
  loose-within = critical_within space field 0 (omega arith) h cells e

  pub loose-flags : (flags : List Bool) → IsStrictlyIncreasing cells → length flags ≡ count space 1 → ((c : ℕ) → 1 ≤ c → is_left flags c ≡ holds cells c) → left_of flags ≡ loose space
  loose-flags flags rise long k =
      left-flags flags cells rise (λ i d l. let r = loose-within i d l in (r.0, omega (arith, r.1, long))) k
      ∙ (e ∙ (critical-is space field 1 (field-of space 1 field h) (omega arith) ∙ ap (λ (ps : List Pair). unpaired ps 1 (count space 1)) pairs))

pub distances-long : (space : List (List (List ℕ))) (es numbers : List ℕ) → numbers ≡ distances space es → length numbers ≡ count space 0
distances-long space es numbers e = ap (λ (ns : List ℕ). length ns) e ∙ (length-map (vertices space) (distance_to (joined_by space es) (vertices space) 1) ∙ length-upto (count space 0))

-- ---- the uppers of the tree

module _ (space : List (List (List ℕ))) (valid : IsSpace space) (regular : IsRegular space) where
  tree-upper : (v : ℕ) → 1 ≤ v → v ≤ count space 0 → unwrap_or (tree_edge space (loose space) (distances space (loose space)) v) 0 ≡ upper_of (tree space) 0 v
  tree-upper v a b = by (tree_edge space (loose space) (distances space (loose space)) v) refl
    where
      by : (o : Option ℕ) → tree_edge space (loose space) (distances space (loose space)) v ≡ o → unwrap_or (tree_edge space (loose space) (distances space (loose space)) v) 0 ≡ upper_of (tree space) 0 v
      by (Some e) f = ap (λ (o : Option ℕ). unwrap_or o 0) f ∙ sym (upper-is space 0 (tree space) (tree-apart space valid regular) (pair 0 v e) (In-tree space valid v e a b f) refl)
      by None f = elim (cases_lt 0 (upper_of (tree space) 0 v)) [
        | inl l ↦
            let t : IsTreePair space valid (pair 0 v (upper_of (tree space) 0 v)) = tree-In space valid (pair 0 v (upper_of (tree space) 0 v)) (upper-pair space 0 (tree space) (tree-apart space valid regular) v (omega (arith, l))) in
            absurd (none-some (upper_of (tree space) 0 v) (sym f ∙ t.edge))
        | inr l ↦ ap (λ (o : Option ℕ). unwrap_or o 0) f ∙ omega (arith, l)
      ]

  pub tree-uppers : (flags : List Bool) (numbers edges : List ℕ) → left_of flags ≡ loose space → numbers ≡ distances space (left_of flags)
      → edges ≡ map (λ v. unwrap_or (tree_edge space (left_of flags) numbers v) 0) (vertices space) → edges ≡ map (upper_of (tree space) 0) (upto (count space 0))
  tree-uppers flags numbers edges e f g =
      g
      ∙ (ap (λ (ns : List ℕ). map (λ v. unwrap_or (tree_edge space (left_of flags) ns v) 0) (vertices space)) f
      ∙ (ap (λ (es : List ℕ). map (λ v. unwrap_or (tree_edge space es (distances space es) v) 0) (vertices space)) e
      ∙ map-members (λ v. unwrap_or (tree_edge space (loose space) (distances space (loose space)) v) 0) (upper_of (tree space) 0) (vertices space) (λ v m. let r = upto-In (count space 0) v m in tree-upper v r.0 r.1)))

  -- the same, as they are handed on
  pub handed-uppers : (first second flags : List Bool) (given numbers items edges : List ℕ) → first ≡ flags → second ≡ flags → given ≡ numbers → edges ≡ items → left_of flags ≡ loose space → numbers ≡ distances space (left_of first)
      → items ≡ map (λ v. unwrap_or (tree_edge space (left_of second) given v) 0) (vertices space) → edges ≡ map (upper_of (tree space) 0) (upto (count space 0))
  handed-uppers first second flags given numbers items edges a b d e l n m =
      e ∙ tree-uppers second given items (ap (λ (bs : List Bool). left_of bs) b ∙ l) (d ∙ (n ∙ ap (λ (bs : List Bool). distances space (left_of bs)) (a ∙ sym b))) m

  pub tree-are-uppers : (edges : List ℕ) → edges ≡ map (upper_of (tree space) 0) (upto (count space 0)) → AreUppers space 0 edges
  tree-are-uppers edges e = are-uppers space 0 (tree space) (tree-apart space valid regular) edges e

  pub tree-listed : (edges : List ℕ) → edges ≡ map (upper_of (tree space) 0) (upto (count space 0)) → in_turn space 0 (links_at edges (positive_at edges)) ≡ listed space (tree space) 0
  tree-listed edges e = ap (in_turn space 0) (links-are space 0 (tree space) (tree-apart space valid regular) edges e)

-- ---- the uppers of a field

module _ (space : List (List (List ℕ))) (dim : ℕ) (ps : List Pair) (valid : IsValid space ps) where
  pub partner-upper : (cell : ℕ) (how : Partner) → IsPartner ps dim cell how → upper_in how ≡ upper_of ps dim cell
  partner-upper cell (Upper u) h = sym (upper-is space dim ps (valid-apart space dim ps valid) (pair dim cell u) h refl)
  partner-upper cell Critical h = elim (cases_lt 0 (upper_of ps dim cell)) [
    | inl l ↦ absurd (unused-In dim cell h (upper-pair space dim ps (valid-apart space dim ps valid) cell (omega (arith, l))) (inl (refl, refl)))
    | inr l ↦ omega (arith, l)
  ]
  partner-upper cell (Lower lower) h = elim (cases_lt 0 (upper_of ps dim cell)) [
    | inl l ↦
        let m : In (pair dim cell (upper_of ps dim cell)) ps = upper-pair space dim ps (valid-apart space dim ps valid) cell (omega (arith, l)) in
        elim (lined-two (Goes space) ps (lined-from space ps valid).lined (pair h.0 lower cell) (pair dim cell (upper_of ps dim cell)) h.2 m) [
          | inl same ↦ absurd (omega (arith, h.1, ap (λ (p : Pair). p.dim) same))
          | inr k ↦ elim k [ inl g ↦ absurd (g.apart.0 (inr (sym h.1, refl))) | inr g ↦ absurd (g.apart.1 (inl (h.1, refl))) ]
        ]
    | inr l ↦ omega (arith, l)
  ]

  pub field-are-uppers : (uppers : List ℕ) → uppers ≡ map (upper_of ps dim) (upto (count space dim)) → AreUppers space dim uppers
  field-are-uppers uppers e = are-uppers space dim ps (valid-apart space dim ps valid) uppers e

  pub field-listed : (uppers : List ℕ) → uppers ≡ map (upper_of ps dim) (upto (count space dim)) → in_turn space dim (links_at uppers (positive_at uppers)) ≡ listed space ps dim
  field-listed uppers e = ap (in_turn space dim) (links-are space dim ps (valid-apart space dim ps valid) uppers e)
