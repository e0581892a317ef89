-- Free pairs, and the cells that are left without one.
use Rattle.std.proofs.Common.{◌≡◌, ◌⊎◌, inl, inr, ℕ, suc, List, Bool, true, false, ◌&&◌, ◌||◌, not, eqb, refl, ap, sym, ◌∙◌, subst}
use Rattle.std.specs.List.{list_all, list_any}
use Rattle.std.proofs.lemmas.Bool.{eqb-true, eq-eqb, false≢true, and_from, and_parts, or_cases}
use Rattle.number_lists.specs.Words.{holds}
use Rattle.number_lists.specs.Members.{In}
use Rattle.number_lists.proofs.CallerLemmas.{In-filter, filter-In, In-inside, any-In, any-some, all-In, In-all, holds-In, In-holds}
use Rattle.face_poset.specs.declared.cells.Cell.{Cell}
use Rattle.face_poset.specs.declared.cells.Pair.{Pair}
use Rattle.face_poset.specs.Poset.{facets_of}
use Rattle.face_poset.specs.Below.{cell_at}
use Rattle.sphere_collapses.specs.Collapses.{same, has_facet, lower_of, upper_of, is_only, is_free, without, is_point}

-- ---- tests of cells

pub same-is : (c d : Cell) → same c d ≡ true → (c.dim ≡ d.dim) × (c.number ≡ d.number)
same-is c d e = let r = and_parts (eqb c.dim d.dim) (eqb c.number d.number) e in (eqb-true c.dim d.dim r.0, eqb-true c.number d.number r.1)

pub is-same : (c d : Cell) → c.dim ≡ d.dim → c.number ≡ d.number → same c d ≡ true
is-same c d e f = and_from (eqb c.dim d.dim) (eqb c.number d.number) (eq-eqb c.dim d.dim e) (eq-eqb c.number d.number f)

pub same-cell : (c d : Cell) → same c d ≡ true → c ≡ d
same-cell c d e = let r = same-is c d e in ap (λ (k : ℕ). cell_at k c.number) r.0 ∙ ap (λ (n : ℕ). cell_at d.dim n) r.1

pub cell-same : (c d : Cell) → c ≡ d → same c d ≡ true
cell-same c d e = is-same c d (ap (λ (x : Cell). x.dim) e) (ap (λ (x : Cell). x.number) e)

pub turned : (b : Bool) → not b ≡ true → b ≡ false
turned true e = absurd (false≢true e)
turned false e = refl

pub not_yet : (b : Bool) → (b ≡ true → ⊥) → not b ≡ true
not_yet true k = absurd (k refl)
not_yet false k = refl

-- ---- free pairs

pub record IsFree (space : List (List (List ℕ))) (rest : List Cell) (p : Pair) : Type 0 where
  pub lower : In (lower_of p) rest
  pub upper : In (upper_of p) rest
  pub facet : In p.lower (facets_of space (suc p.dim) p.upper)
  pub only : (n : ℕ) → In (cell_at (suc p.dim) n) rest → In p.lower (facets_of space (suc p.dim) n) → n ≡ p.upper
  pub top : (n : ℕ) → In (cell_at (suc (suc p.dim)) n) rest → In p.upper (facets_of space (suc (suc p.dim)) n) → ⊥

module _ (space : List (List (List ℕ))) (rest : List Cell) (p : Pair) where
  abbrev over : Cell → Bool
  over c = has_facet space c (lower_of p)

  abbrev tops : Cell → Bool
  tops c = has_facet space c (upper_of p)

  abbrev alone : Cell → Bool
  alone c = not (has_facet space c (lower_of p)) || same c (upper_of p)

  pub free-from : IsFree space rest p → is_free space rest p ≡ true
  free-from h =
      and_from (list_any (same (lower_of p)) rest) _ (any-In (same (lower_of p)) h.lower (cell-same (lower_of p) (lower_of p) refl))
      (and_from (list_any (same (upper_of p)) rest) _ (any-In (same (upper_of p)) h.upper (cell-same (upper_of p) (upper_of p) refl))
      (and_from (has_facet space (upper_of p) (lower_of p)) _ (and_from (eqb (suc p.dim) (suc p.dim)) (holds (facets_of space (suc p.dim) p.upper) p.lower) (eq-eqb (suc p.dim) (suc p.dim) refl) (In-holds h.facet))
      (and_from (is_only space rest p) _ (In-all alone rest (λ c i. by_test c i (has_facet space c (lower_of p)) refl)) (not_yet (list_any tops rest) none))))
    where
      by_test : (c : Cell) → In c rest → (b : Bool) → has_facet space c (lower_of p) ≡ b → (not (has_facet space c (lower_of p)) || same c (upper_of p)) ≡ true
      by_test c i false e = rw e refl
      by_test c i true e =
          let r = and_parts (eqb c.dim (suc p.dim)) (holds (facets_of space c.dim c.number) p.lower) e in
          let d : c.dim ≡ suc p.dim = eqb-true c.dim (suc p.dim) r.0 in
          let j : In (cell_at (suc p.dim) c.number) rest = subst (λ (k : ℕ). In (cell_at k c.number) rest) d i in
          let f : In p.lower (facets_of space (suc p.dim) c.number) = subst (λ (k : ℕ). In p.lower (facets_of space k c.number)) d (holds-In (facets_of space c.dim c.number) r.1) in
          rw e (is-same c (upper_of p) d (h.only c.number j f))

      none : list_any (λ c. has_facet space c (upper_of p)) rest ≡ true → ⊥
      none e =
          let s = any-some (λ c. has_facet space c (upper_of p)) rest e in
          let r = and_parts (eqb s.0.dim (suc (suc p.dim))) (holds (facets_of space s.0.dim s.0.number) p.upper) s.2 in
          let d : s.0.dim ≡ suc (suc p.dim) = eqb-true s.0.dim (suc (suc p.dim)) r.0 in
          h.top s.0.number (subst (λ (k : ℕ). In (cell_at k s.0.number) rest) d s.1) (subst (λ (k : ℕ). In p.upper (facets_of space k s.0.number)) d (holds-In (facets_of space s.0.dim s.0.number) r.1))

  pub is-free : is_free space rest p ≡ true → IsFree space rest p
  is-free e =
      let a = and_parts (list_any (same (lower_of p)) rest) _ e in
      let b = and_parts (list_any (same (upper_of p)) rest) _ a.1 in
      let c = and_parts (has_facet space (upper_of p) (lower_of p)) _ b.1 in
      let d = and_parts (is_only space rest p) _ c.1 in
      let low = any-some (same (lower_of p)) rest a.0 in
      let up = any-some (same (upper_of p)) rest b.0 in
      record {
        lower = subst (λ (x : Cell). In x rest) (sym (same-cell (lower_of p) low.0 low.2)) low.1;
        upper = subst (λ (x : Cell). In x rest) (sym (same-cell (upper_of p) up.0 up.2)) up.1;
        facet = holds-In (facets_of space (suc p.dim) p.upper) ((and_parts (eqb (suc p.dim) (suc p.dim)) (holds (facets_of space (suc p.dim) p.upper) p.lower) c.0).1);
        only = λ n i f. only_one n f (all-In alone d.0 i);
        top = λ n i f. none n i f (turned (list_any tops rest) d.1);
      }
    where
      has : (k n g : ℕ) → In g (facets_of space (suc k) n) → has_facet space (cell_at (suc k) n) (cell_at k g) ≡ true
      has k n g i = and_from (eqb (suc k) (suc k)) (holds (facets_of space (suc k) n) g) (eq-eqb (suc k) (suc k) refl) (In-holds i)

      only_one : (n : ℕ) → In p.lower (facets_of space (suc p.dim) n) → (not (has_facet space (cell_at (suc p.dim) n) (lower_of p)) || same (cell_at (suc p.dim) n) (upper_of p)) ≡ true → n ≡ p.upper
      only_one n f t = elim (or_cases (not (has_facet space (cell_at (suc p.dim) n) (lower_of p))) (same (cell_at (suc p.dim) n) (upper_of p)) t) [
        | inl q ↦ absurd (false≢true (sym (turned (has_facet space (cell_at (suc p.dim) n) (lower_of p)) q) ∙ has p.dim n p.lower f))
        | inr q ↦ (same-is (cell_at (suc p.dim) n) (upper_of p) q).1
      ]

      none : (n : ℕ) → In (cell_at (suc (suc p.dim)) n) rest → In p.upper (facets_of space (suc (suc p.dim)) n) → list_any (λ c. has_facet space c (upper_of p)) rest ≡ false → ⊥
      none n i f t = false≢true (sym t ∙ any-In (λ c. has_facet space c (upper_of p)) i (has (suc p.dim) n p.upper f))

  -- ---- what is left

  abbrev stays : Cell → Bool
  stays c = not (same (lower_of p) c || same (upper_of p) c)

  pub without-inside : {c : Cell} → In c (without rest p) → In c rest
  without-inside i = In-inside stays rest i

  pub without-not : {c : Cell} → In c (without rest p) → (lower_of p ≡ c → ⊥) × (upper_of p ≡ c → ⊥)
  without-not {c} i =
      let t : (same (lower_of p) c || same (upper_of p) c) ≡ false = turned (same (lower_of p) c || same (upper_of p) c) (filter-In stays rest i) in (
        λ e. neither (same (lower_of p) c) (same (upper_of p) c) t (inl (cell-same (lower_of p) c e)),
        λ e. neither (same (lower_of p) c) (same (upper_of p) c) t (inr (cell-same (upper_of p) c e)),
      )
    where
      neither : (a b : Bool) → (a || b) ≡ false → (a ≡ true) ⊎ (b ≡ true) → ⊥
      neither true b e k = false≢true (sym e)
      neither false true e k = false≢true (sym e)
      neither false false e (inl k) = false≢true k
      neither false false e (inr k) = false≢true k

  pub In-without : {c : Cell} → In c rest → (lower_of p ≡ c → ⊥) → (upper_of p ≡ c → ⊥) → In c (without rest p)
  In-without {c} i a b =
      In-filter stays i
      (not_yet (same (lower_of p) c || same (upper_of p) c)
      (λ t. elim (or_cases (same (lower_of p) c) (same (upper_of p) c) t) [ inl q ↦ a (same-cell (lower_of p) c q) | inr q ↦ b (same-cell (upper_of p) c q) ]))

-- one vertex is left
pub point-from : (rest : List Cell) (v : ℕ) → In (cell_at 0 v) rest → ((c : Cell) → In c rest → cell_at 0 v ≡ c) → is_point rest ≡ true
point-from rest v i h =
    any-In (λ v. (eqb v.dim 0) && list_all (same v) rest) i (and_from (eqb 0 0) (list_all (same (cell_at 0 v)) rest) refl (In-all (same (cell_at 0 v)) rest (λ c j. cell-same (cell_at 0 v) c (h c j))))

pub record IsPoint (rest : List Cell) : Type 0 where
  pub vertex : ℕ
  pub all : (c : Cell) → In c rest → cell_at 0 vertex ≡ c

pub is-point : (rest : List Cell) → is_point rest ≡ true → IsPoint rest
is-point rest e =
    let s = any-some (λ v. (eqb v.dim 0) && list_all (same v) rest) rest e in
    let r = and_parts (eqb s.0.dim 0) (list_all (same s.0) rest) s.2 in
    let z : s.0.dim ≡ 0 = eqb-true s.0.dim 0 r.0 in
    record { vertex = s.0.number; all = λ c i. ap (λ (k : ℕ). cell_at k s.0.number) (sym z) ∙ same-cell s.0 c (all-In (same s.0) r.1 i) }
