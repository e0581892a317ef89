-- Cells in what is left of a list, and pairs that are taken away.
use Rattle.std.proofs.Common.{◌≡◌, ◌⊎◌, inl, inr, ℕ, suc, ◌==◌, List, [], ◌∷◌, Bool, true, false, cond, not, ◌||◌, ◌&&◌, eqb, filter, refl, ap, sym, ◌∙◌}
use Rattle.std.specs.List.{list_any, list_all}
use Rattle.std.proofs.lemmas.Bool.{eqb-true, eq-eqb, false≢true, or_right, or_cases, and_from, and_parts}
use Rattle.face_poset.specs.declared.cells.Cell.{Cell}
use Rattle.face_poset.specs.declared.cells.Pair.{Pair}
use Rattle.number_lists.specs.Words.{holds}
use Rattle.face_poset.specs.Poset.{facets_of}
use Rattle.face_poset.specs.Below.{cell_at}
use Rattle.number_lists.proofs.CallerLemmas.{and-left, and-right, any-some}
use Rattle.sphere_collapses.specs.Collapses.{same, has_facet, lower_of, upper_of, is_only, is_free, without, is_point}

-- the cell has this dimension and number
abbrev pub is_cell : (d n : ℕ) → Cell → Bool
is_cell d n c = same (cell_at d n) c

-- the list has such a cell
abbrev pub has : List Cell → (d n : ℕ) → Bool
has rest d n = list_any (same (cell_at d n)) rest

-- a cell that is found is the one with this dimension and number
cell_is : (d n : ℕ) (c : Cell) → is_cell d n c ≡ true → c ≡ cell_at d n
cell_is d n c e =
    let p = and_parts (eqb d c.dim) (eqb n c.number) e in
    ap (λ (k : ℕ). cell_at k c.number) (sym (eqb-true d c.dim p.0)) ∙ ap (λ (k : ℕ). cell_at d k) (sym (eqb-true n c.number p.1))

and_false : (b : Bool) → (b && false) ≡ false
and_false true = refl
and_false false = refl

pub has-filter : (q : Cell → Bool) (d n : ℕ) (rest : List Cell) → has (filter q rest) d n ≡ (has rest d n && q (cell_at d n))
has-filter q d n [] = refl
has-filter q d n (c ∷ cs) = by (q c) refl (is_cell d n c) refl (has-filter q d n cs)
  where
    by : (k : Bool) → q c ≡ k → (i : Bool) → is_cell d n c ≡ i → has (filter q cs) d n ≡ (has cs d n && q (cell_at d n)) → has (cond (q c) (c ∷ filter q cs) (filter q cs)) d n ≡ ((is_cell d n c || has cs d n) && q (cell_at d n))
    by true e true g m =
        ap (λ (b : Bool). has (cond b (c ∷ filter q cs) (filter q cs)) d n) e ∙ (ap (λ (b : Bool). b || has (filter q cs) d n) g ∙ sym (ap (λ (b : Bool). (b || has cs d n) && q (cell_at d n)) g ∙ (sym (ap q (cell_is d n c g)) ∙ e)))
    by true e false g m =
        ap (λ (b : Bool). has (cond b (c ∷ filter q cs) (filter q cs)) d n) e ∙ (ap (λ (b : Bool). b || has (filter q cs) d n) g ∙ (m ∙ sym (ap (λ (b : Bool). (b || has cs d n) && q (cell_at d n)) g)))
    by false e true g m =
        let gone : q (cell_at d n) ≡ false = sym (ap q (cell_is d n c g)) ∙ e in
        ap (λ (b : Bool). has (cond b (c ∷ filter q cs) (filter q cs)) d n) e
        ∙ (m ∙ (ap (λ (b : Bool). has cs d n && b) gone ∙ (and_false (has cs d n) ∙ sym (ap (λ (b : Bool). (is_cell d n c || has cs d n) && b) gone ∙ and_false (is_cell d n c || has cs d n)))))
    by false e false g m =
        ap (λ (b : Bool). has (cond b (c ∷ filter q cs) (filter q cs)) d n) e ∙ (m ∙ sym (ap (λ (b : Bool). (b || has cs d n) && q (cell_at d n)) g))

-- what holds of all holds of a cell that is there
pub all_has : (q : Cell → Bool) (d n : ℕ) (rest : List Cell) → list_all q rest ≡ true → has rest d n ≡ true → q (cell_at d n) ≡ true
all_has q d n [] e h = absurd (false≢true h)
all_has q d n (c ∷ cs) e h = elim (or_cases (is_cell d n c) (has cs d n) h) [
  | inl g ↦ sym (ap q (cell_is d n c g)) ∙ and-left (q c) (list_all q cs) e
  | inr g ↦ all_has q d n cs (and-right (q c) (list_all q cs) e) g
]

pub has_not : (d n : ℕ) (rest : List Cell) (q : Cell → Bool) → list_all q rest ≡ true → q (cell_at d n) ≡ false → has rest d n ≡ false
has_not d n rest q e f = by (has rest d n) refl
  where
    by : (b : Bool) → has rest d n ≡ b → has rest d n ≡ false
    by true g = absurd (false≢true (sym f ∙ all_has q d n rest e g))
    by false g = g

-- the cell is one of the two of a pair
abbrev pub uses : Pair → (dim number : ℕ) → Bool
uses p d n = is_cell p.dim p.lower (cell_at d n) || is_cell (suc p.dim) p.upper (cell_at d n)

pub has-without : (rest : List Cell) (p : Pair) (d n : ℕ) → has (without rest p) d n ≡ (has rest d n && not (uses p d n))
has-without rest p d n = has-filter (λ (c : Cell). not (is_cell p.dim p.lower c || is_cell (suc p.dim) p.upper c)) d n rest

-- what is gone stays gone
pub gone_on : (rest : List Cell) (p : Pair) (d n : ℕ) → has rest d n ≡ false → has (without rest p) d n ≡ false
gone_on rest p d n e = has-without rest p d n ∙ ap (λ (b : Bool). b && not (uses p d n)) e

pub there_before : (rest : List Cell) (p : Pair) (d n : ℕ) → has (without rest p) d n ≡ true → has rest d n ≡ true
there_before rest p d n e = and-left (has rest d n) (not (uses p d n)) (sym (has-without rest p d n) ∙ e)

-- what goes is of the pair
pub gone_now : (rest : List Cell) (p : Pair) (d n : ℕ) → has (without rest p) d n ≡ false → (has rest d n ≡ false) ⊎ (uses p d n ≡ true)
gone_now rest p d n e = by (has rest d n) refl (uses p d n) refl
  where
    by : (a : Bool) → has rest d n ≡ a → (b : Bool) → uses p d n ≡ b → (has rest d n ≡ false) ⊎ (uses p d n ≡ true)
    by false f b g = inl f
    by true f true g = inr g
    by true f false g = absurd (false≢true (sym e ∙ (has-without rest p d n ∙ (ap (λ (b : Bool). b && not (uses p d n)) f ∙ ap not g))))

pub upper_gone : (rest : List Cell) (p : Pair) → has (without rest p) (suc p.dim) p.upper ≡ false
upper_gone rest p =
    has-without rest p (suc p.dim) p.upper
    ∙ (ap (λ (b : Bool). has rest (suc p.dim) p.upper && not b) (or_right (is_cell p.dim p.lower (cell_at (suc p.dim) p.upper)) (is_cell (suc p.dim) p.upper (cell_at (suc p.dim) p.upper)) (and_from (eqb (suc p.dim) (suc p.dim)) (eqb p.upper p.upper) (eq-eqb (suc p.dim) (suc p.dim) refl) (eq-eqb p.upper p.upper refl)))
    ∙ and_false (has rest (suc p.dim) p.upper))

-- the parts of the test
pub record Free (space : List (List (List ℕ))) (rest : List Cell) (p : Pair) : Type 0 where
  pub lower : has rest p.dim p.lower ≡ true
  pub upper : has rest (suc p.dim) p.upper ≡ true
  pub facet : holds (facets_of space (suc p.dim) p.upper) p.lower ≡ true
  pub alone : (n : ℕ) → has rest (suc p.dim) n ≡ true → holds (facets_of space (suc p.dim) n) p.lower ≡ true → n ≡ p.upper

pub free_parts : (space : List (List (List ℕ))) (rest : List Cell) (p : Pair) → is_free space rest p ≡ true → Free space rest p
free_parts space rest p e =
    let a : Bool = has rest p.dim p.lower in
    let b : Bool = has rest (suc p.dim) p.upper in
    let c : Bool = has_facet space (upper_of p) (lower_of p) in
    let d : Bool = is_only space rest p in
    let f : Bool = not (list_any (λ c. has_facet space c (upper_of p)) rest) in
    let e1 = and-right a (b && (c && (d && f))) e in
    let e2 = and-right b (c && (d && f)) e1 in
    let e3 = and-right c (d && f) e2 in
    record {
      lower = and-left a (b && (c && (d && f))) e;
      upper = and-left b (c && (d && f)) e1;
      facet = and-right (eqb (suc p.dim) (suc p.dim)) (holds (facets_of space (suc p.dim) p.upper) p.lower) (and-left c (d && f) e2);
      alone = λ n h k. one n (and-left d f e3) h k;
    }
  where
    one : (n : ℕ) → is_only space rest p ≡ true → has rest (suc p.dim) n ≡ true → holds (facets_of space (suc p.dim) n) p.lower ≡ true → n ≡ p.upper
    one n e h k =
        let r = all_has (λ (c : Cell). not (has_facet space c (lower_of p)) || same c (upper_of p)) (suc p.dim) n rest e h in
        let yes : has_facet space (cell_at (suc p.dim) n) (lower_of p) ≡ true = and_from (eqb (suc p.dim) (suc p.dim)) (holds (facets_of space (suc p.dim) n) p.lower) (eq-eqb (suc p.dim) (suc p.dim) refl) k in
        let s : same (cell_at (suc p.dim) n) (upper_of p) ≡ true = sym (ap (λ (b : Bool). not b || same (cell_at (suc p.dim) n) (upper_of p)) yes) ∙ r in
        eqb-true n p.upper (and-right (eqb (suc p.dim) (suc p.dim)) (eqb n p.upper) s)

-- where a vertex alone is left no edge is
pub no_edge : (rest : List Cell) (e : ℕ) → is_point rest ≡ true → has rest 1 e ≡ false
no_edge rest e h =
    let s = any-some (λ (v : Cell). (v.dim == 0) && list_all (same v) rest) rest h in
    let p = and_parts (eqb s.0.dim 0) (list_all (same s.0) rest) s.2 in
    let zero_dim : s.0.dim ≡ 0 = eqb-true s.0.dim 0 p.0 in
    has_not 1 e rest (same s.0) p.1 (ap (λ (k : ℕ). eqb k 1 && eqb s.0.number e) zero_dim)
