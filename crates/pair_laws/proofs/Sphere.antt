-- A tree of 2-cells and a tree of vertices of a sphere.
use Rattle.std.proofs.Common.{◌≡◌, ℕ, ◌+◌, ◌≤◌, List, [], ◌∷◌, length, map, refl, ap, arith, sym, Bool, true, false, cond, ◌||◌, ◌⊎◌, inl, inr}
use Rattle.std.specs.Prelude.{filter, ◌==◌, not}
use Rattle.std.proofs.lemmas.Bool.{eqb-true, eq-eqb, not-true, or_right, or_cases}
use Rattle.std.proofs.lemmas.List.{length-map}
use Rattle.number_lists.specs.Members.{In, here, there}
use Rattle.number_lists.specs.Words.{holds}
use Rattle.number_lists.proofs.CallerLemmas.{and-left, and-right, In-filter, filter-In, In-inside, any-In, any-some, In-all, In-map, map-In, holds-In, In-holds}
use Rattle.pair_laws.specs.Joins.{Joins, stay, forth}
use Rattle.pair_laws.specs.Tree.{Link, Grown, at_end, at_start, distinct, HasTree}
use Rattle.pair_laws.specs.Ranks.{others, is_lower, comes_before, ordered}
use Rattle.pair_laws.specs.Sphere.{swap, DualOrdered, IsSphere, HasTrees, SphereHasTrees}
use Rattle.pair_laws.proofs.Lists.{filter-less, not_yet, clash}
use Rattle.pair_laws.proofs.Joins.{joins-through}
use Rattle.pair_laws.proofs.Tree.{ends_taken, grown_distinct, all_of, tree_exists}
use Rattle.pair_laws.proofs.Sections.{all-flat}

-- ---- the tree of 2-cells is in order

module _ (F : ℕ → List ℕ) (A B : ℕ → ℕ) (root : ℕ) (two : (c e : ℕ) → In e (F c) → (A e == c) || (B e == c) ≡ true) where
  dual-before : (p : Link) (ps : List Link) (ns : List ℕ) → Grown A B root ps ns → holds ns p.lower ≡ false → comes_before F (swap p) (map swap ps) ≡ true
  dual-before p ps ns g f = In-all _ (others F (swap p)) (λ e i. not_yet (is_lower (map swap ps) e) (λ h. none e (In-inside (λ x. not (x == p.upper)) (F p.lower) i) h))
    where
      none : (e : ℕ) → In e (F p.lower) → is_lower (map swap ps) e ≡ true → ⊥
      none e i h =
          let s = any-some (λ q. q.lower == e) (map swap ps) h in
          let t = map-In swap ps s.1 in
          let n = ends_taken ns g t.0 t.1 in
          let x : t.0.upper ≡ e = eqb-true t.0.upper e (rw t.2 at s.2) in
          elim (or_cases (A e == p.lower) (B e == p.lower) (two p.lower e i)) [ inl y ↦ clash ns p.lower f (rw (x, eqb-true (A e) p.lower y) at n.0) | inr y ↦ clash ns p.lower f (rw (x, eqb-true (B e) p.lower y) at n.1) ]

  dual-ordered : (ps : List Link) (ns : List ℕ) → Grown A B root ps ns → ordered F (map swap ps) ≡ true
  dual-ordered [] ns h = refl
  dual-ordered (p ∷ ps) [] h = elim h [ ]
  dual-ordered (p ∷ ps) (n ∷ ns) (at_end q g e f t) = rw (dual-before p ps ns g f) (dual-ordered ps ns g)
  dual-ordered (p ∷ ps) (n ∷ ns) (at_start q g e f t) = rw (dual-before p ps ns g f) (dual-ordered ps ns g)

pub dual_ordered : DualOrdered
dual_ordered F A B root ps ns two h = dual-ordered F A B root two ps ns h

-- ---- the two trees

eq_sym : (a b : ℕ) → (a == b) ≡ (b == a)
eq_sym a b = by (a == b) (b == a) refl refl
  where
    by : (x y : Bool) → (a == b) ≡ x → (b == a) ≡ y → (a == b) ≡ (b == a)
    by true true e k = rw (e, k) refl
    by true false e k = absurd (grind (arith, k, eq-eqb b a (sym (eqb-true a b e))))
    by false true e k = absurd (grind (arith, e, eq-eqb a b (sym (eqb-true b a k))))
    by false false e k = rw (e, k) refl

filter-twice : (x : ℕ) (ds xs : List ℕ) → filter (λ e. not (holds (x ∷ ds) e)) xs ≡ filter (λ e. not (holds ds e)) (filter (λ e. not (e == x)) xs)
filter-twice x ds [] = refl
filter-twice x ds (y ∷ xs) = rw (eq_sym x y) (by (y == x) (holds ds y) refl refl (filter-twice x ds xs))
  where
    by : (a b : Bool) → (y == x) ≡ a → holds ds y ≡ b → filter (λ e. not (holds (x ∷ ds) e)) xs ≡ filter (λ e. not (holds ds e)) (filter (λ e. not (e == x)) xs)
        → cond (not ((y == x) || holds ds y)) (y ∷ filter (λ e. not (holds (x ∷ ds) e)) xs) (filter (λ e. not (holds (x ∷ ds) e)) xs) ≡ filter (λ e. not (holds ds e)) (cond (not (y == x)) (y ∷ filter (λ e. not (e == x)) xs) (filter (λ e. not (e == x)) xs))
    by true b e k h = rw e h
    by false true e k h = rw (e, k) h
    by false false e k h = rw (e, k) (ap (λ l. y ∷ l) h)

left_over : (ds xs : List ℕ) → distinct ds ≡ true → ((d : ℕ) → In d ds → In d xs) → length (filter (λ e. not (holds ds e)) xs) + length ds ≤ length xs
left_over [] xs d i = rw (all_kept xs) (omega arith)
  where
    all_kept : (xs : List ℕ) → filter (λ e. true) xs ≡ xs
    all_kept [] = refl
    all_kept (x ∷ xs) = ap (λ l. x ∷ l) (all_kept xs)
left_over (x ∷ ds) xs d i =
    let h = left_over ds (filter (λ e. not (e == x)) xs) (and-right _ _ d) (λ y j. In-filter (λ e. not (e == x)) (i y (there j)) (differs y j (y == x) refl)) in
    rw (filter-twice x ds xs) (omega (arith, h, filter-less (λ e. not (e == x)) xs (i x here) (rw (eq-eqb x x refl) refl)))
  where
    differs : (y : ℕ) → In y ds → (b : Bool) → (y == x) ≡ b → not (y == x) ≡ true
    differs y j true e = absurd (clash ds x (not-true (holds ds x) (and-left (not (holds ds x)) _ d)) (rw (eqb-true y x e) at (In-holds j)))
    differs y j false e = rw e refl

pair_end : {A B : ℕ → ℕ} {root : ℕ} (ps : List Link) (ns : List ℕ) → Grown A B root ps ns → (p : Link) → In p ps → (A p.upper ≡ p.lower) ⊎ (B p.upper ≡ p.lower)
pair_end [] ns g p i = elim i [ ]
pair_end (q ∷ ps) [] h p i = elim h [ ]
pair_end (q ∷ ps) (n ∷ ns) (at_end r g e f t) p here = inl e
pair_end (q ∷ ps) (n ∷ ns) (at_end r g e f t) p (there i) = pair_end ps ns g p i
pair_end (q ∷ ps) (n ∷ ns) (at_start r g e f t) p here = inr e
pair_end (q ∷ ps) (n ∷ ns) (at_start r g e f t) p (there i) = pair_end ps ns g p i

uppers_length : (ps : List Link) → length (map (λ (p : Link). p.upper) ps) ≡ length ps
uppers_length ps = length-map ps (λ (p : Link). p.upper)

module _ (vs es cs : List ℕ) (A B L R : ℕ → ℕ) (F : ℕ → List ℕ) (b v : ℕ) (S : IsSphere vs es cs A B L R F) (b_in : In b cs) (v_in : In v vs) where
  dual : HasTree L R b cs es
  dual = tree_exists L R b cs es S.cells_once b_in S.sides (λ c i. S.together b c b_in i)

  ds : List ℕ
  ds = map (λ p. p.upper) dual.pairs

  rest : List ℕ
  rest = filter (λ e. not (holds ds e)) es

  order : ordered F (map swap dual.pairs) ≡ true
  order = dual_ordered F L R b dual.pairs dual.taken S.two dual.grown

  in_rest : (e : ℕ) → In e es → holds ds e ≡ false → In e rest
  unfolding rest
  in_rest e i k = In-filter (λ e. not (holds ds e)) i (rw k refl)

  inside_rest : (e : ℕ) → In e rest → In e es
  unfolding rest
  inside_rest e i = In-inside (λ e. not (holds ds e)) es i

  Spans : ℕ → Type 0
  Spans e = Joins A B (holds rest) (A e) (B e)

  spans_rest : (e : ℕ) → In e es → holds ds e ≡ false → Spans e
  unfolding Spans
  spans_rest e i k = forth e (In-holds (in_rest e i k)) stay

  cell_of : (p : Link) → In p dual.pairs → In p.lower cs × In p.upper (F p.lower)
  cell_of p i = elim (pair_end dual.pairs dual.taken dual.grown p i) [
    | inl e ↦ (rw e at ((S.sides p.upper (dual.within p i)).0), rw e at ((S.has p.upper (dual.within p i)).0))
    | inr e ↦ (rw e at ((S.sides p.upper (dual.within p i)).1), rw e at ((S.has p.upper (dual.within p i)).1))
  ]

  swapped : (q : Link) → In q (map swap dual.pairs) → In q.upper cs × In q.lower (F q.upper)
  swapped q i = let r = map-In swap dual.pairs i in rw r.2 (cell_of r.0 r.1)

  lower_of : (e : ℕ) → holds ds e ≡ true → is_lower (map swap dual.pairs) e ≡ true
  unfolding ds
  lower_of e h = let r = map-In (λ p. p.upper) dual.pairs (holds-In ds h) in any-In (λ q. q.lower == e) (In-map swap r.1) (eq-eqb r.0.upper e (sym r.2))

  spans_dual : (q : Link) → In q (map swap dual.pairs) → Spans q.lower
  unfolding Spans
  spans_dual = all-flat F (λ e. Joins A B (holds rest) (A e) (B e)) (map swap dual.pairs)
      (λ q i h. joins-through A B (λ g o. h g (holds-In (others F q) o)) (S.opens q.upper q.lower (swapped q i).0 (swapped q i).1))
      order
      (λ q g i j n. spans_rest g (S.edges q.upper g (swapped q i).0 (In-inside (λ x. not (x == q.lower)) (F q.upper) j)) (none g (holds ds g) refl n))
    where
      none : (g : ℕ) (c : Bool) → holds ds g ≡ c → is_lower (map swap dual.pairs) g ≡ false → holds ds g ≡ false
      none g true e n = absurd (grind (arith, n, lower_of g e))
      none g false e n = e

  spans : (e : ℕ) → In e es → Spans e
  unfolding ds Spans
  spans e i = by (holds ds e) refl
    where
      by : (c : Bool) → holds ds e ≡ c → Joins A B (holds rest) (A e) (B e)
      by false k = spans_rest e i k
      by true k = let r = map-In (λ p. p.upper) dual.pairs (holds-In ds k) in rw r.2 (spans_dual (swap r.0) (In-map swap r.1))

  primal : HasTree A B v vs rest
  unfolding Spans
  primal = tree_exists A B v vs rest S.vertices_once v_in (λ e i. S.ends e (inside_rest e i)) (λ n i. joins-through A B (λ e o. spans e (holds-In es o)) (S.joined v n v_in i))

  few : length rest ≤ length (map (λ p. p.upper) primal.pairs)
  unfolding rest ds
  few = omega (arith, left_over ds es (grown_distinct L R b dual.pairs dual.taken dual.grown) (λ d i. let r = map-In (λ p. p.upper) dual.pairs i in rw r.2 (dual.within r.0 r.1)), uppers_length dual.pairs, uppers_length primal.pairs, dual.number, primal.number, S.number)

  rest_used : (e : ℕ) → In e rest → holds (map (λ p. p.upper) primal.pairs) e ≡ true
  rest_used e i = all_of (map (λ p. p.upper) primal.pairs) rest (grown_distinct A B v primal.pairs primal.taken primal.grown)
      (In-all (λ x. holds rest x) (map (λ p. p.upper) primal.pairs) (λ x j. let r = map-In (λ p. p.upper) primal.pairs j in rw r.2 (In-holds (primal.within r.0 r.1)))) few e i

  trees : HasTrees vs es cs A B L R F b v
  unfolding ds rest
  trees = record {
    cells = dual;
    vertices = record { pairs = primal.pairs; taken = primal.taken; grown = primal.grown; all = primal.all; within = λ p i. inside_rest p.upper (primal.within p i); number = primal.number };
    in_order = order;
    new = λ p i. not-true (holds ds p.upper) (filter-In (λ e. not (holds ds e)) es (primal.within p i));
    either = λ e i. by e i (holds ds e) refl;
  }
    where
      by : (e : ℕ) → In e es → (c : Bool) → holds ds e ≡ c → holds (map (λ p. p.upper) primal.pairs) e || holds (map (λ p. p.upper) dual.pairs) e ≡ true
      by e i true k = or_right _ _ k
      by e i false k = rw (rest_used e (in_rest e i k)) refl

pub sphere_has_trees : SphereHasTrees
sphere_has_trees vs es cs A B L R F b v S b_in v_in = trees vs es cs A B L R F b v S b_in v_in
