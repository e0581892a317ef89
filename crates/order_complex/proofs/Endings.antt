-- The chains counted by the cells that they end in.
use Rattle.std.proofs.Common.{lit≤, ◌≡◌, ℕ, zero, suc, ◌+◌, ◌-◌, ◌*◌, ◌<◌, ◌≤◌, ◌^◌, List, [], ◌∷◌, ◌++◌, Bool, true, false, cond, map, filter, length, get_or, sum_by, All, refl, ap, sym, ◌∙◌, subst, arith}
use Rattle.std.specs.List.{flat_map}
use Rattle.std.proofs.lemmas.List.{length-map}
use Rattle.std.proofs.lemmas.List.Concat.{length-flat_map}
use Rattle.std.proofs.lemmas.List.FromFn.{get_or-map-range_with_len, length-map-range_with_len, map-range_with_len_more}
use Rattle.std.proofs.lemmas.List.Sums.{sum_by-cons, sum_by_push, sum_by-le, length-filter, count_by-le-length}
use Rattle.std.proofs.lemmas.Nat.{mul-le}
use Rattle.face_poset.specs.Words.{upto, holds}
use Rattle.face_poset.specs.Poset.{cell_count}
use Rattle.number_lists.specs.Cofaces.{IsRising}
use Rattle.number_lists.proofs.CallerLemmas.{length-upto, upto_more, members_sorted, holds-Contains, In-upto, map-In, upto-In}
use Rattle.number_lists.specs.Members.{In, here, there}
use Rattle.order_complex.specs.Chains.{all_faces, above, chains_from, chains_of}
use Rattle.order_complex.specs.Counting.{ending, IsTally}
use Rattle.order_complex.proofs.ChainBounds.{all_faces-rising}
use Rattle.order_complex.proofs.FaceIds.{faces_at, face-below, length-all_faces}
use Rattle.order_complex.proofs.Graded.{all-index}

-- ---- sums

sum_by-same : (f g : ℕ → ℕ) (xs : List ℕ) → ((x : ℕ) → In x xs → f x ≡ g x) → sum_by f xs ≡ sum_by g xs
sum_by-same f g [] e = refl
sum_by-same f g (x ∷ xs) e = rw (sum_by-cons f x xs, sum_by-cons g x xs, e x here, sum_by-same f g xs (λ y m. e y (there m))) refl

sum_by-plus : (f g : ℕ → ℕ) (xs : List ℕ) → sum_by (λ x. f x + g x) xs ≡ sum_by f xs + sum_by g xs
sum_by-plus f g [] = refl
sum_by-plus f g (x ∷ xs) = rw (sum_by-cons (λ y. f y + g y) x xs, sum_by-cons f x xs, sum_by-cons g x xs, sum_by-plus f g xs) (omega arith)

sum_by-none : (xs : List ℕ) → sum_by (λ x. 0) xs ≡ 0
sum_by-none [] = refl
sum_by-none (x ∷ xs) = sum_by-cons (λ y. 0) x xs ∙ omega (arith, sum_by-none xs)

sum_by-one : (xs : List ℕ) → sum_by (λ x. 1) xs ≡ length xs
sum_by-one [] = refl
sum_by-one (x ∷ xs) = sum_by-cons (λ y. 1) x xs ∙ omega (arith, sum_by-one xs)

sum_by-times : (n : ℕ) (f : ℕ → ℕ) (xs : List ℕ) → sum_by (λ x. n * f x) xs ≡ n * sum_by f xs
sum_by-times n f [] = omega arith
sum_by-times n f (x ∷ xs) = rw (sum_by-cons (λ y. n * f y) x xs, sum_by-cons f x xs, sum_by-times n f xs) (omega arith)

sum_by-swap : (f : ℕ → ℕ → ℕ) (xs ys : List ℕ) → sum_by (λ x. sum_by (f x) ys) xs ≡ sum_by (λ y. sum_by (λ x. f x y) xs) ys
sum_by-swap f [] ys = sym (sum_by-none ys)
sum_by-swap f (x ∷ xs) ys =
    sum_by-cons (λ z. sum_by (f z) ys) x xs
    ∙ ap (λ n. sum_by (f x) ys + n) (sum_by-swap f xs ys)
    ∙ sym (sum_by-plus (f x) (λ y. sum_by (λ z. f z y) xs) ys)
    ∙ sum_by-same (λ y. f x y + sum_by (λ z. f z y) xs) (λ y. sum_by (λ z. f z y) (x ∷ xs)) ys (λ y m. sym (sum_by-cons (λ z. f z y) x xs))

sum_by-filter : (p : ℕ → Bool) (f : ℕ → ℕ) (xs : List ℕ) → sum_by f (filter p xs) ≡ sum_by (λ x. cond (p x) (f x) 0) xs
sum_by-filter p f [] = refl
sum_by-filter p f (x ∷ xs) = by_test (p x) ∙ ap (λ n. cond (p x) (f x) 0 + n) (sum_by-filter p f xs) ∙ sym (sum_by-cons (λ y. cond (p y) (f y) 0) x xs)
  where
    by_test : (b : Bool) → sum_by f (cond b (x ∷ filter p xs) (filter p xs)) ≡ cond b (f x) 0 + sum_by f (filter p xs)
    by_test true = sum_by-cons f x (filter p xs)
    by_test false = omega arith

cond-swap : (b : Bool) (m n : ℕ) → m * cond b n 0 ≡ n * cond b m 0
cond-swap true m n = omega arith
cond-swap false m n = omega arith

-- so many cells of so many faces each
abbrev pub most : ℕ → ℕ
most zero = 1
most (suc more) = 60000 * most more

module _ (space : List (List (List ℕ))) where
  abbrev faces : List (List ℕ)
  faces = all_faces space

  abbrev cells : List ℕ
  cells = upto (length (all_faces space))

  rising : (b : ℕ) → In b (upto (length (all_faces space))) → IsRising (cell_count space) (faces_at space b)
  rising b m = let r = upto-In (length faces) b m in all_faces-rising space (b - 1) [] (omega arith)

  -- the faces of a cell are those of all cells that are in their list
  faces-filter : (b : ℕ) → In b (upto (length (all_faces space))) → faces_at space b ≡ filter (holds (faces_at space b)) (upto (length (all_faces space)))
  faces-filter b m =
      members_sorted (faces_at space b) (holds (faces_at space b)) (length faces) (rising b m).rises (λ n. refl)
      (λ n h. let c = holds-Contains (faces_at space b) n h in
      let w : (1 ≤ get_or (faces_at space b) c.0 n) × (get_or (faces_at space b) c.0 n ≤ cell_count space) = (rising b m).within c.0 n c.1 in
      (omega (arith, w.0, c.2), omega (arith, w.1, c.2, length-all_faces space)))

  -- each pair of a cell and a face of it, by the face and by the cell
  both-ways : (x y : ℕ → ℕ) → sum_by (λ c. x c * sum_by y (above (all_faces space) c)) (upto (length (all_faces space))) ≡ sum_by (λ b. y b * sum_by x (faces_at space b)) (upto (length (all_faces space)))
  both-ways x y =
      sum_by-same (λ c. x c * sum_by y (above faces c)) (λ c. sum_by (λ b. x c * cond (holds (faces_at space b) c) (y b) 0) cells) cells
      (λ c m. ap (λ n. x c * n) (sum_by-filter (λ b. holds (faces_at space b) c) y cells) ∙ sym (sum_by-times (x c) (λ b. cond (holds (faces_at space b) c) (y b) 0) cells))
      ∙ sum_by-swap (λ c b. x c * cond (holds (faces_at space b) c) (y b) 0) cells cells
      ∙ sum_by-same (λ b. sum_by (λ c. x c * cond (holds (faces_at space b) c) (y b) 0) cells) (λ b. y b * sum_by x (faces_at space b)) cells
      (λ b m. sum_by-same (λ c. x c * cond (holds (faces_at space b) c) (y b) 0) (λ c. y b * cond (holds (faces_at space b) c) (x c) 0) cells (λ c k. cond-swap (holds (faces_at space b) c) (x c) (y b))
      ∙ sum_by-times (y b) (λ c. cond (holds (faces_at space b) c) (x c) 0) cells
      ∙ ap (λ n. y b * n) (sym (sum_by-filter (holds (faces_at space b)) x cells) ∙ ap (sum_by x) (sym (faces-filter b m))))

  -- chains with a cell at a place, by what ends there and what begins there
  crossed : (below more : ℕ) → sum_by (λ c. ending (all_faces space) below c * length (chains_from (all_faces space) more c)) (upto (length (all_faces space))) ≡ sum_by (ending (all_faces space) (below + more)) (upto (length (all_faces space)))
  crossed below zero =
      sum_by-same (λ c. ending faces below c * 1) (ending faces below) cells (λ c m. omega arith) ∙ ap (λ n. sum_by (ending faces n) cells) (omega arith)
  crossed below (suc more) =
      sum_by-same (λ c. ending faces below c * length (chains_from faces (suc more) c)) (λ c. ending faces below c * sum_by (λ b. length (chains_from faces more b)) (above faces c)) cells
      (λ c m. ap (λ n. ending faces below c * n) (length-map (flat_map (chains_from faces more) (above faces c)) (λ chain. c ∷ chain) ∙ length-flat_map (chains_from faces more) (above faces c)))
      ∙ both-ways (ending faces below) (λ b. length (chains_from faces more b))
      ∙ sum_by-same (λ b. length (chains_from faces more b) * ending faces (suc below) b) (λ b. ending faces (suc below) b * length (chains_from faces more b)) cells (λ b m. omega arith)
      ∙ crossed (suc below) more
      ∙ ap (λ n. sum_by (ending faces n) cells) (omega arith)

  -- the chains of a degree, by the cells that they end in
  pub ending-all : (degree : ℕ) → sum_by (ending (all_faces space) degree) (upto (cell_count space)) ≡ length (chains_of space degree)
  ending-all degree =
      ap (λ n. sum_by (ending faces degree) (upto n)) (sym (length-all_faces space))
      ∙ ap (λ n. sum_by (ending faces n) cells) (let z : degree ≡ 0 + degree = omega arith in z)
      ∙ sym (crossed 0 degree)
      ∙ sum_by-same (λ c. 1 * length (chains_from faces degree c)) (λ c. length (chains_from faces degree c)) cells (λ c m. omega arith)
      ∙ sym (length-flat_map (chains_from faces degree) cells)

  -- ---- bounds

  few-faces : (b : ℕ) → In b (upto (length (all_faces space))) → length (faces_at space b) ≤ cell_count space
  few-faces b m =
      omega (arith, ap (λ (xs : List ℕ). length xs) (faces-filter b m), length-filter (holds (faces_at space b)) cells, count_by-le-length (holds (faces_at space b)) cells, length-upto (length faces), length-all_faces space)

  ending-bound : (more c : ℕ) → cell_count space ≤ 60000 → In c (upto (length (all_faces space))) → ending (all_faces space) more c ≤ most more
  ending-bound zero c few m = omega arith
  ending-bound (suc more) c few m =
      let fs : List ℕ = faces_at space c in
      let sum : sum_by (ending faces more) fs ≤ length fs * most more = sum_by-le (ending faces more) (most more) fs (λ i d l. ending-bound more (get_or fs i d) few (inside i d l)) in
      omega (arith, sum, mul-le (length fs) (most more) 60000 (most more) (let n = few-faces c m in omega (arith, n)) (omega arith))
    where
      inside : (i d : ℕ) → i < length (faces_at space c) → In (get_or (faces_at space c) i d) (upto (length (all_faces space)))
      inside i d l =
          let w : (1 ≤ get_or (faces_at space c) i d) × (get_or (faces_at space c) i d ≤ cell_count space) = (rising c m).within i d l in
          In-upto (length (all_faces space)) (get_or (faces_at space c) i d) w.0 (omega (arith, w.1, length-all_faces space))

  total-bound : (more n : ℕ) → cell_count space ≤ 60000 → n ≤ cell_count space → sum_by (ending (all_faces space) more) (upto n) ≤ 60000 * most more
  total-bound more n few l =
      let sum : sum_by (ending faces more) (upto n) ≤ length (upto n) * most more =
      sum_by-le (ending faces more) (most more) (upto n) (all-index (λ c. ending faces more c ≤ most more) (upto n)
      (λ c m. let r = upto-In n c m in ending-bound more c few (In-upto (length faces) c r.0 (omega (arith, r.1, l, length-all_faces space))))) in
      omega (arith, sum, mul-le (length (upto n)) (most more) 60000 (most more) (omega (arith, length-upto n)) (omega arith))

  -- ---- one cell more

  -- what the counts of the first n cells give for the next one
  pub record TallyMore (n : ℕ) (faces pairs triples : List ℕ) (edges triangles tetrahedra p q r : ℕ) : Type 0 where
    pub next : IsTally space (n + 1) (pairs ++ p ∷ []) (triples ++ q ∷ []) (edges + p) (triangles + q) (tetrahedra + r)
    pub edges_small : edges + p ≤ 3600000000
    pub triangles_small : triangles + q ≤ 216000000000000
    pub tetrahedra_small : tetrahedra + r ≤ 12960000000000000000

  -- the sum of the counts of the faces
  sum-counts : (more n : ℕ) (counts : List ℕ) → n < cell_count space → counts ≡ map (ending (all_faces space) more) (upto n)
      → sum_by (λ c. get_or counts (c - 1) 0) (faces_at space (n + 1)) ≡ ending (all_faces space) (suc more) (n + 1)
  sum-counts more n counts l e =
      sum_by-same (λ c. get_or counts (c - 1) 0) (ending faces more) (faces_at space (n + 1))
      (λ c m. let b = face-below space c (n + 1) (omega arith) (omega arith) m in
      ap (λ (xs : List ℕ). get_or xs (c - 1) 0) e ∙ get_or-map-range_with_len (ending faces more) 1 n (c - 1) c 0 (omega (arith, b.0, b.1)) (omega (arith, b.0)))

  -- what the counting of the faces of a cell asks for
  pub record Countable (n : ℕ) (faces counts : List ℕ) : Type 0 where
    pub within : All (λ cell. (1 ≤ cell) × (cell ≤ length counts)) faces
    pub small : All (λ m. m ≤ 3600000000) counts
    pub few : length faces ≤ 60000

  pub countable : (more n : ℕ) (fs counts : List ℕ) → more ≤ 2 → n < cell_count space → cell_count space ≤ 60000 → fs ≡ faces_at space (n + 1) → counts ≡ map (ending (all_faces space) more) (upto n) → Countable n fs counts
  countable more n fs counts low l few f e = record {
    within = all-index (λ cell. (1 ≤ cell) × (cell ≤ length counts)) fs
        (λ c m. let b = face-below space c (n + 1) (omega arith) (omega arith) (subst (In c) f m) in
        (b.0, omega (arith, b.1, ap (λ (xs : List ℕ). length xs) e, length-map-range_with_len (ending faces more) 1 n)));
    small = subst (All (λ m. m ≤ 3600000000)) (sym e) (all-index (λ m. m ≤ 3600000000) (map (ending faces more) (upto n))
        (λ m k. let r = map-In (ending faces more) (upto n) k in
        let b = upto-In n r.0 r.1 in
        let bound = ending-bound more r.0 few (In-upto (length faces) r.0 b.0 (omega (arith, b.1, l, length-all_faces space))) in
        omega (arith, r.2, bound, most-small more low)));
    few = let n' : length (faces_at space (n + 1)) ≤ cell_count space = few-faces (n + 1) (In-upto (length faces) (n + 1) (omega arith) (omega (arith, l, length-all_faces space))) in
        omega (arith, ap (λ (xs : List ℕ). length xs) f, n');
  }
    where
      most-small : (more : ℕ) → more ≤ 2 → most more ≤ 3600000000
      most-small zero k = lit≤ tt
      most-small (suc zero) k = lit≤ tt
      most-small (suc (suc zero)) k = lit≤ tt
      most-small (suc (suc (suc more))) k = absurd (omega arith)

  pub tally-more : (n : ℕ) (fs pairs triples : List ℕ) (edges triangles tetrahedra p q r : ℕ) → n < cell_count space → cell_count space ≤ 60000 → IsTally space n pairs triples edges triangles tetrahedra
      → fs ≡ faces_at space (n + 1) → p ≡ length fs → q ≡ sum_by (λ c. get_or pairs (c - 1) 0) fs → r ≡ sum_by (λ c. get_or triples (c - 1) 0) fs
      → TallyMore n fs pairs triples edges triangles tetrahedra p q r
  tally-more n fs pairs triples edges triangles tetrahedra p q r l few h f hp hq hr =
      let one : p ≡ ending faces 1 (n + 1) = hp ∙ ap (λ (xs : List ℕ). length xs) f ∙ sym (sum_by-one (faces_at space (n + 1))) in
      let two : q ≡ ending faces 2 (n + 1) = hq ∙ ap (sum_by (λ c. get_or pairs (c - 1) 0)) f ∙ sum-counts 1 n pairs l h.pairs_are in
      let three : r ≡ ending faces 3 (n + 1) = hr ∙ ap (sum_by (λ c. get_or triples (c - 1) 0)) f ∙ sum-counts 2 n triples l h.triples_are in
      let edges_next : edges + p ≡ sum_by (ending faces 1) (upto (n + 1)) = more-sum 1 edges p h.edges_are one in
      let triangles_next : triangles + q ≡ sum_by (ending faces 2) (upto (n + 1)) = more-sum 2 triangles q h.triangles_are two in
      let tetrahedra_next : tetrahedra + r ≡ sum_by (ending faces 3) (upto (n + 1)) = more-sum 3 tetrahedra r h.tetrahedra_are three in
      record {
        next = record {
          pairs_are = more-list 1 pairs p h.pairs_are one;
          triples_are = more-list 2 triples q h.triples_are two;
          edges_are = edges_next;
          triangles_are = triangles_next;
          tetrahedra_are = tetrahedra_next;
        };
        edges_small = subst (λ k. k ≤ 3600000000) (sym edges_next) (total-bound 1 (n + 1) few (omega arith));
        triangles_small = subst (λ k. k ≤ 216000000000000) (sym triangles_next) (total-bound 2 (n + 1) few (omega arith));
        tetrahedra_small = subst (λ k. k ≤ 12960000000000000000) (sym tetrahedra_next) (total-bound 3 (n + 1) few (omega arith));
      }
    where
      more-list : (more : ℕ) (counts : List ℕ) (k : ℕ) → counts ≡ map (ending (all_faces space) more) (upto n) → k ≡ ending (all_faces space) more (n + 1) → counts ++ k ∷ [] ≡ map (ending (all_faces space) more) (upto (n + 1))
      more-list more counts k e g =
          ap (λ xs. xs ++ k ∷ []) e ∙ ap (λ m. map (ending faces more) (upto n) ++ m ∷ []) g ∙ sym (map-range_with_len_more (ending faces more) 1 n (n + 1) (omega arith))

      more-sum : (more total k : ℕ) → total ≡ sum_by (ending (all_faces space) more) (upto n) → k ≡ ending (all_faces space) more (n + 1) → total + k ≡ sum_by (ending (all_faces space) more) (upto (n + 1))
      more-sum more total k e g =
          ap (λ t. t + k) e ∙ ap (λ t. sum_by (ending faces more) (upto n) + t) g ∙ sym (ap (sum_by (ending faces more)) (upto_more n) ∙ sum_by_push (ending faces more) (upto n) (n + 1))

  -- ---- all cells

  pub none-counted : IsTally space 0 [] [] 0 0 0
  none-counted = record { pairs_are = refl; triples_are = refl; edges_are = refl; triangles_are = refl; tetrahedra_are = refl }

  pub record AllCounted (pairs : List ℕ) (edges triangles tetrahedra : ℕ) : Type 0 where
    pub points : length pairs ≡ length (chains_of space 0)
    pub edges_are : edges ≡ length (chains_of space 1)
    pub triangles_are : triangles ≡ length (chains_of space 2)
    pub tetrahedra_are : tetrahedra ≡ length (chains_of space 3)
    pub small : length pairs + edges + triangles + tetrahedra < 2 ^ 64

  pub all-counted : (pairs triples : List ℕ) (edges triangles tetrahedra : ℕ) → cell_count space ≤ 60000 → IsTally space (cell_count space) pairs triples edges triangles tetrahedra → AllCounted pairs edges triangles tetrahedra
  all-counted pairs triples edges triangles tetrahedra few h =
      let long : length pairs ≡ cell_count space = ap (λ (xs : List ℕ). length xs) h.pairs_are ∙ length-map-range_with_len (ending faces 1) 1 (cell_count space) in
      let one = total-bound 1 (cell_count space) few (omega arith) in
      let two = total-bound 2 (cell_count space) few (omega arith) in
      let three = total-bound 3 (cell_count space) few (omega arith) in
      record {
        points = long ∙ sym (length-upto (cell_count space)) ∙ sym (sum_by-one (upto (cell_count space))) ∙ ending-all 0;
        edges_are = h.edges_are ∙ ending-all 1;
        triangles_are = h.triangles_are ∙ ending-all 2;
        tetrahedra_are = h.tetrahedra_are ∙ ending-all 3;
        small = omega (arith, long, h.edges_are, h.triangles_are, h.tetrahedra_are, one, two, three);
      }
