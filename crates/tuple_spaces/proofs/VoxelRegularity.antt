-- Spaces of voxels are regular: a cell with its faces is a part of a cube, moved.
use Rattle.std.proofs.Common.{◌≡◌, ℕ, ◌+◌, ◌≤◌, List, Bool, true, false, cond, nat_lt, filter, filter, length, map, Result, Ok, Err, refl, ap, sym, ◌∙◌, subst, arith}
use Rattle.std.specs.List.{list_any, list_all, flat_map, items_where_true}
use Rattle.std.proofs.lemmas.Bool.Decides.{nat_tests}
use Rattle.array_values.specs.Value.{Value}
use Rattle.array_values.specs.declared.fault.ArrayFault.{ArrayFault}
use Rattle.array_values.specs.declared.fault.ArrayFault.TheVariants.{TooManyCells, BadDimension, Empty}
use Rattle.array_values.specs.Answers.{and_then}
use Rattle.array_values.specs.Bits.{Bits, array_of, sizes_of, bits_of, is_allowed}
use Rattle.array_values.proofs.CallerLemmas.{both_ok}
use Rattle.regular_check.specs.Rules.{IsRegular}
use Rattle.tuple_spaces.specs.Tuples.{same, dim_of, space_of, boxed}
use Rattle.tuple_spaces.proofs.OddCoordinates.{same-eq, eq-same}
use Rattle.tuple_spaces.proofs.ListLemmas.{where-In}
use Rattle.number_lists.specs.Members.{In}
use Rattle.number_lists.proofs.CallerLemmas.{In-filter, filter-In, any-In, any-some, flat_map-In, In-flat_map, map-In, distinct-filter, all-In, In-all, In-inside}
use Rattle.tuple_spaces.proofs.TupleSpaces.{IsTupleSpace, IsMoving, regular_by_copies}
use Rattle.tuple_spaces.specs.Voxels.{voxel, faces, facets, limits_of, cells_of, limited, voxel_space, cubical_of}
use Rattle.tuple_spaces.specs.VoxelLaws.{lies_in}
use Rattle.tuple_spaces.proofs.Boxes.{Within, boxed-within, within-boxed, distinct-boxed, lies-within, within-lies}
use Rattle.tuple_spaces.proofs.VoxelCubes.{threes, threes_regular, threes_few}
use Rattle.tuple_spaces.proofs.VoxelShifts.{facet_of, some_facet, shift, shift-within, shift-dim, shift-once, shift-facets, face-moved, moved-face}

-- the tuples of a cube are the cells of a space
cube_space : (sizes : List ℕ) → length sizes ≤ 3 → IsTupleSpace facets (boxed (threes sizes))
cube_space sizes l =
    record {
      distinct = distinct-boxed (threes sizes);
      closed = λ t u i j. (let r = facet_of sizes t u (boxed-within (threes sizes) t i) j in (within-boxed r.0, r.1));
      some = λ t i m. some_facet t m;
      few = threes_few sizes l;
    }

module _ (sizes : List ℕ) (indices : List (List ℕ)) (inside : list_all (lies_in sizes) indices ≡ true) where
  -- a cell is a tuple of the cube, moved to one of the voxels
  record IsFace (t index u : List ℕ) : Type 0 where
    pub chosen : In index indices
    pub within : Within sizes index
    pub small : Within (threes sizes) u
    pub is : t ≡ shift index u

  index-within : (index : List ℕ) → In index indices → Within sizes index
  index-within index i = lies-within sizes index (all-In (lies_in sizes) inside i)

  face_in : (t index : List ℕ) → In index indices → In t (faces (voxel index)) → (u : List ℕ) × IsFace t index u
  face_in t index i j =
      let w : Within sizes index = index-within index i in
      let m = face-moved sizes index t w j in
      (m.0, record { chosen = i; within = w; small = m.1.small; is = m.1.is })

  face_of : (t : List ℕ) → In t (cells_of sizes indices) → (index : List ℕ) × ((u : List ℕ) × IsFace t index u)
  face_of t i =
      let s = any-some (same t) (flat_map (λ n. faces (voxel n)) indices) (filter-In (λ v. list_any (same v) (flat_map (λ n. faces (voxel n)) indices)) (boxed (limits_of sizes)) i) in
      let r = flat_map-In (λ n. faces (voxel n)) indices s.1 in
      (r.0, face_in t r.0 r.1 (subst (λ (v : List ℕ). In v (faces (voxel r.0))) (sym (same-eq t s.0 s.2)) r.2))

  cell_at : (index u : List ℕ) → In index indices → Within sizes index → Within (threes sizes) u → In (shift index u) (cells_of sizes indices)
  cell_at index u i w k =
      In-filter (λ v. list_any (same v) (flat_map (λ n. faces (voxel n)) indices)) (within-boxed (shift-within u w k))
      (any-In (same (shift index u)) (In-flat_map (λ n. faces (voxel n)) i (moved-face sizes index u w k)) (eq-same (shift index u)))

  moving : (index : List ℕ) → In index indices → Within sizes index → IsMoving facets (boxed (threes sizes)) facets (cells_of sizes indices) (shift index)
  moving index i w = record {
    into = λ t j. cell_at index t i w (boxed-within (threes sizes) t j);
    dim = λ t j. shift-dim t w (boxed-within (threes sizes) t j);
    once = λ t u j k e. shift-once t u w (boxed-within (threes sizes) t j) (boxed-within (threes sizes) u k) e;
    facets_are = λ t j. shift-facets t w (boxed-within (threes sizes) t j);
  }

  -- a facet of a cell is a cell
  facet_cell : (t u : List ℕ) → In t (cells_of sizes indices) → In u (facets t) → In u (cells_of sizes indices) × (dim_of u + 1 ≡ dim_of t)
  facet_cell t u i j =
      let f = face_of t i in
      let k : In u (map (shift f.0) (facets f.1.0)) = subst (In u) (shift-facets f.1.0 f.1.1.within f.1.1.small) (subst (λ (s : List ℕ). In u (facets s)) f.1.1.is j) in
      let m = map-In (shift f.0) (facets f.1.0) k in
      let n = facet_of sizes f.1.0 m.0 f.1.1.small m.1 in
      let e : dim_of u ≡ dim_of m.0 = ap dim_of m.2 ∙ shift-dim m.0 f.1.1.within n.0 in
      let g : dim_of t ≡ dim_of f.1.0 = ap dim_of f.1.1.is ∙ shift-dim f.1.0 f.1.1.within f.1.1.small in
      (subst (λ (s : List ℕ). In s (cells_of sizes indices)) (sym m.2) (cell_at f.0 m.0 f.1.1.chosen f.1.1.within n.0), omega (arith, e, g, n.1))

  voxel_cells : length (cells_of sizes indices) ≤ 60000 → IsTupleSpace facets (cells_of sizes indices)
  voxel_cells few =
      record {
        distinct = distinct-filter (λ v. list_any (same v) (flat_map (λ n. faces (voxel n)) indices)) (distinct-boxed (limits_of sizes));
        closed = facet_cell;
        some = λ t i m. some_facet t m;
        few = few;
      }

  few_regular : length sizes ≤ 3 → length (cells_of sizes indices) ≤ 60000 → IsRegular (space_of facets (cells_of sizes indices))
  few_regular l few =
      regular_by_copies facets (boxed (threes sizes)) facets (cells_of sizes indices) (cube_space sizes l) (voxel_cells few) (threes_regular sizes l)
      (λ t i m.
      let f = face_of t i in
      (shift f.0, (f.1.0, record { moving = moving f.0 f.1.1.chosen f.1.1.within; among = within-boxed f.1.1.small; is = f.1.1.is })))

-- the answer where there are not too many cells
limited_is : (cells : List (List ℕ)) (space : List (List (List ℕ))) → limited cells ≡ Ok space → (length cells ≤ 60000) × (space_of facets cells ≡ space)
limited_is cells space e = by_test (nat_lt 60000 (length cells)) refl e
  where
    by_test : (b : Bool) → nat_lt 60000 (length cells) ≡ b → cond b (Err TooManyCells) (Ok (space_of facets cells)) ≡ Ok space → (length cells ≤ 60000) × (space_of facets cells ≡ space)
    by_test true a f = cc
    by_test false a f = (search (nat_tests, arith, a), cc)

pub voxels_regular : (sizes : List ℕ) (indices : List (List ℕ)) (space : List (List (List ℕ))) → length sizes ≤ 3 → list_all (lies_in sizes) indices ≡ true → voxel_space sizes indices ≡ Ok space → IsRegular space
voxels_regular sizes indices space l inside e =
    let r = limited_is (cells_of sizes indices) space e in
    subst IsRegular r.1 (few_regular sizes indices inside l r.0)

-- ---- voxels that a test keeps

-- the indices that are kept lie in the box
pub kept-inside : (sizes : List ℕ) (keeps : List ℕ → Bool) → list_all (lies_in sizes) (filter keeps (boxed sizes)) ≡ true
kept-inside sizes keeps = In-all (lies_in sizes) (filter keeps (boxed sizes)) (λ index i. within-lies (boxed-within sizes index (In-inside keeps (boxed sizes) i)))

pub kept_regular : (sizes : List ℕ) (keeps : List ℕ → Bool) (space : List (List (List ℕ))) → length sizes ≤ 3 → voxel_space sizes (filter keeps (boxed sizes)) ≡ Ok space → IsRegular space
kept_regular sizes keeps space l e = voxels_regular sizes (filter keeps (boxed sizes)) space l (kept-inside sizes keeps) e

-- ---- arrays

-- the indices of the ones of an array lie in its box
pub ones-inside : (sizes : List ℕ) (bits : List Bool) → list_all (lies_in sizes) (items_where_true bits (boxed sizes)) ≡ true
ones-inside sizes bits = In-all (lies_in sizes) (items_where_true bits (boxed sizes)) (λ index i. within-lies (boxed-within sizes index (where-In bits (boxed sizes) i)))

-- the answer that follows the sizes
abbrev array_from : Value → List ℕ → Result Bits ArrayFault
array_from v sizes = cond (is_allowed 1 3 (length sizes)) (and_then (bits_of sizes v) (λ bits. cond (list_any (λ b. b) bits) (Ok (record { sizes = sizes; bits = bits })) (Err Empty))) (Err BadDimension)

sizes-are : (sizes : List ℕ) (bits : List Bool) (a : Bits) (b : Bool) → cond b (Ok (record { sizes = sizes; bits = bits })) (Err Empty) ≡ Ok a → sizes ≡ a.sizes
sizes-are sizes bits a true e = let q : record { sizes = sizes; bits = bits } ≡ a = cc in ap (λ (x : Bits). x.sizes) q
sizes-are sizes bits a false e = cc

few_levels : (n : ℕ) → is_allowed 1 3 n ≡ true → n ≤ 3
few_levels n e = grind (arith, nat_tests)

-- an array of one to three levels has at most three sizes
levels_few : (v : Value) (a : Bits) → array_of 1 3 v ≡ Ok a → length a.sizes ≤ 3
levels_few v a e =
    let (sizes, s, rest) = both_ok (sizes_of v) (array_from v) a e in
    by_test sizes (is_allowed 1 3 (length sizes)) refl rest
  where
    by_test : (sizes : List ℕ) (b : Bool) → is_allowed 1 3 (length sizes) ≡ b → cond b (and_then (bits_of sizes v) (λ bits. cond (list_any (λ c. c) bits) (Ok (record { sizes = sizes; bits = bits })) (Err Empty))) (Err BadDimension) ≡ Ok a → length a.sizes ≤ 3
    by_test sizes true f g =
        let (bits, h, k) = both_ok (bits_of sizes v) (λ bits. cond (list_any (λ c. c) bits) (Ok (record { sizes = sizes; bits = bits })) (Err Empty)) a g in
        subst (λ (ns : List ℕ). length ns ≤ 3) (sizes-are sizes bits a (list_any (λ c. c) bits) k) (few_levels (length sizes) f)
    by_test sizes false f g = cc

pub arrays_regular : (v : Value) (space : List (List (List ℕ))) → cubical_of v ≡ Ok space → IsRegular space
arrays_regular v space e =
    let (a, s, rest) = both_ok (array_of 1 3 v) (λ (a : Bits). voxel_space a.sizes (items_where_true a.bits (boxed a.sizes))) space e in
    voxels_regular a.sizes (items_where_true a.bits (boxed a.sizes)) space (levels_few v a s) (ones-inside a.sizes a.bits) rest
