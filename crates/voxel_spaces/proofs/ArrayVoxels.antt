-- The voxels of an array that was read.
use Rattle.std.proofs.Common.{◌≡◌, ℕ, ◌<◌, ◌≤◌, List, Bool, true, map, length, get_or, ap, sym, ◌∙◌, subst, arith}
use Rattle.std.specs.List.{list_any, items_where_true, range_with_len, All}
use Rattle.std.specs.List.Sorted.{IsStrictlyIncreasing}
use Rattle.std.proofs.lemmas.List.FromFn.{length-range_with_len}
use Rattle.number_lists.proofs.CallerLemmas.{at-In, increasing-range}
use Rattle.array_values.specs.Bits.{volume}
use Rattle.tuple_spaces.specs.Tuples.{boxed}
use Rattle.voxel_spaces.specs.BoxTuples.{strides_of, tuple_at}
use Rattle.voxel_spaces.proofs.PlacesInBoxes.{Some, boxed-is}
use Rattle.voxel_spaces.proofs.ClosedPlaces.{some-sizes}
use Rattle.tuple_spaces.proofs.CallerLemmas.{where-map, where-In, below-In}
use Rattle.voxel_spaces.proofs.Ones.{where-rises, where-some, some-bits}

pub record IsReady (sizes : List ℕ) (bits : List Bool) (ones : List ℕ) : Type 0 where
  pub box_some : Some sizes
  pub inside : All (λ i. i < volume sizes) ones
  pub rises : IsStrictlyIncreasing ones
  pub some : 1 ≤ length ones
  pub same : items_where_true bits (boxed sizes) ≡ map (tuple_at (strides_of sizes)) ones

ready_here : (sizes : List ℕ) (bits : List Bool) → length bits ≡ volume sizes → list_any (λ b. b) bits ≡ true → IsReady sizes bits (items_where_true bits (range_with_len 0 (length bits)))
ready_here sizes bits full one =
    let n : ℕ = length bits in
    let places : List ℕ = range_with_len 0 (length bits) in
    let some : Some sizes = some-sizes sizes (omega (arith, some-bits bits one, full)) in
    record {
      box_some = some;
      inside = λ k d l. omega (arith, below-In n (get_or (items_where_true bits places) k d) (where-In bits places (at-In (items_where_true bits places) k d l)), full);
      rises = where-rises bits places (increasing-range 0 n);
      some = where-some bits places one (sym (length-range_with_len 0 n));
      same = ap (items_where_true bits) (boxed-is sizes some)
          ∙ (where-map (tuple_at (strides_of sizes)) bits (range_with_len 0 (volume sizes)) ∙ ap (λ (m : ℕ). map (tuple_at (strides_of sizes)) (items_where_true bits (range_with_len 0 m))) (sym full));
    }

pub ready : (array_sizes sizes : List ℕ) (array_bits bits : List Bool) (ones now : List ℕ) → sizes ≡ array_sizes → bits ≡ array_bits → ones ≡ items_where_true bits (range_with_len 0 (length bits)) → now ≡ ones
    → length array_bits ≡ volume array_sizes → list_any (λ b. b) array_bits ≡ true → IsReady sizes array_bits now
ready array_sizes sizes array_bits bits ones now e f g h full one =
    let is : now ≡ items_where_true array_bits (range_with_len 0 (length array_bits)) = h ∙ (g ∙ ap (λ (bs : List Bool). items_where_true bs (range_with_len 0 (length bs))) f) in
    subst (λ (xs : List ℕ). IsReady xs array_bits now) (sym e) (subst (IsReady array_sizes array_bits) (sym is) (ready_here array_sizes array_bits full one))
