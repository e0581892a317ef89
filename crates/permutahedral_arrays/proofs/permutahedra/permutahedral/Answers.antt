use Rattle.std.proofs.Common.{◌≡◌, ◌≢◌, ◌+◌, ◌*◌, ℕ, List, Bool, true, length, Result, Ok, Err, IfOk, IfErr, ap, sym, subst, ◌∙◌, rules, arith}
use Rattle.std.specs.List.{list_any}
use Rattle.std.proofs.lemmas.List.FromFn.{length-map-range_with_len}
use Rattle.gap_text.specs.Nest.{view}
use Rattle.array_values.specs.declared.fault.ArrayFault.{ArrayFault}
use Rattle.array_values.specs.declared.fault.ArrayFault.TheVariants.{Memory}
use Rattle.array_values.specs.Bits.{Bits, volume, IsArray}
use Rattle.permutahedral_arrays.specs.Places.{mark_of, marks_of, from_end, places_of}
use Rattle.permutahedral_arrays.proofs.OneMarked.{marked, volume-is}
use Rattle.permutahedral_arrays.proofs.Equal.{places_are_permutahedra}
use Rattle.permutahedral_arrays.proofs.permutahedra.permutahedral.Goals as goal

pub space_with-requires-clause-marks : goal.space_with-requires-clause-marks
space_with-requires-clause-marks c =
    let a : ℕ = c.from_end.result in
    let b : ℕ = c.from_end-2.result in
    let d : ℕ = c.from_end-3.result in
    let all : ℕ = (a + 2) * ((b + 2) * (d + 2)) in
    omega (arith, ap length (c.deref.ensures.value ∙ c.in_ok-marks.ensures), length-map-range_with_len (mark_of a b d c.bits.result.now) 0 all, c.in_ok-slab.ensures.few)

-- the array of a bit that is 1 has a mark
array-marked : (a : Bits) (sizes : List ℕ) (bits marks : List Bool) (planes rows columns : ℕ) → IsArray 2 3 a → sizes ≡ a.sizes → bits ≡ a.bits → planes ≡ from_end sizes 2 → rows ≡ from_end sizes 1 → columns ≡ from_end sizes 0 → marks ≡ marks_of planes rows columns bits
    → list_any (λ mark. mark) marks ≡ true
array-marked a sizes bits marks planes rows columns is s b p r q m =
    let full : length bits ≡ planes * (rows * columns) =
    ap length b
    ∙ (is.full
    ∙ (sym (ap volume s) ∙ (volume-is sizes (omega (arith, is.deep, ap length s)) (omega (arith, is.shallow, ap length s)) ∙ sym (ap (λ (n : ℕ). n * (rows * columns)) p ∙ (ap (λ (n : ℕ). from_end sizes 2 * (n * columns)) r ∙ ap (λ (n : ℕ). from_end sizes 2 * (from_end sizes 1 * n)) q))))) in
    ap (list_any (λ mark. mark)) m ∙ marked planes rows columns bits full (ap (list_any (λ bit. bit)) b ∙ is.has_one)

pub space_with-requires-clause-one : goal.space_with-requires-clause-one
space_with-requires-clause-one c = array-marked c.in_ok-array.array c.sizes-sizes.result.now c.bits.result.now c.deref.result.now c.from_end.result c.from_end-2.result c.from_end-3.result c.in_ok-array.ensures.shape c.sizes-sizes.ensures c.bits.ensures c.from_end.ensures c.from_end-2.ensures c.from_end-3.ensures (c.deref.ensures.value ∙ c.in_ok-marks.ensures)

-- the space by places is the permutahedral space
pub returns-clause-space : goal.returns-clause-space
returns-clause-space c =
    let by_places : IfOk c.space_with.result (λ space. places_of (view c.args.nest.now) ≡ Ok space) = search rules in
    subst (λ (r : Result (List (List (List ℕ))) ArrayFault). IfOk c.space_with.result (λ space. r ≡ Ok space)) (places_are_permutahedra (view c.args.nest.now)) by_places

pub returns-clause-fault : goal.returns-clause-fault
returns-clause-fault c =
    let by_places : IfErr c.space_with.result (λ fault. fault ≢ Memory → places_of (view c.args.nest.now) ≡ Err fault) = search rules in
    subst (λ (r : Result (List (List (List ℕ))) ArrayFault). IfErr c.space_with.result (λ fault. fault ≢ Memory → r ≡ Err fault)) (places_are_permutahedra (view c.args.nest.now)) by_places
