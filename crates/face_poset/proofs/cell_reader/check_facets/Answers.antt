use Rattle.std.proofs.Common.{◌≡◌, ◌<◌, ◌≤◌, ◌+◌, ℕ, true, false, List, length, get_or, refl, sym, ◌∙◌, ap, subst, IsPermutation, Ok}
use Rattle.std.specs.List.{list_any, refill}
use Rattle.std.specs.List.Sorted.{IsStrictlyIncreasing, IsNonDecreasing}
use Rattle.std.proofs.lemmas.List.Sorted.{IsNonDecreasingBy-from_sort}
use Rattle.face_poset.specs.Reader.{repeats}
use Rattle.face_poset.proofs.Facets.{is_outside, facets_checked, rising_once, falling_twice, sorted_is, refill_whole}
use Rattle.face_poset.proofs.cell_reader.check_facets.Goals as goal

-- the sorted numbers
sorted : (old value new : List ℕ) → value ≡ old → length new ≡ length value → IsPermutation value new → (refill (length old) old new ≡ new) × IsPermutation old new
sorted old value new e long moved = (refill_whole old new (long ∙ ap length e), subst (λ (xs : List ℕ). IsPermutation xs new) e moved)

pub returns-then-is_any_outside-clause-err : goal.returns-then-is_any_outside-clause-err
returns-then-is_any_outside-clause-err c =
    let old : List ℕ = c.args.numbers.now.items in
    let is : list_any (is_outside c.args.below) old ≡ true = ap (list_any (is_outside c.args.below)) (sym c.as_slice.ensures) ∙ sym c.if-is_any_outside.ensures in
    facets_checked c.args.cell.dim c.args.below c.args.cell.number c.args.count old true (repeats old) c.requires c.if-count-eq0.false (c.if-count-len.false ∙ c.len.ensures.value) is refl

pub returns-then-not-is_rising-clause-err : goal.returns-then-not-is_rising-clause-err
returns-then-not-is_rising-clause-err c =
    let old : List ℕ = c.args.numbers.now.items in
    let new : List ℕ = c.sort_unstable.new.self in
    let s : (refill (length old) old new ≡ new) × IsPermutation old new = sorted old c.deref_mut.result.now new c.deref_mut.ensures.value c.sort_unstable.ensures.len c.sort_unstable.ensures.permutation in
    let here : c.as_slice-2.result.now ≡ new = c.as_slice-2.ensures ∙ s.0 in
    let up : IsNonDecreasing new = IsNonDecreasingBy-from_sort (λ x. x) new c.sort_unstable.ensures.sorted in
    let fall : (k : ℕ) × (k + 1 < length new) × (get_or new (k + 1) 0 ≤ get_or new k 0) = subst (λ (xs : List ℕ). (k : ℕ) × (k + 1 < length xs) × (get_or xs (k + 1) 0 ≤ get_or xs k 0)) here c.if-not-is_rising.ensures in
    let is : list_any (is_outside c.args.below) old ≡ false = ap (list_any (is_outside c.args.below)) (sym c.as_slice.ensures) ∙ sym c.if-is_any_outside.ensures in
    facets_checked c.args.cell.dim c.args.below c.args.cell.number c.args.count old false true c.requires c.if-count-eq0.false (c.if-count-len.false ∙ c.len.ensures.value) is (falling_twice old new fall.0 s.1 up fall.1 fall.2)

pub returns-clause-ok : goal.returns-clause-ok
returns-clause-ok c =
    let old : List ℕ = c.args.numbers.now.items in
    let new : List ℕ = c.sort_unstable.new.self in
    let s : (refill (length old) old new ≡ new) × IsPermutation old new = sorted old c.deref_mut.result.now new c.deref_mut.ensures.value c.sort_unstable.ensures.len c.sort_unstable.ensures.permutation in
    let here : c.as_slice-2.result.now ≡ new = c.as_slice-2.ensures ∙ s.0 in
    let rises : IsStrictlyIncreasing new = subst IsStrictlyIncreasing here c.if-not-is_rising.ensures in
    let is : list_any (is_outside c.args.below) old ≡ false = ap (list_any (is_outside c.args.below)) (sym c.as_slice.ensures) ∙ sym c.if-is_any_outside.ensures in
    facets_checked c.args.cell.dim c.args.below c.args.cell.number c.args.count old false false c.requires c.if-count-eq0.false (c.if-count-len.false ∙ c.len.ensures.value) is (rising_once old new s.1 rises)
    ∙ ap Ok (sym (s.0 ∙ sorted_is c.args.below old new s.1 rises is))
