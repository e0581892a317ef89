use Rattle.std.proofs.Common.{◌≡◌, ◌≤◌, ◌<◌, ℕ, List, length, map, Result, Ok, ap, sym, ◌∙◌, subst, arith}
use Rattle.std.specs.List.{All}
use Rattle.std.specs.List.Sorted.{IsStrictlyIncreasing}
use Rattle.std.proofs.lemmas.Result.{MatchResult-weaker}
use Rattle.gap_text.specs.Nest.{view}
use Rattle.gap_text.specs.Value.{Value}
use Rattle.array_values.specs.declared.fault.ArrayFault.{ArrayFault}
use Rattle.array_values.specs.Answers.{and_then}
use Rattle.array_values.specs.Bits.{volume}
use Rattle.array_values.specs.Arcs.{arcs_of}
use Rattle.tuple_spaces.specs.Voxels.{voxel_space}
use Rattle.voxel_spaces.specs.BoxTuples.{strides_of, tuple_at}
use Rattle.voxel_spaces.specs.ArcComplements.{box_of, stays, complement_of, arcs_space_of}
use Rattle.voxel_spaces.proofs.StayingVoxels.{some_box, staying, boxed-staying, staying-inside, staying-rises, staying-some, staying-many, too_many}
use Rattle.voxel_spaces.proofs.arc_complement.arcs.Goals as goal

-- the space of the value is that of the voxels that stay
spaces : (v : Value) (rows given : List (ℕ × ℕ)) → arcs_of v ≡ Ok given → rows ≡ given → arcs_space_of v ≡ voxel_space (box_of (length rows)) (map (tuple_at (strides_of (box_of (length rows)))) (staying rows))
spaces v rows given h e =
    ap (λ (r : Result (List (ℕ × ℕ)) ArrayFault). and_then r complement_of) h
    ∙ (ap complement_of (sym e) ∙ ap (voxel_space (box_of (length rows))) (boxed-staying rows))

pub returns-then-rows-gt-MOST_ROWS-clause-fault : goal.returns-then-rows-gt-MOST_ROWS-clause-fault
returns-then-rows-gt-MOST_ROWS-clause-fault c =
    let rows : List (ℕ × ℕ) = c.rows-rows.result.now in
    λ _. spaces (view c.args.nest.now) rows c.in_ok-presentation.presentation c.in_ok-presentation.ensures.arcs c.rows-rows.ensures
    ∙ too_many (box_of (length rows)) (staying rows) (some_box (length rows)) (staying-inside rows) (staying-rises rows) (staying-many rows c.if-rows-gt-MOST_ROWS.true)

pub voxel_space-requires-clause-inside : goal.voxel_space-requires-clause-inside
voxel_space-requires-clause-inside c =
    let rows : List (ℕ × ℕ) = c.rows-rows.result.now in
    subst (All (λ i. i < volume (box_of (length rows)))) (sym (c.deref.ensures.value ∙ c.in_ok-staying.ensures)) (staying-inside rows)

pub voxel_space-requires-clause-rises : goal.voxel_space-requires-clause-rises
voxel_space-requires-clause-rises c = subst IsStrictlyIncreasing (sym (c.deref.ensures.value ∙ c.in_ok-staying.ensures)) (staying-rises c.rows-rows.result.now)

pub voxel_space-requires-clause-some : goal.voxel_space-requires-clause-some
voxel_space-requires-clause-some c = subst (λ (xs : List ℕ). 1 ≤ length xs) (sym (c.deref.ensures.value ∙ c.in_ok-staying.ensures)) (staying-some c.rows-rows.result.now)

pub returns-clause-space : goal.returns-clause-space
returns-clause-space c =
    let rows : List (ℕ × ℕ) = c.rows-rows.result.now in
    let b : List ℕ = box_of (length rows) in
    let is : staying rows ≡ c.deref.result.now = sym (c.deref.ensures.value ∙ c.in_ok-staying.ensures) in
    MatchResult-weaker c.voxel_space.result c.voxel_space.ensures.space
    (λ space h. spaces (view c.args.nest.now) rows c.in_ok-presentation.presentation c.in_ok-presentation.ensures.arcs c.rows-rows.ensures ∙ (ap (λ (xs : List ℕ). voxel_space b (map (tuple_at (strides_of b)) xs)) is ∙ h)) (λ _ u. u)

pub returns-clause-fault : goal.returns-clause-fault
returns-clause-fault c =
    let rows : List (ℕ × ℕ) = c.rows-rows.result.now in
    let b : List ℕ = box_of (length rows) in
    let is : staying rows ≡ c.deref.result.now = sym (c.deref.ensures.value ∙ c.in_ok-staying.ensures) in
    MatchResult-weaker c.voxel_space.result c.voxel_space.ensures.fault (λ _ u. u)
    (λ fault h ne. spaces (view c.args.nest.now) rows c.in_ok-presentation.presentation c.in_ok-presentation.ensures.arcs c.rows-rows.ensures ∙ (ap (λ (xs : List ℕ). voxel_space b (map (tuple_at (strides_of b)) xs)) is ∙ h ne))

pub returns-clause-regular : goal.returns-clause-regular
returns-clause-regular c =
    let rows : List (ℕ × ℕ) = c.rows-rows.result.now in
    let given : List (ℕ × ℕ) = c.in_ok-presentation.presentation in
    let b : List ℕ = box_of (length rows) in
    let is : staying rows ≡ c.deref.result.now = sym (c.deref.ensures.value ∙ c.in_ok-staying.ensures) in
    MatchResult-weaker c.voxel_space.result c.voxel_space.ensures.space
    (λ space h. c.kept_voxel_spaces_are_regular.ensures (box_of (length given)) (stays given) space (omega arith)
    (sym (ap (λ (r : Result (List (ℕ × ℕ)) ArrayFault). and_then r complement_of) c.in_ok-presentation.ensures.arcs)
    ∙ (spaces (view c.args.nest.now) rows given c.in_ok-presentation.ensures.arcs c.rows-rows.ensures ∙ (ap (λ (xs : List ℕ). voxel_space b (map (tuple_at (strides_of b)) xs)) is ∙ h)))) (λ _ u. u)
