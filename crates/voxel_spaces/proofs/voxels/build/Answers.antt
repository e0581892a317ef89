use Rattle.std.proofs.Common.{◌≡◌, ℕ, List, [], map, Result, Ok, Err, IfOk, ap, ◌∙◌, arith}
use Rattle.tuple_spaces.specs.Tuples.{space_of}
use Rattle.tuple_spaces.specs.Voxels.{facets}
use Rattle.voxel_spaces.specs.Places.{stage}
use Rattle.voxel_spaces.specs.BoxTuples.{tuple_at}
use Rattle.voxel_spaces.proofs.SpaceStages.{stage-all}
use Rattle.voxel_spaces.proofs.voxels.build.Goals as goal

-- what stands at the end
whole : (ss P : List ℕ) (dim : ℕ) (builder : List (List (List ℕ))) → dim ≡ 4 → builder ≡ stage ss P dim [] → builder ≡ space_of facets (map (tuple_at ss) P)
whole ss P dim builder e is = is ∙ (ap (λ (d : ℕ). stage ss P d []) e ∙ stage-all ss P)

spaces : {E : Type 0} (r : Result (List (List (List ℕ))) E) (builder all : List (List (List ℕ))) → builder ≡ all → IfOk r (λ space. space ≡ builder) → IfOk r (λ space. space ≡ all)
spaces (Ok s) builder all w h = h ∙ w
spaces (Err e) builder all w h = h

pub returns : goal.returns
returns c =
    spaces c.finish.result c.loop-dim.builder (space_of facets (map (tuple_at c.args.strides.now) c.args.places.now))
    (whole c.args.strides.now c.args.places.now c.loop-dim.dim c.loop-dim.builder (omega (arith, c.loop-dim-test.false, c.loop-dim.auto.dim-end)) c.loop-dim.invariant) c.finish.ensures
