use Rattle.std.proofs.Common.{◌≡◌, ◌*◌, ◌≤◌, ℕ, List, ap, sym, ◌∙◌, subst, arith, Result, Ok, Err, IfOk}
use Rattle.face_poset.specs.Poset.{count}
use Rattle.regular_check.specs.Rules.{IsRegular}
use Rattle.tuple_spaces.specs.Tuples.{tuples, space_of}
use Rattle.tuple_spaces.specs.Torus.{facets_round, torus_of, HasTorusCounts}
use Rattle.tuple_spaces.specs.TorusPlaces.{stage}
use Rattle.tuple_spaces.proofs.TorusStages.{stage-all}
use Rattle.tuple_spaces.proofs.TorusCounts.{torus_counts, some_vertex}
use Rattle.tuple_spaces.proofs.TorusRegularity.{torus_regular}
use Rattle.tuple_spaces.proofs.tori.torus.Goals as goal

-- what stands at the end
whole : (size dim : ℕ) (builder : List (List (List ℕ))) → 2 ≤ size → dim ≡ 4 → builder ≡ stage (size * 2) dim 0 → builder ≡ torus_of size
whole size dim builder two e is =
    let t : size * 2 ≡ 2 * size = omega arith in
    is ∙ (ap (λ (d : ℕ). stage (size * 2) d 0) e ∙ (stage-all (size * 2) (omega (arith, two)) ∙ ap (λ (n : ℕ). space_of (facets_round n) (tuples 3 n)) t))

pub finish-requires : goal.finish-requires
finish-requires c =
    let w = whole c.args.size c.loop-dim.dim c.loop-dim.builder c.requires.low (omega (arith, c.loop-dim-test.false, c.loop-dim.auto.dim-end)) c.loop-dim.invariant in
    let n : HasTorusCounts c.args.size (torus_of c.args.size) = torus_counts c.args.size in
    omega (arith, ap (λ (b : List (List (List ℕ))). count b 0) w, n.vertices, some_vertex c.args.size (omega (arith, c.requires.low)))

spaces : {E : Type 0} (r : Result (List (List (List ℕ))) E) (size : ℕ) (builder : List (List (List ℕ))) → builder ≡ torus_of size → IfOk r (λ space. space ≡ builder) → IfOk r (λ space. space ≡ torus_of size)
spaces (Ok s) size builder w h = h ∙ w
spaces (Err e) size builder w h = h

counted : {E : Type 0} (r : Result (List (List (List ℕ))) E) (size : ℕ) → IfOk r (λ space. space ≡ torus_of size) → IfOk r (HasTorusCounts size)
counted (Ok s) size h = subst (HasTorusCounts size) (sym h) (torus_counts size)
counted (Err e) size h = h

regular : {E : Type 0} (r : Result (List (List (List ℕ))) E) (size : ℕ) → 2 ≤ size → size ≤ 19 → IfOk r (λ space. space ≡ torus_of size) → IfOk r IsRegular
regular (Ok s) size low high h = subst IsRegular (sym h) (torus_regular size low high)
regular (Err e) size low high h = h

pub returns-clause-space : goal.returns-clause-space
returns-clause-space c =
    spaces c.finish.result c.args.size c.loop-dim.builder (whole c.args.size c.loop-dim.dim c.loop-dim.builder c.requires.low (omega (arith, c.loop-dim-test.false, c.loop-dim.auto.dim-end)) c.loop-dim.invariant) c.finish.ensures

pub returns-clause-counts : goal.returns-clause-counts
returns-clause-counts c =
    counted c.finish.result c.args.size
    (spaces c.finish.result c.args.size c.loop-dim.builder (whole c.args.size c.loop-dim.dim c.loop-dim.builder c.requires.low (omega (arith, c.loop-dim-test.false, c.loop-dim.auto.dim-end)) c.loop-dim.invariant) c.finish.ensures)

pub returns-clause-regular : goal.returns-clause-regular
returns-clause-regular c =
    regular c.finish.result c.args.size c.requires.low c.requires.high
    (spaces c.finish.result c.args.size c.loop-dim.builder (whole c.args.size c.loop-dim.dim c.loop-dim.builder c.requires.low (omega (arith, c.loop-dim-test.false, c.loop-dim.auto.dim-end)) c.loop-dim.invariant) c.finish.ensures)
