use Rattle.std.proofs.Common.{◌≡◌, ℕ, ◌+◌, List, ◌++◌, length, append-nil, ap, sym, ◌∙◌, subst, arith}
use Rattle.face_poset.specs.Poset.{IsSpace, count}
use Rattle.local_field.specs.Inside.{IsFull}
use Rattle.local_field.specs.Buildings.{dim_at, is_below, flag_of}
use Rattle.local_field.specs.Listed.{pairs_of, IsBuilt}
use Rattle.local_field.proofs.FlagLaw.{full}
use Rattle.local_field.proofs.Layers.{flag-length, inside-numbers, put-more}
use Rattle.local_field.proofs.field.push_cells.Goals as goal

pub building_of-requires-clause-full : goal.building_of-requires-clause-full
building_of-requires-clause-full c =
    subst (λ (z : List ℕ). IsFull (is_below c.args.regular.now) (dim_at c.args.regular.now) z) (sym (c.deref.ensures.value ∙ (c.in_ok-flag.ensures ∙ ap (λ (s : List (List (List ℕ))). flag_of s c.args.dim (c.loop-index.index + 1)) c.space-space.ensures.same)))
    (full c.args.regular.now (subst IsSpace c.space-space.ensures.same c.cells-index-end.ensures.valid) c.args.dim (c.loop-index.index + 1) (omega (arith, c.requires.dim)) (omega arith) (omega (arith, c.loop-index-test.true, c.cells-index-end.ensures.cells, ap (λ (s : List (List (List ℕ))). count s c.args.dim) c.space-space.ensures.same)))

pub building_of-requires-clause-low : goal.building_of-requires-clause-low
building_of-requires-clause-low c = omega (arith, ap (λ (z : List ℕ). length z) (c.deref.ensures.value ∙ (c.in_ok-flag.ensures ∙ ap (λ (s : List (List (List ℕ))). flag_of s c.args.dim (c.loop-index.index + 1)) c.space-space.ensures.same)), flag-length c.args.regular.now c.args.dim (c.loop-index.index + 1), c.requires.dim)

pub push_inside-requires-clause-full : goal.push_inside-requires-clause-full
push_inside-requires-clause-full c =
    subst (λ (z : List ℕ). IsFull (is_below c.args.regular.now) (dim_at c.args.regular.now) z) (sym (c.deref-in-loop-index.ensures.value ∙ (c.in_ok-flag.ensures ∙ ap (λ (s : List (List (List ℕ))). flag_of s c.args.dim (c.loop-index.index + 1)) c.space-space.ensures.same)))
    (full c.args.regular.now (subst IsSpace c.space-space.ensures.same c.cells-index-end.ensures.valid) c.args.dim (c.loop-index.index + 1) (omega (arith, c.requires.dim)) (omega arith) (omega (arith, c.loop-index-test.true, c.cells-index-end.ensures.cells, ap (λ (s : List (List (List ℕ))). count s c.args.dim) c.space-space.ensures.same)))

pub push_inside-requires-clause-few : goal.push_inside-requires-clause-few
push_inside-requires-clause-few c = omega (arith, ap (λ (z : List ℕ). length z) (c.deref-in-loop-index.ensures.value ∙ (c.in_ok-flag.ensures ∙ ap (λ (s : List (List (List ℕ))). flag_of s c.args.dim (c.loop-index.index + 1)) c.space-space.ensures.same)), flag-length c.args.regular.now c.args.dim (c.loop-index.index + 1), c.requires.dim)

pub loop-index-init : goal.loop-index-init
loop-index-init c = λ collapse. sym (append-nil c.args.pairs.now.items)

pub loop-index-preserved : goal.loop-index-preserved
loop-index-preserved c = λ collapse.
    put-more c.args.regular.now collapse c.args.dim c.loop-index.index c.args.pairs.now.items c.loop-index.pairs.items c.push_inside.new.pairs.items (c.loop-index.invariant collapse)
    (inside-numbers c.args.regular.now collapse c.args.dim (c.loop-index.index + 1) c.deref-in-loop-index.result.now c.in_ok-built.built c.loop-index.pairs.items c.push_inside.new.pairs.items (c.deref-in-loop-index.ensures.value ∙ (c.in_ok-flag.ensures ∙ ap (λ (s : List (List (List ℕ))). flag_of s c.args.dim (c.loop-index.index + 1)) c.space-space.ensures.same)) c.in_ok-push_inside.ensures
    (subst (λ (z : List ℕ). IsBuilt c.args.regular.now collapse z c.in_ok-built.built) (c.deref.ensures.value ∙ sym c.deref-in-loop-index.ensures.value) (c.in_ok-built.ensures.built collapse)))

pub returns : goal.returns
returns c = λ collapse.
    let all : c.loop-index.index ≡ count c.args.regular.now c.args.dim =
    omega (arith, c.loop-index-test.false, c.loop-index.auto.index-end, c.cells-index-end.ensures.cells, ap (λ (s : List (List (List ℕ))). count s c.args.dim) c.space-space.ensures.same) in
    c.loop-index.invariant collapse ∙ ap (λ (k : ℕ). c.args.pairs.now.items ++ pairs_of c.args.regular.now collapse c.args.dim k) all
