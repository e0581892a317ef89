use Rattle.std.proofs.Common.{◌≡◌, ℕ, ◌+◌, ◌-◌, ◌≤◌, List, [], ◌∷◌, ◌++◌, length, map, take, drop, get_or, append-nil, refl, ap, sym, ◌∙◌, subst, arith}
use Rattle.std.proofs.lemmas.List.{take_all, take_rest}
use Rattle.face_poset.specs.declared.cells.Pair.{Pair}
use Rattle.face_poset.specs.Poset.{IsSpace, cell_count}
use Rattle.vector_field.specs.Pairs.{pair}
use Rattle.local_field.specs.Towers.{build}
use Rattle.local_field.specs.Inside.{IsFull}
use Rattle.local_field.specs.Buildings.{dim_at, is_below, flag_at}
use Rattle.local_field.specs.Listed.{number_under, numbered_under, FitsTop}
use Rattle.local_field.proofs.Putting.{sub, put-lower, put-pair, more, all-put}
use Rattle.local_field.proofs.TowerParts.{step}
use Rattle.local_field.proofs.inside.+push_inside.Goals as goal

pub loop-index-init : goal.loop-index-init
loop-index-init t c = λ collapse.
    put-pair c.args.regular.now collapse c.args.chains.now c.in_ok-above.above.items c.deref.result.now [] [] (c.args.built.now.root ∷ []) (c.root.result ∷ []) c.args.pairs.now.items c.push_pair.new.pairs.items c.requires.same c.deref.ensures.value refl (ap (λ (r : ℕ). r ∷ []) c.root.ensures) c.in_ok-push_pair.ensures
    ∙ sym (append-nil (c.args.pairs.now.items ++ pair (0 + length c.in_ok-above.above.items - 1) (number_under c.args.regular.now c.in_ok-above.above.items []) (number_under c.args.regular.now c.in_ok-above.above.items (c.args.built.now.root ∷ [])) ∷ []))

pub flag_at-requires-clause-first : goal.flag_at-requires-clause-first
flag_at-requires-clause-first t c = (step c.args.regular.now (subst IsSpace c.space-space.ensures.same c.cells-vertices.ensures.valid) c.args.over.now c.args.tower.now c.pairs.result.now c.args.built.now c.loop-index.index c.requires.full (omega (arith, c.if-tower-lt2.false)) c.requires.few c.requires.fits c.pairs.ensures (omega (arith, c.loop-index-test.true, ap (λ (xs : List (ℕ × ℕ)). length xs) c.pairs-index-end.ensures, ap (λ (xs : List (ℕ × ℕ)). length xs) c.pairs.ensures))).first

pub flag_at-requires-clause-last : goal.flag_at-requires-clause-last
flag_at-requires-clause-last t c =
    subst (λ (s : List (List (List ℕ))). (get_or c.pairs.result.now c.loop-index.index (0, 0)).0 ≤ cell_count s) (sym c.space-space.ensures.same)
    (step c.args.regular.now (subst IsSpace c.space-space.ensures.same c.cells-vertices.ensures.valid) c.args.over.now c.args.tower.now c.pairs.result.now c.args.built.now c.loop-index.index c.requires.full (omega (arith, c.if-tower-lt2.false)) c.requires.few c.requires.fits c.pairs.ensures (omega (arith, c.loop-index-test.true, ap (λ (xs : List (ℕ × ℕ)). length xs) c.pairs-index-end.ensures, ap (λ (xs : List (ℕ × ℕ)). length xs) c.pairs.ensures))).last

pub building_of-requires-clause-full : goal.building_of-requires-clause-full
building_of-requires-clause-full t c =
    subst (λ (z : List ℕ). IsFull (is_below c.args.regular.now) (dim_at c.args.regular.now) z) (sym (c.deref-in-loop-index-2.ensures.value ∙ (c.in_ok-flag.ensures ∙ ap (λ (s : List (List (List ℕ))). flag_at s (get_or c.pairs.result.now c.loop-index.index (0, 0)).0) c.space-space.ensures.same)))
    (step c.args.regular.now (subst IsSpace c.space-space.ensures.same c.cells-vertices.ensures.valid) c.args.over.now c.args.tower.now c.pairs.result.now c.args.built.now c.loop-index.index c.requires.full (omega (arith, c.if-tower-lt2.false)) c.requires.few c.requires.fits c.pairs.ensures (omega (arith, c.loop-index-test.true, ap (λ (xs : List (ℕ × ℕ)). length xs) c.pairs-index-end.ensures, ap (λ (xs : List (ℕ × ℕ)). length xs) c.pairs.ensures))).low_full

pub building_of-requires-clause-low : goal.building_of-requires-clause-low
building_of-requires-clause-low t c =
    omega (arith, ap (λ (z : List ℕ). length z) (c.deref-in-loop-index-2.ensures.value ∙ (c.in_ok-flag.ensures ∙ ap (λ (s : List (List (List ℕ))). flag_at s (get_or c.pairs.result.now c.loop-index.index (0, 0)).0) c.space-space.ensures.same)), (step c.args.regular.now (subst IsSpace c.space-space.ensures.same c.cells-vertices.ensures.valid) c.args.over.now c.args.tower.now c.pairs.result.now c.args.built.now c.loop-index.index c.requires.full (omega (arith, c.if-tower-lt2.false)) c.requires.few c.requires.fits c.pairs.ensures (omega (arith, c.loop-index-test.true, ap (λ (xs : List (ℕ × ℕ)). length xs) c.pairs-index-end.ensures, ap (λ (xs : List (ℕ × ℕ)). length xs) c.pairs.ensures))).low_few)

pub push_inside-requires : goal.push_inside-requires
push_inside-requires t c =
    let s = step c.args.regular.now (subst IsSpace c.space-space.ensures.same c.cells-vertices.ensures.valid) c.args.over.now c.args.tower.now c.pairs.result.now c.args.built.now c.loop-index.index c.requires.full (omega (arith, c.if-tower-lt2.false)) c.requires.few c.requires.fits c.pairs.ensures (omega (arith, c.loop-index-test.true, ap (λ (xs : List (ℕ × ℕ)). length xs) c.pairs-index-end.ensures, ap (λ (xs : List (ℕ × ℕ)). length xs) c.pairs.ensures)) in (
      omega (arith, c.if-depth-eq0.false, c.decreases),
      (
        c.requires.same,
        (
          subst (λ (z : List ℕ). IsFull (is_below c.args.regular.now) (dim_at c.args.regular.now) z) (sym (c.deref-in-loop-index-4.ensures.value ∙ (c.in_ok-flag.ensures ∙ ap (λ (s : List (List (List ℕ))). flag_at s (get_or c.pairs.result.now c.loop-index.index (0, 0)).0) c.space-space.ensures.same))) s.low_full,
          (
            omega (arith, ap (λ (z : List ℕ). length z) (c.deref-in-loop-index-4.ensures.value ∙ (c.in_ok-flag.ensures ∙ ap (λ (s : List (List (List ℕ))). flag_at s (get_or c.pairs.result.now c.loop-index.index (0, 0)).0) c.space-space.ensures.same)), ap (λ (z : List ℕ). length z) (c.deref-in-loop-index-3.ensures.value ∙ c.in_ok-above.ensures), s.low_few),
            subst (λ (z : List ℕ). FitsTop c.args.regular.now z c.in_ok-lower_built.lower_built) ((c.deref-in-loop-index-2.ensures.value ∙ (c.in_ok-flag.ensures ∙ ap (λ (s : List (List (List ℕ))). flag_at s (get_or c.pairs.result.now c.loop-index.index (0, 0)).0) c.space-space.ensures.same)) ∙ sym (c.deref-in-loop-index-4.ensures.value ∙ (c.in_ok-flag.ensures ∙ ap (λ (s : List (List (List ℕ))). flag_at s (get_or c.pairs.result.now c.loop-index.index (0, 0)).0) c.space-space.ensures.same))) c.in_ok-lower_built.ensures.fits,
          ),
        ),
      ),
    )

pub building_of-requires-in-loop-index-clause-full : goal.building_of-requires-in-loop-index-clause-full
building_of-requires-in-loop-index-clause-full t c =
    subst (λ (z : List ℕ). IsFull (is_below c.args.regular.now) (dim_at c.args.regular.now) z) (sym (c.deref-in-loop-index-5.ensures.value ∙ (c.in_ok-raised.ensures ∙ ap (λ (z : List ℕ). (get_or c.pairs.result.now c.loop-index.index (0, 0)).1 ∷ z) (c.deref-in-loop-index.ensures.value ∙ (c.in_ok-flag.ensures ∙ ap (λ (s : List (List (List ℕ))). flag_at s (get_or c.pairs.result.now c.loop-index.index (0, 0)).0) c.space-space.ensures.same)))))
    (step c.args.regular.now (subst IsSpace c.space-space.ensures.same c.cells-vertices.ensures.valid) c.args.over.now c.args.tower.now c.pairs.result.now c.args.built.now c.loop-index.index c.requires.full (omega (arith, c.if-tower-lt2.false)) c.requires.few c.requires.fits c.pairs.ensures (omega (arith, c.loop-index-test.true, ap (λ (xs : List (ℕ × ℕ)). length xs) c.pairs-index-end.ensures, ap (λ (xs : List (ℕ × ℕ)). length xs) c.pairs.ensures))).up_full

pub building_of-requires-in-loop-index-clause-low : goal.building_of-requires-in-loop-index-clause-low
building_of-requires-in-loop-index-clause-low t c =
    omega (arith, ap (λ (z : List ℕ). length z) (c.deref-in-loop-index-5.ensures.value ∙ (c.in_ok-raised.ensures ∙ ap (λ (z : List ℕ). (get_or c.pairs.result.now c.loop-index.index (0, 0)).1 ∷ z) (c.deref-in-loop-index.ensures.value ∙ (c.in_ok-flag.ensures ∙ ap (λ (s : List (List (List ℕ))). flag_at s (get_or c.pairs.result.now c.loop-index.index (0, 0)).0) c.space-space.ensures.same)))), (step c.args.regular.now (subst IsSpace c.space-space.ensures.same c.cells-vertices.ensures.valid) c.args.over.now c.args.tower.now c.pairs.result.now c.args.built.now c.loop-index.index c.requires.full (omega (arith, c.if-tower-lt2.false)) c.requires.few c.requires.fits c.pairs.ensures (omega (arith, c.loop-index-test.true, ap (λ (xs : List (ℕ × ℕ)). length xs) c.pairs-index-end.ensures, ap (λ (xs : List (ℕ × ℕ)). length xs) c.pairs.ensures))).up_few)

pub push_inside-requires-in-loop-index : goal.push_inside-requires-in-loop-index
push_inside-requires-in-loop-index t c =
    let s = step c.args.regular.now (subst IsSpace c.space-space.ensures.same c.cells-vertices.ensures.valid) c.args.over.now c.args.tower.now c.pairs.result.now c.args.built.now c.loop-index.index c.requires.full (omega (arith, c.if-tower-lt2.false)) c.requires.few c.requires.fits c.pairs.ensures (omega (arith, c.loop-index-test.true, ap (λ (xs : List (ℕ × ℕ)). length xs) c.pairs-index-end.ensures, ap (λ (xs : List (ℕ × ℕ)). length xs) c.pairs.ensures)) in (
      omega (arith, c.if-depth-eq0.false, c.decreases),
      (
        c.requires.same,
        (
          subst (λ (z : List ℕ). IsFull (is_below c.args.regular.now) (dim_at c.args.regular.now) z) (sym (c.deref-in-loop-index-7.ensures.value ∙ (c.in_ok-raised.ensures ∙ ap (λ (z : List ℕ). (get_or c.pairs.result.now c.loop-index.index (0, 0)).1 ∷ z) (c.deref-in-loop-index.ensures.value ∙ (c.in_ok-flag.ensures ∙ ap (λ (s : List (List (List ℕ))). flag_at s (get_or c.pairs.result.now c.loop-index.index (0, 0)).0) c.space-space.ensures.same))))) s.up_full,
          (
            omega (arith, ap (λ (z : List ℕ). length z) (c.deref-in-loop-index-7.ensures.value ∙ (c.in_ok-raised.ensures ∙ ap (λ (z : List ℕ). (get_or c.pairs.result.now c.loop-index.index (0, 0)).1 ∷ z) (c.deref-in-loop-index.ensures.value ∙ (c.in_ok-flag.ensures ∙ ap (λ (s : List (List (List ℕ))). flag_at s (get_or c.pairs.result.now c.loop-index.index (0, 0)).0) c.space-space.ensures.same)))), ap (λ (z : List ℕ). length z) (c.deref-in-loop-index-6.ensures.value ∙ c.in_ok-above.ensures), s.up_few),
            subst (λ (z : List ℕ). FitsTop c.args.regular.now z c.in_ok-upper_built.upper_built) ((c.deref-in-loop-index-5.ensures.value ∙ (c.in_ok-raised.ensures ∙ ap (λ (z : List ℕ). (get_or c.pairs.result.now c.loop-index.index (0, 0)).1 ∷ z) (c.deref-in-loop-index.ensures.value ∙ (c.in_ok-flag.ensures ∙ ap (λ (s : List (List (List ℕ))). flag_at s (get_or c.pairs.result.now c.loop-index.index (0, 0)).0) c.space-space.ensures.same)))) ∙ sym (c.deref-in-loop-index-7.ensures.value ∙ (c.in_ok-raised.ensures ∙ ap (λ (z : List ℕ). (get_or c.pairs.result.now c.loop-index.index (0, 0)).1 ∷ z) (c.deref-in-loop-index.ensures.value ∙ (c.in_ok-flag.ensures ∙ ap (λ (s : List (List (List ℕ))). flag_at s (get_or c.pairs.result.now c.loop-index.index (0, 0)).0) c.space-space.ensures.same))))) c.in_ok-upper_built.ensures.fits,
          ),
        ),
      ),
    )

pub push_pair-requires-in-loop-index-clause-few : goal.push_pair-requires-in-loop-index-clause-few
push_pair-requires-in-loop-index-clause-few t c =
    omega (arith, ap (λ (z : List ℕ). length z) (c.deref-in-loop-index-10.ensures.value ∙ (c.in_ok-raised.ensures ∙ ap (λ (z : List ℕ). (get_or c.pairs.result.now c.loop-index.index (0, 0)).1 ∷ z) (c.deref-in-loop-index.ensures.value ∙ (c.in_ok-flag.ensures ∙ ap (λ (s : List (List (List ℕ))). flag_at s (get_or c.pairs.result.now c.loop-index.index (0, 0)).0) c.space-space.ensures.same)))), ap (λ (z : List ℕ). length z) (c.deref-in-loop-index-8.ensures.value ∙ c.in_ok-above.ensures), (step c.args.regular.now (subst IsSpace c.space-space.ensures.same c.cells-vertices.ensures.valid) c.args.over.now c.args.tower.now c.pairs.result.now c.args.built.now c.loop-index.index c.requires.full (omega (arith, c.if-tower-lt2.false)) c.requires.few c.requires.fits c.pairs.ensures (omega (arith, c.loop-index-test.true, ap (λ (xs : List (ℕ × ℕ)). length xs) c.pairs-index-end.ensures, ap (λ (xs : List (ℕ × ℕ)). length xs) c.pairs.ensures))).up_few)

pub loop-index-preserved : goal.loop-index-preserved
loop-index-preserved t c = λ collapse.
    let ps : List (ℕ × ℕ) = c.pairs.result.now in
    let base : List Pair = (c.args.pairs.now.items ++ pair (0 + length c.in_ok-above.above.items - 1) (number_under c.args.regular.now c.in_ok-above.above.items []) (number_under c.args.regular.now c.in_ok-above.above.items (c.args.built.now.root ∷ [])) ∷ []) in
    let p : ℕ × ℕ = (get_or c.pairs.result.now c.loop-index.index (0, 0)) in
    let low = put-lower c.args.regular.now collapse c.in_ok-above.above.items c.deref-in-loop-index-3.result.now (flag_at c.args.regular.now (get_or c.pairs.result.now c.loop-index.index (0, 0)).0) c.deref-in-loop-index-4.result.now c.deref-in-loop-index-2.result.now (c.args.depth - 1) c.in_ok-lower_built.lower_built c.loop-index.pairs.items c.push_inside.new.pairs.items
    c.deref-in-loop-index-3.ensures.value (c.deref-in-loop-index-4.ensures.value ∙ (c.in_ok-flag.ensures ∙ ap (λ (s : List (List (List ℕ))). flag_at s (get_or c.pairs.result.now c.loop-index.index (0, 0)).0) c.space-space.ensures.same)) (c.deref-in-loop-index-2.ensures.value ∙ (c.in_ok-flag.ensures ∙ ap (λ (s : List (List (List ℕ))). flag_at s (get_or c.pairs.result.now c.loop-index.index (0, 0)).0) c.space-space.ensures.same)) (c.in_ok-lower_built.ensures.built collapse) c.in_ok-push_inside.ensures in
    let up = put-lower c.args.regular.now collapse c.in_ok-above.above.items c.deref-in-loop-index-6.result.now ((get_or c.pairs.result.now c.loop-index.index (0, 0)).1 ∷ flag_at c.args.regular.now (get_or c.pairs.result.now c.loop-index.index (0, 0)).0) c.deref-in-loop-index-7.result.now c.deref-in-loop-index-5.result.now (c.args.depth - 1) c.in_ok-upper_built.upper_built c.push_inside.new.pairs.items c.push_inside-in-loop-index.new.pairs.items
    c.deref-in-loop-index-6.ensures.value (c.deref-in-loop-index-7.ensures.value ∙ (c.in_ok-raised.ensures ∙ ap (λ (z : List ℕ). (get_or c.pairs.result.now c.loop-index.index (0, 0)).1 ∷ z) (c.deref-in-loop-index.ensures.value ∙ (c.in_ok-flag.ensures ∙ ap (λ (s : List (List (List ℕ))). flag_at s (get_or c.pairs.result.now c.loop-index.index (0, 0)).0) c.space-space.ensures.same)))) (c.deref-in-loop-index-5.ensures.value ∙ (c.in_ok-raised.ensures ∙ ap (λ (z : List ℕ). (get_or c.pairs.result.now c.loop-index.index (0, 0)).1 ∷ z) (c.deref-in-loop-index.ensures.value ∙ (c.in_ok-flag.ensures ∙ ap (λ (s : List (List (List ℕ))). flag_at s (get_or c.pairs.result.now c.loop-index.index (0, 0)).0) c.space-space.ensures.same)))) (c.in_ok-upper_built.ensures.built collapse) c.in_ok-push_inside-2.ensures in
    let two = put-pair c.args.regular.now collapse c.args.chains.now c.in_ok-above.above.items c.deref-in-loop-index-8.result.now (flag_at c.args.regular.now (get_or c.pairs.result.now c.loop-index.index (0, 0)).0) c.deref-in-loop-index-9.result.now ((get_or c.pairs.result.now c.loop-index.index (0, 0)).1 ∷ flag_at c.args.regular.now (get_or c.pairs.result.now c.loop-index.index (0, 0)).0) c.deref-in-loop-index-10.result.now c.push_inside-in-loop-index.new.pairs.items c.push_pair-in-loop-index.new.pairs.items
    c.requires.same c.deref-in-loop-index-8.ensures.value (c.deref-in-loop-index-9.ensures.value ∙ (c.in_ok-flag.ensures ∙ ap (λ (s : List (List (List ℕ))). flag_at s (get_or c.pairs.result.now c.loop-index.index (0, 0)).0) c.space-space.ensures.same)) (c.deref-in-loop-index-10.ensures.value ∙ (c.in_ok-raised.ensures ∙ ap (λ (z : List ℕ). (get_or c.pairs.result.now c.loop-index.index (0, 0)).1 ∷ z) (c.deref-in-loop-index.ensures.value ∙ (c.in_ok-flag.ensures ∙ ap (λ (s : List (List (List ℕ))). flag_at s (get_or c.pairs.result.now c.loop-index.index (0, 0)).0) c.space-space.ensures.same)))) c.in_ok-push_pair-2.ensures in
    subst (λ (qs : List (ℕ × ℕ)). c.push_pair-in-loop-index.new.pairs.items ≡ base ++ map (numbered_under c.args.regular.now c.in_ok-above.above.items) (build (flag_at c.args.regular.now) (sub c.args.regular.now collapse (c.args.depth - 1)) [] (take (c.loop-index.index + 1) qs))) c.pairs.ensures
    (more c.args.regular.now collapse c.in_ok-above.above.items (c.args.depth - 1) c.pairs.result.now c.loop-index.index base c.loop-index.pairs.items c.push_inside.new.pairs.items c.push_inside-in-loop-index.new.pairs.items c.push_pair-in-loop-index.new.pairs.items (omega (arith, c.loop-index-test.true, ap (λ (xs : List (ℕ × ℕ)). length xs) c.pairs-index-end.ensures, ap (λ (xs : List (ℕ × ℕ)). length xs) c.pairs.ensures))
    (subst (λ (qs : List (ℕ × ℕ)). c.loop-index.pairs.items ≡ base ++ map (numbered_under c.args.regular.now c.in_ok-above.above.items) (build (flag_at c.args.regular.now) (sub c.args.regular.now collapse (c.args.depth - 1)) [] (take c.loop-index.index qs))) (sym c.pairs.ensures) (c.loop-index.invariant collapse)) low up two)

pub returns : goal.returns
returns t c = λ collapse h.
    let old : List Pair = c.args.pairs.now.items in
    let rest : List ℕ = take (length c.args.tower.now - 1) (drop 1 c.args.tower.now) in
    let all = take_all c.loop-index.index c.args.built.now.pairs (omega (arith, c.loop-index-test.false, ap (λ (xs : List (ℕ × ℕ)). length xs) c.pairs-index-end.ensures)) in
    let put : c.loop-index.pairs.items ≡ (old ++ pair (0 + length c.in_ok-above.above.items - 1) (number_under c.args.regular.now c.in_ok-above.above.items []) (number_under c.args.regular.now c.in_ok-above.above.items (c.args.built.now.root ∷ [])) ∷ []) ++ map (numbered_under c.args.regular.now c.in_ok-above.above.items) (build (flag_at c.args.regular.now) (sub c.args.regular.now collapse (c.args.depth - 1)) [] c.args.built.now.pairs) =
    c.loop-index.invariant collapse ∙ ap (λ (ps : List (ℕ × ℕ)). (old ++ pair (0 + length c.in_ok-above.above.items - 1) (number_under c.args.regular.now c.in_ok-above.above.items []) (number_under c.args.regular.now c.in_ok-above.above.items (c.args.built.now.root ∷ [])) ∷ []) ++ map (numbered_under c.args.regular.now c.in_ok-above.above.items) (build (flag_at c.args.regular.now) (sub c.args.regular.now collapse (c.args.depth - 1)) [] ps)) all in
    all-put c.args.regular.now collapse c.args.over.now c.args.tower.now (c.args.depth - 1) c.args.depth c.args.built.now old (old ++ pair (0 + length (get_or c.args.tower.now 0 0 ∷ c.args.over.now) - 1) (number_under c.args.regular.now (get_or c.args.tower.now 0 0 ∷ c.args.over.now) []) (number_under c.args.regular.now (get_or c.args.tower.now 0 0 ∷ c.args.over.now) (c.args.built.now.root ∷ [])) ∷ []) c.loop-index.pairs.items c.push_inside-2.new.pairs.items
    (omega (arith, c.if-depth-eq0.false)) (omega (arith, c.if-tower-lt2.false)) h refl
    (subst (λ (z : List ℕ). c.loop-index.pairs.items ≡ (old ++ pair (0 + length z - 1) (number_under c.args.regular.now z []) (number_under c.args.regular.now z (c.args.built.now.root ∷ [])) ∷ []) ++ map (numbered_under c.args.regular.now z) (build (flag_at c.args.regular.now) (sub c.args.regular.now collapse (c.args.depth - 1)) [] c.args.built.now.pairs)) c.in_ok-above.ensures put)
    (put-lower c.args.regular.now collapse (get_or c.args.tower.now 0 0 ∷ c.args.over.now) c.deref-2.result.now (drop 1 c.args.tower.now) rest rest (c.args.depth - 1) c.in_ok-rest_built.rest_built c.loop-index.pairs.items c.push_inside-2.new.pairs.items
    (c.deref-2.ensures.value ∙ c.in_ok-above.ensures) (take_rest c.args.tower.now 1) (take_rest c.args.tower.now 1) (c.in_ok-rest_built.ensures.built collapse) c.in_ok-push_inside-3.ensures)
