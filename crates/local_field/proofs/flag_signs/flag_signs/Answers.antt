use Rattle.std.proofs.Common.{ℕ, ◌+◌, ◌-◌, List, Bool, false, get_or, ap, sym, ◌∙◌, arith}
use Rattle.face_poset.specs.Poset.{count, facets_of}
use Rattle.local_field.specs.Flags.{other_sign, flag_negative}
use Rattle.local_field.proofs.FlagSigns.{numbers-more, number-at, as-many, first-there, flag-step}
use Rattle.local_field.proofs.flag_signs.flag_signs.Goals as goal

pub bounds-below-first : goal.bounds-below-first
bounds-below-first g c =
    let w = first-there (g.S.Graded.space c.args.signed.now) (g.S.Signed.negative c.args.signed.now) c.args.dim (c.loop-index.index + 1) c.cells-index-end.ensures.valid c.requires.low (omega arith) (omega (arith, c.loop-index-test.true, c.cells-index-end.ensures.cells)) in
    let e = ap (λ (fs : List ℕ). get_or fs 0 0) c.facets.ensures.facets in
    let l = as-many (flag_negative (g.S.Graded.space c.args.signed.now) (g.S.Signed.negative c.args.signed.now) (c.args.dim - 1)) (count (g.S.Graded.space c.args.signed.now) (c.args.dim - 1)) c.args.below.now c.requires.below in
    omega (arith, w.0, w.1, e, l)

pub loop-index-preserved : goal.loop-index-preserved
loop-index-preserved g c =
    let w = first-there (g.S.Graded.space c.args.signed.now) (g.S.Signed.negative c.args.signed.now) c.args.dim (c.loop-index.index + 1) c.cells-index-end.ensures.valid c.requires.low (omega arith) (omega (arith, c.loop-index-test.true, c.cells-index-end.ensures.cells)) in
    let first : ℕ = get_or (facets_of (g.S.Graded.space c.args.signed.now) c.args.dim (c.loop-index.index + 1)) 0 0 in
    let e = ap (λ (fs : List ℕ). get_or fs 0 0) c.facets.ensures.facets in
    let below = number-at (flag_negative (g.S.Graded.space c.args.signed.now) (g.S.Signed.negative c.args.signed.now) (c.args.dim - 1)) (count (g.S.Graded.space c.args.signed.now) (c.args.dim - 1)) first c.args.below.now false c.requires.below w.0 w.1 in
    numbers-more (flag_negative (g.S.Graded.space c.args.signed.now) (g.S.Signed.negative c.args.signed.now) c.args.dim) c.loop-index.index c.loop-index.signs.items c.push.new.self.items c.is_one.result c.in_ok-push.ensures.items c.loop-index.invariant
    (c.is_one.ensures
    ∙ (ap (λ (b : Bool). other_sign b (get_or c.args.below.now ((get_or c.facets.result.now 0 0) - 1) false)) (c.is_minus-step.ensures ∙ ap ((g.S.Signed.negative c.args.signed.now) c.args.dim (c.loop-index.index + 1)) e)
    ∙ (ap (λ (k : ℕ). other_sign ((g.S.Signed.negative c.args.signed.now) c.args.dim (c.loop-index.index + 1) first) (get_or c.args.below.now (k - 1) false)) e
    ∙ (ap (other_sign ((g.S.Signed.negative c.args.signed.now) c.args.dim (c.loop-index.index + 1) first)) below ∙ sym (flag-step (g.S.Graded.space c.args.signed.now) (g.S.Signed.negative c.args.signed.now) c.args.dim (c.loop-index.index + 1) c.requires.low)))))
