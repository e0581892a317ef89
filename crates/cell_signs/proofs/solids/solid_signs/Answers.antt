use Rattle.std.proofs.Common.{◌≡◌, ℕ, ◌<◌, List, Bool, false, cond, eqb, map, take, length, refl, ap, sym, ◌∙◌, subst, arith}
use Rattle.std.proofs.lemmas.List.{with_items_is, length-map}
use Rattle.face_poset.specs.Poset.{IsSpace, facets_of}
use Rattle.regular_check.specs.Rules.{each_twice}
use Rattle.cell_signs.specs.Along.{solid_negative, cancelling}
use Rattle.cell_signs.proofs.Kept.{twice_kept}
use Rattle.cell_signs.proofs.Along.{none_signed, signed_more, signed_same}
use Rattle.cell_signs.proofs.solids.solid_signs.Goals.{then-pair-eq1, else-pair-eq1}
use Rattle.cell_signs.proofs.solids.solid_signs.Goals as goal

pub loop-index-init : goal.loop-index-init
loop-index-init c =
    c.in_ok-signs.ensures.items_if_clones_equal (λ y e. e)
    ∙ (none_signed (length c.facets-disks.result.now) c.facets-disks.result.now refl
    ∙ ap (map (λ _. false)) (c.facets-disks.ensures.facets ∙ ap (λ (space : List (List (List ℕ))). facets_of space 3 c.args.cell) c.space.ensures.same))

pub cancelling_sign-sign-requires-clause-twice : goal.cancelling_sign-sign-requires-clause-twice
cancelling_sign-sign-requires-clause-twice c =
    ap (λ (disks : List ℕ). each_twice c.args.regular.now 2 disks) (c.facets-disks.ensures.facets ∙ ap (λ (space : List (List (List ℕ))). facets_of space 3 c.args.cell) c.space.ensures.same)
    ∙ twice_kept c.args.regular.now (subst IsSpace c.space.ensures.same c.facets-disks.ensures.valid) c.space.ensures.regular c.args.cell c.requires.first c.requires.last

pub loop-index-preserved : goal.loop-index-preserved
loop-index-preserved c =
    let space : List (List (List ℕ)) = c.args.regular.now in
    let i : ℕ = c.loop-index.index in
    let within : i < length c.args.pairs.now = omega (arith, c.loop-index-test.true, c.len-index-end.ensures) in
    let disks : List ℕ = facets_of c.args.regular.now 3 c.args.cell in
    let here : c.facets-disks.result.now ≡ disks = c.facets-disks.ensures.facets ∙ ap (λ (space : List (List (List ℕ))). facets_of space 3 c.args.cell) c.space.ensures.same in
    let values : ℕ → Bool = solid_negative space c.args.cell (take i c.args.pairs.now) in
    let so_far : c.loop-index.signs.items ≡ map values c.facets-disks.result.now = c.loop-index.invariant ∙ ap (map values) (sym here) in
    elim c.if-pair-eq1.branch [
      | then-pair-eq1 w ↦
          let put = w.put_sign.ensures.put values (w.deref_mut.ensures.value ∙ so_far) in
          let upper : ℕ = c.get-pair.result.upper in
          let sign = w.cancelling_sign-sign.ensures values (w.deref.ensures.value ∙ so_far) ∙ ap (λ (cs : List ℕ). cancelling space cs values c.get-pair.result.lower upper) here in
          let long : length w.put_sign.new.signs ≡ c.loop-index.signs.len =
          ap (λ (bs : List Bool). length bs) put
          ∙ (length-map c.facets-disks.result.now (λ n. cond (eqb n upper) w.cancelling_sign-sign.result (values n))
          ∙ (sym (ap (λ (bs : List Bool). length bs) so_far ∙ length-map c.facets-disks.result.now values) ∙ sym c.loop-index.signs.ok.0)) in
          ap (λ v. v.items) w.signs-is
          ∙ (with_items_is c.loop-index.signs w.put_sign.new.signs long
          ∙ (put
          ∙ (ap (map (λ n. cond (eqb n upper) w.cancelling_sign-sign.result (values n))) here
          ∙ signed_more space disks c.args.pairs.now i c.get-pair.result (λ _. false) w.cancelling_sign-sign.result within c.get-pair.ensures w.if-pair-eq1.true sign disks)))
      | else-pair-eq1 w ↦
          ap (λ v. v.items) w.signs-is
          ∙ (c.loop-index.invariant ∙ signed_same space disks c.args.pairs.now i c.get-pair.result (λ _. false) within c.get-pair.ensures w.if-pair-eq1.false disks)
    ]
