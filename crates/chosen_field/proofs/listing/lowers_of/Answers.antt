use Rattle.std.proofs.Common.{◌≡◌, ◌≤◌, ℕ, ◌+◌, List, length, set, get_or, ◌-◌, ◌∙◌, ap, sym, subst, arith, replicate}
use Rattle.std.proofs.lemmas.List.{length-replicate, length-set}
use Rattle.face_poset.specs.Poset.{count}
use Rattle.chosen_field.specs.Listings.{AreLowers}
use Rattle.chosen_field.proofs.FirstWaits.{at-next, lowers-none, lowers-pass, lowers-put}
use Rattle.chosen_field.proofs.listing.lowers_of.Goals as goal
use Rattle.chosen_field.proofs.listing.lowers_of.Goals.{then-upper-ne0, else-upper-ne0}

pub index_mut-requires : goal.index_mut-requires
index_mut-requires g c =
    omega (arith, c.if-upper-ne0.true, c.requires.uppers.last (c.loop-index.index + 1) (omega arith), at-next c.args.uppers.now c.loop-index.index, c.loop-index.invariant.0, c.loop-index.lowers.ok.0)

pub loop-index-init : goal.loop-index-init
loop-index-init g c =
    let e : c.in_ok-lowers.lowers.items ≡ replicate c.cells.result 0 = c.in_ok-lowers.ensures.items_if_clones_equal (λ y e. e) in (
      ap (λ (xs : List ℕ). length xs) e ∙ (length-replicate {A = ℕ} c.cells.result 0 ∙ c.cells.ensures.cells),
      lowers-none c.args.uppers.now c.in_ok-lowers.lowers.items c.cells.result e,
    )

-- one cell more
module _ (space : List (List (List ℕ))) (dim i : ℕ) (uppers lowers new : List ℕ) (long : length lowers ≡ count space (dim + 1)) where
  still : (u x : ℕ) → new ≡ set lowers (u - 1) x → length new ≡ count space (dim + 1)
  still u x e = ap (λ (xs : List ℕ). length xs) e ∙ (length-set lowers (u - 1) x ∙ long)

pub loop-index-preserved : goal.loop-index-preserved
loop-index-preserved g c =
    let space : List (List (List ℕ)) = g.G.Graded.space c.args.graded.now in
    let uppers : List ℕ = c.args.uppers.now in
    let i : ℕ = c.loop-index.index in
    let lowers : List ℕ = c.loop-index.lowers.items in
    elim c.if-upper-ne0.branch [
      | then-upper-ne0 w ↦
          let some : 1 ≤ get_or uppers i 0 = omega (arith, w.if-upper-ne0.true) in
          let e : c.if-upper-ne0.lowers.items ≡ set lowers (get_or uppers i 0 - 1) (i + 1) = ap (λ v. v.items) w.lowers-is in (
            still space c.args.dim i uppers lowers c.if-upper-ne0.lowers.items c.loop-index.invariant.0 (get_or uppers i 0) (i + 1) e,
            lowers-put space c.args.dim uppers lowers c.if-upper-ne0.lowers.items i c.requires.uppers c.loop-index.invariant.0 c.loop-index.invariant.1 (get_or uppers i 0) (at-next uppers i) some e,
          )
      | else-upper-ne0 w ↦ (
        ap (λ v. length v.items) w.lowers-is ∙ c.loop-index.invariant.0,
        subst (AreLowers uppers (i + 1)) (sym (ap (λ v. v.items) w.lowers-is))
            (lowers-pass space c.args.dim uppers lowers lowers i c.requires.uppers c.loop-index.invariant.0 c.loop-index.invariant.1 (omega (arith, w.if-upper-ne0.false, at-next uppers i))),
      )
    ]
