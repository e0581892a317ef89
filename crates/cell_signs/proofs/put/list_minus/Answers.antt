use Rattle.std.proofs.Common.{◌≡◌, ℕ, List, [], ◌∷◌, ◌++◌, Bool, true, false, take, filter, get_or, ap, sym, ◌∙◌}
use Rattle.std.proofs.lemmas.List.{get_or-map, take_all, append-nil}
use Rattle.cell_signs.proofs.Listed.{filter_more}
use Rattle.cell_signs.proofs.put.list_minus.Goals.{then-signs-index+in_ok-push, else-signs-index}
use Rattle.cell_signs.proofs.put.list_minus.Goals as goal

pub loop-index-preserved : goal.loop-index-preserved
loop-index-preserved c = λ values e.
    let numbers : List ℕ = c.args.numbers.now in
    let i : ℕ = c.loop-index.index in
    let value : get_or c.args.signs.now i false ≡ values (get_or numbers i 0) = ap (λ (bs : List Bool). get_or bs i false) e ∙ get_or-map values numbers i 0 false c.loop-index-test.true in
    elim c.if-signs-index.branch [
      | then-signs-index+in_ok-push w ↦
          ap (λ v. v.items) w.minus-is
          ∙ (w.in_ok-push.ensures.items
          ∙ (ap (λ (xs : List ℕ). xs ++ get_or numbers i 0 ∷ []) (c.loop-index.invariant values e) ∙ sym (filter_more values numbers i 0 true c.loop-index-test.true (sym value ∙ w.if-signs-index.true))))
      | else-signs-index w ↦
          ap (λ v. v.items) w.minus-is
          ∙ (c.loop-index.invariant values e ∙ (sym (append-nil (filter values (take i numbers))) ∙ sym (filter_more values numbers i 0 false c.loop-index-test.true (sym value ∙ w.if-signs-index.false))))
    ]

pub returns : goal.returns
returns c = λ values e. c.loop-index.invariant values e ∙ ap (filter values) (take_all c.loop-index.index c.args.numbers.now c.loop-index-test.false)
