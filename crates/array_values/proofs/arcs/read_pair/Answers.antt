use Rattle.std.proofs.Common.{◌≡◌, ap, ◌∙◌, sym, Option, Some, arith, length, ℕ, ◌≢◌}
use Rattle.gap_text.specs.Nest.{view}
use Rattle.gap_text.specs.declared.nest.Nest.{Nest}
use Rattle.array_values.specs.Arcs.{pair_in, both, number_of}
use Rattle.array_values.proofs.Rows.{pair_in-list, pair_of-other, pair_of-first, pair_of-two}
use Rattle.array_values.proofs.arcs.read_pair.Goals as goal

pub returns-then-len-ne2 : goal.returns-then-len-ne2
returns-then-len-ne2 c =
    let other : length c.in-List.items ≢ 2 = omega (arith, c.len.ensures, c.if-len-ne2.true) in
    sym (ap (λ (n : Nest). pair_in (view n)) c.in-List.is ∙ (pair_in-list c.in-List.place c.in-List.items ∙ pair_of-other c.in-List.items other))

pub returns-in_err-left : goal.returns-in_err-left
returns-in_err-left c =
    let two : length c.in-List.items ≡ 2 = omega (arith, c.len.ensures, c.if-len-ne2.false) in
    sym (ap (λ (n : Nest). pair_in (view n)) c.in-List.is ∙ (pair_in-list c.in-List.place c.in-List.items
    ∙ (pair_of-first c.in-List.items (view c.get.result.now) two c.get.ensures (sym c.in_err-left.ensures) ∙ sym c.from_residual.ensures)))

pub returns-in_err-right : goal.returns-in_err-right
returns-in_err-right c =
    let two : length c.in-List.items ≡ 2 = omega (arith, c.len.ensures, c.if-len-ne2.false) in
    sym (ap (λ (n : Nest). pair_in (view n)) c.in-List.is ∙ (pair_in-list c.in-List.place c.in-List.items
    ∙ (pair_of-two c.in-List.items (view c.get.result.now) (view c.get-2.result.now) two c.get.ensures c.get-2.ensures
    ∙ (ap (λ (o : Option ℕ). both o (number_of (view c.get-2.result.now))) (sym c.in_ok-left.ensures)
    ∙ (ap (λ (o : Option ℕ). both (Some c.in_ok-left.left) o) (sym c.in_err-right.ensures) ∙ sym c.from_residual-in_err-right.ensures)))))

pub returns : goal.returns
returns c =
    let two : length c.in-List.items ≡ 2 = omega (arith, c.len.ensures, c.if-len-ne2.false) in
    sym (ap (λ (n : Nest). pair_in (view n)) c.in-List.is ∙ (pair_in-list c.in-List.place c.in-List.items
    ∙ (pair_of-two c.in-List.items (view c.get.result.now) (view c.get-2.result.now) two c.get.ensures c.get-2.ensures
    ∙ (ap (λ (o : Option ℕ). both o (number_of (view c.get-2.result.now))) (sym c.in_ok-left.ensures) ∙ ap (λ (o : Option ℕ). both (Some c.in_ok-left.left) o) (sym c.in_ok-right.ensures)))))
