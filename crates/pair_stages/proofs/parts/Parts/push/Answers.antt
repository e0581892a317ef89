use Rattle.std.proofs.Common.{◌≡◌, ◌≤◌, ℕ, List, [], ◌∷◌, ◌++◌, length, length-append, arith, ap, ◌∙◌, sym, subst}
use Rattle.number_lists.specs.Cuts.{cut, IsCut}
use Rattle.pair_stages.specs.Columns.{Parts}
use Rattle.pair_stages.proofs.Cuts.{cut-push, IsCut-push}
use Rattle.pair_stages.proofs.parts.Parts.push.Goals as goal

cells_are : (c : goal.In_ok-push) → c.extend_from_slice.new.self.items ≡ c.self.inside.cells.items ++ c.args.cells.now
cells_are c = c.in_ok-extend_from_slice.ensures.items

values_are : (c : goal.In_ok-push) → c.extend_from_slice-2.new.self.items ≡ c.self.inside.values.items ++ c.args.values.now
values_are c = c.in_ok-extend_from_slice-2.ensures.items ∙ ap (λ (xs : List ℕ). xs ++ c.args.values.now) c.in_ok-reserve-2.ensures.items

ends_are : (c : goal.In_ok-push) → c.push.new.self.items ≡ c.self.inside.ends.items ++ length (c.self.inside.cells.items ++ c.args.cells.now) ∷ []
ends_are c =
    let a : c.reserve.new.self.items ≡ c.self.inside.ends.items = c.in_ok-reserve.ensures.items in
    let n : c.len.result ≡ length (c.self.inside.cells.items ++ c.args.cells.now) = c.len.ensures ∙ (c.extend_from_slice.new.self.ok.0 ∙ ap length (cells_are c)) in
    c.in_ok-push.ensures.items ∙ (ap (λ (xs : List ℕ). xs ++ c.len.result ∷ []) a ∙ ap (λ (m : ℕ). c.self.inside.ends.items ++ m ∷ []) n)

as_long : (c : goal.In_ok-push) → length (c.self.inside.cells.items ++ c.args.cells.now) ≡ length (c.self.inside.values.items ++ c.args.values.now)
as_long c = length-append c.self.inside.cells.items c.args.cells.now ∙ (omega (arith, c.self.invariant.1, c.requires) ∙ sym (length-append c.self.inside.values.items c.args.values.now))

pub invariant_of-self-2 : goal.invariant_of-self-2
invariant_of-self-2 c =
    let xs : List ℕ = c.self.inside.cells.items in
    let ys : List ℕ = c.args.cells.now in
    let more : length xs ≤ length (xs ++ ys) = omega (arith, length-append xs ys) in (
      subst (λ (es : List ℕ). IsCut 0 es (length c.extend_from_slice.new.self.items)) (sym (ends_are c))
          (subst (λ (zs : List ℕ). IsCut 0 (c.self.inside.ends.items ++ length (xs ++ ys) ∷ []) (length zs)) (sym (cells_are c))
          (IsCut-push 0 c.self.inside.ends.items (length xs) (length (xs ++ ys)) more c.self.invariant.0)),
      ap (λ (zs : List ℕ). length zs) (values_are c) ∙ (sym (as_long c) ∙ ap (λ (zs : List ℕ). length zs) (sym (cells_are c))),
    )

pub returns-clause-cells : goal.returns-clause-cells
returns-clause-cells c =
    let xs : List ℕ = c.self.inside.cells.items in
    let ys : List ℕ = c.args.cells.now in
    ap (λ (es : List ℕ). cut 0 es c.extend_from_slice.new.self.items) (ends_are c)
    ∙ (ap (cut 0 (c.self.inside.ends.items ++ length (xs ++ ys) ∷ [])) (cells_are c)
    ∙ (cut-push 0 c.self.inside.ends.items xs ys c.self.invariant.0 ∙ ap (λ (v : Parts). v.cells ++ ys ∷ []) c.self.view_is))

pub returns-clause-values : goal.returns-clause-values
returns-clause-values c =
    let xs : List ℕ = c.self.inside.values.items in
    let ys : List ℕ = c.args.values.now in
    ap (λ (es : List ℕ). cut 0 es c.extend_from_slice-2.new.self.items) (ends_are c ∙ ap (λ (n : ℕ). c.self.inside.ends.items ++ n ∷ []) (as_long c))
    ∙ (ap (cut 0 (c.self.inside.ends.items ++ length (xs ++ ys) ∷ [])) (values_are c)
    ∙ (cut-push 0 c.self.inside.ends.items xs ys (subst (IsCut 0 c.self.inside.ends.items) (sym c.self.invariant.1) c.self.invariant.0) ∙ ap (λ (v : Parts). v.values ++ ys ∷ []) c.self.view_is))
