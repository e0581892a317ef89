use Rattle.std.proofs.Common.{◌≡◌, ◌≤◌, ℕ, List, [], ◌∷◌, ◌++◌, length, length-append, arith, ap, ◌∙◌, sym, subst}
use Rattle.number_lists.specs.Cuts.{cut, IsCut}
use Rattle.number_lists.proofs.Cuts.{cut-push, IsCut-push}
use Rattle.number_lists.proofs.lists.Lists.push.Goals as goal

entries_are : (c : goal.In_ok-push) → c.extend_from_slice.new.self.items ≡ c.self.inside.entries.items ++ c.args.list.now
entries_are c = c.in_ok-extend_from_slice.ensures.items

ends_are : (c : goal.In_ok-push) → c.push.new.self.items ≡ c.self.inside.ends.items ++ length (c.self.inside.entries.items ++ c.args.list.now) ∷ []
ends_are c =
    let a : c.reserve.new.self.items ≡ c.self.inside.ends.items = c.in_ok-reserve.ensures.items in
    let n : c.in_ok-end.end ≡ length (c.self.inside.entries.items ++ c.args.list.now) = omega (arith, c.in_ok-end.ensures, c.len.ensures, c.self.inside.entries.ok.0, length-append c.self.inside.entries.items c.args.list.now) in
    c.in_ok-push.ensures.items ∙ (ap (λ (xs : List ℕ). xs ++ c.in_ok-end.end ∷ []) a ∙ ap (λ (m : ℕ). c.self.inside.ends.items ++ m ∷ []) n)

pub invariant_of-self-2 : goal.invariant_of-self-2
invariant_of-self-2 c =
    let xs : List ℕ = c.self.inside.entries.items in
    let ys : List ℕ = c.args.list.now in
    let more : length xs ≤ length (xs ++ ys) = omega (arith, length-append xs ys) in
    subst (λ (es : List ℕ). IsCut 0 es (length c.extend_from_slice.new.self.items)) (sym (ends_are c))
    (subst (λ (zs : List ℕ). IsCut 0 (c.self.inside.ends.items ++ length (xs ++ ys) ∷ []) (length zs)) (sym (entries_are c))
    (IsCut-push 0 c.self.inside.ends.items (length xs) (length (xs ++ ys)) more c.self.invariant))

pub returns-clause-ok : goal.returns-clause-ok
returns-clause-ok c =
    let xs : List ℕ = c.self.inside.entries.items in
    let ys : List ℕ = c.args.list.now in
    ap (λ (es : List ℕ). cut 0 es c.extend_from_slice.new.self.items) (ends_are c)
    ∙ (ap (cut 0 (c.self.inside.ends.items ++ length (xs ++ ys) ∷ [])) (entries_are c)
    ∙ (cut-push 0 c.self.inside.ends.items xs ys c.self.invariant ∙ ap (λ (zs : List (List ℕ)). zs ++ ys ∷ []) c.self.view_is))
