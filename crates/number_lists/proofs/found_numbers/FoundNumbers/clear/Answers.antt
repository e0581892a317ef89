use Rattle.std.proofs.Common.{◌≡◌, ◌<◌, ◌≤◌, ◌-◌, ◌+◌, ℕ, List, Bool, false, length, get_or, set, take, ap, ◌∙◌, sym, subst, arith, refl}
use Rattle.std.proofs.lemmas.List.{length-set, get_or_default}
use Rattle.number_lists.specs.Found.{IsMarked, Numbers}
use Rattle.number_lists.proofs.Marked.{marked-cleared, marked-at}
use Rattle.number_lists.proofs.Touch.{IsTouched, touch-more}
use Rattle.number_lists.proofs.found_numbers.FoundNumbers.clear.Goals as goal

pub loop-index-init : goal.loop-index-init
loop-index-init c = (refl, refl, λ k l. refl)

pub index-requires : goal.index-requires
index-requires c = omega (arith, c.loop-index-test.true, c.len-index-end.ensures, c.loop-index.self-inside.numbers.ok.0, c.self.inside.numbers.ok.0, ap length c.loop-index.invariant.0)

-- the number at the place is marked
number_at : (marks : List Bool) (found now : List ℕ) (k x : ℕ) → IsMarked marks found → now ≡ found → k < length now → x ≡ get_or now k x → (1 ≤ x) × (x ≤ length marks) × (x ≡ get_or found k 0)
number_at marks found now k x h e l here =
    let lt : k < length found = omega (arith, ap length e) in
    let at : x ≡ get_or found k x = here ∙ ap (λ (xs : List ℕ). get_or xs k x) e in
    let w : (1 ≤ get_or found k x) × (get_or found k x ≤ length marks) = marked-at marks found k x h lt in
    (omega (arith, w.0, at), omega (arith, w.1, at), at ∙ get_or_default found k x 0 lt)

pub overflow_sub-index : goal.overflow_sub-index
overflow_sub-index c =
    (number_at c.self.inside.marks.items c.self.inside.numbers.items c.loop-index.self-inside.numbers.items c.loop-index.index c.index.result.now c.self.invariant c.loop-index.invariant.0
    (omega (arith, c.loop-index-test.true, c.len-index-end.ensures, c.self.inside.numbers.ok.0, ap length c.loop-index.invariant.0)) c.index.ensures).0

pub index_mut-requires : goal.index_mut-requires
index_mut-requires c =
    let w = number_at c.self.inside.marks.items c.self.inside.numbers.items c.loop-index.self-inside.numbers.items c.loop-index.index c.index.result.now c.self.invariant c.loop-index.invariant.0
    (omega (arith, c.loop-index-test.true, c.len-index-end.ensures, c.self.inside.numbers.ok.0, ap length c.loop-index.invariant.0)) c.index.ensures in
    omega (arith, w.0, w.1, c.loop-index.invariant.1, c.loop-index.self-inside.marks.ok.0)

pub loop-index-preserved : goal.loop-index-preserved
loop-index-preserved c =
    let marks : List Bool = c.self.inside.marks.items in
    let now : List Bool = c.loop-index.self-inside.marks.items in
    let found : List ℕ = c.self.inside.numbers.items in
    let i : ℕ = c.loop-index.index in
    let lt : i < length c.loop-index.self-inside.numbers.items = omega (arith, c.loop-index-test.true, c.len-index-end.ensures, c.self.inside.numbers.ok.0, ap length c.loop-index.invariant.0) in
    let w = number_at marks found c.loop-index.self-inside.numbers.items i c.index.result.now c.self.invariant c.loop-index.invariant.0 lt c.index.ensures in (
      c.loop-index.invariant.0,
      length-set now (c.index.result.now - 1) false ∙ c.loop-index.invariant.1,
      subst (λ (x : ℕ). IsTouched false (λ _. false) (take (i + 1) found) marks (set now (x - 1) false)) (sym w.2)
          (touch-more false (λ _. false) found i marks now false (omega (arith, lt, ap length c.loop-index.invariant.0)) (omega (arith, w.0, w.2)) (omega (arith, w.1, w.2)) c.loop-index.invariant.1 refl c.loop-index.invariant.2),
    )

pub invariant_of-self : goal.invariant_of-self
invariant_of-self c =
    subst (IsMarked c.loop-index.self-inside.marks.items) (sym c.clear.ensures.items)
    (marked-cleared c.self.inside.marks.items c.self.inside.numbers.items c.loop-index.index c.loop-index.self-inside.marks.items c.self.invariant
    (omega (arith, c.loop-index-test.false, c.len-index-end.ensures, c.self.inside.numbers.ok.0)) c.loop-index.invariant.1 c.loop-index.invariant.2)

pub returns-clause-most : goal.returns-clause-most
returns-clause-most c = omega (arith, c.loop-index.invariant.1, ap (λ (f : Numbers). f.most) c.self.view_is)
