use Rattle.std.proofs.Common.{◌≡◌, ◌<◌, ◌≤◌, ◌+◌, ℕ, List, Bool, cond, length, get_or, ap, ◌∙◌, arith, refl}
use Rattle.number_lists.specs.Words.{holds}
use Rattle.number_lists.specs.Found.{IsMarked, Numbers}
use Rattle.number_lists.proofs.Marked.{marked-at}
use Rattle.number_lists.proofs.Touch.{touch-more, touch-all}
use Rattle.number_lists.proofs.found_numbers.FoundNumbers.write.Goals as goal

pub loop-number-init : goal.loop-number-init
loop-number-init c = (c.deref-number-items.ensures.value ∙ ap (λ (f : Numbers). f.found) c.self.view_is, λ k l. refl)

-- the number at a place is one of those that can be marked
number_at : (marks : List Bool) (found items : List ℕ) (k : ℕ) → IsMarked marks found → items ≡ found → k < length items → (1 ≤ get_or items k 0) × (get_or items k 0 ≤ length marks)
number_at marks found items k h e l =
    let w = marked-at marks found k 0 h (omega (arith, ap length e)) in
    (omega (arith, w.0, ap (λ (xs : List ℕ). get_or xs k 0) e), omega (arith, w.1, ap (λ (xs : List ℕ). get_or xs k 0) e))

pub overflow_sub-places : goal.overflow_sub-places
overflow_sub-places c = (number_at c.self.inside.marks.items c.self.inside.numbers.items c.deref-number-items.result.now c.loop-number.number-index c.self.invariant c.deref-number-items.ensures.value c.loop-number-test.true).0

pub bounds-places-number : goal.bounds-places-number
bounds-places-number c =
    let w = number_at c.self.inside.marks.items c.self.inside.numbers.items c.deref-number-items.result.now c.loop-number.number-index c.self.invariant c.deref-number-items.ensures.value c.loop-number-test.true in
    omega (arith, w.0, w.1, ap (λ (f : Numbers). f.most) c.self.view_is, c.requires, c.loop-number.auto.places)

pub loop-number-preserved : goal.loop-number-preserved
loop-number-preserved c =
    let w = number_at c.self.inside.marks.items c.self.inside.numbers.items c.deref-number-items.result.now c.loop-number.number-index c.self.invariant c.deref-number-items.ensures.value c.loop-number-test.true in (
      c.loop-number.invariant.0,
      touch-more 0 (λ _. c.args.value) c.deref-number-items.result.now c.loop-number.number-index c.args.places.now c.loop-number.places c.args.value c.loop-number-test.true w.0
          (omega (arith, w.1, ap (λ (f : Numbers). f.most) c.self.view_is, c.requires)) c.loop-number.auto.places refl c.loop-number.invariant.1,
    )

pub returns : goal.returns
returns c k l =
    touch-all 0 (λ _. c.args.value) c.deref-number-items.result.now c.loop-number.number-index c.args.places.now c.loop-number.places c.loop-number-test.false c.loop-number.invariant.1 k l
    ∙ ap (λ (xs : List ℕ). cond (holds xs (k + 1)) c.args.value (get_or c.args.places.now k 0)) c.loop-number.invariant.0
