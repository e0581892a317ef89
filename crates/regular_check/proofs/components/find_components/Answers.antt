use Rattle.std.proofs.Common.{◌≡◌, ◌<◌, ◌+◌, ℕ, List, ◌++◌, take, drop, cond, length, get_or, ap, ◌∙◌, sym, subst, arith, Vec, Global}
use Rattle.std.proofs.lemmas.List.{get_or_default}
use Rattle.std.proofs.lemmas.Grind.{common_steps}
use Rattle.number_lists.specs.Words.{holds}
use Rattle.face_poset.specs.Poset.{count}
use Rattle.number_lists.specs.Found.{Numbers}
use Rattle.regular_check.specs.Components.{Numbering, component_count}
use Rattle.regular_check.proofs.Numbered.{IsNumbered, number_low, numbered_idle, numbered_more, numbered_all}
use Rattle.regular_check.proofs.components.find_components.Goals as goal
use Rattle.regular_check.proofs.components.find_components.Goals.{then-index-eq0+in_ok-find_joined, else-index-eq0}

-- what was written to the whole of a vector is what it holds
written_back : (size : ℕ) (new old : List ℕ) → length new ≡ length old → length old ≡ size → take size (new ++ drop (length new) old) ≡ new
written_back size new old e f = grind (arith, common_steps)

pub overflow_add-count : goal.overflow_add-count
overflow_add-count c = omega (arith, number_low c.args.space.now c.loop-index.index c.loop-index.count c.loop-index.numbers.items c.loop-index.invariant.1, c.loop-index-test.true, c.cells-index-end.type_inv)

pub loop-index-preserved : goal.loop-index-preserved
loop-index-preserved c =
    let lt : c.loop-index.index < count c.args.space.now 0 = omega (arith, c.loop-index-test.true, c.cells-index-end.ensures.cells) in
    let h : IsNumbered c.args.space.now c.loop-index.index c.loop-index.count c.loop-index.numbers.items = c.loop-index.invariant.1 in
    let at : c.index.result.now ≡ get_or c.loop-index.numbers.items c.loop-index.index 0 = c.index.ensures ∙ get_or_default c.loop-index.numbers.items c.loop-index.index c.index.result.now 0 (omega (arith, lt, h.long)) in
    elim c.if-index-eq0.branch [
      | then-index-eq0+in_ok-find_joined w ↦ (
        ap (λ (m : Numbers). m.most) w.found-is ∙ (w.find_joined.ensures.most ∙ c.loop-index.invariant.0),
        let numbers : List ℕ = c.loop-index.numbers.items in
            let new : List ℕ = w.write.new.places in
            let found : List ℕ = w.find_joined.new.found.found in
            let long : length new ≡ length numbers = w.write.auto.places ∙ ap length w.deref_mut.ensures.value in
            let written : (k : ℕ) → k < length numbers → get_or new k 0 ≡ cond (holds found (k + 1)) (c.loop-index.count + 1) (get_or numbers k 0) =
            subst (λ (old : List ℕ). (k : ℕ) → k < length old → get_or new k 0 ≡ cond (holds found (k + 1)) (c.loop-index.count + 1) (get_or old k 0)) w.deref_mut.ensures.value w.write.ensures in
            subst (λ (ns : List ℕ). IsNumbered c.args.space.now (c.loop-index.index + 1) c.if-index-eq0.count ns) (sym (ap (λ (v : Vec ℕ Global). v.items) w.numbers-is ∙ written_back c.loop-index.numbers.len new numbers long (omega (arith, c.loop-index.numbers.ok.0))))
            (subst (λ (n : ℕ). IsNumbered c.args.space.now (c.loop-index.index + 1) n new) (sym w.count-is)
            (numbered_more c.args.space.now c.loop-index.index c.loop-index.count numbers lt h (sym at ∙ w.if-index-eq0.true) found new w.in_ok-find_joined.ensures.found long written)),
      )
      | else-index-eq0 w ↦ (
        ap (λ (m : Numbers). m.most) w.found-is ∙ c.loop-index.invariant.0,
        subst (λ (ns : List ℕ). IsNumbered c.args.space.now (c.loop-index.index + 1) c.if-index-eq0.count ns) (sym (ap (λ (v : Vec ℕ Global). v.items) w.numbers-is))
            (subst (λ (n : ℕ). IsNumbered c.args.space.now (c.loop-index.index + 1) n c.loop-index.numbers.items) (sym w.count-is)
            (numbered_idle c.args.space.now c.loop-index.index c.loop-index.count c.loop-index.numbers.items lt h (λ q. w.if-index-eq0.false (at ∙ q)))),
      )
    ]

pub returns : goal.returns
returns c =
    let w = numbered_all c.args.space.now c.loop-index.index c.loop-index.count c.loop-index.numbers.items (omega (arith, c.loop-index-test.false, c.loop-index.auto.index-end, c.cells-index-end.ensures.cells)) c.loop-index.invariant.1 in
    ap (λ (n : ℕ). let r : Numbering = record { count = n; numbers = c.loop-index.numbers.items } in r) w.0
    ∙ ap (λ (ns : List ℕ). let r : Numbering = record { count = component_count c.args.space.now; numbers = ns } in r) w.1
