use Rattle.std.proofs.Common.{◌≡◌, ◌++◌, ◌∷◌, [], ◌∙◌, ap, sym, List, ℕ, arith}
use Rattle.gap_text.specs.Nest.{view}
use Rattle.gap_text.specs.Value.{depth}
use Rattle.gap_text.specs.declared.nest.Nest.{Nest}
use Rattle.array_values.proofs.Levels.{sizes_onto, sizes_onto-step, depth-first}
use Rattle.array_values.proofs.bits.read_sizes.Goals as goal

pub loop-first-smaller : goal.loop-first-smaller
loop-first-smaller c =
    let is : depth (view c.loop-first.first.now) ≡ depth (view (Nest.List c.in-List.place c.in-List.items)) = ap (λ (n : Nest). depth (view n)) c.in-List.is in
    omega (arith, depth-first c.in-List.place c.in-List.items (view c.get-first.result.now) c.get-first.ensures)

pub loop-first-preserved : goal.loop-first-preserved
loop-first-preserved c =
    c.loop-first.invariant ∙ (ap (λ (n : Nest). sizes_onto c.loop-first.sizes.items (view n)) c.in-List.is
    ∙ (sizes_onto-step c.loop-first.sizes.items c.in-List.place c.in-List.items (view c.get-first.result.now) c.get-first.ensures
    ∙ ap (λ (ns : List ℕ). sizes_onto ns (view c.get-first.result.now)) (ap (λ (n : ℕ). c.loop-first.sizes.items ++ n ∷ []) (sym c.len-in-List.ensures) ∙ sym c.in_ok-push.ensures.items)))
