use Rattle.std.proofs.Common.{◌≡◌, ℕ, ◌+◌, List, [], ◌∷◌, ◌++◌, map, ap, sym, ◌∙◌}
use Rattle.std.proofs.lemmas.List.{map-append}
use Rattle.number_lists.specs.Words.{upto}
use Rattle.number_lists.proofs.CallerLemmas.{upto_more}
use Rattle.local_field.specs.Buildings.{flag_of}
use Rattle.local_field.specs.Listed.{number_under}
use Rattle.local_field.specs.Numbered.{number_of}
use Rattle.local_field.proofs.Putting.{number-alone}
use Rattle.local_field.proofs.numbering.number_flags.Goals as goal

pub loop-index-preserved : goal.loop-index-preserved
loop-index-preserved g c =
    let space : List (List (List ℕ)) = g.G.Graded.space c.args.graded.now in
    let N : ℕ → ℕ = λ n. number_of space (flag_of space c.args.dim n) in
    let i : ℕ = c.loop-index.index in
    let number : c.in_ok-number_under.field-0 ≡ N (i + 1) =
    c.in_ok-number_under.ensures
    ∙ (ap (λ (s : List (List (List ℕ))). number_under s [] c.deref.result.now) c.requires.same ∙ (ap (number_under space []) (c.deref.ensures.value ∙ c.in_ok-flag.ensures) ∙ number-alone space (flag_of space c.args.dim (i + 1)))) in
    c.in_ok-push.ensures.items
    ∙ (ap (λ (xs : List ℕ). xs ++ c.in_ok-number_under.field-0 ∷ []) c.loop-index.invariant
    ∙ (ap (λ (k : ℕ). map N (upto i) ++ k ∷ []) number ∙ sym (ap (map N) (upto_more i) ∙ map-append N (upto i) ((i + 1) ∷ []))))
