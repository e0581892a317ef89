-- A field's cells of one dimension that are in no pair, collapsed.
use Rattle.std.proofs.Common.{◌≡◌, ℕ, ◌+◌, ◌<◌, ◌≤◌, List, not, reverse, All, sym, ◌∙◌, ap, subst, arith}
use Rattle.face_poset.specs.declared.cells.Pair.{Pair}
use Rattle.face_poset.specs.Poset.{count}
use Rattle.number_lists.specs.Words.{upto}
use Rattle.number_lists.proofs.CallerLemmas.{All-upto}
use Rattle.std.proofs.lemmas.List.Elements.{All-filter}
use Rattle.vector_field.specs.Pairs.{Field, critical_of, unpaired, is_used}
use Rattle.vector_field.specs.Stages.{IsAbove}
use Rattle.vector_field.proofs.CallerLemmas.{critical-is}
use Rattle.chosen_field.specs.Chosen.{collapsed, free_pairs}

module _ (space : List (List (List ℕ))) (field : Field) (dim : ℕ) (low : dim < 3) (h : IsAbove space (dim + 1) field) where
  critical : critical_of field (dim + 1) ≡ unpaired field.pairs (dim + 1) (count space (dim + 1))
  critical = critical-is space field (dim + 1) (record { counts = h.counts; valid = h.valid }) (omega (arith, low))

  pub critical_within : (cells : List ℕ) → cells ≡ critical_of field (dim + 1) → All (λ c. (1 ≤ c) × (c ≤ count space (dim + 1))) cells
  critical_within cells e =
      subst (λ (xs : List ℕ). All (λ c. (1 ≤ c) × (c ≤ count space (dim + 1))) xs) (sym (e ∙ critical))
      (All-filter (λ c. not (is_used field.pairs (dim + 1) c)) (λ c. (1 ≤ c) × (c ≤ count space (dim + 1))) (upto (count space (dim + 1))) (All-upto (count space (dim + 1))))

  pub critical_pairs : (cells : List ℕ) (made made' : List Pair) → cells ≡ critical_of field (dim + 1) → made ≡ collapsed space dim cells → made' ≡ reverse made → made' ≡ free_pairs space dim field.pairs
  critical_pairs cells made made' e f g = g ∙ ap (λ (ps : List Pair). reverse ps) (f ∙ ap (collapsed space dim) (e ∙ critical))
