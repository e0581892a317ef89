use Rattle.std.proofs.Common.{[], ◌∷◌, refl, sym, subst, arith}
use Rattle.sheet_laws.specs.Tables.{IsTransitive}
use Rattle.live_laws.proofs.CallerLemmas.{appearing_is_transitive}
use Rattle.tests_covers.proofs.leasts.three_sheets_round_a_circle_are_least.Goals as goal

pub is_least_table-requires-clause-transitive : goal.is_least_table-requires-clause-transitive
is_least_table-requires-clause-transitive g c = subst (λ t. IsTransitive t.columns t.sheets t.cells) (sym c.in_ok-table.ensures) (appearing_is_transitive 1 3 (2 ∷ 3 ∷ 1 ∷ []) (omega arith) refl refl)
