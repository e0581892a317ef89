use Rattle.std.proofs.Common.{◌≡◌, ℕ, List, Option, Some, None, length, sym, subst}
use Rattle.std.specs.List.{find}
use Rattle.std.proofs.lemmas.Bool.{false≢true}
use Rattle.number_lists.specs.Words.{upto}
use Rattle.chosen_field.specs.Rests.{is_single}
use Rattle.chosen_field.proofs.Singles.{least_single, none_single, no_keys}
use Rattle.chosen_field.proofs.counts.Counts.first.Goals as goal

pub returns-in-Some : goal.returns-in-Some
returns-in-Some c =
    subst (λ (counts : List ℕ). Some c.in-Some.cell.now ≡ find (is_single counts) (upto (length counts))) c.self.view_is
    (sym (least_single c.self.inside.numbers.items c.self.inside.single c.in-Some.cell.now c.self.invariant c.in-Some.ensures.member c.in-Some.ensures.least))

pub returns-in-None : goal.returns-in-None
returns-in-None c =
    subst (λ (counts : List ℕ). ◌≡◌ {A = Option ℕ} None (find (is_single counts) (upto (length counts)))) c.self.view_is
    (sym (none_single c.self.inside.numbers.items c.self.inside.single c.self.invariant (no_keys c.self.inside.single.keys (λ l. false≢true (c.in-None.ensures.variant.1 l)))))
