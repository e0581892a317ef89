use Rattle.std.proofs.Common.{ℕ, List, take, get_or, ap, sym, ◌∙◌}
use Rattle.std.proofs.lemmas.List.{take_more}
use Rattle.number_lists.specs.Found.{inserted, inserted_all}
use Rattle.number_lists.proofs.Inserted.{inserted_all-push}
use Rattle.number_lists.proofs.found_numbers.FoundNumbers.insert_all.Goals as goal

pub loop-number-preserved : goal.loop-number-preserved
loop-number-preserved c =
    let xs : List ℕ = c.args.numbers.now in
    let i : ℕ = c.loop-number.number-index in
    let before : List ℕ = c.args.self.now.found in (
      c.insert.ensures.most ∙ c.loop-number.invariant.0,
      c.in_ok-insert.ensures.found
          ∙ (ap (λ (ns : List ℕ). inserted ns (get_or xs i 0)) c.loop-number.invariant.1
          ∙ sym (ap (inserted_all before) (take_more xs i 0 c.loop-number-test.true) ∙ inserted_all-push before (take i xs) (get_or xs i 0))),
    )
