use Rattle.std.proofs.Common.{Bool, List, set, Ok, Err, ap, ◌∙◌}
use Rattle.std.proofs.lemmas.List.Sorted.{searched}
use Rattle.cell_signs.proofs.Sums.{once_rising}
use Rattle.cell_signs.proofs.Placed.{put_at, put_nowhere, rising_up, beside}
use Rattle.cell_signs.proofs.put.put_sign.Goals as goal

pub returns-in-Ok : goal.returns-in-Ok
returns-in-Ok c =
    let s = searched c.args.numbers.now c.args.number (Ok c.in-Ok.place) c.in-Ok.ensures.position (rising_up c.args.numbers.now c.requires.rises) in
    record { put = λ values e. ap (λ (xs : List Bool). set xs c.in-Ok.place c.args.sign) e ∙ put_at values c.args.numbers.now c.in-Ok.place c.args.number c.args.sign (once_rising c.args.numbers.now c.requires.rises) s.0 s.1 }

pub returns-in_default : goal.returns-in_default
returns-in_default c =
    let s = searched c.args.numbers.now c.args.number (Err c.in_default.field-0) c.in_default.ensures.position (rising_up c.args.numbers.now c.requires.rises) in
    record { put = λ values e. e ∙ put_nowhere values c.args.numbers.now c.args.number c.args.sign (beside c.args.numbers.now c.args.number c.in_default.field-0 s.1 s.2) }
