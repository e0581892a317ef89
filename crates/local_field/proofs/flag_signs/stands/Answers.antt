use Rattle.std.proofs.Common.{Err, sym, ◌∙◌}
use Rattle.std.proofs.lemmas.List.{get_or_default}
use Rattle.std.proofs.lemmas.List.Sorted.{searched}
use Rattle.number_lists.proofs.CallerLemmas.{holds-none}
use Rattle.local_field.proofs.FlagSigns.{rising_up, beside}
use Rattle.local_field.proofs.flag_signs.stands.Goals as goal

pub returns-in-Err : goal.returns-in-Err
returns-in-Err c =
    let s = searched c.args.numbers.now c.args.number (Err c.in-Err.field-0) c.in-Err.ensures.position (rising_up c.args.numbers.now c.requires) in
    sym (holds-none c.args.numbers.now c.args.number (λ k d l e. beside c.args.numbers.now c.args.number c.in-Err.field-0 s.1 s.2 k l (get_or_default c.args.numbers.now k 0 d l ∙ e)))
