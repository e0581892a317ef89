use Rattle.gap_text.proofs.Run.{fed-digits}
use Rattle.gap_text.proofs.reader.Reader.feed.Goals as goal

pub returns-in_ok-after_number-in_default-class-2 : goal.returns-in_ok-after_number-in_default-class-2
returns-in_ok-after_number-in_default-class-2 c =
    rw (fed-digits _ _ _ _ _ c.args.place _ c.in-Digits.is c.in_default-class-2.not-Digit c.in_ok-after_number-in_default-class-2.ensures) c.begin-in_default-class-2.ensures
