use Rattle.std.proofs.Common.{rules}
use Rattle.cert_lines.proofs.Digits.{ten_times_fits, one_digit_fits}
use Rattle.cert_lines.proofs.word.digits_value.Goals as goal

pub overflow_mul-value : goal.overflow_mul-value
overflow_mul-value c =
    ten_times_fits c.loop-digit.digit-index c.loop-digit.value (search rules) c.loop-digit.invariant.0

pub overflow_add-value : goal.overflow_add-value
overflow_add-value c =
    one_digit_fits c.loop-digit.digit-index c.loop-digit.value c.from.result (search rules) c.loop-digit.invariant.0 (search rules)
