use Rattle.std.proofs.Common.{◌≡◌, ◌<◌, ◌^◌, drop}
use Rattle.certificates.specs.Numbers.{number_from}
use Rattle.cert_lines.proofs.word.digits_value.Given as goal

abbrev pub invariant-loop-digit : goal.invariant-loop-digit
invariant-loop-digit l = (l.value < 10 ^ l.digit-index) × (number_from l.value (drop l.digit-index l.digits) ≡ number_from 0 l.digits)
