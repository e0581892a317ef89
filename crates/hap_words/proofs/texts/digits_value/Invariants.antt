use Rattle.std.proofs.Common.{◌≡◌, ◌<◌, ◌^◌, drop}
use Rattle.hap_words.specs.Texts.{number_from}
use Rattle.hap_words.proofs.texts.digits_value.Given as goal

abbrev pub invariant-loop-digit : goal.invariant-loop-digit
invariant-loop-digit l = (l.value < 10 ^ l.digit-index) × (number_from l.value (drop l.digit-index l.digits) ≡ number_from 0 l.digits)
