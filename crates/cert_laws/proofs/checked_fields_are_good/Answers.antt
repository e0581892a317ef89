use Rattle.cert_laws.proofs.Given.{field_given}
use Rattle.cert_laws.proofs.FieldLines.{good_from}
use Rattle.cert_laws.proofs.checked_fields_are_good.Goals as goal

pub returns : goal.returns
returns c cert part h e = good_from cert.space part c.maximal_is_exact.ensures (field_given cert part h e)
