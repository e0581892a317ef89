use Rattle.std.proofs.Common.{◌∙◌, rules}
use Rattle.certificates.specs.Cert.{cert_of}
use Rattle.cert_text.specs.Reading.{certificate_of}
use Rattle.cert_text.proofs.BodyLemmas.{version-fault, body-fault, text-read, fails-so}
use Rattle.cert_text.proofs.Whole.{only-texts}
use Rattle.cert_text.proofs.text.parse.Goals as goal

pub returns-in_err-version-clause-fault : goal.returns-in_err-version-clause-fault
returns-in_err-version-clause-fault c =
    fails-so (certificate_of c.args.text.now) c.from_residual.result c.in_err-version.field-0.0 (search rules)
    (λ h. version-fault c.args.text.now c.new-lines.result c.in_err-version.field-0.0 c.new-lines.ensures (c.in_err-version.ensures h))

pub returns-in_err-cert-clause-fault : goal.returns-in_err-cert-clause-fault
returns-in_err-cert-clause-fault c =
    fails-so (certificate_of c.args.text.now) c.from_residual-in_err-cert.result c.in_err-cert.field-0.0 (search rules)
    (λ h. body-fault c.args.text.now c.new-lines.result c.read_version.new.lines c.in_ok-version.version c.in_err-cert.field-0.0 c.new-lines.ensures c.in_ok-version.ensures (c.in_err-cert.ensures h))

pub returns-in_err-read_nothing-clause-fault : goal.returns-in_err-read_nothing-clause-fault
returns-in_err-read_nothing-clause-fault c =
    fails-so (certificate_of c.args.text.now) c.from_residual-in_err-read_nothing.result c.in_err-read_nothing.field-0.0 (search rules)
    (λ h. text-read c.args.text.now c.new-lines.result c.read_version.new.lines c.read_body.new.lines c.in_ok-version.version (cert_of c.in_ok-cert.cert) c.new-lines.ensures c.in_ok-version.ensures c.in_ok-cert.ensures
    ∙ c.in_err-read_nothing.ensures (cert_of c.in_ok-cert.cert) h)

pub returns-clause-read : goal.returns-clause-read
returns-clause-read c =
    text-read c.args.text.now c.new-lines.result c.read_version.new.lines c.read_body.new.lines c.in_ok-version.version (cert_of c.in_ok-cert.cert) c.new-lines.ensures c.in_ok-version.ensures c.in_ok-cert.ensures
    ∙ c.in_ok-read_nothing.ensures (cert_of c.in_ok-cert.cert)

pub returns-clause-whole : goal.returns-clause-whole
returns-clause-whole c =
    (only-texts c.args.text.now (cert_of c.in_ok-cert.cert)
    (text-read c.args.text.now c.new-lines.result c.read_version.new.lines c.read_body.new.lines c.in_ok-version.version (cert_of c.in_ok-cert.cert) c.new-lines.ensures c.in_ok-version.ensures c.in_ok-cert.ensures
    ∙ c.in_ok-read_nothing.ensures (cert_of c.in_ok-cert.cert))).0

pub returns-clause-text : goal.returns-clause-text
returns-clause-text c =
    (only-texts c.args.text.now (cert_of c.in_ok-cert.cert)
    (text-read c.args.text.now c.new-lines.result c.read_version.new.lines c.read_body.new.lines c.in_ok-version.version (cert_of c.in_ok-cert.cert) c.new-lines.ensures c.in_ok-version.ensures c.in_ok-cert.ensures
    ∙ c.in_ok-read_nothing.ensures (cert_of c.in_ok-cert.cert))).1
