use Rattle.std.proofs.Common.{◌∙◌, ◌≡◌, ◌+◌, ◌-◌, sym, ap, subst, length, take, drop, Err}
use Rattle.certificates.specs.Forms.{form_of}
use Rattle.cert_lines.specs.Readers.{Left, next_form, pieces_of}
use Rattle.cert_lines.specs.Taken.{formed_to}
use Rattle.cert_lines.proofs.LineLemmas.{line-cut, line-none}
use Rattle.cert_lines.proofs.lines.Lines.next_line.Goals as goal

pub returns-in-None-clause-fault : goal.returns-in-None-clause-fault
returns-in-None-clause-fault c = λ m version.
    subst (λ (l : Left). next_form version l ≡ Err c.unended.result) c.self.view_is
    (line-none version c.self.inside.number c.self.inside.rest.now (sym c.find_feed.ensures ∙ c.in-None.is) ∙ ap (λ f. Err f) (sym c.unended.ensures))

pub returns-else-self-clause-line : goal.returns-else-self-clause-line
returns-else-self-clause-line c = λ version.
    subst (λ (l : Left). next_form version l ≡ formed_to l.number (record { number = c.self.inside.number + 1; pieces = pieces_of (take (length c.self.inside.rest.now - (c.in-Some.feed + 1)) (drop (c.in-Some.feed + 1) c.self.inside.rest.now)) }) (form_of version (take c.in-Some.feed c.self.inside.rest.now))) c.self.view_is
    (line-cut version c.self.inside.number c.self.inside.rest.now c.in-Some.feed (sym c.find_feed.ensures ∙ c.in-Some.is))
