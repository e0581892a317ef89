use Rattle.std.proofs.Common.{◌≡◌, ◌∙◌, ◌++◌, ◌∷◌, [], sym, ap, map, List, Ok, rules}
use Rattle.certificates.specs.declared.certificate.Section.{Section}
use Rattle.certificates.specs.Cert.{CoverSection, CoverTable, table_of, section_of, ended_at}
use Rattle.cert_text.specs.declared.listing.Entry.TheVariants as entry
use Rattle.cert_text.specs.Reading.{Frame, frame, read_listed}
use Rattle.cert_text.specs.Steps.{grown, step_of}
use Rattle.cert_text.proofs.EntryLemmas.{grown-broken, grown-table, grown-section, grown-ending, step-shorter, entry-step, tables-more, sections-more}
use Rattle.cert_text.proofs.TakingLemmas.{breaks}
use Rattle.cert_text.proofs.listing.read_entries.Goals as goal

pub returns-in_err-line : goal.returns-in_err-line
returns-in_err-line c =
    breaks _ _ _ c.from_residual.result c.in_err-line.field-0.0 (search rules)
    (λ h. c.entries.invariant ∙ grown-broken (frame c.args.version c.args.columns.now c.args.most) (map section_of c.entries.sections) (section_of c.entries.section) c.entries.lines c.in_err-line.field-0.0 (c.in_err-line.ensures h))

pub entries-smaller-in-Continue-branch-3 : goal.entries-smaller-in-Continue-branch-3
entries-smaller-in-Continue-branch-3 c =
    step-shorter (frame c.args.version c.args.columns.now c.args.most) c.entries.section.component c.entries.lines c.read_entry.new.lines (step_of c.in_ok-line.field-0) c.in_ok-line.ensures

pub entries-preserved-in-Continue-branch-3 : goal.entries-preserved-in-Continue-branch-3
entries-preserved-in-Continue-branch-3 c =
    let fr : Frame = frame c.args.version c.args.columns.now c.args.most in
    c.entries.invariant
    ∙ (grown-table fr (map section_of c.entries.sections) (section_of c.entries.section) (table_of c.in-Cover.line) c.entries.lines c.read_entry.new.lines
    (entry-step fr c.entries.section.component c.entries.lines c.read_entry.new.lines c.in_ok-line.field-0 (entry.Cover c.in-Cover.line) c.in_ok-line.ensures c.in-Cover.is)
    ∙ ap (λ (ts : List CoverTable). grown (map section_of c.entries.sections) (record { number = c.entries.section.number; component = c.entries.section.component; tables = ts }) (read_listed fr c.entries.section.component c.read_entry.new.lines))
    (tables-more c.entries.section.covers c.push.new.self c.in-Cover.line c.in_ok-push-in-Cover.ensures.pushed))

pub entries-smaller : goal.entries-smaller
entries-smaller c =
    step-shorter (frame c.args.version c.args.columns.now c.args.most) c.entries.section.component c.entries.lines c.read_entry.new.lines (step_of c.in_ok-line.field-0) c.in_ok-line.ensures

pub entries-preserved : goal.entries-preserved
entries-preserved c =
    let fr : Frame = frame c.args.version c.args.columns.now c.args.most in
    let next : Section = record { number = c.in-Section.number; component = c.in-Section.component; covers = [] } in
    let begun : c.replace.new.dest ≡ next = c.replace.ensures.after ∙ (λ i. record { number = c.in-Section.number; component = c.in-Section.component; covers = c.new.ensures i }) in
    let done : c.push-in-Section.new.self ≡ c.entries.sections ++ c.entries.section ∷ [] = c.in_ok-push-in-Section.ensures.pushed ∙ ap (λ (s : Section). c.entries.sections ++ s ∷ []) c.replace.ensures.value in
    c.entries.invariant
    ∙ (grown-section fr (map section_of c.entries.sections) (section_of c.entries.section) c.in-Section.number c.in-Section.component c.entries.lines c.read_entry.new.lines
    (entry-step fr c.entries.section.component c.entries.lines c.read_entry.new.lines c.in_ok-line.field-0 (entry.Section c.in-Section.number c.in-Section.component) c.in_ok-line.ensures c.in-Section.is)
    ∙ (ap (λ (s : Section). grown (map section_of c.entries.sections ++ section_of c.entries.section ∷ []) (section_of s) (read_listed fr s.component c.read_entry.new.lines)) (sym begun)
    ∙ ap (λ (ss : List CoverSection). grown ss (section_of c.replace.new.dest) (read_listed fr c.replace.new.dest.component c.read_entry.new.lines)) (sections-more c.entries.sections c.push-in-Section.new.self c.entries.section done)))

pub returns-in-Ending : goal.returns-in-Ending
returns-in-Ending c =
    let fr : Frame = frame c.args.version c.args.columns.now c.args.most in
    c.entries.invariant
    ∙ (grown-ending fr (map section_of c.entries.sections) (section_of c.entries.section) (ended_at c.in-Ending.ending) c.entries.lines c.read_entry.new.lines
    (entry-step fr c.entries.section.component c.entries.lines c.read_entry.new.lines c.in_ok-line.field-0 (entry.Ending c.in-Ending.ending) c.in_ok-line.ensures c.in-Ending.is)
    ∙ ap (λ (ss : List CoverSection). Ok ((ss, ended_at c.in-Ending.ending), c.read_entry.new.lines)) (sections-more c.entries.sections c.push-in-Ending.new.self c.entries.section c.in_ok-push-in-Ending.ensures.pushed))
