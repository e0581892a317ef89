use Rattle.std.proofs.Common.{ℕ, None, subst, rules}
use Rattle.std.specs.Prelude.{slice_index_or}
use Rattle.certificates.specs.declared.kind.Kind.TheVariants as kind
use Rattle.cert_lines.specs.declared.kind.LineKind.{LineKind}
use Rattle.cert_lines.specs.declared.kind.LineKind.TheVariants as line_kind
use Rattle.cert_lines.specs.Listed.{numbers_in}
use Rattle.cert_lines.specs.Tables.{spot_in, table_in}
use Rattle.cert_text.specs.Picks.{a_section, an_ending}
use Rattle.cert_text.specs.Reading.{Frame, frame}
use Rattle.cert_text.specs.Steps.{step_of, said, said_table, said_spent}
use Rattle.cert_lines.specs.Taken.{Says, IsTaken}
use Rattle.cert_text.proofs.EntryLemmas.{step-of, cover-step, spent-step, section-step, done-step}
use Rattle.cert_text.proofs.listing.read_entry.Goals as goal

pub returns-then-eq : goal.returns-then-eq
returns-then-eq c =
    let fr : Frame = frame c.args.version c.args.columns.now c.args.most in
    let t : IsTaken c.args.version c.args.lines.now line_kind.Cover c.take_any.new.lines c.in_ok-kind.line.now = subst (λ (k : LineKind). IsTaken c.args.version c.args.lines.now k c.take_any.new.lines c.in_ok-kind.line.now) (search rules) c.in_ok-kind.ensures.line in
    step-of step_of fr c.args.component c.args.lines.now c.take_any.new.lines line_kind.Cover c.in_ok-kind.line.now (said_table fr c.args.component c.args.lines.now.number (slice_index_or (numbers_in c.in_ok-kind.line.now) 0 0) (table_in c.in_ok-kind.line.now 1)) c.read_cover.result t
    (cover-step fr c.args.component c.args.lines.now c.take_any.new.lines c.in_ok-kind.line.now t)
    (subst (λ (n : ℕ). Says step_of (said_table fr c.args.component n (slice_index_or (numbers_in c.in_ok-kind.line.now) 0 0) (table_in c.in_ok-kind.line.now 1)) c.read_cover.result) c.number-number.ensures (c.read_cover.ensures c.args.version))

pub returns-then-eq-2 : goal.returns-then-eq-2
returns-then-eq-2 c =
    let fr : Frame = frame c.args.version c.args.columns.now c.args.most in
    let t : IsTaken c.args.version c.args.lines.now line_kind.Spent c.take_any.new.lines c.in_ok-kind.line.now = subst (λ (k : LineKind). IsTaken c.args.version c.args.lines.now k c.take_any.new.lines c.in_ok-kind.line.now) (search rules) c.in_ok-kind.ensures.line in
    step-of step_of fr c.args.component c.args.lines.now c.take_any.new.lines line_kind.Spent c.in_ok-kind.line.now (said_spent fr c.args.component c.args.lines.now.number (spot_in c.in_ok-kind.line.now 0)) c.read_spent.result t
    (spent-step fr c.args.component c.args.lines.now c.take_any.new.lines c.in_ok-kind.line.now t)
    (subst (λ (n : ℕ). Says step_of (said_spent fr c.args.component n (spot_in c.in_ok-kind.line.now 0)) c.read_spent.result) c.number-number.ensures (c.read_spent.ensures c.args.version))

pub returns-then-eq-3 : goal.returns-then-eq-3
returns-then-eq-3 c =
    let fr : Frame = frame c.args.version c.args.columns.now c.args.most in
    let t : IsTaken c.args.version c.args.lines.now (line_kind.Plain kind.Covers) c.take_any.new.lines c.in_ok-kind.line.now = subst (λ (k : LineKind). IsTaken c.args.version c.args.lines.now k c.take_any.new.lines c.in_ok-kind.line.now) (search rules) c.in_ok-kind.ensures.line in
    step-of step_of fr c.args.component c.args.lines.now c.take_any.new.lines (line_kind.Plain kind.Covers) c.in_ok-kind.line.now (said fr c.args.component c.args.lines.now.number (a_section (slice_index_or (numbers_in c.in_ok-kind.line.now) 0 0))) c.read_section.result t
    (section-step fr c.args.component c.args.lines.now c.take_any.new.lines c.in_ok-kind.line.now t)
    (subst (λ (n : ℕ). Says step_of (said fr c.args.component n (a_section (slice_index_or (numbers_in c.in_ok-kind.line.now) 0 0))) c.read_section.result) c.number-number.ensures
    (subst (λ (i : ℕ). Says step_of (said fr c.args.component c.number-number.result (a_section i)) c.read_section.result) c.number_or_zero.ensures (c.read_section.ensures c.args.version c.args.most)))

pub returns-then-eq-4 : goal.returns-then-eq-4
returns-then-eq-4 c =
    let fr : Frame = frame c.args.version c.args.columns.now c.args.most in
    let t : IsTaken c.args.version c.args.lines.now (line_kind.Plain kind.Done) c.take_any.new.lines c.in_ok-kind.line.now = subst (λ (k : LineKind). IsTaken c.args.version c.args.lines.now k c.take_any.new.lines c.in_ok-kind.line.now) (search rules) c.in_ok-kind.ensures.line in
    step-of step_of fr c.args.component c.args.lines.now c.take_any.new.lines (line_kind.Plain kind.Done) c.in_ok-kind.line.now (said fr c.args.component c.args.lines.now.number (an_ending None)) c.read_done.result t
    (done-step fr c.args.component c.args.lines.now c.take_any.new.lines c.in_ok-kind.line.now t)
    (subst (λ (n : ℕ). Says step_of (said fr c.args.component n (an_ending None)) c.read_done.result) c.number-number.ensures (c.read_done.ensures c.args.version c.args.most))
