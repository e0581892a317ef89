use Rattle.std.proofs.Common.{◌≡◌, ◌∙◌, ℕ, true, eqb, leb, sym, ap, rules}
use Rattle.std.specs.Prelude.{slice_index_or}
use Rattle.std.proofs.lemmas.Bool.{ne_eqb, eqb-true}
use Rattle.certificates.specs.declared.kind.Kind.TheVariants as kind
use Rattle.cert_text.specs.Picks.{pick_components}
use Rattle.cert_text.specs.Reading.{columns_from}
use Rattle.cert_text.proofs.ColumnLemmas.{components-pick, counted, listed, more-columns}
use Rattle.cert_text.proofs.Passing.{and-parts}
use Rattle.cert_text.proofs.TakingLemmas.{breaks, continues, fits-line, unfit-line, fails-line, out_of}
use Rattle.cert_text.proofs.columns.read_columns.Goals as goal

pub returns-in_err-stated : goal.returns-in_err-stated
returns-in_err-stated c =
    breaks _ _ _ c.from_residual.result c.in_err-stated.field-0.0 (search rules)
    (λ h. more-columns c.args.version c.args.critical c.args.lines.now (ne_eqb _ _ c.if-version-eq1.false)
    ∙ ap (listed c.args.version (slice_index_or c.args.critical 1 0)) (fails-line c.args.version c.args.lines.now kind.Components c.in_err-stated.field-0.0 pick_components (λ ns. slice_index_or ns 0 0) (counted (slice_index_or c.args.critical 0 0)) components-pick (c.in_err-stated.ensures h)))

pub returns-then-not-is_count : goal.returns-then-not-is_count
returns-then-not-is_count c = λ h.
    more-columns c.args.version c.args.critical c.args.lines.now (ne_eqb _ _ c.if-version-eq1.false)
    ∙ (ap (listed c.args.version (slice_index_or c.args.critical 1 0)) (unfit-line c.args.version c.args.lines.now c.take_numbers.new.lines kind.Components c.in_ok-stated.field-0 pick_components (λ ns. slice_index_or ns 0 0) (counted (slice_index_or c.args.critical 0 0)) components-pick (sym c.is_count.ensures ∙ c.if-not-is_count.true) c.in_ok-stated.ensures)
    ∙ out_of _ _ (sym c.number-number.ensures))

pub returns : goal.returns
returns c =
    let fits : counted (slice_index_or c.args.critical 0 0) (slice_index_or c.in_ok-stated.field-0 0 0) ≡ true = sym c.is_count.ensures ∙ c.if-not-is_count.false in
    continues _ _ _ c.read_each.new.lines c.read_each.result
    (more-columns c.args.version c.args.critical c.args.lines.now (ne_eqb _ _ c.if-version-eq1.false)
    ∙ (ap (listed c.args.version (slice_index_or c.args.critical 1 0)) (fits-line c.args.version c.args.lines.now c.take_numbers.new.lines kind.Components c.in_ok-stated.field-0 pick_components (λ ns. slice_index_or ns 0 0) (counted (slice_index_or c.args.critical 0 0)) components-pick fits c.in_ok-stated.ensures)
    ∙ ap (λ (n : ℕ). columns_from c.args.version 1 n (slice_index_or c.args.critical 1 0) c.take_numbers.new.lines)
    (eqb-true (slice_index_or c.in_ok-stated.field-0 0 0) (slice_index_or c.args.critical 0 0) (and-parts (eqb (slice_index_or c.in_ok-stated.field-0 0 0) (slice_index_or c.args.critical 0 0)) (leb 1 (slice_index_or c.in_ok-stated.field-0 0 0)) fits).0)))
    c.read_each.ensures
