use Rattle.std.proofs.Common.{◌==◌, ◌&&◌, ◌∙◌, ℕ, sym, ap, refl, rules}
use Rattle.std.specs.Prelude.{slice_index_or, nat_le}
use Rattle.cert_lines.specs.Readers.{and_then, many}
use Rattle.cert_text.specs.Reading.{read_sides}
use Rattle.cert_text.specs.Taking.{pair_if, lists_if}
use Rattle.cert_text.proofs.TakingLemmas.{breaks, continues, fits-line, unfit-line, fails-line, out_of}
use Rattle.cert_text.proofs.homology.read_block.Goals as goal

pub returns-in_err-numbers-clause-read : goal.returns-in_err-numbers-clause-read
returns-in_err-numbers-clause-read c =
    breaks _ _ _ c.from_residual.result c.in_err-numbers.field-0.0 (search rules)
    (λ h. ap (λ r. and_then r (λ a. many a.0.1 (read_sides c.args.version (lists_if c.args.each) c.args.modulus c.args.low c.args.high) a.1))
    (fails-line {A = ℕ × ℕ} c.args.version c.args.lines.now c.args.head c.in_err-numbers.field-0.0 (pair_if c.args.head) (λ ns. (slice_index_or ns 0 0, slice_index_or ns 1 0)) (λ h. (h.0 == c.args.degree) && nat_le h.1 c.args.low) (λ f. refl) (c.in_err-numbers.ensures h)))

pub returns-then-not-is_head-clause-read : goal.returns-then-not-is_head-clause-read
returns-then-not-is_head-clause-read c = λ h.
    ap (λ r. and_then r (λ a. many a.0.1 (read_sides c.args.version (lists_if c.args.each) c.args.modulus c.args.low c.args.high) a.1))
    (unfit-line {A = ℕ × ℕ} c.args.version c.args.lines.now c.take_numbers.new.lines c.args.head c.in_ok-numbers.numbers (pair_if c.args.head) (λ ns. (slice_index_or ns 0 0, slice_index_or ns 1 0)) (λ h. (h.0 == c.args.degree) && nat_le h.1 c.args.low) (λ f. refl) (sym c.is_head.ensures ∙ c.if-not-is_head.true) c.in_ok-numbers.ensures)
    ∙ out_of _ _ (sym c.number-number.ensures)

pub returns-clause-read : goal.returns-clause-read
returns-clause-read c =
    continues _ _ _ c.read_sides_of.new.lines c.read_sides_of.result
    (ap (λ r. and_then r (λ a. many a.0.1 (read_sides c.args.version (lists_if c.args.each) c.args.modulus c.args.low c.args.high) a.1))
    (fits-line {A = ℕ × ℕ} c.args.version c.args.lines.now c.take_numbers.new.lines c.args.head c.in_ok-numbers.numbers (pair_if c.args.head) (λ ns. (slice_index_or ns 0 0, slice_index_or ns 1 0)) (λ h. (h.0 == c.args.degree) && nat_le h.1 c.args.low) (λ f. refl) (sym c.is_head.ensures ∙ c.if-not-is_head.false) c.in_ok-numbers.ensures))
    c.read_sides_of.ensures.read
