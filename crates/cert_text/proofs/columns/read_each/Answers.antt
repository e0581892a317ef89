use Rattle.std.proofs.Common.{◌∙◌, ◌+◌, ◌-◌, ℕ, List, sym, ap, arith, rules}
use Rattle.cert_text.specs.Reading.{columns_from}
use Rattle.cert_text.specs.Taking.{onto}
use Rattle.cert_text.proofs.ColumnLemmas.{columns-more, columns-broken, columns-over}
use Rattle.cert_text.proofs.TakingLemmas.{breaks}
use Rattle.cert_text.proofs.columns.read_each.Goals as goal

pub returns-in_err-own : goal.returns-in_err-own
returns-in_err-own c =
    breaks _ _ _ c.from_residual.result c.in_err-own.field-0.0 (search rules)
    (λ h. c.components.invariant.read
    ∙ columns-broken c.args.version c.components.done c.args.components c.components.left c.components.columns c.components.lines c.in_err-own.field-0.0 (omega (arith, c.components-test.true)) (c.in_err-own.ensures.read h))

pub returns : goal.returns
returns c =
    c.components.invariant.read ∙ columns-over c.args.version c.components.done c.args.components c.components.left c.components.columns c.components.lines (omega (arith, c.components-test.false))

pub components-preserved : goal.components-preserved
components-preserved c = record {
  read = c.components.invariant.read
      ∙ (columns-more c.args.version c.components.done c.args.components c.components.left c.components.columns c.components.lines c.read_column.new.lines c.in_ok-own.own (omega (arith, c.components-test.true)) c.in_ok-own.ensures.read
      ∙ ap (λ (ys : List ℕ). onto ys (columns_from c.args.version (c.components.done + 1 + 1) (c.args.components - (c.components.done + 1)) (c.components.left - c.in_ok-own.own) c.read_column.new.lines)) (sym c.in_ok-push.ensures.pushed));
  within = omega (arith, c.components-test.true);
}
