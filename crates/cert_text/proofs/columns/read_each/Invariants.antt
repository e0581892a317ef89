use Rattle.std.proofs.Common.{◌≡◌, ◌≤◌, ◌+◌, ◌-◌}
use Rattle.cert_text.specs.Reading.{columns_from}
use Rattle.cert_text.specs.Taking.{onto}
use Rattle.cert_text.proofs.columns.read_each.Given as goal

abbrev pub invariant-components : goal.invariant-components
invariant-components l =
    record {
      read : columns_from l.version 1 l.components l.edges l.fn.lines ≡ onto l.columns (columns_from l.version (l.done + 1) (l.components - l.done) l.left l.lines);
      within : l.done ≤ l.components;
    }

abbrev pub decreases-components : goal.decreases-components
decreases-components l = l.components - l.done
