use Rattle.std.proofs.Common.{◌≡◌, ◌≤◌, ◌+◌, ◌-◌, map}
use Rattle.std.specs.List.{range_with_len}
use Rattle.cert_lines.specs.Readers.{each}
use Rattle.cert_text.specs.Reading.{read_product}
use Rattle.cert_text.specs.Taking.{onto}
use Rattle.cert_text.proofs.products.read_row.Given as goal

abbrev pub invariant-seconds : goal.invariant-seconds
invariant-seconds l =
    record {
      read : onto l.fn.products (each (read_product l.frame.version l.frame.modulus l.frame.chains l.frame.classes.now) (map (λ b. (l.i, l.a, l.j, b)) (range_with_len 1 l.seconds)) l.fn.lines)
          ≡ onto l.products (each (read_product l.frame.version l.frame.modulus l.frame.chains l.frame.classes.now) (map (λ b. (l.i, l.a, l.j, b)) (range_with_len (l.done + 1) (l.seconds - l.done))) l.lines);
      within : l.done ≤ l.seconds;
    }

abbrev pub decreases-seconds : goal.decreases-seconds
decreases-seconds l = l.seconds - l.done
