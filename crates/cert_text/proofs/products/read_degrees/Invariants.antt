use Rattle.std.proofs.Common.{◌≡◌, ◌≤◌, ◌+◌, ◌-◌, map}
use Rattle.std.specs.List.{flat_map, range_with_len}
use Rattle.certificates.specs.WellFormed.{places}
use Rattle.cert_lines.specs.Readers.{each}
use Rattle.cert_text.specs.Reading.{read_product}
use Rattle.cert_text.specs.Taking.{onto}
use Rattle.cert_text.proofs.products.read_degrees.Given as goal

abbrev pub invariant-firsts : goal.invariant-firsts
invariant-firsts l =
    record {
      read : onto l.fn.products (each (read_product l.frame.version l.frame.modulus l.frame.chains l.frame.classes.now) (places l.i l.firsts l.j l.seconds) l.fn.lines)
          ≡ onto l.products (each (read_product l.frame.version l.frame.modulus l.frame.chains l.frame.classes.now) (flat_map (λ a. map (λ b. (l.i, a, l.j, b)) (range_with_len 1 l.seconds)) (range_with_len (l.done + 1) (l.firsts - l.done))) l.lines);
      within : l.done ≤ l.firsts;
    }

abbrev pub decreases-firsts : goal.decreases-firsts
decreases-firsts l = l.firsts - l.done
