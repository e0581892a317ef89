use Rattle.std.proofs.Common.{◌≡◌, ◌≤◌, take, true}
use Rattle.std.specs.List.{list_all}
use Rattle.sheet_tables.specs.Spots.{is_digit, digits_after}
use Rattle.sheet_tables.proofs.spot.read_component.Given as goal

abbrev pub invariant-digits : goal.invariant-digits
invariant-digits l = record {
  value : l.component ≡ digits_after 0 (take l.byte-index l.digits);
  digits : list_all is_digit (take l.byte-index l.digits) ≡ true;
  small : l.component ≤ 60000;
}
