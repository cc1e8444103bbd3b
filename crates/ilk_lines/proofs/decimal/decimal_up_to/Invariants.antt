use Rattle.std.proofs.Common.{◌≡◌, ◌≤◌, drop, true}
use Rattle.std.specs.Char.{is_ascii_digit}
use Rattle.std.specs.List.{list_all}
use Rattle.std.specs.Str.Parse.{digits_value, digits_value_after}
use Rattle.ilk_lines.proofs.decimal.decimal_up_to.Given as goal

abbrev pub invariant-loop-b : goal.invariant-loop-b
invariant-loop-b l = record {
  value : digits_value 10 l.word ≡ digits_value_after 10 l.number (drop l.b-index l.word);
  digits : list_all is_ascii_digit (drop l.b-index l.word) ≡ true;
  small : l.number ≤ l.limit;
}
