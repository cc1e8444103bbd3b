use Rattle.std.proofs.Common.{◌≡◌, ℕ, ◌<◌, ◌||◌, false, get_or, length, take}
use Rattle.ilk_plant.specs.Network.{contains_section}
use Rattle.ilk_table_check.proofs.flags.Flags.set_numbers.Given as goal

abbrev pub invariant-loop-x : goal.invariant-loop-x
invariant-loop-x l = record {
  count : length l.self ≡ length l.fn.self;
  flags : (y : ℕ) → y < length l.fn.self → get_or l.self y false ≡ (get_or l.fn.self y false || contains_section y (take l.x-index l.numbers));
}
