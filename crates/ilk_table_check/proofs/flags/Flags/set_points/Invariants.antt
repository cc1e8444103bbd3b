use Rattle.std.proofs.Common.{◌≡◌, ℕ, ◌<◌, ◌||◌, false, get_or, length, map, take}
use Rattle.ilk_plant.specs.Network.{contains_section}
use Rattle.ilk_table_check.proofs.flags.Flags.set_points.Given as goal

abbrev pub invariant-loop-listed : goal.invariant-loop-listed
invariant-loop-listed l = record {
  count : length l.self ≡ length l.fn.self;
  flags : (y : ℕ) → y < length l.fn.self → get_or l.self y false ≡ (get_or l.fn.self y false || contains_section y (take l.listed-index (map (λ listed. listed.point) l.points)));
}
