use Rattle.std.proofs.Common.{◌≡◌, ℕ, ◌+◌, ◌<◌, count_by, length, nat_lt, take}
use Rattle.std.specs.Int.{bit_at}
use Rattle.std.specs.List.{range_with_len}
use Rattle.ilk_model.specs.Holding.{route_holds}
use Rattle.ilk_model.proofs.SharedSections.{bit}
use Rattle.ilk_model.proofs.held.held_twice_from.Given as goal

abbrev pub invariant-loop-r : goal.invariant-loop-r
invariant-loop-r l = record {
  seen : (x : ℕ) → x < 128 → bit_at l.seen x ≡ bit (nat_lt 0 (count_by (λ r. route_holds l.plant l.s r (l.from + x)) (take l.r (range_with_len 0 (length l.plant.routes)))));
  shared : (x : ℕ) → x < 128 → bit_at l.shared x ≡ bit (nat_lt 1 (count_by (λ r. route_holds l.plant l.s r (l.from + x)) (take l.r (range_with_len 0 (length l.plant.routes)))));
}
