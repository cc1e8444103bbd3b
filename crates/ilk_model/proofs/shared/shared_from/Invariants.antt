use Rattle.std.proofs.Common.{◌≡◌, ℕ, ◌+◌, ◌<◌, count_by, nat_lt, take}
use Rattle.std.specs.Int.{bit_at}
use Rattle.ilk_plant.specs.Network.{contains_section}
use Rattle.ilk_model.proofs.SharedSections.{bit}
use Rattle.ilk_model.proofs.shared.shared_from.Given as goal

abbrev pub invariant-loop-train : goal.invariant-loop-train
invariant-loop-train l = record {
  seen : (x : ℕ) → x < 128 → bit_at l.seen x ≡ bit (nat_lt 0 (count_by (λ train. contains_section (l.from + x) train.body) (take l.train-index l.train-items)));
  shared : (x : ℕ) → x < 128 → bit_at l.shared x ≡ bit (nat_lt 1 (count_by (λ train. contains_section (l.from + x) train.body) (take l.train-index l.train-items)));
}
