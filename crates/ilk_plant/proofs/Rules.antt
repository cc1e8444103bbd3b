-- If the list of violated rules is empty, each rule holds at each of its locations.
use Rattle.std.proofs.Common.{◌≡◌, ℕ, ◌<◌, Bool, false, None, Some, List, [], slice_get}
use Rattle.std.specs.List.{filter, range_with_len}
use Rattle.ilk_plant.specs.Broken.{broken_below, broken_for_rules, place_kind_of}
use Rattle.ilk_plant.specs.NetworkRules.{breaks_network_rule_at, place_count_in_network, all_network_rules, network_rules_broken}
use Rattle.ilk_plant.specs.Plant.{PlantLists}
use Rattle.ilk_plant.specs.TableRules.{breaks_table_rule_at, place_count_in_plant, plant_table_rules_broken, all_table_rules}
use Rattle.ilk_plant.specs.declared.broken.PlaceKind.{PlaceKind}
use Rattle.ilk_plant.specs.declared.broken.Rule.{Rule}
use Rattle.ilk_plant.specs.declared.draft.NetDraft.{NetDraft}
use Rattle.ilk_base.proofs.FlatMaps.{flat_map-none}
use Rattle.ilk_base.proofs.Lists.{map-none}
use Rattle.ilk_base.proofs.Ranges.{range-at}
use Rattle.ilk_base.proofs.Tested.{filter-none}

pub rule-kept : (rule : Rule) (n : ℕ) (test : ℕ → Bool) → broken_below rule n test ≡ [] → (i : ℕ) → i < n → test i ≡ false
rule-kept rule n test e i h =
    filter-none test (range_with_len 0 n) i i (map-none (λ j. record { rule = rule; first = j; second = None }) (filter test (range_with_len 0 n)) e) (range-at n i h)

-- Rule `k` of these is violated at none of its locations.
abbrev pub Keeps : List Rule → (PlaceKind → ℕ) → (Rule → ℕ → Bool) → Type 0
Keeps rules count breaks =
    (k : ℕ) (rule : Rule) → slice_get rules k ≡ Some rule → (i : ℕ) → i < count (place_kind_of rule) → breaks rule i ≡ false

rules-kept : (rules : List Rule) (count : PlaceKind → ℕ) (breaks : Rule → ℕ → Bool) → broken_for_rules rules count breaks ≡ [] → Keeps rules count breaks
rules-kept rules count breaks e k rule at =
    rule-kept rule (count (place_kind_of rule)) (breaks rule) (flat_map-none (λ r. broken_below r (count (place_kind_of r)) (breaks r)) rules k rule e at)

abbrev pub KeepsNetworkRules : NetDraft → Type 0
KeepsNetworkRules net = Keeps all_network_rules (place_count_in_network net) (breaks_network_rule_at net)

pub all_network_rules-kept : (net : NetDraft) → network_rules_broken net ≡ [] → KeepsNetworkRules net
all_network_rules-kept net e = rules-kept all_network_rules (place_count_in_network net) (breaks_network_rule_at net) e

abbrev pub KeepsTableRules : PlantLists → Type 0
KeepsTableRules p = Keeps all_table_rules (place_count_in_plant p) (breaks_table_rule_at p)

pub all_table_rules-kept : (p : PlantLists) → plant_table_rules_broken p ≡ [] → KeepsTableRules p
all_table_rules-kept p e = rules-kept all_table_rules (place_count_in_plant p) (breaks_table_rule_at p) e
