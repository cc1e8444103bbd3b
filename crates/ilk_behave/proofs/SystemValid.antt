-- The system of a plant is valid.
use Rattle.std.proofs.Common.{◌≡◌, ℕ, ◌^◌, ◌<◌, ◌≤◌, Bool, true, ◌&&◌, List, nat_lt, length, arith}
use Rattle.std.specs.List.{list_all}
use Rattle.std.proofs.lemmas.Bool.{and_from}
use Rattle.std.proofs.lemmas.Bool.Decides.{nat_tests}
use Rattle.std.proofs.lemmas.List.Sums.{count_by-le-length}
use Rattle.ilk_ir.specs.System.{system_valid}
use Rattle.ilk_plant.specs.Network.{is_point}
use Rattle.ilk_plant.specs.Plant.{IsPlant, PlantLists}
use Rattle.ilk_model.specs.declared.event.Event.{Event}
use Rattle.ilk_model.specs.declared.event.Event.TheVariants.{Mark, Allocate, Lock, Sense, Release, Finish, Throw, Settle, Enter, Head, Tail, Leave, Cancel}
use Rattle.ilk_layout.specs.Variables.{ranges_of_plant}
use Rattle.ilk_layout.proofs.Valid.{length-ranges, ranges-positive}
use Rattle.ilk_behave.specs.Behaviour.{events_of_plant, rules_of_event, system_of_plant}
use Rattle.ilk_behave.proofs.PathRulesValid.{finish-valid, release-valid, sense-valid}
use Rattle.ilk_behave.proofs.RouteRulesValid.{allocate-valid, cancel-valid, lock-valid, mark-valid}
use Rattle.ilk_behave.proofs.RuleBounds.{few-in_all}
use Rattle.ilk_behave.proofs.RulesValid.{all-flat_map, is_valid_rule}
use Rattle.ilk_behave.proofs.TrainRulesValid.{enter-valid, head-valid, leave-valid, settle-valid, tail-valid, throw-valid}

module _ (p : PlantLists) (plant : IsPlant p) where
  event-valid : (event : Event) → list_all (is_valid_rule p) (rules_of_event p event) ≡ true
  event-valid (Mark r) = mark-valid p plant r
  event-valid (Allocate r) = allocate-valid p plant r
  event-valid (Lock r) = lock-valid p plant r
  event-valid (Sense r) = sense-valid p plant r
  event-valid (Release r) = release-valid p plant r
  event-valid (Finish r) = finish-valid p plant r
  event-valid (Throw x) = throw-valid p plant x
  event-valid (Settle x) = settle-valid p plant x
  event-valid (Enter x) = enter-valid p plant x
  event-valid (Head x) = head-valid p plant x
  event-valid (Tail x) = tail-valid p plant x
  event-valid (Leave x) = leave-valid p plant x
  event-valid (Cancel r) = cancel-valid p plant r

  all-valid : list_all (is_valid_rule p) (system_of_plant p).rules ≡ true
  all-valid = all-flat_map (is_valid_rule p) (rules_of_event p) (events_of_plant p) (λ i event at. event-valid event)

  less-test : (a b : ℕ) → a < b → nat_lt a b ≡ true
  less-test a b less = grind (arith, nat_tests)

  few-ranges : nat_lt (length (ranges_of_plant p)) (2 ^ 32) ≡ true
  few-ranges =
      let routes : length p.routes ≤ 256 = plant.few_routes in
      let sections : length p.sections ≤ 256 = plant.few_sections in
      let boards : length p.boards ≤ 512 = plant.few_boards in
      let points = count_by-le-length is_point p.sections in
      let long = length-ranges p in
      less-test (length (ranges_of_plant p)) (2 ^ 32) (omega (arith, routes, sections, boards, points, long))

  few-rules_in_all : nat_lt (length (system_of_plant p).rules) (2 ^ 32) ≡ true
  few-rules_in_all =
      let few = few-in_all p plant in
      less-test (length (system_of_plant p).rules) (2 ^ 32) (omega (arith, few))

  pub system-valid : system_valid (system_of_plant p) ≡ true
  system-valid =
      let ranges : List ℕ = ranges_of_plant p in
      let few : Bool = nat_lt (length ranges) (2 ^ 32) in
      let few_rules : Bool = nat_lt (length (system_of_plant p).rules) (2 ^ 32) in
      let positive : Bool = list_all (λ range. nat_lt 0 range) ranges in
      let valid : Bool = list_all (is_valid_rule p) (system_of_plant p).rules in
      and_from ((few && few_rules) && positive) valid (and_from (few && few_rules) positive (and_from few few_rules few-ranges few-rules_in_all) (ranges-positive p)) all-valid
