-- The network of a plant and its generated table are sound drafts, and so is a network without
-- routes.
use Rattle.std.proofs.Common.{◌≡◌, ◌+◌, All, Some, [], slice_get, refl, sym, ◌∙◌, ap, subst, arith}
use Rattle.ilk_base.proofs.ListTests.{made-at}
use Rattle.ilk_plant.proofs.Rules.{all_network_rules-kept}
use Rattle.ilk_plant.specs.ColumnRules.{broken_for_column_rule, column_rules_broken}
use Rattle.ilk_plant.specs.Draft.{plant_from_drafts}
use Rattle.ilk_plant.specs.Limits.{NetworkWithinLimits}
use Rattle.ilk_plant.specs.NetworkRules.{network_rules_broken}
use Rattle.ilk_plant.specs.Plant.{IsPlant, PlantLists}
use Rattle.ilk_plant.specs.Sound.{AreSoundDrafts, IsFromSoundDrafts, IsAcyclic}
use Rattle.ilk_plant.specs.declared.broken.Rule.TheVariants.{C7}
use Rattle.ilk_plant.specs.declared.draft.NetDraft.{NetDraft}
use Rattle.ilk_plant.specs.declared.draft.RouteDraft.{RouteDraft}
use Rattle.ilk_plant.specs.declared.draft.TableDraft.{TableDraft}
use Rattle.ilk_plant.specs.declared.table.Route.{Route}
use Rattle.ilk_tablegen.proofs.AtPlaces.{At, all_paths, route-at}
use Rattle.ilk_tablegen.proofs.IsWay.{All-from_places}
use Rattle.ilk_tablegen.proofs.KeepsRules.{found-few, found-kept}
use Rattle.ilk_tablegen.proofs.NetworkBack.{network-back}
use Rattle.ilk_tablegen.specs.NetworkDraft.{network_draft}
use Rattle.ilk_tablegen.specs.Routes.{network_routes, route_of_way}
use Rattle.ilk_tablegen.specs.Rules.{KeepsRulesButC7, BreaksAtMostC7, no_routes}
use Rattle.ilk_tablegen.specs.Table.{route_draft, network_table, generation_result}
use Rattle.ilk_tablegen.specs.declared.walks.Walks.TheVariants.{Routes}

pub drafted-back : (net : NetDraft) (table : TableDraft) → network_rules_broken net ≡ [] → network_draft (plant_from_drafts net table) ≡ net
drafted-back net table kept = network-back net table (all_network_rules-kept net kept)

pub bare-sound : (net : NetDraft) → NetworkWithinLimits net → network_rules_broken net ≡ [] → AreSoundDrafts net no_routes
bare-sound net limits kept = record {
  limits = record { of_network = limits; of_table = record { few = omega arith; each = refl; named = refl } };
  network = kept;
  routes = refl;
}

abbrev IsUnprotected : RouteDraft → Type 0
IsUnprotected route = (route.protecting_points ≡ []) × (route.protecting_boards ≡ [])

none-protected : (p : PlantLists) → All IsUnprotected (network_table p).routes
none-protected p =
    All-from_places IsUnprotected (network_table p).routes (λ i draft at.
    let made : (route : Route) × (slice_get (network_routes p) i ≡ Some route) × (route_draft p (0 + i) route ≡ draft) = made-at (route_draft p) 0 (network_routes p) i draft at in
    let of : (at : At p i) × (route_of_way p (all_paths p) i at.way ≡ made.0) = route-at p i made.0 made.1 in
    subst IsUnprotected made.2 (subst (λ route. IsUnprotected (route_draft p (0 + i) route)) of.1 (refl, refl)))

pub found-sound : (p : PlantLists) → IsPlant p → IsAcyclic p → IsFromSoundDrafts p → (table : TableDraft) → generation_result p ≡ Routes table → KeepsRulesButC7 p table
found-sound p plant never drafts table found =
    let sound : AreSoundDrafts drafts.net drafts.table = drafts.sound in
    let limits = sound.limits in
    let back : drafts.net ≡ network_draft p = sym (ap network_draft drafts.same ∙ drafted-back drafts.net drafts.table sound.network) in
    let kept : BreaksAtMostC7 p drafts.net table = found-kept p plant never drafts.net drafts.table table drafts.same found in
    record {
      sound = subst (λ net. AreSoundDrafts net table) back (record { limits = record { of_network = limits.of_network; of_table = kept.limits }; network = sound.network; routes = kept.table });
      columns = subst (λ net. column_rules_broken (plant_from_drafts net table) ≡ broken_for_column_rule p C7) back kept.columns;
      unprotected = subst (λ (t : TableDraft). All IsUnprotected t.routes) (found-few p table found).0 (none-protected p);
    }
