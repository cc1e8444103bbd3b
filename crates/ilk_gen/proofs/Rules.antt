-- The network rules, with N7 separate. N7 concerns walks of any length and follows from the order
-- of the sections.
use Rattle.std.proofs.Common.{◌≡◌, Bool, true, ◌&&◌, List, [], ◌∷◌, ◌++◌, length, refl}
use Rattle.std.specs.List.{list_all}
use Rattle.std.proofs.lemmas.Bool.{and_parts, leb-true}
use Rattle.ilk_net_read.proofs.Limits.{is_between-true}
use Rattle.ilk_plant.specs.Broken.{broken_below, broken_for_rules, place_kind_of}
use Rattle.ilk_plant.specs.Limits.{WithinLimits, section_and_route_counts_allowed, route_within_limits, are_names_in_route_valid, are_names_in_section_valid}
use Rattle.ilk_plant.specs.NetworkRules.{breaks_network_rule_at, place_count_in_network, network_rules_broken, is_on_up_cycle}
use Rattle.ilk_plant.specs.declared.broken.Broken.{Broken}
use Rattle.ilk_plant.specs.declared.broken.Rule.{Rule}
use Rattle.ilk_plant.specs.declared.broken.Rule.TheVariants.{N1, N2, N3, N4, N5, N6, N7, N8}
use Rattle.ilk_plant.specs.declared.draft.NetDraft.{NetDraft}
use Rattle.ilk_plant.specs.declared.draft.TableDraft.{TableDraft}
use Rattle.ilk_plant.specs.declared.limits.TheConstants.{MAX_ROUTES, MAX_SECTIONS}
use Rattle.ilk_gen.proofs.Upwards.{lists_upwards, never-broken, never-is_on_up_cycle}

-- The violated rules of a network except N7.
abbrev pub others_broken : NetDraft → List Broken
others_broken net = broken_for_rules (N1 ∷ N2 ∷ N3 ∷ N4 ∷ N5 ∷ N6 ∷ N8 ∷ []) (place_count_in_network net) (breaks_network_rule_at net)

both-none : {X : Type 0} (xs ys : List X) → xs ≡ [] → ys ≡ [] → xs ++ ys ≡ []
both-none xs ys a b = rw (a, b) refl

among_seven : (a b c d e f g h : List Broken) → a ++ (b ++ (c ++ (d ++ (e ++ (f ++ (h ++ [])))))) ≡ [] → g ≡ [] → a ++ (b ++ (c ++ (d ++ (e ++ (f ++ (g ++ (h ++ []))))))) ≡ []
among_seven a b c d e f g h all none = rw none all

pub all_network_rules-kept : (net : NetDraft) → others_broken net ≡ [] → lists_upwards net ≡ true → network_rules_broken net ≡ []
all_network_rules-kept net others upwards =
    let broken : Rule → List Broken = λ rule. broken_below rule (place_count_in_network net (place_kind_of rule)) (breaks_network_rule_at net rule) in
    among_seven (broken N1) (broken N2) (broken N3) (broken N4) (broken N5) (broken N6) (broken N7) (broken N8) others (never-broken N7 (length net.sections) (is_on_up_cycle net) (never-is_on_up_cycle net upwards))

-- Returns whether drafts are within the limits.
abbrev pub has_limits : NetDraft → TableDraft → Bool
has_limits net table =
    section_and_route_counts_allowed (length net.sections) (length table.routes)
    && (list_all are_names_in_section_valid net.sections
    && (list_all route_within_limits table.routes && list_all are_names_in_route_valid table.routes))

pub limits-kept : (net : NetDraft) (table : TableDraft) → has_limits net table ≡ true → WithinLimits net table
limits-kept net table h =
    let counts = and_parts (section_and_route_counts_allowed (length net.sections) (length table.routes)) _ h in
    let named = and_parts (list_all are_names_in_section_valid net.sections) _ counts.1 in
    let routes = and_parts (list_all route_within_limits table.routes) (list_all are_names_in_route_valid table.routes) named.1 in
    let allowed = and_parts _ _ counts.0 in
    let sections = is_between-true 1 MAX_SECTIONS (length net.sections) allowed.0 in
    record {
      of_network = record { some = sections.0; few = sections.1; named = named.0 };
      of_table = record { few = leb-true (length table.routes) MAX_ROUTES allowed.1; each = routes.0; named = routes.1 };
    }
