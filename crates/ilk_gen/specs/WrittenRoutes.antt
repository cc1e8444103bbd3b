-- The routes of a line of stations, with their conflicts as constants in place of computed ones.
-- Used only by private contracts.
use Rattle.std.specs.Prelude.{ℕ, ◌+◌, ◌-◌, Bool, List, [], ◌∷◌, ◌++◌, flat_map, map, nat_lt, if◌then◌else◌}
use Rattle.std.specs.List.{range_with_len}
use Rattle.ilk_plant.specs.Name.{Name}
use Rattle.ilk_plant.specs.declared.draft.RouteDraft.{RouteDraft}
use Rattle.ilk_plant.specs.declared.network.Position.TheVariants.{Plus, Minus}
use Rattle.ilk_gen.specs.StationRoutes.{down_route_into, down_route_out_of, route_name, up_route_into, up_route_out_of}

-- The names of the routes of station `j` with these numbers.
abbrev pub station_route_names : ℕ → List ℕ → List Name
station_route_names j numbers = map (route_name j) numbers

-- The names of the routes of station `j` with these numbers if the test holds, otherwise none.
abbrev pub station_route_names_if : Bool → ℕ → List ℕ → List Name
station_route_names_if test j numbers = if test then station_route_names j numbers else []

-- The conflicts of a route up out of station `j` of `n`: routes `own` of the same station, and
-- those down out of the next.
abbrev pub conflicts_up_out_of : ℕ → ℕ → List ℕ → List Name
conflicts_up_out_of n j own = station_route_names j own ++ station_route_names_if (nat_lt j n) (j + 1) (7 ∷ 8 ∷ [])

-- The conflicts of a route down out of station `j`: those up out of the previous station, and
-- routes `own` of the same one.
abbrev pub conflicts_down_out_of : ℕ → List ℕ → List Name
conflicts_down_out_of j own = station_route_names_if (nat_lt 1 j) (j - 1) (3 ∷ 4 ∷ []) ++ station_route_names j own

-- The route with these conflicts.
abbrev pub route_with_given_conflicts : List Name → RouteDraft → RouteDraft
route_with_given_conflicts names route = record route { conflicts = names }

-- The routes of station `j` of `n`, with conflicts as constants.
abbrev pub station_routes_with_conflicts : ℕ → ℕ → List RouteDraft
station_routes_with_conflicts n j =
    route_with_given_conflicts (station_route_names j (2 ∷ 5 ∷ 7 ∷ 8 ∷ [])) (up_route_into j 1 Plus)
    ∷ route_with_given_conflicts (station_route_names j (1 ∷ 6 ∷ 7 ∷ 8 ∷ [])) (up_route_into j 2 Minus)
    ∷ route_with_given_conflicts (conflicts_up_out_of n j (4 ∷ 5 ∷ 6 ∷ [])) (up_route_out_of n j 3 Plus)
    ∷ route_with_given_conflicts (conflicts_up_out_of n j (3 ∷ 5 ∷ 6 ∷ [])) (up_route_out_of n j 4 Minus)
    ∷ route_with_given_conflicts (station_route_names j (1 ∷ 3 ∷ 4 ∷ 6 ∷ [])) (down_route_into j 5 Plus)
    ∷ route_with_given_conflicts (station_route_names j (2 ∷ 3 ∷ 4 ∷ 5 ∷ [])) (down_route_into j 6 Minus)
    ∷ route_with_given_conflicts (conflicts_down_out_of j (1 ∷ 2 ∷ 8 ∷ [])) (down_route_out_of j 7 Plus)
    ∷ route_with_given_conflicts (conflicts_down_out_of j (1 ∷ 2 ∷ 7 ∷ [])) (down_route_out_of j 8 Minus)
    ∷ []

-- The routes of stations 1 to `n`, with conflicts as constants.
abbrev pub all_explicit_routes : ℕ → List RouteDraft
all_explicit_routes n = flat_map (station_routes_with_conflicts n) (range_with_len 1 n)
