-- The definitions on lines of one and two stations.
use Rattle.std.proofs.Common.{◌≡◌, Some, None, [], ◌∷◌, ◌++◌, codes, map, refl, take}
use Rattle.std.specs.Fmt.{digits}
use Rattle.serde_json.proofs.OnLiterals.{serde_json_on_literals}
use Rattle.ilk_gen.specs.StationRoutes.{stations_table}
use Rattle.ilk_gen.specs.Stations.{stations_net}
use Rattle.ilk_gen.specs.StationsText.{stations_text}
use Rattle.ilk_plant.specs.Draft.{names_of_sections, plant_from_drafts}
use Rattle.ilk_plant.specs.declared.draft.RouteDraft.{RouteDraft}
use Rattle.ilk_plant.specs.declared.network.Dir.TheVariants.{Up, Down}
use Rattle.ilk_plant.specs.declared.network.Section.TheVariants.{Linear, Point}
use Rattle.ilk_plant.specs.declared.table.Route.{Route}

one-text : stations_text 1
    ≡ codes "{\"routes\":[{\"conflicts\":[\"s1r2\",\"s1r5\",\"s1r7\",\"s1r8\"],"
    ++ codes "\"destination\":\"t1U\",\"name\":\"s1r1\",\"overlap\":[],"
    ++ codes "\"path\":[\"p1\",\"t1\"],\"points\":[{\"point\":\"p1\",\"position\":\"plus\"}],"
    ++ codes "\"source\":\"l0U\"},{\"conflicts\":[\"s1r1\",\"s1r6\",\"s1r7\",\"s1r8\"],"
    ++ codes "\"destination\":\"u1U\",\"name\":\"s1r2\",\"overlap\":[],"
    ++ codes "\"path\":[\"p1\",\"u1\"],\"points\":[{\"point\":\"p1\",\"position\":\"minus\"}],"
    ++ codes "\"source\":\"l0U\"},{\"conflicts\":[\"s1r4\",\"s1r5\",\"s1r6\"],"
    ++ codes "\"destination\":null,\"name\":\"s1r3\",\"overlap\":[],\"path\":[\"q1\",\"l1\"],"
    ++ codes "\"points\":[{\"point\":\"q1\",\"position\":\"plus\"}],\"source\":\"t1U\"},"
    ++ codes "{\"conflicts\":[\"s1r3\",\"s1r5\",\"s1r6\"],\"destination\":null,"
    ++ codes "\"name\":\"s1r4\",\"overlap\":[],\"path\":[\"q1\",\"l1\"],"
    ++ codes "\"points\":[{\"point\":\"q1\",\"position\":\"minus\"}],\"source\":\"u1U\"},"
    ++ codes "{\"conflicts\":[\"s1r1\",\"s1r3\",\"s1r4\",\"s1r6\"],\"destination\":\"t1D\","
    ++ codes "\"name\":\"s1r5\",\"overlap\":[],\"path\":[\"q1\",\"t1\"],"
    ++ codes "\"points\":[{\"point\":\"q1\",\"position\":\"plus\"}],\"source\":\"l1D\"},"
    ++ codes "{\"conflicts\":[\"s1r2\",\"s1r3\",\"s1r4\",\"s1r5\"],\"destination\":\"u1D\","
    ++ codes "\"name\":\"s1r6\",\"overlap\":[],\"path\":[\"q1\",\"u1\"],"
    ++ codes "\"points\":[{\"point\":\"q1\",\"position\":\"minus\"}],\"source\":\"l1D\"},"
    ++ codes "{\"conflicts\":[\"s1r1\",\"s1r2\",\"s1r8\"],\"destination\":null,"
    ++ codes "\"name\":\"s1r7\",\"overlap\":[],\"path\":[\"p1\",\"l0\"],"
    ++ codes "\"points\":[{\"point\":\"p1\",\"position\":\"plus\"}],\"source\":\"t1D\"},"
    ++ codes "{\"conflicts\":[\"s1r1\",\"s1r2\",\"s1r7\"],\"destination\":null,"
    ++ codes "\"name\":\"s1r8\",\"overlap\":[],\"path\":[\"p1\",\"l0\"],"
    ++ codes "\"points\":[{\"point\":\"p1\",\"position\":\"minus\"}],\"source\":\"u1D\"}],"
    ++ codes "\"sections\":[{\"board_down\":null,\"board_up\":\"l0U\",\"down\":null,"
    ++ codes "\"kind\":\"linear\",\"name\":\"l0\",\"up\":\"p1\"},"
    ++ codes "{\"faces\":\"up\",\"kind\":\"point\",\"minus\":\"u1\",\"name\":\"p1\","
    ++ codes "\"plus\":\"t1\",\"stem\":\"l0\"},"
    ++ codes "{\"board_down\":\"t1D\",\"board_up\":\"t1U\",\"down\":\"p1\",\"kind\":\"linear\","
    ++ codes "\"name\":\"t1\",\"up\":\"q1\"},"
    ++ codes "{\"board_down\":\"u1D\",\"board_up\":\"u1U\",\"down\":\"p1\",\"kind\":\"linear\","
    ++ codes "\"name\":\"u1\",\"up\":\"q1\"},"
    ++ codes "{\"faces\":\"down\",\"kind\":\"point\",\"minus\":\"u1\",\"name\":\"q1\","
    ++ codes "\"plus\":\"t1\",\"stem\":\"l1\"},"
    ++ codes "{\"board_down\":\"l1D\",\"board_up\":null,\"down\":\"q1\",\"kind\":\"linear\","
    ++ codes "\"name\":\"l1\",\"up\":null}],\"version\":1}"
unfolding digits serde_json_on_literals
one-text = refl

-- Its sections as numbers, from down to up.
one-sections : (plant_from_drafts (stations_net 1) (stations_table 1)).sections
    ≡ Linear None (Some 1) None (Some 0) ∷ Point 0 2 3 Up ∷ Linear (Some 1) (Some 4) (Some 1) (Some 2)
    ∷ Linear (Some 1) (Some 4) (Some 3) (Some 4) ∷ Point 5 2 3 Down ∷ Linear (Some 4) None (Some 5) None
    ∷ []
unfolding digits
one-sections = refl

one-paths : map (λ (route : Route). route.path) (plant_from_drafts (stations_net 1) (stations_table 1)).routes ≡ (1 ∷ 2 ∷ []) ∷ (1 ∷ 3 ∷ []) ∷ (4 ∷ 5 ∷ []) ∷ (4 ∷ 5 ∷ []) ∷ (4 ∷ 2 ∷ []) ∷ (4 ∷ 3 ∷ []) ∷ (1 ∷ 0 ∷ []) ∷ (1 ∷ 0 ∷ []) ∷ []
unfolding digits
one-paths = refl

one-conflicts : map (λ (route : Route). route.conflicts) (plant_from_drafts (stations_net 1) (stations_table 1)).routes
    ≡ (1 ∷ 4 ∷ 6 ∷ 7 ∷ []) ∷ (0 ∷ 5 ∷ 6 ∷ 7 ∷ []) ∷ (3 ∷ 4 ∷ 5 ∷ []) ∷ (2 ∷ 4 ∷ 5 ∷ []) ∷ (0 ∷ 2 ∷ 3 ∷ 5 ∷ [])
    ∷ (1 ∷ 2 ∷ 3 ∷ 4 ∷ []) ∷ (0 ∷ 1 ∷ 7 ∷ []) ∷ (0 ∷ 1 ∷ 6 ∷ []) ∷ []
unfolding digits
one-conflicts = refl

two-names : names_of_sections (stations_net 2).sections ≡ codes "l0" ∷ codes "p1" ∷ codes "t1" ∷ codes "u1" ∷ codes "q1" ∷ codes "l1" ∷ codes "p2" ∷ codes "t2" ∷ codes "u2" ∷ codes "q2" ∷ codes "l2" ∷ []
unfolding digits
two-names = refl

-- Up routes out of station 1 conflict with down routes out of station 2: both end on the line
-- between.
two-conflicts : map (λ (route : RouteDraft). route.conflicts) (take 4 (stations_table 2).routes)
    ≡ (codes "s1r2" ∷ codes "s1r5" ∷ codes "s1r7" ∷ codes "s1r8" ∷ [])
    ∷ (codes "s1r1" ∷ codes "s1r6" ∷ codes "s1r7" ∷ codes "s1r8" ∷ [])
    ∷ (codes "s1r4" ∷ codes "s1r5" ∷ codes "s1r6" ∷ codes "s2r7" ∷ codes "s2r8" ∷ [])
    ∷ (codes "s1r3" ∷ codes "s1r5" ∷ codes "s1r6" ∷ codes "s2r7" ∷ codes "s2r8" ∷ []) ∷ []
unfolding digits
two-conflicts = refl
