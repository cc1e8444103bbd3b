use Rattle.std.proofs.Common.{◌≡◌, List, [], ◌∷◌, ap, ◌∙◌}
use Rattle.std.proofs.lemmas.Result.{on_ok_weaker}
use Rattle.ilk_plant.specs.Name.{Name}
use Rattle.ilk_plant.specs.declared.draft.RouteDraft.{RouteDraft}
use Rattle.ilk_plant.specs.declared.network.Position.TheVariants.{Plus, Minus}
use Rattle.ilk_gen.proofs.Steps.{first-more, one-more}
use Rattle.ilk_gen.proofs.routes.push_station.Goals as goal
use Rattle.ilk_gen.specs.StationRoutes.{down_route_into, down_route_out_of, up_route_into, up_route_out_of}
use Rattle.ilk_gen.specs.WrittenRoutes.{route_with_given_conflicts, conflicts_down_out_of, conflicts_up_out_of, station_route_names}

listed : (route made : RouteDraft) (names same : List Name) → made ≡ route_with_given_conflicts names route → names ≡ same → made ≡ route_with_given_conflicts same route
listed route made names same e is = e ∙ ap (λ ns. route_with_given_conflicts ns route) is

pub returns : goal.returns
returns c =
    let start = c.args.routes.now in
    let route1 : RouteDraft = route_with_given_conflicts (station_route_names c.args.j (2 ∷ 5 ∷ 7 ∷ 8 ∷ [])) (up_route_into c.args.j 1 Plus) in
    let route2 : RouteDraft = route_with_given_conflicts (station_route_names c.args.j (1 ∷ 6 ∷ 7 ∷ 8 ∷ [])) (up_route_into c.args.j 2 Minus) in
    let route3 : RouteDraft = route_with_given_conflicts (conflicts_up_out_of c.args.n c.args.j (4 ∷ 5 ∷ 6 ∷ [])) (up_route_out_of c.args.n c.args.j 3 Plus) in
    let route4 : RouteDraft = route_with_given_conflicts (conflicts_up_out_of c.args.n c.args.j (3 ∷ 5 ∷ 6 ∷ [])) (up_route_out_of c.args.n c.args.j 4 Minus) in
    let route5 : RouteDraft = route_with_given_conflicts (station_route_names c.args.j (1 ∷ 3 ∷ 4 ∷ 6 ∷ [])) (down_route_into c.args.j 5 Plus) in
    let route6 : RouteDraft = route_with_given_conflicts (station_route_names c.args.j (2 ∷ 3 ∷ 4 ∷ 5 ∷ [])) (down_route_into c.args.j 6 Minus) in
    let route7 : RouteDraft = route_with_given_conflicts (conflicts_down_out_of c.args.j (1 ∷ 2 ∷ 8 ∷ [])) (down_route_out_of c.args.j 7 Plus) in
    let route8 : RouteDraft = route_with_given_conflicts (conflicts_down_out_of c.args.j (1 ∷ 2 ∷ 7 ∷ [])) (down_route_out_of c.args.j 8 Minus) in
    let r1 = listed (up_route_into c.args.j 1 Plus) c.in_ok-up_into.field-0 c.in_ok-names_of.field-0 (station_route_names c.args.j (2 ∷ 5 ∷ 7 ∷ 8 ∷ [])) c.in_ok-up_into.ensures c.in_ok-names_of.ensures in
    let r2 = listed (up_route_into c.args.j 2 Minus) c.in_ok-up_into-2.field-0 c.in_ok-names_of-2.field-0 (station_route_names c.args.j (1 ∷ 6 ∷ 7 ∷ 8 ∷ [])) c.in_ok-up_into-2.ensures c.in_ok-names_of-2.ensures in
    let r3 = listed (up_route_out_of c.args.n c.args.j 3 Plus) c.in_ok-up_out_of.field-0 c.in_ok-names_up_out.field-0 (conflicts_up_out_of c.args.n c.args.j (4 ∷ 5 ∷ 6 ∷ [])) c.in_ok-up_out_of.ensures c.in_ok-names_up_out.ensures in
    let r4 = listed (up_route_out_of c.args.n c.args.j 4 Minus) c.in_ok-up_out_of-2.field-0 c.in_ok-names_up_out-2.field-0 (conflicts_up_out_of c.args.n c.args.j (3 ∷ 5 ∷ 6 ∷ [])) c.in_ok-up_out_of-2.ensures c.in_ok-names_up_out-2.ensures in
    let r5 = listed (down_route_into c.args.j 5 Plus) c.in_ok-down_into.field-0 c.in_ok-names_of-3.field-0 (station_route_names c.args.j (1 ∷ 3 ∷ 4 ∷ 6 ∷ [])) c.in_ok-down_into.ensures c.in_ok-names_of-3.ensures in
    let r6 = listed (down_route_into c.args.j 6 Minus) c.in_ok-down_into-2.field-0 c.in_ok-names_of-4.field-0 (station_route_names c.args.j (2 ∷ 3 ∷ 4 ∷ 5 ∷ [])) c.in_ok-down_into-2.ensures c.in_ok-names_of-4.ensures in
    let r7 = listed (down_route_out_of c.args.j 7 Plus) c.in_ok-down_out_of.field-0 c.in_ok-names_down_out.field-0 (conflicts_down_out_of c.args.j (1 ∷ 2 ∷ 8 ∷ [])) c.in_ok-down_out_of.ensures c.in_ok-names_down_out.ensures in
    let r8 = listed (down_route_out_of c.args.j 8 Minus) c.in_ok-down_out_of-2.field-0 c.in_ok-names_down_out-2.field-0 (conflicts_down_out_of c.args.j (1 ∷ 2 ∷ 7 ∷ [])) c.in_ok-down_out_of-2.ensures c.in_ok-names_down_out-2.ensures in
    let one = first-more start c.push.new.self c.in_ok-up_into.field-0 route1 c.in_ok-push.ensures.ok r1 in
    let two = one-more start (route1 ∷ []) c.push.new.self c.push-2.new.self c.in_ok-up_into-2.field-0 route2 one c.in_ok-push-2.ensures.ok r2 in
    let three = one-more start (route1 ∷ route2 ∷ []) c.push-2.new.self c.push-3.new.self c.in_ok-up_out_of.field-0 route3 two c.in_ok-push-3.ensures.ok r3 in
    let four = one-more start (route1 ∷ route2 ∷ route3 ∷ []) c.push-3.new.self c.push-4.new.self c.in_ok-up_out_of-2.field-0 route4 three c.in_ok-push-4.ensures.ok r4 in
    let five = one-more start (route1 ∷ route2 ∷ route3 ∷ route4 ∷ []) c.push-4.new.self c.push-5.new.self c.in_ok-down_into.field-0 route5 four c.in_ok-push-5.ensures.ok r5 in
    let six = one-more start (route1 ∷ route2 ∷ route3 ∷ route4 ∷ route5 ∷ []) c.push-5.new.self c.push-6.new.self c.in_ok-down_into-2.field-0 route6 five c.in_ok-push-6.ensures.ok r6 in
    let seven = one-more start (route1 ∷ route2 ∷ route3 ∷ route4 ∷ route5 ∷ route6 ∷ []) c.push-6.new.self c.push-7.new.self c.in_ok-down_out_of.field-0 route7 six c.in_ok-push-7.ensures.ok r7 in
    on_ok_weaker c.push-8.result (λ e. one-more start (route1 ∷ route2 ∷ route3 ∷ route4 ∷ route5 ∷ route6 ∷ route7 ∷ []) c.push-7.new.self c.push-8.new.self c.in_ok-down_out_of-2.field-0 route8 seven e r8) c.push-8.ensures.ok
