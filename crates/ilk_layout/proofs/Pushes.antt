-- Lists to which values are added one by one.
use Rattle.std.proofs.Common.{◌≡◌, ℕ, ◌+◌, ◌<◌, ◌≤◌, Some, List, [], ◌∷◌, ◌++◌, drop, get_or, length, map, slice_get, take, sym, ◌∙◌, ap, arith, append-nil}
use Rattle.std.specs.List.{flat_map}
use Rattle.std.proofs.lemmas.List.{drop_all, flat_map_more, take_more}
use Rattle.std.proofs.lemmas.Simd.{map-map}
use Rattle.std.proofs.lemmas.Option.{get_or_from_slice_get, slice_get-get_or, slice_get_within}
use Rattle.ilk_base.proofs.Lists.{item_at}
use Rattle.ilk_plant.specs.Plant.{IsPlant, PlantLists}
use Rattle.ilk_plant.specs.Shape.{HasShape}
use Rattle.ilk_plant.specs.declared.limits.TheConstants.{MAX_PATH}
use Rattle.ilk_plant.specs.declared.state.RouteState.{RouteState}
use Rattle.ilk_plant.specs.declared.state.State.{State}
use Rattle.ilk_plant.specs.declared.table.Route.{Route}
use Rattle.ilk_plant.proofs.Shapes.{seen_and_released_fit_path-counts}

pub flat_map-pushed : {X Y : Type 0} (f : X → List Y) (xs : List X) (i : ℕ) (x : X) (start now next : List Y) → slice_get xs i ≡ Some x → now ≡ start ++ flat_map f (take i xs) → next ≡ now ++ f x → next ≡ start ++ flat_map f (take (i + 1) xs)
flat_map-pushed f xs i x start now next at sofar grown =
    let front : take (i + 1) xs ≡ take i xs ++ x ∷ [] = take_more xs i x (slice_get_within xs i x at) ∙ ap (λ y. take i xs ++ y ∷ []) (get_or_from_slice_get xs i x x at) in
    grown ∙ ap (λ ys. ys ++ f x) sofar ∙ flat_map_more f start (take i xs) x ∙ ap (λ ys. start ++ flat_map f ys) (sym front)

pub map-pushed : {X Y Z : Type 0} (f : X → Y) (g : Z → X) (items : List X) (zs : List Z) (i : ℕ) (start now : List Y) → now ++ map f (drop i items) ≡ start ++ map f items → length items ≤ i → items ≡ map g zs → now ≡ start ++ map (λ z. f (g z)) zs
map-pushed f g items zs i start now added past is =
    sym (append-nil now) ∙ ap (λ rest. now ++ map f rest) (sym (drop_all i items past)) ∙ added ∙ ap (λ xs. start ++ map f xs) is ∙ ap (λ ys. start ++ ys) (map-map f g zs)

pub counts-small : (p : PlantLists) (s : State) → IsPlant p → HasShape p s → (k : ℕ) (d : RouteState) → k < length s.routes → ((get_or s.routes k d).seen ≤ MAX_PATH) × ((get_or s.routes k d).rel ≤ MAX_PATH)
counts-small p s plant shape k d within =
    let now = get_or s.routes k d in
    let at : slice_get s.routes k ≡ Some now = slice_get-get_or s.routes k d within in
    let count = shape.routes in
    let mine : (route : Route) × (slice_get p.routes k ≡ Some route) = item_at p.routes k (omega arith) in
    let fits = seen_and_released_fit_path-counts mine.0 now (shape.counts k mine.0 now mine.1 at) in
    let short = (plant.routes_known k mine.0 mine.1).path_ends in
    (omega (arith, fits.0, short), omega (arith, fits.1, short))
