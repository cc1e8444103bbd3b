-- Points after commands.
use Rattle.std.proofs.Common.{◌≡◌, ℕ, true, false, Option, Some, None, List, [], ◌∷◌, ◌++◌, ◌∙◌, length, slice_get, set, sym, unwrap_or, refl, ap, arith}
use Rattle.std.proofs.lemmas.Grind.{common_steps}
use Rattle.std.specs.Option.{option_or}
use Rattle.ilk_base.specs.Option.{then_some}
use Rattle.ilk_plant.specs.Plant.{PlantLists, point_number}
use Rattle.ilk_plant.specs.declared.network.Position.{Position}
use Rattle.ilk_plant.specs.declared.state.PointState.{PointState}
use Rattle.ilk_plant.specs.declared.table.Listed.{Listed}
use Rattle.ilk_routes.specs.Lies.{listed_position, is_entry_for_point, with_commands}
use Rattle.ilk_base.proofs.Numbered.{length-map_numbered, map_numbered-after, map_numbered-alike, map_numbered-same, map_numbered-set}

pub length-with_commands : (p : PlantLists) (points : List PointState) (entries : List Listed) → length (with_commands p points entries) ≡ length points
length-with_commands p points entries = length-map_numbered _ points

pub with_commands-none : (p : PlantLists) (points : List PointState) → with_commands p points [] ≡ points
with_commands-none p points = map_numbered-same _ points (λ n point. refl)

last_counts : (o : Option Position) (at to : Position) → unwrap_or o at ≡ unwrap_or (option_or o (Some at)) to
last_counts None at to = refl
last_counts (Some later) at to = refl

not_listed : (o : Option Position) → option_or o None ≡ o
not_listed None = refl
not_listed (Some later) = refl

passed_over : (p : PlantLists) (listed : Listed) (rest : List Listed) (n : ℕ) → is_entry_for_point p n listed ≡ false → listed_position p n (listed ∷ rest) ≡ listed_position p n rest
passed_over p listed rest n not = rw not (not_listed (listed_position p n rest))

pub with_commands-first :
    (p : PlantLists) (points : List PointState) (listed : Listed) (rest : List Listed) (n : ℕ)
    (point : PointState) →
    point_number p listed.point ≡ Some n → slice_get points n ≡ Some point →
    with_commands p (set points n (record point { to = listed.at })) rest
    ≡ with_commands p points (listed ∷ rest)
with_commands-first p points listed rest n point number at =
    map_numbered-set (λ i q. record q { to = unwrap_or (listed_position p i rest) q.to }) (λ i q. record q { to = unwrap_or (listed_position p i (listed ∷ rest)) q.to }) points n point (record point { to = listed.at }) at here other
  where
    here : record point { to = unwrap_or (listed_position p n rest) listed.at } ≡ record point { to = unwrap_or (listed_position p n (listed ∷ rest)) point.to }
    here =
        let found : is_entry_for_point p n listed ≡ true = rw number (grind (arith, common_steps)) in
        rw found (ap (λ to. record point { to = to }) (last_counts (listed_position p n rest) listed.at point.to))

    other : (i : ℕ) (q : PointState) → (n ≡ i → ⊥) → record q { to = unwrap_or (listed_position p i rest) q.to } ≡ record q { to = unwrap_or (listed_position p i (listed ∷ rest)) q.to }
    other i q apart =
        let not : is_entry_for_point p i listed ≡ false = rw number (grind (arith, common_steps, apart)) in
        rw (passed_over p listed rest i not) refl

pub with_commands-no_point : (p : PlantLists) (points : List PointState) (listed : Listed) (rest : List Listed) → point_number p listed.point ≡ None → with_commands p points rest ≡ with_commands p points (listed ∷ rest)
with_commands-no_point p points listed rest none =
    map_numbered-alike (λ i q. record q { to = unwrap_or (listed_position p i rest) q.to })
    (λ i q. record q { to = unwrap_or (listed_position p i (listed ∷ rest)) q.to }) points
    (λ i q.
    (let not : is_entry_for_point p i listed ≡ false = rw none refl in
    rw (passed_over p listed rest i not) refl))

pub with_commands-after : (p : PlantLists) (points : List PointState) (listed : Listed) (rest : List Listed) → with_commands p (with_commands p points (listed ∷ [])) rest ≡ with_commands p points (listed ∷ rest)
with_commands-after p points listed rest =
    map_numbered-after (λ i q. record q { to = unwrap_or (listed_position p i rest) q.to })
    (λ i q. record q { to = unwrap_or (listed_position p i (listed ∷ [])) q.to })
    (λ i q. record q { to = unwrap_or (listed_position p i (listed ∷ rest)) q.to }) points
    (λ i q. ap (λ to. record q { to = to })
    (later_first (listed_position p i rest) (then_some (is_entry_for_point p i listed) listed.at) q.to))
  where
    later_first : (later first : Option Position) (to : Position) → unwrap_or later (unwrap_or first to) ≡ unwrap_or (option_or later first) to
    later_first None first to = refl
    later_first (Some position) first to = refl

pub with_commands-append : (p : PlantLists) (points : List PointState) (xs ys : List Listed) → with_commands p (with_commands p points xs) ys ≡ with_commands p points (xs ++ ys)
with_commands-append p points [] ys = ap (λ left. with_commands p left ys) (with_commands-none p points)
with_commands-append p points (x ∷ xs) ys =
    ap (λ left. with_commands p left ys) (sym (with_commands-after p points x xs))
    ∙ with_commands-append p (with_commands p points (x ∷ [])) xs ys ∙ with_commands-after p points x (xs ++ ys)
