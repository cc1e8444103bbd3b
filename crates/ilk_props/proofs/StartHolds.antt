use Rattle.std.proofs.Common.{◌≡◌, ◌↔◌, ℕ, zero, suc, ◌+◌, ◌^◌, ◌<◌, true, ◌==◌, Some, List, [], ◌∷◌, IsTrue, length, map, slice_get, inl, inr, refl, sym, ◌∙◌, ap, arith}
use Rattle.std.specs.List.{enumerate_from, list_all}
use Rattle.std.proofs.lemmas.Bool.{and_parts, eq-eqb, eqb-true}
use Rattle.std.proofs.lemmas.List.Sums.{count_by-le-length}
use Rattle.std.proofs.lemmas.Option.{slice_get_past}
use Rattle.ilk_base.specs.Option.{is_some_and}
use Rattle.ilk_base.proofs.ListTests.{made-at}
use Rattle.ilk_base.proofs.Lists.{item_at, same_by_slice_get}
use Rattle.ilk_base.proofs.Options.{some-and}
use Rattle.ilk_base.proofs.Ranges.{below_or_past}
use Rattle.ilk_base.proofs.Tested.{all-pass}
use Rattle.ilk_ir.specs.System.{in_ranges}
use Rattle.ilk_ir.specs.Tree.{is, tree_holds}
use Rattle.ilk_ir.proofs.Trees.{all_of-holds}
use Rattle.ilk_plant.specs.Network.{is_point}
use Rattle.ilk_plant.specs.Plant.{IsPlant, PlantLists}
use Rattle.ilk_plant.specs.Start.{start}
use Rattle.ilk_plant.specs.declared.state.State.{State}
use Rattle.ilk_plant.proofs.Shapes.{start-shape}
use Rattle.ilk_layout.specs.Image.{image_of}
use Rattle.ilk_layout.specs.Variables.{ranges_of_plant}
use Rattle.ilk_layout.proofs.Ranged.{image-in_ranges}
use Rattle.ilk_layout.proofs.Valid.{length-ranges}
use Rattle.ilk_props.specs.StartForm.{start_tree}
use Rattle.ilk_ir.proofs.Ranges.{in_ranges-length}

listed-at : (whole list : List ℕ) (k i c : ℕ) → list_all (tree_holds whole) (map (λ place. is place.0 place.1) (enumerate_from k list)) ≡ true → slice_get list i ≡ Some c → slice_get whole (k + i) ≡ Some c
listed-at whole [] k i c h at = cc
listed-at whole (x ∷ list) k zero c h at =
    let first = (and_parts (is_some_and (slice_get whole k) (λ v. v == x)) _ h).0 in
    let found = some-and (slice_get whole k) (λ v. v == x) first in
    let here : k + 0 ≡ k = omega arith in
    let same : found.0 ≡ x = eqb-true found.0 x found.2 in
    ap (slice_get whole) here ∙ found.1 ∙ ap Some same ∙ at
listed-at whole (x ∷ list) k (suc i) c h at =
    let rest = (and_parts (is_some_and (slice_get whole k) (λ v. v == x)) _ h).1 in
    let next : k + suc i ≡ k + 1 + i = omega arith in
    ap (slice_get whole) next ∙ listed-at whole list (k + 1) i c rest at

same-values : (values list : List ℕ) → length values ≡ length list → ((i c : ℕ) → slice_get list i ≡ Some c → slice_get values i ≡ Some c) → values ≡ list
same-values values list long each =
    same_by_slice_get values list (λ i. elim (below_or_past i (length list)) [
      | inl within ↦ (let found = item_at list i within in each i found.0 found.1 ∙ sym found.1)
      | inr past ↦ slice_get_past values i (omega arith) ∙ sym (slice_get_past list i past)
    ])

pub start-in_ranges : (p : PlantLists) → in_ranges (image_of p (start p)) (ranges_of_plant p) ≡ true
start-in_ranges p = image-in_ranges p (start p) (start-shape p)

pub start-holds : (p : PlantLists) (values : List ℕ) → IsTrue (in_ranges values (ranges_of_plant p)) → IsTrue (tree_holds values (start_tree p)) ↔ (values ≡ image_of p (start p))
start-holds p values h = (to, from)
  where
    image : List ℕ
    image = image_of p (start p)

    to : tree_holds values (start_tree p) ≡ true → values ≡ image
    to holds =
        let each = sym (all_of-holds values (map (λ place. is place.0 place.1) (enumerate_from 0 image))) ∙ holds in
        let one = in_ranges-length values (ranges_of_plant p) h in
        let two = in_ranges-length image (ranges_of_plant p) (start-in_ranges p) in
        same-values values image (one ∙ sym two) (λ i c at. (let here : i ≡ 0 + i = omega arith in ap (slice_get values) here ∙ listed-at values image 0 i c each at))

    from : values ≡ image → tree_holds values (start_tree p) ≡ true
    from same =
        all_of-holds values (map (λ place. is place.0 place.1) (enumerate_from 0 image))
        ∙ all-pass (tree_holds values) (map (λ place. is place.0 place.1) (enumerate_from 0 image)) (λ i tree at. (
        let made = made-at is 0 image i tree at in
        let here : 0 + i ≡ i = omega arith in
        let value : slice_get values (0 + i) ≡ Some made.0 = ap (slice_get values) here ∙ ap (λ l. slice_get l i) same ∙ made.1 in
        ap (tree_holds values) (sym made.2) ∙ ap (λ o. is_some_and o (λ v. v == made.0)) value ∙ eq-eqb made.0 made.0 refl))

pub few_variables : (p : PlantLists) (s : State) (values : List ℕ) → IsPlant p → s ≡ start p → values ≡ image_of p s → length values < 2 ^ 32
few_variables p s values plant begun same =
    let one : length values ≡ length (image_of p (start p)) = ap length (same ∙ ap (image_of p) begun) in
    let two = in_ranges-length (image_of p (start p)) (ranges_of_plant p) (start-in_ranges p) in
    let count = length-ranges p in
    let points = count_by-le-length is_point p.sections in
    let sections = plant.few_sections in
    let boards = plant.few_boards in
    let routes = plant.few_routes in
    omega (arith, one, two, count, points, sections, boards, routes)
