use Rattle.std.proofs.Common.{◌≡◌, ◌<◌, ap, arith, cond, length, map, refl, sym, ◌∙◌}
use Rattle.std.specs.List.{range_with_len}
use Rattle.std.proofs.lemmas.List.Sums.{count_by-le-length, sum_by-take-le}
use Rattle.ilk_plant.specs.Network.{is_point}
use Rattle.ilk_plant.specs.Plant.{PlantLists, point_number}
use Rattle.ilk_plant.proofs.PointNumbers.{point_more, point_same}
use Rattle.ilk_plant.proofs.numbered_drafts.NumberedNetAndTable.point_number_per_section.Goals as goal
use Rattle.ilk_plant.proofs.numbered_drafts.NumberedNetAndTable.point_number_per_section.Goals.{then-is_point+in_ok-push, else-is_point+in_ok-push-2}

pub overflow_add-points : goal.overflow_add-points
overflow_add-points c =
    let sections = c.args.self.now.sections in
    let same : length c.self.inside.sections ≡ length sections = ap (λ (q : PlantLists). length q.sections) c.self.view_is in
    let before = sum_by-take-le (λ section. cond (is_point section) 1 0) sections c.loop-section.section-index in
    omega (arith, same, before, count_by-le-length is_point sections, c.loop-section.invariant.points, c.self.invariant.0)

pub loop-section-init : goal.loop-section-init
loop-section-init c = record { numbers = c.new-numbers.ensures; points = refl }

pub loop-section-preserved : goal.loop-section-preserved
loop-section-preserved c =
    let p : PlantLists = c.args.self.now in
    let same : c.as_slice-section-items.result.now ≡ p.sections = c.as_slice-section-items.ensures ∙ ap (λ (q : PlantLists). q.sections) c.self.view_is in
    let within : c.loop-section.section-index < length p.sections = rw same at c.loop-section-test.true in
    elim c.if-is_point.branch [
      | then-is_point+in_ok-push w ↦
          let next = point_more p c.loop-section.section-index _ within c.loop-section.numbers w.push.new.self
          c.loop-section.points c.loop-section.invariant.numbers c.loop-section.invariant.points
          (rw same at (sym c.is_point.ensures ∙ w.if-is_point.true)) w.in_ok-push.ensures.ok in
          record { numbers = w.numbers-is ∙ next.0; points = w.points-is ∙ next.1 }
      | else-is_point+in_ok-push-2 w ↦
          let next = point_same p c.loop-section.section-index _ within c.loop-section.numbers
          w.push-else-is_point.new.self c.loop-section.points c.loop-section.invariant.numbers
          c.loop-section.invariant.points (rw same at (sym c.is_point.ensures ∙ w.if-is_point.false))
          w.in_ok-push-2.ensures.ok in
          record { numbers = w.numbers-is ∙ next.0; points = w.points-is ∙ next.1 }
    ]

pub returns : goal.returns
returns c =
    let p : PlantLists = c.args.self.now in
    let same : c.as_slice-section-items.result.now ≡ p.sections = c.as_slice-section-items.ensures ∙ ap (λ (q : PlantLists). q.sections) c.self.view_is in
    let long : length c.as_slice-section-items.result.now ≡ length p.sections = ap length same in
    let all : c.loop-section.section-index ≡ length p.sections = omega (arith, long, c.loop-section-test.false, c.loop-section.auto.section-index-end) in
    c.loop-section.invariant.numbers ∙ ap (λ n. map (point_number p) (range_with_len 0 n)) all
