use Rattle.std.proofs.Common.{◌≡◌, ap, sym, ◌∙◌}
use Rattle.std.specs.Prelude.{is_some}
use Rattle.ilk_trail.specs.Trail.{value_of_literal}
use Rattle.ilk_trail.specs.Laws.{is_set}
use Rattle.ilk_solver.specs.View.{TrailAndWeights}
use Rattle.ilk_solver.proofs.Unset.{set-is, not-swapped}
use Rattle.ilk_solver.proofs.view.View.unset.Goals as goal

pub returns : goal.returns
returns c =
    let es = c.self.inside.trail.entries in
    let value : is_some c.value.result ≡ is_set es c.args.v = ap is_some (c.value.ensures ∙ ap (value_of_literal es) c.new.ensures) ∙ set-is es c.args.v in
    let now = ap (λ (t : TrailAndWeights). is_set t.trail.entries c.args.v) c.self.view_is in
    not-swapped (is_set c.args.self.now.trail.entries c.args.v) c.is_none.result (sym (value ∙ now) ∙ c.is_none.ensures)
