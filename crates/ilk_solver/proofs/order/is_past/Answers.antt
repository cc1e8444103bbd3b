use Rattle.std.proofs.Common.{◌≡◌, inr, ap, sym, ◌∙◌}
use Rattle.std.specs.Prelude.{is_some}
use Rattle.ilk_trail.specs.Trail.{value_of_literal}
use Rattle.ilk_trail.specs.Laws.{is_set}
use Rattle.ilk_solver.proofs.Unset.{set-is}
use Rattle.ilk_solver.proofs.order.is_past.Goals as goal

pub returns-then-v-ne0-clause-yes : goal.returns-then-v-ne0-clause-yes
returns-then-v-ne0-clause-yes c = λ e.
    let es = c.args.trail.now.entries in
    let value : is_some c.value.result ≡ is_set es c.args.v = ap is_some (c.value.ensures ∙ ap (value_of_literal es) c.new.ensures) ∙ set-is es c.args.v in
    sym value ∙ sym c.is_some.ensures ∙ e

pub returns-then-v-ne0-clause-no : goal.returns-then-v-ne0-clause-no
returns-then-v-ne0-clause-no c = λ e.
    let es = c.args.trail.now.entries in
    let value : is_some c.value.result ≡ is_set es c.args.v = ap is_some (c.value.ensures ∙ ap (value_of_literal es) c.new.ensures) ∙ set-is es c.args.v in
    inr (sym value ∙ sym c.is_some.ensures ∙ e)
