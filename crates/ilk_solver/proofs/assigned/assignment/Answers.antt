use Rattle.std.proofs.Common.{◌≡◌, ◌+◌, ℕ, Bool, Option, false, ap, ◌∙◌}
use Rattle.std.specs.Prelude.{unwrap_or}
use Rattle.ilk_base.proofs.Ranges.{pushed}
use Rattle.ilk_cnf.specs.Literal.{positive_lit}
use Rattle.ilk_trail.specs.Trail.{TrailList, value_of_literal}
use Rattle.ilk_solver.proofs.assigned.assignment.Goals as goal

pub loop-v-preserved : goal.loop-v-preserved
loop-v-preserved c =
    let es = c.args.view.now.trail.entries in
    let f : ℕ → Bool = λ v. unwrap_or (value_of_literal es (positive_lit (v + 1))) false in
    let told = c.value-value.ensures ∙ ap (λ (t : TrailList). value_of_literal t.entries c.new.result) c.trail.ensures ∙ ap (value_of_literal es) c.new.ensures in
    let value : c.unwrap_or.result ≡ f c.loop-v.v = c.unwrap_or.ensures ∙ ap (λ (o : Option Bool). unwrap_or o false) told in
    pushed f c.loop-v.v c.loop-v.values c.push.new.self c.unwrap_or.result c.in_ok-push.ensures.ok c.loop-v.invariant value
