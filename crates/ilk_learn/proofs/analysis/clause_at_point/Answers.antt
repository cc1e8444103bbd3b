use Rattle.std.proofs.Common.{◌≡◌, ◌++◌, ◌∷◌, [], List, ap, ◌∙◌}
use Rattle.std.proofs.lemmas.Result.{IfOk-weaker}
use Rattle.ilk_cnf.specs.Literal.{Literal, negated_lit}
use Rattle.ilk_learn.specs.Resolvent.{without_variable}
use Rattle.ilk_learn.specs.Levels.{with_highest_first}
use Rattle.ilk_learn.proofs.Highest.{front-some, front-none}
use Rattle.ilk_learn.proofs.analysis.clause_at_point.Goals as goal

pub returns-in-Some : goal.returns-in-Some
returns-in-Some c =
    let es = c.args.trail.now.entries in
    let lower = c.args.lower.now in
    let one : c.push.new.self ≡ negated_lit c.args.lit ∷ [] = c.in_ok-push.ensures.ok ∙ ap (λ (xs : List Literal). xs ++ c.negated.result ∷ []) c.new-clause.ensures ∙ ap (λ (l : Literal). l ∷ []) c.negated.ensures in
    IfOk-weaker c.with_first.result
    (λ x. x ≡ c.push.new.self ++ (c.in-Some.first ∷ without_variable c.in-Some.first.var lower))
    (λ x. x ≡ negated_lit c.args.lit ∷ with_highest_first es lower)
    (λ x e. front-some es lower c.push.new.self x (negated_lit c.args.lit) c.in-Some.first one
    c.in-Some.ensures e)
    c.with_first.ensures

pub returns-in-None : goal.returns-in-None
returns-in-None c =
    let es = c.args.trail.now.entries in
    let lower = c.args.lower.now in
    let one : c.push.new.self ≡ negated_lit c.args.lit ∷ [] = c.in_ok-push.ensures.ok ∙ ap (λ (xs : List Literal). xs ++ c.negated.result ∷ []) c.new-clause.ensures ∙ ap (λ (l : Literal). l ∷ []) c.negated.ensures in
    front-none es lower c.push.new.self (negated_lit c.args.lit) one c.in-None.ensures
