use Rattle.std.proofs.Common.{◌++◌, ◌∷◌, [], ◌∙◌, ap, sym, List, ℕ, take, append_assoc}
use Rattle.std.specs.List.{filter}
use Rattle.std.specs.Prelude.{not, ◌==◌}
use Rattle.ilk_rup.specs.Needs.{unit_hints_of_needed}
use Rattle.ilk_rup.proofs.Passing.{units-more}
use Rattle.ilk_rup.proofs.explain.push_units.Goals as goal

pub loop-i-preserved : goal.loop-i-preserved
loop-i-preserved c =
    let ls = c.args.needed.now.lits in
    let units = c.args.units.now in
    let i = c.loop-i.i in
    let start = c.args.hints.now in
    let some : List ℕ = unit_hints_of_needed units (take i ls) in
    let one : ℕ → List ℕ = λ u. filter (λ x. not (x == 0)) (u ∷ []) in
    c.in_ok-push_unit.ensures
    ∙ ap (λ (hs : List ℕ). hs ++ one c.unit_of.result) c.loop-i.invariant
    ∙ append_assoc start some (one c.unit_of.result)
    ∙ ap (λ (hs : List ℕ). start ++ (some ++ hs)) (ap one c.unit_of.ensures)
    ∙ ap (λ (hs : List ℕ). start ++ hs) (sym (units-more units ls i c.at.result c.at.ensures))
