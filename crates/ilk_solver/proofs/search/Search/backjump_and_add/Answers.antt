use Rattle.std.proofs.Common.{◌≡◌, List, ◌∷◌, [], arith, ap, sym, ◌∙◌, subst}
use Rattle.ilk_trail.specs.declared.entry.Entry.{Entry}
use Rattle.ilk_trail.specs.Trail.{level_of, entries_up_to}
use Rattle.ilk_solver.specs.Levels.{LowerLevelsAreSaturated}
use Rattle.ilk_solver.specs.Search.{FormulaLogAndView}
use Rattle.ilk_watches.specs.Watched.{FirstTwoAreWatchable}
use Rattle.ilk_solver.proofs.Asserted.{addable, asserting-open}
use Rattle.ilk_solver.proofs.Learning.{back-below}
use Rattle.ilk_solver.proofs.search.Search.backjump_and_add.Goals as goal

pub back_to-requires : goal.back_to-requires
back_to-requires c =
    let below = back-below c.args.self.view.trail.entries c.args.learned.step.clause c.requires.learned.asserting in
    omega (arith, below, c.requires.level, c.requires.learned.back)

pub add-requires-clause-closed : goal.add-requires-clause-closed
add-requires-clause-closed c =
    let es = c.args.self.view.trail.entries in
    let clause = c.args.learned.step.clause in
    let back = ap (λ (x : FormulaLogAndView). x.view.trail.entries) c.back_to.ensures.entries in
    let top : level_of (entries_up_to c.args.level es) ≡ c.args.level = ap level_of (sym back) ∙ c.back_to.ensures.level in
    let P : List Entry → Type 0 = λ xs. LowerLevelsAreSaturated (clause ∷ []) xs in
    subst P (sym back) (asserting-open es clause c.args.level c.level.ensures.trail.once c.requires.learned.asserting (omega (arith, c.requires.level, c.requires.learned.back)) top)

pub add-requires-clause-addable : goal.add-requires-clause-addable
add-requires-clause-addable c =
    let es = c.args.self.view.trail.entries in
    let clause = c.args.learned.step.clause in
    let back = ap (λ (x : FormulaLogAndView). x.view.trail.entries) c.back_to.ensures.entries in
    let top : level_of (entries_up_to c.args.level es) ≡ c.args.level = ap level_of (sym back) ∙ c.back_to.ensures.level in
    let P : List Entry → Type 0 = λ xs. FirstTwoAreWatchable xs clause in
    subst P (sym back) (addable es clause c.args.level c.level.ensures.trail.climbing c.level.ensures.trail.once c.requires.learned.asserting (omega (arith, c.requires.level, c.requires.learned.back)) top)
