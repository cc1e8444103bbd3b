use Rattle.std.proofs.Common.{◌+◌, ◌++◌, ◌∷◌, [], ℕ, List, ap, ◌∙◌}
use Rattle.smallvec.specs.SmallVec.{SmallVec}
use Rattle.ilk_watches.specs.Chained.{formula_of}
use Rattle.ilk_learn.proofs.Resolving.{conflict-set, started-keeps}
use Rattle.ilk_learn.proofs.analysis.started.Goals as goal

pub add_lits_of_new_vars-requires-clause-set : goal.add_lits_of_new_vars-requires-clause-set
add_lits_of_new_vars-requires-clause-set c =
    (conflict-set (formula_of c.args.clauses.now) c.args.trail.now c.args.conflict c.count-count.ensures.formula c.requires).0

pub returns : goal.returns
returns c =
    let hints = c.in_ok-push.ensures.ok ∙ ap (λ (hs : List ℕ). hs ++ (c.args.conflict + 1) ∷ []) (ap (λ (hs : SmallVec ℕ). hs.items) c.add_lits_of_new_vars.ensures.hints ∙ c.in_ok-hand.ensures.hints) in
    started-keeps (formula_of c.args.clauses.now) c.args.trail.now _ c.args.conflict c.count-count.ensures.formula c.requires (c.in_ok-add_lits_of_new_vars.ensures.holds [] c.in_ok-hand.ensures.holds) hints
