use Rattle.std.proofs.Common.{◌≡◌, ◌∷◌, List, length}
use Rattle.ilk_cnf.specs.Literal.{Literal}
use Rattle.ilk_rup.specs.Items.{IsSetUnlessTautology}
use Rattle.ilk_rup.proofs.FirstItem.{Before}
use Rattle.ilk_rup.proofs.item.read_literals.Given as goal

abbrev pub invariant-words : goal.invariant-words
invariant-words l = record {
  vars : l.set.vars ≡ l.initial.set.vars;
  read : (ls : List Literal) × Before l.vars (l.fn.first ∷ l.initial.words) (l.word ∷ l.words) ls × IsSetUnlessTautology ls l.set.lits l.both;
}

abbrev pub decreases-words : goal.decreases-words
decreases-words l = length l.words
