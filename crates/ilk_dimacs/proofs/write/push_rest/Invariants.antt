use Rattle.std.proofs.Common.{◌≡◌, ◌++◌, length}
use Rattle.ilk_dimacs.specs.Left.{clauses_text_from_position}
use Rattle.ilk_dimacs.proofs.write.push_rest.Given as goal

abbrev pub invariant-pieces : goal.invariant-pieces
invariant-pieces l = l.text.items ++ clauses_text_from_position l.cnf l.at ≡ l.fn.text.items ++ clauses_text_from_position l.cnf l.fn.at

abbrev pub decreases-pieces : goal.decreases-pieces
decreases-pieces l = length (clauses_text_from_position l.cnf l.at)
