use Rattle.std.proofs.Common.{◌≡◌, ◌<◌, ◌≤◌, ◌-◌, [], ◌++◌, length, take}
use Rattle.ilk_dimacs.specs.Left.{clauses_text_from_position}
use Rattle.ilk_dimacs.proofs.clauses_text.Position.take.Given as goal

abbrev pub invariant-tokens : goal.invariant-tokens
invariant-tokens l =
    (clauses_text_from_position l.cnf l.fn.self ≡ take l.count l.into ++ clauses_text_from_position l.cnf l.self)
    × (l.count ≤ length l.into)
    × (l.count < length l.into → l.self.token ≡ [])

abbrev pub decreases-tokens : goal.decreases-tokens
decreases-tokens l = length l.into - l.count
