use Rattle.std.proofs.Common.{◌≤◌, [], length, arith, rules}
use Rattle.ilk_lines.proofs.TakenPieces.{taken-bytes, token_taken}
use Rattle.ilk_dimacs.specs.Left.{clauses_text_from_position}
use Rattle.ilk_dimacs.proofs.AfterHeader.{after-header, taken-rest}
use Rattle.ilk_dimacs.proofs.formula_text.FormulaText.take.Goals as goal

pub returns-clause-bytes : goal.returns-clause-bytes
returns-clause-bytes c =
    let n = c.take-count.result in
    let header = c.self.inside.header in
    let past : length header ≤ n = omega (arith, c.if-count-into.false, c.take-count.ensures.count) in
    let left = clauses_text_from_position c.self.inside.cnf c.self.inside.at in
    let new = clauses_text_from_position c.self.inside.cnf c.take.new.self in
    let within : n ≤ length c.take-count.new.into = omega (arith, c.take-count.ensures.count) in
    let so = after-header header left _ c.take-count.new.into n past c.take-count.ensures.bytes c.self.view_is in
    let next = token_taken _ c.take-count.new.into c.take.new.into left new [] n c.take.result within (search rules) so (search rules) c.take.ensures.bytes c.take.ensures.rest in
    taken-bytes _ _ _ _ next.1 next.0

pub returns-clause-rest : goal.returns-clause-rest
returns-clause-rest c =
    let n = c.take-count.result in
    let header = c.self.inside.header in
    let past : length header ≤ n = omega (arith, c.if-count-into.false, c.take-count.ensures.count) in
    let left = clauses_text_from_position c.self.inside.cnf c.self.inside.at in
    let new = clauses_text_from_position c.self.inside.cnf c.take.new.self in
    let within : n ≤ length c.take-count.new.into = omega (arith, c.take-count.ensures.count) in
    let so = after-header header left _ c.take-count.new.into n past c.take-count.ensures.bytes c.self.view_is in
    let next = token_taken _ c.take-count.new.into c.take.new.into left new [] n c.take.result within (search rules) so (search rules) c.take.ensures.bytes c.take.ensures.rest in
    taken-rest c.take-count.new.self new _ _ _ n header next.1 next.0 past c.take-count.ensures.rest
