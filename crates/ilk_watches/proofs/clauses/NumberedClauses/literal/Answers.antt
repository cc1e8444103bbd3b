use Rattle.std.proofs.Common.{◌≡◌, ◌<◌, List, Some, length, arith, ap, sym, ◌∙◌}
use Rattle.std.specs.List.{slice_get}
use Rattle.ilk_cnf.specs.Literal.{Literal}
use Rattle.ilk_cnf.specs.Formula.{is_lit_over}
use Rattle.ilk_arena.specs.Arena.{ArenaContent}
use Rattle.ilk_watches.specs.Reasons.{nth_clause_or_empty}
use Rattle.ilk_watches.specs.Chained.{formula_of}
use Rattle.ilk_watches.proofs.Chained.{read-reference}
use Rattle.ilk_watches.proofs.Within.{literal-in}
use Rattle.ilk_watches.proofs.clauses.NumberedClauses.literal.Goals as goal

pub literal-requires-clause-below : goal.literal-requires-clause-below
literal-requires-clause-below c =
    let s = c.self.inside in
    let within : c.args.c < length s.arena.clauses = omega (arith, c.requires.clause, ap (λ (x : ArenaContent). length x.clauses) c.self.view_is) in
    let b = read-reference s.arena s.references.items c.args.c c.index.result.now c.self.invariant within c.index.ensures in
    omega (arith, c.requires.literal, ap length b.literals, ap (λ (x : ArenaContent). length (nth_clause_or_empty x.clauses c.args.c)) c.self.view_is)

pub returns-clause-literal : goal.returns-clause-literal
returns-clause-literal c =
    let s = c.self.inside in
    let within : c.args.c < length s.arena.clauses = omega (arith, c.requires.clause, ap (λ (x : ArenaContent). length x.clauses) c.self.view_is) in
    let b = read-reference s.arena s.references.items c.args.c c.index.result.now c.self.invariant within c.index.ensures in
    ap (λ (x : ArenaContent). slice_get (nth_clause_or_empty x.clauses c.args.c) c.args.i) (sym c.self.view_is) ∙ ap (λ (k : List Literal). slice_get k c.args.i) (sym b.literals) ∙ c.literal.ensures

pub returns-clause-within : goal.returns-clause-within
returns-clause-within c =
    let s = c.self.inside in
    let within : c.args.c < length s.arena.clauses = omega (arith, c.requires.clause, ap (λ (x : ArenaContent). length x.clauses) c.self.view_is) in
    let b = read-reference s.arena s.references.items c.args.c c.index.result.now c.self.invariant within c.index.ensures in
    let stands : slice_get (nth_clause_or_empty s.arena.clauses c.args.c) c.args.i ≡ Some c.literal.result = ap (λ (k : List Literal). slice_get k c.args.i) (sym b.literals) ∙ c.literal.ensures in
    ap (λ (x : ArenaContent). is_lit_over x.vars c.literal.result) (sym c.self.view_is) ∙ literal-in (formula_of s.arena) c.args.c c.args.i c.literal.result c.self.invariant.clauses.formula within stands
