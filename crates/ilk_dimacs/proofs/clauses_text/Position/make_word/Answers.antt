use Rattle.std.proofs.Common.{◌++◌, ap, arith, drop, refl, sym}
use Rattle.std.proofs.lemmas.Option.{slice_get_read}
use Rattle.ilk_lines.specs.Lines.{Bytes}
use Rattle.ilk_dimacs.specs.Left.{clauses_text_after_lits}
use Rattle.ilk_dimacs.proofs.Left.{end-made, literal-made}
use Rattle.ilk_dimacs.proofs.clauses_text.Position.make_word.Goals as goal

pub returns-then-self-clause-clause-left : goal.returns-then-self-clause-clause-left
returns-then-self-clause-clause-left c =
    let cs = c.args.cnf.now.clauses in
    let at = c.args.self.now in
    literal-made cs at.made at.literals
    c.clause-clause.result.now c.index-clause-self.result _ _ c.clause-clause.ensures.clause
    (slice_get_read c.clause-clause.result.now _ at.literals c.index-clause-self.result refl
    c.if-self-clause.true c.index-clause-self.is)
    c.lead_lit.ensures (sym (ap (λ (t : Bytes). t ++ clauses_text_after_lits at.literals (drop at.made cs)) c.requires))

pub returns-else-self-clause-clause-left : goal.returns-else-self-clause-clause-left
returns-else-self-clause-clause-left c =
    let cs = c.args.cnf.now.clauses in
    let at = c.args.self.now in
    end-made cs at.made at.literals c.clause-clause.result.now at.token _ _ c.clause-clause.ensures.clause (omega (arith, c.if-self-clause.false)) c.requires c.prepend.ensures
    (sym (ap (λ (t : Bytes). t ++ clauses_text_after_lits at.literals (drop at.made cs)) c.requires))
