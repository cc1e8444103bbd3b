use Rattle.std.proofs.Common.{arith, rules, ◌++◌, drop, take, sym, ap, ◌∙◌}
use Rattle.std.proofs.lemmas.List.{drop_all}
use Rattle.ilk_lines.specs.Lines.{Bytes}
use Rattle.ilk_lines.proofs.TakenPieces.{token_taken}
use Rattle.ilk_dimacs.specs.Left.{clauses_text_from_position, clauses_text_after_lits}
use Rattle.ilk_dimacs.proofs.Left.{first-taken}
use Rattle.ilk_dimacs.proofs.clauses_text.Position.take.Goals as goal

pub tokens-init : goal.tokens-init
tokens-init c =
    let at = c.args.self.now in
    let now = c.take-count in
    let left = clauses_text_after_lits at.literals (drop at.made c.args.cnf.now.clauses) in (
      first-taken at.token now.new.self left now.new.into now.result now.ensures.bytes now.ensures.rest,
      search rules,
      λ more. now.ensures.rest ∙ drop_all now.result at.token (omega (arith, more, now.ensures.count)),
    )

pub tokens-preserved : goal.tokens-preserved
tokens-preserved c =
    let l = c.tokens in
    let f = c.args.cnf.now in
    let made = c.make_word.new.self in
    let now = c.take-count-in-tokens in
    token_taken (clauses_text_from_position f c.args.self.now) l.into now.new.into made.token now.new.self (clauses_text_after_lits made.literals (drop made.made f.clauses)) l.count now.result
    l.invariant.1 (search rules)
    (l.invariant.0 ∙ ap (λ (t : Bytes). take l.count l.into ++ t) (sym c.make_word.ensures.left))
    (search rules) now.ensures.bytes now.ensures.rest
