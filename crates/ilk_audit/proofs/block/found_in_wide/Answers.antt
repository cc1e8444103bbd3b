use Rattle.std.proofs.Common.{◌≡◌, ◌+◌, ◌∷◌, true, false, None, Some, Option, get_or, drop, sym, ap, ◌∙◌, subst, arith}
use Rattle.ilk_base.proofs.Options.{none-of}
use Rattle.ilk_cnf.specs.Literal.{Literal}
use Rattle.ilk_cnf.specs.Code.{literal_of}
use Rattle.ilk_cnf.specs.Formula.{is_lit_over}
use Rattle.ilk_log.specs.Propagation.{is_false}
use Rattle.ilk_audit.proofs.Scans.{AtCodes, code-at, scan-false, scan-next, scan-open}
use Rattle.ilk_audit.proofs.block.found_in_wide.Goals as goal
use Rattle.ilk_audit.proofs.block.found_in_wide.Goals.{then-not-is_false+else-is_some, else-not-is_false}

pub literal_of-l-requires-clause-from_1 : goal.literal_of-l-requires-clause-from_1
literal_of-l-requires-clause-from_1 c =
    let w = code-at c.args.partial.now.vars c.args.codes.now c.loop-code.code-index c.requires.within c.loop-code-test.true in omega (arith, w.1)

pub literal_of-l-requires-clause-numbered : goal.literal_of-l-requires-clause-numbered
literal_of-l-requires-clause-numbered c =
    let w = code-at c.args.partial.now.vars c.args.codes.now c.loop-code.code-index c.requires.within c.loop-code-test.true in omega (arith, w.2, c.requires.few)

pub is_false-requires : goal.is_false-requires
is_false-requires c =
    let w = code-at c.args.partial.now.vars c.args.codes.now c.loop-code.code-index c.requires.within c.loop-code-test.true in
    ap (is_lit_over c.args.partial.now.vars) c.literal_of-l.ensures ∙ w.0

pub loop-code-preserved : goal.loop-code-preserved
loop-code-preserved c =
    let n = c.args.partial.now.vars in
    let codes = c.args.codes.now in
    let i = c.loop-code.code-index in
    let at = scan-next n c.args.partial.now.set codes c.loop-code.lone i c.loop-code.invariant c.loop-code-test.true in
    let code = get_or codes i 0 in
    let within = code-at n codes i c.requires.within c.loop-code-test.true in
    let P : Option Literal → Type 0 = λ lone. AtCodes n c.args.partial.now.set codes lone (drop (i + 1) codes) in
    elim c.if-not-is_false.branch [
      | then-not-is_false+else-is_some w ↦ (let none : c.loop-code.lone ≡ None = none-of c.loop-code.lone (sym (w.if-is_some.ensures {u = tt})) in
          let N : Option Literal → Type 0 = λ lone. AtCodes n c.args.partial.now.set codes lone (code ∷ drop (i + 1) codes) in
          let open_ : is_false c.args.partial.now.set (literal_of code) ≡ false = ap (is_false c.args.partial.now.set) (sym c.literal_of-l.ensures) ∙ sym (w.if-not-is_false.ensures {u = tt}) in
          let next = scan-open n c.args.partial.now.set codes code (drop (i + 1) codes) (subst N none at) open_ within.0 in
          subst P (sym (w.lone-is ∙ ap (λ (l : Literal). Some l) c.literal_of-l.ensures)) next)
      | else-not-is_false w ↦ (let false_ : is_false c.args.partial.now.set (literal_of code) ≡ true = ap (is_false c.args.partial.now.set) (sym c.literal_of-l.ensures) ∙ sym (w.if-not-is_false.ensures {u = tt}) in
          subst P (sym w.lone-is) (scan-false n c.args.partial.now.set codes c.loop-code.lone code (drop (i + 1) codes) at false_))
    ]
