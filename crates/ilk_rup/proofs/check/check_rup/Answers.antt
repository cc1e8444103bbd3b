use Rattle.std.proofs.Common.{◌≡◌, true, ap, subst, arith, length}
use Rattle.ilk_log.specs.Derived.{is_refutation}
use Rattle.ilk_cnf.specs.Formula.{Formula}
use Rattle.ilk_rup.specs.Stepped.{IsItemCheckResult}
use Rattle.ilk_rup.specs.declared.next.Next.{Next}
use Rattle.ilk_rup.proofs.Bounds.{words-few}
use Rattle.ilk_rup.proofs.Judging.{going-bad, going-end, going-start, going-step}
use Rattle.ilk_rup.proofs.check.check_rup.Goals as goal

pub items-init : goal.items-init
items-init c =
    let words = c.from_text-words.ensures in
    let long = ap length words in
    record { numbered = omega (arith, long); going = going-start c.args.cnf.now c.args.text.now c.in_ok-checker.checker c.from_text-words.result c.in_ok-checker.ensures.formula c.in_ok-checker.ensures.alike words }

pub returns-in-Bad : goal.returns-in-Bad
returns-in-Bad c =
    let N : Next → Type 0 = λ x. IsItemCheckResult c.items.checker c.items.words c.step.new.words x in
    going-bad c.args.cnf.now c.args.text.now c.items.checker c.items.words c.items.item c.items.invariant.going (subst N c.in-Bad.is c.in_ok-log.ensures)

pub returns-in-Refuted : goal.returns-in-Refuted
returns-in-Refuted c =
    let g = c.items.invariant.going in
    let N : Next → Type 0 = λ x. IsItemCheckResult c.items.checker c.items.words c.step.new.words x in
    let F : Formula → Type 0 = λ f. is_refutation f c.in-Refuted.log ≡ true in
    let r = subst N c.in-Refuted.is c.in_ok-log.ensures in
    (going-end c.args.cnf.now c.args.text.now c.items.checker c.items.words c.items.item g r.0 r.1, subst F g.formula r.2)

pub overflow_add-item : goal.overflow_add-item
overflow_add-item c =
    let N : Next → Type 0 = λ x. IsItemCheckResult c.items.checker c.items.words c.step.new.words x in
    let few = words-few c.args.text.now in
    omega (arith, c.items.invariant.numbered, (subst N c.in-Right.is c.in_ok-log.ensures).shorter, few, c.type_inv.text)

pub items-preserved : goal.items-preserved
items-preserved c =
    let N : Next → Type 0 = λ x. IsItemCheckResult c.items.checker c.items.words c.step.new.words x in
    let r = subst N c.in-Right.is c.in_ok-log.ensures in
    record {
      numbered = omega (arith, c.items.invariant.numbered, r.shorter);
      going = going-step c.args.cnf.now c.args.text.now c.items.checker c.in-Right.taken c.items.words c.step.new.words c.items.item c.items.invariant.going r;
    }

pub items-smaller : goal.items-smaller
items-smaller c = (let N : Next → Type 0 = λ x. IsItemCheckResult c.items.checker c.items.words c.step.new.words x in (subst N c.in-Right.is c.in_ok-log.ensures).shorter)
