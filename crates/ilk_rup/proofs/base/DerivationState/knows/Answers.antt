use Rattle.std.proofs.Common.{◌≡◌, ◌∙◌, ℕ, List, inl, inr, false, true, take, ap, sym, arith}
use Rattle.ilk_base.proofs.Tested.{list_all-slice_get, list_any-from}
use Rattle.ilk_cnf.specs.Literal.{Literal, has_lit, same_lit}
use Rattle.ilk_cnf.specs.Formula.{is_lit_over}
use Rattle.ilk_cnf.proofs.SameLiterals.{same-lit}
use Rattle.ilk_trail.specs.Laws.{lits_of}
use Rattle.ilk_rup.proofs.Needing.{all-taken, one-more, pushed-lit}
use Rattle.ilk_rup.proofs.base.DerivationState.knows.Goals as goal

pub is_true-requires : goal.is_true-requires
is_true-requires c =
    let s = c.args.self.now.set in
    ap (λ (n : ℕ). is_lit_over n c.at.result) (sym c.requires) ∙ list_all-slice_get (is_lit_over s.vars) s.lits c.loop-i.i c.at.result c.len-i-end.ensures.within c.at.ensures

pub returns-then-is_true-clause-yes : goal.returns-then-is_true-clause-yes
returns-then-is_true-clause-yes c = λ _. (c.at.result, list_any-from (same_lit c.at.result) c.args.self.now.set.lits c.loop-i.i c.at.result c.at.ensures (same-lit c.at.result), sym c.is_true.ensures ∙ c.if-is_true.true)

pub loop-i-preserved : goal.loop-i-preserved
loop-i-preserved c =
    let ls = c.args.self.now.set.lits in
    let P : List Literal → Type 0 = λ xs. (m : Literal) → has_lit m xs ≡ true → has_lit m (lits_of c.args.self.now.trail.entries) ≡ false in
    one-more P ls c.loop-i.i c.at.result c.at.ensures (λ m h. elim (pushed-lit (take c.loop-i.i ls) c.at.result m h) [
      | inl q ↦ c.loop-i.invariant m q
      | inr is ↦ ap (λ (l : Literal). has_lit l (lits_of c.args.self.now.trail.entries)) is ∙ sym c.is_true.ensures ∙ c.if-is_true.false
    ])

pub returns-clause-no : goal.returns-clause-no
returns-clause-no c = λ _.
    let ls = c.args.self.now.set.lits in
    let P : List Literal → Type 0 = λ xs. (m : Literal) → has_lit m xs ≡ true → has_lit m (lits_of c.args.self.now.trail.entries) ≡ false in
    all-taken P ls c.loop-i.i (omega (arith, c.len-i-end.ensures.count, c.loop-i-test.false)) c.loop-i.invariant
