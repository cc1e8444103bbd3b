use Rattle.std.proofs.Common.{[], ◌∙◌, ℕ, Bool, List, ap, sym, subst, refl}
use Rattle.std.proofs.lemmas.Bool.{true≢false}
use Rattle.ilk_cnf.specs.Literal.{Literal}
use Rattle.ilk_lines.specs.Lines.{Bytes}
use Rattle.ilk_rup.specs.Checker.{FormulaAndStoredClauses, formula_and_clauses_of_base}
use Rattle.ilk_rup.specs.Accepted.{IsFirstBadAmong}
use Rattle.ilk_rup.specs.LitSet.{LitSetList}
use Rattle.ilk_rup.specs.Needs.{IsClauseOfExactlyLiterals}
use Rattle.ilk_rup.specs.RefutationText.{clause_added_by_item, split_words_into_items}
use Rattle.ilk_rup.specs.Standing.{IsTryAddResult}
use Rattle.ilk_rup.specs.Stepped.{HasAcceptedItem, IsItemCheckResult}
use Rattle.ilk_rup.specs.declared.next.Next.TheVariants.{Refuted}
use Rattle.ilk_rup.proofs.Deriving.{none-follows}
use Rattle.ilk_rup.proofs.Holds.{stands-read}
use Rattle.ilk_rup.proofs.Judging.{step-adds, step-idle, step-malformed, step-unfollowed}
use Rattle.ilk_rup.proofs.checker.Checker.step.Goals as goal

pub read_item-requires-clause-vars : goal.read_item-requires-clause-vars
read_item-requires-clause-vars c = ap (λ (s : LitSetList). s.vars) c.clear.ensures ∙ c.self.invariant.set_vars ∙ sym c.vars-vars.ensures.count

pub try_add_clause-requires : goal.try_add_clause-requires
try_add_clause-requires c = stands-read c.self.inside.base c.read_item.new.set (c.read_item.ensures.vars ∙ ap (λ (s : LitSetList). s.vars) c.clear.ensures) c.self.invariant

pub returns-then-refuted : goal.returns-then-refuted
returns-then-refuted c =
    let e = c.self.invariant.ended c.if-refuted.true in
    let V : FormulaAndStoredClauses → Type 0 = λ x. IsItemCheckResult x c.args.words.now c.read_item.new.words (Refuted c.self.inside.base.log) in
    subst V c.self.view_is (c.in-End.ensures.read, e.follows, e.log)

pub returns-in-End : goal.returns-in-End
returns-in-End c =
    let k = c.self.inside.base in
    let s = c.self.invariant.going c.if-refuted.false in
    let none : List Literal = [] in
    let V : FormulaAndStoredClauses → Type 0 = λ x. IsFirstBadAmong x.formula.vars x.clauses (split_words_into_items c.args.words.now) 1 in
    let W : List Bytes → Type 0 = λ ws. IsFirstBadAmong k.formula.now.vars k.clauses.clauses (split_words_into_items ws) 1 in
    let of : IsClauseOfExactlyLiterals k.formula.now.vars none none = record { within = refl; differ = refl; fewer = λ m h. h; more = λ m h. h } in
    subst V c.self.view_is (subst W (sym c.in-End.ensures.read) (none-follows k.formula.now.vars k.clauses.clauses k.trail.entries none s.closed (λ m h. absurd (true≢false (sym h))) none of))

pub returns-in-Malformed : goal.returns-in-Malformed
returns-in-Malformed c =
    let r = c.in-Malformed.ensures.read in
    let V : FormulaAndStoredClauses → Type 0 = λ x. IsFirstBadAmong x.formula.vars x.clauses (split_words_into_items c.args.words.now) 1 in
    subst V c.self.view_is (step-malformed (formula_and_clauses_of_base c.self.inside.base) c.args.words.now r.0 r.1 r.2 (ap (λ (n : ℕ). clause_added_by_item n r.0) (sym c.vars-vars.ensures.count) ∙ r.3))

pub invariant_of-result : goal.invariant_of-result
invariant_of-result c = stands-read c.self.inside.base c.read_item.new.set (c.read_item.ensures.vars ∙ ap (λ (s : LitSetList). s.vars) c.clear.ensures) c.self.invariant

pub returns-in-Idle : goal.returns-in-Idle
returns-in-Idle c =
    let k = formula_and_clauses_of_base c.self.inside.base in
    let r = c.in-Idle.ensures.read in
    let V : FormulaAndStoredClauses → Type 0 = λ x. HasAcceptedItem x c.args.words.now c.read_item.new.words k in
    subst V c.self.view_is (step-idle k c.args.words.now c.read_item.new.words r.0 r.1 (ap (λ (n : ℕ). clause_added_by_item n r.0) (sym c.vars-vars.ensures.count) ∙ r.2) r.3)

pub invariant_of-result-then-branch : goal.invariant_of-result-then-branch
invariant_of-result-then-branch c =
    let T : Bool → Type 0 = λ b. IsTryAddResult (record c.self.inside.base { set = c.read_item.new.set }) b c.try_add_clause.new.self in
    (subst T c.if-branch.true c.in_ok-try_add_clause-in-Adds.ensures).stands

pub returns-then-branch : goal.returns-then-branch
returns-then-branch c =
    let k = c.self.inside.base in
    let r = c.in-Adds.ensures.read in
    let count = sym c.vars-vars.ensures.count in
    let V : FormulaAndStoredClauses → Type 0 = λ x. HasAcceptedItem x c.args.words.now c.read_item.new.words (formula_and_clauses_of_base c.try_add_clause.new.self) in
    let T : Bool → Type 0 = λ b. IsTryAddResult (record k { set = c.read_item.new.set }) b c.try_add_clause.new.self in
    let C : ℕ → Type 0 = λ n. IsClauseOfExactlyLiterals n c.read_item.new.set.lits r.1 in
    let t = subst T c.if-branch.true c.in_ok-try_add_clause-in-Adds.ensures in
    let of = subst C c.vars-vars.ensures.count r.4 in
    subst V c.self.view_is
    (step-adds (formula_and_clauses_of_base k) (formula_and_clauses_of_base c.try_add_clause.new.self) c.args.words.now c.read_item.new.words r.0 r.1 r.2 (ap (λ (n : ℕ). clause_added_by_item n r.0) count
    ∙ r.3) (t.follows r.1 of) (ap (λ f. f.now) t.formula)
    (t.alike r.1 of) r.5)

pub returns : goal.returns
returns c =
    let k = c.self.inside.base in
    let r = c.in-Adds.ensures.read in
    let V : FormulaAndStoredClauses → Type 0 = λ x. IsFirstBadAmong x.formula.vars x.clauses (split_words_into_items c.args.words.now) 1 in
    let T : Bool → Type 0 = λ b. IsTryAddResult (record k { set = c.read_item.new.set }) b c.try_add_clause.new.self in
    let C : ℕ → Type 0 = λ n. IsClauseOfExactlyLiterals n c.read_item.new.set.lits r.1 in
    let none = subst T c.if-branch.false c.in_ok-try_add_clause-in-Adds.ensures r.1 (subst C c.vars-vars.ensures.count r.4) in
    subst V c.self.view_is (step-unfollowed (formula_and_clauses_of_base k) c.args.words.now r.0 _ r.1 r.2 (ap (λ (n : ℕ). clause_added_by_item n r.0) (sym c.vars-vars.ensures.count) ∙ r.3) none)
