use Rattle.std.proofs.Common.{◌≡◌, ◌∷◌, [], true, ap, sym, ◌∙◌, subst, set, List, ℕ}
use Rattle.std.specs.Prelude.{reverse}
use Rattle.std.proofs.lemmas.List.{reverse-append}
use Rattle.ilk_cnf.specs.Code.{code_of}
use Rattle.ilk_cnf.specs.Literal.{has_var, Literal}
use Rattle.ilk_cnf.specs.Formula.{is_lit_over}
use Rattle.ilk_audit.specs.Stored.{IsFalseLitTable, VarCountAndTrueLits}
use Rattle.ilk_audit.proofs.Tables.{table-set}
use Rattle.ilk_audit.proofs.partial.PartialAssignment.set.Goals as goal

pub invariant_of-self-2 : goal.invariant_of-self-2
invariant_of-self-2 c =
    let p = c.self.inside in
    let l = c.args.l in
    let within = ap (λ (q : VarCountAndTrueLits). is_lit_over q.vars l) c.self.view_is ∙ c.requires.within in
    let unset = ap (λ (q : VarCountAndTrueLits). has_var l.var q.set) c.self.view_is ∙ c.requires.unset in
    let items = (c.in_ok-push.ensures {u = tt}).items in
    let set_is : reverse c.push.new.self.items ≡ l ∷ reverse p.trail.items = ap (λ (xs : List Literal). reverse xs) items ∙ reverse-append p.trail.items (l ∷ []) in
    let code : c.code_of.result ≡ code_of c.negated.result = c.code_of.ensures in
    let place = code ∙ ap code_of c.negated.ensures in
    let P : List Literal → Type 0 = λ ls. IsFalseLitTable (set p.falses.items c.code_of.result true) (record { vars = p.vars; set = ls }) in
    let Q : ℕ → Type 0 = λ k. IsFalseLitTable (set p.falses.items k true) (record { vars = p.vars; set = l ∷ reverse p.trail.items }) in
    subst P (sym set_is) (subst Q (sym place) (table-set p.falses.items p.vars (reverse p.trail.items) l c.self.invariant within unset))
