use Rattle.std.proofs.Common.{◌≡◌, ◌∷◌, [], false, ap, sym, ◌∙◌, subst, set, List, ℕ}
use Rattle.std.specs.Prelude.{reverse}
use Rattle.std.proofs.lemmas.List.{reverse-append}
use Rattle.ilk_cnf.specs.Code.{code_of}
use Rattle.ilk_cnf.specs.Literal.{Literal}
use Rattle.ilk_audit.specs.Stored.{IsFalseLitTable}
use Rattle.ilk_audit.proofs.Tables.{table-take}
use Rattle.ilk_audit.proofs.partial.PartialAssignment.take_last.Goals as goal

pub invariant_of-self-2 : goal.invariant_of-self-2
invariant_of-self-2 c =
    let p = c.self.inside in
    let l = c.in-Some.l in
    let items = (c.in-Some.ensures {u = tt}).items in
    let set_is : reverse p.trail.items ≡ l ∷ reverse c.pop.new.self.items = ap (λ (xs : List Literal). reverse xs) items ∙ reverse-append c.pop.new.self.items (l ∷ []) in
    let place = c.code_of.ensures ∙ ap code_of c.negated.ensures in
    let P : List Literal → Type 0 = λ ls. IsFalseLitTable p.falses.items (record { vars = p.vars; set = ls }) in
    let Q : ℕ → Type 0 = λ k. IsFalseLitTable (set p.falses.items k false) (record { vars = p.vars; set = reverse c.pop.new.self.items }) in
    subst Q (sym place) (table-take p.falses.items p.vars (reverse c.pop.new.self.items) l (subst P set_is c.self.invariant))
