use Rattle.std.proofs.Common.{◌++◌, ◌∷◌, [], ℕ, Bool, List, ap, sym, ◌∙◌, append_assoc, take, cond, not}
use Rattle.std.specs.List.{filter}
use Rattle.ilk_cnf.specs.Literal.{Literal}
use Rattle.ilk_cnf.specs.Formula.{is_lit_over}
use Rattle.ilk_trail.specs.Laws.{is_set}
use Rattle.ilk_base.proofs.Tested.{list_all-slice_get}
use Rattle.ilk_rup.proofs.Assuming.{filter-more}
use Rattle.ilk_rup.proofs.assume.push_unset.Goals as goal

pub is_set-requires : goal.is_set-requires
is_set-requires c =
    let s = c.args.set.now in
    ap (λ (n : ℕ). is_lit_over n c.at-l.result) (sym c.requires) ∙ list_all-slice_get (is_lit_over s.vars) s.lits c.loop-i.i c.at-l.result c.len-i-end.ensures.within c.at-l.ensures

pub loop-i-preserved : goal.loop-i-preserved
loop-i-preserved c =
    let p : Literal → Bool = λ x. not (is_set c.args.trail.now.entries x.var) in
    let l = c.at-l.result in
    let start = c.args.clause.now in
    let some = filter p (take c.loop-i.i c.args.set.now.lits) in
    let one : Bool → List Literal = λ b. cond b (l ∷ []) [] in
    c.in_ok-push_if.ensures.ok
    ∙ ap (λ (b : Bool). c.loop-i.clause ++ one b) (ap not c.is_set.ensures)
    ∙ ap (λ (ls : List Literal). ls ++ one (p l)) c.loop-i.invariant
    ∙ append_assoc start some (one (p l))
    ∙ ap (λ (ls : List Literal). start ++ ls) (sym (filter-more p c.args.set.now.lits c.loop-i.i l c.at-l.ensures))
