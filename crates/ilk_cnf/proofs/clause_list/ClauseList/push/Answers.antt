use Rattle.std.proofs.Common.{◌≡◌, ◌+◌, ◌++◌, ◌∷◌, [], length, List, ap, sym, ◌∙◌, rules, arith, length-append}
use Rattle.ilk_cnf.proofs.Cuts.{ends_ascend_to-push, split_at_ends-push}
use Rattle.ilk_cnf.proofs.clause_list.ClauseList.push.Goals as goal

pub invariant_of-self-2 : goal.invariant_of-self-2
invariant_of-self-2 c =
    let s = c.self.inside in
    let ends : c.push.new.self.items ≡ s.ends.items ++ c.len.result ∷ [] = search rules in
    let lits : c.extend_from_slice.new.self.items ≡ s.lits.items ++ c.args.clause.now = search rules in
    let long : c.len.result ≡ length c.extend_from_slice.new.self.items = search rules in
    let more = length-append s.lits.items c.args.clause.now in
    let both : c.len.result ≡ length s.lits.items + length c.args.clause.now = long ∙ ap length lits ∙ more in
    rw (ends, sym long) (ends_ascend_to-push 0 s.ends.items (length s.lits.items) c.len.result c.self.invariant (omega (arith, both)))

pub returns-clause-ok : goal.returns-clause-ok
returns-clause-ok c =
    let s = c.self.inside in
    let ends : c.push.new.self.items ≡ s.ends.items ++ c.len.result ∷ [] = search rules in
    let lits : c.extend_from_slice.new.self.items ≡ s.lits.items ++ c.args.clause.now = search rules in
    let long : c.len.result ≡ length c.extend_from_slice.new.self.items = search rules in
    let more = length-append s.lits.items c.args.clause.now in
    let both : c.len.result ≡ length s.lits.items + length c.args.clause.now = long ∙ ap length lits ∙ more in
    rw (ends, lits) (split_at_ends-push 0 s.ends.items s.lits.items c.args.clause.now c.len.result c.self.invariant both ∙ ap (λ (lists : List (List _)). lists ++ c.args.clause.now ∷ []) c.self.view_is)
