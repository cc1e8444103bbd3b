use Rattle.std.proofs.Common.{length, ap, sym, ◌∙◌}
use Rattle.ilk_cnf.proofs.Cuts.{length-split_at_ends}
use Rattle.ilk_cnf.proofs.clause_list.ClauseList.len.Goals as goal

pub returns : goal.returns
returns c =
    let s = c.self.inside in
    c.len.ensures ∙ s.ends.ok.0 ∙ sym (length-split_at_ends 0 s.ends.items s.lits.items) ∙ ap length c.self.view_is
