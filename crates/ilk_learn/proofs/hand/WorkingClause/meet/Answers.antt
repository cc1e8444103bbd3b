use Rattle.std.proofs.Common.{◌≡◌, arith, get_or, sym, ◌∙◌, false}
use Rattle.std.proofs.lemmas.Bool.{eq-eqb, ne_eqb}
use Rattle.ilk_learn.proofs.Holding.{few, mark-read, level-read, within-marks, holds-current, holds-lower}
use Rattle.ilk_learn.proofs.hand.WorkingClause.meet.Goals as goal
use Rattle.ilk_learn.proofs.hand.WorkingClause.meet.Goals.{then-level_of-level, else-level_of-level+in_ok-push}

pub overflow_add-self : goal.overflow_add-self
overflow_add-self c =
    let h = c.requires.held in
    omega (arith, few c.args.trail.now c.args.self.now.marks.items c.args.self.now.current c.args.self.now.lower.items h.0 h.1 c.level.ensures.is_trail)

pub returns-clause-holds : goal.returns-clause-holds
returns-clause-holds c k h =
    let s = c.args.self.now in
    let l = c.args.lit in
    let t = c.args.trail.now in
    let unmarked : get_or s.marks.items l.var false ≡ false =
    mark-read s.marks.items c.var-var.result l.var c.index.result.now c.var-var.ensures
    (within-marks t s.marks.items s.current s.lower.items k l h c.requires.within) c.index.ensures
    ∙ c.if-index.false in
    let level = level-read t.entries l c.level_of.result c.level_of.ensures in
    elim c.if-level_of-level.branch [
      | then-level_of-level w ↦ rw (w.self-is, c.var-var.ensures) (holds-current t s.marks.items s.current s.lower.items k l h c.requires.within unmarked (eq-eqb _ _ (level ∙ w.if-level_of-level.true ∙ c.level.ensures.level)))
      | else-level_of-level+in_ok-push w ↦ rw (w.self-is, c.var-var.ensures, w.in_ok-push.ensures.ok)
          (holds-lower t s.marks.items s.current s.lower.items k l h c.requires.within unmarked
          (ne_eqb _ _ (λ q. w.if-level_of-level.false (sym level ∙ q ∙ sym c.level.ensures.level))))
    ]
