use Rattle.std.proofs.Common.{refl}
use Rattle.std.proofs.lemmas.List.{map-append}
use Rattle.ilk_net_check.proofs.ends.resolved_ends_of_section.Goals as goal
use Rattle.ilk_net_check.proofs.ends.resolved_ends_of_section.Goals.{in-Linear+in_ok-push_end-in-Linear+in_ok-push_end-in-Linear-2, in-Point+in_ok-push-in-Point+in_ok-push-in-Point-2+in_ok-push-in-Point-3}

pub returns : goal.returns
returns c =
    elim c.match-kind.branch [
      | in-Linear+in_ok-push_end-in-Linear+in_ok-push_end-in-Linear-2 w ↦
          rw (w.ends-is, w.in_ok-push_end-in-Linear-2.ensures, w.in_ok-push_end-in-Linear.ensures, c.new-ends.ensures, w.in-Linear.is, map-append) refl
      | in-Point+in_ok-push-in-Point+in_ok-push-in-Point-2+in_ok-push-in-Point-3 w ↦
          rw (
            w.ends-is,
            w.in_ok-push-in-Point-3.ensures.ok,
            w.in_ok-push-in-Point-2.ensures.ok,
            w.in_ok-push-in-Point.ensures.ok,
            c.new-ends.ensures,
            w.end_of.ensures,
            w.end_of-in-Point.ensures,
            w.end_of-in-Point-2.ensures,
            w.opposite.ensures,
            w.in-Point.is,
          )
          refl
    ]
