use Rattle.std.proofs.Common.{Bool, Option, not, ap, sym, ◌∙◌}
use Rattle.ilk_base.specs.Option.{is_some_and}
use Rattle.ilk_watches.proofs.Values.{value-tells}
use Rattle.ilk_watches.proofs.visit.is_false.Goals as goal

pub returns-in-Some : goal.returns-in-Some
returns-in-Some c = sym ((value-tells c.args.trail.now.entries c.args.l c.requires.trail.once).denied ∙ ap (λ (o : Option Bool). is_some_and o not) (sym c.in-Some.ensures))

pub returns-in-None : goal.returns-in-None
returns-in-None c = sym ((value-tells c.args.trail.now.entries c.args.l c.requires.trail.once).denied ∙ ap (λ (o : Option Bool). is_some_and o not) (sym c.in-None.ensures))
