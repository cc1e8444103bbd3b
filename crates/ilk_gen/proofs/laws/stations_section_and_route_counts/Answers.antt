use Rattle.ilk_gen.proofs.ComputedLimits.{routes-counted, sections-counted}
use Rattle.ilk_gen.proofs.laws.stations_section_and_route_counts.Goals as goal

pub returns-clause-sections : goal.returns-clause-sections
returns-clause-sections c = sections-counted c.args.n c.requires.some c.requires.few

pub returns-clause-routes : goal.returns-clause-routes
returns-clause-routes c = routes-counted c.args.n c.requires.some c.requires.few
