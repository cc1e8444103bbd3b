use Rattle.ilk_arena.proofs.Readings.{vars-are}
use Rattle.ilk_arena.proofs.arena.Arena.vars.Goals as goal

pub returns-clause-count : goal.returns-clause-count
returns-clause-count c = let s = c.self.inside in vars-are s.vars _ s.words.items s.heads.items c.args.self.now c.self.view_is
