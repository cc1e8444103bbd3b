-- The result of one look at a clause.
use Rattle.std.specs.Prelude.{List, if◌then◌else◌}
use Rattle.std.specs.Option.{option_map_or}
use Rattle.ilk_cnf.specs.Literal.{Literal}
use Rattle.ilk_log.specs.Propagation.{is_falsified, unit_lit}
use Rattle.ilk_watches.specs.declared.look.ClauseState.{ClauseState}
use Rattle.ilk_watches.specs.declared.look.ClauseState.TheVariants.{Conflict, Unit, Open}

-- Returns the state of a clause if the literals in `set` are true: false (`Conflict`), false except
-- for one unset literal (`Unit`), or neither (`Open`).
abbrev pub clause_state : List Literal → List Literal → ClauseState
clause_state set clause = if is_falsified set clause then Conflict else option_map_or Unit (unit_lit set clause) Open
