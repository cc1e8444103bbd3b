use Rattle.std.specs.Prelude.{Option}
use Rattle.ilk_plant.specs.Plant.{PlantLists}
use Rattle.ilk_plant.specs.declared.state.State.{State}
use Rattle.ilk_motion.specs.Trains.{after_enter, after_head, after_leave, after_tail}
use Rattle.ilk_routes.specs.Points.{after_settle, after_throw}
use Rattle.ilk_routes.specs.Routes.{after_allocate, after_cancel, after_finish, after_lock, after_mark, after_release, after_sense}
use Rattle.ilk_model.specs.declared.event.Event.{Event}
use Rattle.ilk_model.specs.declared.event.Event.TheVariants.{Mark, Allocate, Lock, Sense, Release, Finish, Throw, Settle, Enter, Head, Tail, Leave, Cancel}

-- The state after an event in state s, or `None` if the event is not enabled.
abbrev pub next : PlantLists → State → Event → Option State
next p s (Mark r) = after_mark p s r
next p s (Allocate r) = after_allocate p s r
next p s (Lock r) = after_lock p s r
next p s (Sense r) = after_sense p s r
next p s (Release r) = after_release p s r
next p s (Finish r) = after_finish p s r
next p s (Throw x) = after_throw p s x
next p s (Settle x) = after_settle p s x
next p s (Enter x) = after_enter p s x
next p s (Head x) = after_head p s x
next p s (Tail x) = after_tail p s x
next p s (Leave x) = after_leave p s x
next p s (Cancel r) = after_cancel p s r
