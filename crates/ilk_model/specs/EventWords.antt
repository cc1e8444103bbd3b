use Rattle.std.specs.Prelude.{ℕ, List, codes}
use Rattle.ilk_model.specs.declared.event.Event.{Event}
use Rattle.ilk_model.specs.declared.event.Event.TheVariants.{Mark, Allocate, Lock, Sense, Release, Finish, Throw, Settle, Enter, Head, Tail, Leave, Cancel}

-- The word of an event in run texts.
abbrev pub event_word : Event → List ℕ
event_word (Mark r) = codes "mark"
event_word (Allocate r) = codes "allocate"
event_word (Lock r) = codes "lock"
event_word (Sense r) = codes "sense"
event_word (Release r) = codes "release"
event_word (Finish r) = codes "finish"
event_word (Throw x) = codes "throw"
event_word (Settle x) = codes "settle"
event_word (Enter x) = codes "enter"
event_word (Head x) = codes "head"
event_word (Tail x) = codes "tail"
event_word (Leave x) = codes "leave"
event_word (Cancel r) = codes "cancel"
