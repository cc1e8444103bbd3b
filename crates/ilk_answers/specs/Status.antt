-- The exit status for each outcome of the program.
use Rattle.std.specs.Prelude.{ℕ, Bool, true, false}
use Rattle.ilk_answers.specs.declared.status.Status.{Status}
use Rattle.ilk_answers.specs.declared.status.Status.TheVariants.{Good, Unsafe, NotInductive, Breach, Spent, Refused, Rejected, Usage, ReadFault, WriteFault, OutOfMemory}

abbrev pub code : Status → ℕ
code Good = 0
code Unsafe = 1
code NotInductive = 2
code Breach = 3
code Spent = 4
code Refused = 5
code Rejected = 6
code Usage = 7
code ReadFault = 8
code WriteFault = 9
code OutOfMemory = 10

-- Returns whether a command's reply can have this status. It is false for a usage error, a read or
-- write fault, and lack of memory.
abbrev pub is_fault_free_command_status : Status → Bool
is_fault_free_command_status Usage = false
is_fault_free_command_status ReadFault = false
is_fault_free_command_status WriteFault = false
is_fault_free_command_status OutOfMemory = false
is_fault_free_command_status _ = true

-- Returns whether the status is that of an answer, be it a usage error. It is false for a read or
-- write fault, and lack of memory.
abbrev pub is_fault_free_status : Status → Bool
is_fault_free_status Usage = true
is_fault_free_status status = is_fault_free_command_status status

-- Returns whether, by this status, there was a reply and its writing began.
abbrev pub had_reply_to_write : Status → Bool
had_reply_to_write WriteFault = true
had_reply_to_write status = is_fault_free_command_status status
