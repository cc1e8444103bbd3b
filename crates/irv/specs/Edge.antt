-- What the program adds to `run`: the status for unreadable arguments, and standard error.
use Rattle.std.specs.Prelude.{ℕ, ◌≡◌, IsTrue, Option, Some, None, List, codes}
use Rattle.std.specs.declared.io.ErrorKind.{ErrorKind}
use Rattle.std.specs.declared.io.ErrorKind.TheVariants.{OutOfMemory as NoMemory}
use Rattle.ilk_io.specs.Sink.{Appends}
use Rattle.ilk_words.specs.declared.command.Command.{Command}
use Rattle.ilk_answers.specs.Answer.{IsAnswerTo}
use Rattle.ilk_answers.specs.Status.{is_fault_free_status}
use Rattle.ilk_answers.specs.declared.reply.Reply.{Reply}
use Rattle.ilk_answers.specs.declared.status.Status.{Status}
use Rattle.ilk_answers.specs.declared.status.Status.TheVariants.{Usage, ReadFault, WriteFault, OutOfMemory}

-- The status for arguments that can't be read: out of memory, or a usage error if one isn't UTF-8.
abbrev pub unreadable_args_status : ErrorKind → Status
unreadable_args_status NoMemory = OutOfMemory
unreadable_args_status _ = Usage

-- The line on standard error for a status, or `None` if it has none.
abbrev pub complaint : Status → Option (List ℕ)
complaint Usage = Some (codes "irv: usage")
complaint ReadFault = Some (codes "irv: read fault")
complaint WriteFault = Some (codes "irv: write fault")
complaint OutOfMemory = Some (codes "irv: out of memory")
complaint _ = None

-- Holds if a status reports a fault, or is that of some answer to the command, with the inputs
-- unknown. The certificate of that answer was added to the bytes written before, if the sink
-- exposes them (`Some`).
abbrev pub IsStatusOfSomeAnswer : Option Command → Option (List ℕ) → Option (List ℕ) → Status → Type 0
IsStatusOfSomeAnswer asked cert_old cert_new status =
    IsTrue (is_fault_free_status status) → (made : Reply) × IsAnswerTo asked None None made × (status ≡ made.status) × Appends cert_old cert_new made.certificate
