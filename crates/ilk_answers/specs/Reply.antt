use Rattle.std.specs.Prelude.{◌≡◌, Bool, false, IsTrue, []}
use Rattle.ilk_answers.specs.Status.{is_fault_free_command_status}
use Rattle.ilk_answers.specs.declared.reply.Reply.{Reply}

-- Holds if a reply is one that its command may have: the status reports neither a usage error nor a
-- fault nor lack of memory, and there is a certificate only if the command may write one.
pub record HasAllowedStatusAndCertificate (certifies : Bool) (made : Reply) : Type 0 where
  pub status : IsTrue (is_fault_free_command_status made.status)
  pub uncertified : certifies ≡ false → made.certificate ≡ []
