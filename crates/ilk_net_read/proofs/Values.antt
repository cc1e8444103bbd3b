-- The value of a text, by the result of reading it.
use Rattle.std.proofs.Common.{◌≡◌, ℕ, Bool, true, false, List, Some, None, Ok, Err, cond, refl, ap}
use Rattle.std.specs.Str.{IsUtf8, is_utf8}
use Rattle.std.proofs.lemmas.Str.{IsUtf8-from_is_utf8, is_utf8-from_IsUtf8}
use Rattle.serde_json.specs.Data.{Data}
use Rattle.serde_json.specs.Read.{read}
use Rattle.ilk_net_read.specs.Fault.{rule_fault_at_place, or_fault}
use Rattle.ilk_net_read.specs.Network.{value_of}
use Rattle.ilk_net_read.specs.declared.fault.Form.TheVariants.{F2}
use Rattle.ilk_net_read.specs.declared.fault.Place.TheVariants.{Document}

pub value_of-read : (bytes : List ℕ) (d : Data) → IsUtf8 bytes → read bytes ≡ Some d → value_of bytes ≡ Ok d
value_of-read bytes d utf8 e = rw (is_utf8-from_IsUtf8 bytes utf8, e)

unread : (bytes : List ℕ) (b : Bool) → is_utf8 bytes ≡ b → (IsUtf8 bytes → read bytes ≡ None) → cond b (read bytes) None ≡ None
unread bytes true is none = none (IsUtf8-from_is_utf8 bytes is)
unread bytes false is none = refl

pub value_of-refused : (bytes : List ℕ) → (IsUtf8 bytes → read bytes ≡ None) → value_of bytes ≡ Err (rule_fault_at_place F2 Document)
value_of-refused bytes none = ap (or_fault (rule_fault_at_place F2 Document)) (unread bytes (is_utf8 bytes) refl none)
