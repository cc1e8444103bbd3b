-- The first violated rule of the form, and the results of readers.
use Rattle.std.specs.Prelude.{◌≡◌, Bool, Option, Some, None, Result, Ok, Err, if◌then◌else◌}
use Rattle.ilk_net_read.specs.declared.fault.Form.{Form}
use Rattle.ilk_net_read.specs.declared.fault.Form.TheVariants.{F3}
use Rattle.ilk_net_read.specs.declared.fault.FormError.{FormError}
use Rattle.ilk_net_read.specs.declared.fault.FormError.TheVariants.{Fault, OutOfMemory}
use Rattle.ilk_net_read.specs.declared.fault.FormFault.{FormFault}
use Rattle.ilk_net_read.specs.declared.fault.ValueReadError.{ValueReadError}
use Rattle.ilk_net_read.specs.declared.fault.ValueReadError.TheVariants.{WrongKind, OutOfMemory as NoMemory}
use Rattle.ilk_net_read.specs.declared.fault.Place.{Place}

-- Returns the fault that says that `rule` is violated at `place`.
abbrev pub rule_fault_at_place : Form → Place → FormFault
rule_fault_at_place rule place = record { rule = rule; place = place }

-- Returns the value if there is one, otherwise the error `fault`.
abbrev pub or_fault : {A : Type 0} → FormFault → Option A → Result A FormFault
or_fault fault (Some x) = Ok x
or_fault fault None = Err fault

-- Returns `x` if it passes `test`, otherwise the error `fault`.
abbrev pub value_if_passes : {A : Type 0} → (A → Bool) → FormFault → A → Result A FormFault
value_if_passes test fault x = if test x then Ok x else Err fault

-- Holds if a reader's result, seen by `view`, is the value or fault `given`. It also holds if
-- memory ran out.
abbrev pub ViewMatchesUnlessOutOfMemory : {X Y : Type 0} → (X → Y) → Result X FormError → Result Y FormFault → Type 0
ViewMatchesUnlessOutOfMemory view (Ok x) given = given ≡ Ok (view x)
ViewMatchesUnlessOutOfMemory view (Err (Fault fault)) given = given ≡ Err fault
ViewMatchesUnlessOutOfMemory view (Err OutOfMemory) given = Unit {0}

-- Holds if a reader's result is the value or fault `given`. It also holds if memory ran out.
abbrev pub MatchesUnlessOutOfMemory : {X : Type 0} → Result X FormError → Result X FormFault → Type 0
MatchesUnlessOutOfMemory answer given = ViewMatchesUnlessOutOfMemory (λ x. x) answer given

-- Holds if a reader returns the value `found`, or the error `WrongKind` if there is none. It also
-- holds if memory ran out.
abbrev pub IsReadIfKindMatches : {X : Type 0} → Result X ValueReadError → Option X → Type 0
IsReadIfKindMatches (Ok x) found = found ≡ Some x
IsReadIfKindMatches (Err WrongKind) found = found ≡ None
IsReadIfKindMatches (Err NoMemory) found = Unit {0}

-- Returns the error of a configuration's reader for a value read at `place`: a violation of F3
-- there, or out of memory.
abbrev pub into_form_error_at : ValueReadError → Place → FormError
into_form_error_at WrongKind place = Fault (rule_fault_at_place F3 place)
into_form_error_at NoMemory place = OutOfMemory
