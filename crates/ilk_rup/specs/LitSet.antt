use Rattle.std.specs.Prelude.{ℕ, ◌≡◌, List, Some, None, slice_get}
use Rattle.ilk_cnf.specs.Literal.{Literal}
use Rattle.ilk_trail.specs.declared.entry.Entry.{Entry}

-- The content of a set of literals over the variables 1 to `vars`, in the order of insertion.
pub record LitSetList : Type 0 where
  pub vars : ℕ
  pub lits : List Literal

-- Holds if all entries are decisions: none has a reason.
abbrev pub NoEntryHasReason : List Entry → Type 0
NoEntryHasReason es = (i : ℕ) (e : Entry) → slice_get es i ≡ Some e → e.reason ≡ None
