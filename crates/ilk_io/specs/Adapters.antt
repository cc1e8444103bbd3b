-- The adapters as contracts see them, each with the number of its failures.
use Rattle.std.specs.Prelude.{ℕ, Option, String}
use Rattle.std.specs.declared.alloc.Global.{Global}

pub record ReaderSource (R : Type 0) : Type 0 where
  pub reader : R
  pub faults : ℕ

pub record WriterSink (W : Type 0) : Type 0 where
  pub writer : W
  pub faults : ℕ

-- A source or sink over the file `name`. `file` is `None` until a call opens it.
pub record LazilyOpenedFile (F : Type 0) : Type 0 where
  pub name : String Global
  pub file : Option F
  pub faults : ℕ
