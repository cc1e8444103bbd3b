use Rattle.std.proofs.Common.{◌≡◌, drop}
use Rattle.ilk_ir.specs.Form.{trees_of}
use Rattle.ilk_forms.specs.Bound.{last_if_values_consecutive}
use Rattle.ilk_forms.proofs.bound.last_if_values_consecutive.Given as goal

abbrev pub invariant-loop-form : goal.invariant-loop-form
invariant-loop-form l = last_if_values_consecutive l.v l.last (trees_of (drop l.form-index l.forms)) ≡ last_if_values_consecutive l.v l.fn.c (trees_of l.forms)
