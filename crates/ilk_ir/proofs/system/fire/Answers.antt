use Rattle.std.proofs.Common.{◌∙◌, ap, sym, slice_get, ℕ}
use Rattle.ilk_ir.proofs.Ranges.{fire-in_ranges}
use Rattle.ilk_ir.proofs.system.fire.Goals as goal

pub returns-clause-in_ranges : goal.returns-clause-in_ranges
returns-clause-in_ranges c =
    λ valid within.
    let written = c.write_all.ensures in
    let at = ap (λ (n : ℕ). slice_get c.args.system.now.rules n) (sym c.from.ensures) ∙ c.at-rule.ensures in
    rw written (fire-in_ranges c.args.system.now c.args.rule c.at-rule.result.now c.args.values.now at valid within)
