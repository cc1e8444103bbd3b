use Rattle.std.proofs.Common.{sym, ◌∙◌, arith}
use Rattle.ilk_drive.proofs.LeastHazard.{least-passed}
use Rattle.ilk_drive.proofs.touched.lesser.Goals as goal

pub returns-then-x-sections : goal.returns-then-x-sections
returns-then-x-sections c sections least =
    least-passed c.args.plant.now c.args.s.now c.args.x sections c.args.found (λ within. absurd (omega (arith, within, c.sections.ensures, c.if-x-sections.true))) least

pub returns-then-not-is_section_hazardous : goal.returns-then-not-is_section_hazardous
returns-then-not-is_section_hazardous c sections least =
    least-passed c.args.plant.now c.args.s.now c.args.x sections c.args.found (λ within. sym c.is_section_hazardous.ensures ∙ c.if-not-is_section_hazardous.true) least
