use Rattle.std.proofs.Common.{ℕ, Option, ◌++◌, option_to_list, subst, sym}
use Rattle.ilk_drive.specs.Touched.{IsLeastHazardousAmong}
use Rattle.ilk_drive.proofs.touched.lesser_if.Goals as goal

pub returns-in-Some : goal.returns-in-Some
returns-in-Some c sections least =
    subst (λ (o : Option ℕ). IsLeastHazardousAmong c.args.plant.now c.args.s.now (option_to_list o ++ sections) c.lesser.result) (sym c.in-Some.is) (c.lesser.ensures sections least)
