use Rattle.std.proofs.Common.{List, ℕ, length, ap, arith}
use Rattle.std.proofs.lemmas.Option.{slice_get_within}
use Rattle.ilk_drive.proofs.Held.{listed-all}
use Rattle.ilk_drive.proofs.driving.push_all.Goals as goal

pub returns-clause-added : goal.returns-clause-added
returns-clause-added c = listed-all c.args.places.now c.loop-place.candidates (λ k j at.
    let within = slice_get_within c.args.places.now k j at in
    let long = ap (λ (xs : List ℕ). length xs) c.as_slice-place-items.ensures in
    c.loop-place.invariant.added k j (omega (arith, within, long)) at)
