-- Examples of the order of queries.
use Rattle.std.proofs.Common.{◌≡◌, [], ◌∷◌, Some, None, refl}
use Rattle.ilk_unroll.specs.declared.queries.Wanted.TheVariants.{Hazard, Breach, Step}
use Rattle.ilk_induct.specs.Order.{queries_to_depth_given_breach}

pub up-to-two : queries_to_depth_given_breach None 2 ≡ Hazard 0 ∷ Breach 0 ∷ Hazard 1 ∷ Breach 1 ∷ Step 1 ∷ Hazard 2 ∷ Breach 2 ∷ Step 2 ∷ []
up-to-two = refl

pub after-none : queries_to_depth_given_breach (Some 0) 2 ≡ Hazard 0 ∷ Breach 0 ∷ Hazard 1 ∷ Hazard 2 ∷ []
after-none = refl

pub after-one : queries_to_depth_given_breach (Some 1) 3 ≡ Hazard 0 ∷ Breach 0 ∷ Hazard 1 ∷ Breach 1 ∷ Hazard 2 ∷ Hazard 3 ∷ []
after-one = refl

pub after-all : queries_to_depth_given_breach (Some 2) 2 ≡ Hazard 0 ∷ Breach 0 ∷ Hazard 1 ∷ Breach 1 ∷ Step 1 ∷ Hazard 2 ∷ Breach 2 ∷ []
after-all = refl
