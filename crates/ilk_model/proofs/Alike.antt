use Rattle.std.proofs.Common.{◌≡◌, true, refl}
use Rattle.ilk_plant.specs.State.{same_lock_state}
use Rattle.ilk_plant.specs.declared.network.Position.{Position}
use Rattle.ilk_plant.specs.declared.network.Position.TheVariants.{Plus, Minus}
use Rattle.ilk_plant.specs.declared.state.Aspect.{Aspect}
use Rattle.ilk_plant.specs.declared.state.Aspect.TheVariants.{Open, Closed}
use Rattle.ilk_plant.specs.declared.state.Hold.{Hold}
use Rattle.ilk_plant.specs.declared.state.Hold.TheVariants.{Free as FreeLock, Locked as LockedLock, Used as UsedLock}
use Rattle.ilk_plant.specs.declared.state.Lie.{Lie}
use Rattle.ilk_plant.specs.declared.state.Lie.TheVariants.{Plus as LiesPlus, Minus as LiesMinus}
use Rattle.ilk_plant.specs.declared.state.Mode.{Mode}
use Rattle.ilk_plant.specs.declared.state.Mode.TheVariants.{Free, Marked, Allocating, Locked, Occupied}
use Rattle.ilk_routes.specs.Boards.{same_aspect}
use Rattle.ilk_routes.specs.Lies.{lie_from_position, is_lie_at_position}
use Rattle.ilk_routes.specs.Modes.{same_mode}
use Rattle.ilk_model.specs.Commanded.{same_position}

pub one_mode : (a b : Mode) → same_mode a b ≡ true → a ≡ b
one_mode Free Free h = refl
one_mode Marked Marked h = refl
one_mode Allocating Allocating h = refl
one_mode Locked Locked h = refl
one_mode Occupied Occupied h = refl
one_mode a b h = cc

pub one_hold : (a b : Hold) → same_lock_state a b ≡ true → a ≡ b
one_hold FreeLock FreeLock h = refl
one_hold LockedLock LockedLock h = refl
one_hold UsedLock UsedLock h = refl
one_hold a b h = cc

pub own_hold : (a : Hold) → same_lock_state a a ≡ true
own_hold FreeLock = refl
own_hold LockedLock = refl
own_hold UsedLock = refl

pub one_aspect : (a b : Aspect) → same_aspect a b ≡ true → a ≡ b
one_aspect Open Open h = refl
one_aspect Closed Closed h = refl
one_aspect a b h = cc

pub own_aspect : (a : Aspect) → same_aspect a a ≡ true
own_aspect Open = refl
own_aspect Closed = refl

pub one_position : (a b : Position) → same_position a b ≡ true → a ≡ b
one_position Plus Plus h = refl
one_position Minus Minus h = refl
one_position a b h = cc

pub own_position : (a : Position) → same_position a a ≡ true
own_position Plus = refl
own_position Minus = refl

pub one_lie : (lie : Lie) (at : Position) → is_lie_at_position lie at ≡ true → lie ≡ lie_from_position at
one_lie LiesPlus Plus h = refl
one_lie LiesMinus Minus h = refl
one_lie lie at h = cc

pub own_lie : (at : Position) → is_lie_at_position (lie_from_position at) at ≡ true
own_lie Plus = refl
own_lie Minus = refl
