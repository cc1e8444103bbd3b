-- The meaning of occupancy values for trains in a direction, and for their heads.
use Rattle.std.proofs.Common.{◌≡◌, ℕ, suc, ◌+◌, ◌==◌, Bool, true, false, not, ◌&&◌, ◌||◌, Some, None, List, [], ◌∷◌, length, slice_get, refl, arith}
use Rattle.std.specs.List.{last_or}
use Rattle.ilk_plant.specs.declared.network.Dir.{Dir}
use Rattle.ilk_plant.specs.declared.network.Dir.TheVariants.{Up, Down}
use Rattle.ilk_layout.specs.Values.{occupancy_value}
use Rattle.ilk_layout.specs.declared.values.Occupancy.{Occupancy}
use Rattle.ilk_layout.specs.declared.values.Occupancy.TheVariants.{Vacant, Taken, Crash}

-- Returns whether the occupancy is by a train in direction `d`; whether its head is there.
abbrev pub has_head_in : Dir → Occupancy → Bool
has_head_in Up (Taken Up tail true) = true
has_head_in Down (Taken Down tail true) = true
has_head_in d o = false

abbrev pub has_train_in : Dir → Occupancy → Bool
has_train_in Up (Taken Up tail head) = true
has_train_in Down (Taken Down tail head) = true
has_train_in d o = false

pub head-values : (d : Dir) (o : Occupancy) → ((occupancy_value o == occupancy_value (Taken d false true)) || ((occupancy_value o == occupancy_value (Taken d true true)) || false)) ≡ has_head_in d o
head-values Up Vacant = refl
head-values Up Crash = refl
head-values Up (Taken Up true true) = refl
head-values Up (Taken Up true false) = refl
head-values Up (Taken Up false true) = refl
head-values Up (Taken Up false false) = refl
head-values Up (Taken Down true true) = refl
head-values Up (Taken Down true false) = refl
head-values Up (Taken Down false true) = refl
head-values Up (Taken Down false false) = refl
head-values Down Vacant = refl
head-values Down Crash = refl
head-values Down (Taken Up true true) = refl
head-values Down (Taken Up true false) = refl
head-values Down (Taken Up false true) = refl
head-values Down (Taken Up false false) = refl
head-values Down (Taken Down true true) = refl
head-values Down (Taken Down true false) = refl
head-values Down (Taken Down false true) = refl
head-values Down (Taken Down false false) = refl

pub up-values : (o : Occupancy) →
    (not (occupancy_value o == occupancy_value Vacant)
    &&
    (((occupancy_value o == occupancy_value Vacant)
    ||
    ((occupancy_value o == occupancy_value (Taken Up false false))
    ||
    ((occupancy_value o == occupancy_value (Taken Up false true))
    ||
    ((occupancy_value o == occupancy_value (Taken Up true false))
    ||
    ((occupancy_value o
    == occupancy_value (Taken Up true true)) || false)))))
    && true))
    ≡ has_train_in Up o
up-values Vacant = refl
up-values Crash = refl
up-values (Taken Up true true) = refl
up-values (Taken Up true false) = refl
up-values (Taken Up false true) = refl
up-values (Taken Up false false) = refl
up-values (Taken Down true true) = refl
up-values (Taken Down true false) = refl
up-values (Taken Down false true) = refl
up-values (Taken Down false false) = refl

pub down-values : (o : Occupancy) →
    (not
    ((occupancy_value o == occupancy_value Vacant)
    ||
    ((occupancy_value o == occupancy_value (Taken Up false false))
    ||
    ((occupancy_value o == occupancy_value (Taken Up false true))
    ||
    ((occupancy_value o == occupancy_value (Taken Up true false))
    ||
    ((occupancy_value o == occupancy_value (Taken Up true true))
    || false)))))
    && (not (occupancy_value o == occupancy_value Crash) && true))
    ≡ has_train_in Down o
down-values Vacant = refl
down-values Crash = refl
down-values (Taken Up true true) = refl
down-values (Taken Up true false) = refl
down-values (Taken Up false true) = refl
down-values (Taken Up false false) = refl
down-values (Taken Down true true) = refl
down-values (Taken Down true false) = refl
down-values (Taken Down false true) = refl
down-values (Taken Down false false) = refl

pub taken-head : (d : Dir) (o : Occupancy) → has_head_in d o ≡ true → (tail : Bool) × (o ≡ Taken d tail true)
taken-head Up (Taken Up tail true) h = (tail, refl)
taken-head Up (Taken Up tail false) h = cc
taken-head Up (Taken Down tail head) h = cc
taken-head Up Vacant h = cc
taken-head Up Crash h = cc
taken-head Down (Taken Down tail true) h = (tail, refl)
taken-head Down (Taken Down tail false) h = cc
taken-head Down (Taken Up tail head) h = cc
taken-head Down Vacant h = cc
taken-head Down Crash h = cc

pub taken-train : (d : Dir) (o : Occupancy) → has_train_in d o ≡ true → (tail head : Bool) × (o ≡ Taken d tail head)
taken-train Up (Taken Up tail head) h = (tail, head, refl)
taken-train Up (Taken Down tail head) h = cc
taken-train Up Vacant h = cc
taken-train Up Crash h = cc
taken-train Down (Taken Down tail head) h = (tail, head, refl)
taken-train Down (Taken Up tail head) h = cc
taken-train Down Vacant h = cc
taken-train Down Crash h = cc

pub own-head : (d : Dir) (tail : Bool) → has_head_in d (Taken d tail true) ≡ true
own-head Up tail = refl
own-head Down tail = refl

pub own-train : (d : Dir) (tail head : Bool) → has_train_in d (Taken d tail head) ≡ true
own-train Up tail head = refl
own-train Down tail head = refl

pub same-taken : {d e : Dir} {t u h k : Bool} → Taken d t h ≡ Taken e u k → (d ≡ e) × (h ≡ k)
same-taken e = (cc, cc)

pub then-passes : (a b : Bool) → (not a || b) ≡ true → a ≡ true → b ≡ true
then-passes true b h e = h
then-passes false b h e = cc

pub passes-then : (a b : Bool) → (a ≡ true → b ≡ true) → (not a || b) ≡ true
passes-then true b f = f refl
passes-then false b f = refl

pub last-place : (body : List ℕ) (x : ℕ) → last_or None body ≡ Some x → (k : ℕ) × (slice_get body k ≡ Some x) × (k + 1 ≡ length body)
last-place [] x e = cc
last-place (y ∷ rest) x e = past y rest x e
  where
    past : (y : ℕ) (rest : List ℕ) (x : ℕ) → last_or (Some y) rest ≡ Some x → (k : ℕ) × (slice_get (y ∷ rest) k ≡ Some x) × (k + 1 ≡ length (y ∷ rest))
    past y [] x e = (0, e, refl)
    past y (z ∷ rest) x e =
        let later = past z rest x e in
        let sum = later.2 in
        (suc later.0, later.1, omega (arith, sum))
