-- The meaning of each part of the forms, by positions of points and occupancies.
use Rattle.std.proofs.Common.{◌≡◌, ℕ, zero, suc, Bool, true, false, ◌<◌, ◌≤◌, ◌||◌, ◌==◌, Option, Some, None, List, [], ◌∷◌, find, slice_get, if◌then◌else◌, refl, sym, ◌∙◌, ap, arith}
use Rattle.std.proofs.lemmas.Bool.{ne_eqb}
use Rattle.ilk_base.specs.Option.{◌>>=◌, is_some_and}
use Rattle.ilk_ir.specs.Tree.{tree_holds}
use Rattle.ilk_plant.specs.Network.{same_direction}
use Rattle.ilk_plant.specs.Plant.{PlantLists, point_number}
use Rattle.ilk_plant.specs.declared.network.Dir.{Dir}
use Rattle.ilk_plant.specs.declared.network.Dir.TheVariants.{Up, Down}
use Rattle.ilk_plant.specs.declared.state.Lie.{Lie}
use Rattle.ilk_plant.specs.declared.state.Lie.TheVariants.{Plus, Minus, Moving}
use Rattle.ilk_layout.specs.Values.{all_occupancies, detected_from_value, detected_value, occupancy_from_value, occupancy_value}
use Rattle.ilk_layout.specs.Variables.{detected_var, occupancy_var}
use Rattle.ilk_layout.specs.Wellformed.{has_train_continuing_ahead, has_train_continuing_behind, detected_in_values, occupancy_in_values}
use Rattle.ilk_layout.specs.declared.values.Occupancy.{Occupancy}
use Rattle.ilk_layout.specs.declared.values.Occupancy.TheVariants.{Vacant, Taken, Crash}
use Rattle.ilk_layout.specs.Conditions.{section_point_is_detected, occupancy_is}
use Rattle.ilk_layout.proofs.Valid.{lie-small, occupancy-small}
use Rattle.ilk_props.specs.WellformedForm.{continues_beyond}

abbrev pub same_lie : Lie → Lie → Bool
same_lie l a = detected_value a == detected_value l

abbrev pub same_occupancy : Occupancy → Occupancy → Bool
same_occupancy o a = occupancy_value a == occupancy_value o

unfound : {X : Type 0} (f : X → ℕ) (n v : ℕ) → ((a : X) → f a < n) → n ≤ v → (all : List X) → find (λ a. f a == v) all ≡ None
unfound f n v small past [] = refl
unfound f n v small past (a ∷ all) =
    let less = small a in
    let other : (f a == v) ≡ false = ne_eqb (f a) v (λ same. omega (arith, less, past, same)) in
    rw other (unfound f n v small past all)

lie-number : (v : ℕ) (l : Lie) → (v == detected_value l) ≡ is_some_and (detected_from_value v) (same_lie l)
lie-number zero l = refl
lie-number (suc zero) l = refl
lie-number (suc (suc zero)) l = refl
lie-number (suc (suc (suc v))) l =
    let less = lie-small l in
    ne_eqb (suc (suc (suc v))) (detected_value l) (λ same. omega (arith, less, same))
    ∙ sym (ap (λ o. is_some_and o (same_lie l)) (unfound detected_value 3 (suc (suc (suc v))) lie-small (omega arith) (Plus ∷ Minus ∷ Moving ∷ [])))

occupancy-number : (v : ℕ) (o : Occupancy) → (v == occupancy_value o) ≡ is_some_and (occupancy_from_value v) (same_occupancy o)
occupancy-number zero o = refl
occupancy-number (suc zero) o = refl
occupancy-number (suc (suc zero)) o = refl
occupancy-number (suc (suc (suc zero))) o = refl
occupancy-number (suc (suc (suc (suc zero)))) o = refl
occupancy-number (suc (suc (suc (suc (suc zero))))) o = refl
occupancy-number (suc (suc (suc (suc (suc (suc zero)))))) o = refl
occupancy-number (suc (suc (suc (suc (suc (suc (suc zero))))))) o = refl
occupancy-number (suc (suc (suc (suc (suc (suc (suc (suc zero)))))))) o = refl
occupancy-number (suc (suc (suc (suc (suc (suc (suc (suc (suc zero))))))))) o = refl
occupancy-number (suc (suc (suc (suc (suc (suc (suc (suc (suc (suc v)))))))))) o =
    let less = occupancy-small o in
    ne_eqb (suc (suc (suc (suc (suc (suc (suc (suc (suc (suc v)))))))))) (occupancy_value o) (λ same. omega (arith, less, same))
    ∙ sym (ap (λ o_of. is_some_and o_of (same_occupancy o)) (unfound occupancy_value 10 (suc (suc (suc (suc (suc (suc (suc (suc (suc (suc v)))))))))) occupancy-small (omega arith) all_occupancies))

pub section_point_is_detected-holds : (p : PlantLists) (values : List ℕ) (x : ℕ) (l : Lie) → tree_holds values (section_point_is_detected p x l) ≡ is_some_and (detected_in_values p values x) (same_lie l)
section_point_is_detected-holds p values x l = by_number (point_number p x) refl
  where
    by_value : (o : Option ℕ) → is_some_and o (λ v. v == detected_value l) ≡ is_some_and (o >>= (λ v. detected_from_value v)) (same_lie l)
    by_value None = refl
    by_value (Some v) = lie-number v l

    by_number : (o : Option ℕ) → point_number p x ≡ o → tree_holds values (section_point_is_detected p x l) ≡ is_some_and (detected_in_values p values x) (same_lie l)
    by_number None e = rw e refl
    by_number (Some n) e = rw e (by_value (slice_get values (detected_var p n)))

pub occupancy_is-holds : (p : PlantLists) (values : List ℕ) (x : ℕ) (o : Occupancy) → tree_holds values (occupancy_is p x o) ≡ is_some_and (occupancy_in_values p values x) (same_occupancy o)
occupancy_is-holds p values x o = by_value (slice_get values (occupancy_var p x))
  where
    by_value : (r : Option ℕ) → is_some_and r (λ v. v == occupancy_value o) ≡ is_some_and (r >>= (λ v. occupancy_from_value v)) (same_occupancy o)
    by_value None = refl
    by_value (Some v) = occupancy-number v o

-- Returns whether a section has a train in direction `d` that continues beyond it on this side.
abbrev pub goes_on : Dir → Dir → Occupancy → Bool
goes_on d side o = if same_direction side d then has_train_continuing_ahead d o else has_train_continuing_behind d o

abbrev ended : Dir → Dir → Occupancy
ended d side = if same_direction side d then Taken d true false else Taken d false true

goes_on-either : (d side : Dir) (o : Option Occupancy) → (is_some_and o (same_occupancy (Taken d false false)) || (is_some_and o (same_occupancy (ended d side)) || false)) ≡ is_some_and o (goes_on d side)
goes_on-either d side None = refl
goes_on-either Up Up (Some Vacant) = refl
goes_on-either Up Up (Some Crash) = refl
goes_on-either Up Up (Some (Taken Up false false)) = refl
goes_on-either Up Up (Some (Taken Up false true)) = refl
goes_on-either Up Up (Some (Taken Up true false)) = refl
goes_on-either Up Up (Some (Taken Up true true)) = refl
goes_on-either Up Up (Some (Taken Down false false)) = refl
goes_on-either Up Up (Some (Taken Down false true)) = refl
goes_on-either Up Up (Some (Taken Down true false)) = refl
goes_on-either Up Up (Some (Taken Down true true)) = refl
goes_on-either Up Down (Some Vacant) = refl
goes_on-either Up Down (Some Crash) = refl
goes_on-either Up Down (Some (Taken Up false false)) = refl
goes_on-either Up Down (Some (Taken Up false true)) = refl
goes_on-either Up Down (Some (Taken Up true false)) = refl
goes_on-either Up Down (Some (Taken Up true true)) = refl
goes_on-either Up Down (Some (Taken Down false false)) = refl
goes_on-either Up Down (Some (Taken Down false true)) = refl
goes_on-either Up Down (Some (Taken Down true false)) = refl
goes_on-either Up Down (Some (Taken Down true true)) = refl
goes_on-either Down Up (Some Vacant) = refl
goes_on-either Down Up (Some Crash) = refl
goes_on-either Down Up (Some (Taken Up false false)) = refl
goes_on-either Down Up (Some (Taken Up false true)) = refl
goes_on-either Down Up (Some (Taken Up true false)) = refl
goes_on-either Down Up (Some (Taken Up true true)) = refl
goes_on-either Down Up (Some (Taken Down false false)) = refl
goes_on-either Down Up (Some (Taken Down false true)) = refl
goes_on-either Down Up (Some (Taken Down true false)) = refl
goes_on-either Down Up (Some (Taken Down true true)) = refl
goes_on-either Down Down (Some Vacant) = refl
goes_on-either Down Down (Some Crash) = refl
goes_on-either Down Down (Some (Taken Up false false)) = refl
goes_on-either Down Down (Some (Taken Up false true)) = refl
goes_on-either Down Down (Some (Taken Up true false)) = refl
goes_on-either Down Down (Some (Taken Up true true)) = refl
goes_on-either Down Down (Some (Taken Down false false)) = refl
goes_on-either Down Down (Some (Taken Down false true)) = refl
goes_on-either Down Down (Some (Taken Down true false)) = refl
goes_on-either Down Down (Some (Taken Down true true)) = refl

pub goes_on-holds : (p : PlantLists) (values : List ℕ) (x : ℕ) (d side : Dir) → tree_holds values (continues_beyond p x d side) ≡ is_some_and (occupancy_in_values p values x) (goes_on d side)
goes_on-holds p values x d side =
    let one = occupancy_is-holds p values x (Taken d false false) in
    let two = occupancy_is-holds p values x (ended d side) in
    ap (λ (b : Bool). b || (tree_holds values (occupancy_is p x (ended d side)) || false)) one
    ∙ ap (λ (b : Bool). is_some_and (occupancy_in_values p values x) (same_occupancy (Taken d false false)) || (b || false)) two ∙ goes_on-either d side (occupancy_in_values p values x)
