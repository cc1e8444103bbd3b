-- The numbers of names.
use Rattle.std.proofs.Common.{◌≡◌, ℕ, ◌<◌, Bool, true, false, Option, Some, None, List, length, take, slice_get, get_or, nat_lt, bytes_eq, unwrap_or, refl, sym, ◌∙◌, ap, arith}
use Rattle.std.specs.List.{list_any}
use Rattle.std.proofs.lemmas.Bool.Decides.{nat_tests}
use Rattle.std.proofs.lemmas.List.Quantifiers.{position-Some}
use Rattle.std.proofs.lemmas.Option.{slice_get-get_or, slice_get_within}
use Rattle.std.proofs.lemmas.Slice.Eq.{bytes_eq-Decides}
use Rattle.ilk_plant.proofs.KnownNames.{number_of-known}
use Rattle.ilk_plant.specs.Draft.{repeats_earlier_name, number_or_len}
use Rattle.ilk_plant.specs.Name.{Name}
use Rattle.ilk_plant.specs.Plant.{first_number_named}
use Rattle.ilk_base.proofs.Once.{EachOnce}
use Rattle.ilk_base.proofs.Lists.{take-at}
use Rattle.ilk_base.proofs.Tested.{list_any-from, list_any-none}

pub first_number_named-at : (names : List Name) (name : Name) (z : ℕ) → first_number_named names name ≡ Some z → (z < length names) × (slice_get names z ≡ Some name)
first_number_named-at names name z e =
    let found : (z < length names) × (bytes_eq name (get_or names z name) ≡ true) × ((k : ℕ) → k < z → bytes_eq name (get_or names k name) ≡ false) = position-Some (bytes_eq name) names z name e in
    let same : name ≡ get_or names z name = (bytes_eq-Decides name (get_or names z name)).0 found.1 in
    (found.0, slice_get-get_or names z name found.0 ∙ ap Some (sym same))

pub number_of-first : (names : List Name) (name : Name) (z : ℕ) → first_number_named names name ≡ Some z → number_or_len names name ≡ z
number_of-first names name z e = ap (λ o. unwrap_or o (length names)) e

pub known-at : (names : List Name) (name : Name) (z : ℕ) → slice_get names z ≡ Some name → list_any (bytes_eq name) names ≡ true
known-at names name z at =
    list_any-from (bytes_eq name) names z name at ((bytes_eq-Decides name name).1 refl)

pub first_number_named-below : (names : List Name) (name : Name) (z : ℕ) → number_or_len names name ≡ z → z < length names → first_number_named names name ≡ Some z
first_number_named-below names name z e below = by_first (first_number_named names name) refl
  where
    by_first : (o : Option ℕ) → first_number_named names name ≡ o → first_number_named names name ≡ Some z
    by_first None first =
        let past : length names ≡ z = sym (ap (λ o. unwrap_or o (length names)) first) ∙ e in absurd (omega arith)
    by_first (Some y) first = first ∙ ap Some (sym (number_of-first names name y first) ∙ e)

pub number_of-at : (names : List Name) (name : Name) → list_any (bytes_eq name) names ≡ true → slice_get names (number_or_len names name) ≡ Some name
number_of-at names name known =
    (first_number_named-at names name (number_or_len names name) (first_number_named-below names name (number_or_len names name) refl (number_of-known names name known))).1

-- Names without an earlier equal have no duplicates.
names-once : (names : List Name) → ((j : ℕ) (name : Name) → slice_get names j ≡ Some name → list_any (bytes_eq name) (take j names) ≡ false) → EachOnce names
names-once names kept i j name at also =
    by_order (nat_lt i j) (nat_lt j i) refl refl
  where
    earlier : (a b : ℕ) → a < b → slice_get names a ≡ Some name → slice_get names b ≡ Some name → ⊥
    earlier a b h first second =
        let differs : bytes_eq name name ≡ false = list_any-none (bytes_eq name) (take b names) a name (kept b name second) (take-at names a b name h first) in
        let equal : bytes_eq name name ≡ true = (bytes_eq-Decides name name).1 refl in
        cc

    by_order : (b c : Bool) → nat_lt i j ≡ b → nat_lt j i ≡ c → i ≡ j
    by_order true c first second = absurd (earlier i j (grind (arith, nat_tests)) at also)
    by_order false true first second = absurd (earlier j i (grind (arith, nat_tests)) also at)
    by_order false false first second = grind (arith, nat_tests)

pub named-once : (names : List Name) → ((i : ℕ) → i < length names → repeats_earlier_name names i ≡ false) → EachOnce names
named-once names kept =
    names-once names (λ j name at. let none : list_any (bytes_eq name) (take j names) ≡ false = rw at at (kept j (slice_get_within names j name at)) in none)

pub number_of-own : (names : List Name) (name : Name) (x : ℕ) → EachOnce names → slice_get names x ≡ Some name → number_or_len names name ≡ x
number_of-own names name x once at =
    once (number_or_len names name) x name (number_of-at names name (known-at names name x at)) at

pub first_number_named-own : (names : List Name) (name : Name) (x : ℕ) → EachOnce names → slice_get names x ≡ Some name → first_number_named names name ≡ Some x
first_number_named-own names name x once at =
    first_number_named-below names name x (number_of-own names name x once at) (slice_get_within names x name at)
