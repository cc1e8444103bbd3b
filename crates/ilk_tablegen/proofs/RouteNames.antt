use Rattle.std.proofs.Common.{◌≡◌, ℕ, ◌+◌, ◌%◌, ◌^◌, ◌<◌, ◌≤◌, true, false, ◌&&◌, Option, Some, None, List, [], ◌∷◌, ◌++◌, codes, length, nat_le, slice_get, take, bytes_eq, refl, sym, ◌∙◌, ap, arith}
use Rattle.std.specs.Fmt.{decimal}
use Rattle.std.specs.List.{list_all, list_any}
use Rattle.std.specs.Cmp.Derive.{both_true}
use Rattle.std.proofs.lemmas.Bool.Decides.{nat_tests}
use Rattle.std.proofs.lemmas.Fmt.{decimal_by_steps, decimal_injective, length-decimal-le}
use Rattle.std.proofs.lemmas.List.{length-append}
use Rattle.std.proofs.lemmas.List.Folds.{list_all-append}
use Rattle.std.proofs.lemmas.Slice.Eq.{bytes_eq-Decides}
use Rattle.std.proofs.lemmas.Bool.{false_from_ne_true}
use Rattle.std.proofs.lemmas.Option.{slice_get_within}
use Rattle.ilk_base.specs.Option.{is_some_and}
use Rattle.ilk_base.proofs.Once.{EachOnce}
use Rattle.ilk_base.proofs.Tested.{none-pass}
use Rattle.ilk_base.proofs.Lists.{taken-before}
use Rattle.ilk_plant.specs.Draft.{repeats_earlier_name}
use Rattle.ilk_plant.specs.Name.{Name, is_name, is_name_character}
use Rattle.ilk_tablegen.specs.Table.{route_name}

digit-allowed : (d : ℕ) → d < 10 → is_name_character (48 + d) ≡ true
digit-allowed d less = grind (arith, nat_tests)

decimal-allowed : (n : ℕ) → n < 2 ^ 64 → list_all is_name_character (decimal n) ≡ true
decimal-allowed n less =
    decimal_by_steps (λ m ds. list_all is_name_character ds ≡ true) one more n less
  where
    one : (m : ℕ) → m < 10 → list_all is_name_character ((48 + m) ∷ []) ≡ true
    one m small = both_true (digit-allowed m small) refl

    more : (m : ℕ) (ds : List ℕ) → 10 ≤ m → list_all is_name_character ds ≡ true → list_all is_name_character (ds ++ ((48 + m % 10) ∷ [])) ≡ true
    more m ds large before =
        list_all-append is_name_character ds ((48 + m % 10) ∷ []) ∙ both_true before (both_true (digit-allowed (m % 10) (omega arith)) refl)

pub route_name-is : (n : ℕ) → n < 1000 → is_name (route_name n) ≡ true
route_name-is n small =
    let wide : n < 2 ^ 64 = omega (arith, small) in
    let short : length (decimal n) ≤ 3 = length-decimal-le 3 n (omega arith) (omega (arith, small)) wide in
    let long : length (codes "g" ++ decimal n) ≡ 1 + length (decimal n) = length-append (codes "g") (decimal n) in
    both_true (within (length (codes "g" ++ decimal n)) (omega (arith, long)) (omega (arith, long, short))) (list_all-append is_name_character (codes "g") (decimal n) ∙ both_true refl (decimal-allowed n wide))
  where
    within : (m : ℕ) → 1 ≤ m → m ≤ 32 → (nat_le 1 m && nat_le m 32) ≡ true
    within m low high = grind (arith, nat_tests)

pub route_name-tells : (m n : ℕ) → m < 1000 → n < 1000 → route_name m ≡ route_name n → m ≡ n
route_name-tells m n low high same =
    decimal_injective m n (omega (arith, low)) (omega (arith, high)) (tail-same (decimal m) (decimal n) same)
  where
    tail-same : (xs ys : List ℕ) → codes "g" ++ xs ≡ codes "g" ++ ys → xs ≡ ys
    tail-same xs ys e = cc

pub names-once : (names : List Name) → length names < 1000 → ((k : ℕ) (name : Name) → slice_get names k ≡ Some name → route_name k ≡ name) → EachOnce names
names-once names few each i j name at also =
    route_name-tells i j (omega (arith, few, slice_get_within names i name at)) (omega (arith, few, slice_get_within names j name also)) (each i name at ∙ sym (each j name also))

pub none-before : (names : List Name) → EachOnce names → (i : ℕ) → repeats_earlier_name names i ≡ false
none-before names once i = by_name (slice_get names i) refl
  where
    by_name : (o : Option Name) → slice_get names i ≡ o → is_some_and o (λ name. list_any (bytes_eq name) (take i names)) ≡ false
    by_name None at = refl
    by_name (Some name) at = none-pass (bytes_eq name) (take i names) (λ k other stands. differs k other (taken-before i names k other stands))
      where
        differs : (k : ℕ) (other : Name) → (k < i) × (slice_get names k ≡ Some other) → bytes_eq name other ≡ false
        differs k other earlier =
            false_from_ne_true (bytes_eq name other) (λ e.
            let same : name ≡ other = (bytes_eq-Decides name other).0 e in
            let places : i ≡ k = once i k other (at ∙ ap Some same) earlier.1 in
            let less = earlier.0 in
            absurd (omega (arith, places, less)))
