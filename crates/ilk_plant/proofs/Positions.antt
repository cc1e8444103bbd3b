-- The first position at which a test passes, extended by one item.
use Rattle.std.proofs.Common.{◌≡◌, ℕ, ◌<◌, ◌+◌, Bool, true, false, cond, Option, Some, None, is_some, List, [], ◌∷◌, ◌++◌, length, take, slice_get, position, bytes_eq, refl, sym, ◌∙◌, ap, subst, arith, nat_lt, length-take}
use Rattle.std.specs.List.{list_any}
use Rattle.std.proofs.lemmas.Slice.Eq.{bytes_eq-Decides}
use Rattle.std.proofs.lemmas.List.{take_more}
use Rattle.std.proofs.lemmas.Option.{get_or_from_slice_get}
use Rattle.ilk_plant.specs.Name.{Name}
use Rattle.ilk_plant.specs.Plant.{first_number_named}
use Rattle.ilk_plant.specs.Draft.{repeats_earlier_name}
use Rattle.ilk_base.specs.Option.{is_some_and}
use Rattle.ilk_base.proofs.Positions.{position-below, position-push}

pub number-known : (names : List Name) (name : Name) → is_some (position (bytes_eq name) names) ≡ true → (q : Name) → position (bytes_eq q) (names ++ name ∷ []) ≡ position (bytes_eq q) names
number-known names name known q =
    rw (position-push (bytes_eq q) names name) (by_name (bytes_eq q name) refl)
  where
    kept : (o : Option ℕ) (d : Option ℕ) → is_some o ≡ true → cond (is_some o) o d ≡ o
    kept None d h = cc
    kept (Some n) d h = refl

    none : (o : Option ℕ) → cond (is_some o) o None ≡ o
    none None = refl
    none (Some n) = refl

    by_name : (b : Bool) → bytes_eq q name ≡ b → cond (is_some (position (bytes_eq q) names)) (position (bytes_eq q) names) (cond b (Some (length names)) None) ≡ position (bytes_eq q) names
    by_name true e =
        let same : q ≡ name = (bytes_eq-Decides q name).0 e in
        let P : Name → Type 0 = λ v. is_some (position (bytes_eq v) names) ≡ true in
        kept (position (bytes_eq q) names) (Some (length names)) (subst P (sym same) known)
    by_name false e = none (position (bytes_eq q) names)

pub number-new : (names : List Name) (name : Name) → is_some (position (bytes_eq name) names) ≡ false → (q : Name) → cond (bytes_eq name q) (Some (length names)) (position (bytes_eq q) names) ≡ position (bytes_eq q) (names ++ name ∷ [])
number-new names name new q =
    rw (position-push (bytes_eq q) names name) (by_names (bytes_eq name q) (bytes_eq q name) refl refl)
  where
    fresh : (o : Option ℕ) → is_some o ≡ false → Some (length names) ≡ cond (is_some o) o (Some (length names))
    fresh None h = refl
    fresh (Some n) h = cc

    none : (o : Option ℕ) → o ≡ cond (is_some o) o None
    none None = refl
    none (Some n) = refl

    by_names : (a b : Bool) → bytes_eq name q ≡ a → bytes_eq q name ≡ b → cond a (Some (length names)) (position (bytes_eq q) names) ≡ cond (is_some (position (bytes_eq q) names)) (position (bytes_eq q) names) (cond b (Some (length names)) None)
    by_names true true e f =
        let same : name ≡ q = (bytes_eq-Decides name q).0 e in
        let P : Name → Type 0 = λ v. is_some (position (bytes_eq v) names) ≡ false in
        fresh (position (bytes_eq q) names) (subst P same new)
    by_names true false e f =
        let same : name ≡ q = (bytes_eq-Decides name q).0 e in
        let other : bytes_eq q name ≡ true = (bytes_eq-Decides q name).1 (sym same) in
        cc
    by_names false true e f =
        let same : q ≡ name = (bytes_eq-Decides q name).0 f in
        let other : bytes_eq name q ≡ true = (bytes_eq-Decides name q).1 (sym same) in
        cc
    by_names false false e f = none (position (bytes_eq q) names)

module _ (names : List Name) (i : ℕ) (name : Name) (lt : i < length names) (at : slice_get names i ≡ Some name) (get : Name → Option ℕ) (before : (q : Name) → get q ≡ position (bytes_eq q) (take i names)) where
  one_more : take (i + 1) names ≡ take i names ++ name ∷ []
  one_more = rw (take_more names i name lt, get_or_from_slice_get names i name name at) refl

  pub after-known : is_some (get name) ≡ true → (q : Name) → get q ≡ position (bytes_eq q) (take (i + 1) names)
  after-known known q =
      let known_before : is_some (position (bytes_eq name) (take i names)) ≡ true = rw before at known in
      rw one_more (before q ∙ sym (number-known (take i names) name known_before q))

  pub after-new : is_some (get name) ≡ false → (next : Name → Option ℕ) → ((q : Name) → next q ≡ cond (bytes_eq name q) (Some i) (get q)) → (q : Name) → next q ≡ position (bytes_eq q) (take (i + 1) names)
  after-new new next now q =
      let new_before : is_some (position (bytes_eq name) (take i names)) ≡ false = rw before at new in
      let taken : length (take i names) ≡ i = grind (arith, length-take i names) in
      let known = number-new (take i names) name new_before q in
      let known_at : cond (bytes_eq name q) (Some i) (position (bytes_eq q) (take i names)) ≡ position (bytes_eq q) (take i names ++ name ∷ []) =
      let P : ℕ → Type 0 = λ m. cond (bytes_eq name q) (Some m) (position (bytes_eq q) (take i names)) ≡ position (bytes_eq q) (take i names ++ name ∷ []) in subst P taken known in
      rw one_more (now q ∙ ap (cond (bytes_eq name q) (Some i)) (before q) ∙ known_at)

pub named_before : (names : List Name) (i : ℕ) (name : Name) (first : Option ℕ) → slice_get names i ≡ Some name → first ≡ first_number_named names name → is_some_and first (λ k. nat_lt k i) ≡ repeats_earlier_name names i
named_before names i name first at is =
    let P : Option Name → Type 0 = λ o. is_some_and o (λ n. list_any (bytes_eq n) (take i names)) ≡ repeats_earlier_name names i in
    ap (λ o. is_some_and o (λ k. nat_lt k i)) is ∙ position-below (bytes_eq name) names i ∙ subst P at refl
