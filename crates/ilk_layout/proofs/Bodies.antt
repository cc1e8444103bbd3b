-- Sections at the indices of a body without repeated sections.
use Rattle.std.proofs.Common.{◌≡◌, ℕ, zero, suc, ◌+◌, ◌-◌, Bool, true, false, ◌&&◌, ◌||◌, ◌==◌, Some, None, List, [], ◌∷◌, length, slice_get, refl, sym, ◌∙◌, ap, arith}
use Rattle.std.proofs.lemmas.Bool.{eq-eqb, ne_eqb, eqb-true, or_left, or_right, false_from_ne_true, false≢true}
use Rattle.std.proofs.lemmas.Bool.Decides.{nat_tests}
use Rattle.ilk_base.proofs.Once.{EachOnce}
use Rattle.ilk_plant.specs.Network.{contains_section}
use Rattle.ilk_plant.proofs.InLists.{section-at}
use Rattle.ilk_motion.specs.Body.{is_last_section}
use Rattle.ilk_model.specs.Hazard.{are_adjacent_in_body}
use Rattle.ilk_model.proofs.Straying.{pair-has}
use Rattle.ilk_layout.specs.Occupancy.{is_first_section}
use Rattle.ilk_layout.specs.Standing.{is_section_before_or_after, section_before_index}

pub once-rest : (y : ℕ) (rest : List ℕ) → EachOnce (y ∷ rest) → EachOnce rest
once-rest y rest once i j x at also = let next : suc i ≡ suc j = once (suc i) (suc j) x at also in omega arith

pub later-differs : (y : ℕ) (rest : List ℕ) (i x : ℕ) → EachOnce (y ∷ rest) → slice_get rest i ≡ Some x → (y == x) ≡ false
later-differs y rest i x once at =
    false_from_ne_true (y == x) (λ e. let places : zero ≡ suc i = once zero (suc i) x (ap Some (eqb-true y x e)) at in absurd (omega arith))

pub not-later : (y : ℕ) (rest : List ℕ) → EachOnce (y ∷ rest) → contains_section y rest ≡ false
not-later y rest once =
    false_from_ne_true (contains_section y rest) (λ h.
    let there = section-at y rest h in
    let no : (y == y) ≡ false = later-differs y rest there.0 y once there.1 in
    absurd (false≢true (sym no ∙ eq-eqb y y refl)))

pub first-at : (body : List ℕ) (i x : ℕ) → EachOnce body → slice_get body i ≡ Some x → is_first_section x body ≡ (i == 0)
first-at [] i x once at = cc
first-at (y ∷ rest) zero x once at = let same : y ≡ x = cc in eq-eqb y x same
first-at (y ∷ rest) (suc i) x once at = later-differs y rest i x once at ∙ (let no : (suc i == 0) ≡ false = grind (arith, nat_tests) in sym no)

pub last-has : (x : ℕ) (body : List ℕ) → is_last_section x body ≡ true → contains_section x body ≡ true
last-has x [] h = cc
last-has x (y ∷ []) h = or_left (y == x) false h
last-has x (y ∷ z ∷ rest) h = or_right (y == x) (contains_section x (z ∷ rest)) (last-has x (z ∷ rest) h)

pub last-at : (body : List ℕ) (i x : ℕ) → EachOnce body → slice_get body i ≡ Some x → is_last_section x body ≡ (i + 1 == length body)
last-at [] i x once at = cc
last-at (y ∷ []) zero x once at = let same : y ≡ x = cc in eq-eqb y x same
last-at (y ∷ []) (suc i) x once at = cc
last-at (y ∷ z ∷ rest) zero x once at =
    let same : y ≡ x = cc in
    let none : is_last_section x (z ∷ rest) ≡ false = false_from_ne_true (is_last_section x (z ∷ rest)) (λ h. absurd (false≢true (sym (not-later y (z ∷ rest) once) ∙ ap (λ v. contains_section v (z ∷ rest)) same ∙ last-has x (z ∷ rest) h))) in
    let long : (0 + 1 == length (y ∷ z ∷ rest)) ≡ false = ne_eqb (0 + 1) (length (y ∷ z ∷ rest)) (λ e. omega arith) in
    none ∙ sym long
last-at (y ∷ z ∷ rest) (suc i) x once at =
    let more : (suc i + 1 == length (y ∷ z ∷ rest)) ≡ (i + 1 == length (z ∷ rest)) = grind (arith, nat_tests) in
    last-at (z ∷ rest) i x (once-rest y (z ∷ rest) once) at ∙ sym more

no-pair : (x z : ℕ) (body : List ℕ) → contains_section x body ≡ false → are_adjacent_in_body x z body ≡ false
no-pair x z body none = false_from_ne_true (are_adjacent_in_body x z body) (λ h. false≢true (sym none ∙ pair-has x z body h))

pub before-suc : (body : List ℕ) (i : ℕ) → section_before_index body (suc i) ≡ slice_get body i
before-suc body i =
    let no : (suc i == 0) ≡ false = grind (arith, nat_tests) in
    let less : suc i - 1 ≡ i = omega arith in
    rw (no, less) refl

pub pair-at : (body : List ℕ) (i x z : ℕ) → EachOnce body → slice_get body i ≡ Some x → are_adjacent_in_body x z body ≡ is_section_before_or_after z (section_before_index body i) (slice_get body (i + 1))
pair-at [] i x z once at = cc
pair-at (a ∷ []) zero x z once at = refl
pair-at (a ∷ []) (suc i) x z once at = cc
pair-at (a ∷ b ∷ rest) zero x z once at =
    let here : a ≡ x = cc in
    let mine : (a == x) ≡ true = eq-eqb a x here in
    let other : (b == x) ≡ false = ne_eqb b x (λ e. (let places : zero ≡ suc zero = once zero (suc zero) x at (ap Some e) in absurd (omega arith))) in
    let none : are_adjacent_in_body x z (b ∷ rest) ≡ false = no-pair x z (b ∷ rest) (ap (λ v. contains_section v (b ∷ rest)) (sym here) ∙ not-later a (b ∷ rest) once) in
    rw (mine, other, none) (last (b == z) (a == z))
  where
    last : (u v : Bool) → ((u || (v && false)) || false) ≡ u
    last true v = refl
    last false true = refl
    last false false = refl
pair-at (a ∷ b ∷ rest) (suc zero) x z once at =
    let here : b ≡ x = cc in
    let mine : (b == x) ≡ true = eq-eqb b x here in
    let other : (a == x) ≡ false = later-differs a (b ∷ rest) zero x once at in
    let later : are_adjacent_in_body x z (b ∷ rest) ≡ is_section_before_or_after z None (slice_get rest 0) = pair-at (b ∷ rest) zero x z (once-rest a (b ∷ rest) once) at in
    rw (mine, other) (front (a == z) (are_adjacent_in_body x z (b ∷ rest)) ∙ ap (λ u. (a == z) || u) later)
  where
    front : (u v : Bool) → ((false || (u && true)) || v) ≡ (u || v)
    front true v = refl
    front false v = refl
pair-at (a ∷ b ∷ rest) (suc (suc i)) x z once at =
    let one : (a == x) ≡ false = later-differs a (b ∷ rest) (suc i) x once at in
    let two : (b == x) ≡ false = later-differs b rest i x (once-rest a (b ∷ rest) once) at in
    let back : section_before_index (a ∷ b ∷ rest) (suc (suc i)) ≡ section_before_index (b ∷ rest) (suc i) = before-suc (a ∷ b ∷ rest) (suc i) ∙ sym (before-suc (b ∷ rest) i) in
    let next : suc (suc i) + 1 ≡ suc (suc i + 1) = omega arith in
    let later : are_adjacent_in_body x z (b ∷ rest) ≡ is_section_before_or_after z (section_before_index (b ∷ rest) (suc i)) (slice_get (b ∷ rest) (suc i + 1)) = pair-at (b ∷ rest) (suc i) x z (once-rest a (b ∷ rest) once) at in
    let first : are_adjacent_in_body x z (a ∷ b ∷ rest) ≡ are_adjacent_in_body x z (b ∷ rest) = rw (one, two) (none (a == z) (are_adjacent_in_body x z (b ∷ rest))) in
    first ∙ later
    ∙ ap (λ o. is_section_before_or_after z o (slice_get (b ∷ rest) (suc i + 1))) (sym back)
    ∙ ap (λ k. is_section_before_or_after z (section_before_index (a ∷ b ∷ rest) (suc (suc i))) (slice_get (a ∷ b ∷ rest) k)) (sym next)
  where
    none : (u v : Bool) → ((false || (u && false)) || v) ≡ v
    none true v = refl
    none false v = refl
