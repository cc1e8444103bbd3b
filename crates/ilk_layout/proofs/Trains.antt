-- The occupancies of sections while trains are added one by one.
use Rattle.std.proofs.Common.{◌≡◌, ℕ, ◌+◌, ◌<◌, Bool, true, false, not, ◌&&◌, ◌||◌, cond, Option, Some, None, List, [], ◌∷◌, ◌++◌, find, count_by, nat_lt, slice_get, inl, inr, refl, sym, ◌∙◌, ap, arith}
use Rattle.std.specs.List.{list_any, sum_by}
use Rattle.std.proofs.lemmas.Bool.{cases_Bool, false_from_ne_true, false≢true, or_parts, or_from}
use Rattle.std.proofs.lemmas.Bool.Decides.{nat_tests}
use Rattle.std.proofs.Math.Bool.{or-false}
use Rattle.std.proofs.lemmas.List.Folds.{list_any-append}
use Rattle.std.proofs.lemmas.List.Sums.{sum_by-append, sum_by-cons}
use Rattle.ilk_base.proofs.Once.{EachOnce}
use Rattle.ilk_plant.specs.Network.{contains_section}
use Rattle.ilk_plant.specs.Plant.{PlantLists}
use Rattle.ilk_plant.specs.State.{detected_position_in_state}
use Rattle.ilk_plant.specs.declared.network.Section.{Section}
use Rattle.ilk_plant.specs.declared.network.Section.TheVariants.{Linear, Point}
use Rattle.ilk_plant.specs.declared.state.Lie.{Lie}
use Rattle.ilk_plant.specs.declared.state.Lie.TheVariants.{Plus, Minus, Moving}
use Rattle.ilk_plant.specs.declared.state.State.{State}
use Rattle.ilk_plant.specs.declared.state.Train.{Train}
use Rattle.ilk_plant.proofs.InLists.{section-from}
use Rattle.ilk_model.specs.Hazard.{is_section_hazardous, is_wrong_under_train, is_wrong_under_body}
use Rattle.ilk_model.proofs.Straying.{is_wrong_under_body-has}
use Rattle.ilk_layout.specs.Occupancy.{occupancy_or_crash, occupancy_by_train, occupancy_by_train_if_any}
use Rattle.ilk_layout.specs.Standing.{is_vacant_occupancy, is_point_wrong_between, is_point_wrong_under, section_before_index, section_occupancy_after_adding}
use Rattle.ilk_layout.specs.declared.values.Occupancy.TheVariants.{Crash}
use Rattle.ilk_layout.proofs.Bodies.{pair-at}

pub wrong-has : (p : PlantLists) (s : State) (x : ℕ) (body : List ℕ) → is_point_wrong_under p s x body ≡ true → contains_section x body ≡ true
wrong-has p s x body h = by_section (slice_get p.sections x) refl
  where
    by_section : (o : Option Section) → slice_get p.sections x ≡ o → contains_section x body ≡ true
    by_section None e = absurd (false≢true (rw e at h))
    by_section (Some (Linear down up b c)) e = absurd (false≢true (rw e at h))
    by_section (Some (Point stem plus minus faces)) e = is_wrong_under_body-has x plus minus (detected_position_in_state p s x) body (rw e at h)

pub wrong-at : (p : PlantLists) (s : State) (body : List ℕ) (i x : ℕ) → EachOnce body → slice_get body i ≡ Some x → is_point_wrong_under p s x body ≡ is_point_wrong_between p s x (section_before_index body i) (slice_get body (i + 1))
wrong-at p s body i x once at = by_section (slice_get p.sections x) refl (detected_position_in_state p s x) refl
  where
    by_section : (o : Option Section) → slice_get p.sections x ≡ o → (l : Option Lie) → detected_position_in_state p s x ≡ l → is_point_wrong_under p s x body ≡ is_point_wrong_between p s x (section_before_index body i) (slice_get body (i + 1))
    by_section None e l f = rw e refl
    by_section (Some (Linear down up b c)) e l f = rw e refl
    by_section (Some (Point stem plus minus faces)) e None f = rw (e, f) refl
    by_section (Some (Point stem plus minus faces)) e (Some Moving) f = rw (e, f) (section-from body i x at)
    by_section (Some (Point stem plus minus faces)) e (Some Plus) f = rw (e, f) (pair-at body i x minus once at)
    by_section (Some (Point stem plus minus faces)) e (Some Minus) f = rw (e, f) (pair-at body i x plus once at)

abbrev pub with_trains : State → List Train → State
with_trains s trains = record s { trains = trains }

abbrev pub has_x : ℕ → Train → Bool
has_x x train = contains_section x train.body

wrong-more : (p : PlantLists) (s : State) (ts : List Train) (t : Train) (x : ℕ) → is_wrong_under_train p (with_trains s (ts ++ t ∷ [])) x ≡ (is_wrong_under_train p (with_trains s ts) x || is_point_wrong_under p s x t.body)
wrong-more p s ts t x = by_section (slice_get p.sections x) refl
  where
    by_section : (o : Option Section) → slice_get p.sections x ≡ o → is_wrong_under_train p (with_trains s (ts ++ t ∷ [])) x ≡ (is_wrong_under_train p (with_trains s ts) x || is_point_wrong_under p s x t.body)
    by_section None e = rw e refl
    by_section (Some (Linear down up b c)) e = rw e refl
    by_section (Some (Point stem plus minus faces)) e =
        rw e
        (list_any-append (λ (train : Train). is_wrong_under_body x plus minus (detected_position_in_state p s x) train.body) ts (t ∷ [])
        ∙ ap
        (λ b. list_any (λ (train : Train). is_wrong_under_body x plus minus (detected_position_in_state p s x) train.body) ts
        || b)
        (or-false (is_wrong_under_body x plus minus (detected_position_in_state p s x) t.body)))

pub wrong-none : (p : PlantLists) (s : State) (ts : List Train) (x : ℕ) → list_any (has_x x) ts ≡ false → is_wrong_under_train p (with_trains s ts) x ≡ false
wrong-none p s ts x none = by_section (slice_get p.sections x) refl
  where
    each : (ts : List Train) (plus minus : ℕ) (lie : Option Lie) → list_any (has_x x) ts ≡ false → list_any (λ (train : Train). is_wrong_under_body x plus minus lie train.body) ts ≡ false
    each [] plus minus lie none = refl
    each (t ∷ ts) plus minus lie none =
        let parts = or_parts (contains_section x t.body) (list_any (has_x x) ts) none in
        or_from (is_wrong_under_body x plus minus lie t.body)
        (list_any (λ (train : Train). is_wrong_under_body x plus minus lie train.body) ts)
        (false_from_ne_true (is_wrong_under_body x plus minus lie t.body)
        (λ h. false≢true (sym parts.0 ∙ is_wrong_under_body-has x plus minus lie t.body h)))
        (each ts plus minus lie parts.1)

    by_section : (o : Option Section) → slice_get p.sections x ≡ o → is_wrong_under_train p (with_trains s ts) x ≡ false
    by_section None e = rw e refl
    by_section (Some (Linear down up b c)) e = rw e refl
    by_section (Some (Point stem plus minus faces)) e = rw e (each ts plus minus (detected_position_in_state p s x) none)

count-more : (p : Train → Bool) (ts : List Train) (t : Train) → count_by p (ts ++ t ∷ []) ≡ count_by p ts + cond (p t) 1 0
count-more p ts t = sum_by-append (λ u. cond (p u) 1 0) ts (t ∷ []) ∙ (let one : sum_by (λ u. cond (p u) 1 0) (t ∷ []) ≡ cond (p t) 1 0 = sum_by-cons (λ u. cond (p u) 1 0) t [] ∙ omega arith in ap (λ n. count_by p ts + n) one)

pub count-none : (p : Train → Bool) (ts : List Train) → list_any p ts ≡ false → count_by p ts ≡ 0
count-none p [] none = refl
count-none p (t ∷ ts) none =
    let parts = or_parts (p t) (list_any p ts) none in
    sum_by-cons (λ u. cond (p u) 1 0) t ts ∙ (let zero_here : ◌≡◌ {A = ℕ} (cond (p t) 1 0) 0 = ap (λ b. cond b 1 0) parts.0 in let rest = count-none p ts parts.1 in omega (arith, zero_here, rest))

pub count-some : (p : Train → Bool) (ts : List Train) → list_any p ts ≡ true → 0 < count_by p ts
count-some p [] some = absurd (false≢true some)
count-some p (t ∷ ts) some =
    let step = sum_by-cons (λ u. cond (p u) 1 0) t ts in
    elim (cases_Bool (p t)) [
      | inl here ↦ (let one : ◌≡◌ {A = ℕ} (cond (p t) 1 0) 1 = ap (λ b. cond b 1 0) here in omega (arith, step, one))
      | inr away ↦ (let rest = count-some p ts (rw away at some) in omega (arith, step, rest))
    ]

pub find-none : (p : Train → Bool) (ts : List Train) → list_any p ts ≡ false → find p ts ≡ None
find-none p [] none = refl
find-none p (t ∷ ts) none = let parts = or_parts (p t) (list_any p ts) none in rw parts.0 (find-none p ts parts.1)

pub find-some : (p : Train → Bool) (ts : List Train) → list_any p ts ≡ true → (t : Train) × (find p ts ≡ Some t)
find-some p [] some = absurd (false≢true some)
find-some p (t ∷ ts) some =
    elim (cases_Bool (p t)) [
      | inl here ↦ (t, rw here refl)
      | inr away ↦ (let rest = find-some p ts (rw away at some) in (rest.0, rw away rest.1))
    ]

find-none-more : (p : Train → Bool) (ts : List Train) (t : Train) → list_any p ts ≡ false → p t ≡ true → find p (ts ++ t ∷ []) ≡ Some t
find-none-more p [] t none here = rw here refl
find-none-more p (u ∷ ts) t none here = let parts = or_parts (p u) (list_any p ts) none in rw parts.0 (find-none-more p ts t parts.1 here)

find-other-more : (p : Train → Bool) (ts : List Train) (t : Train) → p t ≡ false → find p (ts ++ t ∷ []) ≡ find p ts
find-other-more p [] t away = rw away refl
find-other-more p (u ∷ ts) t away = ap (cond (p u) (Some u)) (find-other-more p ts t away)

pub occupancy-more : (p : PlantLists) (s : State) (ts : List Train) (t : Train) (x : ℕ) → occupancy_or_crash p (with_trains s (ts ++ t ∷ [])) x ≡ section_occupancy_after_adding p s t t.body x (occupancy_or_crash p (with_trains s ts) x)
occupancy-more p s ts t x =
    elim (cases_Bool (contains_section x t.body)) [
      | inl has ↦ elim (cases_Bool (list_any (has_x x) ts)) [ inl some ↦ second has some | inr none ↦ first has none ]
      | inr away ↦ other away
    ]
  where
    count : count_by (has_x x) (ts ++ t ∷ []) ≡ count_by (has_x x) ts + cond (contains_section x t.body) 1 0
    count = count-more (has_x x) ts t

    other : contains_section x t.body ≡ false → occupancy_or_crash p (with_trains s (ts ++ t ∷ [])) x ≡ section_occupancy_after_adding p s t t.body x (occupancy_or_crash p (with_trains s ts) x)
    other away =
        let none : ◌≡◌ {A = ℕ} (cond (contains_section x t.body) 1 0) 0 = ap (λ b. cond b 1 0) away in
        let same : count_by (has_x x) (ts ++ t ∷ []) ≡ count_by (has_x x) ts = omega (arith, count, none) in
        let right : is_point_wrong_under p s x t.body ≡ false = false_from_ne_true (is_point_wrong_under p s x t.body) (λ h. false≢true (sym away ∙ wrong-has p s x t.body h)) in
        let wrong : is_wrong_under_train p (with_trains s (ts ++ t ∷ [])) x ≡ is_wrong_under_train p (with_trains s ts) x =
        wrong-more p s ts t x ∙ ap (λ b. is_wrong_under_train p (with_trains s ts) x || b) right ∙ or-false (is_wrong_under_train p (with_trains s ts) x) in
        let found : find (has_x x) (ts ++ t ∷ []) ≡ find (has_x x) ts = find-other-more (has_x x) ts t away in
        rw (same, wrong, found, away) refl

    first : contains_section x t.body ≡ true → list_any (has_x x) ts ≡ false → occupancy_or_crash p (with_trains s (ts ++ t ∷ [])) x ≡ section_occupancy_after_adding p s t t.body x (occupancy_or_crash p (with_trains s ts) x)
    first has none =
        let one : ◌≡◌ {A = ℕ} (cond (contains_section x t.body) 1 0) 1 = ap (λ b. cond b 1 0) has in
        let zero_before : count_by (has_x x) ts ≡ 0 = count-none (has_x x) ts none in
        let n : count_by (has_x x) (ts ++ t ∷ []) ≡ 1 = omega (arith, count, one, zero_before) in
        let wrong_before : is_wrong_under_train p (with_trains s ts) x ≡ false = wrong-none p s ts x none in
        let wrong : is_wrong_under_train p (with_trains s (ts ++ t ∷ [])) x ≡ is_point_wrong_under p s x t.body = wrong-more p s ts t x ∙ ap (λ b. b || is_point_wrong_under p s x t.body) wrong_before in
        let found : find (has_x x) (ts ++ t ∷ []) ≡ Some t = find-none-more (has_x x) ts t none has in
        let found_before : find (has_x x) ts ≡ None = find-none (has_x x) ts none in
        rw (n, wrong, found, zero_before, wrong_before, found_before, has) (turned (is_point_wrong_under p s x t.body))
      where
        turned : (b : Bool) → cond b Crash (occupancy_by_train x t) ≡ cond (true && not b) (occupancy_by_train x t) Crash
        turned true = refl
        turned false = refl

    second : contains_section x t.body ≡ true → list_any (has_x x) ts ≡ true → occupancy_or_crash p (with_trains s (ts ++ t ∷ [])) x ≡ section_occupancy_after_adding p s t t.body x (occupancy_or_crash p (with_trains s ts) x)
    second has some =
        let one : ◌≡◌ {A = ℕ} (cond (contains_section x t.body) 1 0) 1 = ap (λ b. cond b 1 0) has in
        let before : 0 < count_by (has_x x) ts = count-some (has_x x) ts some in
        let two : nat_lt 1 (count_by (has_x x) (ts ++ t ∷ [])) ≡ true = (let more : 1 < count_by (has_x x) (ts ++ t ∷ []) = omega (arith, count, one, before) in grind (arith, nat_tests)) in
        let found = find-some (has_x x) ts some in
        let taken : is_vacant_occupancy (occupancy_or_crash p (with_trains s ts) x) ≡ false = not_vacant (is_section_hazardous p (with_trains s ts) x) found.0 (find (has_x x) ts) found.1 in
        rw (two, has, taken) refl
      where
        not_vacant : (b : Bool) (u : Train) (o : Option Train) → o ≡ Some u → is_vacant_occupancy (cond b Crash (occupancy_by_train_if_any x o)) ≡ false
        not_vacant true u o e = refl
        not_vacant false u o e = rw e refl
