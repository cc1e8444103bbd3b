-- Rules that step as an event does.
use Rattle.std.proofs.Common.{◌≡◌, ℕ, zero, suc, ◌+◌, ◌-◌, Bool, true, false, ◌||◌, Option, Some, None, List, [], ◌∷◌, map, slice_get, inl, inr, ◌⊎◌, refl, sym, ◌∙◌, ap, arith, is_some}
use Rattle.std.specs.List.{enumerate_from, list_any}
use Rattle.std.proofs.lemmas.Bool.{cases_eq, false≢true}
use Rattle.std.proofs.lemmas.Option.{cond_some, same_Some}
use Rattle.std.proofs.Math.Bool.{or-false}
use Rattle.ilk_base.specs.Option.{◌>>=◌, is_some_and, then_some}
use Rattle.ilk_ir.specs.System.{PlainRule, after_settings}
use Rattle.ilk_plant.specs.Plant.{PlantLists}
use Rattle.ilk_plant.specs.declared.state.State.{State}
use Rattle.ilk_layout.specs.Image.{image_of}
use Rattle.ilk_behave.specs.Steps.{RulesMatchEvent, guard_holds_in_image}
use Rattle.ilk_base.proofs.ListTests.{made-at, one-place}

some-if : (b : Bool) (t : State) → b ≡ is_some (then_some b t)
some-if true t = refl
some-if false t = refl

pub no_rules : (p : PlantLists) (s : State) → RulesMatchEvent p s None []
no_rules p s = record { enabled = refl; after = λ t i rule e at h. cc }

pub none_step : (p : PlantLists) (s : State) (rules : List PlainRule) → list_any (guard_holds_in_image p s) rules ≡ false → RulesMatchEvent p s None rules
none_step p s rules none = record { enabled = none; after = λ t i rule e at h. cc }

pub rules_step : (p : PlantLists) (s t : State) (b : Bool) (rules : List PlainRule) →
    list_any (guard_holds_in_image p s) rules ≡ b →
    ((i : ℕ) (rule : PlainRule) → slice_get rules i ≡ Some rule → guard_holds_in_image p s rule ≡ true →
    after_settings (image_of p s) rule.sets ≡ image_of p t) →
    RulesMatchEvent p s (then_some b t) rules
rules_step p s t b rules guard sets = record {
  enabled = guard ∙ some-if b t;
  after = λ u i rule e at h. sets i rule at h ∙ ap (image_of p) (cond_some b t u e).1;
}

pub rule_step : (p : PlantLists) (s t : State) (b : Bool) (rule : PlainRule) → guard_holds_in_image p s rule ≡ b → (b ≡ true → after_settings (image_of p s) rule.sets ≡ image_of p t) → RulesMatchEvent p s (then_some b t) (rule ∷ [])
rule_step p s t b rule guard sets =
    rules_step p s t b (rule ∷ []) (or-false (guard_holds_in_image p s rule) ∙ guard) only
  where
    only : (i : ℕ) (other : PlainRule) → slice_get (rule ∷ []) i ≡ Some other → guard_holds_in_image p s other ≡ true → after_settings (image_of p s) other.sets ≡ image_of p t
    only zero other at h =
        let same : rule ≡ other = cc in
        ap (λ (r : PlainRule). after_settings (image_of p s) r.sets) (sym same) ∙ sets (sym guard ∙ ap (guard_holds_in_image p s) same ∙ h)
    only (suc i) other at h = cc

pub two_rules_step : (p : PlantLists) (s t : State) (b c d : Bool) (first second : PlainRule) →
    guard_holds_in_image p s first ≡ b → guard_holds_in_image p s second ≡ c → (b || c) ≡ d →
    (b ≡ true → after_settings (image_of p s) first.sets ≡ image_of p t) →
    (c ≡ true → after_settings (image_of p s) second.sets ≡ image_of p t) →
    RulesMatchEvent p s (then_some d t) (first ∷ second ∷ [])
two_rules_step p s t b c d first second guard1 guard2 either sets1 sets2 =
    rules_step p s t d (first ∷ second ∷ []) (ap (λ x. x || (guard_holds_in_image p s second || false)) guard1 ∙ ap (λ x. b || x) (or-false (guard_holds_in_image p s second) ∙ guard2) ∙ either) one
  where
    one : (i : ℕ) (other : PlainRule) → slice_get (first ∷ second ∷ []) i ≡ Some other → guard_holds_in_image p s other ≡ true → after_settings (image_of p s) other.sets ≡ image_of p t
    one zero other at h =
        let same : first ≡ other = cc in
        ap (λ (r : PlainRule). after_settings (image_of p s) r.sets) (sym same) ∙ sets1 (sym guard1 ∙ ap (guard_holds_in_image p s) same ∙ h)
    one (suc zero) other at h =
        let same : second ≡ other = cc in
        ap (λ (r : PlainRule). after_settings (image_of p s) r.sets) (sym same) ∙ sets2 (sym guard2 ∙ ap (guard_holds_in_image p s) same ∙ h)
    one (suc (suc i)) other at h = cc

-- Rules for the indices of a path, of which only the one for `key` can fire.
pub place_steps :
    (p : PlantLists) (s : State) (f : ℕ → ℕ → PlainRule) (path : List ℕ) (key : ℕ) (b : ℕ → Bool)
    (t : ℕ → State) →
    ((k x : ℕ) → (key ≡ k → ⊥) → guard_holds_in_image p s (f k x) ≡ false) →
    ((x : ℕ) → slice_get path key ≡ Some x → guard_holds_in_image p s (f key x) ≡ b x) →
    ((x : ℕ) → slice_get path key ≡ Some x → after_settings (image_of p s) (f key x).sets ≡ image_of p (t x)) →
    RulesMatchEvent p s (slice_get path key >>= (λ x. then_some (b x) (t x)))
    (map (λ place. f place.0 place.1) (enumerate_from 0 path))
place_steps p s f path key b t other guard sets = by_place (slice_get path key) refl
  where
    some : list_any (guard_holds_in_image p s) (map (λ place. f place.0 place.1) (enumerate_from 0 path)) ≡ is_some_and (slice_get path key) (λ x. guard_holds_in_image p s (f key x))
    some =
        one-place (guard_holds_in_image p s) f key other 0 path (omega arith)
        ∙ (let same : key - 0 ≡ key = omega arith in ap (λ j. is_some_and (slice_get path j) (λ x. guard_holds_in_image p s (f key x))) same)

    by_rule : (x i : ℕ) (rule : PlainRule) → slice_get path key ≡ Some x → slice_get (map (λ place. f place.0 place.1) (enumerate_from 0 path)) i ≡ Some rule → guard_holds_in_image p s rule ≡ true →
        after_settings (image_of p s) rule.sets ≡ image_of p (t x)
    by_rule x i rule at place h =
        let made = made-at f 0 path i rule place in
        by_key (cases_eq key (0 + i)) made.0 made.1 made.2
      where
        by_key : (key ≡ 0 + i) ⊎ (key ≡ 0 + i → ⊥) → (y : ℕ) → slice_get path i ≡ Some y → f (0 + i) y ≡ rule → after_settings (image_of p s) rule.sets ≡ image_of p (t x)
        by_key (inl same) y there is =
            let places : i ≡ key = omega (arith, same) in
            let sections : y ≡ x = same_Some y x (sym there ∙ ap (slice_get path) places ∙ at) in
            let rules : rule ≡ f key x = sym is ∙ ap (λ k. f k y) (sym same) ∙ ap (f key) sections in
            ap (λ (q : PlainRule). after_settings (image_of p s) q.sets) rules ∙ sets x at
        by_key (inr apart) y there is = absurd (false≢true (sym (other (0 + i) y apart) ∙ ap (guard_holds_in_image p s) is ∙ h))

    by_place : (o : Option ℕ) → slice_get path key ≡ o → RulesMatchEvent p s (o >>= (λ x. then_some (b x) (t x))) (map (λ place. f place.0 place.1) (enumerate_from 0 path))
    by_place None at = none_step p s (map (λ place. f place.0 place.1) (enumerate_from 0 path)) (some ∙ ap (λ o. is_some_and o (λ x. guard_holds_in_image p s (f key x))) at)
    by_place (Some x) at =
        rules_step p s (t x) (b x) (map (λ place. f place.0 place.1) (enumerate_from 0 path)) (some ∙ ap (λ o. is_some_and o (λ y. guard_holds_in_image p s (f key y))) at ∙ guard x at) (λ i rule place h. by_rule x i rule at place h)
