-- The plant of drafts that are checked in stages.
use Rattle.std.proofs.Common.{◌≡◌, None, Some, IfOk, IfErr, Option, Result, Ok, Err, List, [], ◌∷◌, refl, sym, ap, ◌∙◌, subst}
use Rattle.ilk_plant.specs.Plant.{PlantLists}
use Rattle.ilk_plant.specs.declared.broken.Broken.{Broken}
use Rattle.ilk_words.specs.declared.command.ColumnRuleMode.{ColumnRuleMode}
use Rattle.ilk_answers.specs.Answer.{ok_unless_refusals, refusals_if_any_broken_rules}
use Rattle.ilk_answers.specs.Stages.{broken_column_rules_if_strict, first_nonempty_broken}
use Rattle.ilk_answers.specs.declared.refusals.Refusals.{Refusals}

pub none-broken : (broken : List Broken) → refusals_if_any_broken_rules broken ≡ None → broken ≡ []
none-broken [] none = refl
none-broken (first ∷ rest) none = absurd (cc)

pub first-none : (first later : List Broken) → first_nonempty_broken first later ≡ [] → first ≡ []
first-none [] later e = refl
first-none (b ∷ rest) later e = absurd (cc)

pub later-none : (first later : List Broken) → first_nonempty_broken first later ≡ [] → later ≡ []
later-none [] later e = e
later-none (b ∷ rest) later e = absurd (cc)

later-found : (broken later : List Broken) → refusals_if_any_broken_rules broken ≡ None → first_nonempty_broken broken later ≡ later
later-found [] later none = refl
later-found (first ∷ rest) later none = absurd (cc)

pub not-refused : {A : Type 0} (refusals : Option Refusals) (asked kept : A) → ok_unless_refusals refusals asked ≡ Ok kept → (refusals ≡ None) × (kept ≡ asked)
not-refused None asked kept is = (refl, cc)
not-refused (Some refusals) asked kept is = absurd (cc)

pub let-through :
    {A E : Type 0} (found : Result (List Broken) E) (broken : List Broken) (asked kept : A)
    (answer : Result (Result A Refusals) E) →
    IfOk found (λ b. b ≡ broken) → IfOk found (λ b. answer ≡ Ok (ok_unless_refusals (refusals_if_any_broken_rules b) asked)) →
    IfErr found (λ e. answer ≡ Err e) → answer ≡ Ok (Ok kept) → (refusals_if_any_broken_rules broken ≡ None) × (kept ≡ asked)
let-through (Err e) broken asked kept answer same answered wanting is = absurd (cc)
let-through (Ok b) broken asked kept answer same answered wanting is =
    let left : ok_unless_refusals (refusals_if_any_broken_rules broken) asked ≡ Ok kept = cc in not-refused (refusals_if_any_broken_rules broken) asked kept left

pub columns-alone :
    {E : Type 0} (columns : ColumnRuleMode) (found known : List Broken) (made plant : PlantLists)
    (asked : Result (Result PlantLists Refusals) E) → found ≡ known →
    refusals_if_any_broken_rules found ≡ None → made ≡ plant →
    IfOk asked (λ a. a ≡ ok_unless_refusals (refusals_if_any_broken_rules (broken_column_rules_if_strict columns made)) made) →
    IfOk asked (λ a. a ≡ ok_unless_refusals (refusals_if_any_broken_rules (first_nonempty_broken known (broken_column_rules_if_strict columns plant))) plant)
columns-alone columns found known made plant (Err e) same none is h = tt
columns-alone columns found known made plant (Ok a) same none is h =
    let Asked : PlantLists → Type 0 = λ p. a ≡ ok_unless_refusals (refusals_if_any_broken_rules (broken_column_rules_if_strict columns p)) p in
    let left : first_nonempty_broken known (broken_column_rules_if_strict columns plant) ≡ broken_column_rules_if_strict columns plant = later-found known (broken_column_rules_if_strict columns plant) (ap refusals_if_any_broken_rules
    (sym same) ∙ none) in
    rw left (subst Asked is h)
