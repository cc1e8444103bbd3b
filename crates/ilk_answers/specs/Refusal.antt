-- The line that a refusal prints.
use Rattle.std.specs.Prelude.{ℕ, Option, Some, None, List, [], ◌∷◌, ◌++◌, codes, decimal}
use Rattle.ilk_net_read.specs.declared.fault.Form.{Form}
use Rattle.ilk_net_read.specs.declared.fault.Form.TheVariants.{F1, F2, F3, F4, F5, F6}
use Rattle.ilk_net_read.specs.declared.fault.Place.{Place}
use Rattle.ilk_net_read.specs.declared.fault.Place.TheVariants.{Document, Extra, Section, Route}
use Rattle.ilk_plant.specs.Broken.{place_kind_of, place_kind_word, rule_word}
use Rattle.ilk_plant.specs.declared.broken.Broken.{Broken}
use Rattle.ilk_answers.specs.declared.refusals.Refusal.{Refusal}
use Rattle.ilk_answers.specs.declared.refusals.Refusal.TheVariants.{Form as FormRefusal, Rule as RuleRefusal}

-- The name of a rule of the form, such as `F1`.
abbrev pub form_rule_name : Form → List ℕ
form_rule_name F1 = codes "F1"
form_rule_name F2 = codes "F2"
form_rule_name F3 = codes "F3"
form_rule_name F4 = codes "F4"
form_rule_name F5 = codes "F5"
form_rule_name F6 = codes "F6"

-- The text of entry i of the list `places`, such as `routes[3]`.
abbrev pub indexed_entry_text : List ℕ → ℕ → List ℕ
indexed_entry_text places i = places ++ (codes "[" ++ (decimal i ++ codes "]"))

abbrev pub place_text : Place → List ℕ
place_text Document = codes "document"
place_text Extra = codes "extra"
place_text (Section i) = indexed_entry_text (codes "sections") i
place_text (Route i) = indexed_entry_text (codes "routes") i

-- The text of the one or two places at which a rule is broken, such as `routes[3]`.
abbrev pub broken_place_or_pair_text : Broken → List ℕ
broken_place_or_pair_text broken = with_second broken.second
  where
    with_second : Option ℕ → List ℕ
    with_second None = indexed_entry_text (place_kind_word (place_kind_of broken.rule)) broken.first
    with_second (Some second) =
        indexed_entry_text (place_kind_word (place_kind_of broken.rule)) broken.first
        ++ (codes " " ++ indexed_entry_text (place_kind_word (place_kind_of broken.rule)) second)

-- The report line of a refusal: `refused`, the rule and the place.
abbrev pub refusal_line_for_rule : List ℕ → List ℕ → List ℕ
refusal_line_for_rule rule place = codes "refused " ++ (rule ++ (codes " " ++ (place ++ 10 ∷ [])))

abbrev pub refusal_line : Refusal → List ℕ
refusal_line (FormRefusal fault) = refusal_line_for_rule (form_rule_name fault.rule) (place_text fault.place)
refusal_line (RuleRefusal broken) = refusal_line_for_rule (rule_word broken.rule) (broken_place_or_pair_text broken)
