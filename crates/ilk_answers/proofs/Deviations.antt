-- A configuration that `check` refuses only by C4, C5, C6 and C8 is safe.
use Rattle.std.proofs.Common.{◌≡◌, ℕ, Bool, true, false, if◌then◌else◌, Option, Some, None, IfOk, OnOk, Result, Ok, Err, List, [], ◌∷◌, ◌++◌, ◌&&◌, append_assoc, codes, length, nat_lt, refl, sym, ap, ◌∙◌, subst}
use Rattle.ilk_lines.specs.Lines.{Bytes}
use Rattle.ilk_plant.specs.ColumnRules.{column_rules_broken}
use Rattle.ilk_plant.specs.Draft.{plant_from_drafts}
use Rattle.ilk_plant.specs.Limits.{WithinLimits}
use Rattle.ilk_plant.specs.NetworkRules.{network_rules_broken}
use Rattle.ilk_plant.specs.Plant.{IsPlant, PlantLists}
use Rattle.ilk_plant.specs.TableRules.{table_rules_broken}
use Rattle.ilk_plant.specs.declared.broken.Broken.{Broken}
use Rattle.ilk_plant.specs.declared.draft.NetDraft.{NetDraft}
use Rattle.ilk_plant.specs.declared.draft.TableDraft.{TableDraft}
use Rattle.ilk_plant.proofs.Sound.{sound-IsPlant}
use Rattle.ilk_net_read.specs.Fault.{rule_fault_at_place}
use Rattle.ilk_net_read.specs.declared.fault.Form.{Form}
use Rattle.ilk_net_read.specs.declared.fault.Form.TheVariants.{F1, F2, F3, F4, F5, F6}
use Rattle.ilk_net_read.specs.declared.fault.FormFault.{FormFault}
use Rattle.ilk_net_read.specs.declared.fault.Place.TheVariants.{Document}
use Rattle.ilk_table_read.specs.Table.{net_and_table_drafts_from_text}
use Rattle.ilk_strict.proofs.Strict.{strict_from_rules}
use Rattle.ilk_forever.proofs.StrictForever.{strict-forever}
use Rattle.ilk_words.specs.declared.command.ColumnRuleMode.TheVariants.{Strict, Free}
use Rattle.ilk_words.specs.declared.command.ConfCommand.TheVariants.{Plain}
use Rattle.ilk_words.specs.declared.command.ConfCommandWithoutExtra.TheVariants.{Check}
use Rattle.ilk_words.specs.declared.lengths.TheConstants.{MAX_CONFIGURATION_BYTES}
use Rattle.ilk_words.specs.declared.plan.CheckedRuleStages.TheVariants.{All}
use Rattle.ilk_answers.specs.Answer.{AnswersOnPlantOrRefuses, refusal_lines_of_broken_rules, refusals_from_form_fault, ok_unless_refusals, plant_or_refusals_of_conf, plant_of_drafts, refusals_if_any_broken_rules}
use Rattle.ilk_answers.specs.Refusal.{broken_place_or_pair_text, form_rule_name, place_text, refusal_line, refusal_line_for_rule}
use Rattle.ilk_answers.specs.Stages.{first_nonempty_broken, first_broken_stage_rules}
use Rattle.ilk_answers.specs.Strict.{HasSafePlantDespiteColumns, FreeColumnPlantIsValid, has_one_of_beginnings, lines_have_beginnings, harmless_refusal_beginnings}
use Rattle.ilk_answers.specs.declared.refusals.Refusal.{Refusal}
use Rattle.ilk_answers.specs.declared.refusals.Refusal.TheVariants.{Form as FormRefusal, Rule as RuleRefusal}
use Rattle.ilk_answers.specs.declared.refusals.Refusals.{Refusals}
use Rattle.ilk_answers.specs.declared.reply.Reply.{Reply}
use Rattle.ilk_answers.specs.declared.status.Status.TheVariants.{Good, Refused as IsRefused}
use Rattle.ilk_plant.specs.Broken.{rule_word}
use Rattle.ilk_answers.proofs.Checked.{none-broken}
use Rattle.ilk_answers.proofs.FirstLines.{lines-begin}
use Rattle.ilk_answers.proofs.Harmless.{are_harmless, harmless-begins, harmless-keeps, is_harmless, network-harmless, table-harmless}

pub plant-drafts : (net : NetDraft) (table : TableDraft) → WithinLimits net table → IfOk (plant_of_drafts (All Free) (Ok (net, table))) IsPlant
plant-drafts net table limits = of_refusals (refusals_if_any_broken_rules (first_broken_stage_rules (All Free) net table)) refl
  where
    of_network : (network later : List Broken) → first_nonempty_broken network later ≡ [] → (network ≡ []) × (later ≡ [])
    of_network [] later e = (refl, e)
    of_network (b ∷ network) later e = absurd (cc)

    of_refusals : (o : Option Refusals) → refusals_if_any_broken_rules (first_broken_stage_rules (All Free) net table) ≡ o → IfOk (ok_unless_refusals o (plant_from_drafts net table)) IsPlant
    of_refusals (Some refusals) is = tt
    of_refusals None is =
        let stages = of_network (network_rules_broken net) (first_nonempty_broken (table_rules_broken net table) []) (none-broken (first_broken_stage_rules (All Free) net table) is) in
        let routes = of_network (table_rules_broken net table) [] stages.1 in
        sound-IsPlant net table (record { limits = limits; network = stages.0; routes = routes.0 })

pub free-plant : (conf : List ℕ) (drafts : Result (NetDraft × TableDraft) FormFault) → net_and_table_drafts_from_text conf ≡ drafts → IfOk drafts (λ d. WithinLimits d.0 d.1) → FreeColumnPlantIsValid conf
free-plant conf drafts is limits = of_length (nat_lt MAX_CONFIGURATION_BYTES (length conf))
  where
    of_drafts : (read : Result (NetDraft × TableDraft) FormFault) → IfOk read (λ d. WithinLimits d.0 d.1) → IfOk (plant_of_drafts (All Free) read) IsPlant
    of_drafts (Err fault) within = tt
    of_drafts (Ok (net, table)) within = plant-drafts net table within

    of_length : (b : Bool) → IfOk (if b then Err (refusals_from_form_fault (rule_fault_at_place F1 Document)) else plant_of_drafts (All Free) (net_and_table_drafts_from_text conf)) IsPlant
    of_length true = tt
    of_length false = of_drafts (net_and_table_drafts_from_text conf) (subst (λ read. IfOk read (λ d. WithinLimits d.0 d.1)) (sym is) limits)

pub holds-if_ok : {A E : Type 0} (r : Result A E) (P : Type 0) → P → OnOk r P
holds-if_ok (Ok x) P so = so
holds-if_ok (Err e) P so = tt

pub long-plant : (conf : List ℕ) → nat_lt MAX_CONFIGURATION_BYTES (length conf) ≡ true → FreeColumnPlantIsValid conf
long-plant conf long = rw long tt

abbrev is_harmless_refusal : Refusal → Bool
is_harmless_refusal (FormRefusal fault) = false
is_harmless_refusal (RuleRefusal b) = is_harmless b.rule

line-cut : (rule place rest : Bytes) → refusal_line_for_rule rule place ++ rest ≡ (codes "refused " ++ (rule ++ (codes " " ++ place))) ++ 10 ∷ rest
line-cut rule place rest =
    ap (λ bytes. codes "refused " ++ bytes)
    (append_assoc rule (32 ∷ (place ++ 10 ∷ [])) rest
    ∙ ap (λ bytes. rule ++ 32 ∷ bytes) (append_assoc place (10 ∷ []) rest)
    ∙ sym (append_assoc rule (32 ∷ place) (10 ∷ rest)))

line-begins : (rule place rest : Bytes) → lines_have_beginnings harmless_refusal_beginnings (refusal_line_for_rule rule place ++ rest) ≡ true →
    (has_one_of_beginnings harmless_refusal_beginnings (codes "refused " ++ (rule ++ (codes " " ++ place))) ≡ true)
    × (lines_have_beginnings harmless_refusal_beginnings rest ≡ true)
line-begins rule place rest h =
    lines-begin harmless_refusal_beginnings (codes "refused " ++ (rule ++ (codes " " ++ place))) rest
    (ap (lines_have_beginnings harmless_refusal_beginnings) (sym (line-cut rule place rest)) ∙ h)

form-begins : (form : Form) (place : Bytes) → has_one_of_beginnings harmless_refusal_beginnings (codes "refused " ++ (form_rule_name form ++ (codes " " ++ place))) ≡ true → false ≡ true
form-begins F1 place h = h
form-begins F2 place h = h
form-begins F3 place h = h
form-begins F4 place h = h
form-begins F5 place h = h
form-begins F6 place h = h

refusal-harmless : (refusal : Refusal) (rest : Bytes) → lines_have_beginnings harmless_refusal_beginnings (refusal_line refusal ++ rest) ≡ true → (is_harmless_refusal refusal ≡ true) × (lines_have_beginnings harmless_refusal_beginnings rest ≡ true)
refusal-harmless (FormRefusal fault) rest h =
    let parts = line-begins (form_rule_name fault.rule) (place_text fault.place) rest h in
    (form-begins fault.rule (place_text fault.place) parts.0, parts.1)
refusal-harmless (RuleRefusal b) rest h =
    let parts = line-begins (rule_word b.rule) (broken_place_or_pair_text b) rest h in
    (harmless-begins b.rule (broken_place_or_pair_text b) parts.0, parts.1)

rule_fault_at_place-harmless : (found : List Broken) → lines_have_beginnings harmless_refusal_beginnings (refusal_lines_of_broken_rules found) ≡ true → are_harmless found ≡ true
rule_fault_at_place-harmless [] h = refl
rule_fault_at_place-harmless (b ∷ found) h =
    let parts = refusal-harmless (RuleRefusal b) (refusal_lines_of_broken_rules found) h in
    both (is_harmless b.rule) (are_harmless found) parts.0 (rule_fault_at_place-harmless found parts.1)
  where
    both : (x y : Bool) → x ≡ true → y ≡ true → (x && y) ≡ true
    both true y first later = later
    both false y first later = absurd (cc)

first-harmless : (first later : List Broken) → (are_harmless first ≡ true → first ≡ []) → are_harmless (first_nonempty_broken first later) ≡ true → (first ≡ []) × (are_harmless later ≡ true)
first-harmless [] later none h = (refl, h)
first-harmless (b ∷ first) later none h = let no : b ∷ first ≡ [] = none h in absurd (cc)

safe-drafts : (conf : List ℕ) (net : NetDraft) (table : TableDraft) → nat_lt MAX_CONFIGURATION_BYTES (length conf) ≡ false →
    net_and_table_drafts_from_text conf ≡ Ok (net, table) → FreeColumnPlantIsValid conf →
    are_harmless (first_broken_stage_rules (All Strict) net table) ≡ true → HasSafePlantDespiteColumns conf
safe-drafts conf net table short read sound harmless =
    let p : PlantLists = plant_from_drafts net table in
    let network = first-harmless (network_rules_broken net) (first_nonempty_broken (table_rules_broken net table) (column_rules_broken p)) (network-harmless net) harmless in
    let routes = first-harmless (table_rules_broken net table) (column_rules_broken p) (table-harmless net table) network.1 in
    let none : first_broken_stage_rules (All Free) net table ≡ [] = ap (λ found. first_nonempty_broken found (first_nonempty_broken (table_rules_broken net table) [])) network.0 ∙ ap (λ found. first_nonempty_broken found []) routes.0 in
    let free : plant_or_refusals_of_conf (All Free) conf ≡ Ok p =
    ap (λ b. if b then Err (refusals_from_form_fault (rule_fault_at_place F1 Document)) else plant_of_drafts (All Free) (net_and_table_drafts_from_text conf)) short
    ∙ ap (plant_of_drafts (All Free)) read
    ∙ ap (λ found. ok_unless_refusals (refusals_if_any_broken_rules found) p) none in
    let plant : IsPlant p = subst (λ found. IfOk found IsPlant) free sound in
    record { plant = p; read = free; safe = strict-forever p plant (strict_from_rules p (harmless-keeps p routes.1)) }

safe-refused : (conf : List ℕ) (refusals : Refusals) → plant_or_refusals_of_conf (All Strict) conf ≡ Err refusals → FreeColumnPlantIsValid conf → is_harmless_refusal refusals.first ≡ true → are_harmless refusals.rest ≡ true →
    HasSafePlantDespiteColumns conf
safe-refused conf refusals is sound first rest = of_length (nat_lt MAX_CONFIGURATION_BYTES (length conf)) refl is
  where
    not_form : (fault : FormFault) → refusals_from_form_fault fault ≡ refusals → ⊥
    not_form fault e = let harmless : false ≡ true = ap (λ (r : Refusals). is_harmless_refusal r.first) e ∙ first in absurd (cc)

    all_of : (found : List Broken) → refusals_if_any_broken_rules found ≡ Some refusals → are_harmless found ≡ true
    all_of [] e = absurd (cc)
    all_of (b ∷ found) e =
        let same : record { first = RuleRefusal b; rest = found } ≡ refusals = cc in
        let here : is_harmless b.rule ≡ true = ap (λ (r : Refusals). is_harmless_refusal r.first) same ∙ first in
        let there : are_harmless found ≡ true = ap (λ (r : Refusals). are_harmless r.rest) same ∙ rest in
        rw (here, there) refl

    of_found : (o : Option Refusals) (p : PlantLists) → ok_unless_refusals o p ≡ Err refusals → o ≡ Some refusals
    of_found None p e = absurd (cc)
    of_found (Some found) p e = cc

    of_drafts : (read : Result (NetDraft × TableDraft) FormFault) → nat_lt MAX_CONFIGURATION_BYTES (length conf) ≡ false → net_and_table_drafts_from_text conf ≡ read → plant_of_drafts (All Strict) read ≡ Err refusals → HasSafePlantDespiteColumns conf
    of_drafts (Err fault) short at e = let same : refusals_from_form_fault fault ≡ refusals = cc in absurd (not_form fault same)
    of_drafts (Ok (net, table)) short at e =
        safe-drafts conf net table short at sound (all_of (first_broken_stage_rules (All Strict) net table) (of_found (refusals_if_any_broken_rules (first_broken_stage_rules (All Strict) net table)) (plant_from_drafts net table) e))

    of_length : (b : Bool) → nat_lt MAX_CONFIGURATION_BYTES (length conf) ≡ b → (if b then Err (refusals_from_form_fault (rule_fault_at_place F1 Document)) else plant_of_drafts (All Strict) (net_and_table_drafts_from_text conf)) ≡ Err refusals →
        HasSafePlantDespiteColumns conf
    of_length true long e = let same : refusals_from_form_fault (rule_fault_at_place F1 Document) ≡ refusals = cc in absurd (not_form (rule_fault_at_place F1 Document) same)
    of_length false short e = of_drafts (net_and_table_drafts_from_text conf) short refl e

pub deviations-safe :
    (conf : List ℕ) (found : Result PlantLists Refusals) (extra : Option (List ℕ)) (made : Reply) →
    found ≡ plant_or_refusals_of_conf (All Strict) conf → FreeColumnPlantIsValid conf → AnswersOnPlantOrRefuses (Plain Check) found extra made →
    made.status ≡ IsRefused → lines_have_beginnings harmless_refusal_beginnings made.report ≡ true → HasSafePlantDespiteColumns conf
deviations-safe conf (Ok p) extra made known sound told refused lines =
    let good : Good ≡ IsRefused = ap (λ (r : Reply). r.status) (sym told) ∙ refused in absurd (cc)
deviations-safe conf (Err refusals) extra made known sound told refused lines =
    let report : refusal_line refusals.first ++ refusal_lines_of_broken_rules refusals.rest ≡ made.report = ap (λ (r : Reply). r.report) (sym told) in
    let parts = refusal-harmless refusals.first (refusal_lines_of_broken_rules refusals.rest) (ap (lines_have_beginnings harmless_refusal_beginnings) report ∙ lines) in
    safe-refused conf refusals (sym known) sound parts.0 (rule_fault_at_place-harmless refusals.rest parts.1)
