-- If each line of a report is harmless, no rule is broken that safety needs.
use Rattle.std.proofs.Common.{◌≡◌, ℕ, ◌<◌, zero, suc, ◌==◌, Bool, true, false, not, ◌&&◌, Option, Some, None, List, [], ◌∷◌, ◌++◌, codes, filter, flat_map, is_none, length, map, nat_lt, slice_get, refl, sym, ap, ◌∙◌}
use Rattle.std.specs.List.{list_all, range_with_len}
use Rattle.std.proofs.lemmas.Bool.{and_parts, eqb-true}
use Rattle.std.proofs.lemmas.List.Folds.{list_all-append}
use Rattle.ilk_base.specs.Option.{is_some_and}
use Rattle.ilk_lines.specs.Lines.{Bytes}
use Rattle.ilk_plant.specs.Broken.{broken_below, broken_for_rules, place_kind_of, rule_word}
use Rattle.ilk_plant.specs.ColumnRules.{breaks_column_rule_at, broken_for_column_rule, all_column_rules, column_rules_broken, ends_at_destination_or_border, has_no_board, destination_is_first_board, path_destination_is_first_board, path_and_overlap_points_listed}
use Rattle.ilk_plant.specs.Draft.{plant_from_drafts}
use Rattle.ilk_plant.specs.NetworkRules.{breaks_network_rule_at, place_count_in_network, all_network_rules, network_rules_broken}
use Rattle.ilk_plant.specs.Network.{last_of}
use Rattle.ilk_plant.specs.Plant.{PlantLists, board_of, next_to}
use Rattle.ilk_plant.specs.TableRules.{breaks_table_rule_at, place_count_in_plant, route_fails, all_table_rules, table_rules_broken}
use Rattle.ilk_plant.specs.declared.broken.Broken.{Broken}
use Rattle.ilk_plant.specs.declared.broken.PlaceKind.{PlaceKind}
use Rattle.ilk_plant.specs.declared.broken.Rule.{Rule}
use Rattle.ilk_plant.specs.declared.broken.Rule.TheVariants.{N1, N2, N3, N4, N5, N6, N7, N8, R1, R2, R3, R4, R5, R6, R7, R8, C1, C2, C3, C4, C5, C6, C7, C8}
use Rattle.ilk_plant.specs.declared.draft.NetDraft.{NetDraft}
use Rattle.ilk_plant.specs.declared.draft.TableDraft.{TableDraft}
use Rattle.ilk_plant.specs.declared.network.Dir.{Dir}
use Rattle.ilk_plant.specs.declared.table.Route.{Route}
use Rattle.ilk_plant.proofs.Rules.{rule-kept}
use Rattle.ilk_model.specs.Holding.{continues_without_board}
use Rattle.ilk_strict.specs.IsStrict.{KeepsPathRules, does_not_end_between_boards, path_points_listed_along_path}
use Rattle.ilk_answers.specs.Strict.{has_one_of_beginnings, harmless_refusal_beginnings}

abbrev pub is_harmless : Rule → Bool
is_harmless C4 = true
is_harmless C5 = true
is_harmless C6 = true
is_harmless C8 = true
is_harmless _ = false

pub harmless-begins : (rule : Rule) (place : Bytes) → has_one_of_beginnings harmless_refusal_beginnings (codes "refused " ++ (rule_word rule ++ (codes " " ++ place))) ≡ true → is_harmless rule ≡ true
harmless-begins N1 place h = h
harmless-begins N2 place h = h
harmless-begins N3 place h = h
harmless-begins N4 place h = h
harmless-begins N5 place h = h
harmless-begins N6 place h = h
harmless-begins N7 place h = h
harmless-begins N8 place h = h
harmless-begins R1 place h = h
harmless-begins R2 place h = h
harmless-begins R3 place h = h
harmless-begins R4 place h = h
harmless-begins R5 place h = h
harmless-begins R6 place h = h
harmless-begins R7 place h = h
harmless-begins R8 place h = h
harmless-begins C1 place h = h
harmless-begins C2 place h = h
harmless-begins C3 place h = h
harmless-begins C4 place h = refl
harmless-begins C5 place h = refl
harmless-begins C6 place h = refl
harmless-begins C7 place h = h
harmless-begins C8 place h = refl

abbrev pub are_harmless : List Broken → Bool
are_harmless broken = list_all (λ b. is_harmless b.rule) broken

none-at : (rule : Rule) (n : ℕ) (test : ℕ → Bool) → is_harmless rule ≡ false → are_harmless (broken_below rule n test) ≡ true → broken_below rule n test ≡ []
none-at rule n test harms all = of_places (filter test (range_with_len 0 n)) all
  where
    made : ℕ → Broken
    made i = record { rule = rule; first = i; second = None }

    of_places : (places : List ℕ) → are_harmless (map made places) ≡ true → map made places ≡ []
    of_places [] h = refl
    of_places (i ∷ places) h = let here : is_harmless rule ≡ true = (and_parts (is_harmless rule) (are_harmless (map made places)) h).0 in cc

kept-at : (rule : Rule) (n : ℕ) (test : ℕ → Bool) → is_harmless rule ≡ false → are_harmless (broken_below rule n test) ≡ true → (i : ℕ) → i < n → test i ≡ false
kept-at rule n test harms all = rule-kept rule n test (none-at rule n test harms all)

pub none-each : (rules : List Rule) (count : PlaceKind → ℕ) (breaks : Rule → ℕ → Bool) → list_all (λ rule. not (is_harmless rule)) rules ≡ true → are_harmless (broken_for_rules rules count breaks) ≡ true → broken_for_rules rules count breaks ≡ []
none-each [] count breaks harm all = refl
none-each (rule ∷ rules) count breaks harm all =
    let first : List Broken = broken_below rule (count (place_kind_of rule)) (breaks rule) in
    let harms = and_parts (not (is_harmless rule)) (list_all (λ r. not (is_harmless r)) rules) harm in
    let parts = and_parts (are_harmless first) (are_harmless (broken_for_rules rules count breaks)) (sym (list_all-append (λ b. is_harmless b.rule) first (broken_for_rules rules count breaks)) ∙ all) in
    let none : first ≡ [] = none-at rule (count (place_kind_of rule)) (breaks rule) (isnt (is_harmless rule) harms.0) parts.0 in
    ap (λ found. found ++ broken_for_rules rules count breaks) none ∙ none-each rules count breaks harms.1 parts.1
  where
    isnt : (b : Bool) → not b ≡ true → b ≡ false
    isnt true h = sym h
    isnt false h = refl

part-harmless : (made : Rule → List Broken) (rules : List Rule) (k : ℕ) (rule : Rule) → slice_get rules k ≡ Some rule → are_harmless (flat_map made rules) ≡ true → are_harmless (made rule) ≡ true
part-harmless made [] k rule at all = absurd (cc)
part-harmless made (r ∷ rules) zero rule at all =
    let parts = and_parts (are_harmless (made r)) (are_harmless (flat_map made rules)) (sym (list_all-append (λ b. is_harmless b.rule) (made r) (flat_map made rules)) ∙ all) in
    let same : r ≡ rule = cc in
    ap (λ it. are_harmless (made it)) (sym same) ∙ parts.0
part-harmless made (r ∷ rules) (suc k) rule at all =
    let parts = and_parts (are_harmless (made r)) (are_harmless (flat_map made rules)) (sym (list_all-append (λ b. is_harmless b.rule) (made r) (flat_map made rules)) ∙ all) in
    part-harmless made rules k rule at parts.1

fails-more : (p : PlantLists) (test more : Route → Bool) (i : ℕ) → ((route : Route) → more route ≡ true → test route ≡ true) → route_fails p more i ≡ false → route_fails p test i ≡ false
fails-more p test more i leads h = of_route (slice_get p.routes i) h
  where
    passes : (a b : Bool) → (a ≡ true → b ≡ true) → not a ≡ false → not b ≡ false
    passes true b leads h = ap not (leads refl)
    passes false b leads h = absurd (cc)

    of_route : (o : Option Route) → is_some_and o (λ route. not (more route)) ≡ false → is_some_and o (λ route. not (test route)) ≡ false
    of_route None h = refl
    of_route (Some route) h = passes (more route) (test route) (leads route) h

passes-less : {A : Type 0} (o : Option A) (more test : A → Bool) → ((x : A) → more x ≡ true → test x ≡ true) → is_some_and o more ≡ true → is_some_and o test ≡ true
passes-less None more test leads h = h
passes-less (Some x) more test leads h = leads x h

ends-not_plain : (p : PlantLists) (d : Dir) (destination : Option ℕ) (x : ℕ) → ends_at_destination_or_border p d destination x ≡ true → not (continues_without_board p d x) ≡ true
ends-not_plain p d (Some m) x h = boarded (board_of p x d) (nat_lt 0 (length (next_to p x d))) h
  where
    boarded : (o : Option ℕ) (c : Bool) → is_some_and o (λ n. n == m) ≡ true → not (is_none o && c) ≡ true
    boarded None c h = absurd (cc)
    boarded (Some n) c h = refl
ends-not_plain p d None x h = alone (has_no_board p d x) (length (next_to p x d)) (eqb-true (length (next_to p x d)) 0 h)
  where
    alone : (b : Bool) (n : ℕ) → n ≡ 0 → not (b && nat_lt 0 n) ≡ true
    alone true n e = rw e refl
    alone false n e = refl

pub harmless-keeps : (p : PlantLists) → are_harmless (column_rules_broken p) ≡ true → KeepsPathRules p
harmless-keeps p all = record {
  c1 = kept-at C1 (length p.routes) (breaks_column_rule_at p C1) refl (of_rule 0 C1 refl);
  c2 = λ i less. fails-more p (does_not_end_between_boards p) (path_destination_is_first_board p) i ends (kept-at C2 (length p.routes) (breaks_column_rule_at p C2) refl (of_rule 1 C2 refl) i less);
  c3 = λ i less. fails-more p (path_points_listed_along_path p) (path_and_overlap_points_listed p) i (λ route h. (and_parts (path_points_listed_along_path p route) _ h).0) (kept-at C3 (length p.routes) (breaks_column_rule_at p C3) refl
      (of_rule 2 C3 refl) i less);
  c7 = kept-at C7 (length p.sections) (breaks_column_rule_at p C7) refl (of_rule 6 C7 refl);
}
  where
    of_rule : (k : ℕ) (rule : Rule) → slice_get all_column_rules k ≡ Some rule → are_harmless (broken_for_column_rule p rule) ≡ true
    of_rule k rule at = part-harmless (broken_for_column_rule p) all_column_rules k rule at all

    of_end : (d : Dir) (destination : Option ℕ) (path : List ℕ) → destination_is_first_board p d destination path ≡ true → is_some_and (last_of path) (λ x. not (continues_without_board p d x)) ≡ true
    of_end d destination path between =
        let end = (and_parts _ (is_some_and (last_of path) (ends_at_destination_or_border p d destination)) between).1 in
        passes-less (last_of path) (ends_at_destination_or_border p d destination) (λ x. not (continues_without_board p d x)) (ends-not_plain p d destination) end

    ends : (route : Route) → path_destination_is_first_board p route ≡ true → does_not_end_between_boards p route ≡ true
    ends route h =
        passes-less (slice_get p.boards route.source) (λ b. destination_is_first_board p b.dir route.destination route.path)
        (λ b. is_some_and (last_of route.path) (λ x. not (continues_without_board p b.dir x)))
        (λ b between. of_end b.dir route.destination route.path between) h

pub network-harmless : (net : NetDraft) → are_harmless (network_rules_broken net) ≡ true → network_rules_broken net ≡ []
network-harmless net all = none-each all_network_rules (place_count_in_network net) (breaks_network_rule_at net) refl all

pub table-harmless : (net : NetDraft) (table : TableDraft) → are_harmless (table_rules_broken net table) ≡ true → table_rules_broken net table ≡ []
table-harmless net table all = none-each all_table_rules (place_count_in_plant (plant_from_drafts net table)) (breaks_table_rule_at (plant_from_drafts net table)) refl all
