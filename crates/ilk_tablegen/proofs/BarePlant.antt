use Rattle.std.proofs.Common.{◌≡◌, List, [], ◌++◌, append-nil, length, ◌∙◌, ap, arith}
use Rattle.ilk_plant.specs.Broken.{broken_below, broken_at_pairs}
use Rattle.ilk_plant.specs.ColumnRules.{breaks_column_rule_at, breaks_column_rule_at_pair, broken_for_column_rule, column_rules_broken}
use Rattle.ilk_plant.specs.Plant.{PlantLists}
use Rattle.ilk_plant.specs.declared.broken.Broken.{Broken}
use Rattle.ilk_plant.specs.declared.broken.Rule.{Rule}
use Rattle.ilk_plant.specs.declared.broken.Rule.TheVariants.{C1, C2, C3, C4, C5, C6, C7, C8}
use Rattle.ilk_tablegen.proofs.AtPlaces.{broken-no_pair, broken-none}

pub bare-asks_c7 : (p : PlantLists) → p.routes ≡ [] → column_rules_broken p ≡ broken_for_column_rule p C7
bare-asks_c7 p none =
    skipped (nowhere C1)
    (skipped (nowhere C2)
    (skipped (nowhere C3)
    (skipped (nowhere C4)
    (skipped (no_pair C5)
    (skipped (no_pair C6)
    (ap (λ l. broken_for_column_rule p C7 ++ (l ++ [])) (no_pair C8) ∙ append-nil (broken_for_column_rule p C7)))))))
  where
    count : length p.routes ≡ 0
    count = ap length none

    nowhere : (rule : Rule) → broken_below rule (length p.routes) (breaks_column_rule_at p rule) ≡ []
    nowhere rule = broken-none rule (length p.routes) (breaks_column_rule_at p rule) (λ i less. absurd (omega (arith, less, count)))

    no_pair : (rule : Rule) → broken_at_pairs rule (length p.routes) (breaks_column_rule_at_pair p rule) ≡ []
    no_pair rule = broken-no_pair rule (length p.routes) (breaks_column_rule_at_pair p rule) (λ i j less other. absurd (omega (arith, less, count)))

    skipped : {xs ys zs : List Broken} → xs ≡ [] → ys ≡ zs → xs ++ ys ≡ zs
    skipped {ys = ys} first later = ap (λ l. l ++ ys) first ∙ later
