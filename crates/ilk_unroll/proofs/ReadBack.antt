use Rattle.std.proofs.Common.{◌≡◌, ℕ, ◌+◌, ◌<◌, ◌≤◌, Bool, true, List, [], ◌∷◌, ◌++◌, length, map, drop, get_or, ltb, zero, suc, slice_get, Some, refl, sym, ap, ◌∙◌, subst, arith, append_assoc}
use Rattle.std.specs.List.{list_all}
use Rattle.std.specs.Prelude.{nat_le, nat_lt}
use Rattle.std.proofs.lemmas.Bool.{and_parts, and_from, ltb-true, lt-ltb, leb-true}
use Rattle.std.proofs.lemmas.List.{append-nil}
use Rattle.std.proofs.lemmas.List.Folds.{list_all-map}
use Rattle.ilk_base.proofs.Tested.{list_all-slice_get}
use Rattle.ilk_cnf.specs.Literal.{Literal}
use Rattle.ilk_cnf.specs.Truth.{is_true}
use Rattle.ilk_ints.specs.Named.{one_hot_bits}
use Rattle.ilk_ir.specs.System.{in_ranges}
use Rattle.ilk_forms.specs.declared.copy.VarValueAndBoundLits.{VarValueAndBoundLits}
use Rattle.ilk_forms.specs.Leaf.{ranges_of_copy_lits}
use Rattle.ilk_forms.proofs.ColumnLaw.{ranges_fit}
use Rattle.ilk_forms.proofs.CopyLaw.{ranges_fit-small}
use Rattle.ilk_step.specs.declared.choice.Choice.{Choice}
use Rattle.ilk_step.specs.Choice.{Chooses}
use Rattle.ilk_unroll.specs.Represented.{ValuesInRangeAndEncoded}
use Rattle.ilk_unroll.specs.Tables.{StepsChooseTheseRules, choices_begin_at_or_before}

-- The literals of the values from `i` on say that `value`, one of these, is the value.
pub record SaysFrom (a : List Bool) (i value : ℕ) (lits : List Literal) : Type 0 where
  pub low : i ≤ value
  pub bits : map (is_true a) lits ≡ one_hot_bits value i (length lits)

-- The value that the literals of the first column say, and those of the other columns.
pub record FirstValue (a : List Bool) (column : VarValueAndBoundLits) (others : List VarValueAndBoundLits) (values : List ℕ) : Type 0 where
  pub value : ℕ
  pub rest : List ℕ
  pub split : values ≡ value ∷ rest
  pub below : value < length column.values
  pub says : map (is_true a) column.values ≡ one_hot_bits value 0 (length column.values)
  pub told : ValuesInRangeAndEncoded a others (ranges_of_copy_lits others) rest

first_value-parts : (a : List Bool) (column : VarValueAndBoundLits) (others : List VarValueAndBoundLits) (values : List ℕ) → ValuesInRangeAndEncoded a (column ∷ others) (ranges_of_copy_lits (column ∷ others)) values
    → FirstValue a column others values
first_value-parts a column others [] h = absurd h.1
first_value-parts a column others (value ∷ rest) h =
    let parts = and_parts (ltb value (length column.values)) (in_ranges rest (ranges_of_copy_lits others)) h.0 in
    record { value = value; rest = rest; split = refl; below = ltb-true value (length column.values) parts.0; says = h.1.0; told = (parts.1, h.1.2) }

pub first_value : (a : List Bool) (column : VarValueAndBoundLits) (all others : List VarValueAndBoundLits) (values : List ℕ) → all ≡ column ∷ others → ValuesInRangeAndEncoded a all (ranges_of_copy_lits all) values → FirstValue a column others values
first_value a column all others values split h = first_value-parts a column others values (subst (λ (columns : List VarValueAndBoundLits). ValuesInRangeAndEncoded a columns (ranges_of_copy_lits columns) values) split h)

-- The values that are still to be read: those of `columns`.
pub record ValuesLeft (a : List Bool) (columns : List VarValueAndBoundLits) (done values : List ℕ) : Type 0 where
  pub rest : List ℕ
  pub whole : done ++ rest ≡ values
  pub told : ValuesInRangeAndEncoded a columns (ranges_of_copy_lits columns) rest

pub values-next :
    (a : List Bool) (column : VarValueAndBoundLits) (all others : List VarValueAndBoundLits) (v : ℕ) (done longer values : List ℕ) →
    all ≡ column ∷ others →
    ((w : ℕ) → w < length column.values → map (is_true a) column.values ≡ one_hot_bits w 0 (length column.values) → v ≡ w) →
    longer ≡ done ++ v ∷ [] → ValuesLeft a all done values → ValuesLeft a others longer values
values-next a column all others v done longer values split only pushed h =
    let f = first_value a column all others h.rest split h.told in
    record {
      rest = f.rest;
      whole =
          ap (λ (us : List ℕ). us ++ f.rest) pushed
          ∙ append_assoc done (v ∷ []) f.rest
          ∙ ap (λ (u : ℕ). done ++ u ∷ f.rest) (only f.value f.below f.says)
          ∙ ap (λ (us : List ℕ). done ++ us) (sym f.split)
          ∙ h.whole;
      told = f.told;
    }

pub no_values-left : (a : List Bool) (columns : List VarValueAndBoundLits) (done values : List ℕ) → columns ≡ [] → ValuesLeft a columns done values → done ≡ values
no_values-left a columns done values none h =
    let in_range : in_ranges h.rest [] ≡ true = ap (λ (cs : List VarValueAndBoundLits). in_ranges h.rest (ranges_of_copy_lits cs)) (sym none) ∙ h.told.0 in
    sym (append-nil done) ∙ ap (λ (us : List ℕ). done ++ us) (sym (ends h.rest in_range)) ∙ h.whole
  where
    ends : (ws : List ℕ) → in_ranges ws [] ≡ true → ws ≡ []
    ends [] k = refl
    ends (w ∷ ws) k = absurd cc

dropped : {X : Type 0} (xs : List X) (j : ℕ) (x : X) (rest : List X) → drop j xs ≡ x ∷ rest → slice_get xs j ≡ Some x
dropped [] zero x rest e = absurd cc
dropped [] (suc j) x rest e = absurd cc
dropped (y ∷ xs) zero x rest e = (let same : y ≡ x = cc in ap Some same)
dropped (y ∷ xs) (suc j) x rest e = dropped xs j x rest e

pub few-values : (columns : List VarValueAndBoundLits) (i : ℕ) (column : VarValueAndBoundLits) (rest : List VarValueAndBoundLits) →
    list_all (λ range. nat_lt range 256) (ranges_of_copy_lits columns) ≡ true → drop i columns ≡ column ∷ rest → length column.values ≤ 255
few-values columns i column rest h split =
    let each = sym (list_all-map (λ (range : ℕ). nat_lt range 256) (λ (c : VarValueAndBoundLits). length c.values) columns) ∙ h in
    let less = ltb-true (length column.values) 256 (list_all-slice_get (λ (c : VarValueAndBoundLits). nat_lt (length c.values) 256) columns i column each (dropped columns i column rest split)) in
    omega arith

pub record RulesLeft (a : List Bool) (choices : List Choice) (done rules : List ℕ) : Type 0 where
  pub rest : List ℕ
  pub whole : done ++ rest ≡ rules
  pub chosen : StepsChooseTheseRules a choices rest

pub record Head (a : List Bool) (choice : Choice) (others : List Choice) (rules : List ℕ) : Type 0 where
  pub rule : ℕ
  pub rest : List ℕ
  pub split : rules ≡ rule ∷ rest
  pub chosen : Chooses a choice.first choice.rules rule
  pub others_chosen : StepsChooseTheseRules a others rest

head-parts : (a : List Bool) (choice : Choice) (others : List Choice) (rules : List ℕ) → StepsChooseTheseRules a (choice ∷ others) rules → Head a choice others rules
head-parts a choice others [] h = absurd h
head-parts a choice others (rule ∷ rules) h = record { rule = rule; rest = rules; split = refl; chosen = h.0; others_chosen = h.1 }

pub head : (a : List Bool) (choice : Choice) (all others : List Choice) (rules : List ℕ) → all ≡ choice ∷ others → StepsChooseTheseRules a all rules → Head a choice others rules
head a choice all others rules split h = head-parts a choice others rules (subst (λ (cs : List Choice). StepsChooseTheseRules a cs rules) split h)

pub rules-next :
    (a : List Bool) (choice : Choice) (all others : List Choice) (r : ℕ) (done longer rules : List ℕ) →
    all ≡ choice ∷ others → ((s : ℕ) → Chooses a choice.first choice.rules s → s ≡ r) →
    longer ≡ done ++ r ∷ [] → RulesLeft a all done rules → RulesLeft a others longer rules
rules-next a choice all others r done longer rules split only pushed h =
    let k = head a choice all others h.rest split h.chosen in
    record {
      rest = k.rest;
      whole =
          ap (λ (us : List ℕ). us ++ k.rest) pushed
          ∙ append_assoc done (r ∷ []) k.rest
          ∙ ap (λ (u : ℕ). done ++ u ∷ k.rest) (sym (only k.rule k.chosen))
          ∙ ap (λ (us : List ℕ). done ++ us) (sym k.split)
          ∙ h.whole;
      chosen = k.others_chosen;
    }

pub no_rules-left : (a : List Bool) (choices : List Choice) (done rules : List ℕ) → choices ≡ [] → RulesLeft a choices done rules → done ≡ rules
no_rules-left a choices done rules none h =
    let end : h.rest ≡ [] = subst (λ (cs : List Choice). StepsChooseTheseRules a cs h.rest) none h.chosen in
    sym (append-nil done) ∙ ap (λ (us : List ℕ). done ++ us) (sym end) ∙ h.whole

numbered-at : (n : ℕ) (choices : List Choice) (i : ℕ) (choice : Choice) → choices_begin_at_or_before n choices ≡ true → slice_get choices i ≡ Some choice → choice.first ≤ n + 1
numbered-at n choices i choice h at = leb-true choice.first (n + 1) (list_all-slice_get (λ (k : Choice). nat_le k.first (n + 1)) choices i choice h at)

pub bytes-from : (xs : List ℕ) → ((k : ℕ) → k < length xs → get_or xs k 0 < 256) → list_all (λ x. ltb x 256) xs ≡ true
bytes-from [] h = refl
bytes-from (x ∷ xs) h = and_from _ _ (lt-ltb x 256 (h 0 (omega arith))) (bytes-from xs (λ k less. h (suc k) (omega arith)))

pub numbered-first : (n : ℕ) (choices : List Choice) (i : ℕ) (choice : Choice) (rest : List Choice) → choices_begin_at_or_before n choices ≡ true → drop i choices ≡ choice ∷ rest → choice.first ≤ n + 1
numbered-first n choices i choice rest h split = numbered-at n choices i choice h (dropped choices i choice rest split)

pub ranges_fit-bytes : (ranges bytes : List ℕ) → bytes ≡ ranges → list_all (λ x. ltb x 256) bytes ≡ true → ranges_fit ranges ≡ true
ranges_fit-bytes ranges bytes same h = ranges_fit-small ranges (ap (list_all (λ (x : ℕ). ltb x 256)) (sym same) ∙ h)
