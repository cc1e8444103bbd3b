-- The formula and the table of literals that the loops of a copy make.
use Rattle.std.proofs.Common.{◌≡◌, ℕ, ◌+◌, ◌<◌, ◌≤◌, suc, true, false, List, [], ◌∷◌, ◌++◌, length, get_or, set, take, drop, refl, sym, ap, ◌∙◌, arith, eqb, append_assoc}
use Rattle.std.proofs.lemmas.List.{drop_more, take_more, take_more_set, drop-set-lt, length-set}
use Rattle.std.proofs.lemmas.Bool.{eq-eqb, ne_eqb}
use Rattle.ilk_cnf.specs.Literal.{Literal}
use Rattle.ilk_cnf.specs.Formula.{Formula, with_var_count_and_clauses, with_var_count}
use Rattle.ilk_cnf.specs.Part.{with_part, clauses_from_lists}
use Rattle.ilk_cnf.proofs.Gates.{with_part-and_then}
use Rattle.ilk_ints.specs.Bits.{bit_count}
use Rattle.ilk_ints.specs.Number.{number_part, non_value_clauses}
use Rattle.ilk_forms.specs.declared.copy.VarValueAndBoundLits.{VarValueAndBoundLits}
use Rattle.ilk_forms.specs.declared.copy.TheConstants.{MAX_RANGES}
use Rattle.ilk_forms.specs.Copy.{FormulaPartAndAllVarLits, prepend_var, system_var_part, range_class_part, range_classes_below_part, no_lits_for_each_var, copy_part}
use Rattle.ilk_forms.proofs.ColumnLaw.{class-low, below-low}

pub number_there : (f g : Formula) (used range count : ℕ) → count ≡ bit_count range → g ≡ with_var_count_and_clauses f f.vars (clauses_from_lists (non_value_clauses (used + 1) range)) →
    with_var_count g (used + count) ≡ with_part (with_var_count f used) (number_part range used)
number_there f g used range count counted made =
    ap (λ (k : Formula). with_var_count k (used + count)) made
    ∙ ap (λ (k : ℕ). with_var_count (with_var_count_and_clauses f f.vars (clauses_from_lists (non_value_clauses (used + 1) range))) (used + k)) counted

abbrev no_lits : VarValueAndBoundLits
no_lits = record { values = []; bounds = [] }

pub none_pushed : (ranges : List ℕ) (i : ℕ) (table next whole : List VarValueAndBoundLits) (values bounds : List Literal) → i < length ranges → values ≡ [] → bounds ≡ [] →
    next ≡ table ++ (record { values = values; bounds = bounds }) ∷ [] → table ++ no_lits_for_each_var (drop i ranges) ≡ whole → next ++ no_lits_for_each_var (drop (i + 1) ranges) ≡ whole
none_pushed ranges i table next whole values bounds less none empty pushed h =
    let rest = no_lits_for_each_var (drop (i + 1) ranges) in
    ap (λ (us : List VarValueAndBoundLits). us ++ rest) pushed
    ∙ append_assoc table ((record { values = values; bounds = bounds }) ∷ []) rest
    ∙ ap (λ (ls : List Literal). table ++ (record { values = ls; bounds = bounds }) ∷ rest) none
    ∙ ap (λ (ls : List Literal). table ++ (record { values = []; bounds = ls }) ∷ rest) empty
    ∙ ap (λ (rs : List ℕ). table ++ no_lits_for_each_var rs) (sym (drop_more ranges i 0 less))
    ∙ h

abbrev passed : ℕ → List ℕ → VarValueAndBoundLits → List VarValueAndBoundLits → ℕ → FormulaPartAndAllVarLits
passed r ranges column columns n = record { part = (range_class_part r ranges columns n).part; columns = column ∷ (range_class_part r ranges columns n).columns }

class-split : (r v n : ℕ) (ranges : List ℕ) (table : List VarValueAndBoundLits) → v < length ranges → length table ≡ length ranges →
    range_class_part r (drop v ranges) (drop v table) n ≡ range_class_part r (get_or ranges v 0 ∷ drop (v + 1) ranges) (get_or table v no_lits ∷ drop (v + 1) table) n
class-split r v n ranges table less many =
    ap (λ (rs : List ℕ). range_class_part r rs (drop v table) n) (drop_more ranges v 0 less)
    ∙ ap (λ (cs : List VarValueAndBoundLits). range_class_part r (get_or ranges v 0 ∷ drop (v + 1) ranges) cs n) (drop_more table v no_lits (omega arith))

class-at : (r v n : ℕ) (ranges : List ℕ) (table : List VarValueAndBoundLits) → v < length ranges → length table ≡ length ranges → get_or ranges v 0 ≡ r →
    range_class_part r (drop v ranges) (drop v table) n ≡ prepend_var (system_var_part r n) (range_class_part r (drop (v + 1) ranges) (drop (v + 1) table))
class-at r v n ranges table less many is =
    class-split r v n ranges table less many
    ∙ taken (eq-eqb (get_or ranges v 0) r is)
    ∙ ap (λ (k : ℕ). prepend_var (system_var_part k n) (range_class_part r (drop (v + 1) ranges) (drop (v + 1) table))) is
  where
    taken : eqb (get_or ranges v 0) r ≡ true →
        range_class_part r (get_or ranges v 0 ∷ drop (v + 1) ranges) (get_or table v no_lits ∷ drop (v + 1) table) n ≡ prepend_var (system_var_part (get_or ranges v 0) n) (range_class_part r (drop (v + 1) ranges) (drop (v + 1) table))
    taken h = rw h refl

class-past : (r v n : ℕ) (ranges : List ℕ) (table : List VarValueAndBoundLits) → v < length ranges → length table ≡ length ranges → (get_or ranges v 0 ≡ r → ⊥) →
    range_class_part r (drop v ranges) (drop v table) n ≡ passed r (drop (v + 1) ranges) (get_or table v no_lits) (drop (v + 1) table) n
class-past r v n ranges table less many other = class-split r v n ranges table less many ∙ skipped (ne_eqb (get_or ranges v 0) r other)
  where
    skipped : eqb (get_or ranges v 0) r ≡ false → range_class_part r (get_or ranges v 0 ∷ drop (v + 1) ranges) (get_or table v no_lits ∷ drop (v + 1) table) n ≡ passed r (drop (v + 1) ranges) (get_or table v no_lits) (drop (v + 1) table) n
    skipped h = rw h refl

pub var_there : (r v n m : ℕ) (ranges : List ℕ) (table : List VarValueAndBoundLits) → v < length ranges → length table ≡ length ranges → get_or ranges v 0 ≡ r →
    (range_class_part r (drop v ranges) (drop v table) n).part.vars ≤ m → (system_var_part r n).part.vars ≤ m
var_there r v n m ranges table less many is high =
    let same = ap (λ (p : FormulaPartAndAllVarLits). p.part.vars) (class-at r v n ranges table less many is) in
    omega (arith, same, class-low r (drop (v + 1) ranges) (drop (v + 1) table) (system_var_part r n).part.vars, high)

-- Holds if the loop, at variable `v`, will make the table `whole` and the formula `end`.
pub record Makes (r v : ℕ) (ranges : List ℕ) (table : List VarValueAndBoundLits) (f : Formula) (whole : List VarValueAndBoundLits) (end : Formula) : Type 0 where
  pub many : length table ≡ length ranges
  pub seen : take v table ++ (range_class_part r (drop v ranges) (drop v table) f.vars).columns ≡ whole
  pub made : with_part f (range_class_part r (drop v ranges) (drop v table) f.vars).part ≡ end

pub class_taken : (r v : ℕ) (ranges : List ℕ) (table next whole : List VarValueAndBoundLits) (column : VarValueAndBoundLits) (f g end : Formula) → v < length ranges → get_or ranges v 0 ≡ r → next ≡ set table v column →
    column ≡ (system_var_part r f.vars).column → g ≡ with_part f (system_var_part r f.vars).part → Makes r v ranges table f whole end → Makes r (v + 1) ranges next g whole end
class_taken r v ranges table next whole column f g end less is written seen made h =
    let rest = range_class_part r (drop (v + 1) ranges) (drop (v + 1) table) in
    let at = class-at r v f.vars ranges table less h.many is in
    let one = system_var_part r f.vars in
    let after : drop (v + 1) next ≡ drop (v + 1) table = ap (drop (v + 1)) written ∙ drop-set-lt (v + 1) table v column (omega arith) in
    let begun : take (v + 1) next ≡ take v table ++ column ∷ [] = ap (take (v + 1)) written ∙ take_more_set table v column (omega (arith, h.many)) in
    let same : g.vars ≡ one.part.vars = ap (λ (k : Formula). k.vars) made in
    record {
      many = ap length written ∙ length-set table v column ∙ h.many;
      seen =
          ap (λ (us : List VarValueAndBoundLits). us ++ (range_class_part r (drop (v + 1) ranges) (drop (v + 1) next) g.vars).columns) begun
          ∙ ap (λ (us : List VarValueAndBoundLits). (take v table ++ column ∷ []) ++ (range_class_part r (drop (v + 1) ranges) us g.vars).columns) after
          ∙ append_assoc (take v table) (column ∷ []) (rest g.vars).columns
          ∙ ap (λ (u : VarValueAndBoundLits). take v table ++ u ∷ (rest g.vars).columns) seen
          ∙ ap (λ (k : ℕ). take v table ++ one.column ∷ (rest k).columns) same
          ∙ ap (λ (p : FormulaPartAndAllVarLits). take v table ++ p.columns) (sym at)
          ∙ h.seen;
      made =
          ap (λ (us : List VarValueAndBoundLits). with_part g (range_class_part r (drop (v + 1) ranges) us g.vars).part) after
          ∙ ap (λ (k : Formula). with_part k (rest k.vars).part) made
          ∙ with_part-and_then f one.part (λ m. (rest m).part)
          ∙ ap (λ (p : FormulaPartAndAllVarLits). with_part f p.part) (sym at)
          ∙ h.made;
    }

pub class_passed : (r v : ℕ) (ranges : List ℕ) (table whole : List VarValueAndBoundLits) (f end : Formula) → v < length ranges → (get_or ranges v 0 ≡ r → ⊥) → Makes r v ranges table f whole end → Makes r (v + 1) ranges table f whole end
class_passed r v ranges table whole f end less other h =
    let rest = range_class_part r (drop (v + 1) ranges) (drop (v + 1) table) f.vars in
    let at = class-past r v f.vars ranges table less h.many other in
    record {
      many = h.many;
      seen =
          ap (λ (us : List VarValueAndBoundLits). us ++ rest.columns) (take_more table v no_lits (omega (arith, h.many)))
          ∙ append_assoc (take v table) (get_or table v no_lits ∷ []) rest.columns
          ∙ ap (λ (p : FormulaPartAndAllVarLits). take v table ++ p.columns) (sym at)
          ∙ h.seen;
      made = ap (λ (p : FormulaPartAndAllVarLits). with_part f p.part) (sym at) ∙ h.made;
    }

pub class_there : (j r n m : ℕ) (ranges : List ℕ) (table : List VarValueAndBoundLits) → j ≡ suc r → (range_classes_below_part j ranges table n).part.vars ≤ m → (range_class_part r ranges table n).part.vars ≤ m
class_there j r n m ranges table left high =
    let p = range_class_part r ranges table n in
    let same : (range_classes_below_part j ranges table n).part.vars ≡ (range_classes_below_part r ranges p.columns p.part.vars).part.vars = ap (λ (k : ℕ). (range_classes_below_part k ranges table n).part.vars) left in
    omega (arith, same, below-low r ranges p.columns p.part.vars, high)

pub below_step : (j r s : ℕ) (ranges : List ℕ) (table next : List VarValueAndBoundLits) (f g : Formula) → j ≡ suc r → s ≡ r →
    next ≡ (range_class_part r ranges table f.vars).columns → g ≡ with_part f (range_class_part r ranges table f.vars).part →
    ((range_classes_below_part s ranges next g.vars).columns ≡ (range_classes_below_part j ranges table f.vars).columns) ×
    (with_part g (range_classes_below_part s ranges next g.vars).part ≡ with_part f (range_classes_below_part j ranges table f.vars).part)
below_step j r s ranges table next f g left same seen made =
    let p = range_class_part r ranges table f.vars in
    rw (left, same) (
      ap (λ (us : List VarValueAndBoundLits). (range_classes_below_part r ranges us g.vars).columns) seen ∙ ap (λ (k : Formula). (range_classes_below_part r ranges p.columns k.vars).columns) made,
      ap (λ (us : List VarValueAndBoundLits). with_part g (range_classes_below_part r ranges us g.vars).part) seen
          ∙ ap (λ (k : Formula). with_part k (range_classes_below_part r ranges p.columns k.vars).part) made
          ∙ with_part-and_then f p.part (λ m. (range_classes_below_part r ranges p.columns m).part),
    )

pub copy-begins : (k : ℕ) (ranges : List ℕ) (table : List VarValueAndBoundLits) (n : ℕ) → 256 ≡ k → table ≡ no_lits_for_each_var ranges → range_classes_below_part k ranges table n ≡ copy_part ranges n
unfolding copy_part
copy-begins k ranges table n is none =
    ap (λ (j : ℕ). range_classes_below_part j ranges table n) (sym is)
    ∙ ap (λ (us : List VarValueAndBoundLits). range_classes_below_part MAX_RANGES ranges us n) none
