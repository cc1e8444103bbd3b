-- Copies have exactly one assignment for each list of value lists in range, and their literals say
-- these values.
use Rattle.std.proofs.Common.{◌≡◌, ℕ, ◌+◌, ◌*◌, ◌<◌, ◌≤◌, zero, suc, Bool, true, List, [], ◌∷◌, ◌++◌, length, get_or, slice_get, Some, refl, sym, ap, ◌∙◌, subst, arith, append_assoc}
use Rattle.std.specs.List.{list_all}
use Rattle.std.specs.Prelude.{sum}
use Rattle.std.proofs.lemmas.List.{append-nil}
use Rattle.std.proofs.lemmas.List.Folds.{list_all-append}
use Rattle.std.proofs.lemmas.Bool.{and_from, and_parts}
use Rattle.std.proofs.Math.Bool.{and_comm}
use Rattle.std.proofs.Math.Nat.{suc-mul}
use Rattle.std.proofs.lemmas.Option.{same_Some}
use Rattle.ilk_base.proofs.Tested.{list_all-slice_get}
use Rattle.ilk_cnf.specs.Literal.{Literal}
use Rattle.ilk_cnf.specs.Formula.{Formula, with_var_count_and_clauses, is_clause_over, are_clauses_over}
use Rattle.ilk_cnf.specs.Truth.{is_clause_true, satisfies}
use Rattle.ilk_cnf.specs.Extends.{ExtensionsAreExactly, EqualsGivenValues, AreValuesOfConsecutiveParts}
use Rattle.ilk_cnf.specs.Part.{FormulaPart, clauses_from_lists}
use Rattle.ilk_cnf.proofs.Literals.{are_clauses_over-more}
use Rattle.ilk_cnf.proofs.Parts.{in_turn, in_words}
use Rattle.ilk_cnf.proofs.Extending.{no_more_if, only_from_if}
use Rattle.ilk_cnf.proofs.Gates.{grown_more}
use Rattle.ilk_ir.specs.System.{in_ranges}
use Rattle.ilk_ir.specs.Tree.{Tree, tree_valid}
use Rattle.ilk_forms.specs.declared.copy.VarValueAndBoundLits.{VarValueAndBoundLits}
use Rattle.ilk_forms.specs.Copy.{copy_part, copy_var_count, copy_bits, AreCopyBits, LiteralsEncode}
use Rattle.ilk_forms.proofs.ColumnLaw.{ranges_fit, copy-low, copy-in}
use Rattle.ilk_forms.proofs.CopyLaw.{copy-law}
use Rattle.ilk_forms.proofs.CopyFew.{copy-few}
use Rattle.ilk_forms.proofs.CopyWidth.{copy-end}
use Rattle.ilk_forms.proofs.CopySays.{copy-say}
use Rattle.ilk_forms.specs.Leaf.{has_lits_within_vars, ranges_of_copy_lits}
use Rattle.ilk_forms.proofs.Reading.{has_lits_within_vars-more}
use Rattle.ilk_forms.proofs.CopyTable.{copy-lits_in, copy-ranges}
use Rattle.ilk_step.proofs.StepLaw.{says-left}
use Rattle.ilk_unroll.specs.Query.{copies_part}
use Rattle.ilk_unroll.specs.Assignment.{copies_bits}
use Rattle.ilk_unroll.specs.Tables.{are_copies_within_vars, is_valid_in_each, EachCopyHasTheseRanges}

pub copies-low : (count : ℕ) (ranges : List ℕ) (n : ℕ) → n ≤ (copies_part ranges count n).part.vars
copies-low zero ranges n = omega arith
copies-low (suc count) ranges n =
    let later = copies-low count ranges n in
    let one = copy-low ranges (copies_part ranges count n).part.vars in
    omega arith

pub copies-in : (count : ℕ) (ranges : List ℕ) (n : ℕ) → ranges_fit ranges ≡ true → are_clauses_over (copies_part ranges count n).part.vars (copies_part ranges count n).part.clauses ≡ true
copies-in zero ranges n fit = refl
copies-in (suc count) ranges n fit =
    let later = (copies_part ranges count n).part in
    let p = (copy_part ranges later.vars).part in
    list_all-append (is_clause_over p.vars) p.clauses later.clauses ∙ and_from _ _ (copy-in ranges later.vars fit) (are_clauses_over-more later.vars p.vars later.clauses (copy-low ranges later.vars) (copies-in count ranges n fit))

pub are_copies_within_vars-more : (m n : ℕ) (tables : List (List VarValueAndBoundLits)) → m ≤ n → are_copies_within_vars m tables ≡ true → are_copies_within_vars n tables ≡ true
are_copies_within_vars-more m n [] le h = refl
are_copies_within_vars-more m n (table ∷ tables) le h =
    let parts = and_parts (has_lits_within_vars m table) (are_copies_within_vars m tables) h in
    and_from _ _ (has_lits_within_vars-more m n table le parts.0) (are_copies_within_vars-more m n tables le parts.1)

pub copies-are_copies_within_vars : (count : ℕ) (ranges : List ℕ) (n : ℕ) → ranges_fit ranges ≡ true → are_copies_within_vars (copies_part ranges count n).part.vars (copies_part ranges count n).tables ≡ true
copies-are_copies_within_vars zero ranges n fit = refl
copies-are_copies_within_vars (suc count) ranges n fit =
    let later = copies_part ranges count n in
    let m = later.part.vars in
    and_from _ _ (copy-lits_in ranges m fit) (are_copies_within_vars-more m (copy_part ranges m).part.vars later.tables (copy-low ranges m) (copies-are_copies_within_vars count ranges n fit))

pub copies-ranges : (count : ℕ) (ranges : List ℕ) (n : ℕ) → ranges_fit ranges ≡ true → EachCopyHasTheseRanges ranges (copies_part ranges count n).tables
copies-ranges zero ranges n fit = tt
copies-ranges (suc count) ranges n fit = (copy-ranges ranges (copies_part ranges count n).part.vars fit, copies-ranges count ranges n fit)

pub copies-many : (count : ℕ) (ranges : List ℕ) (n : ℕ) → length (copies_part ranges count n).tables ≡ count
copies-many zero ranges n = refl
copies-many (suc count) ranges n = ap suc (copies-many count ranges n)

pub is_valid_in_each-from : (ranges : List ℕ) (tables : List (List VarValueAndBoundLits)) (t : Tree) → EachCopyHasTheseRanges ranges tables → tree_valid ranges t ≡ true → is_valid_in_each tables t ≡ true
is_valid_in_each-from ranges [] t h k = refl
is_valid_in_each-from ranges (table ∷ tables) t h k = and_from _ _ (ap (λ (rs : List ℕ). tree_valid rs t) h.0 ∙ k) (is_valid_in_each-from ranges tables t h.1 k)

abbrev pub all_in_ranges : List ℕ → List (List ℕ) → Bool
all_in_ranges ranges run = list_all (λ values. in_ranges values ranges) run

abbrev pub AreCopies : ℕ → List ℕ → List Bool → Type 0
AreCopies count ranges b = (run : List (List ℕ)) × (length run ≡ count) × (all_in_ranges ranges run ≡ true) × (b ≡ copies_bits ranges run)

satisfies-order : (a : List Bool) (cs ds : List (List Literal)) → satisfies a (cs ++ ds) ≡ satisfies a (ds ++ cs)
satisfies-order a cs ds = list_all-append (is_clause_true a) cs ds ∙ and_comm (satisfies a cs) (satisfies a ds) ∙ sym (list_all-append (is_clause_true a) ds cs)

in_order : (a : List Bool) (m : ℕ) (cs ds : List (List Literal)) (E : List Bool → Type 0) → ExtensionsAreExactly a m (cs ++ ds) E → ExtensionsAreExactly a m (ds ++ cs) E
in_order a m cs ds E h = record {
  sized = h.sized;
  all_satisfy = λ b e. satisfies-order (a ++ b) ds cs ∙ h.all_satisfy b e;
  only = λ b long met. h.only b long (satisfies-order (a ++ b) cs ds ∙ met);
}

pub copies-law : (count : ℕ) (ranges : List ℕ) (a : List Bool) (n : ℕ) → length a ≡ n → ranges_fit ranges ≡ true → ExtensionsAreExactly a (copies_part ranges count n).part.vars (copies_part ranges count n).part.clauses (AreCopies count ranges)
copies-law zero ranges a n size fit = in_words a n [] (EqualsGivenValues []) (AreCopies zero ranges) (λ b h. ([], refl, refl, h)) (λ b h. none b h.0 h.1 h.3) (only_from_if a n [] [] (no_more_if a n [] true size refl))
  where
    none : (b : List Bool) (run : List (List ℕ)) → length run ≡ zero → b ≡ copies_bits ranges run → b ≡ []
    none b [] h e = e
    none b (values ∷ run) h e = absurd (omega arith)
copies-law (suc count) ranges a n size fit =
    let first = copies-law count ranges a n size fit in
    in_words a (copies_part ranges (suc count) n).part.vars (copies_part ranges (suc count) n).part.clauses _
    (AreCopies (suc count) ranges) to (λ b h. split b h.0 h.1 h.2 h.3)
    (in_order a one.vars later.clauses one.clauses _
    (in_turn a later.vars one.vars later.clauses one.clauses (AreCopies count ranges)
    (λ b _. AreCopyBits ranges) (omega (arith, size, copies-low count ranges n))
    (copy-low ranges later.vars) (copies-in count ranges n fit) first
    (λ b h. copy-law ranges (a ++ b) later.vars (first.sized b h) fit)))
  where
    later : FormulaPart
    later = (copies_part ranges count n).part

    one : FormulaPart
    one = (copy_part ranges later.vars).part

    to : (b : List Bool) → AreValuesOfConsecutiveParts (AreCopies count ranges) (λ b _. AreCopyBits ranges) b → AreCopies (suc count) ranges b
    to b h =
        (h.4.0 ∷ h.3.0, ap suc h.3.1, and_from _ _ h.4.1 h.3.2, h.2 ∙ ap (λ (u : List Bool). u ++ h.1) h.3.3 ∙ ap (λ (u : List Bool). copies_bits ranges h.3.0 ++ u) h.4.2)

    split : (b : List Bool) (run : List (List ℕ)) → length run ≡ suc count → all_in_ranges ranges run ≡ true → b ≡ copies_bits ranges run → AreValuesOfConsecutiveParts (AreCopies count ranges) (λ b _. AreCopyBits ranges) b
    split b [] l r e = absurd (omega arith)
    split b (values ∷ run) l r e =
        let parts = and_parts (in_ranges values ranges) (all_in_ranges ranges run) r in
        (copies_bits ranges run, copy_bits ranges values, e, (run, (omega arith), parts.1, refl), (values, parts.0, refl))

-- Holds if the literals of a copy say its values, in a formula of `n` variables.
pub record TableSays (a : List Bool) (n : ℕ) (ranges : List ℕ) (table : List VarValueAndBoundLits) (values : List ℕ) : Type 0 where
  pub within : has_lits_within_vars n table ≡ true
  pub has_ranges : ranges_of_copy_lits table ≡ ranges
  pub says : LiteralsEncode a table ranges values
  pub in_range : in_ranges values ranges ≡ true

abbrev pub TablesSay : List Bool → ℕ → List ℕ → List (List VarValueAndBoundLits) → List (List ℕ) → Type 0
TablesSay a n ranges [] [] = Unit {0}
TablesSay a n ranges [] (values ∷ run) = ⊥
TablesSay a n ranges (table ∷ tables) [] = ⊥
TablesSay a n ranges (table ∷ tables) (values ∷ run) = TableSays a n ranges table values × TablesSay a n ranges tables run

pub table_says-more : (a e : List Bool) (n m : ℕ) (ranges : List ℕ) (table : List VarValueAndBoundLits) (values : List ℕ) → length a ≡ n → n ≤ m → TableSays a n ranges table values → TableSays (a ++ e) m ranges table values
table_says-more a e n m ranges table values size le h = record {
  within = has_lits_within_vars-more n m table le h.within;
  has_ranges = h.has_ranges;
  says = says-left table ranges values a e n size h.within h.says;
  in_range = h.in_range;
}

pub tables_say-more : (tables : List (List VarValueAndBoundLits)) (run : List (List ℕ)) (a e : List Bool) (n m : ℕ) (ranges : List ℕ) → length a ≡ n → n ≤ m → TablesSay a n ranges tables run → TablesSay (a ++ e) m ranges tables run
tables_say-more [] [] a e n m ranges size le h = tt
tables_say-more [] (values ∷ run) a e n m ranges size le h = h
tables_say-more (table ∷ tables) [] a e n m ranges size le h = h
tables_say-more (table ∷ tables) (values ∷ run) a e n m ranges size le h =
    (table_says-more a e n m ranges table values size le h.0, tables_say-more tables run a e n m ranges size le h.1)

pub copies-say : (count : ℕ) (ranges : List ℕ) (run : List (List ℕ)) (a : List Bool) (n : ℕ) → length a ≡ n →
    ranges_fit ranges ≡ true → length run ≡ count → all_in_ranges ranges run ≡ true →
    TablesSay (a ++ copies_bits ranges run) (copies_part ranges count n).part.vars ranges
    (copies_part ranges count n).tables run
copies-say zero ranges [] a n size fit l h = tt
copies-say zero ranges (values ∷ run) a n size fit l h = absurd (omega arith)
copies-say (suc count) ranges [] a n size fit l h = absurd (omega arith)
copies-say (suc count) ranges (values ∷ run) a n size fit l h =
    let parts = and_parts (in_ranges values ranges) (all_in_ranges ranges run) h in
    let later = copies_part ranges count n in
    let m = later.part.vars in
    let p = copy_part ranges m in
    let b = copies_bits ranges run in
    let c = copy_bits ranges values in
    let many : length run ≡ count = omega arith in
    let long : length (a ++ b) ≡ m = (copies-law count ranges a n size fit).sized b (run, many, parts.1, refl) in
    let whole : (a ++ b) ++ c ≡ a ++ (b ++ c) = append_assoc a b c in
    let bare : (a ++ b) ++ (c ++ []) ≡ a ++ (b ++ c) = ap (λ (u : List Bool). (a ++ b) ++ u) (append-nil c) ∙ whole in
    let first : TableSays (a ++ (b ++ c)) p.part.vars ranges p.columns values = record {
      within = copy-lits_in ranges m fit;
      has_ranges = copy-ranges ranges m fit;
      says = subst (λ (u : List Bool). LiteralsEncode u p.columns ranges values) bare (copy-say ranges values (a ++ b) [] m long fit parts.0);
      in_range = parts.0;
    } in
    let rest = tables_say-more later.tables run (a ++ b) c m p.part.vars ranges long (copy-low ranges m) (copies-say count ranges run a n size fit many parts.1) in
    (first, subst (λ (u : List Bool). TablesSay u p.part.vars ranges later.tables run) whole rest)

pub table-at :
    (tables : List (List VarValueAndBoundLits)) (run : List (List ℕ)) (a : List Bool) (n : ℕ) (ranges : List ℕ) (j : ℕ) →
    TablesSay a n ranges tables run → j < length tables →
    TableSays a n ranges (get_or tables j []) (get_or run j []) × (slice_get run j ≡ Some (get_or run j []))
table-at [] run a n ranges j h less = absurd (omega arith)
table-at (table ∷ tables) [] a n ranges j h less = absurd h
table-at (table ∷ tables) (values ∷ run) a n ranges zero h less = (h.0, refl)
table-at (table ∷ tables) (values ∷ run) a n ranges (suc j) h less = table-at tables run a n ranges j h.1 (omega arith)

pub one-more : (i w : ℕ) → (i + 1) * w ≡ i * w + w
one-more i w = (let is : i + 1 ≡ suc i = omega arith in ap (λ (k : ℕ). k * w) is ∙ suc-mul i w)

pub copies-end : (count : ℕ) (ranges : List ℕ) (n : ℕ) → ranges_fit ranges ≡ true → (copies_part ranges count n).part.vars ≡ n + count * copy_var_count ranges
copies-end zero ranges n fit = omega arith
copies-end (suc count) ranges n fit =
    let w = copy_var_count ranges in
    let later = copies-end count ranges n fit in
    let one = copy-end ranges (copies_part ranges count n).part.vars fit in
    let more : suc count * w ≡ count * w + w = suc-mul count w in
    omega (arith, later, one, more)

pub copies-few : (count : ℕ) (ranges : List ℕ) (n : ℕ) → (copies_part ranges count n).part.vars ≤ n + 2 * (count * sum ranges)
copies-few zero ranges n = omega arith
copies-few (suc count) ranges n =
    let later = copies-few count ranges n in
    let one = copy-few ranges (copies_part ranges count n).part.vars in
    let more : suc count * sum ranges ≡ count * sum ranges + sum ranges = suc-mul count (sum ranges) in
    omega (arith, later, one, more)

pub copies-step :
    (f g : Formula) (ranges : List ℕ) (tables whole : List (List VarValueAndBoundLits)) (table : List VarValueAndBoundLits)
    (i rest before : ℕ) → ranges_fit ranges ≡ true → rest ≡ suc i →
    before ≡ i * copy_var_count ranges → tables ++ (copies_part ranges rest 0).tables ≡ whole →
    table ≡ (copy_part ranges before).columns →
    g ≡ with_var_count_and_clauses f f.vars (clauses_from_lists (copy_part ranges before).part.clauses) →
    ((tables ++ table ∷ []) ++ (copies_part ranges i 0).tables ≡ whole) ×
    (with_var_count_and_clauses g g.vars (clauses_from_lists (copies_part ranges i 0).part.clauses)
    ≡ with_var_count_and_clauses f f.vars (clauses_from_lists (copies_part ranges rest 0).part.clauses))
copies-step f g ranges tables whole table i rest before fit left begins seen is made =
    let later = copies_part ranges i 0 in
    let at : before ≡ later.part.vars = omega (arith, begins, copies-end i ranges 0 fit) in
    let one = copy_part ranges later.part.vars in
    let here : g ≡ with_var_count_and_clauses f f.vars (clauses_from_lists one.part.clauses) = made ∙ ap (λ (k : ℕ). with_var_count_and_clauses f f.vars (clauses_from_lists (copy_part ranges k).part.clauses)) at in (
      append_assoc tables (table ∷ []) later.tables
          ∙ ap (λ (t : List VarValueAndBoundLits). tables ++ t ∷ later.tables) (is ∙ ap (λ (k : ℕ). (copy_part ranges k).columns) at)
          ∙ ap (λ (k : ℕ). tables ++ (copies_part ranges k 0).tables) (sym left)
          ∙ seen,
      grown_more f g (with_var_count_and_clauses g g.vars (clauses_from_lists later.part.clauses)) one.part.clauses later.part.clauses here refl
          ∙ ap (λ (k : ℕ). with_var_count_and_clauses f f.vars (clauses_from_lists (copies_part ranges k 0).part.clauses)) (sym left),
    )

pub within-at : (tables : List (List VarValueAndBoundLits)) (n j : ℕ) (table : List VarValueAndBoundLits) → are_copies_within_vars n tables ≡ true → slice_get tables j ≡ Some table → has_lits_within_vars n table ≡ true
within-at tables n j table h at = list_all-slice_get (has_lits_within_vars n) tables j table h at

pub ranges-at : (tables : List (List VarValueAndBoundLits)) (ranges : List ℕ) (j : ℕ) (table : List VarValueAndBoundLits) → EachCopyHasTheseRanges ranges tables → slice_get tables j ≡ Some table → ranges_of_copy_lits table ≡ ranges
ranges-at [] ranges j table h at = absurd cc
ranges-at (t ∷ tables) ranges zero table h at = ap ranges_of_copy_lits (sym (same_Some t table at)) ∙ h.0
ranges-at (t ∷ tables) ranges (suc j) table h at = ranges-at tables ranges j table h.1 at

pub valid-at : (tables : List (List VarValueAndBoundLits)) (t : Tree) (j : ℕ) (table : List VarValueAndBoundLits) → is_valid_in_each tables t ≡ true → slice_get tables j ≡ Some table → tree_valid (ranges_of_copy_lits table) t ≡ true
valid-at tables t j table h at = list_all-slice_get (λ (table : List VarValueAndBoundLits). tree_valid (ranges_of_copy_lits table) t) tables j table h at
