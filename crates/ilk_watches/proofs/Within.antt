use Rattle.std.proofs.Common.{◌≡◌, ℕ, ◌<◌, true, List, [], length, Some}
use Rattle.std.specs.List.{slice_get}
use Rattle.std.proofs.lemmas.Option.{slice_get-get_or}
use Rattle.ilk_base.proofs.Tested.{list_all-slice_get}
use Rattle.ilk_cnf.specs.Literal.{Literal}
use Rattle.ilk_cnf.specs.Formula.{Formula, IsFormula, is_clause_over, is_lit_over}
use Rattle.ilk_watches.specs.Reasons.{nth_clause_or_empty}

pub clause-there : (cs : List (List Literal)) (c : ℕ) → c < length cs → slice_get cs c ≡ Some (nth_clause_or_empty cs c)
clause-there cs c h = slice_get-get_or cs c [] h

pub clause-in : (f : Formula) (c : ℕ) → IsFormula f → c < length f.clauses → is_clause_over f.vars (nth_clause_or_empty f.clauses c) ≡ true
clause-in f c k h = list_all-slice_get (is_clause_over f.vars) f.clauses c (nth_clause_or_empty f.clauses c) k.within (clause-there f.clauses c h)

pub literal-in : (f : Formula) (c i : ℕ) (l : Literal) → IsFormula f → c < length f.clauses → slice_get (nth_clause_or_empty f.clauses c) i ≡ Some l → is_lit_over f.vars l ≡ true
literal-in f c i l k h e = list_all-slice_get (is_lit_over f.vars) (nth_clause_or_empty f.clauses c) i l (clause-in f c k h) e
