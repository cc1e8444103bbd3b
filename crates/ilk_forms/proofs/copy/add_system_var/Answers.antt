use Rattle.std.proofs.Common.{◌∙◌, ◌+◌, List, ap, arith}
use Rattle.ilk_cnf.specs.Literal.{Literal}
use Rattle.ilk_cnf.specs.Formula.{Formula, is_clause_over, with_var_count}
use Rattle.ilk_cnf.specs.Part.{with_part}
use Rattle.ilk_cnf.proofs.Gates.{with_part-and_then}
use Rattle.ilk_ints.specs.Number.{number_part}
use Rattle.ilk_ints.specs.Named.{value_lits_part, bound_lits_part}
use Rattle.ilk_ints.proofs.ValuesLaw.{value_lits_part-low}
use Rattle.ilk_ints.proofs.TableParts.{value_lits_part-lits_in, length-value_lits_part, named-end}
use Rattle.ilk_forms.specs.Copy.{var_lits_part}
use Rattle.ilk_forms.proofs.CopyWidth.{system_var-end}
use Rattle.ilk_forms.proofs.CopyMade.{number_there}
use Rattle.ilk_forms.proofs.copy.add_system_var.Goals as goal

pub overflow_add-n : goal.overflow_add-n
overflow_add-n c = omega (arith, c.vars.ensures.count, c.vars.ensures.numbered, system_var-end c.args.range c.args.used.now, c.requires.there)

pub add_number_clauses-requires-clause-within : goal.add_number_clauses-requires-clause-within
add_number_clauses-requires-clause-within c = omega (arith, system_var-end c.args.range c.args.used.now, c.requires.there)

pub overflow_add-used : goal.overflow_add-used
overflow_add-used c = omega (arith, c.vars.ensures.count, c.vars.ensures.numbered, c.bit_count.ensures.count, system_var-end c.args.range c.args.used.now, c.requires.there)

pub add_value_lits-requires-clause-there : goal.add_value_lits-requires-clause-there
add_value_lits-requires-clause-there c =
    let vars = ap (λ (f : Formula). f.vars) c.in_ok-add_number_clauses.ensures in
    omega (arith, vars, c.bit_count.ensures.count, system_var-end c.args.range c.args.used.now, c.requires.there)

pub add_bound_lits-requires-clause-within : goal.add_bound_lits-requires-clause-within
add_bound_lits-requires-clause-within c =
    let vars = ap (λ (f : Formula). f.vars) c.in_ok-values.ensures.made in
    let grows = value_lits_part-low (c.args.used.now + 1) c.args.range (c.args.used.now + c.bit_count.result) in
    omega (arith, vars, grows, c.bit_count.ensures.count)

pub add_bound_lits-requires-clause-all : goal.add_bound_lits-requires-clause-all
add_bound_lits-requires-clause-all c =
    let lits = c.as_slice.ensures ∙ c.in_ok-values.ensures.lits in
    rw lits (length-value_lits_part (c.args.used.now + 1) c.args.range (c.args.used.now + c.bit_count.result))

pub add_bound_lits-requires-clause-lits : goal.add_bound_lits-requires-clause-lits
add_bound_lits-requires-clause-lits c =
    let first = c.args.used.now + 1 in
    let used = c.args.used.now + c.bit_count.result in
    let lits = c.as_slice.ensures ∙ c.in_ok-values.ensures.lits in
    ap (λ (ls : List Literal). is_clause_over c.add_value_lits.new.used ls) lits
    ∙ ap (λ (f : Formula). is_clause_over f.vars (value_lits_part first c.args.range used).lits) c.in_ok-values.ensures.made
    ∙ value_lits_part-lits_in first c.args.range used (omega arith) (omega (arith, c.bit_count.ensures.count))

pub add_bound_lits-requires-clause-there : goal.add_bound_lits-requires-clause-there
add_bound_lits-requires-clause-there c =
    let first = c.args.used.now + 1 in
    let range = c.args.range in
    let used = c.args.used.now + c.bit_count.result in
    let v = value_lits_part first range used in
    let lits = c.as_slice.ensures ∙ c.in_ok-values.ensures.lits in
    let same = ap (λ (ls : List Literal). (bound_lits_part first range ls c.add_value_lits.new.used).part.vars) lits ∙ ap (λ (k : Formula). (bound_lits_part first range v.lits k.vars).part.vars) c.in_ok-values.ensures.made in
    let vars = ap (λ (f : Formula). f.vars) c.in_ok-add_number_clauses.ensures in
    omega (arith, same, vars, named-end first range used, c.bit_count.ensures.count, system_var-end range c.args.used.now, c.in_ok-values.ensures.vars, c.requires.there)

pub returns-clause-made : goal.returns-clause-made
returns-clause-made c =
    let first = c.args.used.now + 1 in
    let range = c.args.range in
    let f = with_var_count c.args.cnf.now c.args.used.now in
    let h = with_var_count c.add_number_clauses.new.cnf (c.args.used.now + c.bit_count.result) in
    let g = with_var_count c.add_value_lits.new.cnf c.add_value_lits.new.used in
    let v = value_lits_part first range h.vars in
    let lits = c.as_slice.ensures ∙ c.in_ok-values.ensures.lits in
    let bits = number_there c.args.cnf.now c.add_number_clauses.new.cnf c.args.used.now range c.bit_count.result c.bit_count.ensures.count c.in_ok-add_number_clauses.ensures in
    c.in_ok-bounds.ensures.made
    ∙ ap (λ (ls : List Literal). with_part g (bound_lits_part first range ls g.vars).part) lits
    ∙ ap (λ (k : Formula). with_part k (bound_lits_part first range v.lits k.vars).part) c.in_ok-values.ensures.made
    ∙ with_part-and_then h v.part (λ m. (bound_lits_part first range v.lits m).part)
    ∙ ap (λ (k : Formula). with_part k (var_lits_part first range k.vars).part) bits
    ∙ with_part-and_then f (number_part range f.vars) (λ m. (var_lits_part first range m).part)
