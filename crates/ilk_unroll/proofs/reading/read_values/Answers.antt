use Rattle.std.proofs.Common.{◌≡◌, ℕ, ◌+◌, ◌<◌, ◌≤◌, List, drop, length, map, sym, ap, ◌∙◌, subst}
use Rattle.std.specs.List.{list_all}
use Rattle.std.specs.Prelude.{nat_lt}
use Rattle.std.proofs.lemmas.List.{drop_all}
use Rattle.ilk_base.proofs.Lists.{drop_at}
use Rattle.ilk_cnf.specs.Literal.{Literal}
use Rattle.ilk_cnf.specs.Truth.{is_true}
use Rattle.ilk_ints.specs.Named.{one_hot_bits}
use Rattle.ilk_forms.specs.declared.copy.VarValueAndBoundLits.{VarValueAndBoundLits}
use Rattle.ilk_forms.specs.Leaf.{ranges_of_copy_lits}
use Rattle.ilk_unroll.proofs.ReadBack.{first_value, values-next, no_values-left, few-values}
use Rattle.ilk_unroll.proofs.reading.read_values.Goals as goal

pub read_value-requires-clause-few : goal.read_value-requires-clause-few
read_value-requires-clause-few c =
    let all = c.as_slice-column-items.result.now in
    let i = c.loop-column.column-index in
    let column = c.column-item.result in
    let bytes = ap (λ (columns : List VarValueAndBoundLits). list_all (λ range. nat_lt range 256) (ranges_of_copy_lits columns)) c.as_slice-column-items.ensures ∙ c.requires.bytes in
    let few : length column.values ≤ 255 = few-values all i column (drop (i + 1) all) bytes (drop_at all i column c.loop-column-test.true c.column-item.is) in
    subst (λ (lits : List Literal). length lits ≤ 255) (sym c.as_slice.ensures) few

pub read_value-requires-clause-one : goal.read_value-requires-clause-one
read_value-requires-clause-one c =
    let all = c.as_slice-column-items.result.now in
    let i = c.loop-column.column-index in
    let column = c.column-item.result in
    let values = c.requires.told in
    let left = c.loop-column.invariant values.0 values.1 in
    let f = first_value c.args.a.now column (drop i all) (drop (i + 1) all) left.rest (drop_at all i column c.loop-column-test.true c.column-item.is) left.told in
    subst (λ (lits : List Literal). (value : ℕ) × (value < length lits) × (map (is_true c.args.a.now) lits ≡ one_hot_bits value 0 (length lits))) (sym c.as_slice.ensures) (f.value, f.below, f.says)

pub loop-column-preserved : goal.loop-column-preserved
loop-column-preserved c =
    let all = c.as_slice-column-items.result.now in
    let i = c.loop-column.column-index in
    let column = c.column-item.result in
    let only = subst (λ (lits : List Literal). (w : ℕ) → w < length lits → map (is_true c.args.a.now) lits ≡ one_hot_bits w 0 (length lits) → c.read_value.result ≡ w) c.as_slice.ensures c.read_value.ensures in
    λ values h. values-next c.args.a.now column (drop i all) (drop (i + 1) all) c.read_value.result
    c.loop-column.values c.push.new.self values (drop_at all i column c.loop-column-test.true c.column-item.is)
    only c.in_ok-push.ensures.ok (c.loop-column.invariant values h)

pub returns : goal.returns
returns c =
    let all = c.as_slice-column-items.result.now in
    let i = c.loop-column.column-index in
    λ values h. no_values-left c.args.a.now (drop i all) c.loop-column.values values (drop_all i all c.loop-column-test.false) (c.loop-column.invariant values h)
