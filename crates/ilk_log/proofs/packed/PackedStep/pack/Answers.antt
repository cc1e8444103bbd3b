use Rattle.std.proofs.Common.{◌≡◌, ◌∙◌, ◌++◌, ◌^◌, List, map, ap, true, subst}
use Rattle.ilk_cnf.specs.Formula.{is_clause_over}
use Rattle.ilk_cnf.specs.Literal.{Literal}
use Rattle.ilk_log.specs.Packed.{decoded_numbers, code_from_lit}
use Rattle.ilk_log.proofs.Packing.{packed-back}
use Rattle.ilk_log.proofs.packed.PackedStep.pack.Goals as goal

pub returns : goal.returns
returns c =
    let numbered = subst (λ ls. is_clause_over (2 ^ 62) ls ≡ true) c.as_slice.ensures c.in_ok-last.ensures.numbered in
    packed-back c.args.step.now c.in_ok-from_slice.field-0.items c.len.result numbered c.len.ensures
    (ap (decoded_numbers 0 0) (c.in_ok-from_slice.ensures.items ∙ c.as_slice-2.ensures.value)
    ∙ c.in_ok-push_hints.ensures (map code_from_lit c.as_slice.result.now) c.in_ok-last.ensures.numbers
    ∙ ap (λ (ls : List Literal). map code_from_lit ls ++ c.args.step.now.hints) c.as_slice.ensures)
