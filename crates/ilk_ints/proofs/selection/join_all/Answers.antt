use Rattle.std.proofs.Common.{◌≡◌, ◌<◌, ◌≤◌, ◌+◌, ◌-◌, ◌∷◌, ◌++◌, [], ℕ, ◌∙◌, List, length, take, drop, sym, ap, arith, length-append, length-drop}
use Rattle.std.proofs.lemmas.List.{drop-append-le, drop-drop, take_rest}
use Rattle.std.proofs.lemmas.Result.{on_ok_weaker}
use Rattle.ilk_cnf.specs.Literal.{Literal, positive_lit}
use Rattle.ilk_cnf.specs.Formula.{Formula, is_clause_over}
use Rattle.ilk_cnf.specs.Part.{with_part}
use Rattle.ilk_ints.specs.OneOf.{disjoint_or_part, exactly_one_of_few_part, exactly_one_part}
use Rattle.ilk_ints.proofs.OneOfLaw.{exactly_one-few, join-step}
use Rattle.ilk_ints.proofs.selection.join_all.Goals as goal

pub loop-first-preserved : goal.loop-first-preserved
loop-first-preserved c =
    let queue = c.loop-first.queue.items in
    let i = c.loop-first.first in
    let f = c.loop-first.cnf in
    let g = c.join.new.cnf in
    let v = positive_lit (f.vars + 1) in
    let ls = drop i queue in
    let queued : c.push.new.self.items ≡ queue ++ v ∷ [] = c.in_ok-push.ensures.items ∙ ap (λ (l : Literal). queue ++ l ∷ []) c.in_ok-joined.ensures.lit in
    let four : i + 4 ≤ length queue = omega (arith, c.loop-first-test.true, c.len.ensures) in
    let many : 4 < length ls = omega (arith, c.loop-first-test.true, c.len.ensures, length-drop i queue) in
    let taken : i + 4 - i ≡ 4 = omega arith in
    let part : take (i + 4 - i) (drop i c.deref.result.now) ≡ take 4 ls = ap (λ (k : ℕ). take k (drop i c.deref.result.now)) taken ∙ ap (λ (ks : List Literal). take 4 (drop i ks)) c.deref.ensures.value in
    let made : g ≡ with_part f (disjoint_or_part (take 4 ls) f.vars) = c.in_ok-joined.ensures.made ∙ ap (λ (ks : List Literal). with_part f (disjoint_or_part ks f.vars)) part in
    let next : drop (i + 4) c.push.new.self.items ≡ drop 4 ls ++ v ∷ [] =
    ap (drop (i + 4)) queued ∙ drop-append-le (i + 4) queue (v ∷ []) four ∙ ap (λ (ks : List Literal). ks ++ v ∷ []) (sym (drop-drop 4 i queue)) in
    let step = join-step f g ls many made c.loop-first.invariant.within in
    record {
      started = omega (arith, four, length-append queue (v ∷ []), ap length queued);
      within = ap (is_clause_over g.vars) next ∙ step.0;
      rest = ap (λ (ks : List Literal). with_part g (exactly_one_part ks g.vars)) next ∙ step.1 ∙ c.loop-first.invariant.rest;
    }

pub returns : goal.returns
returns c =
    let queue = c.loop-first.queue.items in
    let i = c.loop-first.first in
    let f = c.loop-first.cnf in
    let ls = drop i queue in
    let few : length ls ≤ 4 = omega (arith, c.loop-first-test.false, c.len.ensures, length-drop i queue) in
    let last = take (length c.deref-2.result.now - i) (drop i c.deref-2.result.now) in
    let taken : last ≡ ls = take_rest c.deref-2.result.now i ∙ ap (drop i) c.deref-2.ensures.value in
    let ends : with_part f (exactly_one_of_few_part last f.vars) ≡ with_part f (exactly_one_part ls f.vars) =
    ap (λ (ks : List Literal). with_part f (exactly_one_of_few_part ks f.vars)) taken ∙ ap (with_part f) (sym (exactly_one-few ls f.vars few)) in
    let Goal : Formula → Type 0 = λ g. c.demand_one_of_few.new.cnf ≡ g in
    on_ok_weaker {P = Goal (with_part f (exactly_one_of_few_part last f.vars))} {Q = Goal (with_part c.args.cnf.now (exactly_one_part c.args.queue.items c.args.cnf.now.vars))} _
    (λ made. made ∙ ends ∙ c.loop-first.invariant.rest) c.demand_one_of_few.ensures
