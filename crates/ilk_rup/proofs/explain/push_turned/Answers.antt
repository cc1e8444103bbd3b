use Rattle.std.proofs.Common.{◌≡◌, ◌-◌, ◌++◌, ◌∷◌, [], ℕ, List, suc, ap, ◌∙◌, sym, arith, append_assoc, reverse, take, get_or}
use Rattle.std.proofs.lemmas.Option.{slice_get-get_or}
use Rattle.ilk_learn.proofs.Latest.{reverse-one-more}
use Rattle.ilk_rup.proofs.explain.push_turned.Goals as goal

pub loop-i-preserved : goal.loop-i-preserved
loop-i-preserved c =
    let hs = c.args.numbers.now in
    let i = c.loop-i.i - 1 in
    let x = get_or hs i 0 in
    let low = c.loop-i.invariant.low in
    let rest : List ℕ = reverse (take i hs) in
    let q : c.loop-i.i ≡ suc i = omega arith in
    record {
      low = omega (arith, low);
      rest = ap (λ (ys : List ℕ). ys ++ rest) c.in_ok-push.ensures.ok
          ∙ append_assoc c.loop-i.hints (x ∷ []) rest
          ∙ ap (λ (ys : List ℕ). c.loop-i.hints ++ ys) (sym (ap (λ (n : ℕ). reverse (take n hs)) q ∙ reverse-one-more hs i x (slice_get-get_or hs i 0 (omega (arith, low)))))
          ∙ c.loop-i.invariant.rest;
    }
