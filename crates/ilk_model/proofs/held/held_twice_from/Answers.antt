use Rattle.std.proofs.Common.{◌≡◌, ℕ, ◌+◌, ◌<◌, ◌≤◌, ◌∙◌, ap, arith, count_by, get_or, length, nat_lt, sym}
use Rattle.std.specs.Int.{bit_at}
use Rattle.std.specs.List.{range_with_len}
use Rattle.std.proofs.lemmas.List.{take_all}
use Rattle.std.proofs.lemmas.List.FromFn.{get_or-range_with_len, length-range_with_len}
use Rattle.ilk_model.specs.Holding.{route_holds}
use Rattle.ilk_model.proofs.SharedSections.{bit, seen_after, shared_after}
use Rattle.ilk_model.proofs.held.held_twice_from.Goals as goal

pub loop-r-preserved : goal.loop-r-preserved
loop-r-preserved c =
    let p = c.args.plant.now in
    let s = c.args.s.now in
    let from = c.args.from in
    let count = length p.routes in
    let routes = range_with_len 0 count in
    let r = c.loop-r.r in
    let held = c.held_by-held.result in
    let known : r < count = omega (arith, c.loop-r-test.true, c.routes-r-end.ensures) in
    let long = length-range_with_len 0 count in
    let within : r < length routes = omega (arith, known, long) in
    let same : 0 + r ≡ r = omega arith in
    let place : get_or routes r 0 ≡ r = get_or-range_with_len 0 count r 0 known ∙ same in
    let own : (x : ℕ) → x < 128 → bit_at held x ≡ bit (route_holds p s (get_or routes r 0) (from + x)) =
    λ x below. c.held_by-held.ensures x below ∙ ap (λ (q : ℕ). bit (route_holds p s q (from + x))) (sym place) in
    record {
      seen = λ x below. seen_after (λ (q : ℕ). route_holds p s q (from + x)) routes r 0 within x c.loop-r.seen c.loop-r.shared held (c.loop-r.invariant.seen x below) (c.loop-r.invariant.shared x below) (own x below);
      shared = λ x below. shared_after (λ (q : ℕ). route_holds p s q (from + x)) routes r 0 within x c.loop-r.seen c.loop-r.shared held (c.loop-r.invariant.seen x below) (c.loop-r.invariant.shared x below) (own x below);
    }

pub returns : goal.returns
returns c x below =
    let p = c.args.plant.now in
    let routes = range_with_len 0 (length p.routes) in
    let long = length-range_with_len 0 (length p.routes) in
    let all : length routes ≤ c.loop-r.r = omega (arith, long, c.loop-r-test.false, c.routes-r-end.ensures) in
    c.loop-r.invariant.shared x below
    ∙ ap (λ (numbers : _). bit (nat_lt 1 (count_by (λ (q : ℕ). route_holds p c.args.s.now q (c.args.from + x)) numbers))) (take_all c.loop-r.r routes all)
