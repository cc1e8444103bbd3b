use Rattle.std.proofs.Common.{ℕ, ◌≡◌, ◌≤◌, ◌<◌, ◌++◌, ◌∷◌, [], List, arith, ap, sym, ◌∙◌}
use Rattle.ilk_trail.specs.declared.entry.Entry.{Entry}
use Rattle.ilk_trail.specs.Trail.{TrailList, level_of, entries_up_to}
use Rattle.ilk_trail.proofs.Levels.{back-step, entries_up_to-all}
use Rattle.ilk_trail.proofs.trail.Trail.back_to.Goals as goal

list-is : (t : TrailList) (n : ℕ) (es : List Entry) → t.vars ≡ n → t.entries ≡ es → t ≡ record { vars = n; entries = es }
list-is t n es p q = ap (λ m. let r : TrailList = record { vars = m; entries = t.entries } in r) p ∙ ap (λ ys. let r : TrailList = record { vars = n; entries = ys } in r) q

pub loop-self-preserved : goal.loop-self-preserved
loop-self-preserved c =
    let l = c.loop-self.self in
    let n = c.take_last.new.self in
    let e = c.take_last.result in
    let same : l.entries ≡ n.entries ++ e ∷ [] = ap (λ (t : TrailList). t.entries) c.take_last.ensures in
    let vars : l.vars ≡ n.vars = ap (λ (t : TrailList). t.vars) c.take_last.ensures in
    let high : c.args.level < level_of (n.entries ++ e ∷ []) = omega (arith, c.level.ensures.level, ap level_of same, c.loop-self-test.true) in
    let s = back-step c.args.level n.entries e (rw same at c.level.ensures.is_trail.climbing) high in
    record {
      vars = sym vars ∙ c.loop-self.invariant.vars;
      kept = s.0 ∙ ap (entries_up_to c.args.level) (sym same) ∙ c.loop-self.invariant.kept;
      above = s.1;
    }

pub returns-clause-entries : goal.returns-clause-entries
returns-clause-entries c =
    let l = c.loop-self.self in
    let low : level_of l.entries ≤ c.args.level = omega (arith, c.level.ensures.level, c.loop-self-test.false) in
    let all = entries_up_to-all 0 c.args.level l.entries c.level.ensures.is_trail.climbing low in
    let es : l.entries ≡ entries_up_to c.args.level c.args.self.now.entries = sym all ∙ c.loop-self.invariant.kept in
    list-is l c.args.self.now.vars _ c.loop-self.invariant.vars es
