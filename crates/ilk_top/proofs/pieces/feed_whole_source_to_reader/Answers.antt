use Rattle.std.proofs.Common.{arith, ◌∙◌}
use Rattle.std.proofs.lemmas.Grind.{common_steps}
use Rattle.std.proofs.lemmas.List.{length-take-le, take-append-le}
use Rattle.ilk_top.proofs.Fed.{Fed-more, Fed-then, Fed-whole}
use Rattle.ilk_top.proofs.Poured.{went-well}
use Rattle.ilk_top.proofs.pieces.feed_whole_source_to_reader.Goals as goal

pub returns-in-Ok-eq0-clause-whole : goal.returns-in-Ok-eq0-clause-whole
returns-in-Ok-eq0-clause-whole g c =
    Fed-whole _ _ _ _ _ c.loop-n.count _ _ _ c.loop-n.invariant.fed c.in-Ok-eq0.ensures.taken c.in-Ok-eq0.ensures.end
    (omega arith) (grind (arith, common_steps)) c.loop-n.invariant.within

pub returns-then-is_err-clause-taken : goal.returns-then-is_err-clause-taken
returns-then-is_err-clause-taken g c =
    Fed-then _ _ _ _ _ c.loop-n.count _ _ c.loop-n.invariant.fed c.in-Ok.ensures.taken (grind (arith, length-take-le))

pub returns-then-count-limit-clause-taken : goal.returns-then-count-limit-clause-taken
returns-then-count-limit-clause-taken g c =
    Fed-then _ _ _ _ _ c.loop-n.count _ _ c.loop-n.invariant.fed c.in-Ok.ensures.taken (grind (arith, length-take-le))

pub loop-n-preserved : goal.loop-n-preserved
loop-n-preserved g c = record {
  fed = Fed-more _ _ _ _ _ _ c.loop-n.count _ _ c.in-Ok.n c.loop-n.invariant.fed c.in-Ok.ensures.taken
      (length-take-le c.in-Ok.n _ c.in-Ok.ensures.within)
      (take-append-le c.in-Ok.n _ _ c.in-Ok.ensures.within) (went-well _ c.feed.result (cc) c.feed.ensures);
  within = grind arith;
  unraised = c.in-Ok.ensures.unraised ∙ c.loop-n.invariant.unraised;
}
