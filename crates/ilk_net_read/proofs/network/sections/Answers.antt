use Rattle.std.proofs.Common.{◌∙◌, sym, ap, length, arith}
use Rattle.std.proofs.lemmas.List.{length-append}
use Rattle.serde_json.specs.View.{view}
use Rattle.ilk_net_read.specs.Network.{section_from_value}
use Rattle.ilk_plant.specs.Limits.{are_names_in_section_valid}
use Rattle.ilk_base.proofs.Results.{try_map_numbered-more}
use Rattle.ilk_net_read.proofs.InOrder.{entries-left}
use Rattle.ilk_net_read.proofs.network.sections.Goals as goal
use Rattle.ilk_base.proofs.Tested.{list_all-more}

pub loop-i-preserved : goal.loop-i-preserved
loop-i-preserved c = record {
  rest = rw c.in_ok-push.ensures.ok
      (sym
      (try_map_numbered-more section_from_value c.loop-i.sections _ _ c.loop-i.i (view c.index-values-i.result)
      c.in_ok-section.section
      (entries-left c.args.values.now c.loop-i.i c.index-values-i.result c.loop-i-test.true
      c.index-values-i.is)
      c.in_ok-section.ensures.exact)
      ∙ c.loop-i.invariant.rest);
  named = rw c.in_ok-push.ensures.ok (list_all-more are_names_in_section_valid c.loop-i.sections c.in_ok-section.section c.loop-i.invariant.named c.in_ok-section.ensures.named);
  count = omega (arith, simp length-append at (ap length c.in_ok-push.ensures.ok));
}
