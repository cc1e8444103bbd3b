use Rattle.std.proofs.Common.{arith, length-set, ◌∙◌}
use Rattle.ilk_layout.proofs.Standing.{put_on, section_at, section_known}
use Rattle.ilk_layout.proofs.occupancies.put_train.Goals as goal

pub at-before-requires : goal.at-before-requires
at-before-requires c =
    let at = section_at c.args.plant.now c.args.train.now c.loop-i.i c.as_slice-body.result.now c.prove_is_plant.ensures c.requires.body c.as_slice-body.ensures (omega arith) in
    omega (arith, at.0)

pub occupancy_after_adding_at_index-requires-clause-known : goal.occupancy_after_adding_at_index-requires-clause-known
occupancy_after_adding_at_index-requires-clause-known c =
    section_known c.args.plant.now c.args.train.now c.loop-i.i c.as_slice-body.result.now c.prove_is_plant.ensures c.requires.body c.as_slice-body.ensures (omega arith)

pub at_mut-requires : goal.at_mut-requires
at_mut-requires c =
    let at = section_at c.args.plant.now c.args.train.now c.loop-i.i c.as_slice-body.result.now c.prove_is_plant.ensures c.requires.body c.as_slice-body.ensures (omega arith) in
    omega (arith, at.0)

pub loop-i-preserved : goal.loop-i-preserved
loop-i-preserved c = record {
  sections = length-set c.loop-i.occupancies _ c.occupancy_after_adding_at_index.result ∙ c.loop-i.invariant.sections;
  gone = put_on c.args.plant.now c.args.s.now c.args.train.now c.loop-i.i c.as_slice-body.result.now
      c.at-before.result.now c.occupancy_after_adding_at_index.result c.args.occupancies.now c.loop-i.occupancies
      c.prove_is_plant.ensures c.prove_sound_acyclic_drafts.ensures.walks c.requires.body c.as_slice-body.ensures (omega arith)
      c.at-before.ensures c.occupancy_after_adding_at_index.ensures c.loop-i.invariant.gone;
}
