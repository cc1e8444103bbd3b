use Rattle.std.proofs.Common.{◌≡◌, sym, ◌∙◌, ap, subst}
use Rattle.ilk_plant.specs.declared.state.State.{State}
use Rattle.ilk_layout.specs.Image.{image_of}
use Rattle.ilk_layout.specs.Laws.{IsWellFormedAndSafe}
use Rattle.ilk_decode.specs.Order.{AreSortedByTail}
use Rattle.ilk_decode.specs.Read.{decoded_state, decoded_occupancies, decoded_without_trains}
use Rattle.ilk_decode.proofs.Same.{decoded_state-calm, decoded_state-image}
use Rattle.ilk_decode.proofs.Tails.{by-tails}
use Rattle.ilk_decode.proofs.states.state_of.Goals as goal

pub returns-clause-calm : goal.returns-clause-calm
returns-clause-calm c =
    let is : c.in_ok-s.s ≡ decoded_state c.args.plant.now c.args.values.now = c.in_ok-s.ensures ∙ ap (decoded_state c.args.plant.now) c.as_slice.ensures in
    subst (IsWellFormedAndSafe c.args.plant.now) (sym is) (decoded_state-calm c.args.plant.now c.prove_is_plant.ensures c.prove_sound_acyclic_drafts.ensures.walks c.args.values.now c.requires.in_range c.requires.wellformed)

pub returns-clause-image : goal.returns-clause-image
returns-clause-image c =
    let is : c.in_ok-s.s ≡ decoded_state c.args.plant.now c.args.values.now = c.in_ok-s.ensures ∙ ap (decoded_state c.args.plant.now) c.as_slice.ensures in
    ap (image_of c.args.plant.now) is ∙ decoded_state-image c.args.plant.now c.prove_is_plant.ensures c.prove_sound_acyclic_drafts.ensures.walks c.args.values.now c.requires.in_range c.requires.wellformed

pub returns-clause-order : goal.returns-clause-order
returns-clause-order c =
    let is : c.in_ok-s.s ≡ decoded_state c.args.plant.now c.args.values.now = c.in_ok-s.ensures ∙ ap (decoded_state c.args.plant.now) c.as_slice.ensures in
    let P : State → Type 0 = λ s. AreSortedByTail s.trains in
    subst P (sym is) (by-tails c.args.plant.now (decoded_without_trains c.args.plant.now c.args.values.now) (decoded_occupancies c.args.plant.now c.args.values.now))
