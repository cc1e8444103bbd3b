use Rattle.std.proofs.Common.{ℕ, ◌++◌, ◌∙◌, ap, map}
use Rattle.ilk_ir.specs.Form.{tree_of}
use Rattle.ilk_ir.specs.Tree.{Tree}
use Rattle.ilk_plant.specs.Plant.{PlantLists}
use Rattle.ilk_plant.specs.declared.state.Hold.TheVariants.{Locked as LockedLock}
use Rattle.ilk_layout.specs.Conditions.{lock_is}
use Rattle.ilk_invs.specs.Held.{mode_holds_sections}
use Rattle.ilk_invs.specs.HoldFamilies.{path_lock_matches_seen}
use Rattle.ilk_invs.specs.Parts.{conditions_of_each_path_index, implication}
use Rattle.ilk_invs.proofs.Pushed.{three_pushed}
use Rattle.ilk_invs.proofs.lock_family.push_locks_for.Goals as goal

abbrev locked_if_holding : PlantLists → ℕ → ℕ → Tree
locked_if_holding p r x = implication (mode_holds_sections r) (lock_is p x LockedLock)

pub returns : goal.returns
returns c =
    three_pushed (locked_if_holding c.args.plant.now c.args.r) (map tree_of c.args.forms.now.items)
    (map tree_of c.push_locks_on_path.new.forms.items) (map tree_of c.push_locked.new.forms.items)
    (map tree_of c.push_points_locked.new.forms.items)
    (conditions_of_each_path_index c.args.route.now (path_lock_matches_seen c.args.plant.now c.args.r)) c.args.route.now.overlap
    (map (λ listed. listed.point) c.args.route.now.protecting_points)
    c.in_ok-push_locks_on_path.ensures
    (c.in_ok-push_locked.ensures ∙ ap (λ xs. map tree_of c.push_locks_on_path.new.forms.items ++ map (locked_if_holding c.args.plant.now c.args.r) xs) c.as_slice.ensures)
    (c.in_ok-push_points_locked.ensures ∙ ap (λ points. map tree_of c.push_locked.new.forms.items ++ map (locked_if_holding c.args.plant.now c.args.r) (map (λ listed. listed.point) points)) c.as_slice-2.ensures)
