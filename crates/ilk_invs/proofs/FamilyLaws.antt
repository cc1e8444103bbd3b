-- Each condition holds for the image of a state without hazard if and only if the state keeps its
-- family.
use Rattle.std.proofs.Common.{◌≡◌, ℕ, zero, suc, ◌-◌, ◌∙◌, ap, refl, slice_get, unwrap_or}
use Rattle.ilk_base.specs.Option.{is_some_and}
use Rattle.ilk_ir.specs.Tree.{Tree, no, tree_holds}
use Rattle.ilk_plant.specs.Plant.{IsPlant, PlantLists}
use Rattle.ilk_plant.specs.Sound.{IsAcyclic}
use Rattle.ilk_plant.specs.declared.state.State.{State}
use Rattle.ilk_model.specs.Meets.{families}
use Rattle.ilk_layout.specs.Image.{image_of}
use Rattle.ilk_layout.specs.Laws.{IsWellFormedAndSafe}
use Rattle.ilk_invs.specs.FamilyTrees.{family_tree, family_trees}
use Rattle.ilk_invs.specs.Laws.{TreeMeansFamily}
use Rattle.ilk_invs.proofs.HoldLaws.{v2-law}
use Rattle.ilk_invs.proofs.HoldingLaws.{v3-law}
use Rattle.ilk_invs.proofs.PointLaws.{v6-law}
use Rattle.ilk_invs.proofs.RouteLaws.{v1-law, v4-law, v5-law, v9-law}
use Rattle.ilk_invs.proofs.TrainLaws.{v7-law, v8-law}

module _ (p : PlantLists) (plant : IsPlant p) (never : IsAcyclic p) where
  at-place : (s : State) → IsWellFormedAndSafe p s → (k : ℕ) → tree_holds (image_of p s) (unwrap_or (slice_get (family_trees p) k) no) ≡ is_some_and (slice_get families k) (λ keeps_it. keeps_it p s)
  at-place s calm zero = v1-law p plant s calm.shape
  at-place s calm (suc zero) = v2-law p plant s calm.shape
  at-place s calm (suc (suc zero)) = v3-law p plant s calm.shape
  at-place s calm (suc (suc (suc zero))) = v4-law p plant s calm.shape calm.no_hazard
  at-place s calm (suc (suc (suc (suc zero)))) = v5-law p plant s calm.shape calm.no_hazard
  at-place s calm (suc (suc (suc (suc (suc zero))))) = v6-law p s calm.shape
  at-place s calm (suc (suc (suc (suc (suc (suc zero)))))) = v7-law p plant s calm.shape calm.no_hazard never
  at-place s calm (suc (suc (suc (suc (suc (suc (suc zero))))))) = v8-law p plant s calm.shape calm.no_hazard never
  at-place s calm (suc (suc (suc (suc (suc (suc (suc (suc zero)))))))) = v9-law p plant s calm.shape
  at-place s calm (suc (suc (suc (suc (suc (suc (suc (suc (suc k))))))))) = refl

  pub family-law : (j : ℕ) → TreeMeansFamily p j (family_tree p j)
  family-law j s calm = at-place s calm (j - 1)

  pub family_holds : (j : ℕ) (t : Tree) → t ≡ family_tree p j → TreeMeansFamily p j t
  family_holds j t is s calm = ap (tree_holds (image_of p s)) is ∙ family-law j s calm
