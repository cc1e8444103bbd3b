-- The meaning of tail's guards for a point and a body.
use Rattle.std.proofs.Common.{◌≡◌, ℕ, suc, ◌+◌, true, false, remove, Option, Some, None, List, [], ◌∷◌, length, slice_get, refl, sym, ◌∙◌, ap, arith, cond}
use Rattle.std.proofs.lemmas.Bool.{eq-eqb, eqb-true, false≢true, false_from_ne_true}
use Rattle.std.proofs.lemmas.Option.{same_Some}
use Rattle.ilk_ir.specs.Tree.{Tree}
use Rattle.ilk_plant.specs.Network.{contains_section, same_direction}
use Rattle.ilk_plant.specs.Plant.{PlantLists}
use Rattle.ilk_plant.specs.State.{detected_position_in_state}
use Rattle.ilk_plant.specs.declared.network.Dir.{Dir}
use Rattle.ilk_plant.specs.declared.network.Position.{Position}
use Rattle.ilk_plant.specs.declared.network.Position.TheVariants.{Plus, Minus}
use Rattle.ilk_plant.specs.declared.network.Section.{Section}
use Rattle.ilk_plant.specs.declared.network.Section.TheVariants.{Linear, Point}
use Rattle.ilk_plant.specs.declared.state.Lie.TheVariants.{Moving}
use Rattle.ilk_plant.specs.declared.state.State.{State}
use Rattle.ilk_plant.proofs.InLists.{section-from}
use Rattle.ilk_motion.specs.Body.{is_first_of_several}
use Rattle.ilk_routes.specs.Lies.{is_lie_at_position, lie_from_position}
use Rattle.ilk_model.specs.Hazard.{is_wrong_under_body}
use Rattle.ilk_model.proofs.Straying.{rest-is_wrong_under_body}
use Rattle.ilk_layout.specs.Standing.{is_point_wrong_under}
use Rattle.ilk_layout.specs.Conditions.{section_point_is_detected}
use Rattle.ilk_behave.specs.Guards.{leg_set_if_facing, leg_position}

pub lies-nowhere : (at : Position) → is_lie_at_position Moving at ≡ false
lies-nowhere Plus = refl
lies-nowhere Minus = refl

abbrev pub leading : PlantLists → ℕ → ℕ → Dir → Option Section → List Tree
leading p x y d None = []
leading p x y d (Some (Linear down up b c)) = []
leading p x y d (Some (Point stem plus minus faces)) = cond (same_direction faces d) (section_point_is_detected p x (lie_from_position (leg_position plus y)) ∷ []) []

pub leads-by : (p : PlantLists) (x y : ℕ) (d : Dir) (o : Option Section) → slice_get p.sections x ≡ o → leg_set_if_facing p x d y ≡ leading p x y d (slice_get p.sections x)
leads-by p x y d None e = rw e refl
leads-by p x y d (Some (Linear down up b c)) e = rw e refl
leads-by p x y d (Some (Point stem plus minus faces)) e = rw e refl

pub rest-at : (body : List ℕ) (k : ℕ) → slice_get (remove body 0) k ≡ slice_get body (suc k)
rest-at [] k = refl
rest-at (x ∷ body) k = refl

pub rest-length : (body : List ℕ) (k x : ℕ) → slice_get body k ≡ Some x → length (remove body 0) + 1 ≡ length body
rest-length [] k x at = cc
rest-length (y ∷ body) k x at = omega arith

pub rest-wrong : (p : PlantLists) (s : State) (x : ℕ) (body : List ℕ) → is_point_wrong_under p s x body ≡ false → is_point_wrong_under p s x (remove body 0) ≡ false
rest-wrong p s x body right = by_section (slice_get p.sections x) refl
  where
    by_section : (o : Option Section) → slice_get p.sections x ≡ o → is_point_wrong_under p s x (remove body 0) ≡ false
    by_section None e = rw e refl
    by_section (Some (Linear a b c d)) e = rw e refl
    by_section (Some (Point stem plus minus faces)) e =
        let none : is_wrong_under_body x plus minus (detected_position_in_state p s x) body ≡ false = rw e at right in
        rw e (false_from_ne_true (is_wrong_under_body x plus minus (detected_position_in_state p s x) (remove body 0)) (λ h. false≢true (sym none ∙ rest-is_wrong_under_body x plus minus (detected_position_in_state p s x) body h)))

pub first-two : (x : ℕ) (body : List ℕ) → is_first_of_several x body ≡ true → (y : ℕ) × (slice_get body 0 ≡ Some x) × (slice_get body 1 ≡ Some y)
first-two x [] h = cc
first-two x (a ∷ []) h = cc
first-two x (a ∷ b ∷ rest) h = (b, ap Some (eqb-true a x h), refl)

pub several : (x y : ℕ) (body : List ℕ) → slice_get body 0 ≡ Some x → slice_get body 1 ≡ Some y → is_first_of_several x body ≡ true
several x y [] at next = cc
several x y (a ∷ []) at next = cc
several x y (a ∷ b ∷ rest) at next = eq-eqb a x (same_Some a x at)

pub has-first : (x : ℕ) (body : List ℕ) → is_first_of_several x body ≡ true → contains_section x body ≡ true
has-first x body h = let two = first-two x body h in section-from body 0 x two.1
