-- Bodies of trains, read from the front.
use Rattle.std.proofs.Common.{◌≡◌, ℕ, Option, Some, None, List, [], ◌∷◌, ◌++◌, sym, ap, ◌∙◌}
use Rattle.ilk_base.proofs.Fronts.{after_front, after_front-step}
use Rattle.ilk_base.specs.Option.{◌>>=◌}
use Rattle.ilk_plant.specs.Plant.{PlantLists, first_number_named}
use Rattle.ilk_replay.specs.StateLine.{sections_named}

pub taken_name :
    (p : PlantLists) (whole : Option (List ℕ)) (taken new : List ℕ) (words more : List (List ℕ))
    (name : List ℕ) (x : ℕ) →
    whole ≡ after_front taken (sections_named p words) → words ≡ name ∷ more →
    Some x ≡ first_number_named p.section_names name → new ≡ taken ++ x ∷ [] →
    whole ≡ after_front new (sections_named p more)
taken_name p whole taken new words more name x e f g h =
    e ∙ ap (λ ws. after_front taken (sections_named p ws)) f
    ∙ ap (λ (o : Option ℕ). after_front taken (o >>= (λ y. sections_named p more >>= (λ rest. Some (y ∷ rest))))) (sym g)
    ∙ after_front-step taken x (sections_named p more) ∙ ap (λ xs. after_front xs (sections_named p more)) (sym h)

pub unknown_name :
    (p : PlantLists) (whole : Option (List ℕ)) (taken : List ℕ) (words more : List (List ℕ)) (name : List ℕ) →
    whole ≡ after_front taken (sections_named p words) → words ≡ name ∷ more →
    None ≡ first_number_named p.section_names name → None ≡ whole
unknown_name p whole taken words more name e f g =
    sym (e ∙ ap (λ ws. after_front taken (sections_named p ws)) f
    ∙ ap (λ (o : Option ℕ). after_front taken (o >>= (λ y. sections_named p more >>= (λ rest. Some (y ∷ rest))))) (sym g))
