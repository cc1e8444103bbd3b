-- The body of a train: its sections from tail to head.
use Rattle.std.specs.Prelude.{ℕ, Bool, false, List, [], ◌∷◌, ◌++◌, ◌==◌, remove}
use Rattle.ilk_plant.specs.declared.network.Dir.{Dir}
use Rattle.ilk_plant.specs.declared.state.Train.{Train}

-- Returns whether the last section of a list is `x`.
abbrev pub is_last_section : ℕ → List ℕ → Bool
is_last_section x [] = false
is_last_section x (y ∷ []) = y == x
is_last_section x (y ∷ z ∷ rest) = is_last_section x (z ∷ rest)

-- Returns whether a list has two or more sections and the first is `x`.
abbrev pub is_first_of_several : ℕ → List ℕ → Bool
is_first_of_several x [] = false
is_first_of_several x (y ∷ []) = false
is_first_of_several x (y ∷ z ∷ rest) = y == x

-- Returns whether a list has only section `x`.
abbrev pub is_only_section : ℕ → List ℕ → Bool
is_only_section x [] = false
is_only_section x (y ∷ []) = y == x
is_only_section x (y ∷ z ∷ rest) = false

-- Returns whether the train's head is at section `x`.
abbrev pub has_head_at : ℕ → Train → Bool
has_head_at x train = is_last_section x train.body

-- Returns whether the train's tail is at section `x` and its body has two or more sections.
abbrev pub has_movable_tail_at : ℕ → Train → Bool
has_movable_tail_at x train = is_first_of_several x train.body

-- Returns whether the train's only section is `x`.
abbrev pub occupies_only : ℕ → Train → Bool
occupies_only x train = is_only_section x train.body

-- A train in direction `d` whose only section is `x`.
abbrev pub new_train_on : ℕ → Dir → Train
new_train_on x d = record { dir = d; body = x ∷ [] }

-- The train after its head has moved to section `y`.
abbrev pub with_new_head : ℕ → Train → Train
with_new_head y train = record train { body = train.body ++ y ∷ [] }

-- The train after its tail has left its first section.
abbrev pub without_tail : Train → Train
without_tail train = record train { body = remove train.body 0 }
