-- Lists stored one after another in one list, with the position of each end. Used only by private
-- contracts and proofs.
use Rattle.std.specs.Prelude.{ℕ, Bool, List, [], ◌∷◌, ◌==◌, ◌&&◌, nat_le, slice_range}

-- Returns the lists that are stored in `xs` one after another. The first goes from `start` to the
-- first end, each other from the end before it to its own.
abbrev pub split_at_ends : {X : Type 0} → ℕ → List ℕ → List X → List (List X)
split_at_ends start [] xs = []
split_at_ends start (end ∷ ends) xs = slice_range xs start end ∷ split_at_ends end ends xs

-- Returns whether the ends ascend from `start` (equal ones allowed), and the last one is `n`.
abbrev pub ends_ascend_to : ℕ → List ℕ → ℕ → Bool
ends_ascend_to start [] n = start == n
ends_ascend_to start (end ∷ ends) n = nat_le start end && ends_ascend_to end ends n
