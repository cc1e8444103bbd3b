-- A form as a tree with plain lists, as contracts see it.
use Rattle.std.specs.Prelude.{ℕ, Bool, true, false, List, [], ◌∷◌, ◌==◌, ◌&&◌, ◌||◌, not, nat_lt, slice_get}
use Rattle.ilk_base.specs.Option.{is_some_and}

mutual
  pub data Tree : Type 0 where
    yes : Tree
    no : Tree
    is : ℕ → ℕ → Tree
    all_of : Trees → Tree
    any_of : Trees → Tree
    negation : Tree → Tree

  pub data Trees : Type 0 where
    none : Trees
    more : Tree → Trees → Trees

-- Returns a list of trees in the form `Trees`.
abbrev pub trees_from_list : List Tree → Trees
trees_from_list [] = none
trees_from_list (t ∷ ts) = more t (trees_from_list ts)

-- Returns whether variable `v` exists and has value `c`.
abbrev pub is_value_of_var : List ℕ → ℕ → ℕ → Bool
is_value_of_var values v c = is_some_and (slice_get values v) (λ x. x == c)

-- Returns whether the tree holds for these values. `all_of` an empty list holds; `any_of` an empty
-- list doesn't.
abbrev mutual
  pub tree_holds : List ℕ → Tree → Bool
  tree_holds values yes = true
  tree_holds values no = false
  tree_holds values (is v c) = is_value_of_var values v c
  tree_holds values (all_of ts) = each_holds values ts
  tree_holds values (any_of ts) = some_holds values ts
  tree_holds values (negation t) = not (tree_holds values t)

  pub each_holds : List ℕ → Trees → Bool
  each_holds values none = true
  each_holds values (more t ts) = tree_holds values t && each_holds values ts

  pub some_holds : List ℕ → Trees → Bool
  some_holds values none = false
  some_holds values (more t ts) = tree_holds values t || some_holds values ts

-- Returns whether variable `v` exists and its range includes value `c`.
abbrev pub value_valid : List ℕ → ℕ → ℕ → Bool
value_valid ranges v c = is_some_and (slice_get ranges v) (λ range. nat_lt c range)

-- Returns whether each leaf names an existing variable and a value of its range.
abbrev mutual
  pub tree_valid : List ℕ → Tree → Bool
  tree_valid ranges yes = true
  tree_valid ranges no = true
  tree_valid ranges (is v c) = value_valid ranges v c
  tree_valid ranges (all_of ts) = each_valid ranges ts
  tree_valid ranges (any_of ts) = each_valid ranges ts
  tree_valid ranges (negation t) = tree_valid ranges t

  pub each_valid : List ℕ → Trees → Bool
  each_valid ranges none = true
  each_valid ranges (more t ts) = tree_valid ranges t && each_valid ranges ts
