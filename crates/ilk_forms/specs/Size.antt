-- The number of constructors of a form.
use Rattle.std.specs.Prelude.{ℕ, ◌+◌}
use Rattle.ilk_ir.specs.Tree.{Tree, yes, no, is, all_of, any_of, negation, Trees, none, more}

abbrev mutual
  pub tree_size : Tree → ℕ
  tree_size yes = 1
  tree_size no = 1
  tree_size (is v c) = 1
  tree_size (all_of ts) = trees_size ts + 1
  tree_size (any_of ts) = trees_size ts + 1
  tree_size (negation t) = tree_size t + 1

  pub trees_size : Trees → ℕ
  trees_size none = 0
  trees_size (more t ts) = tree_size t + trees_size ts
