-- A tree over a list holds (is valid) as its items do (are).
use Rattle.std.proofs.Common.{◌≡◌, ℕ, Bool, ◌&&◌, ◌||◌, List, [], ◌∷◌, refl, ap}
use Rattle.std.specs.List.{list_all, list_any}
use Rattle.ilk_ir.specs.Tree.{Tree, trees_from_list, all_of, any_of, tree_holds, each_holds, some_holds, tree_valid, each_valid}

pub each_holds-trees_from_list : (values : List ℕ) (ts : List Tree) → each_holds values (trees_from_list ts) ≡ list_all (tree_holds values) ts
each_holds-trees_from_list values [] = refl
each_holds-trees_from_list values (t ∷ ts) = ap (λ (b : Bool). tree_holds values t && b) (each_holds-trees_from_list values ts)

pub some_holds-trees_from_list : (values : List ℕ) (ts : List Tree) → some_holds values (trees_from_list ts) ≡ list_any (tree_holds values) ts
some_holds-trees_from_list values [] = refl
some_holds-trees_from_list values (t ∷ ts) = ap (λ (b : Bool). tree_holds values t || b) (some_holds-trees_from_list values ts)

pub each_valid-trees_from_list : (ranges : List ℕ) (ts : List Tree) → each_valid ranges (trees_from_list ts) ≡ list_all (tree_valid ranges) ts
each_valid-trees_from_list ranges [] = refl
each_valid-trees_from_list ranges (t ∷ ts) = ap (λ (b : Bool). tree_valid ranges t && b) (each_valid-trees_from_list ranges ts)

pub all_of-holds : (values : List ℕ) (ts : List Tree) → tree_holds values (all_of (trees_from_list ts)) ≡ list_all (tree_holds values) ts
all_of-holds = each_holds-trees_from_list

pub any_of-holds : (values : List ℕ) (ts : List Tree) → tree_holds values (any_of (trees_from_list ts)) ≡ list_any (tree_holds values) ts
any_of-holds = some_holds-trees_from_list

pub all_of-valid : (ranges : List ℕ) (ts : List Tree) → tree_valid ranges (all_of (trees_from_list ts)) ≡ list_all (tree_valid ranges) ts
all_of-valid = each_valid-trees_from_list

pub any_of-valid : (ranges : List ℕ) (ts : List Tree) → tree_valid ranges (any_of (trees_from_list ts)) ≡ list_all (tree_valid ranges) ts
any_of-valid = each_valid-trees_from_list
