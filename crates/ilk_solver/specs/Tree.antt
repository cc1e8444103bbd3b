-- Used only in private contracts and proofs: the tree of winners among the variables that were put
-- into it.
--
-- Over n variables it has 2n + 2 entries, which are words of variables. Node 1 is its top. Below
-- node k, from 1 to n, are the nodes 2k and 2k + 1, and node k has the greater of their words. The
-- last n + 1 entries are the leaves, one for each variable from 0 on; 0 means no variable.
use Rattle.std.specs.Prelude.{ℕ, ◌≡◌, ◌≢◌, ◌⊎◌, ◌+◌, ◌*◌, ◌<◌, ◌≤◌, List, drop, length, slice_index}
use Rattle.ilk_solver.specs.declared.word.TheConstants.{MOST_VARIABLES}
use Rattle.ilk_solver.specs.Word.{IsGreaterOfTwo, variable_of, packed_weight_and_variable}

-- Returns the leaves of a tree over these weights: the entry of each variable, from 0 on.
abbrev pub leaves_of : List ℕ → List ℕ → List ℕ
leaves_of weights tree = drop (length weights + 1) tree

-- Returns the variable at the top of a tree, or 0 if there is none.
abbrev pub variable_at_top : List ℕ → ℕ
variable_at_top tree = variable_of (slice_index tree 1)

-- Holds if node `k` has the greater word of the two nodes below it.
abbrev pub IsWinnerNode : List ℕ → ℕ → Type 0
IsWinnerNode tree k = IsGreaterOfTwo (slice_index tree k) (slice_index tree (2 * k)) (slice_index tree (2 * k + 1))

-- Holds if the leaf of variable `v` has its word, with its weight.
abbrev pub IsVariableInTree : List ℕ → List ℕ → ℕ → Type 0
IsVariableInTree weights tree v = slice_index (leaves_of weights tree) v ≡ packed_weight_and_variable weights v

-- Holds if each leaf of the tree is empty or has its variable's word. Each inner node but `j` has
-- the greater word of the two nodes below.
pub record IsWinnerTreeExceptAt (weights tree : List ℕ) (j : ℕ) : Type 0 where
  pub numbered : length weights ≤ MOST_VARIABLES
  pub size : length tree ≡ 2 * length weights + 2
  pub leaf : (v : ℕ) → v ≤ length weights → (slice_index (leaves_of weights tree) v ≡ 0) ⊎ ((0 < v) × IsVariableInTree weights tree v)
  pub won : (k : ℕ) → 0 < k → k ≤ length weights → k ≢ j → IsWinnerNode tree k

-- Holds if each leaf of the tree is empty or has its variable's word. Each inner node has the
-- greater word of the two nodes below.
abbrev pub IsWinnerTree : List ℕ → List ℕ → Type 0
IsWinnerTree weights tree = IsWinnerTreeExceptAt weights tree 0

-- Holds if tree `new` contains each variable that `old` contains.
abbrev pub KeepsVariablesInTree : List ℕ → List ℕ → List ℕ → Type 0
KeepsVariablesInTree weights old new = (v : ℕ) → IsVariableInTree weights old v → IsVariableInTree weights new v

-- Holds if tree `new`, with the new weights, contains the same variables as `old`.
pub record HasSameVariables (old_weights old weights new : List ℕ) : Type 0 where
  pub kept : (v : ℕ) → 0 < v → IsVariableInTree old_weights old v → IsVariableInTree weights new v
  pub none : (v : ℕ) → slice_index (leaves_of old_weights old) v ≡ 0 → slice_index (leaves_of weights new) v ≡ 0
