-- Exactly one of some literals. They are joined in fours, as in a balanced tree with short paths.
use Rattle.std.specs.Prelude.{ℕ, zero, suc, ◌+◌, Bool, true, false, List, [], ◌∷◌, ◌++◌, drop, length, map, nat_le, take, ◌&&◌, not, if◌then◌else◌}
use Rattle.std.specs.List.{list_any}
use Rattle.ilk_cnf.specs.Literal.{Literal, positive_lit, negated_lit}
use Rattle.ilk_cnf.specs.Part.{FormulaPart, and_then}
use Rattle.ilk_ints.specs.declared.selection.TheConstants.{MAX_JOINED}

-- The clauses that say that `l` is true together with none of the literals `before`.
abbrev pub not_with_any_clauses : List Literal → Literal → List (List Literal)
not_with_any_clauses before l = map (λ m. negated_lit m ∷ negated_lit l ∷ []) before

-- The clauses that say that none of the literals is true together with one before it. The literals
-- `before` come before all of them.
abbrev pub at_most_one_clauses : List Literal → List Literal → List (List Literal)
at_most_one_clauses before [] = []
at_most_one_clauses before (l ∷ ls) = not_with_any_clauses before l ++ at_most_one_clauses (before ++ l ∷ []) ls

-- The clauses that say that `v` is true exactly if one of the literals is, and that no two are.
abbrev pub disjoint_or_clauses : List Literal → Literal → List (List Literal)
disjoint_or_clauses ls v = map (λ l. negated_lit l ∷ v ∷ []) ls ++ (negated_lit v ∷ ls) ∷ at_most_one_clauses [] ls

-- The formula part that adds a variable after the first `n`, true exactly if one of the literals
-- is, and rules out any two.
abbrev pub disjoint_or_part : List Literal → ℕ → FormulaPart
disjoint_or_part ls n = record { vars = n + 1; clauses = disjoint_or_clauses ls (positive_lit (n + 1)) }

-- The formula part that says that exactly one of the literals is true, without a new variable.
abbrev pub exactly_one_of_few_part : List Literal → ℕ → FormulaPart
exactly_one_of_few_part ls n = record { vars = n; clauses = at_most_one_clauses [] ls ++ ls ∷ [] }

-- The formula part that joins the first `MAX_JOINED` literals into a new one at the end of the
-- list. It repeats this at most `k` times, until no more than `MAX_JOINED` are left, and demands
-- exactly one of those.
abbrev pub join_until_few : ℕ → List Literal → ℕ → FormulaPart
join_until_few zero ls n = exactly_one_of_few_part ls n
join_until_few (suc k) ls n =
    if nat_le (length ls) MAX_JOINED
    then exactly_one_of_few_part ls n
    else and_then (disjoint_or_part (take MAX_JOINED ls) n) (join_until_few k (drop MAX_JOINED ls ++ positive_lit (n + 1) ∷ []))

-- The formula part, after the first `n` variables, that says that exactly one of the literals is
-- true. Without literals it can't be satisfied.
abbrev pub exactly_one_part : List Literal → ℕ → FormulaPart
exactly_one_part ls n = join_until_few (length ls) ls n

-- Returns whether no entry is true.
abbrev pub none_true : List Bool → Bool
none_true [] = true
none_true (q ∷ qs) = not q && none_true qs

-- Returns whether exactly one entry is true.
abbrev pub exactly_one_true : List Bool → Bool
exactly_one_true [] = false
exactly_one_true (true ∷ qs) = none_true qs
exactly_one_true (false ∷ qs) = exactly_one_true qs

-- Returns whether some entry is true.
abbrev pub some_true : List Bool → Bool
some_true qs = list_any (λ q. q) qs

-- The truth values of the new variables of `join_until_few`, if the literals have these truth
-- values.
abbrev pub join_until_few_bits : ℕ → List Bool → List Bool
join_until_few_bits zero qs = []
join_until_few_bits (suc k) qs =
    if nat_le (length qs) MAX_JOINED
    then []
    else some_true (take MAX_JOINED qs) ∷ join_until_few_bits k (drop MAX_JOINED qs ++ some_true (take MAX_JOINED qs) ∷ [])

-- The values of the new variables of `exactly_one_part`, if the literals have these values.
abbrev pub exactly_one_bits : List Bool → List Bool
exactly_one_bits qs = join_until_few_bits (length qs) qs
