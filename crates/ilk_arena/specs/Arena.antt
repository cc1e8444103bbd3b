-- The arena as lists. A reference names a clause; the chain of a literal lists the clauses that
-- watch it.
use Rattle.std.specs.Prelude.{ℕ, ◌+◌, ◌*◌, Bool, false, ◌==◌, ◌&&◌, ◌||◌, List, [], ◌∷◌, ◌++◌, not, if◌then◌else◌, Option, Some, None, slice_index_or, slice_set}
use Rattle.std.specs.List.{list_any, filter, find, position_or_len}
use Rattle.ilk_cnf.specs.Literal.{Literal, same_lit}

-- The content of an arena over the variables 1 to `vars`, in the order of adding: the reference,
-- the literals and the cursor of each clause. `chains` has the chain of each literal at its place.
-- Clauses may take `spare` more words before `reserve` is needed.
pub record ArenaContent : Type 0 where
  pub vars : ℕ
  pub spare : ℕ
  pub references : List ℕ
  pub clauses : List (List Literal)
  pub cursors : List ℕ
  pub chains : List (List ℕ)

-- Returns the place of literal `l`: the index of its chain in the list of chains.
abbrev pub place : Literal → ℕ
place l = if l.positive then 2 * l.var + 1 else 2 * l.var

-- Returns the references of the clauses that watch literal `l`.
abbrev pub chain_of : ArenaContent → Literal → List ℕ
chain_of a l = slice_index_or a.chains (place l) []

-- Returns whether the list `cs` has reference `c`.
abbrev pub contains_reference : ℕ → List ℕ → Bool
contains_reference c cs = list_any (λ x. x == c) cs

-- Returns the item of the second list at the position of reference `c` in the first, or `d` if
-- there is none.
abbrev pub item_at_reference_or_default : {A : Type 0} → ℕ → List ℕ → List A → A → A
item_at_reference_or_default c [] xs d = d
item_at_reference_or_default c (r ∷ rs) [] d = d
item_at_reference_or_default c (r ∷ rs) (x ∷ xs) d = if r == c then x else item_at_reference_or_default c rs xs d

-- Returns the literals of clause `c`.
abbrev pub literals_of : ArenaContent → ℕ → List Literal
literals_of a c = item_at_reference_or_default c a.references a.clauses []

-- Returns the cursor of clause `c`.
abbrev pub clause_cursor : ArenaContent → ℕ → ℕ
clause_cursor a c = item_at_reference_or_default c a.references a.cursors 0

-- Returns the number of clause `c`: its position in the order of adding, from 1.
abbrev pub number_of_clause : ArenaContent → ℕ → ℕ
number_of_clause a c = position_or_len (λ x. x == c) a.references + 1

-- Returns the first of some references, or `None` if the list is empty.
abbrev pub first_of : List ℕ → Option ℕ
first_of [] = None
first_of (x ∷ xs) = Some x

-- Returns the reference that follows `c` in a list, or `None` if there is none.
abbrev pub reference_after_in_list : ℕ → List ℕ → Option ℕ
reference_after_in_list c [] = None
reference_after_in_list c (x ∷ xs) = if x == c then first_of xs else reference_after_in_list c xs

-- Returns whether `c` comes right after the reference `before` in a list. If `before` is `None`,
-- returns whether `c` comes first.
abbrev pub follows_or_heads_chain : Option ℕ → ℕ → List ℕ → Bool
follows_or_heads_chain before c [] = false
follows_or_heads_chain None c (x ∷ xs) = x == c
follows_or_heads_chain (Some b) c (x ∷ xs) = ((x == b) && follows_or_heads_chain None c xs) || follows_or_heads_chain (Some b) c xs

-- Returns the watch of clause `c` other than `l`: its literal, not `l`, whose chain has `c`.
abbrev pub other_watch_of : ArenaContent → ℕ → Literal → Option Literal
other_watch_of a c l = find (λ m. contains_reference c (chain_of a m) && not (same_lit l m)) (literals_of a c)

-- Returns the chains after reference `c` is put first in the chain of literal `l`.
abbrev pub chains_with_first : Literal → ℕ → List (List ℕ) → List (List ℕ)
chains_with_first l c chains = slice_set chains (place l) (c ∷ slice_index_or chains (place l) [])

-- Returns the list `cs` without reference `c`.
abbrev pub without_reference : ℕ → List ℕ → List ℕ
without_reference c cs = filter (λ x. not (x == c)) cs

-- Returns the chains after reference `c` is removed from the chain of literal `l`.
abbrev pub chains_after_removal_from : Literal → ℕ → List (List ℕ) → List (List ℕ)
chains_after_removal_from l c chains = slice_set chains (place l) (without_reference c (slice_index_or chains (place l) []))

-- Returns the chains after reference `c` is put first in those of the first two literals of its
-- clause, if it has two.
abbrev pub chains_with_clause : ℕ → List Literal → List (List ℕ) → List (List ℕ)
chains_with_clause c [] chains = chains
chains_with_clause c (l ∷ []) chains = chains
chains_with_clause c (l ∷ (m ∷ ls)) chains = chains_with_first m c (chains_with_first l c chains)

-- Returns the arena after a clause `ls` is added at reference `c`, with `spare` words of room left.
abbrev pub with_clause_added : ArenaContent → List Literal → ℕ → ℕ → ArenaContent
with_clause_added a ls c spare = record {
  vars = a.vars;
  spare = spare;
  references = a.references ++ c ∷ [];
  clauses = a.clauses ++ ls ∷ [];
  cursors = a.cursors ++ 0 ∷ [];
  chains = chains_with_clause c ls a.chains;
}

-- Returns the arena after clause `c` watches literal `t` in place of `f`.
abbrev pub with_watch_moved : ArenaContent → ℕ → Literal → Literal → ArenaContent
with_watch_moved a c f t = record a { chains = chains_with_first t c (chains_after_removal_from f c a.chains) }

-- Returns the second list with `x` at the position of reference `c` in the first.
abbrev pub set_for_reference : ℕ → List ℕ → List ℕ → ℕ → List ℕ
set_for_reference c [] xs x = xs
set_for_reference c (r ∷ rs) [] x = []
set_for_reference c (r ∷ rs) (y ∷ ys) x = if r == c then x ∷ ys else y ∷ set_for_reference c rs ys x
