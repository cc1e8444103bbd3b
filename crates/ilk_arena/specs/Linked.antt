-- Used only in proofs: the words `ws` and the heads of chains `hs` of an arena, and its lists.
use Rattle.std.specs.Prelude.{ℕ, zero, suc, ◌+◌, ◌*◌, ◌/◌, ◌%◌, ◌<◌, ◌≤◌, ◌≡◌, ◌≢◌, true, ◌==◌, List, [], ◌∷◌, cond, nat_lt, slice_index, length, take, drop, map, Some}
use Rattle.std.specs.List.{slice_get, range_with_len}
use Rattle.ilk_cnf.specs.Literal.{Literal, has_distinct_vars}
use Rattle.ilk_arena.specs.Arena.{ArenaContent}
use Rattle.ilk_arena.specs.declared.place.TheConstants.{WORD_VALUE_LIMIT}
use Rattle.ilk_arena.specs.Words.{chain, IsItemOfList, HasWatch, ChainsAreWatchPaths}

abbrev pub lit_with_place_number : ℕ → Literal
lit_with_place_number p = record { var = p / 2; positive = p % 2 == 1 }

-- Returns the places of the literals of clause `c`.
unfoldable pub literal_places_at : List ℕ → ℕ → List ℕ
literal_places_at ws c = take (slice_index ws c) (drop (c + 7) ws)

abbrev pub literals_at : List ℕ → ℕ → List Literal
literals_at ws c = map lit_with_place_number (literal_places_at ws c)

abbrev pub clause_cursor_at : List ℕ → ℕ → ℕ
clause_cursor_at ws c = slice_index ws (c + 6)

-- Returns the references in the chain of place `l`, from its head on.
abbrev pub chain_for_lit_place : List ℕ → List ℕ → ℕ → List ℕ
chain_for_lit_place ws hs l = chain ws l (length ws) (slice_index hs l)

-- Returns the references of at most `n` clauses in the block, from word `k` on.
abbrev pub references_in_block_from : List ℕ → ℕ → ℕ → List ℕ
references_in_block_from ws zero k = []
references_in_block_from ws (suc n) k = cond (nat_lt k (length ws)) (k ∷ references_in_block_from ws n (k + 7 + slice_index ws k)) []

abbrev pub references_in_block : List ℕ → List ℕ
references_in_block ws = references_in_block_from ws (length ws) 1

-- Returns the arena that the block, the heads and the references store.
unfoldable pub lists_of : ℕ → ℕ → List ℕ → List ℕ → List ℕ → ArenaContent
lists_of vars spare ws hs refs = record {
  vars = vars;
  spare = spare;
  references = refs;
  clauses = map (literals_at ws) refs;
  cursors = map (clause_cursor_at ws) refs;
  chains = map (chain_for_lit_place ws hs) (range_with_len 0 (length hs));
}

-- Holds if the clauses `cs` fill the block from word `k` to its end, without gaps.
abbrev pub IsGaplessFrom : List ℕ → ℕ → List ℕ → Type 0
IsGaplessFrom ws k [] = k ≡ length ws
IsGaplessFrom ws k (c ∷ cs) = (k ≡ c) × (c + 7 + slice_index ws c ≤ length ws) × IsGaplessFrom ws (c + 7 + slice_index ws c) cs

-- Holds if the links in the headers of clauses `refs` form the chains of their watches. Only
-- clauses of two or more literals have watches. No literal has place 0 or 1.
pub record HasWatchChains (ws hs refs : List ℕ) : Type 0 where
  pub started : 0 < length ws
  pub wide : 2 ≤ length hs
  pub positive : (c : ℕ) → IsItemOfList refs c → 0 < c
  pub whole : (c : ℕ) → IsItemOfList refs c → c + 7 + slice_index ws c ≤ length ws
  pub clear : (c d : ℕ) → IsItemOfList refs c → IsItemOfList refs d → c < d → c + 7 + slice_index ws c ≤ d
  pub differ : (c : ℕ) → IsItemOfList refs c → slice_index ws (c + 1) ≢ slice_index ws (c + 3)
  pub least : (c p : ℕ) → IsItemOfList refs c → IsItemOfList (literal_places_at ws c) p → 2 ≤ p
  pub small : (c p : ℕ) → IsItemOfList refs c → IsItemOfList (literal_places_at ws c) p → p < length hs
  pub left_own : (c : ℕ) → IsItemOfList refs c → 2 ≤ slice_index ws c → IsItemOfList (literal_places_at ws c) (slice_index ws (c + 1))
  pub right_own : (c : ℕ) → IsItemOfList refs c → 2 ≤ slice_index ws c → IsItemOfList (literal_places_at ws c) (slice_index ws (c + 3))
  pub left_none : (c : ℕ) → IsItemOfList refs c → slice_index ws c < 2 → slice_index ws (c + 1) < 2
  pub right_none : (c : ℕ) → IsItemOfList refs c → slice_index ws c < 2 → slice_index ws (c + 3) < 2
  pub chains : ChainsAreWatchPaths ws hs (IsItemOfList refs) (chain_for_lit_place ws hs)
  pub empty : (l : ℕ) → l < 2 → chain_for_lit_place ws hs l ≡ []
  pub standing : (c l : ℕ) → IsItemOfList refs c → 2 ≤ l → l < length hs → HasWatch ws c l → IsItemOfList (chain_for_lit_place ws hs l) c

-- Holds if the clauses `refs` fill the block in order. Each has its number, a valid cursor, and
-- literals over different variables.
pub record HasClausesInOrder (ws refs : List ℕ) : Type 0 where
  pub blocks : IsGaplessFrom ws 1 refs
  pub number : (i c : ℕ) → slice_get refs i ≡ Some c → slice_index ws (c + 5) ≡ i + 1
  pub cursor : (c : ℕ) → IsItemOfList refs c → slice_index ws (c + 6) ≤ slice_index ws c
  pub apart : (c : ℕ) → IsItemOfList refs c → has_distinct_vars (literals_at ws c) ≡ true

-- Holds if the block and the heads store `count` clauses over `vars` variables, and each place and
-- reference fits a word.
pub record IsArenaInvariant (ws hs : List ℕ) (vars count : ℕ) : Type 0 where
  pub few : 2 * vars + 2 ≤ WORD_VALUE_LIMIT
  pub addressed : length ws ≤ WORD_VALUE_LIMIT
  pub heads : length hs ≡ 2 * vars + 2
  pub counted : count ≡ length (references_in_block ws)
  pub linked : HasWatchChains ws hs (references_in_block ws)
  pub laid : HasClausesInOrder ws (references_in_block ws)
