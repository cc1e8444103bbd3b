-- Used only in private contracts and proofs: chains through the headers of clauses.
--
-- All clauses are in one block of words. A clause begins with a header of seven words: its length;
-- the place and the link of its first watch; the same of its second watch; its number; its cursor.
-- The places of its literals follow. A link is the reference of the next clause in the watch's
-- chain, or 0 at its end.
use Rattle.std.specs.Prelude.{ℕ, zero, suc, ◌+◌, ◌-◌, ◌<◌, ◌≤◌, ◌≡◌, ◌≢◌, ◌⊎◌, List, [], ◌∷◌, ◌++◌, cond, eqb, slice_index, slice_set, length, Option, Some, None}

-- Returns the index of the link for place `l` in the header of clause `c`.
unfoldable pub link_index : List ℕ → ℕ → ℕ → ℕ
link_index ws l c = cond (eqb (slice_index ws (c + 1)) l) (c + 2) (c + 4)

-- Returns the block after clause `c` watches place `t` in place of `f`, with link `v`.
abbrev pub watch_moved : List ℕ → ℕ → ℕ → ℕ → ℕ → List ℕ
watch_moved ws f c t v = slice_set (slice_set ws (link_index ws f c - 1) t) (link_index ws f c) v

-- Returns the reference of the clause after `c` in the chain of place `l`, or 0 if there is none.
abbrev pub next_reference_in_chain : List ℕ → ℕ → ℕ → ℕ
next_reference_in_chain ws l c = slice_index ws (link_index ws l c)

-- Returns the place other than `f` that clause `c` watches.
abbrev pub other_watch_place : List ℕ → ℕ → ℕ → ℕ
other_watch_place ws f c = cond (eqb (slice_index ws (c + 1)) f) (slice_index ws (c + 3)) (slice_index ws (c + 1))

-- Returns the reference that link `k` is, or `None` if it is 0.
abbrev pub reference_unless_zero : ℕ → Option ℕ
reference_unless_zero k = cond (eqb k 0) None (Some k)

-- Returns the block after clause `c` leaves the chain of place `f`, in which it was first or
-- followed the given clause.
abbrev pub words_after_unlink : List ℕ → Option ℕ → ℕ → ℕ → List ℕ
words_after_unlink ws None f c = ws
words_after_unlink ws (Some b) f c = slice_set ws (link_index ws f b) (next_reference_in_chain ws f c)

-- Returns the heads after clause `c` leaves the chain of place `f`, in which it was first or
-- followed the given clause.
abbrev pub heads_after_unlink : List ℕ → List ℕ → Option ℕ → ℕ → ℕ → List ℕ
heads_after_unlink hs ws None f c = slice_set hs f (next_reference_in_chain ws f c)
heads_after_unlink hs ws (Some b) f c = hs

-- Holds if the links of place `l` from `k` on lead through exactly the clauses `cs`.
abbrev pub IsChainPath : List ℕ → ℕ → ℕ → List ℕ → Type 0
IsChainPath ws l k [] = k ≡ 0
IsChainPath ws l k (c ∷ cs) = (k ≡ c) × (0 < c) × IsChainPath ws l (next_reference_in_chain ws l c) cs

-- Returns the clauses to which the links of place `l` lead, from `k` on, at most `n`.
abbrev pub chain : List ℕ → ℕ → ℕ → ℕ → List ℕ
chain ws l zero k = []
chain ws l (suc n) k = cond (eqb k 0) [] (k ∷ chain ws l n (next_reference_in_chain ws l k))

-- Holds if each item of the list satisfies `P`.
abbrev pub AllSatisfy : (ℕ → Type 0) → List ℕ → Type 0
AllSatisfy P [] = Unit {0}
AllSatisfy P (c ∷ cs) = P c × AllSatisfy P cs

-- Holds if `c` is an item of the list.
abbrev pub IsItemOfList : List ℕ → ℕ → Type 0
IsItemOfList [] c = ⊥
IsItemOfList (x ∷ xs) c = (x ≡ c) ⊎ IsItemOfList xs c

-- Holds if no item occurs twice.
abbrev pub Distinct : List ℕ → Type 0
Distinct [] = Unit {0}
Distinct (c ∷ cs) = AllSatisfy (λ d. d ≢ c) cs × Distinct cs

-- Holds if `c` comes right after the given reference, or first if none is given.
abbrev pub FollowsOrHeadsChain : Option ℕ → ℕ → List ℕ → Type 0
FollowsOrHeadsChain None c cs = (post : List ℕ) × (cs ≡ c ∷ post)
FollowsOrHeadsChain (Some b) c cs = (pre : List ℕ) × ((post : List ℕ) × (cs ≡ pre ++ (b ∷ (c ∷ post))))

-- Holds if the header of clause `c` names place `l` as a watch.
pub data HasWatch (ws : List ℕ) (c l : ℕ) : Type 0 where
  left : slice_index ws (c + 1) ≡ l → HasWatch ws c l
  right : slice_index ws (c + 3) ≡ l → HasWatch ws c l

-- Holds if, for each place `l`, the links from its head lead through exactly the clauses `cs l`.
-- Each satisfies `R`, watches `l`, and occurs once.
pub record ChainsAreWatchPaths (ws hs : List ℕ) (R : ℕ → Type 0) (cs : ℕ → List ℕ) : Type 0 where
  pub path : (l : ℕ) → l < length hs → IsChainPath ws l (slice_index hs l) (cs l)
  pub held : (l : ℕ) → l < length hs → AllSatisfy (λ c. R c × HasWatch ws c l) (cs l)
  pub once : (l : ℕ) → l < length hs → Distinct (cs l)

-- Holds if the headers of the clauses that satisfy `R` are inside the block and don't overlap.
pub record AreHeadersInsideAndApart (ws : List ℕ) (R : ℕ → Type 0) : Type 0 where
  pub room : (c : ℕ) → R c → (0 < c) × (c + 7 ≤ length ws)
  pub apart : (c d : ℕ) → R c → R d → c ≢ d → (c + 7 ≤ d) ⊎ (d + 7 ≤ c)

-- Returns the chains `cs` after that of place `f` is replaced by `v`.
abbrev pub chains_with_one_replaced : (ℕ → List ℕ) → ℕ → List ℕ → ℕ → List ℕ
chains_with_one_replaced cs f v l = cond (eqb l f) v (cs l)
