-- Used only in private contracts and proofs: visits of clauses in the chain of a false literal, and
-- walks along such chains.
use Rattle.std.specs.List.{last_or}
use Rattle.std.specs.Prelude.{ℕ, ◌≡◌, ◌≢◌, ◌<◌, ◌≤◌, ◌-◌, ◌⊎◌, ◌&&◌, ◌==◌, [], ◌∷◌, ◌++◌, Bool, true, false, if◌then◌else◌, List, Option, None, Some, IsSomeAnd, IsTrue, length, not, slice_get}
use Rattle.ilk_cnf.specs.Literal.{Literal, has_lit, negated_lit, same_lit}
use Rattle.ilk_cnf.specs.Formula.{is_lit_over}
use Rattle.ilk_log.specs.Propagation.{is_false, is_falsified}
use Rattle.ilk_log.specs.Fresh.{other_lits}
use Rattle.ilk_trail.specs.declared.entry.Entry.{Entry}
use Rattle.ilk_trail.specs.Laws.{lits_of}
use Rattle.ilk_arena.specs.Arena.{ArenaContent, chain_of, first_of, literals_of, number_of_clause, with_watch_moved, contains_reference}
use Rattle.ilk_watches.specs.Reasons.{is_conflict}
use Rattle.ilk_watches.specs.Watched.{is_true_by_level}
use Rattle.ilk_watches.specs.declared.visit.Visited.{Visited}
use Rattle.ilk_watches.specs.declared.visit.Visited.TheVariants.{Stays, Moves, Broken}

-- Returns whether a clause that watches `other` may also watch `l`: it is another literal, and
-- isn't false.
abbrev pub may_watch : List Literal → Literal → Literal → Bool
may_watch set other l = not (same_lit other l) && not (is_false set l)

-- Holds if literal `i` of `ls` exists and may be watched besides `other`.
abbrev pub MayWatchAt : List Literal → Literal → List Literal → ℕ → Type 0
MayWatchAt set other ls i = IsSomeAnd (slice_get ls i) (λ l. IsTrue (may_watch set other l))

-- Holds if no literal of `ls` from index `from` on and before `to` may be watched besides `other`.
abbrev pub NoneMayWatch : List Literal → Literal → List Literal → ℕ → ℕ → Type 0
NoneMayWatch set other ls from to = (i : ℕ) (l : Literal) → from ≤ i → i < to → slice_get ls i ≡ Some l → may_watch set other l ≡ false

-- Holds if the result of replacing watch `f` of clause `c` is right. After `true`, the watch has
-- moved to a literal that isn't false. After `false`, all literals of `c` but `other` are false.
abbrev pub IsReplacementResult : ArenaContent → List Literal → ArenaContent → ℕ → Literal → Literal → Bool → Type 0
IsReplacementResult a set b c f other true = (t : Literal) × (is_false set t ≡ false) × (b.chains ≡ (with_watch_moved a c f t).chains)
IsReplacementResult a set b c f other false = (b.chains ≡ a.chains) × IsTrue (is_falsified set (other_lits other (literals_of a c)))

-- Holds if each watch of clause `c` besides `f` is true.
abbrev pub IsOtherWatchTrue : ArenaContent → List Entry → ℕ → Literal → Type 0
IsOtherWatchTrue a es c f = (l : Literal) → IsTrue (contains_reference c (chain_of a l)) → l ≢ f → IsTrue (has_lit l (lits_of es))

-- Holds if `b` and `fs` are the arena and the trail after a visit of clause `c` with the false
-- watch `f`. The other watch is true (`Stays`), the watch has moved to a literal that isn't false
-- (`Moves`), or the clause is false (`Broken`).
abbrev pub IsVisitResult : ArenaContent → List Entry → ArenaContent → List Entry → ℕ → Literal → Visited → Type 0
IsVisitResult a es b fs c f Stays = (b.chains ≡ a.chains) × IsOtherWatchTrue a fs c f
IsVisitResult a es b fs c f Moves = (t : Literal) × (is_false (lits_of es) t ≡ false) × (b.chains ≡ (with_watch_moved a c f t).chains)
IsVisitResult a es b fs c f Broken = (b.chains ≡ a.chains) × IsTrue (is_conflict a.clauses (lits_of fs) (number_of_clause a c - 1))

-- Holds if entry `n` makes `f` false, a literal over the variables 1 to `vars`.
pub record EntryMakesLitFalse (vars : ℕ) (es : List Entry) (n : ℕ) (f : Literal) : Type 0 where
  pub entry : Entry
  pub stands : slice_get es n ≡ Some entry
  pub is : negated_lit entry.lit ≡ f
  pub within : IsTrue (is_lit_over vars f)
  pub denied : IsTrue (is_false (lits_of es) f)
  pub below : n < length es

-- Holds if the chain of `f` is `passed`, then `rest`, and the other watch of each passed clause is
-- true.
pub record OtherWatchesTrueInPassed (a : ArenaContent) (es : List Entry) (f : Literal) (passed rest : List ℕ) : Type 0 where
  pub split : chain_of a f ≡ passed ++ rest
  pub done : (c : ℕ) → IsTrue (contains_reference c passed) → IsOtherWatchTrue a es c f

-- Holds for a walk along the chain of `f`, after clause `before` and at clause `next`. The other
-- watch of each passed clause is true.
pub record OtherWatchesTrueBefore (a : ArenaContent) (es : List Entry) (f : Literal) (before next : Option ℕ) : Type 0 where
  pub passed : List ℕ
  pub rest : List ℕ
  pub before_is : before ≡ last_or None passed
  pub next_is : next ≡ first_of rest
  pub is : OtherWatchesTrueInPassed a es f passed rest

-- Holds if one clause has moved from the chain of `f` to that of a literal that isn't false.
pub record ClauseMovedToNonfalseChain (a : ArenaContent) (es : List Entry) (b : ArenaContent) (f : Literal) : Type 0 where
  pub clause : ℕ
  pub to : Literal
  pub stood : IsTrue (contains_reference clause (chain_of a f))
  pub open_one : is_false (lits_of es) to ≡ false
  pub chains : b.chains ≡ (with_watch_moved a clause f to).chains

-- Holds if the chains are unchanged, or one clause has moved from that of `f` to that of a literal
-- that isn't false.
abbrev pub AtMostOneLeftChain : ArenaContent → List Entry → ArenaContent → Literal → Type 0
AtMostOneLeftChain a es b f = (b.chains ≡ a.chains) ⊎ ClauseMovedToNonfalseChain a es b f

-- Holds if each clause is covered (`IsCovered`) for those of the first `n` entries that make
-- neither `f` nor `g` false. The chains of both are being walked.
abbrev pub CoveredExceptInChains : ArenaContent → List Entry → ℕ → Literal → Literal → Type 0
CoveredExceptInChains a es n f g = (c : ℕ) → IsTrue (contains_reference c a.references) → (i : ℕ) (e : Entry) (l : Literal) →
    i < n → slice_get es i ≡ Some e → negated_lit e.lit ≢ f → negated_lit e.lit ≢ g →
    IsTrue (contains_reference c (chain_of a (negated_lit e.lit))) → IsTrue (contains_reference c (chain_of a l)) →
    l ≢ negated_lit e.lit → IsTrue (is_true_by_level es e.level l)

-- Returns the rest of a chain from clause `c` on.
abbrev pub rest_from_reference : ℕ → List ℕ → List ℕ
rest_from_reference c [] = []
rest_from_reference c (x ∷ xs) = if x == c then x ∷ xs else rest_from_reference c xs

abbrev pub rest_from : Option ℕ → List ℕ → List ℕ
rest_from None cs = []
rest_from (Some c) cs = rest_from_reference c cs

-- Returns the number of clauses in the chain of `f` from `next` on.
abbrev pub count_rest_of_chain : ArenaContent → Literal → Option ℕ → ℕ
count_rest_of_chain a f next = length (rest_from next (chain_of a f))
