-- Used only in private contracts and proofs: items of a text, read word by word.
use Rattle.std.specs.Prelude.{ℕ, ◌<◌, ◌≡◌, Bool, true, false, List, [], ◌∷◌, ◌++◌, Option, Some, None, length}
use Rattle.ilk_cnf.specs.Literal.{Literal, negated_lit, has_lit}
use Rattle.ilk_cnf.specs.Formula.{is_tautology}
use Rattle.ilk_lines.specs.Lines.{Bytes}
use Rattle.ilk_rup.specs.RefutationText.{clause_added_by_item, split_words_into_items, literals_of}
use Rattle.ilk_rup.specs.Needs.{IsClauseOfExactlyLiterals}
use Rattle.ilk_rup.specs.declared.item.ItemKind.{ItemKind}
use Rattle.ilk_rup.specs.declared.item.ItemKind.TheVariants.{End, Malformed, Idle, Adds}

-- Holds if `new` is the set `old` with literal `l` at its end, or `old` itself if it has `l` or its
-- opposite. `both` says whether it has the opposite.
pub data IsAddedUnlessVarPresent (l : Literal) (old new : List Literal) (both : Bool) : Type 0 where
  there : new ≡ old → has_lit l old ≡ true → both ≡ false → IsAddedUnlessVarPresent l old new both
  clash : new ≡ old → has_lit (negated_lit l) old ≡ true → both ≡ true → IsAddedUnlessVarPresent l old new both
  more : new ≡ old ++ l ∷ [] → has_lit (negated_lit l) old ≡ false → both ≡ false → IsAddedUnlessVarPresent l old new both

-- Holds if `both` says whether `ls` has both literals of some variable. If not, `set` has exactly
-- the literals of `ls`.
pub record IsSetUnlessTautology (ls set : List Literal) (both : Bool) : Type 0 where
  pub clash : is_tautology ls ≡ both
  pub fewer : both ≡ false → (m : Literal) → has_lit m set ≡ true → has_lit m ls ≡ true
  pub members : both ≡ false → (m : Literal) → has_lit m ls ≡ true → has_lit m set ≡ true

-- Returns the kind of an item without the word `d`: `Malformed` if its literals can't be read
-- (`None`), `Idle` if some variable has both its literals, otherwise `Adds`.
abbrev pub item_kind_of_addition : Option Bool → ItemKind
item_kind_of_addition None = Malformed
item_kind_of_addition (Some true) = Idle
item_kind_of_addition (Some false) = Adds

-- Returns the kind of an item with the word `d`: `Malformed` if its literals can't be read
-- (`None`), otherwise `Idle`.
abbrev pub item_kind_of_deletion : Option Bool → ItemKind
item_kind_of_deletion None = Malformed
item_kind_of_deletion (Some both) = Idle

-- Holds if the literals of the first item of `words` were read into `set`, and `left` are the words
-- after the item. For `None`, holds if the item isn't a list of literals ended by `0`.
abbrev pub AreItemLiteralsRead : ℕ → List Bytes → List Literal → List Bytes → Option Bool → Type 0
AreItemLiteralsRead n words set left None = (item : List Bytes) × (items : List (List Bytes)) × (split_words_into_items words ≡ item ∷ items) × (literals_of n item ≡ None)
AreItemLiteralsRead n words set left (Some both) = (item : List Bytes) × (ls : List Literal) × (split_words_into_items words ≡ item ∷ split_words_into_items left) × (literals_of n item ≡ Some ls) × IsSetUnlessTautology ls set both
    × (length left < length words)

-- Holds if the kind is that of the first item of `words`, or `End` if there is none. `set` then has
-- the literals of the clause that the item adds, if any, and `left` are the words after the item,
-- unless it is malformed.
abbrev pub IsItemRead : ℕ → List Bytes → List Literal → List Bytes → ItemKind → Type 0
IsItemRead n words set left End = words ≡ []
IsItemRead n words set left Malformed = (item : List Bytes) × (items : List (List Bytes)) × (split_words_into_items words ≡ item ∷ items) × (clause_added_by_item n item ≡ None)
IsItemRead n words set left Idle = (item : List Bytes) × (split_words_into_items words ≡ item ∷ split_words_into_items left) × (clause_added_by_item n item ≡ Some []) × (length left < length words)
IsItemRead n words set left Adds = (item : List Bytes) × (c : List Literal) × (split_words_into_items words ≡ item ∷ split_words_into_items left) × (clause_added_by_item n item ≡ Some (c ∷ [])) × IsClauseOfExactlyLiterals n set c
    × (length left < length words)
