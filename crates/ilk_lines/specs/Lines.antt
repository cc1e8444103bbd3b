-- The lines of a text, each ended by a line feed.
use Rattle.std.specs.Prelude.{ℕ, List, [], ◌∷◌, ◌==◌}
use Rattle.std.specs.List.{slice_split}

-- The bytes of a text, a line or a word.
abbrev pub Bytes : Type 0
Bytes = List ℕ

-- Returns the parts of a text before, between and after its bytes `c`.
abbrev pub parts_at : ℕ → Bytes → List Bytes
parts_at c text = slice_split (λ b. b == c) text

-- Returns all of these parts except the last.
abbrev pub parts_but_last : List Bytes → List Bytes
parts_but_last [] = []
parts_but_last (part ∷ []) = []
parts_but_last (part ∷ next ∷ more) = part ∷ parts_but_last (next ∷ more)

-- Returns the last of these parts, or no bytes if there is none.
abbrev pub last_part_or_empty : List Bytes → Bytes
last_part_or_empty [] = []
last_part_or_empty (part ∷ []) = part
last_part_or_empty (part ∷ next ∷ more) = last_part_or_empty (next ∷ more)

-- Returns the lines of a text, each without the line feed that ends it.
abbrev pub lines_of : Bytes → List Bytes
lines_of text = parts_but_last (parts_at 10 text)

-- Returns the bytes after the last line feed, which aren't a line.
abbrev pub unterminated_tail : Bytes → Bytes
unterminated_tail text = last_part_or_empty (parts_at 10 text)
