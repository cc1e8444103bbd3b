-- The members of an object, and their kinds.
use Rattle.std.specs.Prelude.{ℕ, Bool, false, Option, Some, None, List, [], ◌∷◌, ◌==◌, option_map, unwrap_or}
use Rattle.serde_json.specs.Data.{Data, null, boolean, number, string, array, object, Items, no_items, item}
use Rattle.serde_json.specs.Events.{members_len}
use Rattle.serde_json.specs.Find.{get, as_array, as_number, as_object, as_str, as_u64}
use Rattle.ilk_plant.specs.Name.{Name}
use Rattle.ilk_base.specs.Option.{◌>>=◌}

-- Returns whether a value is an object of this many members. If this many are found, it has no
-- others.
abbrev pub has_member_count : ℕ → Data → Bool
has_member_count count d = unwrap_or (option_map (λ members. members_len members == count) (as_object d)) false

-- Returns the member `name` of an object, if it is a non-negative whole number. Otherwise returns
-- `None`.
abbrev pub member_as_u64 : Name → Data → Option ℕ
member_as_u64 name d = get name d >>= as_number >>= as_u64

-- Returns the member `name` of an object, if it is a text. Otherwise returns `None`.
abbrev pub member_as_text : Name → Data → Option Name
member_as_text name d = get name d >>= as_str

-- Returns a value that is a text or null as an optional text. Returns `None` for any other value.
abbrev pub as_optional_text : Data → Option (Option Name)
as_optional_text null = Some None
as_optional_text (boolean b) = None
as_optional_text (number n) = None
as_optional_text (string s) = Some (Some s)
as_optional_text (array ds) = None
as_optional_text (object ms) = None

-- Returns the member `name` of an object as an optional text, if it is a text or null. Otherwise
-- returns `None`.
abbrev pub member_as_text_or_null : Name → Data → Option (Option Name)
member_as_text_or_null name d = get name d >>= as_optional_text

-- Returns the items of the member `name` of an object, if it is an array. Otherwise returns `None`.
abbrev pub member_as_array : Name → Data → Option Items
member_as_array name d = get name d >>= as_array

-- Returns the items of an array as a list.
abbrev pub items_to_list : Items → List Data
items_to_list no_items = []
items_to_list (item d ds) = d ∷ items_to_list ds

-- Returns the items of an array, each converted by `kind`, if `kind` accepts all of them. Otherwise
-- returns `None`.
abbrev pub all_entries_as : {A : Type 0} → (Data → Option A) → Items → Option (List A)
all_entries_as kind no_items = Some []
all_entries_as kind (item d ds) = do
  first ← kind d
  rest ← all_entries_as kind ds
  Some (first ∷ rest)

-- Returns the member `name` of an object, if it is an array of texts. Otherwise returns `None`.
abbrev pub member_as_texts : Name → Data → Option (List Name)
member_as_texts name d = member_as_array name d >>= all_entries_as as_str
