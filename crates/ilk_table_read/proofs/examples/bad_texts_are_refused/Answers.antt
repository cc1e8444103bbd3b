use Rattle.std.proofs.Common.{ℕ, refl, codes}
use Rattle.serde_json.proofs.OnLiterals.{serde_json_on_literals}
use Rattle.serde_json.specs.Data.{Data, number, unsigned, array, object, no_items, no_members, member}
use Rattle.ilk_net_read.proofs.Values.{value_of-read, value_of-refused}
use Rattle.ilk_table_read.proofs.examples.bad_texts_are_refused.Goals as goal
use Rattle.ilk_base.proofs.Ascii.{ascii}

-- A document of this version without sections and routes.
bare : ℕ → Data
bare version = object (member (codes "routes") (array no_items) (member (codes "sections") (array no_items) (member (codes "version") (number (unsigned version)) no_members)))

pub returns-clause-text : goal.returns-clause-text
unfolding serde_json_on_literals
returns-clause-text c = rw (value_of-refused (codes "[") (λ utf8. refl)) refl

pub returns-clause-members : goal.returns-clause-members
unfolding serde_json_on_literals
returns-clause-members c = rw (value_of-read (codes "{}") (object no_members) (ascii (codes "{}") refl) refl) refl

pub returns-clause-version : goal.returns-clause-version
unfolding serde_json_on_literals bare
returns-clause-version c =
    let text = codes "{\"version\":3,\"sections\":[],\"routes\":[]}" in
    rw (value_of-read text (bare 3) (ascii text refl) refl) refl

pub returns-clause-sections : goal.returns-clause-sections
unfolding serde_json_on_literals bare
returns-clause-sections c =
    let text = codes "{\"version\":1,\"sections\":[],\"routes\":[]}" in
    rw (value_of-read text (bare 1) (ascii text refl) refl) refl
