-- The entries of an array in order, over a loop.
use Rattle.std.proofs.Common.{◌≡◌, ℕ, ◌+◌, ◌<◌, List, ◌∷◌, length, drop, get_or, ap}
use Rattle.serde_json.specs.View.{view, items_view}
use Rattle.serde_json.specs.declared.value.Value.{Value}
use Rattle.ilk_base.proofs.Lists.{drop_at}
use Rattle.ilk_net_read.specs.Member.{items_to_list}

pub entries-left : (vs : List Value) (i : ℕ) (v : Value) → i < length vs → v ≡ get_or vs i v → items_to_list (items_view (drop i vs)) ≡ view v ∷ items_to_list (items_view (drop (i + 1) vs))
entries-left vs i v below at = ap (λ (ws : List Value). items_to_list (items_view ws)) (drop_at vs i v below at)
