use Rattle.std.proofs.Common.{◌≡◌, ℕ, ◌<◌, true, false, List, Option, Some, length, slice_get, string_bytes, is_some, refl, sym, ◌∙◌}
use Rattle.std.proofs.lemmas.Map.Text.{hash_map_updates_text}
use Rattle.std.proofs.lemmas.Option.{slice_get_read}
use Rattle.indexmap.specs.IndexMap.{get_by_text}
use Rattle.ilk_plant.proofs.Positions.{after-known, after-new}
use Rattle.ilk_plant.proofs.names.first_numbers.Goals as goal
use Rattle.ilk_plant.proofs.names.first_numbers.Goals.{then-not-is_known+in_ok-from_str+in_ok-insert, else-not-is_known}

pub loop-i-preserved : goal.loop-i-preserved
loop-i-preserved c =
    let names = c.as_slice-name-items.result.now in
    let i = c.loop-i.i in
    let name = c.name-item.result in
    let lt : i < length names = c.loop-i-test.true in
    let at : slice_get names i ≡ Some name = slice_get_read names (length names) i name refl lt c.name-item.is in
    let get : List ℕ → Option ℕ = λ (q : List ℕ). get_by_text c.loop-i.numbers q in
    let known : c.contains_key-is_known.result ≡ is_some (get name) =
    rw c.as_str.ensures at c.contains_key-is_known.ensures in
    elim c.if-not-is_known.branch [
      | then-not-is_known+in_ok-from_str+in_ok-insert w ↦
          let key = w.in_ok-from_str.field-0 in
          let same : string_bytes key ≡ name = w.in_ok-from_str.ensures.ok ∙ w.as_str-then-not-is_known.ensures in
          let put = hash_map_updates_text (string_bytes key) c.loop-i.numbers w.insert.new.self (Some i) w.in_ok-insert.ensures.updates in
          let new : is_some (get name) ≡ false = cc (known, w.if-not-is_known.true) in
          let next : List ℕ → Option ℕ = λ q. get_by_text c.if-not-is_known.numbers q in
          after-new names i name lt at get c.loop-i.invariant new next (λ q. rw (w.numbers-is, ← same) (put q))
      | else-not-is_known w ↦
          let old : is_some (get name) ≡ true = sym known ∙ w.if-not-is_known.false in
          rw w.numbers-is (after-known names i name lt at get c.loop-i.invariant old)
    ]
