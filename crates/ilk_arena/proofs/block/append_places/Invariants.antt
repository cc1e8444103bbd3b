use Rattle.std.proofs.Common.{◌≡◌, ◌≤◌, ◌++◌, map, take, vec_capacity}
use Rattle.ilk_arena.specs.Arena.{place}
use Rattle.ilk_arena.proofs.block.append_places.Given as goal

abbrev pub invariant-loop-l : goal.invariant-loop-l
invariant-loop-l l = record {
  items : l.words.items ≡ l.initial.words.items ++ map place (take l.l-index l.clause);
  capacity : vec_capacity l.initial.words ≤ vec_capacity l.words;
}
