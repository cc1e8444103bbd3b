-- Lengths of lists.
use Rattle.std.proofs.Common.{List, length, ◌++◌, ◌≤◌, arith, length-append}

pub longer : {X : Type 0} (xs ys : List X) → length xs ≤ length (xs ++ ys)
longer xs ys = omega (arith, length-append xs ys)
