use Rattle.std.specs.Prelude.{ℕ, List, set}
use Rattle.std.specs.Borrow.{Lends, MutBor, Fml, RattleType}
use Rattle.ilk_base.specs.contracts.row.Row.{the_row}

-- Holds if `r` borrows item `i` of the row `s` for writing. When the borrow ends, the last value
-- written through `r` replaces that item; all others are unchanged.
abbrev pub BorrowWritesToItem : (T : RattleType) → MutBor (List T.Denot) → ℕ → MutBor T.Denot → Fml
BorrowWritesToItem T s i r = Lends (the_row T) T s r (set s.now i)
